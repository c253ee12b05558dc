-- Document 02, Req 03: "The meter holds 1,024 reports; those R minutes old or older make place for others. With no supply rate it holds
-- only the last". The meter's step, for every content of the struct. In the ring of 1,024 places, report i that is held stands i places
-- after the first. An offer looks for those of the oldest that are out of the window; an acceptance lets them go and puts the report behind
-- the last. A refusal changes nothing.
use Rattle.std.specs.Prelude.{ℕ, zero, suc, ◌+◌, ◌-◌, ◌%◌, max, Bool, true, false, cond, not, List, [], ◌∷◌, leb, ltb, eqb, get_or, set, replicate, Option, None, Some, Result, Ok, Err}
use Rattle.spec.specs.declared.Rate.{Rate}
use Rattle.spec.specs.declared.Spec.{Spec}
use Rattle.spec.specs.Refusals.{answer_number}
use Rattle.spec.specs.File.{if_read}
use Rattle.spec.specs.Limits.{between}
use Rattle.schedule.specs.Schedules.{sum}
use Rattle.meter.specs.declared.Answer.{Answer}
use Rattle.meter.specs.declared.Meter.{Meter}
use Rattle.meter.specs.declared.Stepped.{Stepped}
use Rattle.meter.specs.Plain.{Report, OfferAnswer, first_of}

-- a meter that holds nothing
abbrev pub holds_nothing : ℕ → ℕ → ℕ → ℕ → ℕ → Meter
holds_nothing dmin dmax smin budget window = record {
  dmin = dmin;
  dmax = dmax;
  smin = smin;
  budget = budget;
  window = window;
  records = 0;
  first = 0;
  count = 0;
  last = 0;
  minutes = replicate 1024 0;
  sizes = replicate 1024 0;
}

-- the window's minutes and its budget: with no supply rate, 0 minutes and more than any report has
abbrev pub window_of : Option Rate → ℕ
window_of None = 0
window_of (Some rate) = rate.minutes

abbrev pub budget_of : Option Rate → ℕ
budget_of None = 20_000
budget_of (Some rate) = rate.records

abbrev pub fresh : Spec → Meter
fresh spec = holds_nothing spec.dmin spec.dmax spec.smin (budget_of spec.supply) (window_of spec.supply)

-- "Making a meter can give 3 or 4", or 24 (Req 06), and from a file 1 or 2
unfoldable pub made : Result Spec ℕ → Result Meter ℕ
made read = if_read read (λ spec. Ok (fresh spec)) Err

-- report i that is held, the oldest first
abbrev pub place_of : ℕ → ℕ → ℕ
place_of first i = (first + i) % 1024

unfoldable pub ring_report : List ℕ → List ℕ → ℕ → ℕ → Report
ring_report minutes sizes first i = record { minute = get_or minutes (place_of first i) 0; size = get_or sizes (place_of first i) 0 }

unfoldable pub held_report : Meter → ℕ → Report
held_report m i = ring_report m.minutes m.sizes m.first i

-- of n reports from number i on, those up to the first that is not w minutes old or older at minute t
unfoldable pub aged_from : (ℕ → Report) → ℕ → ℕ → ℕ → ℕ → ℕ
aged_from f w t zero i = 0
aged_from f w t (suc n) i = elim (leb ((f i).minute + w) t) [ true ↦ suc (aged_from f w t n (i + 1)) | false ↦ 0 ]

-- the later of the offered and the last accepted minute
abbrev pub later_of : ℕ → ℕ → ℕ → ℕ
later_of count last t = cond (eqb count 0) t (max t last)

-- how many of the oldest are out of the window that ends there, and the records of the others
unfoldable pub aged : Meter → ℕ → ℕ
aged m t = aged_from (held_report m) m.window (later_of m.count m.last t) m.count 0

unfoldable pub used : Meter → ℕ → ℕ
used m t = m.records - sum (λ i. (held_report m i).size) (aged m t)

-- whether an offer comes before the last accepted minute plus smin
abbrev pub early_of : ℕ → ℕ → ℕ → ℕ → Bool
early_of count last smin t = cond (eqb count 0) false (ltb t (last + smin))

-- the first of 13, 14, 15 and 22 that applies, or 0
unfoldable pub ring_number : Meter → ℕ → ℕ → ℕ
ring_number m t d =
    first_of
    (early_of m.count m.last m.smin t)
    (not (between m.dmin m.dmax d))
    (ltb m.budget (used m t + d))
    (leb 1024 (m.count - aged m t))

-- the budget less so many records, told where there is a window
unfoldable pub left_of : ℕ → ℕ → ℕ → Option ℕ
left_of window budget records = cond (eqb window 0) None (Some (budget - records))

-- the meter with a report more, and without those that are out of the window
unfoldable pub with_offer : Meter → ℕ → ℕ → Meter
with_offer m t d = record {
  dmin = m.dmin;
  dmax = m.dmax;
  smin = m.smin;
  budget = m.budget;
  window = m.window;
  records = used m t + d;
  first = place_of m.first (aged m t);
  count = m.count - aged m t + 1;
  last = t;
  minutes = set m.minutes (place_of m.first m.count) t;
  sizes = set m.sizes (place_of m.first m.count) d;
}

-- a meter after an offer, with the answer to it
pub record Step : Type 0 where
  pub meter : Meter
  pub answer : OfferAnswer

-- an offer of d records at minute t that is accepted, and one that is refused
unfoldable pub accepted_step : Meter → ℕ → ℕ → Step
accepted_step m t d = record { meter = with_offer m t d; answer = record { number = 0; left = left_of m.window m.budget (used m t + d) } }

unfoldable pub refused_step : Meter → ℕ → ℕ → Step
refused_step m t d = record { meter = m; answer = record { number = ring_number m t d; left = left_of m.window m.budget (used m t) } }

unfoldable pub stepped : Meter → ℕ → ℕ → Step
stepped m t d = cond (eqb (ring_number m t d) 0) (accepted_step m t d) (refused_step m t d)

-- the code's answer, and its meter after an offer, with the refusal's number in place of the name
abbrev pub numbered_answer : Answer → OfferAnswer
numbered_answer a = record { number = answer_number a.verdict; left = a.left }

abbrev pub numbered_step : Stepped → Step
numbered_step s = record { meter = s.meter; answer = numbered_answer s.answer }

-- what a lent place for the budget left holds afterwards: it is written only where there is one to tell
abbrev pub told_or : Option ℕ → ℕ → ℕ
told_or None former = former
told_or (Some n) former = n

-- the answers to a list of offers, one by one, and the meter after them
unfoldable pub meter_answers : Meter → List Report → List OfferAnswer
meter_answers m [] = []
meter_answers m (x ∷ xs) = (stepped m x.minute x.size).answer ∷ meter_answers (stepped m x.minute x.size).meter xs

unfoldable pub meter_after : Meter → List Report → Meter
meter_after m [] = m
meter_after m (x ∷ xs) = meter_after (stepped m x.minute x.size).meter xs
