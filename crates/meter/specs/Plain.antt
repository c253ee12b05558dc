-- Document 02, Req 03: the plain machine, "a list of accepted reports, empty at the start", here with the last accepted first. It keeps
-- every report, and minutes have no end: nothing wraps.
use Rattle.std.specs.Prelude.{ℕ, ◌+◌, ◌-◌, max, Bool, false, cond, not, ◌&&◌, List, [], ◌∷◌, leb, ltb, eqb, Option, None, Some}
use Rattle.spec.specs.declared.Rate.{Rate}
use Rattle.spec.specs.declared.Spec.{Spec}
use Rattle.spec.specs.Limits.{size_allowed}

-- a report, or the offer of one
pub record Report : Type 0 where
  pub minute : ℕ
  pub size : ℕ

-- what the reports at the minutes that are picked count for together: their records, or as many as they are
unfoldable pub counted_at : (Report → ℕ) → (ℕ → Bool) → List Report → ℕ
counted_at worth picked [] = 0
counted_at worth picked (x ∷ l) = cond (picked x.minute) (worth x) 0 + counted_at worth picked l

abbrev pub records_at : (ℕ → Bool) → List Report → ℕ
records_at = counted_at (λ x. x.size)

abbrev pub reports_at : (ℕ → Bool) → List Report → ℕ
reports_at = counted_at (λ x. 1)

-- "the R minutes ending with this one": those above t - R and up to t, from 0 on where t < R
abbrev pub ending_with : ℕ → ℕ → ℕ → Bool
ending_with r t u = ltb t (u + r) && leb u t

-- "if the list isn't empty and the offer comes before the last accepted minute plus smin"; of a second range (Req 06) nothing is kept: "The
-- meter keeps the first range's smin."
unfoldable pub too_early : Spec → List Report → ℕ → Bool
too_early spec [] t = false
too_early spec (x ∷ l) t = ltb t (x.minute + spec.smin)

-- "if the accepted records of the R minutes ending with this one, plus the size, exceed B"; with no supply rate, never
unfoldable pub over_budget : Option Rate → List Report → Report → Bool
over_budget None l x = false
over_budget (Some rate) l x = ltb rate.records (records_at (ending_with rate.minutes x.minute) l + x.size)

-- "if 1,024 accepted reports already lie in those R minutes"; with no supply rate, never
unfoldable pub no_place : Option Rate → List Report → Report → Bool
no_place None l x = false
no_place (Some rate) l x = leb 1_024 (reports_at (ending_with rate.minutes x.minute) l)

-- "turned down with 13 .., with 14 .., with 15 .., with 22 ..": the first that applies, or 0
abbrev pub first_of : Bool → Bool → Bool → Bool → ℕ
first_of early outside over full = cond early 13 (cond outside 14 (cond over 15 (cond full 22 0)))

unfoldable pub offer_number : Spec → List Report → Report → ℕ
offer_number spec l x =
    first_of
    (too_early spec l x.minute)
    (not (size_allowed spec x.size))
    (over_budget spec.supply l x)
    (no_place spec.supply l x)

-- "Otherwise it is appended."
unfoldable pub after : Spec → List Report → Report → List Report
after spec l x = cond (eqb (offer_number spec l x) 0) (x ∷ l) l

-- "the later of the offered and the last accepted minute (the offered one while nothing has been accepted)"
unfoldable pub later : List Report → ℕ → ℕ
later [] t = t
later (x ∷ l) t = max t x.minute

-- "B less the accepted records of the R minutes that end with" that minute, which are never more than B (`meter_budget` of the demands'
-- page). With no supply rate there is "no budget left to tell".
unfoldable pub budget_left : Option Rate → List Report → ℕ → Option ℕ
budget_left None l t = None
budget_left (Some rate) l t = Some (rate.records - records_at (ending_with rate.minutes (later l t)) l)

-- what an offer gets: 0 or the number of the refusal, and "after each offer the budget left", where there is one to tell
pub record OfferAnswer : Type 0 where
  pub number : ℕ
  pub left : Option ℕ

unfoldable pub offer_answer : Spec → List Report → Report → OfferAnswer
offer_answer spec l x = record { number = offer_number spec l x; left = budget_left spec.supply (after spec l x) x.minute }

-- the answers to a list of offers, one by one
unfoldable pub plain_answers : Spec → List Report → List Report → List OfferAnswer
plain_answers spec l [] = []
plain_answers spec l (x ∷ xs) = offer_answer spec l x ∷ plain_answers spec (after spec l x) xs

-- of offers with their answers, those that got 0, put before a list
unfoldable pub accepted_onto : List Report → List Report → List OfferAnswer → List Report
accepted_onto l [] answers = l
accepted_onto l (x ∷ xs) [] = l
accepted_onto l (x ∷ xs) (a ∷ answers) = accepted_onto (cond (eqb a.number 0) (x ∷ l) l) xs answers
