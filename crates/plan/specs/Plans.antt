-- Document 01, "Schedules from document 000": plans, when a plan is proper, and the sizes and gaps of both kinds (the even kind's sizes:
-- document 02, Req 02); "Cycles", third paragraph: the endless run of a plan.
use Rattle.std.specs.Prelude.{ℕ, ◌+◌, ◌-◌, ◌*◌, ◌/◌, ◌%◌, Bool, true, cond, ◌&&◌, List, ◌∷◌, leb, ltb, eqb, Result, Ok, Err}
use Rattle.numbers.specs.Numbers.{ceil}
use Rattle.schedule.specs.Schedules.{Schedule}
use Rattle.plan.specs.declared.Kind.{Kind}
use Rattle.plan.specs.declared.Kind.TheVariants.{WellFormed, Even}
use Rattle.plan.specs.declared.Plan.{Plan}

-- the kind as a number, as the C interface has it
abbrev pub kind_number : Kind → ℕ
kind_number WellFormed = 0
kind_number Even = 1

-- the kind that a number names: 0 the well-formed kind, 1 the even kind; no other number names one, and of no kind is there a proper plan
abbrev pub kind_named : ℕ → Result Kind ℕ
kind_named n = cond (eqb n 0) (Ok WellFormed) (cond (eqb n 1) (Ok Even) (Err 11))

-- "A plan is a kind, k reports in a period, the period's length π in minutes and its total δ in records": those numbers, before others
abbrev pub plan_numbers : Plan → List ℕ → List ℕ
plan_numbers p others = kind_number p.kind ∷ p.count ∷ p.period ∷ p.total ∷ others

-- "and for the even kind k divides π"
abbrev pub kind_fits : Kind → ℕ → ℕ → Bool
kind_fits WellFormed k π = true
kind_fits Even k π = eqb (π % k) 0

-- "It is proper when 1 ≤ k ≤ 20,160, k ≤ π ≤ 20,160 × k and k ≤ δ ≤ 1,000 × k, and for the even kind k divides π."
unfoldable pub proper : Plan → Bool
proper p =
    leb 1 p.count
    && leb p.count 20_160
    && leb p.count p.period
    && leb p.period (20_160 * p.count)
    && leb p.count p.total
    && leb p.total (1_000 * p.count)
    && kind_fits p.kind p.count p.period

-- Well-formed kind: "The first δ mod k sizes in a period are ⌊δ/k⌋ + 1, the rest ⌊δ/k⌋."
unfoldable pub well_size : ℕ → ℕ → ℕ → ℕ
well_size k δ i = δ / k + cond (ltb (i % k) (δ % k)) 1 0

-- "The last π mod k gaps are ⌊π/k⌋ + 1, those before ⌊π/k⌋."
unfoldable pub well_gap : ℕ → ℕ → ℕ → ℕ
well_gap k π i = π / k + cond (leb (k - π % k) (i % k)) 1 0

-- Even kind: "In even plans the size of report i becomes ⌈(i + 1) × δ/k⌉ − ⌈i × δ/k⌉." (document 02, Req 02), what the first i + 1 reports
-- hold less what the first i hold
unfoldable pub even_first : ℕ → ℕ → ℕ → ℕ
even_first k δ n = ceil (n * δ) k

unfoldable pub even_size : ℕ → ℕ → ℕ → ℕ
even_size k δ i = even_first k δ (i + 1) - even_first k δ i

-- for the even kind "Every gap is π/k."
unfoldable pub kind_run : Kind → ℕ → ℕ → ℕ → Schedule
kind_run WellFormed k π δ = record { size = well_size k δ; gap = well_gap k π }
kind_run Even k π δ = record { size = even_size k δ; gap = λ i. π / k }

-- "That of a plan has, for every i without upper end, report i of the size that its kind gives, at the sum of the first i gaps."
unfoldable pub run : Plan → Schedule
run p = kind_run p.kind p.count p.period p.total

-- a plan by its numbers
abbrev pub plan_of : Kind → ℕ → ℕ → ℕ → Plan
plan_of kind k π δ = record { kind = kind; count = k; period = π; total = δ }
