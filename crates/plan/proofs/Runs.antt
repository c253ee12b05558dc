-- The endless run of a proper plan. The even kind has k dividing π, so it has no longer gap: the gaps of both kinds are those of the
-- well-formed one. Of both, sizes and gaps repeat after k reports, which take π minutes and hold δ records; and of both the sizes are
-- fullest, and the gaps shortest, at the start.
use Prim.Native.Nat.{ℕ, zero, suc, ◌+◌, ◌-◌, ◌*◌, ◌/◌, ◌%◌, ◌≤◌, ◌<◌}
use native.Mathlib.Omega.{arith}
use native.Mathlib.Nat.{add-zero, mod-lt, div-add-mod, mul_comm, mul-add, mul-one, mul-zero, zero-mul, suc-mul, le-mul_of_pos_right, le_trans, mul-le-mul_right}
use mathlib.Core.Path.{◌≡◌, refl, sym, ◌∙◌}
use mathlib.Core.Bool.{true}
use borrow.Author.Tests.{lt-leb, eqb-true}
use Rattle.numbers.specs.Numbers.{ceil}
use Rattle.schedule.specs.Schedules.{sum, minute, stretch}
use Rattle.schedule.proofs.Sums.{sum_none, sum_more, sum_same, sum_block, sum_add, sum_again, block, block_none, block_add, block_most}
use Rattle.schedule.proofs.Before.{reports_before, before_le, stretch_before, stretch_longer}
use Rattle.schedule.proofs.Repeats.{stretch_round, stretch_first, stretch_whole}
use Rattle.plan.specs.declared.Kind.{Kind}
use Rattle.plan.specs.declared.Kind.TheVariants.{WellFormed, Even}
use Rattle.plan.specs.declared.Plan.{Plan}
use Rattle.plan.specs.Plans.{proper, run, kind_run, kind_fits, well_gap}
use Rattle.plan.proofs.Proper.{ProperBounds, proper_bounds, proper_rest}
use Rattle.plan.proofs.WellFormed.{size_again, size_total, size_range, size_sub, gap_again, gap_total, gap_range, gap_super}
use Rattle.plan.proofs.EvenSizes.{even_again, even_round, even_sub, even_size_most, even_size_least, even_block_range}
use Rattle.plan.proofs.Extremes.{fullest_first, thinnest_last}

module _ (k π δ : ℕ) (pos : 0 < k) where
  kind_gap : (t : Kind) → kind_fits t k π ≡ true → (i : ℕ) → (kind_run t k π δ).gap i ≡ well_gap k π i
  unfolding kind_run well_gap
  kind_gap WellFormed e i = refl
  kind_gap Even e i =
      let z : π % k ≡ 0 = eqb-true _ _ e in
      rw (lt-leb (k - π % k) (i % k) (omega (arith, mod-lt i pos)), add-zero)

  kind_again : (t : Kind) (i : ℕ) → (kind_run t k π δ).size (i + k) ≡ (kind_run t k π δ).size i
  unfolding kind_run
  kind_again WellFormed i = size_again k pos δ i
  kind_again Even i = even_again k δ pos i

  kind_total : (t : Kind) → sum (kind_run t k π δ).size k ≡ δ
  unfolding kind_run
  kind_total WellFormed = size_total k pos δ
  kind_total Even = sum_block _ k ∙ even_round k δ pos 0

  kind_sub : (t : Kind) (j n : ℕ) → sum (kind_run t k π δ).size (j + n) ≤ sum (kind_run t k π δ).size j + sum (kind_run t k π δ).size n
  unfolding kind_run
  kind_sub WellFormed j n = size_sub k pos δ j n
  kind_sub Even j n = even_sub k δ pos j n

  kind_range : (t : Kind) (lo hi : ℕ) → k * lo ≤ δ → δ ≤ k * hi → (i : ℕ) → (lo ≤ (kind_run t k π δ).size i) × ((kind_run t k π δ).size i ≤ hi)
  unfolding kind_run
  kind_range WellFormed lo hi a b i = size_range k pos δ lo hi a b i
  kind_range Even lo hi a b i = (even_size_least k δ pos lo i a, even_size_most k δ pos hi i b)

module _ (p : Plan) (ok : proper p ≡ true) where
  abbrev k : ℕ
  k = p.count

  abbrev π : ℕ
  π = p.period

  abbrev δ : ℕ
  δ = p.total

  known : ProperBounds p
  known = proper_bounds p ok

  -- the gaps of both kinds are those of the well-formed one, and so are their sums
  pub run_gap : (i : ℕ) → (run p).gap i ≡ well_gap k π i
  unfolding run
  run_gap i = kind_gap k π δ known.some p.kind (sym (proper_rest p known) ∙ ok) i

  pub run_gaps : (n : ℕ) → sum (run p).gap n ≡ sum (well_gap k π) n
  run_gaps n = sum_same (run p).gap (well_gap k π) n (λ i h. run_gap i)

  pub run_later : (i : ℕ) → 1 ≤ (run p).gap i
  run_later i =
      rw (run_gap i) (gap_range k known.some π 1 π (omega (arith, known.long)) (rw mul_comm (le-mul_of_pos_right π known.some)) i).0

  pub run_gap_most : (i : ℕ) → (run p).gap i ≤ 20160
  run_gap_most i =
      rw (run_gap i) (gap_range k known.some π 0 20160 (rw mul-zero (omega arith)) (omega (arith, known.short, mul_comm k 20160)) i).1

  pub run_gap_again : (i : ℕ) → (run p).gap (i + k) ≡ (run p).gap i
  run_gap_again i = rw (run_gap (i + k), run_gap i) (gap_again k known.some π i)

  pub run_size_again : (i : ℕ) → (run p).size (i + k) ≡ (run p).size i
  unfolding run
  run_size_again i = kind_again k π δ known.some p.kind i

  -- a period's minutes and records
  pub run_period : minute (run p) k ≡ π
  unfolding minute
  run_period = run_gaps k ∙ gap_total k known.some π

  pub run_total : sum (run p).size k ≡ δ
  unfolding run
  run_total = kind_total k π δ known.some p.kind

  -- any k reports in a row hold δ
  pub row_total : (i : ℕ) → block (run p).size i k ≡ δ
  row_total i = omega (arith, sum_add (run p).size i k, sum_again (run p).size k run_size_again i, run_total)

  -- and any j × k hold j × δ
  pub rows_total : (j i : ℕ) → block (run p).size i (j * k) ≡ j * δ
  rows_total zero i = rw (zero-mul, zero-mul, block_none)
  rows_total (suc j) i = rw (suc-mul, suc-mul, block_add (run p).size i (j * k) k, rows_total j i, row_total (i + j * k))

  pub period_total : (a : ℕ) → stretch (run p) a π ≡ δ
  period_total a = rw (run_period, run_total) at (stretch_round (run p) run_later k run_size_again run_gap_again a)

  -- whole periods, and what is left
  pub stretch_periods : (a w : ℕ) → stretch (run p) a w ≡ w / π * δ + stretch (run p) a (w % π)
  stretch_periods a w = simp (run_period, run_total) at (stretch_whole (run p) run_later k run_size_again run_gap_again a w)

  -- every stretch is like one that starts in the first period
  pub stretch_start : (a w : ℕ) → stretch (run p) a w ≡ stretch (run p) (a % π) w
  stretch_start a w = rw run_period at (stretch_first (run p) run_later k run_size_again run_gap_again a w)

  -- a part of a period holds at most δ, and more than one at least δ
  pub held_within : (a w : ℕ) → w ≤ π → stretch (run p) a w ≤ δ
  held_within a w h = omega (arith, stretch_longer (run p) run_later a w π h, period_total a)

  pub held_beyond : (a w : ℕ) → π ≤ w → δ ≤ stretch (run p) a w
  held_beyond a w h = omega (arith, stretch_longer (run p) run_later a π w h, period_total a)

  -- n reports in a row of the even kind hold n × δ/k records, rounded down or up
  pub row_range : p.kind ≡ Even → (i n : ℕ) → (n * δ / k ≤ block (run p).size i n) × (block (run p).size i n ≤ ceil (n * δ) k)
  unfolding run kind_run
  row_range e i n = rw e (even_block_range k δ known.some i n)

  -- every size is ⌊δ/k⌋ or one more, and none is above 1,000 records
  run_size_range : (lo hi : ℕ) → k * lo ≤ δ → δ ≤ k * hi → (i : ℕ) → (lo ≤ (run p).size i) × ((run p).size i ≤ hi)
  unfolding run
  run_size_range = kind_range k π δ known.some p.kind

  pub two_sizes : (i : ℕ) → (δ / k ≤ (run p).size i) × ((run p).size i ≤ δ / k + 1)
  two_sizes =
      run_size_range (δ / k) (δ / k + 1) (omega (arith, div-add-mod δ k)) (rw (mul-add, mul-one) (omega (arith, div-add-mod δ k, mod-lt δ known.some)))

  pub run_size_most : (i : ℕ) → (run p).size i ≤ 1000
  run_size_most i = (run_size_range 0 1000 (rw mul-zero (omega arith)) (omega (arith, known.light, mul_comm k 1000)) i).1

  -- and no two reports are at one minute
  pub held_most : (x : ℕ) → stretch (run p) 0 x ≤ x * 1000
  held_most x =
      let n : reports_before (run p) (0 + x) - reports_before (run p) 0 ≤ x = omega (arith, before_le (run p) run_later (0 + x)) in
      rw (stretch_before (run p) run_later 0 x)
      (le_trans (block_most (run p).size 1000 run_size_most (reports_before (run p) 0) (reports_before (run p) (0 + x) - reports_before (run p) 0)) (mul-le-mul_right 1000 n))

  -- no row of reports holds more, or takes less time, than as many from the first on: the fullest stretches are the first, and the thinnest
  -- end with a period
  run_size_sub : (j n : ℕ) → sum (run p).size (j + n) ≤ sum (run p).size j + sum (run p).size n
  unfolding run
  run_size_sub j n = kind_sub k π δ known.some p.kind j n

  run_gap_super : (j n : ℕ) → sum (run p).gap j + sum (run p).gap n ≤ sum (run p).gap (j + n)
  run_gap_super j n = rw (run_gaps j, run_gaps n, run_gaps (j + n)) (gap_super k known.some π j n)

  pub report_0_fullest : (i : ℕ) → (run p).size i ≤ (run p).size 0
  report_0_fullest i =
      let first : sum (run p).size 1 ≡ sum (run p).size 0 + (run p).size 0 = sum_more (run p).size 0 in
      omega (arith, run_size_sub i 1, sum_more (run p).size i, sum_none (run p).size)

  pub front_fullest : (a w : ℕ) → stretch (run p) a w ≤ stretch (run p) 0 w
  front_fullest = fullest_first (run p) run_later run_size_sub run_gap_super

  pub back_thinnest : (w u : ℕ) → w ≤ u * π → (a : ℕ) → stretch (run p) (u * π - w) w ≤ stretch (run p) a w
  back_thinnest w u h =
      rw run_period at
      (thinnest_last (run p) run_later run_size_sub run_gap_super k run_size_again run_gap_again w u (rw run_period h) (rw run_period (omega (arith, known))))
