-- The laws of a window that moves over a schedule: it takes one report more at its end, lets its first report go, and
-- once it reaches v minutes it holds what the v minutes from its first report hold.
use Prim.Native.Nat.{ℕ, ◌+◌, ◌-◌, ◌*◌, ◌≤◌, ◌<◌}
use native.Mathlib.Omega.{arith}
use mathlib.Core.Path.{◌≡◌, refl, sym, ◌∙◌, ap}
use mathlib.Core.Logic.{◌↔◌, ⊎_elim}
use mathlib.Core.List.{List}
use lib.ListN.{length}
use borrow.Author.Count.{below_more}
use Rattle.numbers.proofs.Cases.{lt_cases}
use Rattle.pairs.specs.declared.Pair.{Pair}
use Rattle.schedule.specs.Schedules.{Schedule, sum, minute, stretch}
use Rattle.schedule.proofs.Sums.{sum_more, sum_add, block}
use Rattle.schedule.proofs.Stretches.{stretch_block}
use Rattle.schedule.proofs.Before.{minute_more, minute_mono, minute_least, minute_iff, stretch_after}
use Rattle.schedule.proofs.Repeats.{minute_again}
use Rattle.cycle.specs.declared.windows.Parts.{Parts}
use Rattle.cycle.specs.declared.stretches.Side.{Side}
use Rattle.cycle.specs.declared.stretches.Side.TheVariants.{Fullest, Thinnest}
use Rattle.cycle.specs.declared.windows.Window.{Window}
use Rattle.cycle.specs.Cycles.{cycle_run, round}
use Rattle.cycle.specs.Margins.{begins}
use Rattle.cycle.specs.declared.windows.Measure.{Measure}
use Rattle.cycle.specs.Windows.{pairs_in, run_in, Walkable, IsReport, IsParts, Spans, with_report, without_report, walked, seen}
use Rattle.cycle.proofs.Chunks.{length_pairs_in}
use Rattle.cycle.proofs.Runs.{gap_again}
use Rattle.cycle.proofs.Rounds.{parts_add}

module _ (s : Schedule) (v : ℕ) where
  module _ {w : Window} {x : Pair} (h : Spans s v w) where
    pub spans_with : IsReport s w.past x → (x.gap ≤ 65535) × (x.size ≤ 65535) → w.minutes < v → Spans s v (with_report w x)
    spans_with r few q = record {
      forward = omega arith;
      minutes = rw (minute_more s w.past) (omega arith);
      records = rw (sum_more s.size w.past) (omega arith);
      inside = below_more _ _ h.inside (omega arith);
      minutes_fit = omega arith;
      records_fit = omega arith;
    }

    -- what is left out is part of the window
    pub first_inside : IsReport s w.first x → w.first < w.past → (x.gap ≤ w.minutes) × (x.size ≤ w.records)
    first_inside r q =
        let e : w.past ≡ w.first + 1 + (w.past - (w.first + 1)) = omega arith in
        let k : sum s.size w.past ≡ sum s.size (w.first + 1) + block s.size (w.first + 1) (w.past - (w.first + 1)) =
        ap (sum s.size) e ∙ sum_add s.size (w.first + 1) (w.past - (w.first + 1)) in
        (omega (arith, minute_mono s (w.first + 1) w.past (omega arith), minute_more s w.first), omega (arith, k, sum_more s.size w.first))

    pub spans_without : IsReport s w.first x → w.first < w.past → Spans s v (without_report w x)
    spans_without r q =
        let k = first_inside r q in
        record {
          forward = omega arith;
          minutes = rw (minute_more s w.first) (omega arith);
          records = rw (sum_more s.size w.first) (omega arith);
          inside = λ i p. omega (arith, h.inside i p, minute_more s w.first);
          minutes_fit = omega arith;
          records_fit = omega arith;
        }

  module _ (later : (i : ℕ) → 1 ≤ s.gap i) {w : Window} (h : Spans s v w) where
    -- the reports before its end
    until : v ≤ w.minutes → (i : ℕ) → minute s i < minute s w.first + v ↔ i < w.past
    until r i =
        (λ p. ⊎_elim (λ q. q) (λ q. absurd (omega (arith, minute_mono s w.past i q))) (lt_cases i w.past), λ q. h.inside i q)

    past_least : w.past ≤ minute s w.first + v
    past_least =
        ⊎_elim
        (λ q. let k = h.inside (w.past - 1) (omega arith) in omega (arith, minute_least s later (w.past - 1)))
        (λ q. omega arith)
        (lt_cases 0 w.past)

    pub spans_stretch : v ≤ w.minutes → w.records ≡ stretch s (minute s w.first) v
    spans_stretch r =
        let e : w.first + (w.past - w.first) ≡ w.past = omega arith in
        let k : sum s.size w.past ≡ sum s.size w.first + block s.size w.first (w.past - w.first) =
        rw e at (sum_add s.size w.first (w.past - w.first)) in
        let b : w.records ≡ block s.size w.first (w.past - w.first) = omega arith in
        b ∙ sym (stretch_block s (minute s w.first) v w.first w.past (λ i. minute_iff s later i w.first) (until r) past_least)

    -- a window that reaches some minutes holds its first report
    pub spans_some : 1 ≤ v → v ≤ w.minutes → w.first < w.past
    spans_some q r =
        ⊎_elim (λ p. p) (λ p. absurd (let z : w.past ≡ w.first = omega arith in omega (arith, ap (minute s) z))) (lt_cases w.first w.past)

  -- in a schedule whose gaps repeat after c reports, a window of a round at most holds c reports at most, and fewer while it has not
  -- reached its end
  module _ (c : ℕ) (again : (i : ℕ) → s.gap (i + c) ≡ s.gap i) {w : Window} (h : Spans s v w) (short : v ≤ minute s c) where
    a_round_on : minute s (w.first + c) ≡ minute s w.first + minute s c
    a_round_on = minute_again s c again w.first

    pub spans_most : w.past ≤ w.first + c
    spans_most =
        ⊎_elim
        (λ q. absurd (omega (arith, h.inside (w.first + c) q, a_round_on)))
        (λ q. q)
        (lt_cases (w.first + c) w.past)

    pub spans_fewer : w.minutes < v → w.past < w.first + c
    spans_fewer r =
        ⊎_elim
        (λ q. q)
        (λ q. absurd (omega (arith, minute_mono s (w.first + c) w.past q, a_round_on)))
        (lt_cases w.past (w.first + c))

-- in the run of a cycle, a window that starts in the first round
module _ (ps : List Pair) (v : ℕ) {w : Window} (first_round : w.first < length ps) (short : v ≤ round ps) (h : Spans (cycle_run ps) v w) where
  pub past_most : w.past ≤ w.first + length ps
  unfolding round
  past_most = spans_most (cycle_run ps) v (length ps) (gap_again ps) h short

  pub past_fits : length ps ≤ 512 → w.past ≤ 1024
  past_fits few = omega (arith, past_most)

  pub next_place : w.minutes < v → w.past < 2 * length ps
  unfolding round
  next_place less = omega (arith, spans_fewer (cycle_run ps) v (length ps) (gap_again ps) h short less)

-- with the whole rounds, a window that reached the minutes left over holds what all the minutes hold
module _ (ps : List Pair) (ok : Walkable ps) (m : ℕ) {x : Parts} (parts : IsParts ps m x) {w : Window} (h : Spans (cycle_run ps) x.rest w) (full : x.rest ≤ w.minutes) where
  held_here : x.records + w.records ≡ stretch (cycle_run ps) (minute (cycle_run ps) w.first) m
  held_here = rw (parts_add ps ok.later m x parts (minute (cycle_run ps) w.first), spans_stretch (cycle_run ps) x.rest ok.later h full)

  pub first_there : w.first < w.past
  first_there = spans_some (cycle_run ps) x.rest ok.later h parts.some full

-- and so the stretch is seen that starts with the window's first report, or one minute after it
seen_at : (s : Schedule) → ((i : ℕ) → 1 ≤ s.gap i) → (side : Side) (minutes i : ℕ) → seen side (stretch s (minute s i) (walked side minutes)) (s.size i) ≡ stretch s (begins side s i) minutes
seen_at s later Fullest minutes i = refl
seen_at s later Thinnest minutes i = omega (arith, stretch_after s later i minutes)

pub seen_here : (ps : List Pair) → Walkable ps → (side : Side) (minutes : ℕ) {x : Parts} → IsParts ps (walked side minutes) x → {w : Window} → Spans (cycle_run ps) x.rest w → x.rest ≤ w.minutes
    → {y : Pair} → IsReport (cycle_run ps) w.first y → seen side (x.records + w.records) y.size ≡ stretch (cycle_run ps) (begins side (cycle_run ps) w.first) minutes
seen_here ps ok side minutes parts h full r =
    rw (held_here ps ok (walked side minutes) parts h full, r.size) (seen_at (cycle_run ps) ok.later side minutes _)

-- a window that is filled from a start in the first round, of a cycle that is cut into pairs
pub record Filled (ps : List Pair) (w : Window) : Type 0 where
  pub first_round : w.first < length ps
  pub start_fits : w.first < 1024
  pub there : w.first < w.past
  pub end_fits : w.past ≤ 1024

pub filled : (by : Measure) (xs : List (List ℕ)) → Walkable (pairs_in by xs) → (m : ℕ) {x : Parts} → IsParts (pairs_in by xs) m x → {w : Window} → w.first < length xs
    → x.rest ≤ w.minutes → Spans (run_in by xs) x.rest w → Filled (pairs_in by xs) w
filled by xs ok m parts start full h =
    let first_round = rw (← length_pairs_in by xs) at start in
    record {
      first_round = first_round;
      start_fits = omega (arith, ok.few);
      there = first_there (pairs_in by xs) ok m parts h full;
      end_fits = past_fits (pairs_in by xs) _ first_round parts.short h ok.few;
    }
