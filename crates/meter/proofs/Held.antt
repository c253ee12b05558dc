-- What the ring of a meter has to do with the plain machine's list: the reports that are held are the front of the list, and those
-- behind them are out of every window from the last accepted minute on. So of the R minutes that end at that minute or later the ring
-- knows all: the oldest that it holds are out of them up to the first that is not, and the others are in them.
use Prim.Native.Nat.{ℕ, zero, suc, ◌+◌, ◌-◌, ◌≤◌, ◌<◌}
use native.Mathlib.Omega.{arith}
use native.Mathlib.Nat.{add-zero, zero-add, le_refl}
use mathlib.Core.Path.{◌≡◌, refl, ◌∙◌, ap}
use mathlib.Core.Logic.{⊎_elim}
use mathlib.Core.Bool.{Bool, true, false}
use mathlib.Core.List.{List, [], ◌∷◌, ◌++◌, append_assoc}
use lib.Dec.{leb}
use lib.ListN.{length}
use borrow.Author.Tests.{leb-true, leb-false, lt-ltb, le-ltb, le-leb, eq-eqb, ne_eqb}
use Rattle.numbers.proofs.Cases.{lt_cases}
use Rattle.spec.specs.declared.Spec.{Spec}
use Rattle.schedule.specs.Schedules.{sum}
use Rattle.schedule.proofs.Sums.{block, sum_add}
use Rattle.meter.specs.declared.Meter.{Meter}
use Rattle.meter.specs.Plain.{Report, counted_at, ending_with, too_early, later}
use Rattle.meter.specs.Ring.{window_of, budget_of, held_report, aged_from, aged, used, later_of, early_of}
use Rattle.meter.proofs.Offers.{FallsFrom, Falls, later_falls}
use Rattle.meter.proofs.Rows.{rows, rows_split, rows_below, rows_rise, falls_front, counted_append, counted_all, counted_none}

-- of n reports from number i on, the first k are w minutes old or older at minute t, and the next is not
pub record Aged (f : ℕ → Report) (w t n i k : ℕ) : Type 0 where
  pub most : k ≤ n
  pub old : (j : ℕ) → j < k → (f (i + j)).minute + w ≤ t
  pub next : k < n → t < (f (i + k)).minute + w

pub aged_right : (f : ℕ → Report) (w t n i : ℕ) → Aged f w t n i (aged_from f w t n i)
unfolding aged_from
aged_right f w t zero i = record { most = omega arith; old = λ j h. absurd (omega arith); next = λ h. absurd (omega arith) }
aged_right f w t (suc n) i = pick (leb ((f i).minute + w) t) refl (aged_right f w t n (i + 1))
  where
    pick : (b : Bool) → leb ((f i).minute + w) t ≡ b → Aged f w t n (i + 1) (aged_from f w t n (i + 1))
        → Aged f w t (suc n) i (elim b [ true ↦ suc (aged_from f w t n (i + 1)) | false ↦ 0 ])
    pick true e a = record { most = omega (arith, a.most); old = old; next = next }
      where
        old : (j : ℕ) → j < suc (aged_from f w t n (i + 1)) → (f (i + j)).minute + w ≤ t
        old zero h = rw add-zero (leb-true _ _ e)
        old (suc j) h = let z : i + suc j ≡ i + 1 + j = omega arith in rw z (a.old j (omega arith))

        next : suc (aged_from f w t n (i + 1)) < suc n → t < (f (i + suc (aged_from f w t n (i + 1)))).minute + w
        next h = let z : i + suc (aged_from f w t n (i + 1)) ≡ i + 1 + aged_from f w t n (i + 1) = omega arith in rw z (a.next (omega arith))
    pick false e a = record { most = omega arith; old = λ j h. absurd (omega arith); next = λ h. rw add-zero (leb-false _ _ e) }

-- in the minutes that end with t, and out of them
pub is_in : (w t u : ℕ) → t < u + w → u ≤ t → ending_with w t u ≡ true
is_in w t u a b = rw (lt-ltb t (u + w) a, le-leb u t b)

pub is_out : (w t u : ℕ) → u + w ≤ t → ending_with w t u ≡ false
is_out w t u a = rw (le-ltb t (u + w) a)

-- from minute t on no window has a report of the list
abbrev pub Past : ℕ → ℕ → List Report → Type 0
Past w t l = (worth : Report → ℕ) (u : ℕ) → t ≤ u → counted_at worth (ending_with w u) l ≡ 0

-- the last accepted report, if there is one
abbrev pub Latest : Meter → List Report → Type 0
Latest m [] = (m.count ≡ 0) × (m.last ≡ 0)
Latest m (x ∷ l) = (1 ≤ m.count) × (m.last ≡ x.minute)

-- the meter stands for the list
pub record Keeps (spec : Spec) (m : Meter) (l : List Report) : Type 0 where
  pub dmin : m.dmin ≡ spec.dmin
  pub dmax : m.dmax ≡ spec.dmax
  pub smin : m.smin ≡ spec.smin
  pub budget : m.budget ≡ budget_of spec.supply
  pub window : m.window ≡ window_of spec.supply
  pub places : (length m.minutes ≡ 1024) × (length m.sizes ≡ 1024)
  pub few : m.count ≤ 1024
  pub only_last : m.window ≡ 0 → m.count ≤ 1
  pub records : m.records ≡ sum (λ i. (held_report m i).size) m.count
  pub gone : List Report
  pub joined : l ≡ rows (held_report m) m.count ++ gone
  pub past : Past m.window m.last gone
  pub falls : Falls l
  pub latest : Latest m l

-- the minute at which the ring tells is the list's
pub later_same : (m : Meter) (l : List Report) (t : ℕ) → Latest m l → (later_of m.count m.last t ≡ later l t) × (m.last ≤ later l t)
unfolding later
later_same m [] t h = (rw (eq-eqb _ _ h.0), omega arith)
later_same m (x ∷ l) t h = (rw (ne_eqb m.count 0 (omega arith), h.1), omega arith)

pub early_same : (spec : Spec) (m : Meter) (l : List Report) (t : ℕ) → m.smin ≡ spec.smin → Latest m l → early_of m.count m.last m.smin t ≡ too_early spec l t
unfolding too_early
early_same spec m [] t s h = rw (eq-eqb _ _ h.0)
early_same spec m (x ∷ l) t s h = rw (ne_eqb m.count 0 (omega arith), h.1, s)

module _ (spec : Spec) (m : Meter) (l : List Report) (kept : Keeps spec m l) (t : ℕ) where
  -- the reports from the first that counts on
  abbrev pub counting : ℕ → Report
  counting i = held_report m (aged m t + i)

  pub aged_now : Aged (held_report m) m.window (later l t) m.count 0 (aged m t)
  unfolding aged
  aged_now =
      rw (← (later_same m l t kept.latest).0) (aged_right (held_report m) m.window (later_of m.count m.last t) m.count 0)

  pub used_now : used m t ≡ sum (λ i. (counting i).size) (m.count - aged m t)
  unfolding used block
  used_now =
      let k = aged_now.most in
      let e : aged m t + (m.count - aged m t) ≡ m.count = omega arith in
      let s = rw e at (sum_add (λ i. (held_report m i).size) (aged m t) (m.count - aged m t)) in
      omega (arith, kept.records)

  split_now : rows (held_report m) m.count ≡ rows counting (m.count - aged m t) ++ rows (held_report m) (aged m t)
  split_now =
      let k = aged_now.most in
      let e : m.count - aged m t + aged m t ≡ m.count = omega arith in
      rw e at (rows_split (held_report m) (aged m t) (m.count - aged m t))

  -- the list in three: the reports that count, the others that are held, and those behind
  pub parts_now : l ≡ rows counting (m.count - aged m t) ++ (rows (held_report m) (aged m t) ++ kept.gone)
  parts_now = kept.joined ∙ rw (split_now, append_assoc)

  falls_now : FallsFrom (later l t) (rows (held_report m) m.count)
  falls_now = falls_front (later l t) (rows (held_report m) m.count) kept.gone (rw (← kept.joined) (later_falls l t kept.falls))

  -- a window of 0 minutes has none of them
  pub all_aged : m.window ≡ 0 → m.count - aged m t ≡ 0
  all_aged e =
      ⊎_elim
      (λ h. absurd (omega (arith, e, rw zero-add at (aged_now.next h), rows_below (held_report m) m.count (later l t) (aged m t) falls_now h)))
      (λ h. omega arith)
      (lt_cases (aged m t) m.count)

  counts : (i : ℕ) → i < m.count - aged m t → ending_with m.window (later l t) (counting i).minute ≡ true
  counts i h =
      let k = aged_now.most in
      let n = rw zero-add at (aged_now.next (omega arith)) in
      is_in m.window (later l t) (counting i).minute
      (omega (arith, rows_rise (held_report m) m.count (later l t) (aged m t) (aged m t + i) falls_now (omega arith) (omega arith)))
      (rows_below (held_report m) m.count (later l t) (aged m t + i) falls_now (omega arith))

  -- from the minute t on the oldest stay out
  pub past_now : Past m.window (later l t) (rows (held_report m) (aged m t) ++ kept.gone)
  past_now worth u h =
      omega (
        arith,
        counted_append worth (ending_with m.window u) (rows (held_report m) (aged m t)) kept.gone,
        counted_none worth (ending_with m.window u) (held_report m) (aged m t) (λ i q. is_out m.window u _ (omega (arith, rw zero-add at (aged_now.old i q)))),
        kept.past worth u (omega (arith, (later_same m l t kept.latest).1)),
      )

  -- what the minutes that end with the later minute hold: the reports that count, and nothing else
  pub held_now : (worth : Report → ℕ) → counted_at worth (ending_with m.window (later l t)) l ≡ sum (λ i. worth (counting i)) (m.count - aged m t)
  held_now worth =
      let at = ending_with m.window (later l t) in
      ap (counted_at worth at) parts_now
      ∙ omega (
        arith,
        counted_append worth at (rows counting (m.count - aged m t)) (rows (held_report m) (aged m t) ++ kept.gone),
        counted_all worth at counting (m.count - aged m t) counts,
        past_now worth (later l t) (le_refl (later l t)),
      )
