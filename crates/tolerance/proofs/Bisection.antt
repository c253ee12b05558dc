-- Bisection over any questions, one for each lateness: where something is found for one, something is for each smaller one too, and nothing for any
-- above 1,440. Between two turns a width w is known with this: what was found for the largest so far, and that for w more nothing is found;
-- or, where nothing was found yet, that w - 1 has the refusal that is held. A turn halves the width. Once it is 1, nothing is found for the
-- next lateness after the largest so far, or for 0.
use Prim.Native.Nat.{ℕ, suc, ◌+◌, ◌-◌, ◌≤◌, ◌<◌}
use native.Mathlib.Omega.{arith}
use mathlib.Core.Path.{◌≡◌, refl, sym, subst}
use mathlib.Core.Logic.{◌↔◌, ⊎_elim}
use mathlib.Core.Bool.{Bool, true, false, ◌&&◌, and-eq-true_iff}
use mathlib.Core.List.{◌∷◌}
use lib.Dec.{leb, eqb}
use lib.ListN.{get_or}
use borrow.Author.Tests.{eqb-true, leb-true}
use Rattle.std.specs.Prelude.{Result, Ok, Err, is_ok, IfOk}
use Rattle.std.proofs.lemmas.Bool.{false_from_ne_true}
use Rattle.numbers.specs.Numbers.{all}
use Rattle.numbers.proofs.All.{all_right}
use Rattle.numbers.proofs.Cases.{lt_cases}
use Rattle.spec.specs.declared.refusal.Refusal.{Refusal}
use Rattle.spec.specs.Refusals.{numbered}
use Rattle.schedule.proofs.Moments.{Greatest, greatest_is, greatest_none}
use Rattle.tolerance.specs.declared.Late.{Late}
use Rattle.tolerance.specs.Tolerance.{latest, at_lateness, most_late}
use Rattle.tolerance.specs.Search.{steps, next, better}

-- the width before turn i is the step of the turn before, and so twice its own
abbrev pub width : ℕ → ℕ
width i = get_or (2048 ∷ steps) i 0

width_next : (i : ℕ) → width (i + 1) ≡ get_or steps i 0
width_next i = let e : i + 1 ≡ suc i = omega arith in rw e refl

halves : ℕ → Bool
halves i = let s = get_or steps i 0 in eqb (width i) (s + s) && leb 1 s && leb s 1024

step_half : (i : ℕ) → i < 11 → let s = get_or steps i 0 in (width i ≡ s + s) × (1 ≤ s) × (s ≤ 1024)
unfolding all halves
step_half i h =
    let s = get_or steps i 0 in
    let a = (and-eq-true_iff (eqb (width i) (s + s) && leb 1 s) (leb s 1024)).0 ((all_right halves 11).0 refl i h) in
    let b = (and-eq-true_iff (eqb (width i) (s + s)) (leb 1 s)).0 a.0 in
    (eqb-true _ _ b.0, leb-true _ _ b.1, leb-true _ _ a.1)

module _ {A : Type 0} (ask : ℕ → Result A ℕ) where
  abbrev pub Finds : ℕ → Type 0
  Finds j = is_ok (ask j) ≡ true

  -- where something is found, something is for all below, and nothing above 1,440
  pub record FoundBelow : Type 0 where
    pub smaller : (i j : ℕ) → i ≤ j → Finds j → Finds i
    pub few : (j : ℕ) → Finds j → j ≤ 1440

  -- what is known between two turns
  abbrev pub Known : ℕ → Result (Late A) ℕ → Type 0
  Known w (Ok t) = (ask t.lateness ≡ Ok t.found) × ¬ Finds (t.lateness + w)
  Known w (Err n) = (w ≤ 1024 → ask (w - 1) ≡ Err n) × ¬ Finds (w - 1)

  finds_some : (j : ℕ) (x : A) → ask j ≡ Ok x → Finds j
  finds_some j x e = rw e refl

  pub finds_none : (j n : ℕ) → ask j ≡ Err n → ¬ Finds j
  finds_none j n e h = absurd (let z : false ≡ true = rw e at h in cc)

  module _ (below : FoundBelow) where
    pub known_first : (n : ℕ) → Known 2048 (Err n)
    known_first n = (λ h. absurd (omega arith), λ h. absurd (omega (arith, below.few 2047 h)))

    pub known_few : (w : ℕ) (best : Result (Late A) Refusal) → Known w (numbered best) → IfOk best (λ t. t.lateness ≤ 1440)
    known_few w (Ok t) known = below.few t.lateness (finds_some t.lateness t.found known.0)
    known_few w (Err r) known = tt

    -- one turn, of half the width
    module _ (w s : ℕ) (half : w ≡ s + s) (some : 0 < s) where
      after : (best : Result (Late A) ℕ) (answer : Result A ℕ) → ask (next best s) ≡ answer → Known w best → Known s (better best (next best s) answer)
      after (Ok t) (Ok x) e known = (e, λ h. known.1 (let same : t.lateness + s + s ≡ t.lateness + w = omega arith in rw same at h))
      after (Ok t) (Err n) e known = (known.0, finds_none (t.lateness + s) n e)
      after (Err m) (Ok x) e known = (e, λ h. known.1 (let same : s - 1 + s ≡ w - 1 = omega arith in rw same at h))
      after (Err m) (Err n) e known = (λ h. e, finds_none (s - 1) n e)

      known_then : (best : Result (Late A) ℕ) → Known w best → Known s (better best (next best s) (ask (next best s)))
      known_then best known = after best (ask (next best s)) refl known

    pub known_next : (i : ℕ) → i < 11 → (best b : Result (Late A) ℕ) (l : ℕ) (answer : Result A ℕ) → Known (width i) best
        → l ≡ next best (get_or steps i 0) → answer ≡ ask l → b ≡ better best l answer → Known (width (i + 1)) b
    known_next i h best b l answer known at told is =
        let half = step_half i h in
        rw (width_next i, is, told, at) (known_then (width i) (get_or steps i 0) half.0 (omega (arith, half.1)) best known)

    -- the largest for which something is found, where something is found for 0
    greatest_one : (found : Finds 0) → Greatest (λ j. is_ok (ask j)) found 1440 (latest ask)
    unfolding latest
    greatest_one found = greatest_is (λ j. is_ok (ask j)) found 1440

    -- it is the one for which something is found and not for the next
    latest_is : (j : ℕ) → Finds j → ¬ Finds (j + 1) → latest ask ≡ j
    latest_is j found none =
        let g = greatest_one (below.smaller 0 j (omega arith) found) in
        ⊎_elim
        (λ q. absurd (none (below.smaller (j + 1) (latest ask) (omega arith) g.passed)))
        (λ q. omega (arith, g.most j (below.few j found) found))
        (lt_cases j (latest ask))

    latest_none : ¬ Finds 0 → latest ask ≡ 0
    unfolding latest
    latest_none none = greatest_none (λ j. is_ok (ask j)) (λ j. false_from_ne_true (is_ok (ask j)) (λ h. none (below.smaller 0 j (omega arith) h))) 1440

    -- once the width is 1
    pub known_last : (best : Result (Late A) ℕ) → Known 1 best → best ≡ most_late ask
    unfolding most_late
    known_last (Ok t) known = sym (rw (latest_is t.lateness (finds_some t.lateness t.found known.0) known.1, known.0) refl)
    known_last (Err n) known = sym (rw (latest_none known.1, known.0 (omega arith)) refl)

    pub known_end : (i : ℕ) → i ≤ 11 → 11 ≤ i → (best : Result (Late A) ℕ) → Known (width i) best → best ≡ most_late ask
    known_end i h g best known = let e : i ≡ 11 = omega arith in known_last best (rw e at known)

    -- The same is known of what the definition finds, however it was found: so something is found exactly up to its lateness, and it is refused
    -- for what 0 is.
    at_latest : (r : Result A ℕ) → ask (latest ask) ≡ r → Known 1 (at_lateness (latest ask) r)
    at_latest (Ok x) e =
        let g = greatest_one (below.smaller 0 (latest ask) (omega arith) (finds_some (latest ask) x e)) in
        (e, λ h. absurd (omega (arith, g.most (latest ask + 1) (below.few (latest ask + 1) h) h)))
    at_latest (Err n) e =
        let none : ¬ Finds 0 = λ h. finds_none (latest ask) n e (greatest_one h).passed in
        (λ h. rw (latest_none none) at e, none)

    known_most : (best : Result (Late A) ℕ) → most_late ask ≡ best → Known 1 best
    unfolding most_late
    known_most best e = subst (Known 1) e (at_latest (ask (latest ask)) refl)

    pub most_found : (t : Late A) → most_late ask ≡ Ok t → (t.lateness ≤ 1440) × (ask t.lateness ≡ Ok t.found) × ((j : ℕ) → Finds j ↔ (j ≤ t.lateness))
    most_found t e =
        let known = known_most (Ok t) e in
        let found : Finds t.lateness = finds_some t.lateness t.found known.0 in (
          below.few t.lateness found,
          known.0,
          λ j. (
            λ h. ⊎_elim (λ q. absurd (known.1 (below.smaller (t.lateness + 1) j (omega arith) h))) (λ q. q) (lt_cases t.lateness j),
            λ h. below.smaller j t.lateness h found,
          ),
        )

    pub most_refused : (n : ℕ) → (most_late ask ≡ Err n) ↔ (ask 0 ≡ Err n)
    most_refused n = (λ e. (known_most (Err n) e).0 (omega arith), λ e. sym (known_last (Err n) (λ h. e, finds_none 0 n e)))
