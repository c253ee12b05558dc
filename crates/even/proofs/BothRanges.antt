-- No gap of the first range is longer than the longest of the second. So the largest allowed gap that passes a test is the largest of the second
-- range that does, and of the first where none of the second does.
use Prim.Native.Nat.{ℕ, ◌≤◌, ◌<◌}
use native.Mathlib.Omega.{arith}
use mathlib.Core.Path.{◌≡◌, refl, sym, subst, ap, ◌∙◌}
use mathlib.Core.Logic.{inl, inr, ⊎_elim}
use mathlib.Core.Bool.{Bool, true, false, ◌&&◌, and-eq-true_iff}
use Rattle.std.specs.Prelude.{Option, None, Some, MatchOption}
use Rattle.std.specs.declared.num.NonZeroU16.{NonZeroU16}
use Rattle.spec.specs.declared.Range.{Range}
use Rattle.spec.specs.declared.Spec.{Spec}
use Rattle.spec.specs.Limits.{range_of, between, in_range, gap_allowed, top_of, gap_top}
use Rattle.spec.proofs.Facts.{between_iff, in_range_iff, gap_allowed_iff}
use Rattle.even.specs.Even.{largest}
use Rattle.even.specs.Jump.{gap_number}
use Rattle.even.specs.Search.{largest_in, largest_of}
use Rattle.even.proofs.Search.{Largest, largest_right, largest_is}

-- two tests of which not both pass
fails_then : (b c : Bool) → (b ≡ true → c ≡ false) → b && c ≡ false
fails_then true c h = h refl
fails_then false c h = refl

pub second_fails : (b c : Bool) → b && c ≡ false → b ≡ true → c ≡ false
second_fails true c e h = e
second_fails false c e h = cc

module _ (spec : Spec) (ok : ℕ → Bool) (rises : spec.smax ≤ gap_top spec) where
  abbrev works : ℕ → Bool
  works g = gap_allowed spec g && ok g

  abbrev longest : ℕ
  longest = largest works (gap_top spec)

  longest_is : (x : ℕ) → Largest works (gap_top spec) x → longest ≡ x
  longest_is x h = largest_is works (gap_top spec) x h

  in_first : (g : ℕ) → spec.smin ≤ g → g ≤ spec.smax → gap_allowed spec g ≡ true
  in_first g low high = (gap_allowed_iff spec g).1 (inl (low, high))

  -- what is known of the search of one range
  module _ (lo hi : ℕ) where
    found_in : Largest (λ g. between lo hi g && ok g) hi (largest_in ok lo hi)
    unfolding largest_in
    found_in = largest_right (λ g. between lo hi g && ok g) hi

    none_above : (g : ℕ) → largest_in ok lo hi < g → lo ≤ g → g ≤ hi → ok g ≡ false
    none_above g above low high = second_fails (between lo hi g) (ok g) (found_in.above g above high) ((between_iff lo hi g).1 (low, high))

    found_passes : 0 < largest_in ok lo hi → (lo ≤ largest_in ok lo hi) × (largest_in ok lo hi ≤ hi) × (ok (largest_in ok lo hi) ≡ true)
    found_passes some =
        let h = (and-eq-true_iff _ _).0 (found_in.passes some).0 in
        let r = (between_iff lo hi _).0 h.0 in
        (r.0, r.1, h.1)

  -- no gap of the first range that is longer than a gap of the second is past the second's end
  pub second_first : (x : Option Range) → spec.second ≡ x → 0 < largest_of ok x → longest ≡ largest_of ok x
  unfolding largest_of in_range top_of
  second_first None e some = absurd (omega arith)
  second_first (Some r) e some =
      let lo = r.min in
      let hi = r.max in
      let g = largest_in ok lo hi in
      let f = found_passes lo hi some in
      let there : in_range spec.second g ≡ true = subst (λ (x : Option Range). in_range x g ≡ true) (sym e) ((between_iff lo hi g).1 (f.0, f.1)) in
      let end : gap_top spec ≡ hi = ap (λ (x : Option Range). top_of x spec.smax) e in
      longest_is g (record {
        passes = λ h. ((and-eq-true_iff _ _).1 ((gap_allowed_iff spec g).1 (inr there), f.2), omega arith);
        above = λ y a b.
            fails_then _ _ (λ allowed.
            none_above lo hi y a (omega arith) (omega arith));
      })

  -- where no gap of the second range passes, the largest of the first is the largest of all
  pub first_then : largest_of ok spec.second ≡ 0 → longest ≡ largest_of ok (Some (range_of spec.smin spec.smax))
  unfolding largest_of
  first_then none =
      let lo = spec.smin in
      let hi = spec.smax in
      let g = largest_in ok lo hi in
      longest_is g (record {
        passes = λ h. let f = found_passes lo hi h in ((and-eq-true_iff _ _).1 (in_first g f.0 f.1, f.2), omega arith);
        above = λ y a b.
            fails_then _ _ (λ allowed.
            ⊎_elim
            (λ r. none_above lo hi y a r.0 r.1)
            (λ r.
            let k = (in_range_iff spec.second y).0 r in
            let z : largest_in ok k.0 k.1 ≡ 0 = subst (λ (x : Option Range). largest_of ok x ≡ 0) k.2 none in
            none_above k.0 k.1 y (omega arith) k.3 k.4)
            ((gap_allowed_iff spec y).0 allowed));
      })

  -- so the gap of the second range where there is one, and else that of the first
  pub either_range : (a r : Option NonZeroU16) → gap_number a ≡ largest_of ok spec.second
      → MatchOption a (gap_number r ≡ largest_of ok (Some (range_of spec.smin spec.smax))) (λ x. r ≡ Some x) → gap_number r ≡ longest
  either_range None r e h = h ∙ sym (first_then (sym e))
  either_range (Some x) r e h = let some = x.ok in ap gap_number h ∙ e ∙ sym (second_first _ refl (omega arith))
