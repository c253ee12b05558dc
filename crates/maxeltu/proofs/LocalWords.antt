-- What a call's own array of 1,024 words holds once a lent list of pairs was unpacked into it: the pairs where 512 or fewer are lent, else none.
use Prim.Native.Nat.{ℕ, ◌/◌}
use mathlib.Core.Path.{◌≡◌, ap, ◌∙◌}
use mathlib.Core.List.{List}
use lib.ListN.{take, replicate, length-replicate}
use Rattle.pairs.specs.declared.Pair.{Pair}
use Rattle.pairs.specs.Pairs.{pairs_of, that_fit}
use Rattle.pairs.proofs.Unpacked.{Unpacks, used_pairs}

pub unpacked : (ps : List Pair) (used : ℕ) (words : List ℕ) → Unpacks ps (replicate 1024 0) used words → pairs_of (take used words) ≡ that_fit 512 ps
unpacked ps used words said = used_pairs ps (replicate 1024 0) used words said ∙ ap (λ (k : ℕ). that_fit (k / 2) ps) (length-replicate {A = ℕ} 1024 0)
