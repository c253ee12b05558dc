-- `?` hands on a refusal as why the specification fails: an operation that begins with a check tells the check's number.
use Prim.Native.Nat.{ℕ}
use mathlib.Core.Path.{◌≡◌}
use borrow.Author.Tests.{ne_eqb}
use Rattle.std.specs.Prelude.{Result, Err}
use Rattle.spec.specs.declared.refusal.Refusal.{Refusal}
use Rattle.spec.specs.Refusals.{number_of}
use Rattle.spec.specs.Limits.{if_none}
use Rattle.spec.proofs.Refusals.{refused_some}
use Rattle.consistency.specs.declared.Unfit.{Unfit}
use Rattle.consistency.specs.declared.Unfit.TheVariants.{Refused}
use Rattle.consistency.specs.Consistency.{Failing, refused, told}

pub handed_told : {B : Type 0} (n : ℕ) (e : Refusal) (x : Result B Unfit) (goOn : Result B Failing)
    → number_of e ≡ n → x ≡ Err (Refused e) → told x ≡ if_none n goOn (λ m. Err (refused m))
unfolding if_none
handed_told n e x goOn number is = rw (is, ne_eqb n 0 (refused_some e n number), number)
