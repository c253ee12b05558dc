-- The name of a refusal has the check's number, and no other name has it: so it says which row is to be given, and that the pairs can be walked over.
use Prim.Native.Nat.{◌≤◌}
use native.Mathlib.Omega.{arith}
use mathlib.Core.Path.{◌≡◌, refl, sym, ◌∙◌, ap}
use Rattle.spec.specs.declared.refusal.Refusal.{Refusal}
use Rattle.spec.specs.Refusals.{number_of}
use Rattle.spec.proofs.Refusals.{number_of_apart}
use Rattle.pairs.specs.Pairs.{pairs_of}
use Rattle.cycle.specs.declared.windows.Measure.TheVariants.{Minutes}
use Rattle.cycle.specs.Check.{check_number}
use Rattle.cycle.specs.Windows.{pairs_in}
use Rattle.cycle.proofs.Chunks.{pairs_in_chunks}
use Rattle.cycle.proofs.SentBack.{Reached, reached, walkable_by_records, given_15, given_16, given_other}
use Rattle.cycle.proofs.shortest_stretch.Goals.{In-Err}
use Rattle.cycle.proofs.shortest_stretch.Goals as goal

-- the chunks are the pairs
chunks : (c : In-Err) → pairs_in Minutes c.as_chunks.result.0.now ≡ pairs_of c.args.words.now
chunks c = rw c.as_chunks.ensures.front (pairs_in_chunks _ _ refl)

-- the number of a refusal by name
number : (c : In-Err) (name : Refusal) → c.in-Err.refusal ≡ name → check_number c.args.spec (pairs_of c.args.words.now) ≡ number_of name
number c name e = sym c.in-Err.ensures ∙ ap number_of e

-- with 15 and 16 the pairs can be walked over
walked : (c : In-Err) (name : Refusal) → c.in-Err.refusal ≡ name → 15 ≤ number_of name → number_of name ≤ 16 → Reached (pairs_in Minutes c.as_chunks.result.0.now)
walked c name e low high = rw (chunks c) (reached c.args.spec (pairs_of c.args.words.now) (number_of name) low high (number c name e))

pub full_row-requires : goal.full_row-requires
full_row-requires c =
    let r = walked (goal.at.full_row-requires c).In-Err Refusal.TooFull c.in-TooFull.is (omega arith) (omega arith) in
    (r.walkable, walkable_by_records _ r)

pub thin_row-requires : goal.thin_row-requires
thin_row-requires c = (walked (goal.at.thin_row-requires c).In-Err Refusal.TooThin c.in-TooThin.is (omega arith) (omega arith)).walkable

pub returns-in-Ok-clause-stretch : goal.returns-in-Ok-clause-stretch
returns-in-Ok-clause-stretch c =
    let zero : 0 ≡ check_number c.args.spec (pairs_of c.args.words.now) = c.in-Ok.ensures in
    sym (given_other c.args.spec (pairs_of c.args.words.now) (λ z. omega arith) (λ z. omega arith))

pub returns-in-TooFull-clause-stretch : goal.returns-in-TooFull-clause-stretch
returns-in-TooFull-clause-stretch c =
    let at = (goal.at.returns-in-TooFull-clause-stretch c).In-Err in
    rw (c.full_row.ensures, chunks at, given_15 c.args.spec (pairs_of c.args.words.now) (number at Refusal.TooFull c.in-TooFull.is))

pub returns-in-TooThin-clause-stretch : goal.returns-in-TooThin-clause-stretch
returns-in-TooThin-clause-stretch c =
    let at = (goal.at.returns-in-TooThin-clause-stretch c).In-Err in
    rw (c.thin_row.ensures, chunks at, given_16 c.args.spec (pairs_of c.args.words.now) (number at Refusal.TooThin c.in-TooThin.is))

pub returns-in_default : goal.returns-in_default
returns-in_default c =
    let told : number_of c.in-Err.refusal ≡ check_number c.args.spec (pairs_of c.args.words.now) = c.in-Err.ensures in
    record {
      answer = told;
      stretch = sym
          (given_other c.args.spec (pairs_of c.args.words.now)
          (λ z. c.in_default.not-TooFull (number_of_apart c.in-Err.refusal Refusal.TooFull (told ∙ z)))
          (λ z. c.in_default.not-TooThin (number_of_apart c.in-Err.refusal Refusal.TooThin (told ∙ z))));
    }
