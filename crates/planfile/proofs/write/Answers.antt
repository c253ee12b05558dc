-- Each `return` is a case of `FileAnswers`. The words in front, of which the file is written, hold the pairs of the plan.
use Prim.Native.Nat.{◌*◌}
use mathlib.Core.Path.{◌≡◌, refl}
use mathlib.Core.Bool.{true}
use lib.ListN.{take}
use Rattle.spec.proofs.Refusals.{refused_some}
use Rattle.plan.specs.Plans.{proper}
use Rattle.pairs.specs.Pairs.{pairs_of}
use Rattle.planfile.specs.PlanFile.{plan_pairs}
use Rattle.planfile.proofs.Laid.{pairs_in_front}
use Rattle.planfile.proofs.FileAnswers.{not_proper, handed, refused, written, too_many}
use Rattle.planfile.proofs.write.Goals.{In_ok-proper, After-lay}
use Rattle.planfile.proofs.write.Goals as goal

ok : (c : In_ok-proper) → proper c.args.plan ≡ true
ok c = rw c.in_ok-proper.ensures.ok at c.in_ok-proper.proper.is_proper

words : (c : After-lay) → pairs_of (take (2 * c.args.plan.count) c.lay.new.words) ≡ plan_pairs c.args.plan
words c = rw (c.lay.ensures, c.in_ok-proper.ensures.ok) (pairs_in_front c.args.plan _)

pub returns-in_err-proper : goal.returns-in_err-proper
returns-in_err-proper c =
    let refusal = c.in_err-proper.ensures.err in
    handed c.args.plan c.args.file.now _ _ _ (rw refusal.0 (not_proper c.args.plan c.args.file.now refusal.1)) c.from_residual.ensures.1

pub returns-then-count-gt-MOST_PAIRS : goal.returns-then-count-gt-MOST_PAIRS
returns-then-count-gt-MOST_PAIRS c = too_many c.args.plan c.args.file.now (ok (goal.at.returns-then-count-gt-MOST_PAIRS c).In_ok-proper) c.if-count-gt-MOST_PAIRS.true

pub returns-in_err-length : goal.returns-in_err-length
returns-in_err-length c =
    let at = goal.at.returns-in_err-length c in
    let number = rw (words at.After-lay) at c.in_err-length.ensures.number in
    handed c.args.plan c.args.file.now _ _ _
    (rw (c.write.ensures.bytes, words at.After-lay) (refused c.args.plan c.args.file.now (ok at.In_ok-proper) number (refused_some _ _ refl)))
    c.from_residual-in_err-length.ensures.1

pub returns : goal.returns
returns c =
    let at = goal.at.returns c in
    rw (c.write.ensures.bytes, c.in_ok-length.ensures.length, words at.After-lay)
    (written c.args.plan c.args.file.now (ok at.In_ok-proper) (rw (words at.After-lay) at c.in_ok-length.ensures.number))
