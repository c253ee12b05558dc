use Rattle.std.proofs.Common.{◌≡◌, suc, ◌+◌, ◌-◌, arith}
use mathlib.Core.Path.{sym, ◌∙◌}
use Rattle.std.specs.Prelude.{Err}
use Rattle.std.proofs.lemmas.Result.{err_from_is_err_and}
use Rattle.spec.specs.Refusals.{number_of, numbered}
use Rattle.cyclefile.proofs.OnePass.{answer_whole, answer_pair, answer_stop, answer_end, answer_over, left_behind}
use Rattle.cyclefile.proofs.reading.judge_pairs.Goals as goal

pub returns-in_err-gap : goal.returns-in_err-gap
returns-in_err-gap c =
    let l = c.loop in
    let e : c.args.count - l.counter ≡ suc (c.args.count - (l.counter + 1)) = omega arith in
    let p = err_from_is_err_and c.from_residual.result c.from_residual.ensures.1 in
    let told : numbered c.from_residual.result ≡ Err (number_of c.in_err-gap.field-0.0) = rw (rw p.2 at p.1) in
    rw told (sym (answer_stop l.counter l.before l.rest.now _ _ (sym c.in_err-gap.ensures.pair)) ∙ rw e at l.invariant ∙ answer_whole _)

pub loop-preserved : goal.loop-preserved
loop-preserved c =
    let l = c.loop in
    let t = c.in_ok-gap.field-0 in
    let e : c.args.count - l.counter ≡ suc (c.args.count - (l.counter + 1)) = omega arith in
    rw (left_behind t.bytes l.rest.now) (sym (answer_pair l.counter l.before l.rest.now _ t (sym c.in_ok-gap.ensures.pair)) ∙ rw e at l.invariant)

pub returns-then-is_empty : goal.returns-then-is_empty
returns-then-is_empty c =
    let l = c.loop in
    let e : c.args.count - l.counter ≡ 0 = omega arith in
    let d : l.counter ≡ c.args.count = omega arith in
    rw (← d) (sym (answer_end l.counter l.before l.rest.now (sym c.if-is_empty.ensures))) ∙ rw e at l.invariant ∙ answer_whole _

pub returns-else-is_empty : goal.returns-else-is_empty
returns-else-is_empty c =
    let l = c.loop in
    let e : c.args.count - l.counter ≡ 0 = omega arith in
    sym (answer_over l.counter l.before l.rest.now (sym c.if-is_empty.ensures)) ∙ rw e at l.invariant ∙ answer_whole _
