use Rattle.std.proofs.Common.{◌≡◌, suc, ◌+◌, ◌-◌, arith}
use mathlib.Core.Path.{sym, ◌∙◌}
use Rattle.std.specs.Prelude.{Err}
use Rattle.std.proofs.lemmas.Result.{err_from_is_err_and}
use Rattle.spec.specs.Refusals.{number_of, numbered}
use Rattle.cyclefile.proofs.OnePass.{whole_outcome, pass_pair, pass_stop, pass_end, pass_over, left_behind}
use Rattle.cyclefile.proofs.reading.read_pairs.Goals as goal

pub returns-in_err-gap : goal.returns-in_err-gap
returns-in_err-gap c =
    let l = c.loop-i in
    let e : c.args.count - l.i ≡ suc (c.args.count - (l.i + 1)) = omega arith in
    let p = err_from_is_err_and c.from_residual.result c.from_residual.ensures.1 in
    let told : numbered c.from_residual.result ≡ Err (number_of c.in_err-gap.field-0.0) = rw (rw p.2 at p.1) in
    rw told (whole_outcome _ _ _ _ c.requires (sym (pass_stop l.words l.i l.before l.rest.now _ _ (sym c.in_err-gap.ensures.pair)) ∙ rw e at l.invariant))

pub loop-i-preserved : goal.loop-i-preserved
loop-i-preserved c =
    let l = c.loop-i in
    let t = c.in_ok-gap.field-0 in
    let e : c.args.count - l.i ≡ suc (c.args.count - (l.i + 1)) = omega arith in
    rw (left_behind t.bytes l.rest.now) (sym (pass_pair l.words l.i l.before l.rest.now _ t (sym c.in_ok-gap.ensures.pair)) ∙ rw e at l.invariant)

pub returns-then-not-is_empty : goal.returns-then-not-is_empty
returns-then-not-is_empty c =
    let l = c.loop-i in
    let e : c.args.count - l.i ≡ 0 = omega arith in
    whole_outcome _ _ _ _ c.requires (sym (pass_over l.words l.i l.before l.rest.now (sym c.if-not-is_empty.ensures)) ∙ rw e at l.invariant)

pub returns : goal.returns
returns c =
    let l = c.loop-i in
    let e : c.args.count - l.i ≡ 0 = omega arith in
    let d : l.i ≡ c.args.count = omega arith in
    whole_outcome _ _ _ _ c.requires (rw (← d) (sym (pass_end l.words l.i l.before l.rest.now (sym c.if-not-is_empty.ensures))) ∙ rw e at l.invariant)
