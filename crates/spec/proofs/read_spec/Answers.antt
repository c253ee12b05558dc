-- The tests are those of `read_spec`, in its order; the laws of `File` say what it gives after each.
use mathlib.Core.Path.{◌∙◌, ap, sym}
use Rattle.spec.specs.File.{accept}
use Rattle.std.proofs.lemmas.Option.{slice_get_within, get_or_from_slice_get}
use Rattle.spec.proofs.File.{unread, unmapped, cut, whole}
use Rattle.spec.proofs.read_spec.Goals as goal

pub returns-in_default : goal.returns-in_default
returns-in_default c = unread c.args.bytes.now (sym c.in_default.ensures.value)

pub returns-then-not-is_good : goal.returns-then-not-is_good
returns-then-not-is_good c = unmapped _ (sym (get_or_from_slice_get c.args.bytes.now 0 _ 0 (sym c.in-Some.ensures.value))) (sym c.if-not-is_good.ensures)

pub returns-then-bytes-file_length : goal.returns-then-bytes-file_length
returns-then-bytes-file_length c =
    cut _ (sym (get_or_from_slice_get c.args.bytes.now 0 _ 0 (sym c.in-Some.ensures.value))) (slice_get_within c.args.bytes.now 0 _ (sym c.in-Some.ensures.value)) (sym c.if-not-is_good.ensures)
    (λ e. c.if-bytes-file_length.true (e ∙ sym c.file_length.ensures))

pub returns : goal.returns
returns c = c.accepted.ensures ∙ ap accept c.spec_at.ensures
    ∙ whole _ (sym (get_or_from_slice_get c.args.bytes.now 0 _ 0 (sym c.in-Some.ensures.value))) (slice_get_within c.args.bytes.now 0 _ (sym c.in-Some.ensures.value)) (sym c.if-not-is_good.ensures) (c.if-bytes-file_length.false ∙ c.file_length.ensures)
