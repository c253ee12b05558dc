-- A text that took the whole line holds the line, and is handed over whole.
use Rattle.std.proofs.Common.{OnOk, take, subst, ◌∙◌}
use Rattle.std.specs.Io.KnownBytes.{Appends}
use Rattle.std.proofs.lemmas.Fmt.{contents_after_writes}
use Rattle.evenplan.proofs.write_line.Goals as goal

pub returns-in-Ok : goal.returns-in-Ok
returns-in-Ok g c =
    subst (λ bs. OnOk c.write_all.result (Appends (g.W.Write.contents c.args.out.now) (g.W.Write.contents c.write_all.new.self) bs))
    (contents_after_writes _ (λ t. take t.length t.bytes) (λ _ _ _ e. e) _ _ _ c.in-Ok.ensures.writes ∙ c.requires)
    c.write_all.ensures.bytes
