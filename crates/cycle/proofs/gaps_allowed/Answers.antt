use borrow.Author.Rules.{rules}
use borrow.Author.Tests.{tests}
use mathlib.Core.Path.{◌∙◌}
use lib.ListN.{get_or}
use Rattle.std.proofs.lemmas.Iterator.{YieldsList-from_slice}
use Rattle.std.proofs.lemmas.Iterator.Search.{all_from_yields_List}
use Rattle.spec.specs.Limits.{gap_allowed}
use Rattle.cycle.proofs.Chunks.{gaps_walk}
use Rattle.cycle.proofs.gaps_allowed.Goals as goal

pub returns : goal.returns
returns c = all_from_yields_List (λ x. gap_allowed c.args.spec (get_or x 0 0)) _ _ _ c.all.ensures.ran (YieldsList-from_slice c.args.pairs.now cc) (λ x b q k. search (rules, tests)) ∙ gaps_walk _ _
