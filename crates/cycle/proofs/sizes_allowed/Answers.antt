use borrow.Author.Rules.{rules}
use borrow.Author.Tests.{tests}
use mathlib.Core.Path.{◌∙◌}
use lib.ListN.{get_or}
use Rattle.std.proofs.lemmas.Iterator.{YieldsList-from_slice}
use Rattle.std.proofs.lemmas.Iterator.Search.{all_from_yields_List}
use Rattle.spec.specs.Limits.{size_allowed}
use Rattle.cycle.proofs.Chunks.{sizes_walk}
use Rattle.cycle.proofs.sizes_allowed.Goals as goal

pub returns : goal.returns
returns c = all_from_yields_List (λ x. size_allowed c.args.spec (get_or x 1 0)) _ _ _ c.all.ensures.ran (YieldsList-from_slice c.args.pairs.now cc) (λ x b q k. search (rules, tests)) ∙ sizes_walk _ _
