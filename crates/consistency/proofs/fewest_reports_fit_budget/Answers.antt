-- A 16-bit number times a quotient of two of them, rounded up, fits.
use borrow.Author.Rules.{rules}
use Rattle.numbers.proofs.Ceilings.{ceil_bound}
use Rattle.spec.proofs.Products.{fits_mul}
use Rattle.consistency.proofs.fewest_reports_fit_budget.Goals as goal

pub overflow_mul-result : goal.overflow_mul-result
overflow_mul-result c = record { fits = fits_mul 64 65535 131070 tt (search rules) (ceil_bound 65535 65535 c.ceil_div-fewest.ensures (search rules) (search rules)) }
