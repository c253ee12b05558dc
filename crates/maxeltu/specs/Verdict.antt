-- Document 01, "The loader's call, made from C with two byte strings: reads both, with 512 places, then checks; 0 or the first number
-- met, the specification's first."
use Rattle.std.specs.Prelude.{ℕ, List, Result, Ok, Err}
use Rattle.spec.specs.declared.Spec.{Spec}
use Rattle.spec.specs.File.{read_spec, if_read}
use Rattle.cycle.specs.Check.{check_number}
use Rattle.pairs.specs.declared.Pair.{Pair}
use Rattle.cyclefile.specs.File.{read_cycle}

-- the number of a cycle that is read so
unfoldable pub verdict_read : Spec → Result (List Pair) ℕ → ℕ
verdict_read s (Err n) = n
verdict_read s (Ok ps) = check_number s ps

unfoldable pub verdict_of : List ℕ → List ℕ → ℕ
verdict_of spec cycle = if_read (read_spec spec) (λ s. verdict_read s (read_cycle 512 cycle)) (λ n. n)
