-- What was read so far is the front of the input, and stands in the first places.
use Prim.Native.Nat.{◌≤◌, ◌-◌}
use lib.ListN.{length, take}
use Rattle.std.specs.Io.KnownBytes.{Consumes}
use Rattle.evenplan.proofs.read_front.Given as goal

abbrev pub invariant-loop-read : goal.invariant-loop-read
invariant-loop-read g l = (l.read ≤ length l.places) × Consumes (g.R.Read.remaining l.fn.input) (g.R.Read.remaining l.input) (take l.read l.places)

abbrev pub decreases-loop-read : goal.decreases-loop-read
decreases-loop-read g l = length l.places - l.read
