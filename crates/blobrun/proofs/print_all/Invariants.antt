-- `print_all`: the bytes that wait lie in the input.
use Rattle.std.proofs.Common.{◌≤◌, length}
use Rattle.blobrun.proofs.print_all.Given as goal

abbrev pub invariant-loop : goal.invariant-loop
invariant-loop g l = l.filled ≤ length l.input
