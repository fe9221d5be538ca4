-- `request_reader::number_at` meets its contract: what is read so far is the number of the bytes from i on. Assumes nothing.
use Rattle.std.proofs.Common.{◌≡◌, ◌+◌, ◌-◌}
use Rattle.laws.specs.Bytes.{little}
use Rattle.request_reader.proofs.number_at.Given as goal

abbrev pub invariant-loop-i : goal.invariant-loop-i
invariant-loop-i l = l.r ≡ little (l.n - l.i) (l.at + l.i) l.s
