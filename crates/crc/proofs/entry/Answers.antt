-- `entry`: the list that the table is has the rule's value at each place.
use Rattle.std.proofs.Common.{ℕ, ◌*◌}
use Rattle.crc.specs.Crc.{shifts, table}
use Rattle.crc.specs.Values.{at}
use Rattle.crc.proofs.entry.Goals as goal

pub returns : goal.returns
unfolding table
returns c = rw c.requires (at (λ (k : ℕ). shifts 8 (k * 256)) 256 c.args.b c.ranges.b.fits)
