-- `mask::bit_of`: shifted down and masked, the bit at its place.
use Rattle.laws.specs.Bits.{bit-and}
use Rattle.state.proofs.mask.bit_of.Goals as goal

pub returns : goal.returns
returns c = bit-and c.args.i c.args.mask
