-- `mask::set_bit`: or with the weight of the bit.
use Rattle.std.proofs.Common.{arith}
use Rattle.state.proofs.Laws.{code-set}
use Rattle.state.proofs.mask.set_bit.Goals as goal

pub returns : goal.returns
returns c = code-set c.args.i c.args.mask (omega arith)
