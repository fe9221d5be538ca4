-- `mask::clear_bit`: and with the complement of the weight of the bit.
use Rattle.std.proofs.Common.{arith}
use Rattle.state.proofs.Laws.{code-clear}
use Rattle.state.proofs.mask.clear_bit.Goals as goal

pub returns : goal.returns
returns c = code-clear c.args.i c.args.mask (omega arith) (omega arith)
