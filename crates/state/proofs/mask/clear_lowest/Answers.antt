-- `clear_lowest`: by the law.
use Rattle.std.proofs.Common.{arith}
use Rattle.laws.specs.SetBits.{lowest-off}
use Rattle.state.proofs.mask.clear_lowest.Goals as goal

pub returns : goal.returns
returns c = lowest-off 32 c.args.mask c.requires (omega arith)
