-- `fresh`: all zeros.
use Rattle.std.proofs.Common.{refl}
use Rattle.state.specs.Words.{fresh}
use Rattle.run_buffer.proofs.fresh.Goals as goal

pub returns : goal.returns
unfolding fresh
returns c = refl
