-- `store_flags`: the definition's two tests.
use Rattle.std.proofs.Common.{refl}
use Rattle.state.specs.Words.{store_flags}
use Rattle.state.proofs.row.store_flags.Goals as goal

pub returns : goal.returns
unfolding store_flags
returns c = refl
