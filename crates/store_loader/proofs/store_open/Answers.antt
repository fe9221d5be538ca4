-- `store_open`: the loop carries the answer for the rows passed.
use Rattle.std.proofs.Common.{ap, arith}
use Rattle.std.specs.Prelude.{not}
use Rattle.laws.specs.All.{all_start, all-step, all_end}
use Rattle.store_file.specs.Loaded.{store_open}
use Rattle.store_loader.proofs.store_open.Goals as goal

pub loop-r-init : goal.loop-r-init
loop-r-init c = λ s. all_start _

pub loop-r-preserved : goal.loop-r-preserved
loop-r-preserved c = λ s. all-step _ _ _ _ (c.loop-r.invariant s) (ap not (c.on_store.ensures s))

pub returns : goal.returns
unfolding store_open
returns c = λ s. ap not (all_end _ _ _ _ (omega arith) (omega arith) (c.loop-r.invariant s))
