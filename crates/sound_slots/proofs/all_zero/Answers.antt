-- `all_zero`: the loop carries the answer for the bytes passed.
use Rattle.std.proofs.Common.{arith, refl}
use Rattle.laws.specs.All.{all_start, all-step, all_end}
use Rattle.laws.specs.Bytes.{zeros}
use Rattle.sound_slots.proofs.all_zero.Goals as goal

pub loop-b-init : goal.loop-b-init
loop-b-init c = all_start _

pub loop-b-preserved : goal.loop-b-preserved
loop-b-preserved c = all-step _ _ _ _ c.loop-b.invariant refl

pub returns : goal.returns
unfolding zeros
returns c = all_end _ _ _ _ (omega arith) (omega arith) c.loop-b.invariant
