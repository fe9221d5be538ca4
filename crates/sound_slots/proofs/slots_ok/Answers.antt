-- `slots_ok`: the loop carries the answer for the slots passed.
use Rattle.std.proofs.Common.{arith}
use Rattle.laws.specs.All.{all_start, all-step, all_end}
use Rattle.sound_slots.proofs.slots_ok.Goals as goal

pub loop-k-init : goal.loop-k-init
loop-k-init c = λ i h. all_start _

pub loop-k-preserved : goal.loop-k-preserved
loop-k-preserved c = λ i h. all-step _ _ _ _ (c.loop-k.invariant i h) (c.slot_ok-ok.ensures i h)

pub returns : goal.returns
returns c = λ i h. all_end _ _ _ _ (omega arith) (omega arith) (c.loop-k.invariant i h)
