-- `zero_region`: the loop carries the answer for the blocks passed.
use Rattle.std.proofs.Common.{arith}
use Rattle.protocol.specs.Numbers.{slot_size}
use Rattle.sound_slots.proofs.Laws.{blocks_start, blocks_more, blocks_end}
use Rattle.sound_slots.proofs.zero_region.Goals as goal

pub loop-j-init : goal.loop-j-init
loop-j-init c = blocks_start _ _

pub overflow_add-at : goal.overflow_add-at
unfolding slot_size
overflow_add-at c = omega arith

pub zero_part-ok-requires : goal.zero_part-ok-requires
unfolding slot_size
zero_part-ok-requires c = omega arith

pub loop-j-preserved : goal.loop-j-preserved
loop-j-preserved c = blocks_more _ _ _ _ _ c.loop-j.invariant c.zero_part-ok.ensures

pub returns : goal.returns
returns c = blocks_end _ _ _ _ c.loop-j.invariant (omega arith)
