-- `unused_slot`: from its three parts.
use Rattle.std.proofs.Common.{arith}
use Rattle.protocol.specs.Numbers.{name_size, slot_size}
use Rattle.state.specs.Soundness.{unused_slot}
use Rattle.sound_slots.proofs.unused_slot.Goals as goal

pub zero_part-requires : goal.zero_part-requires
unfolding name_size
zero_part-requires c = omega arith

pub zero_region-requires : goal.zero_region-requires
unfolding slot_size
zero_region-requires c = omega arith

pub zero_region-requires-2 : goal.zero_region-requires-2
unfolding slot_size
zero_region-requires-2 c = omega arith

pub returns : goal.returns
unfolding unused_slot name_size slot_size
returns c = λ b. rw (c.zero_part.ensures, c.zero_region.ensures, c.zero_region-2.ensures)
