-- `used_slot`: from its name field.
use Rattle.std.proofs.Common.{arith, ◌∙◌, ap, ◌*◌, length}
use Rattle.laws.specs.Ranges.{length_part, lent-part}
use Rattle.protocol.specs.Numbers.{name_size, slot_size}
use Rattle.state.specs.Soundness.{used_slot}
use Rattle.sound_slots.proofs.used_slot.Goals as goal

pub slice_bounds-store_field-end : goal.slice_bounds-store_field-end
unfolding name_size
slice_bounds-store_field-end c = omega arith

pub store_field-requires : goal.store_field-requires
unfolding name_size
store_field-requires c = let l = c.args.names.now in let k = c.args.k in ap length (lent-part (k * 32) 32 l) ∙ length_part (k * 32) 32 l (omega arith)

pub returns : goal.returns
unfolding used_slot name_size slot_size
returns c = λ b. rw (c.store_field.ensures, lent-part (c.args.k * 32) 32 c.args.names.now)
