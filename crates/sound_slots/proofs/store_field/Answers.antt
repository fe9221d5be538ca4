-- `store_field`: the text before the first zero is a store name, the rest is zeros.
use Rattle.std.proofs.Common.{arith, length-take}
use Rattle.sound_slots.proofs.Laws.{field_is}
use Rattle.sound_slots.proofs.store_field.Goals as goal

pub slice_bounds-store_name-end : goal.slice_bounds-store_name-end
slice_bounds-store_name-end c = simp length-take (omega arith)

pub returns : goal.returns
returns c = field_is _ _ _ _ (omega arith) c.first_zero-n.ensures.0 (omega arith) c.store_name.ensures c.all_zero.ensures
