-- `names_same`: from the two name fields.
use Rattle.std.proofs.Common.{arith}
use Rattle.protocol.specs.Numbers.{name_size}
use Rattle.sound_slots.specs.Slots.{names_same}
use Rattle.sound_slots.proofs.names_same.Goals as goal

pub same_part-requires : goal.same_part-requires
unfolding name_size
same_part-requires c = omega arith

pub returns : goal.returns
unfolding names_same name_size
returns c = λ slots s. c.same_part.ensures
