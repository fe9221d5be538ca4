-- `clear_region`: from `clear_at`.
use Rattle.std.proofs.Common.{◌∙◌, arith}
use Rattle.memory_slots.specs.Laws.{block-cleared}
use Rattle.protocol.specs.Numbers.{slot_size}
use Rattle.protocol.proofs.Sizes.{slot-size}
use Rattle.memory_slots.proofs.clear_region.Goals as goal

pub clear_at-requires : goal.clear_at-requires
clear_at-requires c = omega (arith, slot-size)

pub returns : goal.returns
returns c = let a = c.args in c.clear_at.ensures ∙ block-cleared slot_size 4096 slot-size a.k a.dst.now
