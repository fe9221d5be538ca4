-- `copy_region`: from `copy_at`, lent a part of src.
use Rattle.std.proofs.Common.{◌∙◌, arith, rules}
use Rattle.memory_slots.specs.Laws.{block-copied}
use Rattle.protocol.specs.Numbers.{slot_size}
use Rattle.protocol.proofs.Sizes.{slot-size}
use Rattle.memory_slots.proofs.copy_region.Goals as goal

pub slice_bounds-copy_at-end : goal.slice_bounds-copy_at-end
slice_bounds-copy_at-end c = omega (arith, slot-size)

pub copy_at-requires : goal.copy_at-requires
copy_at-requires c = search (rules, slot-size)

pub returns : goal.returns
returns c = let a = c.args in c.copy_at.ensures ∙ block-copied slot_size 4096 slot-size a.k a.dst.now a.src.now
