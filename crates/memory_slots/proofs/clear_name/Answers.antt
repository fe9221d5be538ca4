-- `clear_name`: from `clear_at`.
use Rattle.std.proofs.Common.{◌∙◌, arith}
use Rattle.memory_slots.specs.Laws.{block-cleared}
use Rattle.protocol.specs.Numbers.{name_size}
use Rattle.protocol.proofs.Sizes.{name-size}
use Rattle.memory_slots.proofs.clear_name.Goals as goal

pub clear_at-requires : goal.clear_at-requires
clear_at-requires c = omega (arith, name-size)

pub returns : goal.returns
returns c = let a = c.args in c.clear_at.ensures ∙ block-cleared name_size 32 name-size a.k a.names.now
