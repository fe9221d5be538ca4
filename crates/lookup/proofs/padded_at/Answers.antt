-- `padded_at`: a byte of the name, else a zero of the padding.
use Rattle.std.proofs.Common.{sym}
use Rattle.lookup.specs.Laws.{padded-at, padded-zero}
use Rattle.protocol.specs.Numbers.{name_size}
use Rattle.lookup.proofs.padded_at.Goals as goal

pub returns-then-i-name : goal.returns-then-i-name
returns-then-i-name c = let a = c.args in sym (padded-at name_size a.i a.name.now c.requires)

pub returns-else-i-name : goal.returns-else-i-name
returns-else-i-name c = let a = c.args in padded-zero name_size a.i a.name.now c.requires c.if-i-name.false
