-- `fixed_at`: the value ends past the end, or is there.
use Rattle.wire_reader.proofs.Ways.{fixed-whole, fixed-past}
use Rattle.wire_reader.proofs.fixed_at.Goals as goal

pub returns-then-end-start : goal.returns-then-end-start
returns-then-end-start c = fixed-past _ _ _ _ _ c.if-end-start.true

pub returns : goal.returns
returns c = fixed-whole _ _ _ _ _ c.if-end-start.false
