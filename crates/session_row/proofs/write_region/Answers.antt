-- `write_region`: each way out is one of the ways of `written`.
use Rattle.std.proofs.Common.{refl, le-leb}
use Rattle.std.proofs.lemmas.Bool.{lt-leb}
use Rattle.session_row.proofs.write_region.Goals as goal

pub returns-then-len-offset : goal.returns-then-len-offset
returns-then-len-offset c = (rw (lt-leb _ _ c.if-len-offset.true), refl)

pub returns-then-capacity-end : goal.returns-then-capacity-end
returns-then-capacity-end c = (rw (le-leb _ _ c.if-len-offset.false, lt-leb _ _ c.if-capacity-end.true), refl)

pub returns : goal.returns
returns c = (rw (le-leb _ _ c.if-len-offset.false, le-leb _ _ c.if-capacity-end.false, c.max.ensures), c.copy_at.ensures)
