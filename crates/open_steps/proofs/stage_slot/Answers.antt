-- `stage_slot`: the slot as it is, or with its committed region and length staged.
use Rattle.std.proofs.Common.{sym, ◌∙◌}
use Rattle.open_steps.specs.Laws.{held-read, held-written}
use Rattle.state.specs.State.{state_of}
use Rattle.open_steps.proofs.stage_slot.Goals as goal

pub returns-then-writes_with : goal.returns-then-writes_with
returns-then-writes_with c =
    λ t n i h.
    let a = c.args in
    held-written a.k a.flags (state_of a.control.now t n a.committed.now a.staged.now i h) (sym c.writes_with.ensures ∙ c.if-writes_with.true) _ c.copy_region.ensures

pub returns-else-writes_with : goal.returns-else-writes_with
returns-else-writes_with c =
    λ t n i h.
    let a = c.args in
    held-read a.k a.flags (state_of a.control.now t n a.committed.now a.staged.now i h) (sym c.writes_with.ensures ∙ c.if-writes_with.false)
