-- `sweep_row`: the row is not used, not stale, or closed.
use Rattle.std.proofs.Common.{ap, sym, ◌∙◌, []}
use Rattle.open_sweep.proofs.Laws.{row-unused, row_kept, row-closed}
use Rattle.protocol.specs.Frame.{Reply}
use Rattle.state.specs.State.{State, state_of}
use Rattle.open_sweep.proofs.sweep_row.Goals as goal
use Rattle.open_sweep.proofs.sweep_row.Goals.{Start}

-- the state as it is given
abbrev given : Start → State
given c = let a = c.args in state_of a.control.now a.table.now a.names.now a.committed.now a.staged.now a.image.now a.hash.now

pub returns-then-not-has : goal.returns-then-not-has
returns-then-not-has c =
    let a = c.args in
    row-unused a.clock a.r (given (goal.at.returns-then-not-has c).Start)
    (sym c.has.ensures ∙ c.if-not-has.true)

pub returns-then-not-is_stale : goal.returns-then-not-is_stale
returns-then-not-is_stale c =
    let a = c.args in
    row_kept a.clock a.r (given (goal.at.returns-then-not-is_stale c).Start) c.read_row-e.result c.read_row-e.ensures
    (sym c.has.ensures ∙ c.if-not-has.false) _ c.is_stale.ensures c.if-not-is_stale.true

pub returns-in-AtSlot : goal.returns-in-AtSlot
returns-in-AtSlot c =
    let a = c.args in
    row-closed a.clock a.r (given (goal.at.returns-in-AtSlot c).Start)
    c.read_row-e.result c.read_row-e.ensures (sym c.has.ensures ∙ c.if-not-has.false) _ c.is_stale.ensures
    c.if-not-is_stale.false _
    (ap (λ (x : Reply × State). x.1) (c.close.ensures a.clock a.image.now a.hash.now []))

pub returns-in-AtFlash : goal.returns-in-AtFlash
returns-in-AtFlash c =
    let a = c.args in
    row-closed a.clock a.r (given (goal.at.returns-in-AtFlash c).Start)
    c.read_row-e.result c.read_row-e.ensures (sym c.has.ensures ∙ c.if-not-has.false) _ c.is_stale.ensures
    c.if-not-is_stale.false _
    (ap (λ (x : Reply × State). x.1) (c.close-in-AtFlash.ensures a.clock a.names.now a.committed.now a.staged.now []))
