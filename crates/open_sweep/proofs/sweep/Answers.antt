-- `sweep`: not due, or row after row.
use Rattle.std.proofs.Common.{sym, ◌∙◌, arith}
use Rattle.open_sweep.proofs.Laws.{none-swept, one_more, not-due, all-swept}
use Rattle.state.specs.State.{State, state_of}
use Rattle.open_sweep.proofs.sweep.Goals as goal
use Rattle.open_sweep.proofs.sweep.Goals.{Start}

-- the state as it is given
abbrev given : Start → State
given c = let a = c.args in state_of a.control.now a.table.now a.names.now a.committed.now a.staged.now a.image.now a.hash.now

pub returns-then-not-is_due : goal.returns-then-not-is_due
returns-then-not-is_due c =
    let a = c.args in
    not-due a.clock (given (goal.at.returns-then-not-is_due c).Start) (sym c.is_due.ensures ∙ c.if-not-is_due.true)

pub loop-r-init : goal.loop-r-init
loop-r-init c =
    let a = c.args in
    none-swept a.clock (given (goal.at.loop-r-init c).Start)

pub loop-r-preserved : goal.loop-r-preserved
loop-r-preserved c =
    let a = c.args in
    one_more a.clock c.loop-r.r (given (goal.at.loop-r-preserved c).Start) _ _ c.loop-r.invariant c.sweep_row.ensures

pub returns : goal.returns
returns c =
    let a = c.args in
    all-swept a.clock (given (goal.at.returns c).Start)
    (sym c.is_due.ensures ∙ c.if-not-is_due.false) c.loop-r.r _ (omega arith) c.loop-r.invariant
