-- `sweep`: the rows passed are swept.
use Rattle.std.proofs.Common.{◌≡◌}
use Rattle.rules.specs.Sweep.{sweep_rows}
use Rattle.state.specs.State.{state_of}
use Rattle.open_sweep.proofs.sweep.Given as goal

abbrev pub invariant-loop-r : goal.invariant-loop-r
invariant-loop-r l =
    state_of l.control l.table l.names l.committed l.staged l.image l.hash ≡ sweep_rows l.clock l.r (state_of l.initial.control l.initial.table
    l.initial.names l.initial.committed l.initial.staged l.initial.image l.initial.hash)
