-- `answer_all`: the messages done so far, then those that are left.
use Rattle.std.proofs.Common.{◌-◌}
use Rattle.state.specs.Memory.{state_in, SameMemory}
use Rattle.tray.specs.Tray.{tray_most}
use Rattle.tray_messages.proofs.Progress.{Progress}
use Rattle.tray_messages.proofs.answer_all.Given as goal

abbrev pub invariant-loop-done : goal.invariant-loop-done
invariant-loop-done l =
    SameMemory l.initial.memory l.memory
    × Progress l.records (state_in l.initial.memory) l.initial.responses l.initial.results l.at l.done l.end (state_in l.memory) l.responses l.results

abbrev pub decreases-loop-done : goal.decreases-loop-done
decreases-loop-done l =
    tray_most - l.done
