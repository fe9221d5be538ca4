-- `run`: the run over the bytes so far, then the run over those that are left.
use Rattle.std.proofs.Common.{◌≡◌, ◌-◌, length}
use Rattle.request_answer.specs.Call.{answerable}
use Rattle.run_buffer.specs.Progress.{Progress}
use Rattle.state.specs.Memory.{state_in, SameMemory}
use Rattle.run_buffer.proofs.run.Given as goal

abbrev pub invariant-loop-text : goal.invariant-loop-text
invariant-loop-text l =
    Progress l.records (state_in l.initial.memory) l.initial.answer l.initial.text l.used l.end (state_in l.memory) l.answer l.text
    × SameMemory l.initial.memory l.memory
    × (l.able ≡ answerable (state_in l.memory) l.answer)

abbrev pub decreases-loop-text : goal.decreases-loop-text
decreases-loop-text l =
    length l.records - l.used
