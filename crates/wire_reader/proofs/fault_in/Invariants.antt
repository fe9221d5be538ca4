-- `fault_in`: the fault of the message is the fault of what is still to come.
use Rattle.std.proofs.Common.{◌≡◌, ◌-◌}
use Rattle.wire.specs.Fields.{store_keys}
use Rattle.wire.specs.Walk.{walk}
use Rattle.wire_reader.proofs.fault_in.Given as goal

abbrev pub invariant-loop-at : goal.invariant-loop-at
invariant-loop-at l = (walk store_keys l.s l.from l.end).fault ≡ (walk store_keys l.s l.at l.end).fault

abbrev pub decreases-loop-at : goal.decreases-loop-at
decreases-loop-at l = l.end - l.at
