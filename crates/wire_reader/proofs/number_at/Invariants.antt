-- `number_at`: what is read so far, the weight of the next byte, and the number that is still to come.
use Rattle.std.proofs.Common.{◌-◌}
use Rattle.wire_reader.proofs.Carry.{Carries}
use Rattle.wire_reader.proofs.number_at.Given as goal

abbrev pub invariant-loop-step : goal.invariant-loop-step
invariant-loop-step l = Carries l.s l.at l.end l.value l.weight l.i (10 - l._step)
