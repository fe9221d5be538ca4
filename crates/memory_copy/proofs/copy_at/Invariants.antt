-- `copy_at`: the buffer so far is the paste of what was passed.
use Rattle.memory_copy.specs.Laws.{Stored}
use Rattle.memory_copy.proofs.copy_at.Given as goal

abbrev pub invariant-loop-i : goal.invariant-loop-i
invariant-loop-i g l = Stored l.initial.dst l.at l.src l.i l.dst
