-- `mark`: the places passed are set, and whatever was set stays so.
use Rattle.name_filter.proofs.Laws.{MarkedTo}
use Rattle.name_filter.proofs.Filter.mark.Given as goal

abbrev pub invariant-loop-i : goal.invariant-loop-i
invariant-loop-i l = MarkedTo l.initial.self.words l.hash l.i l.self.words
