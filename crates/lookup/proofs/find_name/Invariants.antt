-- `find_name`: the slots behind do not hold the name.
use Rattle.lookup.specs.Laws.{SlotsBehind}
use Rattle.lookup.proofs.find_name.Given as goal

abbrev pub invariant-loop-left : goal.invariant-loop-left
invariant-loop-left l = SlotsBehind l.name l.slots l.names l.left

abbrev pub decreases-loop-left : goal.decreases-loop-left
decreases-loop-left l = l.left
