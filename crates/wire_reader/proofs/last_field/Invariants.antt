-- `last_field`: what is found so far is the last, unless a later one is left.
use Rattle.wire_reader.specs.Left.{left}
use Rattle.wire_reader.proofs.Numbers.{Lasts}
use Rattle.wire_reader.proofs.last_field.Given as goal

abbrev pub invariant-loop-field : goal.invariant-loop-field
invariant-loop-field l = Lasts l.s l.from l.end l.wanted l.value (left l.field-iterator)
