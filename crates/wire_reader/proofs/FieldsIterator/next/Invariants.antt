-- `next`: the fields that are left stay the same.
use Rattle.std.proofs.Common.{◌≡◌, ◌-◌}
use Rattle.wire.specs.Numbered.{fields_from}
use Rattle.wire_reader.proofs.FieldsIterator.next.Given as goal

abbrev pub invariant-loop-self : goal.invariant-loop-self
invariant-loop-self l = let a = l.initial.self in
    let b = l.self in
    fields_from a.s.now a.at a.end a.wanted ≡ fields_from b.s.now b.at b.end b.wanted

abbrev pub decreases-loop-self : goal.decreases-loop-self
decreases-loop-self l = l.self.end - l.self.at
