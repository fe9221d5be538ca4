-- `next`: the first of the fields that are left, and those behind it.
use Rattle.std.proofs.Common.{rules, sym, ◌∙◌, ap, arith, List, length}
use Rattle.wire.specs.declared.Field.{Field}
use Rattle.wire.proofs.Passed.{ok-there, ok-missing}
use Rattle.wire.proofs.Steps.{Here, here-less}
use Rattle.wire.specs.Fields.{store_keys}
use Rattle.wire_reader.proofs.Numbers.{left-end, left-fault, left-hit, left-miss}
use Rattle.wire_reader.proofs.FieldsIterator.next.Goals as goal
use Rattle.wire_reader.proofs.FieldsIterator.next.Goals.{In_ok-field}

-- the field that stands at the place
here : (c : In_ok-field) → let a = c.loop-self.self in
    let f = c.in_ok-field.field in
    Here store_keys a.s.now a.at a.end f.number f.kind f.start f.next
here c = record { inside = omega arith; field = sym c.field_at.ensures ∙ ok-there c.field_at.result c.in_ok-field.field c.in_ok-field.ensures.value }

pub returns-in_err-field-clause-steps : goal.returns-in_err-field-clause-steps
returns-in_err-field-clause-steps c =
    let a = c.loop-self.self in
    let e = ok-missing c.field_at.result c.in_err-field.ensures.value in
    let n = left-fault a.s.now a.at a.end a.wanted (record { inside = omega arith; field = sym c.field_at.ensures ∙ e.1 }) in
    rw c.from_residual.ensures (c.loop-self.invariant ∙ n, n)

pub returns-then-field-self-clause-steps : goal.returns-then-field-self-clause-steps
returns-then-field-self-clause-steps c =
    let a = c.loop-self.self in
    c.loop-self.invariant ∙ left-hit a.s.now a.at a.end a.wanted (here (goal.at.returns-then-field-self-clause-steps c).In_ok-field) c.if-field-self.true

pub returns-then-field-self-clause-goes : goal.returns-then-field-self-clause-goes
returns-then-field-self-clause-goes c =
    let a = c.loop-self.self in
    let e = c.loop-self.invariant ∙ left-hit a.s.now a.at a.end a.wanted (here (goal.at.returns-then-field-self-clause-goes c).In_ok-field) c.if-field-self.true in
    let l = ap (λ (fs : List Field). length fs) e in
    search (rules, l)

pub loop-self-smaller : goal.loop-self-smaller
loop-self-smaller c = here-less (here (goal.at.loop-self-smaller c).In_ok-field)

pub loop-self-preserved : goal.loop-self-preserved
loop-self-preserved c =
    let a = c.loop-self.self in
    c.loop-self.invariant ∙ left-miss a.s.now a.at a.end a.wanted (here (goal.at.loop-self-preserved c).In_ok-field) c.if-field-self.false

pub returns-clause-steps : goal.returns-clause-steps
returns-clause-steps c =
    let a = c.loop-self.self in
    let n = left-end a.s.now a.at a.end a.wanted (omega arith) in
    (c.loop-self.invariant ∙ n, n)
