-- `fault_in`: the fault of the message is the fault of what is still to come.
use Rattle.std.proofs.Common.{refl, sym, ◌∙◌, arith}
use Rattle.wire.proofs.Passed.{passed}
use Rattle.wire.proofs.Steps.{Here, here-less}
use Rattle.wire.specs.Fields.{store_keys}
use Rattle.wire_reader.proofs.WalkWays.{fault-end, fault-found, fault-on}
use Rattle.wire_reader.proofs.fault_in.Goals as goal
use Rattle.wire_reader.proofs.fault_in.Goals.{In_ok-field}

-- the field that stands at the place
here : (c : In_ok-field) → let a = c.args in
    let f = c.in_ok-field.field in
    Here store_keys a.s.now c.loop-at.at a.end f.number f.kind f.start f.next
here c = record { inside = omega arith; field = sym c.field_at.ensures ∙ c.in_ok-field.was }

pub loop-at-init : goal.loop-at-init
loop-at-init c = refl

pub returns-in_err-field : goal.returns-in_err-field
returns-in_err-field c =
    passed c.from_residual.result _ c.from_residual.ensures
    ∙ fault-found _ _ _ _ c.loop-at.invariant (record { inside = omega arith; field = sym c.field_at.ensures ∙ c.in_err-field.was })

pub loop-at-smaller : goal.loop-at-smaller
loop-at-smaller c = here-less (here (goal.at.loop-at-smaller c).In_ok-field)

pub loop-at-preserved : goal.loop-at-preserved
loop-at-preserved c = fault-on _ _ _ _ c.loop-at.invariant (here (goal.at.loop-at-preserved c).In_ok-field)

pub returns : goal.returns
returns c = fault-end _ _ _ _ c.loop-at.invariant (omega arith)
