-- `store_fault`: the fault of the file is the fault of what is still to come.
use Rattle.std.proofs.Common.{refl, sym, ◌∙◌, arith}
use Rattle.store_check.proofs.Ways.{store-end, store_found, store-inner, store-blob, store_other}
use Rattle.store_file.specs.ScanLaws.{Here}
use Rattle.wire.proofs.Passed.{passed}
use Rattle.wire.proofs.Steps.{here-within, here-less}
use Rattle.store_check.proofs.store_fault.Goals as goal
use Rattle.store_check.proofs.store_fault.Goals.{In_ok-field}

-- the field that stands at the place
here : (c : In_ok-field) → let f = c.in_ok-field.field in
    Here c.args.file.now c.loop-at.at f.number f.kind f.start f.next
here c = record { inside = omega arith; field = sym c.field_at.ensures ∙ c.in_ok-field.was }

pub loop-at-init : goal.loop-at-init
loop-at-init c = refl

pub returns-in_err-field : goal.returns-in_err-field
returns-in_err-field c =
    let l = c.loop-at in
    passed c.from_residual.result _ c.from_residual.ensures
    ∙ store_found c.args.file.now l.at l.invariant c.in_err-field.field-0.0 (omega arith) (sym c.field_at.ensures ∙ c.in_err-field.was)

pub fault_in-requires : goal.fault_in-requires
fault_in-requires c = here-within (here (goal.at.fault_in-requires c).In_ok-field)

pub returns-in_err-fault_in : goal.returns-in_err-fault_in
returns-in_err-fault_in c =
    passed c.from_residual-in_err-fault_in.result _ c.from_residual-in_err-fault_in.ensures
    ∙ store-inner _ c.loop-at.at c.loop-at.invariant _ _ _ _ (here (goal.at.returns-in_err-fault_in c).In_ok-field) _ c.if-field-eq-STORE_BLOB.true
    (sym c.fault_in.ensures ∙ c.in_err-fault_in.was)

pub loop-at-smaller-in_ok-fault_in : goal.loop-at-smaller-in_ok-fault_in
loop-at-smaller-in_ok-fault_in c = here-less (here (goal.at.loop-at-smaller-in_ok-fault_in c).In_ok-field)

pub loop-at-preserved-in_ok-fault_in : goal.loop-at-preserved-in_ok-fault_in
loop-at-preserved-in_ok-fault_in c =
    store-blob _ c.loop-at.at c.loop-at.invariant _ _ _ _ (here (goal.at.loop-at-preserved-in_ok-fault_in c).In_ok-field) c.if-field-eq-STORE_BLOB.true
    (sym c.fault_in.ensures ∙ c.in_ok-fault_in.was)

pub loop-at-smaller : goal.loop-at-smaller
loop-at-smaller c = here-less (here (goal.at.loop-at-smaller c).In_ok-field)

pub loop-at-preserved : goal.loop-at-preserved
loop-at-preserved c = store_other _ c.loop-at.at c.loop-at.invariant _ _ _ _ (here (goal.at.loop-at-preserved c).In_ok-field) c.if-field-eq-STORE_BLOB.false

pub returns : goal.returns
returns c = let l = c.loop-at in store-end c.args.file.now l.at l.invariant (omega arith)
