-- `form_of`: the walk over the records, and its ends.
use Rattle.tray_form.proofs.Form.{Walk}
use Rattle.tray_form.proofs.form_of.Given as goal

abbrev pub invariant-loop-count : goal.invariant-loop-count
invariant-loop-count l = Walk l.records l.at l._count
