-- `close`: of a session without WRITE, of a slot never committed, of a committed slot.
use Rattle.std.proofs.Common.{ap, sym, ◌∙◌, List, ℕ}
use Rattle.std.specs.Prelude.{not}
use Rattle.laws.specs.All.{flag_true, flag-false}
use Rattle.protocol.specs.Frame.{done}
use Rattle.session_store.proofs.Laws.{close-read, close-kept, close-fresh}
use Rattle.state.specs.State.{State, state_of}
use Rattle.session_store.proofs.close.Goals as goal

pub returns-then-not-writes : goal.returns-then-not-writes
returns-then-not-writes c =
    let a = c.args in
    λ (t : ℕ) (im h x : List ℕ).
    (close-read (state_of a.control.now a.table.now a.names.now a.committed.now a.staged.now im h) a.r a.e c.requires.0.words_of_row
    c.requires.1.0 t c.clear_row.new.table c.clear_bit-control.result c.clear_row.ensures c.clear_bit-control.ensures
    (sym c.writes.ensures ∙ c.if-not-writes.true))

pub returns-then-not-has : goal.returns-then-not-has
returns-then-not-has c =
    let a = c.args in
    λ (t : ℕ) (im h x : List ℕ).
    (ap (λ (y : State). (done, y)) (c.free_slot.ensures c.clear_row.new.table im h)
    ∙ close-fresh (state_of a.control.now a.table.now a.names.now a.committed.now a.staged.now im h) a.r a.e c.requires.0.words_of_row c.requires.1.0 t c.clear_row.new.table
    c.clear_bit-control.result c.clear_row.ensures c.clear_bit-control.ensures (sym c.writes.ensures ∙ c.if-not-writes.false)
    (flag-false c.has.ensures (ap not c.if-not-has.true)))

pub returns : goal.returns
returns c =
    let a = c.args in
    λ (t : ℕ) (im h x : List ℕ).
    (close-kept (state_of a.control.now a.table.now a.names.now a.committed.now a.staged.now im h) a.r a.e c.requires.0.words_of_row
    c.requires.1.0 t c.clear_row.new.table c.clear_bit-control.result c.clear_row.ensures c.clear_bit-control.ensures
    c.clear_region.new.dst (sym c.writes.ensures ∙ c.if-not-writes.false) (flag_true c.has.ensures (ap not c.if-not-has.false)) c.clear_region.ensures)
