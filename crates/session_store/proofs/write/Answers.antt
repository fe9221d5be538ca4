-- `write`: refused to a session without WRITE; else what `write_region` comes to.
use Rattle.std.proofs.Common.{ap, sym, ◌∙◌, List, ℕ, arith}
use Rattle.std.proofs.lemmas.Result.{err_from_is_err_and}
use Rattle.protocol.proofs.Sizes.{slot-size}
use Rattle.session_store.proofs.Laws.{write-d5, write-refused, write-accepted}
use Rattle.state.specs.Entry.{lifted}
use Rattle.state.specs.State.{state_of}
use Rattle.state.specs.declared.row.Entry.{Entry}
use Rattle.session_store.proofs.write.Goals as goal

pub returns-then-not-writes : goal.returns-then-not-writes
returns-then-not-writes c =
    let a = c.args in
    λ (n cm im h x : List ℕ).
    (write-d5 (state_of a.control.now a.table.now n cm a.staged.now im h) a.r a.e c.requires.0.words_of_row c.requires.1.0 a.clock a.offset a.bytes.now
    (sym c.writes.ensures ∙ c.if-not-writes.true))

pub write_region-requires : goal.write_region-requires
write_region-requires c = (omega (arith, slot-size), omega arith)

pub returns-in_err-written : goal.returns-in_err-written
returns-in_err-written c =
    let a = c.args in
    λ (n cm im h x : List ℕ).
    let passed = err_from_is_err_and c.from_residual.result c.from_residual.ensures.1 in
    rw (passed.1, passed.2) (
    write-refused (state_of a.control.now a.table.now n cm a.staged.now im h) a.r a.e c.requires.0.words_of_row c.requires.1.0 a.clock a.offset a.bytes.now x
    c.write_region.result c.write_region.new.region c.requires.1.1 (sym c.writes.ensures ∙ c.if-not-writes.false)
    c.write_region.ensures.0 c.write_region.ensures.1 _ c.in_err-written.was
    )

pub returns : goal.returns
returns c =
    let a = c.args in
    λ (n cm im h x : List ℕ).
    write-accepted (state_of a.control.now a.table.now n cm a.staged.now im h) a.r a.e c.requires.0.words_of_row c.requires.1.0 a.clock a.offset a.bytes.now x
    c.write_region.result c.write_region.new.region c.requires.1.1 (sym c.writes.ensures ∙ c.if-not-writes.false)
    c.write_region.ensures.0 c.write_region.ensures.1 c.in_ok-written.written c.lifted.result c.write_row.new.table c.in_ok-written.was
    (c.lifted.ensures ∙ ap (λ (y : Entry). lifted y a.clock) c.after_write.ensures) c.write_row.ensures
