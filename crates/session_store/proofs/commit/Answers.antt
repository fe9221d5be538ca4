-- `commit`: refused for its length or to a session without WRITE; else staged becomes committed.
use Rattle.std.proofs.Common.{ap, sym, ◌∙◌, List, ℕ}
use Rattle.laws.specs.Ranges.{block}
use Rattle.protocol.specs.Numbers.{row_words}
use Rattle.session_store.proofs.Laws.{commit-cc, commit-d5, commit-is}
use Rattle.state.specs.Entry.{words_of, lifted}
use Rattle.state.specs.State.{state_of}
use Rattle.state.specs.declared.row.Entry.{Entry}
use Rattle.session_store.proofs.commit.Goals as goal

pub returns-then-not-commit_fits : goal.returns-then-not-commit_fits
returns-then-not-commit_fits c =
    let a = c.args in
    λ (n im h x : List ℕ).
    (commit-cc (state_of a.control.now a.table.now n a.committed.now a.staged.now im h) a.r a.e c.requires.0.words_of_row c.requires.1.0 a.clock a.len a.rest
    (sym c.commit_fits.ensures ∙ c.if-not-commit_fits.true))

pub returns-then-not-writes : goal.returns-then-not-writes
returns-then-not-writes c =
    let a = c.args in
    λ (n im h x : List ℕ).
    (commit-d5 (state_of a.control.now a.table.now n a.committed.now a.staged.now im h) a.r a.e c.requires.0.words_of_row c.requires.1.0 a.clock a.len a.rest
    (sym c.commit_fits.ensures ∙ c.if-not-commit_fits.false) (sym c.writes.ensures ∙ c.if-not-writes.true))

pub returns : goal.returns
returns c =
    let a = c.args in
    λ (n im h x : List ℕ).
    (commit-is (state_of a.control.now a.table.now n a.committed.now a.staged.now im h) a.r a.e c.requires.0.words_of_row c.requires.1.0 a.clock a.len a.rest
    c.write_row.new.table c.copy_region.new.dst c.set_bit-control.result (sym c.commit_fits.ensures ∙ c.if-not-commit_fits.false)
    (sym c.writes.ensures ∙ c.if-not-writes.false)
    (c.write_row.ensures ∙ ap (λ (y : Entry). (block row_words a.r).put (words_of y) a.table.now) (c.lifted.ensures ∙ ap (λ (y : Entry). lifted y a.clock) c.with_clean.ensures))
    c.copy_region.ensures c.set_bit-control.ensures)
