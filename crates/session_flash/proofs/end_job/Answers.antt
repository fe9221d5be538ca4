-- `outcome`: of a running job, or refused.
use Rattle.std.proofs.lemmas.Bool.{eqb-false}
use Rattle.std.proofs.Common.{eqb-true, ◌≡◌, sym, ◌∙◌, ap, List, ℕ}
use Rattle.laws.specs.Ranges.{block}
use Rattle.protocol.specs.Numbers.{row_words}
use Rattle.session_flash.proofs.Laws.{outcome-d5, outcome-is}
use Rattle.state.specs.Entry.{words_of, status_set}
use Rattle.state.specs.State.{state_of}
use Rattle.state.specs.Words.{status_in}
use Rattle.state.specs.declared.row.Entry.{Entry}
use Rattle.session_flash.proofs.end_job.Goals as goal

pub returns-then-is_running-clause-ended : goal.returns-then-is_running-clause-ended
returns-then-is_running-clause-ended c =
    let a = c.args in
    λ (t : ℕ) (n m g im h x : List ℕ). outcome-is (state_of a.control a.table.now n m g im h) a.r a.e c.requires.0.words_of_row c.requires.1 t a.good
    c.write_row.new.table (sym c.status.ensures ∙ eqb-true _ _ (sym c.is_running.ensures ∙ c.if-is_running.true))
    (c.write_row.ensures ∙ ap (λ (y : Entry). (block row_words a.r).put (words_of y) a.table.now)
    (c.with_status.ensures ∙ ap (status_set a.e) c.verdict.ensures))

pub returns-clause-ended : goal.returns-clause-ended
returns-clause-ended c =
    let a = c.args in
    λ (t : ℕ) (n m g im h x : List ℕ). outcome-d5 (state_of a.control a.table.now n m g im h) a.r a.e c.requires.0.words_of_row c.requires.1 t a.good
    (λ (z : status_in a.e.word ≡ 1). eqb-false _ _ (sym c.is_running.ensures ∙ c.if-is_running.false) (c.status.ensures ∙ z))
