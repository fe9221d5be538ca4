-- `close`: refused while the job runs; after an update; else with the phase that follows.
use Rattle.std.proofs.lemmas.Bool.{eqb-false}
use Rattle.std.proofs.Common.{eqb-true, ◌≡◌, sym, ◌∙◌, ap, ap₂, List, ℕ}
use Rattle.protocol.specs.Frame.{done}
use Rattle.rules.specs.Flash.{with_phase}
use Rattle.session_flash.proofs.Laws.{close-c0, close-is}
use Rattle.session_flash.specs.Jobs.{updated_by, closed_phase}
use Rattle.state.specs.State.{State, state_of}
use Rattle.state.specs.Words.{status_in}
use Rattle.state.specs.declared.Control.{Control}
use Rattle.state.specs.declared.Phase.{Phase}
use Rattle.state.specs.declared.Phase.TheVariants.{Idle}
use Rattle.session_flash.proofs.close.Goals as goal

pub returns-then-is_running : goal.returns-then-is_running
returns-then-is_running c =
    let a = c.args in
    λ (t : ℕ) (n m g x : List ℕ).
    (close-c0 (state_of a.control.now a.table.now n m g a.image.now a.hash.now) a.r a.e c.requires.0.words_of_row c.requires.1.0 t
    (sym c.status-status.ensures ∙ eqb-true _ _ (sym c.is_running.ensures ∙ c.if-is_running.true)))

pub returns-then-is_updated : goal.returns-then-is_updated
returns-then-is_updated c =
    let a = c.args in
    λ (t : ℕ) (n m g x : List ℕ).
    (ap (λ (v : Control). (done, state_of v c.clear_row.new.table n m g c.clear_flash.new.image c.clear_flash.new.hash))
    c.empty_flash.ensures
    ∙ close-is (state_of a.control.now a.table.now n m g a.image.now a.hash.now) a.r a.e c.requires.0.words_of_row c.requires.1.0 t
    c.clear_row.new.table c.clear_bit-control.result _
    (record { phase = Idle; image = c.clear_flash.new.image; hash = c.clear_flash.new.hash; image_len = 0; hash_len = 0 })
    (λ (z : status_in a.e.word ≡ 1). eqb-false _ _ (sym c.is_running.ensures ∙ c.if-is_running.false) (c.status-status.ensures ∙ z))
    (sym (c.is_updated.ensures ∙ ap₂ updated_by c.kind_of-kind.ensures c.status-status.ensures) ∙ c.if-is_updated.true)
    c.clear_row.ensures c.clear_bit-control.ensures
    (λ i. record { phase = Idle; image = c.clear_flash.ensures.0 i; hash = c.clear_flash.ensures.1 i; image_len = 0; hash_len = 0 }))

pub returns : goal.returns
returns c =
    let a = c.args in
    λ (t : ℕ) (n m g x : List ℕ).
    let s : State = state_of a.control.now a.table.now n m g a.image.now a.hash.now in
    (close-is s a.r a.e c.requires.0.words_of_row c.requires.1.0 t c.clear_row.new.table c.clear_bit-control.result _
    (with_phase c.closed_phase-control.result s.flash_group)
    (λ (z : status_in a.e.word ≡ 1). eqb-false _ _ (sym c.is_running.ensures ∙ c.if-is_running.false) (c.status-status.ensures ∙ z))
    (sym (c.is_updated.ensures ∙ ap₂ updated_by c.kind_of-kind.ensures c.status-status.ensures) ∙ c.if-is_updated.false)
    c.clear_row.ensures c.clear_bit-control.ensures
    (ap (λ (p : Phase). with_phase p s.flash_group) (c.closed_phase-control.ensures ∙ λ i. closed_phase (c.kind_of-kind.ensures i)
    (c.status-status.ensures i) a.control.now.phase)))
