-- `commit`: refused for its length, to image and hash; verify, update, cleanup.
use Rattle.std.proofs.Common.{◌≡◌, ap, sym, ◌∙◌, cond, List, ℕ, Bool, true, false, Ok}
use Rattle.laws.specs.Ranges.{block}
use Rattle.protocol.specs.Frame.{done}
use Rattle.protocol.specs.Numbers.{row_words}
use Rattle.rules.specs.Flash.{with_phase}
use Rattle.session_flash.proofs.Laws.{holds_bytes, bytes-held, commit-cc, commit-d5, verify-is, update-is, cleanup-is}
use Rattle.state.specs.Entry.{words_of, lifted}
use Rattle.state.specs.State.{State, state_of}
use Rattle.state.specs.declared.Control.{Control}
use Rattle.state.specs.declared.Phase.TheVariants.{Idle, Uploading}
use Rattle.state.specs.declared.row.Entry.{Entry}
use Rattle.rules.specs.Command.{commit}
use Rattle.rules.specs.Session.{on_row}
use Rattle.response_types.specs.After.{after_said}
use Rattle.response_types.specs.declared.Said.TheVariants.{Done}
use Rattle.state.specs.Values.{in_phase}
use Rattle.session_flash.proofs.commit.Goals as goal
use Rattle.session_flash.proofs.commit.Goals.{After-startable}

pub returns-then-not-commit_fits : goal.returns-then-not-commit_fits
returns-then-not-commit_fits c =
    let a = c.args in
    λ (n m g x : List ℕ).
    (commit-cc (state_of a.control.now a.table.now n m g a.image.now a.hash.now) a.r a.e c.requires.0.words_of_row c.requires.1.0
    a.clock a.len a.rest (sym c.commit_fits.ensures ∙ c.if-not-commit_fits.true))

pub returns-in-Image : goal.returns-in-Image
returns-in-Image c =
    let a = c.args in
    λ (n m g x : List ℕ).
    commit-d5 (state_of a.control.now a.table.now n m g a.image.now a.hash.now) a.r a.e c.requires.0.words_of_row
    c.requires.1.0 a.clock a.len a.rest (sym c.commit_fits.ensures ∙ c.if-not-commit_fits.false)
    (ap holds_bytes (sym c.kind_of.ensures) ∙ bytes-held c.in-Image.is)

-- verify, where its job starts or not
verified : (c : After-startable) (n m g x : List ℕ) (b : Bool) → c.startable.result ≡ b
    → after_said (Ok Done) (in_phase c.args.control.now (cond b Uploading c.args.control.now.phase)) c.write_row.new.table n m g c.args.image.now c.args.hash.now x
    ≡ on_row c.args.r c.args.clock (commit c.args.len c.args.rest) (state_of c.args.control.now c.args.table.now n m g c.args.image.now c.args.hash.now)
verified c n m g x b p =
    let a = c.args in
    let s : State = state_of a.control.now a.table.now n m g a.image.now a.hash.now in
    verify-is s a.r a.e c.requires.0.words_of_row c.requires.1.0 a.clock a.len a.rest c.write_row.new.table
    (with_phase (cond b Uploading a.control.now.phase) s.flash_group) (sym c.commit_fits.ensures ∙ c.if-not-commit_fits.false)
    (sym c.kind_of.ensures ∙ c.in-Verify.is)
    (c.write_row.ensures ∙ ap (λ (y : Entry). (block row_words a.r).put (words_of y) a.table.now)
    (c.lifted.ensures ∙ ap (λ (y : Entry). lifted y a.clock) c.started.ensures))
    (ap (λ (y : Bool). with_phase (cond y Uploading a.control.now.phase) s.flash_group) (sym p ∙ c.startable.ensures))

pub returns-then-startable : goal.returns-then-startable
returns-then-startable c = λ (n m g x : List ℕ). verified (goal.at.returns-then-startable c).After-startable n m g x true c.if-startable.true

pub returns-else-startable : goal.returns-else-startable
returns-else-startable c = λ (n m g x : List ℕ). verified (goal.at.returns-else-startable c).After-startable n m g x false c.if-startable.false

pub returns-in-Update : goal.returns-in-Update
returns-in-Update c =
    let a = c.args in
    λ (n m g x : List ℕ).
    (update-is (state_of a.control.now a.table.now n m g a.image.now a.hash.now) a.r a.e c.requires.0.words_of_row c.requires.1.0
    a.clock a.len a.rest c.write_row-in-Update.new.table (sym c.commit_fits.ensures ∙ c.if-not-commit_fits.false)
    (sym c.kind_of.ensures ∙ c.in-Update.is)
    (c.write_row-in-Update.ensures ∙ ap (λ (y : Entry). (block row_words a.r).put (words_of y) a.table.now)
    (c.lifted-in-Update.ensures ∙ ap (λ (y : Entry). lifted y a.clock) c.started-in-Update.ensures)))

pub returns-in-Cleanup : goal.returns-in-Cleanup
returns-in-Cleanup c =
    let a = c.args in
    λ (n m g x : List ℕ).
    (ap (λ (v : Control). (done, state_of v c.write_row-in-Cleanup.new.table n m g c.clear_flash.new.image c.clear_flash.new.hash)) c.empty_flash.ensures
    ∙ cleanup-is (state_of a.control.now a.table.now n m g a.image.now a.hash.now) a.r a.e c.requires.0.words_of_row c.requires.1.0 a.clock a.len
    a.rest c.write_row-in-Cleanup.new.table (record {
      phase = Idle;
      image = c.clear_flash.new.image;
      hash = c.clear_flash.new.hash;
      image_len = 0;
      hash_len = 0;
    }) (sym c.commit_fits.ensures ∙ c.if-not-commit_fits.false)
    (sym c.kind_of.ensures ∙ c.in-Cleanup.is)
    (c.write_row-in-Cleanup.ensures ∙ ap (λ (y : Entry). (block row_words a.r).put (words_of y) a.table.now)
    (c.lifted-in-Cleanup.ensures ∙ ap (λ (y : Entry). lifted y a.clock) c.with_status.ensures))
    (λ i. record { phase = Idle; image = c.clear_flash.ensures.0 i; hash = c.clear_flash.ensures.1 i; image_len = 0; hash_len = 0 }))
