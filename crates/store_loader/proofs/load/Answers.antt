-- `load`: the state is tested, then its sessions, then the file; then the store is cleared and filled.
use Rattle.std.proofs.Common.{ap, ◌≡◌, sym, ◌∙◌, true, false}
use Rattle.protocol.specs.Numbers.{success}
use Rattle.state.specs.Agree.{sound-of-test}
use Rattle.state.specs.Parts.{Shape}
use Rattle.state.specs.Soundness.{is_sound}
use Rattle.state.specs.State.{State, state_of}
use Rattle.state.specs.Words.{fresh}
use Rattle.store_file.specs.Loaded.{store_open, reason}
use Rattle.store_file.specs.Messages.{reading}
use Rattle.store_file.specs.Scans.{scans_from}
use Rattle.store_loader.proofs.Laws.{load-unsound, load-open, load-refused, load_stored, clean-storable}
use Rattle.store_loader.specs.Filling.{filling}
use Rattle.wire.proofs.Passed.{passed}
use Rattle.protocol.proofs.Verdicts.{good-verdict}
use Rattle.store_loader.proofs.load.Goals as goal
use Rattle.store_loader.proofs.load.Goals.{Start, Else-not-sound, In_ok-reason_against, Else-store_open}

-- the state that is lent
abbrev lent : Start → State
lent c = let a = c.args in state_of a.control.now a.table.now a.names.now a.committed.now a.staged.now a.image.now a.hash.now

-- what each test says once it is passed
passes : (c : Else-not-sound) → is_sound (lent (goal.at.Else-not-sound c).Start) ≡ true
passes c = sym c.sound.ensures ∙ c.if-not-sound.false

shape : (c : Else-not-sound) → Shape (lent (goal.at.Else-not-sound c).Start)
shape c = (sound-of-test _ (passes c)).shape

is-closed : (c : Else-store_open) → store_open (lent (goal.at.Else-store_open c).Start) ≡ false
is-closed c = sym (c.store_open.ensures (lent (goal.at.Else-store_open c).Start)) ∙ c.if-store_open.false

no-reason : (c : In_ok-reason_against) → reason (reading c.args.file.now) ≡ success
no-reason c = good-verdict _ (sym c.reason_against.ensures ∙ c.in_ok-reason_against.was)

pub returns-then-not-sound-clause-loads : goal.returns-then-not-sound-clause-loads
returns-then-not-sound-clause-loads c = load-unsound _ _ (sym c.sound.ensures ∙ c.if-not-sound.true)

pub store_open-requires : goal.store_open-requires
store_open-requires c = (shape (goal.at.store_open-requires c).Else-not-sound).table-size

pub returns-then-store_open-clause-loads : goal.returns-then-store_open-clause-loads
returns-then-store_open-clause-loads c =
    let p = goal.at.returns-then-store_open-clause-loads c in
    load-open _ _ (passes p.Else-not-sound) (sym (c.store_open.ensures (lent p.Start)) ∙ c.if-store_open.true)

pub returns-in_err-reason_against-clause-loads : goal.returns-in_err-reason_against-clause-loads
returns-in_err-reason_against-clause-loads c =
    let p = goal.at.returns-in_err-reason_against-clause-loads c in
    rw (passed c.from_residual.result _ c.from_residual.ensures)
    (load-refused _ _ (passes p.Else-not-sound) (is-closed p.Else-store_open) _ (sym c.reason_against.ensures ∙ c.in_err-reason_against.was))

pub clear_store-requires : goal.clear_store-requires
clear_store-requires c =
    let s = shape (goal.at.clear_store-requires c).Else-not-sound in
    (s.names-size, (s.committed-size, s.staged-size))

pub fill_all-requires : goal.fill_all-requires
fill_all-requires c =
    let p = goal.at.fill_all-requires c in
    let s = shape p.Else-not-sound in
    (c.clear_store.auto.names ∙ s.names-size, (c.clear_store.auto.committed ∙ s.committed-size, clean-storable _ (no-reason p.In_ok-reason_against)))

pub returns-clause-loads : goal.returns-clause-loads
unfolding fresh
returns-clause-loads c =
    let a = c.args in
    let p = goal.at.returns-clause-loads c in
    let file = a.file.now in
    let e = c.clear_store.ensures a.table.now a.image.now a.hash.now in
    let z = ap (λ (s : State). s.store.staged) e in
    ap (λ (s : State). record { code = success; state = s })
    (c.fill_all.ensures a.table.now _ a.image.now a.hash.now z ∙ ap (filling 0 (scans_from file 0)) e)
    ∙ load_stored file (lent p.Start) (passes p.Else-not-sound) (is-closed p.Else-store_open) (no-reason p.In_ok-reason_against)
