-- When a verify or update job starts, and how it ends, on whole messages and outcomes. Assumes nothing.
use Rattle.std.specs.Prelude.{◌≡◌, ◌≢◌, Bool, cond, ◌||◌, List, ℕ, ◌≤◌, ◌<◌, eqb}
use Rattle.std.proofs.Math.Path.{refl, ap}
use Rattle.std.proofs.Common.{sym, ◌∙◌, subst, arith, eq-eqb, ne_eqb, le-leb, leb-true}
use Rattle.std.proofs.Math.Bool.{true, false}
use Rattle.std.proofs.Math.Option.{Option, none, some}
use Rattle.std.proofs.Math.Decide.{dec_lt}
use Rattle.std.proofs.lemmas.Bool.{eqb-false, lt-leb}
use Rattle.laws.specs.All.{Or, this, that}
use Rattle.protocol.specs.Numbers.{success, not_supported, commit_command, slot_count, verify_blob, update_blob, untried, running, succeeded, failed}
use Rattle.protocol.specs.Names.{kind_of}
use Rattle.protocol.specs.Decode.{decoded}
use Rattle.protocol.specs.Frame.{Reply, done, framed}
use Rattle.protocol.specs.declared.FlashKind.{FlashKind}
use Rattle.protocol.specs.declared.FlashKind.TheVariants.{Image, Hash, Verify, Update, Cleanup}
use Rattle.protocol.specs.declared.Request.TheVariants.{Commit}
use Rattle.state.specs.declared.Phase.{Phase}
use Rattle.state.specs.declared.Phase.TheVariants.{Uploading, Verified}
use Rattle.state.specs.declared.row.Place.{Place}
use Rattle.state.specs.declared.row.Wanted.TheVariants.{OnFlash}
use Rattle.state.specs.State.{State, Row, FlashBody, Body, place_of, in_row, in_body}
use Rattle.state.specs.Parts.{row-view-fits}
use Rattle.state.specs.Words.{word_of, status_of, ident, blob, Live, with_status}
use Rattle.state.specs.Soundness.{slot_at, is_sound}
use Rattle.state.specs.Facts.{StoreFacts, FlashFacts, PhaseOk, Session, Sound}
use Rattle.state.specs.Agree.{sound-of-test, place-slot, place-flash, apart-blobs}
use Rattle.rules.specs.Command.{Command, commit, end_job}
use Rattle.rules.specs.Flash.{startable, verify_job, update_job, commit_kind, commit_flash, job_ends, on_flash}
use Rattle.rules.specs.Session.{on_part, on_row, on_found, on_session, row_found}
use Rattle.rules.specs.Respond.{Effect, effect_of, answered, respond, silent, job_outcome}
use Rattle.rules.proofs.Laws.{job_is, status-set}
use Rattle.rules.specs.Searches.{found-row, only_row}
use Rattle.rules.proofs.Change.{row_new}
use Rattle.rules.proofs.Examples.{done-code}
use Rattle.rules.proofs.Excluded.{after_commit, HasJob, Tried, job-starts}
use Rattle.guarantees.proofs.Merging.{proper-row}
use Rattle.guarantees.proofs.After.{own-flash}
use Rattle.guarantees.proofs.Sessions.{asked_of}
use Rattle.answers.specs.Jobs.{OnJob}

-- what a Commit of the session of row i does: it is accepted; the job status becomes running where it was untried or failed, and stays where it was running or succeeded;
-- on verify the phase is Uploading then, on update Verified (rules 12.4 and 12.5)
pub record Committed (i : ℕ) (s : State) (o : Effect) : Type 0 where
  pub accepted : o.code ≡ success
  pub status-then : status_of ((in_row i).get o.state) ≡ after_commit (status_of ((in_row i).get s))
  pub phase-then : o.state.flash_group.phase ≡ cond (eqb (blob i s) verify_blob) Uploading Verified

-- ---- Commit
abbrev phase_of : FlashKind → Phase
phase_of Image = Uploading
phase_of Hash = Uploading
phase_of Verify = Uploading
phase_of Update = Verified
phase_of Cleanup = Uploading

module _ (t : ℕ) (r : Row) (b : FlashBody) where
  verify-phase : (x y : Bool) → eqb (status_of r) untried ≡ x → PhaseOk Verify (status_of r) b.phase → (verify_job (x || y) t r b).1.1.phase ≡ Uploading
  unfolding verify_job
  verify-phase true y e h = refl
  verify-phase false true e h = refl
  verify-phase false false e h = h.1 (eqb-false (status_of r) untried e)

  update-phase : (y : Bool) → (update_job y t r b).1.1.phase ≡ b.phase
  unfolding update_job
  update-phase true = refl
  update-phase false = refl

  commit-phase : (k : FlashKind) → HasJob k → PhaseOk k (status_of r) b.phase → (on_flash k t (commit 0 0) r b).1.1.phase ≡ phase_of k
  unfolding on_flash commit_flash commit_kind
  commit-phase Image h p = absurd h
  commit-phase Hash h p = absurd h
  commit-phase Verify h p = verify-phase (eqb (status_of r) untried) (eqb (status_of r) failed) refl p
  commit-phase Update h p = update-phase (startable r) ∙ p
  commit-phase Cleanup h p = absurd h

-- what is known of the blob number of verify and of update
abbrev JobKind : ℕ → Type 0
JobKind b = (slot_count ≤ b) × HasJob (kind_of b) × (phase_of (kind_of b) ≡ cond (eqb b verify_blob) Uploading Verified)

job-kind : (b : ℕ) → Or (b ≡ verify_blob) (b ≡ update_blob) → JobKind b
unfolding kind_of
job-kind b (this e) = subst JobKind (sym e) (omega arith, tt, refl)
job-kind b (that e) = subst JobKind (sym e) (omega arith, tt, refl)

flash-facts : (i : ℕ) (s : State) → Sound s → Live i s → slot_count ≤ blob i s → FlashFacts (ident i s) (blob i s) (word_of ((in_row i).get s)) s.flash_group
flash-facts i s g l high = subst (λ (p : Place). Session p ((in_row i).get s) ((in_body p).get s)) (place-flash (blob i s) high) (g.session i l)

-- what a command on the flash session of row i leaves of it
module _ (t i : ℕ) (c : Command) (s : State) (g : Sound s) (l : Live i s) (high : slot_count ≤ blob i s) where
  abbrev out : Reply × (Row × FlashBody)
  out = on_flash (kind_of (blob i s)) t c ((in_row i).get s) s.flash_group

  abbrev at : (p : Place) → Reply × (Row × Body p)
  at p = on_part p t c ((in_row i).get s) ((in_body p).get s)

  reply-out : (on_row i t c s).0 ≡ out.0
  reply-out = ap (λ (p : Place). (at p).0) (place-flash (blob i s) high)

  row_out : (in_row i).get (on_row i t c s).1 ≡ out.1.0
  row_out =
      row_new s g i l (at (place_of (blob i s))).1.0 (at (place_of (blob i s))).1.1 (proper-row s g i l t c)
      ∙ ap (λ (p : Place). (at p).1.0) (place-flash (blob i s) high)

-- A COMMIT STARTS A JOB EXACTLY WHERE NONE WAS TRIED OR THE LAST ONE FAILED (rules 12.4 and 12.5)
pub commit-starts : (t i : ℕ) (m : List ℕ) (s : State) → is_sound s ≡ true → Live i s → OnJob i s → decoded m ≡ Commit (ident i s) 0 0 → Committed i s (respond t m s)
unfolding answered
commit-starts t i m s h l job d = record {
  accepted = ap (λ (o : Effect). o.code) says ∙ ap (λ (x : Reply). (framed commit_command x).0) (reply-out t i (commit 0 0) s g l high ∙ tried.0) ∙ done-code commit_command;
  status-then = ap (λ (o : Effect). status_of ((in_row i).get o.state)) says ∙ ap status_of (row_out t i (commit 0 0) s g l high) ∙ tried.1;
  phase-then = ap (λ (o : Effect). o.state.flash_group.phase) says ∙ ap (λ (b : FlashBody). b.phase) (own-flash s g i l t (commit 0 0) high)
      ∙ commit-phase t r s.flash_group (kind_of (blob i s)) kind.1 (flash-facts i s g l high).phased ∙ kind.2;
}
  where
    g : Sound s
    g = sound-of-test s h

    r : Row
    r = (in_row i).get s

    kind : JobKind (blob i s)
    kind = job-kind (blob i s) job

    high : slot_count ≤ blob i s
    high = kind.0

    says : respond t m s ≡ effect_of (framed commit_command (on_row i t (commit 0 0) s).0) (on_row i t (commit 0 0) s).1
    says = asked_of t i m (Commit (ident i s) 0 0) (commit 0 0) s g l d refl

    tried : Tried r (on_flash (kind_of (blob i s)) t (commit 0 0) r s.flash_group)
    tried = job-starts t r s.flash_group (row-view-fits i s l.0 g.shape).four (kind_of (blob i s)) kind.1

-- ---- job outcomes
-- a session whose job runs is the flash session
running-flash : (i : ℕ) (s : State) → Sound s → Live i s → status_of ((in_row i).get s) ≡ running → slot_count ≤ blob i s
running-flash i s g l e = go (dec_lt (blob i s) slot_count)
  where
    go : Dec (blob i s < slot_count) → slot_count ≤ blob i s
    go (yes low) = absurd (
        let f : StoreFacts (blob i s) (ident i s) (blob i s) (word_of ((in_row i).get s)) (slot_at (blob i s) s) = subst (λ (p : Place). Session p
        ((in_row i).get s) ((in_body p).get s)) (place-slot (blob i s) low) (g.session i l) in
        let z = f.no-status in omega arith)
    go (no n) = omega arith

-- it is the one that an outcome finds
the-flash-row : (i : ℕ) (s : State) → Sound s → Live i s → slot_count ≤ blob i s → row_found OnFlash s ≡ some i
the-flash-row i s g l high =
    only_row OnFlash s i l (le-leb slot_count (blob i s) high)
    (λ (r : ℕ) (q : Live r s) (n : r ≢ i). lt-leb slot_count (blob r s) (let z = (apart-blobs (blob r s) (blob i s) (g.spots r i q l n)).1 in below r z))
  where
    below : (r : ℕ) → (slot_count ≤ blob r s → slot_count ≤ blob i s → ⊥) → blob r s < slot_count
    below r z = go (dec_lt (blob r s) slot_count)
      where
        go : Dec (blob r s < slot_count) → blob r s < slot_count
        go (yes e) = e
        go (no n) = absurd (z (omega arith) high)

module _ (good : Bool) (s : State) (h : is_sound s ≡ true) where
  abbrev g : Sound s
  g = sound-of-test s h

  ends : (i : ℕ) → Live i s → status_of ((in_row i).get s) ≡ running → on_flash (kind_of (blob i s)) 0 (end_job good) ((in_row i).get s) s.flash_group
      ≡ (done, (with_status (cond good succeeded failed) ((in_row i).get s), s.flash_group))
  unfolding on_flash job_ends
  ends i l e = ap (λ (y : Bool). job_ends y good ((in_row i).get s) s.flash_group) (eq-eqb (status_of ((in_row i).get s)) running e)

  told : (i : ℕ) → Live i s → slot_count ≤ blob i s → job_outcome good s ≡ effect_of (silent (on_row i 0 (end_job good) s).0) (on_row i 0 (end_job good) s).1
  unfolding on_session
  told i l high = job_is good s h ∙ ap (λ (o : Option ℕ). effect_of (silent (on_found o OnFlash 0 (end_job good) s).0) (on_found o OnFlash 0 (end_job good) s).1) (the-flash-row i s g l high)

  small : cond good succeeded failed < 4
  small = go good
    where
      go : (y : Bool) → cond y succeeded failed < 4
      go true = omega arith
      go false = omega arith

  -- AN OUTCOME OF A RUNNING JOB IS ACCEPTED: GOOD MAKES IT SUCCEEDED, ELSE IT HAS FAILED (rules 17.1 and 17.2)
  pub outcome-ends : (i : ℕ) → Live i s → status_of ((in_row i).get s) ≡ running
      → ((job_outcome good s).code ≡ success) × (status_of ((in_row i).get (job_outcome good s).state) ≡ cond good succeeded failed)
  unfolding silent
  outcome-ends i l e = (
    ap (λ (o : Effect). o.code) (told i l high) ∙ ap (λ (x : Reply). (silent x).0) (reply-out 0 i (end_job good) s g l high ∙ ap (λ (o : Reply × (Row × FlashBody)). o.0) (ends i l e)),
    ap (λ (o : Effect). status_of ((in_row i).get o.state)) (told i l high) ∙ ap status_of (row_out 0 i (end_job good) s g l high ∙ ap (λ (o : Reply × (Row × FlashBody)). o.1.0) (ends i l e))
        ∙ status-set (cond good succeeded failed) ((in_row i).get s) (row-view-fits i s l.0 g.shape).four small,
  )
    where
      high : slot_count ≤ blob i s
      high = running-flash i s g l e

  -- WHERE NO JOB RUNS, AN OUTCOME IS D5 (rule 17.1)
  pub outcome-without-job : ((i : ℕ) → Live i s → status_of ((in_row i).get s) ≢ running) → (job_outcome good s).code ≡ not_supported
  unfolding on_session on_flash job_ends silent
  outcome-without-job n = ap (λ (o : Effect). o.code) (job_is good s h) ∙ go (row_found OnFlash s) refl
    where
      go : (o : Option ℕ) → row_found OnFlash s ≡ o → (silent (on_found o OnFlash 0 (end_job good) s).0).0 ≡ not_supported
      go none e = refl
      go (some i) e =
          let f = found-row OnFlash s i e in
          ap (λ (x : Reply). (silent x).0) (reply-out 0 i (end_job good) s g f.0 (leb-true slot_count (blob i s) f.1))
          ∙ ap (λ (y : Bool). (silent (job_ends y good ((in_row i).get s) s.flash_group).0).0) (ne_eqb (status_of ((in_row i).get s)) running (n i f.0))
