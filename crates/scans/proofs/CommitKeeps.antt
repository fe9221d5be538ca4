-- What a session that writes has staged is the scan after its Commit. Assumes nothing.
use Rattle.std.specs.Prelude.{◌≡◌, true, List, ℕ, ◌<◌}
use Rattle.std.proofs.Math.Path.{refl, ap}
use Rattle.std.proofs.Common.{◌∙◌}
use Rattle.std.proofs.Math.Option.{some}
use Rattle.laws.specs.Bytes.{same_true, padded}
use Rattle.protocol.specs.Numbers.{slot_count, name_size, success, commit_command}
use Rattle.protocol.specs.Decode.{decoded}
use Rattle.protocol.specs.Frame.{Reply, done, framed}
use Rattle.protocol.specs.declared.Request.TheVariants.{Commit}
use Rattle.state.specs.State.{State, Row, Slot, in_row}
use Rattle.state.specs.Words.{writes, ident, blob, Live, stamped, with_clean}
use Rattle.state.specs.Soundness.{slot_at, is_sound}
use Rattle.state.specs.Facts.{Sound}
use Rattle.state.specs.Agree.{sound-of-test}
use Rattle.rules.specs.Store.{committed_slot, on_store}
use Rattle.rules.specs.Command.{commit, Out}
use Rattle.rules.specs.Session.{on_row}
use Rattle.rules.specs.Respond.{Effect, effect_of, answered, respond}
use Rattle.guarantees.proofs.Merging.{on-row-sound}
use Rattle.guarantees.proofs.Sessions.{asked_of}
use Rattle.rules.proofs.Committed.{scan_in, has_name, commits}
use Rattle.scans.proofs.Scan.{scan_of}
use Rattle.guarantees.proofs.After.{own-part, own-reply}
use Rattle.scans.proofs.Found.{marked-held, scan-at}

-- ---- Commit
-- A COMMIT OF A SESSION THAT WRITES IS ACCEPTED, AND THE SCAN UNDER ITS NAME IS WHAT THE SESSION HAS STAGED, length and every byte (rule 21.11)
pub commit-keeps : (n : List ℕ) (t i : ℕ) (m : List ℕ) (s : State) → is_sound s ≡ true → Live i s → blob i s < slot_count → writes ((in_row i).get s) ≡ true → has_name n (slot_at (blob i s) s) ≡ true
    → decoded m ≡ Commit (ident i s) 0 0
    → ((respond t m s).code ≡ success) × (scan_of n (respond t m s).state ≡ some (record { len = (slot_at (blob i s) s).staged_len; bytes = (slot_at (blob i s) s).staged_bytes }))
unfolding answered framed
commit-keeps n t i m s h l low w name d = (
  ap (λ (o : Effect). o.code) asked ∙ ap (λ (x : Reply). (framed commit_command x).0) (own-reply s g₁ i l t (commit 0 0) low ∙ ap (λ (o : Out Slot). o.0) did),
  ap (λ (o : Effect). scan_of n o.state) asked ∙ scan-at after good n k low held named marked ∙ ap (λ (b : Slot). some (scan_in b)) now,
)
  where
    g₁ : Sound s
    g₁ = sound-of-test s h

    k : ℕ
    k = blob i s

    did : on_store t (commit 0 0) ((in_row i).get s) (slot_at (blob i s) s) ≡ (done, (stamped t (with_clean 1 ((in_row i).get s)), committed_slot (slot_at (blob i s) s)))
    did = commits t ((in_row i).get s) (slot_at (blob i s) s) w

    asked : respond t m s ≡ effect_of (framed commit_command (on_row i t (commit 0 0) s).0) (on_row i t (commit 0 0) s).1
    asked = asked_of t i m (Commit (ident i s) 0 0) (commit 0 0) s g₁ l d refl

    after : State
    after = (on_row i t (commit 0 0) s).1

    good : Sound (on_row i t (commit 0 0) s).1
    good = on-row-sound s g₁ i l t (commit 0 0)

    now : slot_at (blob i s) (on_row i t (commit 0 0) s).1 ≡ committed_slot (slot_at (blob i s) s)
    now = ap (λ (x : Row × Slot). x.1) (own-part s g₁ i l t (commit 0 0) low) ∙ ap (λ (o : Out Slot). o.1.1) did

    marked : (slot_at (blob i s) (on_row i t (commit 0 0) s).1).mark ≡ 1
    marked = ap (λ (b : Slot). b.mark) now

    held : (slot_at (blob i s) (on_row i t (commit 0 0) s).1).held ≡ 1
    held = marked-held (on_row i t (commit 0 0) s).1 good (blob i s) low marked

    named : (slot_at (blob i s) (on_row i t (commit 0 0) s).1).name ≡ padded name_size n
    named = ap (λ (b : Slot). b.name) now ∙ same_true _ _ name
