-- The premises of the theorems on answers are met, and their bounds are reached: messages and sound states for each. Assumes nothing.
use Rattle.std.specs.Prelude.{◌≡◌, ◌≢◌, Bool, true, false, cond, ◌&&◌, List, [], ◌∷◌, ◌++◌, ℕ, ◌+◌, ◌≤◌, ◌<◌, eqb, ltb, length, drop, replicate}
use Rattle.std.proofs.Math.Path.{refl}
use Rattle.std.proofs.Common.{sym, ◌∙◌, ap, subst}
use Rattle.std.proofs.Math.Logic.{Ne-symm}
use Rattle.std.proofs.Math.Option.{none, some}
use native.Mathlib.Omega.{arith}
use Rattle.std.proofs.Math.ListN.{length-replicate}
use Rattle.laws.specs.All.{all, this}
use Rattle.laws.specs.Bytes.{little, bytes_of, same, same_refl, first_zero, padded, padded-length}
use Rattle.laws.specs.Find.{first_some}
use Rattle.laws.specs.Ranges.{part}
use Rattle.crc.specs.Crc.{crc_from, byte_step, shifts, shift}
use Rattle.protocol.specs.Numbers.{success, wrong_length, not_supported, not_found, invalid, count_command, read_command, delete_command}
use Rattle.protocol.specs.Numbers.{stat_command, row_count, slot_count, name_size, slot_size, read_most, write_only, verify_blob, state_committed}
use Rattle.protocol.specs.Numbers.{running, succeeded, failed, image_size, hash_size}
use Rattle.protocol.proofs.Sizes.{slot-size}
use Rattle.protocol.specs.Names.{base, flash_name, flash_number, flash_folder, flash_word, name_form, blob_named, store_name, store_field, alnum, kind_of}
use Rattle.protocol.specs.Decode.{decoded, number_of, values_of, asked, body_fits, crc_fits, with_name, fields_at}
use Rattle.protocol.specs.Frame.{header}
use Rattle.protocol.specs.declared.FlashKind.{FlashKind}
use Rattle.protocol.specs.declared.FlashKind.TheVariants.{Image, Verify}
use Rattle.protocol.specs.declared.Blob.TheVariants.{Store, Flash, Base, Unknown}
use Rattle.protocol.specs.declared.Request.{Request}
use Rattle.protocol.specs.declared.Request.TheVariants.{Read, Write, Commit, Delete, Stat}
use Rattle.state.specs.declared.Phase.TheVariants.{Idle, Uploading}
use Rattle.state.specs.declared.row.Place.{Place}
use Rattle.state.specs.declared.row.Place.TheVariants.{AtSlot, AtFlash}
use Rattle.state.specs.State.{State, Row, Slot, in_row, in_body, cell}
use Rattle.state.specs.Parts.{Separate, FitsSlot}
use Rattle.state.proofs.Parts.{row_put, row-body, body-indep, body-shape, body-get-put}
use Rattle.state.specs.Words.{id_of, blob_of, status_of, status_in, ident, Live, fresh, word_with, flags-with, status-with}
use Rattle.state.specs.Soundness.{slot_at, is_sound}
use Rattle.state.specs.Facts.{FlashSession, PhaseOk, StoreIdle, Sound}
use Rattle.state.proofs.Fresh.{fresh-sound, fresh-good}
use Rattle.state.specs.Agree.{test-of-sound}
use Rattle.rules.specs.Lookup.{holds, slot_named}
use Rattle.rules.specs.Opening.{flash_listed}
use Rattle.rules.specs.Respond.{Effect, respond, job_outcome}
use Rattle.rules.proofs.Change.{change-sound, added-sound}
use Rattle.rules.proofs.Messages.{sent, ask_read, ask_write, ask_commit, ask_session_stat, write_most, read-decoded, write-decoded, commit-decoded, stat-decoded}
use Rattle.rules.proofs.Situations.{scan_name, letter_a, writer, writer-sound, writer-row, writer-live, new_image, no-session, slot-free, row-free, StoreName}
use Rattle.rules.proofs.Examples.{starred}
use Rattle.rules.proofs.Excluded.{moreau, only-the-whole-name, after_commit, flash_size}
use Rattle.guarantees.proofs.FlashPart.{uploading-not-idle}
use Rattle.guarantees.specs.Merging.{of_session}
use Rattle.answers.proofs.Shown.{session-stat-shows, stat-shows-session, stat-shows-scan, stat-shows-flash-session, stat-shows-flash, stat-shows-base}
use Rattle.answers.specs.Shown.{ShowsName, ShowsSession, NoneOn}
use Rattle.answers.proofs.Jobs.{Committed, commit-starts, outcome-ends, outcome-without-job}
use Rattle.answers.proofs.OnlyCommit.{only-commit-starts}
use Rattle.answers.specs.OnlyCommit.{Own}
use Rattle.answers.proofs.BySession.{session-codes, absent-code}
use Rattle.answers.proofs.Faults.{fault-code}
use Rattle.answers.specs.Faults.{frame_fault}
use Rattle.answers.proofs.ByName.{in-stat, delete-by-name, wrong-form}

-- ---- messages
-- Stat of a name, and Delete of one
abbrev ask_stat : List ℕ → List ℕ
ask_stat name = sent stat_command (name ++ (0 ∷ []))

-- `x` is no name of ours
abbrev unknown_name : List ℕ
unknown_name = 0x78 ∷ []

unknown-decoded : decoded (sent delete_command (unknown_name ++ (0 ∷ []))) ≡ Delete Unknown
unfolding decoded same all body_fits crc_fits asked with_name name_form first_zero blob_named store_name alnum base flash_folder flash_word little bytes_of crc_from byte_step shifts shift
unknown-decoded = refl

base-decoded : decoded (ask_stat base) ≡ Stat Base
unfolding decoded same all body_fits crc_fits asked with_name name_form first_zero blob_named store_name alnum base flash_folder flash_word little bytes_of crc_from byte_step shifts shift
base-decoded = refl

moreau-decoded : decoded (ask_stat moreau) ≡ Stat (Store fields_at 12)
unfolding decoded same all body_fits crc_fits asked with_name name_form first_zero blob_named store_name alnum base flash_folder flash_word little bytes_of crc_from byte_step shifts shift
moreau-decoded = refl

moreau-there : part fields_at 12 (ask_stat moreau) ≡ moreau
unfolding bytes_of base
moreau-there = refl

image-decoded : decoded (ask_stat (flash_name Image)) ≡ Stat (Flash Image)
unfolding decoded same all body_fits crc_fits asked with_name name_form first_zero blob_named store_name alnum base flash_folder flash_word little bytes_of crc_from byte_step shifts shift
image-decoded = refl

verify-decoded : decoded (ask_stat (flash_name Verify)) ≡ Stat (Flash Verify)
unfolding decoded same all body_fits crc_fits asked with_name name_form first_zero blob_named store_name alnum base flash_folder flash_word little bytes_of crc_from byte_step shifts shift
verify-decoded = refl

-- a Stat without a name: the frame is right, the form of the name is not
nameless-frame : frame_fault (ask_stat []) ≡ none
unfolding same all little bytes_of crc_from byte_step shifts shift
nameless-frame = refl

nameless-form : name_form (drop fields_at (ask_stat [])) ≡ false
unfolding name_form first_zero bytes_of
nameless-form = refl

-- ---- states
-- one session that writes, with 100 bytes staged
abbrev writing : List ℕ → State
writing name = writer name 100

fits-100 : 100 ≤ slot_size
fits-100 = let z = slot-size in omega arith

moreau-name : StoreName moreau
unfolding store_field store_name same all alnum base padded first_zero name_size
moreau-name = refl

-- one session on verify, whose job has this status
abbrev verify_row : ℕ → Row
verify_row st = record { words = 0 ∷ verify_blob ∷ word_with write_only st 0 ∷ 100 ∷ []; used = 1 }

unfoldable pub verifying : ℕ → State
verifying st = (cell 0 AtFlash).put (verify_row st, new_image) fresh

verify-kind : kind_of verify_blob ≡ Verify
unfolding kind_of
verify-kind = refl

module _ (st : ℕ) (h : st < 4) where
  verify-session : FlashSession (verify_row st) new_image
  verify-session = record {
    id-small = omega arith;
    is-flash = omega arith;
    a-kind = omega arith;
    flags = flags-with write_only st 0 (omega arith) h (omega arith);
    rest-zero = omega arith;
    phased = subst (λ (k : FlashKind). PhaseOk k (status_in (word_with write_only st 0)) Uploading) (sym verify-kind) (uploading-not-idle, λ _. refl);
    lengths = record { image-fits = omega arith; hash-fits = omega arith; idle-image = λ (e : Uploading ≡ Idle). refl; idle-hash = λ (e : Uploading ≡ Idle). refl };
  }

  verifying-good : Sound (verifying st)
  unfolding verifying
  verifying-good =
      added-sound fresh fresh-good 0 (omega arith) (row-free 0) AtFlash (verify_row st) new_image refl refl refl (λ (q : ℕ) (l : Live q fresh). absurd (no-session q l))
      (length-replicate {A = ℕ} image_size 0, length-replicate {A = ℕ} hash_size 0) verify-session (λ (q : ℕ) (l : Live q fresh). absurd (no-session q l)) tt

  verifying-sound : is_sound (verifying st) ≡ true
  verifying-sound = test-of-sound (verifying st) verifying-good

  verifying-row : (in_row 0).get (verifying st) ≡ verify_row st
  unfolding verifying
  verifying-row = row_put 0 AtFlash (verify_row st, new_image) fresh (omega arith) fresh-good.shape.table-size (record { four = refl; flag = omega arith })

  verifying-live : Live 0 (verifying st)
  verifying-live = (omega arith, ap (λ (r : Row). r.used) verifying-row)

  verifying-status : status_of ((in_row 0).get (verifying st)) ≡ st
  verifying-status = ap status_of verifying-row ∙ status-with write_only st 0 (omega arith) h (omega arith)

  -- a Commit of that session
  verify-commit : (t : ℕ) → Committed 0 (verifying st) (respond t (ask_commit 0) (verifying st))
  verify-commit t =
      commit-starts t 0 (ask_commit 0) (verifying st) verifying-sound verifying-live (this (ap blob_of verifying-row))
      (commit-decoded 0 (omega arith) ∙ ap (λ (x : ℕ). Commit x 0 0) (sym (ap id_of verifying-row)))

-- a committed scan of 100 bytes in slot 0, and no session
abbrev scan_slot : Slot
scan_slot = record { name = padded name_size moreau; committed_bytes = replicate slot_size 0; staged_bytes = replicate slot_size 0; held = 1; mark = 1; committed_len = 100; staged_len = 0 }

unfoldable pub scanned : State
scanned = (in_body (AtSlot 0)).put scan_slot fresh

scan-fits : FitsSlot scan_slot
scan-fits = record {
  name-long = padded-length name_size moreau;
  committed-long = length-replicate slot_size 0;
  staged-long = length-replicate
      slot_size 0;
  held-flag = omega arith;
  mark-flag = omega arith;
}

scan-idle : StoreIdle scan_slot
scan-idle = record { held-marked = refl; idle-committed = fits-100; idle-staged = refl; held-name = λ _. moreau-name; free-zero = λ (h : ◌≡◌ {A = ℕ} 1 0). absurd (omega arith) }

scan-slot : slot_at 0 scanned ≡ scan_slot
unfolding scanned
scan-slot = body-get-put (AtSlot 0) scan_slot fresh fresh-good.shape (omega arith, scan-fits)

scan-rows : (r : ℕ) → (in_row r).get scanned ≡ (in_row r).get fresh
unfolding scanned
scan-rows r = (row-body r (AtSlot 0)).seen scan_slot fresh

scan-others : (w : Place) → Separate (AtSlot 0) w → (in_body w).get scanned ≡ (in_body w).get fresh
unfolding scanned
scan-others w m = (body-indep (AtSlot 0) w m).sees scan_slot fresh

scan-no-session : (q : ℕ) → Live q scanned → ⊥
scan-no-session q l = no-session q (l.0, sym (ap (λ (r : Row). r.used) (scan-rows q)) ∙ l.1)

past : row_count < row_count → ⊥
past h = omega arith

scanned-good : Sound scanned
unfolding scanned
scanned-good = change-sound fresh scanned row_count (AtSlot 0) fresh-good (record {
  new-shape = body-shape (AtSlot 0) scan_slot fresh (omega arith, scan-fits) fresh-good.shape;
  rows-kept = λ (r : ℕ) (n : r ≢ row_count). scan-rows r;
  bodies_kept = scan-others;
  others = λ (r : ℕ) (l : Live r fresh) (n : r ≢ row_count). absurd (no-session r l);
  before = λ (l : Live row_count fresh). absurd (past l.0);
  now-at = λ (l : Live row_count scanned). absurd (past l.0);
  now-open = λ (l : Live row_count scanned). absurd (past l.0);
  now-id = λ (l : Live row_count scanned) (r : ℕ) (v : Live r fresh) (n : r ≢ row_count). absurd (past l.0);
  now-free = λ (h : row_count < row_count) (u : ((in_row row_count).get scanned).used ≡ 0). absurd (past h);
  now-loose = λ _. subst StoreIdle (sym scan-slot) scan-idle;
  now-named = λ (j l : ℕ) (e : AtSlot 0 ≡ AtSlot j) (hj : j < slot_count) (hl : l < slot_count) (n : j ≢ l) (a : (slot_at j scanned).held ≡ 1)
      (u : (slot_at l fresh).held ≡ 1). absurd (let z = slot-free l in omega arith);
})

scan-named : slot_named moreau scanned ≡ some 0
unfolding slot_named
scan-named =
    first_some (holds moreau scanned) slot_count 0 (omega arith) (ap named scan-slot ∙ same_refl (padded name_size moreau))
    (λ (k : ℕ) (l : k < slot_count) (m : k ≢ 0). ap named (scan-others (AtSlot k) (Ne-symm m)) ∙ ap (λ (h : ℕ). eqb h 1 && same (slot_at k fresh).name (padded name_size moreau)) (slot-free k))
  where
    named : Slot → Bool
    named b = eqb b.held 1 && same b.name (padded name_size moreau)

-- ---- all of them
pub record Met : Type 0 where
  -- Frames: a success with fields, and one without
  pub with-fields : (t : ℕ) → (respond t (header count_command) fresh).code ≡ success
  pub without-fields : (t : ℕ) → (respond t (ask_write (ident 0 (writer (scan_name letter_a) 4060)) 4044 (replicate 52 0)) (writer (scan_name letter_a) 4060)).code ≡ success
  -- Bounds: a Write of 52 bytes, and a Read that is answered with 58
  pub write-of-52 : (decoded (ask_write 0 0 (replicate 52 0)) ≡ Write 0 0 (fields_at + 6)) × (length (drop (fields_at + 6) (ask_write 0 0 (replicate 52 0))) ≡ write_most)
  pub read-of-58 : (t : ℕ) → length (respond t (ask_read (ident 0 (writing (scan_name letter_a))) 0 100) (writing (scan_name letter_a))).response ≡ fields_at + read_most
  -- Shown: a store session by its identifier and by its name, a scan without session, a flash session, a flash name without one, the base
  pub session-shown : (t : ℕ) → ShowsSession 0 (writing moreau) (respond t (ask_session_stat 0) (writing moreau))
  pub name-shown : (t : ℕ) → ShowsSession 0 (writing moreau) (respond t (ask_stat moreau) (writing moreau))
  pub scan-shown : (t : ℕ) → ShowsName state_committed 100 (respond t (ask_stat moreau) scanned)
  pub verify-shown : (t : ℕ) → ShowsSession 0 (verifying running) (respond t (ask_stat (flash_name Verify)) (verifying running))
  pub image-shown : (t : ℕ) → ShowsName 0 0 (respond t (ask_stat (flash_name Image)) fresh)
  pub base-shown : (t : ℕ) → ShowsName 0 0 (respond t (ask_stat base) fresh)
  -- Jobs: a failed verification is tried again, one that succeeded is not; a running one ends
  pub tried-again : (t : ℕ) → status_of ((in_row 0).get (respond t (ask_commit 0) (verifying failed)).state) ≡ running
  pub not-again : (t : ℕ) → status_of ((in_row 0).get (respond t (ask_commit 0) (verifying succeeded)).state) ≡ succeeded
  pub job-ended : (good : Bool) → (job_outcome good (verifying running)).code ≡ success
  pub no-job : (good : Bool) → (job_outcome good fresh).code ≡ not_supported
  -- OnlyCommit: that Commit, found again from what it did
  pub its-commit : Own 0 (verifying failed) (decoded (ask_commit 0))
  -- Faults: a message of no bytes
  pub empty-refused : (t : ℕ) → (respond t [] fresh).code ≡ wrong_length
  -- ByName: an unknown name deleted, and a Stat without a name
  pub unknown-deleted : (t : ℕ) → (respond t (sent delete_command (unknown_name ++ (0 ∷ []))) fresh).code ≡ not_found
  pub nameless : (t : ℕ) → (respond t (ask_stat []) fresh).code ≡ invalid
  -- BySession: a Read of a flash session, and an identifier that no session has
  pub flash-read : (t : ℕ) → (respond t (ask_read 0 0 58) (verifying running)).code ≡ not_supported
  pub nobody : (t : ℕ) → (respond t (ask_session_stat 0) fresh).code ≡ not_found

length-sent : (sub : ℕ) (f : List ℕ) → length (sent sub f) ≡ fields_at + length f
unfolding bytes_of
length-sent sub f = omega arith

fresh-none : (b : ℕ) → NoneOn b fresh
fresh-none b q l = absurd (no-session q l)

image-listed : flash_listed Image fresh.flash_group.phase ≡ true
unfolding flash_listed
image-listed = refl

no-image : flash_size (flash_number Image) fresh.flash_group ≡ 0
unfolding fresh
no-image = refl

-- THEY ARE MET
pub met : Met
met = record {
  with-fields = λ (t : ℕ). ap (λ (o : Effect). o.code) (starred.fresh-count t);
  without-fields = λ (t : ℕ). starred.write-4044 t 0 (replicate 52 0) (writer (scan_name letter_a) 4060) starred.writes-4060 refl;
  write-of-52 = let x = write-decoded 0 0 (replicate 52 0) (omega arith) (omega arith) (omega arith) in (x.0, ap length x.1);
  read-of-58 = λ (t : ℕ). let x = starred.read-0 t 0 (writing (scan_name letter_a)) starred.sees-100 in ap length x.bytes ∙ length-sent read_command _ ∙ ap (λ (n : ℕ). fields_at + n) x.many;
  session-shown = λ (t : ℕ). session-stat-shows t 0 (ask_session_stat 0) (writing moreau) moreau-sound (writer-live moreau 100) (ap number_of (stat-decoded 0 (omega arith)))
      (ap values_of (stat-decoded 0 (omega arith)) ∙ ap (λ (x : ℕ). x ∷ []) (sym (ap id_of (writer-row moreau 100))));
  name-shown = λ (t : ℕ). stat-shows-session t (ask_stat moreau) (writing moreau) moreau-sound 0 fields_at 12 (writer-live moreau 100) moreau-decoded
      (ap (λ (n : List ℕ). slot_named n (writing moreau)) moreau-there ∙ (only-the-whole-name 100).0 ∙ ap some (sym (ap blob_of (writer-row moreau 100))));
  scan-shown = λ (t : ℕ). subst (λ (n : ℕ). ShowsName state_committed n (respond t (ask_stat moreau) scanned)) (ap (λ (b : Slot). b.committed_len) scan-slot)
      (stat-shows-scan t (ask_stat moreau) scanned (test-of-sound scanned scanned-good) 0 fields_at 12 moreau-decoded (ap (λ (n : List ℕ). slot_named n scanned) moreau-there ∙ scan-named)
      (λ (q : ℕ) (l : Live q scanned). absurd (scan-no-session q l)));
  verify-shown = λ (t : ℕ). stat-shows-flash-session t (ask_stat (flash_name Verify)) (verifying running) (verifying-sound running (omega arith)) 0 Verify
      (verifying-live running (omega arith)) verify-decoded (ap blob_of (verifying-row running (omega arith)));
  image-shown = λ (t : ℕ). subst (λ (n : ℕ). ShowsName 0 n (respond t (ask_stat (flash_name Image)) fresh)) no-image
      (stat-shows-flash t (ask_stat (flash_name Image)) fresh fresh-sound Image image-decoded image-listed (fresh-none (flash_number Image)));
  base-shown = λ (t : ℕ). stat-shows-base t (ask_stat base) fresh fresh-sound base-decoded;
  tried-again = again;
  not-again = λ (t : ℕ). (verify-commit succeeded (omega arith) t).status-then ∙ ap after_commit (verifying-status succeeded (omega arith));
  job-ended = λ (good : Bool). (outcome-ends good (verifying running) (verifying-sound running (omega arith)) 0 (verifying-live running (omega arith)) (verifying-status running (omega arith))).0;
  no-job = λ (good : Bool). outcome-without-job good fresh fresh-sound (λ (i : ℕ) (l : Live i fresh). absurd (no-session i l));
  its-commit = only-commit-starts 0 0 (ask_commit 0) (verifying failed) (verifying-sound failed (omega arith)) (let z = verifying-status failed (omega arith) in omega arith) (again 0);
  empty-refused = λ (t : ℕ). fault-code t [] fresh wrong_length fresh-sound refl;
  unknown-deleted = λ (t : ℕ). delete-by-name t _ fresh Unknown fresh-sound unknown-decoded;
  flash-read = λ (t : ℕ). (session-codes t 0 (ask_read 0 0 58) (verifying running) (verifying-sound running (omega arith)) (verifying-live running (omega arith))).of-read 0 58
      (read-decoded 0 0 58 (omega arith) (omega arith) (omega arith) ∙ ap (λ (x : ℕ). Read x 0 58) (sym (ap id_of (verifying-row running (omega arith)))))
      ∙ ap (λ (r : Row). cond (ltb (blob_of r) slot_count) success not_supported) (verifying-row running (omega arith));
  nobody = λ (t : ℕ). absent-code t (ask_session_stat 0) fresh fresh-sound 0 (λ (i : ℕ) (l : Live i fresh). absurd (no-session i l)) []
      (ap (λ (q : Request). of_session (number_of q)) (stat-decoded 0 (omega arith)))
      (ap values_of (stat-decoded 0 (omega arith)));
  nameless = λ (t : ℕ). wrong-form t fields_at (ask_stat []) fresh fresh-sound nameless-frame (in-stat refl) nameless-form;
}
  where
    again : (t : ℕ) → status_of ((in_row 0).get (respond t (ask_commit 0) (verifying failed)).state) ≡ running
    again t = (verify-commit failed (omega arith) t).status-then ∙ ap after_commit (verifying-status failed (omega arith))

    moreau-sound : is_sound (writing moreau) ≡ true
    moreau-sound = writer-sound moreau 100 moreau-name fits-100
