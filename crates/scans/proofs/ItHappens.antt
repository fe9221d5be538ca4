-- The premises of what is shown of scans are met: a session that writes commits and closes, its name is opened for reading, and a held name is deleted; every message is accepted. Assumes nothing.
use Rattle.std.specs.Prelude.{◌≡◌, ◌≢◌, Bool, not, ◌&&◌, List, [], ◌∷◌, ◌++◌}
use Rattle.std.proofs.Math.Path.{refl, ap}
use Rattle.std.proofs.Common.{sym, ◌∙◌, arith, eq-eqb, ne_eqb}
use Rattle.std.proofs.Math.Bool.{true, false, cond}
use Rattle.std.proofs.Math.Option.{none, some}
use Prim.Native.Nat.{ℕ, zero, suc, ◌+◌, ◌≤◌, ◌<◌}
use Rattle.std.proofs.Math.Decide.{ℕ_discrete}
use Rattle.std.proofs.Math.Dec.{eqb}
use Rattle.laws.specs.All.{all}
use Rattle.laws.specs.Bits.{bit}
use Rattle.laws.specs.Bytes.{little, bytes_of, same, same_refl, first_zero, padded}
use Rattle.laws.specs.Find.{first-at}
use Rattle.laws.specs.Ranges.{part}
use Rattle.crc.specs.Crc.{shift, shifts, byte_step, crc_from}
use Rattle.protocol.proofs.Sizes.{slot-size}
use Rattle.protocol.specs.Numbers.{row_count, slot_count, slot_size, name_size, success, read_only, open_command, close_command, delete_command}
use Rattle.protocol.specs.Names.{base, alnum, store_name, name_form, blob_named}
use Rattle.protocol.specs.Decode.{decoded, asked, body_fits, crc_fits, with_name, fields_at, number_of}
use Rattle.protocol.specs.Frame.{Reply, done, framed}
use Rattle.protocol.specs.declared.Blob.TheVariants.{Store}
use Rattle.protocol.specs.declared.Request.{Request}
use Rattle.protocol.specs.declared.Request.TheVariants.{Open, Commit, Close, Delete}
use Rattle.state.specs.declared.row.Place.TheVariants.{AtSlot}
use Rattle.state.specs.State.{State, Row, Slot, in_row}
use Rattle.state.specs.Words.{id_of, blob_of, writes, ident, blob, Live, stamped, with_clean, free_row, store-reads}
use Rattle.state.specs.Soundness.{slot_at, is_sound}
use Rattle.state.specs.Facts.{Sound}
use Rattle.state.specs.Agree.{sound-of-test}
use Rattle.rules.specs.Store.{on_store}
use Rattle.rules.specs.Command.{Command, commit, close, Out}
use Rattle.state.specs.declared.row.Wanted.{Wanted}
use Rattle.state.specs.declared.row.Wanted.TheVariants.{OnBlob}
use Rattle.rules.specs.Session.{on_row, row_found}
use Rattle.rules.specs.Sweep.{stale, sweep_row, sweep_rows, noted, due, swept}
use Rattle.rules.specs.Lookup.{slot_named, free_row_in}
use Rattle.rules.specs.Opening.{opened}
use Rattle.rules.specs.Open.{open_store, open_blob}
use Rattle.rules.specs.Named.{delete_store, delete_blob}
use Rattle.rules.specs.Respond.{Effect, effect_of, answered, respond}
use Rattle.rules.proofs.Laws.{respond-is, other-rows}
use Rattle.rules.specs.Searches.{none_found}
use Rattle.rules.proofs.Messages.{sent, ask_open, ask_commit, ask_close, commit-decoded, close-decoded}
use Rattle.rules.proofs.Situations.{scan_name, letter_a, writing_row, writer, writer-sound, writer-row, writer-slot, writer-live, other_row, name-a}
use Rattle.guarantees.specs.Merging.{message}
use Rattle.guarantees.proofs.Keep.{swept-sound, respond-sound}
use Rattle.guarantees.specs.FlashPromise.{run}
use Rattle.guarantees.proofs.Sessions.{asked_of}
use Rattle.rules.proofs.Committed.{same_name, has_name, commits}
use Rattle.scans.proofs.Scan.{scan_of, left_alone, asks_to_replace}
use Rattle.guarantees.proofs.After.{own-part, own-reply, open_is}
use Rattle.scans.proofs.Safe.{sweep-same}
use Rattle.scans.proofs.Uploaded.{found-there, upload-shown}
use Rattle.scans.proofs.CommitKeeps.{commit-keeps}
use Rattle.scans.specs.Uploaded.{Uploaded}
use Rattle.scans.proofs.Left.{close-leaves, deleted-gone}
use Rattle.scans.specs.Left.{Gone}

-- ---- the messages
-- the name `/scan/a`
abbrev pub name : List ℕ
name = scan_name letter_a

-- a state in which row 0, session 0, writes 100 bytes to it, never committed
abbrev pub uploading : State
uploading = writer name 100

-- it commits
abbrev pub commit_upload : List ℕ
commit_upload = ask_commit 0

-- it closes
abbrev pub close_upload : List ℕ
close_upload = ask_close 0

-- somebody opens the name for reading
abbrev pub open_reader : List ℕ
open_reader = ask_open read_only name

-- or deletes it
abbrev pub delete_name : List ℕ
delete_name = sent delete_command (name ++ (0 ∷ []))

-- the state after the Commit, and after the Close
abbrev pub committed : State
committed = (respond 200 commit_upload uploading).state

abbrev pub closed : State
closed = run committed (message 300 close_upload ∷ [])

open-decoded : decoded open_reader ≡ Open read_only (Store (fields_at + 2) 7)
unfolding decoded same all body_fits crc_fits asked with_name name_form first_zero blob_named store_name alnum base little bytes_of crc_from byte_step shifts shift
open-decoded = refl

delete-decoded : decoded delete_name ≡ Delete (Store fields_at 7)
unfolding decoded same all body_fits crc_fits asked with_name name_form first_zero blob_named store_name alnum base little bytes_of crc_from byte_step shifts shift
delete-decoded = refl

-- both have the name
open-name : part (fields_at + 2) 7 open_reader ≡ name
unfolding base bytes_of
open-name = refl

delete-name : part fields_at 7 delete_name ≡ name
unfolding base bytes_of
delete-name = refl

-- ---- the session commits and closes
fits-100 : 100 ≤ slot_size
fits-100 = let z = slot-size in omega arith

sound₀ : is_sound uploading ≡ true
sound₀ = writer-sound name 100 name-a fits-100

row₀ : (in_row 0).get uploading ≡ writing_row 0
row₀ = writer-row name 100

live₀ : Live 0 uploading
live₀ = writer-live name 100

id₀ : ident 0 uploading ≡ 0
id₀ = ap id_of row₀

blob₀ : blob 0 uploading ≡ 0
blob₀ = ap blob_of row₀

low₀ : blob 0 uploading < slot_count
low₀ = let e = blob₀ in omega arith

writes₀ : writes ((in_row 0).get uploading) ≡ true
writes₀ = ap writes row₀

has-name : has_name name (slot_at (blob 0 uploading) uploading) ≡ true
has-name = ap (λ (k : ℕ). has_name name (slot_at k uploading)) blob₀ ∙ ap (has_name name) (writer-slot name 100) ∙ same_refl (padded name_size name)

commit-asked : decoded commit_upload ≡ Commit (ident 0 uploading) 0 0
commit-asked = commit-decoded 0 (omega arith) ∙ sym (ap (λ (id : ℕ). Commit id 0 0) id₀)

committed-is : committed ≡ (on_row 0 200 (commit 0 0) uploading).1
unfolding answered
committed-is = ap (λ (o : Effect). o.state) (asked_of 200 0 commit_upload (Commit (ident 0 uploading) 0 0) (commit 0 0) uploading (sound-of-test uploading sound₀) live₀ commit-asked refl)

sound₁ : is_sound committed ≡ true
sound₁ = respond-sound 200 commit_upload uploading sound₀

row₁ : (in_row 0).get committed ≡ stamped 200 (with_clean 1 (writing_row 0))
row₁ =
    ap (λ (x : State). (in_row 0).get x) committed-is ∙ ap (λ (c : Row × Slot). c.0) (own-part uploading (sound-of-test uploading sound₀) 0 live₀ 200 (commit 0 0) low₀)
    ∙ ap (λ (o : Out Slot). o.1.0) (commits 200 ((in_row 0).get uploading) (slot_at (blob 0 uploading) uploading) writes₀) ∙ ap (λ (r : Row). stamped 200 (with_clean 1 r)) row₀

live₁ : Live 0 committed
live₁ = (omega arith, ap (λ (r : Row). r.used) row₁)

low₁ : blob 0 committed < slot_count
low₁ = let e : blob 0 committed ≡ 0 = ap blob_of row₁ in omega arith

close-asked : decoded close_upload ≡ Close (ident 0 committed)
close-asked = close-decoded 0 (omega arith) ∙ sym (ap Close (ap id_of row₁))

close-is : respond 300 close_upload committed ≡ effect_of (framed close_command (on_row 0 300 close committed).0) (on_row 0 300 close committed).1
unfolding answered
close-is = asked_of 300 0 close_upload (Close (ident 0 committed)) close committed (sound-of-test committed sound₁) live₁ close-asked refl

closed_is : closed ≡ (on_row 0 300 close committed).1
closed_is = ap (λ (o : Effect). o.state) close-is

sound₂ : is_sound closed ≡ true
sound₂ = respond-sound 300 close_upload committed sound₁

freed₂ : (in_row 0).get closed ≡ free_row
unfolding on_store
freed₂ = ap (λ (x : State). (in_row 0).get x) closed_is ∙ ap (λ (c : Row × Slot). c.0) (own-part committed (sound-of-test committed sound₁) 0 live₁ 300 close low₁)

-- nothing replaced the scan meanwhile
alone : left_alone name committed (message 300 close_upload ∷ []) ≡ true
alone = ap (λ (q : Request). not (asks_to_replace name q close_upload committed && eqb (respond 300 close_upload committed).code success) && true) close-asked

-- ---- a state without sessions
abbrev NoSession : State → Type 0
NoSession s = (r : ℕ) → ((in_row r).get s).used ≡ 0

none_left : NoSession closed
none_left r = go (ℕ_discrete r 0)
  where
    other : (c : Command) (t : ℕ) (s : State) → 0 ≢ r → (in_row r).get (on_row 0 t c s).1 ≡ (in_row r).get s
    other c t s n = other-rows 0 r t c s n

    go : Dec (r ≡ 0) → ((in_row r).get closed).used ≡ 0
    go (yes e) = ap (λ (x : ℕ). ((in_row x).get closed).used) e ∙ ap (λ (w : Row). w.used) freed₂
    go (no n) =
        let m : 0 ≢ r = omega arith in
        ap (λ (x : State). ((in_row r).get x).used) closed_is ∙ ap (λ (w : Row). w.used) (other close 300 committed m)
        ∙ ap (λ (x : State). ((in_row r).get x).used) committed-is ∙ ap (λ (w : Row). w.used) (other (commit 0 0) 200 uploading m) ∙ other_row name 100 r n

module _ (s : State) (f : NoSession s) where
  nobody : (w : Wanted) → row_found w s ≡ none
  nobody w = none_found w s (λ (r : ℕ) (l : Live r s). absurd (let a = f r in let b : ((in_row r).get s).used ≡ 1 = l.1 in omega arith))

  first-free : free_row_in s ≡ some 0
  unfolding free_row_in
  first-free = first-at (λ (r : ℕ). eqb (bit r s.sessions.rows) 0) row_count 0 (omega arith) (eq-eqb (bit 0 s.sessions.rows) 0 (f 0)) (λ (j : ℕ) (l : j < 0). absurd (omega arith))

  no-sweep : (t n : ℕ) → sweep_rows t n s ≡ s
  unfolding sweep_rows sweep_row
  no-sweep t zero = refl
  no-sweep t (suc n) =
      ap (λ (x : State). sweep_row t n x) (no-sweep t n)
      ∙ ap (λ (y : Bool). cond (y && stale t ((in_row n).get s)) (on_row n t close s).1 s) (ne_eqb ((in_row n).get s).used 1 (λ (e : ((in_row n).get s).used ≡ 1). let a = f n in omega arith))

  none-swept : (t : ℕ) → NoSession (swept t s)
  unfolding swept
  none-swept t r = go (due t s)
    where
      go : (y : Bool) → ((in_row r).get (cond y (noted t (sweep_rows t row_count s)) s)).used ≡ 0
      go true = ap (λ (x : State). ((in_row r).get x).used) (no-sweep t row_count) ∙ f r
      go false = f r

-- ---- the name is opened for reading
kept : scan_of name closed ≡ some (record { len = (slot_at (blob 0 uploading) uploading).staged_len; bytes = (slot_at (blob 0 uploading) uploading).staged_bytes })
kept = close-leaves name 300 (ident 0 committed) close_upload committed sound₁ close-asked ∙ (commit-keeps name 200 0 commit_upload uploading sound₀ live₀ low₀ writes₀ has-name commit-asked).1

opens : (n : List ℕ) (t k r : ℕ) (s : State) → slot_named n s ≡ some k → row_found (OnBlob k) s ≡ none → free_row_in s ≡ some r → open_store n
    read_only t s ≡ opened (AtSlot k) r k read_only 1 t (slot_at k s) s
unfolding open_store
opens n t k r s a b c = rw (store-reads, a, b, c)

open_code : (respond 1000 open_reader closed).code ≡ success
unfolding open_blob opened framed
open_code =
    let y : State = swept 1000 closed in
    let g : Sound y = swept-sound 1000 closed (sound-of-test closed sound₂) in
    let quiet : NoSession y = none-swept closed none_left 1000 in
    let there = found-there name (part (fields_at + 2) 7 open_reader) _ 1000 y g (sweep-same name 1000 closed (sound-of-test closed sound₂) ∙ kept) same-name in
    ap (λ (o : Effect). o.code) (open_is 1000 read_only (Store (fields_at + 2) 7) open_reader closed sound₂ open-decoded)
    ∙ ap (λ (o : Reply × State). (framed open_command o.0).0) (opens (part (fields_at + 2) 7 open_reader) 1000 _ 0 y there (nobody y quiet (OnBlob _)) (first-free y quiet))
  where
    same-name : same_name (part (fields_at + 2) 7 open_reader) name ≡ true
    same-name = ap (λ (n : List ℕ). same_name n name) open-name ∙ same_refl (padded name_size name)

-- ---- or it is deleted
deletes : (n : List ℕ) (k : ℕ) (s : State) → slot_named n s ≡ some k → row_found (OnBlob k) s ≡ none → (delete_store n s).0 ≡ done
unfolding delete_store
deletes n k s a b = rw (a, b)

delete-code : (respond 1000 delete_name closed).code ≡ success
unfolding answered delete_blob framed
delete-code =
    let there = found-there name (part fields_at 7 delete_name) _ 1000 closed (sound-of-test closed sound₂) kept same-name in
    ap (λ (o : Effect). o.code) (respond-is 1000 delete_name closed sound₂) ∙ ap (λ (q : Request). (framed (number_of q) (answered q 1000 delete_name closed).0).0) delete-decoded
    ∙ ap (λ (x : Reply). (framed delete_command x).0) (deletes (part fields_at 7 delete_name) _ closed there (nobody closed none_left (OnBlob _)))
  where
    same-name : same_name (part fields_at 7 delete_name) name ≡ true
    same-name = ap (λ (n : List ℕ). same_name n name) delete-name ∙ same_refl (padded name_size name)

-- ---- all of it
pub record Happens : Type 0 where
  -- every message is accepted
  pub commit-accepted : (respond 200 commit_upload uploading).code ≡ success
  pub close-accepted : (respond 300 close_upload committed).code ≡ success
  pub open-accepted : (respond 1000 open_reader closed).code ≡ success
  pub delete-accepted : (respond 1000 delete_name closed).code ≡ success
  -- the later session reads what the first one had written
  pub uploaded : Uploaded 0 uploading (respond 1000 open_reader closed)
  -- a deleted name is gone
  pub deleted : Gone (part fields_at 7 delete_name) closed (respond 1000 delete_name closed).state

-- IT HAPPENS
pub happens : Happens
unfolding on_store framed
happens = record {
  commit-accepted = (commit-keeps name 200 0 commit_upload uploading sound₀ live₀ low₀ writes₀ has-name commit-asked).0;
  close-accepted = ap (λ (o : Effect). o.code) close-is ∙ ap (λ (x : Reply). (framed close_command x).0) (own-reply committed (sound-of-test committed sound₁) 0 live₁ 300 close low₁);
  open-accepted = open_code;
  delete-accepted = delete-code;
  uploaded = upload-shown name 200 0 commit_upload uploading (message 300 close_upload ∷ []) 1000 (fields_at + 2) 7 open_reader sound₀ live₀ low₀ writes₀ has-name commit-asked alone open-decoded
      (ap (λ (n : List ℕ). same_name n name) open-name ∙ same_refl (padded name_size name)) open_code;
  deleted = deleted-gone 1000 fields_at 7 delete_name closed sound₂ delete-decoded delete-code;
}
