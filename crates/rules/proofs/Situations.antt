-- Concrete sound states, with one session and with two, in which the premises of the theorems are seen to be met. Assumes nothing.
use Rattle.std.specs.Prelude.{◌≡◌, ◌≢◌, true, false, List, [], ◌∷◌, ◌++◌, ℕ, ◌≤◌, ◌<◌, replicate, length}
use Rattle.std.proofs.Math.Path.{refl, ap}
use Rattle.std.proofs.Common.{◌∙◌, subst, sym}
use Rattle.std.proofs.Math.Logic.{Ne-symm}
use native.Mathlib.Omega.{arith}
use Rattle.std.proofs.lemmas.List.{length-replicate}
use Rattle.laws.specs.All.{all}
use Rattle.laws.specs.Bits.{bit, bit-zero}
use Rattle.laws.specs.Bytes.{same, first_zero, padded, padded-length, same_false}
use Rattle.protocol.specs.Numbers.{slot_count, name_size, slot_size, read_write, row_words, image_size, hash_size, write_only, running, verify_blob}
use Rattle.protocol.specs.Names.{base, alnum, store_name, store_field, kind_of}
use Rattle.state.specs.declared.row.Place.{Place}
use Rattle.state.specs.declared.row.Place.TheVariants.{AtSlot, AtFlash}
use Rattle.state.specs.State.{State, Row, Slot, in_row, cell, FlashBody, Body, place_of}
use Rattle.state.specs.Parts.{FitsSlot, Separate, FitsBody}
use Rattle.state.proofs.Parts.{cell-get-put, cell-row-other, cell-body-other, row_put}
use Rattle.state.specs.Words.{Live, fresh, id_of, blob_of, ident, word_with, store_writes}
use Rattle.state.specs.Soundness.{slot_at, is_sound}
use Rattle.state.specs.Facts.{StoreSession, Sound, PhaseOk, FlashSession, Session}
use Rattle.state.specs.Agree.{test-of-sound, not-idle-is}
use Rattle.state.proofs.Fresh.{fresh-good}
use Rattle.rules.specs.Store.{with_staged}
use Rattle.rules.proofs.Change.{added-sound, NewName}
use Rattle.std.proofs.Math.Decide.{ℕ_discrete}
use Rattle.protocol.specs.declared.FlashKind.{FlashKind}
use Rattle.protocol.specs.declared.FlashKind.TheVariants.{Verify}
use Rattle.state.specs.declared.Phase.TheVariants.{Idle, Uploading}
use Rattle.rules.specs.Opening.{new_row, new_slot}

-- `/scan/` and one letter
abbrev pub scan_name : ℕ → List ℕ
scan_name letter = base ++ (letter ∷ [])

-- the two letters
abbrev pub letter_a : ℕ
letter_a = 0x61

-- and the second
abbrev pub letter_b : ℕ
letter_b = 0x62

-- row r as a session with identifier r that writes slot r, with stamp 100
abbrev pub writing_row : ℕ → Row
writing_row r = new_row r r read_write 0 100

-- a slot that a session writes, never committed, with n staged bytes
abbrev pub written_slot : List ℕ → ℕ → Slot
written_slot name n = with_staged (replicate slot_size 0) n (new_slot name)

-- ---- one store session, on a new name, with n bytes
unfoldable pub writer : List ℕ → ℕ → State
writer name n = (cell 0 (AtSlot 0)).put (writing_row 0, written_slot name n) fresh

-- the name may be a slot's
abbrev pub StoreName : List ℕ → Type 0
StoreName name = store_field (padded name_size name) ≡ true

-- both names may be
pub name-a : StoreName (scan_name letter_a)
unfolding store_field store_name same all alnum base padded first_zero name_size
name-a = refl

-- and the second
pub name-b : StoreName (scan_name letter_b)
unfolding store_field store_name same all alnum base padded first_zero name_size
name-b = refl

-- the fresh state has no session,
pub no-session : (q : ℕ) → Live q fresh → ⊥
unfolding fresh
no-session q l = let z : bit q 0 ≡ 1 = l.1 in let b = bit-zero q in omega arith

-- no slot in use
pub slot-free : (k : ℕ) → (slot_at k fresh).held ≡ 0
unfolding fresh
slot-free k = bit-zero k

-- and no row
pub row-free : (r : ℕ) → ((in_row r).get fresh).used ≡ 0
unfolding fresh
row-free r = bit-zero r

written-fits : (name : List ℕ) (n : ℕ) → FitsSlot (written_slot name n)
written-fits name n = record {
  name-long = padded-length name_size name;
  committed-long = length-replicate slot_size 0;
  staged-long = length-replicate slot_size 0;
  held-flag = omega arith;
  mark-flag = omega arith;
}

written-session : (r : ℕ) (name : List ℕ) (n : ℕ) → r < slot_count → n ≤ slot_size → StoreName name → StoreSession r (writing_row r) (written_slot name n)
written-session r name n low h good = record {
  id-small = omega arith;
  on-slot = refl;
  flags = store_writes;
  no-status = refl;
  rest-zero = omega arith;
  is_held = refl;
  mark-bit = omega arith;
  committed-fits = omega arith;
  staged-fits = h;
  clean-marked = omega arith;
  reader-clean = omega arith;
  unmarked = λ (z : ◌≡◌ {A = ℕ} 0 0). refl;
  unstaged = λ (z : ◌≡◌ {A = ℕ} 1 0). absurd (omega arith);
  name-good = good;
}

module _ (name : List ℕ) (n : ℕ) where
  -- the facts of soundness hold
  pub writer-good : StoreName name → n ≤ slot_size → Sound (writer name n)
  unfolding writer
  writer-good good h =
      added-sound fresh fresh-good 0 (omega arith) (row-free 0) (AtSlot 0) (writing_row 0) (written_slot name n) refl refl refl
      (λ (q : ℕ) (l : Live q fresh). absurd (no-session q l)) (omega arith, written-fits name n) (written-session 0 name n (omega arith) h good)
      (λ (q : ℕ) (l : Live q fresh). absurd (no-session q l)) (λ (l : ℕ) (low : l < slot_count) (m : 0 ≢ l) (u : (slot_at l fresh).held ≡ 1). absurd (let z = slot-free l in omega arith))

  -- THE STATE IS SOUND
  pub writer-sound : StoreName name → n ≤ slot_size → is_sound (writer name n) ≡ true
  writer-sound good h = test-of-sound (writer name n) (writer-good good h)

  -- its session and its slot, and the others
  writer-part : (cell 0 (AtSlot 0)).get (writer name n) ≡ (writing_row 0, written_slot name n)
  unfolding writer
  writer-part = cell-get-put 0 (AtSlot 0) (writing_row 0, written_slot name n) fresh (omega arith) fresh-good.shape (record { four = refl; flag = omega arith }) (omega arith, written-fits name n)

  -- the row
  pub writer-row : (in_row 0).get (writer name n) ≡ writing_row 0
  writer-row = ap (λ (c : Row × Slot). c.0) writer-part

  -- the slot
  pub writer-slot : slot_at 0 (writer name n) ≡ written_slot name n
  writer-slot = ap (λ (c : Row × Slot). c.1) writer-part

  -- the session is open
  pub writer-live : Live 0 (writer name n)
  writer-live = (omega arith, ap (λ (r : Row). r.used) writer-row)

  -- no sweep was made
  pub writer-swept : (writer name n).last_sweep ≡ 0
  unfolding writer fresh
  writer-swept = refl

  -- no other slot is in use
  pub other-slot : (k : ℕ) → k ≢ 0 → (slot_at k (writer name n)).held ≡ 0
  unfolding writer
  other-slot k m = ap (λ (b : Slot). b.held) (cell-body-other 0 (AtSlot 0) (AtSlot k) (writing_row 0, written_slot name n) fresh (Ne-symm m)) ∙ slot-free k

  -- no other row is in use
  pub other_row : (r : ℕ) → r ≢ 0 → ((in_row r).get (writer name n)).used ≡ 0
  unfolding writer
  other_row r m = ap (λ (x : Row). x.used) (cell-row-other 0 r (AtSlot 0) (writing_row 0, written_slot name n) fresh (Ne-symm m)) ∙ row-free r

-- ---- two sessions: the one above on `/scan/a`, and another in row 1
module _ (n : ℕ) (h : n ≤ slot_size) where
  abbrev one : State
  one = writer (scan_name letter_a) n

  only_one : (q : ℕ) → Live q one → q ≡ 0
  only_one q l = go (ℕ_discrete q 0)
    where
      go : Dec (q ≡ 0) → q ≡ 0
      go (yes e) = e
      go (no m) = absurd (let z = other_row (scan_name letter_a) n q m in let u : ((in_row q).get one).used ≡ 1 = l.1 in omega arith)

  first-row : (q : ℕ) → Live q one → (in_row q).get one ≡ writing_row 0
  first-row q l = ap (λ (x : ℕ). (in_row x).get one) (only_one q l) ∙ writer-row (scan_name letter_a) n

  second-good : (p : Place) (row : Row) (body : Body p) → length row.words ≡ row_words → row.used ≡ 1 → place_of (blob_of row) ≡ p → Separate (AtSlot 0) p
      → FitsBody p body → Session p row body → id_of row ≢ 0 → NewName one p body
      → Sound ((cell 1 p).put (row, body) one)
  second-good p row body four on at apart fits ses id named =
      added-sound one (writer-good (scan_name letter_a) n name-a h) 1 (omega arith) (other_row (scan_name letter_a) n 1 (omega arith)) p row body four on at
      (λ (q : ℕ) (l : Live q one). subst (λ (x : Row). Separate (place_of (blob_of x)) p) (sym (first-row q l)) apart) fits ses
      (λ (q : ℕ) (l : Live q one) (e : ident q one ≡ id_of row). id (sym e ∙ ap id_of (first-row q l))) named

-- two store sessions, on `/scan/a` and `/scan/b`, with n bytes each
unfoldable pub two_writers : ℕ → State
two_writers n = (cell 1 (AtSlot 1)).put (writing_row 1, written_slot (scan_name letter_b) n) (writer (scan_name letter_a) n)

names-differ : same (padded name_size (scan_name letter_b)) (padded name_size (scan_name letter_a)) ≡ false
unfolding same all padded name_size base
names-differ = refl

names_apart : padded name_size (scan_name letter_b) ≢ padded name_size (scan_name letter_a)
names_apart = same_false (padded name_size (scan_name letter_b)) (padded name_size (scan_name letter_a)) names-differ

-- the facts of soundness hold
pub two_good : (n : ℕ) → n ≤ slot_size → Sound (two_writers n)
unfolding two_writers
two_good n h =
    second-good n h (AtSlot 1) (writing_row 1) (written_slot (scan_name letter_b) n) refl refl refl (omega arith) (
      omega arith,
      written-fits
          (scan_name letter_b) n,
    ) (written-session 1 (scan_name letter_b) n (omega arith) h name-b) (omega arith)
    (λ (l : ℕ) (low : l < slot_count) (m : 1 ≢ l) (u : (slot_at l (writer (scan_name letter_a) n)).held ≡ 1). fresh-name l u (ℕ_discrete l 0))
  where
    fresh-name : (l : ℕ) → (slot_at l (writer (scan_name letter_a) n)).held ≡ 1 → Dec (l ≡ 0) → padded name_size (scan_name letter_b) ≢ (slot_at l (writer (scan_name letter_a) n)).name
    fresh-name l u (yes e) z = names_apart (z ∙ ap (λ (x : ℕ). (slot_at x (writer (scan_name letter_a) n)).name) e ∙ ap (λ (b : Slot). b.name) (writer-slot (scan_name letter_a) n))
    fresh-name l u (no m) z = let q = other-slot (scan_name letter_a) n l m in omega arith

-- the row of a session on verify with identifier 1: the status of its job, its stamp
abbrev pub verify_row : (status stamp : ℕ) → Row
verify_row status stamp = record { words = 1 ∷ verify_blob ∷ word_with write_only status 0 ∷ stamp ∷ []; used = 1 }

-- the flash with an image to verify, all of it zero
abbrev pub new_image : FlashBody
new_image = record { phase = Uploading; image = replicate image_size 0; hash = replicate hash_size 0; image_len = 0; hash_len = 0 }

-- a store session on `/scan/a` with n bytes, and the flash session on verify, whose job runs
unfoldable pub writer_and_verify : ℕ → State
writer_and_verify n = (cell 1 AtFlash).put (verify_row running 100, new_image) (writer (scan_name letter_a) n)

verify-kind : kind_of verify_blob ≡ Verify
unfolding kind_of
verify-kind = refl

verify-session : FlashSession (verify_row running 100) new_image
verify-session = record {
  id-small = omega arith;
  is-flash = omega arith;
  a-kind = omega arith;
  flags = refl;
  rest-zero = omega arith;
  phased = subst (λ (k : FlashKind). PhaseOk k running Uploading) (sym verify-kind) (not-idle-is Uploading refl, λ (z : running ≢ 0). refl);
  lengths = record { image-fits = omega arith; hash-fits = omega arith; idle-image = λ (e : Uploading ≡ Idle). refl; idle-hash = λ (e : Uploading ≡ Idle). refl };
}

-- the facts of soundness hold
pub verify-good : (n : ℕ) → n ≤ slot_size → Sound (writer_and_verify n)
unfolding writer_and_verify
verify-good n h = second-good n h AtFlash (verify_row running 100) new_image refl refl refl tt (
  length-replicate {A = ℕ} image_size 0,
  length-replicate {A = ℕ} hash_size 0,
) verify-session (omega arith) tt

-- the two rows and the first slot
pub two-first : (n : ℕ) → (in_row 0).get (two_writers n) ≡ writing_row 0
unfolding two_writers
two-first n = cell-row-other 1 0 (AtSlot 1) (writing_row 1, written_slot (scan_name letter_b) n) (writer (scan_name letter_a) n) (omega arith) ∙ writer-row (scan_name letter_a) n

-- the second row
pub two-second : (n : ℕ) → n ≤ slot_size → (in_row 1).get (two_writers n) ≡ writing_row 1
unfolding two_writers
two-second n h = row_put 1 (AtSlot 1) (writing_row 1, written_slot (scan_name letter_b) n) (writer (scan_name letter_a) n) (omega arith)
    (writer-good (scan_name letter_a) n name-a h).shape.table-size (record { four = refl; flag = omega arith })

-- the first slot
pub two-slot : (n : ℕ) → slot_at 0 (two_writers n) ≡ written_slot (scan_name letter_a) n
unfolding two_writers
two-slot n = cell-body-other 1 (AtSlot 1) (AtSlot 0) (writing_row 1, written_slot (scan_name letter_b) n) (writer (scan_name letter_a) n) (omega arith) ∙ writer-slot (scan_name letter_a) n

-- the first row
pub verify-first : (n : ℕ) → (in_row 0).get (writer_and_verify n) ≡ writing_row 0
unfolding writer_and_verify
verify-first n = cell-row-other 1 0 AtFlash (verify_row running 100, new_image) (writer (scan_name letter_a) n) (omega arith) ∙ writer-row (scan_name letter_a) n

-- the second row
pub verify-second : (n : ℕ) → n ≤ slot_size → (in_row 1).get (writer_and_verify n) ≡ verify_row running 100
unfolding writer_and_verify
verify-second n h = row_put 1 AtFlash (verify_row running 100, new_image) (writer (scan_name letter_a) n) (omega arith) (writer-good
    (scan_name letter_a) n name-a h).shape.table-size (record { four = refl; flag = omega arith })

-- the first slot
pub verify-slot : (n : ℕ) → slot_at 0 (writer_and_verify n) ≡ written_slot (scan_name letter_a) n
unfolding writer_and_verify
verify-slot n = cell-body-other 1 AtFlash (AtSlot 0) (verify_row running 100, new_image) (writer (scan_name letter_a) n) tt ∙ writer-slot (scan_name letter_a) n
