-- The paper's test and soundness by sessions say the same. Assumes nothing.
use Rattle.std.specs.Prelude.{◌≡◌, ◌≢◌, ◌⊎◌, Bool, not, ◌&&◌, ◌||◌, [], ◌∷◌, ℕ, zero, suc, ◌+◌, ◌%◌, ◌≤◌, ◌<◌, replicate}
use Rattle.std.proofs.Math.Path.{refl, sym, ap}
use Rattle.std.proofs.Common.{◌∙◌, subst, inl, inr}
use Rattle.std.proofs.Math.Bool.{true, false, cond, true≢false}
use native.Mathlib.Omega.{arith}
use Rattle.std.proofs.Math.Decide.{dec_lt, ℕ_discrete}
use Rattle.std.proofs.Math.Dec.{eqb, ltb, leb}
use borrow.Author.Tests.{eqb-true, eqb-false, leb-true, ltb-true, ltb-false, eq-eqb, ne_eqb, le-leb, lt-ltb, le-ltb, not-true, not-false}
use Rattle.laws.specs.All.{all, all-at, all_of, all-fails, all-false, and-true, and_both, pairs, pairs-at, pairs_of, Or, this, that, or-true, or_left, or_right, or-false, clash-not, not-clash}
use Rattle.laws.specs.Bytes.{zeros, zeros-true, replicate-zeros, same, same_false, ne_same}
use Rattle.laws.specs.Bits.{bit-lt}
use Rattle.protocol.specs.Numbers.{row_count, slot_count, name_size, slot_size, sixteen_bits, word_limit, cleanup_blob}
use Rattle.protocol.specs.declared.FlashKind.{FlashKind}
use Rattle.protocol.specs.declared.FlashKind.TheVariants.{Image, Hash, Verify, Update, Cleanup}
use Rattle.protocol.specs.Names.{store_field, kind_of}
use Rattle.state.specs.declared.Phase.{Phase}
use Rattle.state.specs.declared.Phase.TheVariants.{Idle, Uploading, Verified}
use Rattle.state.specs.declared.row.Place.{Place}
use Rattle.state.specs.declared.row.Place.TheVariants.{AtSlot, AtFlash}
use Rattle.state.specs.State.{State, Slot, FlashBody, place_of, in_row, in_body}
use Rattle.state.specs.Parts.{Separate, InRange, Shape, FitsSlot, row-view-fits, body-view-fits}
use Rattle.state.specs.Words.{word_of, flags_in, status_in, clean_in, writing_in, writes_with, free_slot, ident, blob, in_use, Live}
use Rattle.state.specs.Soundness.{slot_at, is_idle, is_uploading, is_verified, lent_right, values_fit, flash_fits, reader_clean, clean_committed}
use Rattle.state.specs.Soundness.{store_row, job_fits, flash_row, used_row, row_ok, rows_clash, rows_apart, writes_slot, has_writer}
use Rattle.state.specs.Soundness.{used_slot, unused_slot, slot_ok, names_apart, is_sound}
use Rattle.state.specs.Facts.{StoreSession, StoreIdle, PhaseOk, FlashIdle, FlashSession, Session, Unheld, Sound}

-- ---- phases
pub uploading-is : (p : Phase) → is_uploading p ≡ true → p ≡ Uploading
uploading-is Idle h = absurd (true≢false (sym h))
uploading-is Uploading h = refl
uploading-is Verified h = absurd (true≢false (sym h))

pub verified-is : (p : Phase) → is_verified p ≡ true → p ≡ Verified
verified-is Idle h = absurd (true≢false (sym h))
verified-is Uploading h = absurd (true≢false (sym h))
verified-is Verified h = refl

pub idle-is : (p : Phase) → is_idle p ≡ true → p ≡ Idle
idle-is Idle h = refl
idle-is Uploading h = absurd (true≢false (sym h))
idle-is Verified h = absurd (true≢false (sym h))

pub not-idle-is : (p : Phase) → is_idle p ≡ false → p ≢ Idle
not-idle-is p h e = true≢false (sym (ap is_idle e) ∙ h)

pub idle-not : (p : Phase) → p ≢ Idle → is_idle p ≡ false
idle-not Idle n = absurd (n refl)
idle-not Uploading n = refl
idle-not Verified n = refl

-- ---- a job's status and the phase
pub job-ok : (k : FlashKind) (st : ℕ) (p : Phase) → job_fits k st p ≡ true → PhaseOk k st p
unfolding job_fits
job-ok Image st p h = let a = and-true _ _ h in (eqb-true _ _ a.0, uploading-is p a.1)
job-ok Hash st p h = let a = and-true _ _ h in (eqb-true _ _ a.0, uploading-is p a.1)
job-ok Verify st p h =
    let a = and-true _ _ h in
    (not-idle-is p (not-true _ a.0), λ (n : st ≢ 0). go n (or-true _ _ a.1))
  where
    go : st ≢ 0 → Or (eqb st 0 ≡ true) (is_uploading p ≡ true) → p ≡ Uploading
    go n (this e) = absurd (n (eqb-true _ _ e))
    go n (that e) = uploading-is p e
job-ok Update st p h = verified-is p h
job-ok Cleanup st p h = go (or-true _ _ h)
  where
    go : Or (eqb st 0 ≡ true) (eqb st 2 && is_idle p ≡ true) → (st % 2 ≡ 0) × (st ≡ 2 → p ≡ Idle)
    go (this e) = let z = eqb-true st 0 e in (omega arith, λ (q : st ≡ 2). absurd (omega arith))
    go (that e) = let a = and-true _ _ e in let z = eqb-true st 2 a.0 in (omega arith, λ (q : st ≡ 2). idle-is p a.1)

pub job-fits : (k : FlashKind) (st : ℕ) (p : Phase) → st < 4 → PhaseOk k st p → job_fits k st p ≡ true
unfolding job_fits
job-fits Image st p l h = and_both _ _ (eq-eqb _ _ h.0) (ap is_uploading h.1)
job-fits Hash st p l h = and_both _ _ (eq-eqb _ _ h.0) (ap is_uploading h.1)
job-fits Verify st p l h = and_both _ _ (ap not (idle-not p h.0)) (go (ℕ_discrete st 0))
  where
    go : Dec (st ≡ 0) → eqb st 0 || is_uploading p ≡ true
    go (yes e) = or_left _ _ (eq-eqb _ _ e)
    go (no n) = or_right (eqb st 0) (is_uploading p) (ap is_uploading (h.1 n))
job-fits Update st p l h = ap is_verified h
job-fits Cleanup st p l h = go (ℕ_discrete st 0)
  where
    go : Dec (st ≡ 0) → eqb st 0 || (eqb st 2 && is_idle p) ≡ true
    go (yes e) = or_left _ _ (eq-eqb _ _ e)
    go (no n) = let e : st ≡ 2 = let m = h.0 in omega arith in or_right (eqb st 0) (eqb st 2 && is_idle p) (and_both (eqb st 2) (is_idle p) (eq-eqb st 2 e) (ap is_idle (h.1 e)))

-- ---- the flash
pub flash-ok : (b : FlashBody) → flash_fits b ≡ true → FlashIdle b
unfolding flash_fits
flash-ok b h =
    let a = and-true _ _ h in
    let c = and-true _ _ a.0 in
    record {
      image-fits = leb-true _ _ c.0;
      hash-fits = leb-true _ _ c.1;
      idle-image = λ (e : b.phase ≡ Idle). eqb-true _ _ (zero e (or-true _ _ a.1)).0;
      idle-hash = λ (e : b.phase ≡ Idle). eqb-true _ _ (zero e (or-true _ _ a.1)).1;
    }
  where
    zero : b.phase ≡ Idle → Or (not (is_idle b.phase) ≡ true) (eqb b.image_len 0 && eqb b.hash_len 0 ≡ true) → (eqb b.image_len 0 ≡ true) × (eqb b.hash_len 0 ≡ true)
    zero e (this q) = absurd (not-idle-is b.phase (not-true _ q) e)
    zero e (that q) = and-true _ _ q

pub flash-fits : (b : FlashBody) → FlashIdle b → flash_fits b ≡ true
unfolding flash_fits
flash-fits b f = and_both _ _ (and_both _ _ (le-leb _ _ f.image-fits) (le-leb _ _ f.hash-fits)) (go (is_idle b.phase) refl)
  where
    go : (y : Bool) → is_idle b.phase ≡ y → not y || (eqb b.image_len 0 && eqb b.hash_len 0) ≡ true
    go true e = and_both _ _ (eq-eqb _ _ (f.idle-image (idle-is _ e))) (eq-eqb _ _ (f.idle-hash (idle-is _ e)))
    go false e = refl

-- ---- places
pub place-slot : (b : ℕ) → b < slot_count → place_of b ≡ AtSlot b
place-slot b h = rw (lt-ltb b slot_count h)

pub place-flash : (b : ℕ) → slot_count ≤ b → place_of b ≡ AtFlash
place-flash b h = rw (le-ltb b slot_count h)

-- the number of a slot, and whether a place is one
abbrev number_of : Place → ℕ
number_of (AtSlot k) = k
number_of AtFlash = slot_count

abbrev is_slot : Place → Bool
is_slot (AtSlot k) = true
is_slot AtFlash = false

-- a blob that is on slot k
pub slot_of : (b k : ℕ) → place_of b ≡ AtSlot k → k < slot_count
slot_of b k e = go (ltb b slot_count) refl
  where
    go : (y : Bool) → ltb b slot_count ≡ y → k < slot_count
    go true q = omega (arith, ltb-true b slot_count q, ap number_of (sym (place-slot b (ltb-true b slot_count q)) ∙ e))
    go false q = absurd (let z = ap is_slot (sym (place-flash b (ltb-false b slot_count q)) ∙ e) in true≢false (sym z))

pub place-cases : (p w : Place) → (p ≡ w) ⊎ Separate p w
place-cases (AtSlot k) (AtSlot l) = go (ℕ_discrete k l)
  where
    go : Dec (k ≡ l) → (AtSlot k ≡ AtSlot l) ⊎ (k ≢ l)
    go (yes e) = inl (ap AtSlot e)
    go (no n) = inr n
place-cases (AtSlot k) AtFlash = inr tt
place-cases AtFlash (AtSlot l) = inr tt
place-cases AtFlash AtFlash = inl refl

pub separate-irrefl : (p : Place) → Separate p p → ⊥
separate-irrefl (AtSlot k) h = h refl
separate-irrefl AtFlash h = h

pub separate-sym : (p w : Place) → Separate p w → Separate w p
separate-sym (AtSlot k) (AtSlot l) h = λ (e : l ≡ k). h (sym e)
separate-sym (AtSlot k) AtFlash h = tt
separate-sym AtFlash (AtSlot l) h = tt
separate-sym AtFlash AtFlash h = h

-- two places are apart where the blobs differ and are not both flash
pub blobs-apart : (a b : ℕ) → a ≢ b → (slot_count ≤ a → slot_count ≤ b → ⊥) → Separate (place_of a) (place_of b)
blobs-apart a b n f = go (ltb a slot_count) (ltb b slot_count) refl refl
  where
    go : (x y : Bool) → ltb a slot_count ≡ x → ltb b slot_count ≡ y → Separate (cond x (AtSlot a) AtFlash) (cond y (AtSlot b) AtFlash)
    go true true p q = n
    go true false p q = tt
    go false true p q = tt
    go false false p q = f (ltb-false _ _ p) (ltb-false _ _ q)

pub apart-blobs : (a b : ℕ) → Separate (place_of a) (place_of b) → (a ≢ b) × (slot_count ≤ a → slot_count ≤ b → ⊥)
apart-blobs a b h = (
  λ (e : a ≡ b). separate-irrefl (place_of b) (subst (λ (x : ℕ). Separate (place_of x) (place_of b)) e h),
  λ (p : slot_count ≤ a) (q : slot_count ≤ b). subst (λ (w : Place). Separate AtFlash w) (place-flash b q) (subst (λ (w : Place). Separate w (place_of b)) (place-flash a p) h),
)

-- a place has a session or none
pub record Holder (s : State) (p : Place) : Type 0 where
  pub row : ℕ
  pub live : Live row s
  pub there : place_of (blob row s) ≡ p

pub holder : (s : State) (p : Place) → Holder s p ⊎ ((r : ℕ) → Live r s → Separate (place_of (blob r s)) p)
holder s p = last (seek row_count)
  where
    Below : ℕ → Type 0
    Below n = (r : ℕ) → r < n → Live r s → Separate (place_of (blob r s)) p

    look : (n : ℕ) → Bool → Type 0
    look n y = in_use n s ≡ y

    one : (n : ℕ) → n < row_count → (y : Bool) → in_use n s ≡ y → (place_of (blob n s) ≡ p) ⊎ Separate (place_of (blob n s)) p → Below n → Holder s p ⊎ Below (suc n)
    one n l true e (inl q) f = inl (record { row = n; live = (l, eqb-true _ _ e); there = q })
    one n l true e (inr q) f = inr (λ (r : ℕ) (h : r < suc n) (v : Live r s). at r h v (ℕ_discrete r n))
      where
        at : (r : ℕ) → r < suc n → Live r s → Dec (r ≡ n) → Separate (place_of (blob r s)) p
        at r h v (yes g) = subst (λ (x : ℕ). Separate (place_of (blob x s)) p) (sym g) q
        at r h v (no g) = f r (omega arith) v
    one n l false e d f = inr (λ (r : ℕ) (h : r < suc n) (v : Live r s). at r h v (ℕ_discrete r n))
      where
        at : (r : ℕ) → r < suc n → Live r s → Dec (r ≡ n) → Separate (place_of (blob r s)) p
        at r h v (yes g) = absurd (eqb-false _ _ e (subst (λ (x : ℕ). ((in_row x).get s).used ≡ 1) g v.1))
        at r h v (no g) = f r (omega arith) v

    seek : (n : ℕ) → n ≤ row_count → Holder s p ⊎ Below n
    seek zero h = inr (λ (r : ℕ) (l : r < 0) (v : Live r s). absurd (omega arith))
    seek (suc n) h = more (seek n (omega arith))
      where
        more : Holder s p ⊎ Below n → Holder s p ⊎ Below (suc n)
        more (inl x) = inl x
        more (inr f) = one n h (in_use n s) refl (place-cases (place_of (blob n s)) p) f

    last : (row_count ≤ row_count → Holder s p ⊎ Below row_count) → Holder s p ⊎ ((r : ℕ) → Live r s → Separate (place_of (blob r s)) p)
    last f = go (f (omega arith))
      where
        go : Holder s p ⊎ Below row_count → Holder s p ⊎ ((r : ℕ) → Live r s → Separate (place_of (blob r s)) p)
        go (inl x) = inl x
        go (inr g) = inr (λ (r : ℕ) (v : Live r s). g r v.0 v)

-- ---- the parts of the test, there and back
pub record Parts (s : State) : Type 0 where
  pub lent : lent_right s ≡ true
  pub values : values_fit s ≡ true
  pub flash-part : flash_fits s.flash_group ≡ true
  pub rows_ok : all (row_ok s) row_count ≡ true
  pub apart_rows : pairs (rows_apart s) row_count ≡ true
  pub slots-ok : all (slot_ok s) slot_count ≡ true
  pub apart_names : pairs (names_apart s) slot_count ≡ true

pub parts : (s : State) → is_sound s ≡ true → Parts s
unfolding is_sound
parts s h =
    let a = and-true _ _ h in
    let b = and-true _ _ a.0 in
    let c = and-true _ _ b.1 in
    let d = and-true _ _ a.1 in
    let e = and-true _ _ d.0 in
    let f = and-true _ _ d.1 in
    record { lent = b.0; values = c.0; flash-part = c.1; rows_ok = e.0; apart_rows = e.1; slots-ok = f.0; apart_names = f.1 }

pub whole : (s : State) → Parts s → is_sound s ≡ true
unfolding is_sound
whole s p = rw (p.lent, p.values, p.flash-part, p.rows_ok, p.apart_rows, p.slots-ok, p.apart_names)

shape_of : (s : State) → lent_right s ≡ true → values_fit s ≡ true → Shape s
unfolding lent_right values_fit
shape_of s l v =
    let a = and-true _ _ l in
    let b = and-true _ _ a.0 in
    let c = and-true _ _ b.0 in
    let d = and-true _ _ b.1 in
    let e = and-true _ _ a.1 in
    let f = and-true _ _ e.0 in
    let g = and-true _ _ e.1 in
    let h = and-true _ _ v in
    let i = and-true _ _ h.0 in
    let j = and-true _ _ h.1 in
    record {
      table-size = eqb-true _ _ c.0;
      names-size = eqb-true _ _ c.1;
      committed-size = eqb-true _ _ d.0;
      staged-size = eqb-true _ _ d.1;
      committed_lens-size = eqb-true _ _ f.0;
      staged_lens-size = eqb-true _ _ f.1;
      image-size = eqb-true _ _ g.0;
      hash-size = eqb-true _ _ g.1;
      rows-small = ltb-true _ _ i.0;
      slots_small = ltb-true _ _ i.1;
      marks-small = ltb-true _ _ j.0;
      next_small = ltb-true _ _ j.1;
    }

lent_of : (s : State) → Shape s → lent_right s ≡ true
unfolding lent_right
lent_of s h =
    and_both _ _
    (and_both _ _ (and_both _ _ (eq-eqb _ _ h.table-size) (eq-eqb _ _ h.names-size)) (and_both _ _ (eq-eqb _ _ h.committed-size) (eq-eqb _ _ h.staged-size)))
    (and_both _ _ (and_both _ _ (eq-eqb _ _ h.committed_lens-size) (eq-eqb _ _ h.staged_lens-size)) (and_both _ _ (eq-eqb _ _ h.image-size) (eq-eqb _ _ h.hash-size)))

values_of : (s : State) → Shape s → values_fit s ≡ true
unfolding values_fit
values_of s h =
    and_both _ _ (and_both _ _ (lt-ltb _ _ h.rows-small) (lt-ltb _ _ h.slots_small)) (and_both _ _ (lt-ltb _ _ h.marks-small) (lt-ltb _ _ h.next_small))

-- ---- the third word of a store row
clean-reader : (w : ℕ) → reader_clean w ≡ true → 1 ≤ clean_in w + writing_in w
unfolding reader_clean
clean-reader w h = go (or-true _ _ h)
  where
    go : Or (writes_with (flags_in w) ≡ true) (eqb (clean_in w) 1 ≡ true) → 1 ≤ clean_in w + writing_in w
    go (this e) = let z = eqb-true (writing_in w) 1 e in omega arith
    go (that e) = let z = eqb-true (clean_in w) 1 e in omega arith

reader-clean-is : (w : ℕ) → 1 ≤ clean_in w + writing_in w → reader_clean w ≡ true
unfolding reader_clean
reader-clean-is w h = go (ℕ_discrete (writing_in w) 1)
  where
    go : Dec (writing_in w ≡ 1) → writes_with (flags_in w) || eqb (clean_in w) 1 ≡ true
    go (yes e) = or_left (writes_with (flags_in w)) (eqb (clean_in w) 1) (eq-eqb (writing_in w) 1 e)
    go (no n) = or_right (writes_with (flags_in w)) (eqb (clean_in w) 1) (eq-eqb (clean_in w) 1 (omega arith))

clean-marked-is : (w : ℕ) (b : Slot) → clean_committed w b ≡ true → clean_in w ≤ b.mark
unfolding clean_committed
clean-marked-is w b h = go (or-true _ _ h)
  where
    go : Or (eqb (clean_in w) 0 ≡ true) (eqb b.mark 1 ≡ true) → clean_in w ≤ b.mark
    go (this e) = let z = eqb-true (clean_in w) 0 e in omega arith
    go (that e) = let z = eqb-true b.mark 1 e in omega arith

marked-clean-is : (w : ℕ) (b : Slot) → clean_in w ≤ b.mark → b.mark < 2 → clean_committed w b ≡ true
unfolding clean_committed
marked-clean-is w b c m = go (ℕ_discrete (clean_in w) 0)
  where
    go : Dec (clean_in w ≡ 0) → eqb (clean_in w) 0 || eqb b.mark 1 ≡ true
    go (yes e) = or_left (eqb (clean_in w) 0) (eqb b.mark 1) (eq-eqb (clean_in w) 0 e)
    go (no n) = or_right (eqb (clean_in w) 0) (eqb b.mark 1) (eq-eqb b.mark 1 (omega arith))

-- ---- writers
writer-row : (s : State) (k : ℕ) → has_writer s k ≡ true → (r : ℕ) × (r < row_count) × (writes_slot s k r ≡ true)
unfolding has_writer
writer-row s k h = let a = all-false _ _ (not-true _ h) in (a.0, a.1, not-false _ a.2)

row-writer : (s : State) (k r : ℕ) → r < row_count → writes_slot s k r ≡ true → has_writer s k ≡ true
unfolding has_writer
row-writer s k r l h = ap not (all-fails (λ (i : ℕ). not (writes_slot s k i)) row_count r l (ap not h))

pub record Writer (s : State) (k r : ℕ) : Type 0 where
  pub writer-live : Live r s
  pub writer-blob : blob r s ≡ k
  pub writer-writes : writing_in (word_of ((in_row r).get s)) ≡ 1

writer-facts : (s : State) (k r : ℕ) → r < row_count → writes_slot s k r ≡ true → Writer s k r
unfolding writes_slot
writer-facts s k r l h =
    let a = and-true _ _ h in
    let b = and-true _ _ a.1 in
    record { writer-live = (l, eqb-true _ _ a.0); writer-blob = eqb-true _ _ b.0; writer-writes = eqb-true _ _ b.1 }

facts-writer : (s : State) (k r : ℕ) → Live r s → blob r s ≡ k → writing_in (word_of ((in_row r).get s)) ≡ 1 → has_writer s k ≡ true
unfolding writes_slot
facts-writer s k r l b f = row-writer s k r l.0 (and_both _ _ (eq-eqb _ _ l.1) (and_both _ _ (eq-eqb _ _ b) (eq-eqb _ _ f)))

-- ---- an unused slot
unused-is : (b : Slot) → FitsSlot b → b.held ≡ 0 → unused_slot b ≡ true → b ≡ free_slot
unfolding unused_slot
unused-is b f h u =
    let a = and-true _ _ u in
    let c = and-true _ _ a.0 in
    let d = and-true _ _ c.1 in
    let e = and-true _ _ a.1 in
    let g = and-true _ _ e.1 in
    let p1 : b.name ≡ replicate name_size 0 = zeros-true b.name name_size f.name-long e.0 in
    let p2 : b.committed_bytes ≡ replicate slot_size 0 = zeros-true b.committed_bytes slot_size f.committed-long g.0 in
    let p3 : b.staged_bytes ≡ replicate slot_size 0 = zeros-true b.staged_bytes slot_size f.staged-long g.1 in
    let p4 : b.mark ≡ 0 = eqb-true b.mark 0 c.0 in
    let p5 : b.committed_len ≡ 0 = eqb-true b.committed_len 0 d.0 in
    let p6 : b.staged_len ≡ 0 = eqb-true b.staged_len 0 d.1 in
    λ i. record { name = p1 i; committed_bytes = p2 i; staged_bytes = p3 i; held = h i; mark = p4 i; committed_len = p5 i; staged_len = p6 i }

is-unused : (b : Slot) → b ≡ free_slot → unused_slot b ≡ true
unfolding unused_slot
is-unused b e = rw (e, replicate-zeros name_size, replicate-zeros slot_size)

-- ---- from the test
module _ (s : State) (p : Parts s) where
  shape-here : Shape s
  shape-here = shape_of s p.lent p.values

  clash-here : (i j : ℕ) → Live i s → Live j s → j < i → rows_clash s i j ≡ false
  unfolding rows_apart
  clash-here i j a b l = clash-not _ _ _ (pairs-at (rows_apart s) row_count p.apart_rows i j a.0 l) (eq-eqb _ _ a.1) (eq-eqb _ _ b.1)

  pub record Distinct (i j : ℕ) : Type 0 where
    pub ids-differ : ident i s ≢ ident j s
    pub blobs-differ : blob i s ≢ blob j s
    pub one-flash : slot_count ≤ blob i s → slot_count ≤ blob j s → ⊥

  from-clash : (i j : ℕ) → rows_clash s i j ≡ false → Distinct i j
  unfolding rows_clash
  from-clash i j h =
      let a = or-false _ _ h in
      let b = or-false _ _ a.1 in
      record {
        ids-differ = eqb-false _ _ a.0;
        blobs-differ = eqb-false _ _ b.0;
        one-flash = λ (x : slot_count ≤ blob i s) (y : slot_count ≤ blob j s). true≢false (sym (and_both _ _ (le-leb _ _ x) (le-leb _ _ y)) ∙ b.1);
      }

  distinct : (i j : ℕ) → Live i s → Live j s → i ≢ j → Distinct i j
  distinct i j a b n = go (dec_lt j i)
    where
      go : Dec (j < i) → Distinct i j
      go (yes l) = from-clash i j (clash-here i j a b l)
      go (no l) =
          let d = from-clash j i (clash-here j i b a (omega arith)) in
          record {
            ids-differ = λ (e : ident i s ≡ ident j s). d.ids-differ (sym e);
            blobs-differ = λ (e : blob i s ≡ blob j s). d.blobs-differ (sym e);
            one-flash = λ (x : slot_count ≤ blob i s) (y : slot_count ≤ blob j s). d.one-flash y x;
          }

  -- what the test says of a slot in use
  pub record Slotted (k : ℕ) : Type 0 where
    pub named : store_field (slot_at k s).name ≡ true
    pub committed-small : (slot_at k s).committed_len ≤ slot_size
    pub staged-small : (slot_at k s).staged_len ≤ slot_size
    pub marked : Or ((slot_at k s).mark ≡ 1) (((slot_at k s).committed_len ≡ 0) × (has_writer s k ≡ true))
    pub staged-or : Or ((slot_at k s).staged_len ≡ 0) (has_writer s k ≡ true)

  used-slot : (k : ℕ) → used_slot (slot_at k s) (has_writer s k) ≡ true → Slotted k
  unfolding used_slot
  used-slot k h =
      let a = and-true _ _ h in
      let b = and-true _ _ a.0 in
      let c = and-true _ _ b.1 in
      let d = and-true _ _ a.1 in
      record {
        named = b.0;
        committed-small = leb-true _ _ c.0;
        staged-small = leb-true _ _ c.1;
        marked = mk (or-true _ _ d.0);
        staged-or = st (or-true _ _ d.1);
      }
    where
      mk : Or (eqb (slot_at k s).mark 1 ≡ true) (eqb (slot_at k s).committed_len 0 && has_writer s k ≡ true) → Or ((slot_at k s).mark ≡ 1) (((slot_at k s).committed_len ≡ 0) × (has_writer s k ≡ true))
      mk (this e) = this (eqb-true _ _ e)
      mk (that e) = let a = and-true _ _ e in that (eqb-true _ _ a.0, a.1)

      st : Or (eqb (slot_at k s).staged_len 0 ≡ true) (has_writer s k ≡ true) → Or ((slot_at k s).staged_len ≡ 0) (has_writer s k ≡ true)
      st (this e) = this (eqb-true _ _ e)
      st (that e) = that e

  held-slot : (k : ℕ) → k < slot_count → (slot_at k s).held ≡ 1 → Slotted k
  unfolding slot_ok
  held-slot k l h = used-slot k (sym (ap (λ (y : Bool). cond y (used_slot (slot_at k s) (has_writer s k)) (unused_slot (slot_at k s))) (eq-eqb _ _ h)) ∙ all-at (slot_ok s) slot_count p.slots-ok k l)

  free-slot : (k : ℕ) → k < slot_count → (slot_at k s).held ≡ 0 → slot_at k s ≡ free_slot
  unfolding slot_ok
  free-slot k l h = unused-is (slot_at k s) (body-view-fits (AtSlot k) s l shape-here).1 h
      (sym (ap (λ (y : Bool). cond y (used_slot (slot_at k s) (has_writer s k)) (unused_slot (slot_at k s))) (ne_eqb (slot_at k s).held 1 (omega arith))) ∙ all-at (slot_ok s) slot_count p.slots-ok k l)

  -- a session on a slot
  on_store : (r : ℕ) → Live r s → blob r s < slot_count → ident r s < sixteen_bits → word_of ((in_row r).get s) < word_limit
      → store_row (word_of ((in_row r).get s)) (slot_at (blob r s) s) ≡ true → StoreSession (blob r s) ((in_row r).get s) (slot_at (blob r s) s)
  unfolding store_row
  on_store r live low i w h =
      let a = and-true _ _ h in
      let b = and-true _ _ a.0 in
      let c = and-true _ _ a.1 in
      let held : (slot_at (blob r s) s).held ≡ 1 = eqb-true _ _ b.0 in
      let d = and-true _ _ c.1 in
      let k = held-slot (blob r s) low held in
      record {
        id-small = i;
        on-slot = refl;
        flags = c.0;
        no-status = eqb-true _ _ b.1;
        rest-zero = w;
        is_held = held;
        mark-bit = bit-lt (blob r s) s.store.marks;
        committed-fits = k.committed-small;
        staged-fits = k.staged-small;
        clean-marked = clean-marked-is (word_of ((in_row r).get s)) (slot_at (blob r s) s) d.1;
        reader-clean = clean-reader (word_of ((in_row r).get s)) d.0;
        unmarked = λ (z : (slot_at (blob r s) s).mark ≡ 0). um z k.marked;
        unstaged = λ (z : writing_in (word_of ((in_row r).get s)) ≡ 0). us z k.staged-or;
        name-good = k.named;
      }
    where
      um : (slot_at (blob r s) s).mark ≡ 0 → Or ((slot_at (blob r s) s).mark ≡ 1) (((slot_at (blob r s) s).committed_len ≡ 0) × (has_writer s (blob r s) ≡ true)) → (slot_at (blob r s) s).committed_len ≡ 0
      um z (this e) = absurd (omega arith)
      um z (that e) = e.0

      us : writing_in (word_of ((in_row r).get s)) ≡ 0 → Or ((slot_at (blob r s) s).staged_len ≡ 0) (has_writer s (blob r s) ≡ true) → (slot_at (blob r s) s).staged_len ≡ 0
      us z (this e) = e
      us z (that e) = absurd (
          let q = writer-row s (blob r s) e in
          let v = writer-facts s (blob r s) q.0 q.1 q.2 in
          clash q.0 v (ℕ_discrete q.0 r))
        where
          clash : (x : ℕ) → Writer s (blob r s) x → Dec (x ≡ r) → ⊥
          clash x v (yes g) = let w : writing_in (word_of ((in_row r).get s)) ≡ 1 = subst (λ (y : ℕ). writing_in (word_of ((in_row y).get s)) ≡ 1) g v.writer-writes in omega arith
          clash x v (no g) = (distinct x r v.writer-live live g).blobs-differ v.writer-blob

  on-flash : (r : ℕ) → Live r s → slot_count ≤ blob r s → ident r s < sixteen_bits → word_of ((in_row r).get s) < word_limit
      → flash_row (blob r s) (word_of ((in_row r).get s)) s.flash_group.phase ≡ true → FlashSession ((in_row r).get s) s.flash_group
  unfolding flash_row
  on-flash r live high i w h =
      let a = and-true _ _ h in
      let b = and-true _ _ a.0 in
      let c = and-true _ _ a.1 in
      let z : clean_in (word_of ((in_row r).get s)) ≡ 0 = eqb-true _ _ b.1 in
      record {
        id-small = i;
        is-flash = high;
        a-kind = leb-true _ _ b.0;
        flags = eqb-true _ _ c.0;
        rest-zero = omega arith;
        phased = job-ok _ _ _ c.1;
        lengths = flash-ok s.flash_group p.flash-part;
      }

  session-here : (r : ℕ) → Live r s → Session (place_of (blob r s)) ((in_row r).get s) ((in_body (place_of (blob r s))).get s)
  unfolding row_ok used_row
  session-here r live =
      let u : used_row ((in_row r).get s) s ≡ true
      = sym (ap (λ (y : Bool). cond y (used_row ((in_row r).get s) s) (zeros ((in_row r).get s).words)) (eq-eqb _ _ live.1)) ∙ all-at (row_ok s) row_count p.rows_ok r live.0 in
      let a = and-true _ _ u in
      let b = and-true _ _ a.0 in
      go (ltb-true _ _ b.0) (ltb-true _ _ b.1) (ltb (blob r s) slot_count) refl a.1
    where
      go : ident r s < sixteen_bits → word_of ((in_row r).get s) < word_limit → (y : Bool) → ltb (blob r s) slot_count ≡ y
          → cond y (store_row (word_of ((in_row r).get s)) (slot_at (blob r s) s)) (flash_row (blob r s) (word_of ((in_row r).get s)) s.flash_group.phase) ≡ true
          → Session (cond y (AtSlot (blob r s)) AtFlash) ((in_row r).get s) ((in_body (cond y (AtSlot (blob r s)) AtFlash)).get s)
      go i w true e h = on_store r live (ltb-true _ _ e) i w h
      go i w false e h = on-flash r live (ltb-false _ _ e) i w h

  unused-here : (r : ℕ) → r < row_count → ((in_row r).get s).used ≡ 0 → ((in_row r).get s).words ≡ 0 ∷ 0 ∷ 0 ∷ 0 ∷ []
  unfolding row_ok
  unused-here r l h =
      let u : zeros ((in_row r).get s).words ≡ true
      = sym (ap (λ (y : Bool). cond y (used_row ((in_row r).get s) s) (zeros ((in_row r).get s).words)) (ne_eqb ((in_row r).get s).used 1 (omega arith))) ∙ all-at (row_ok s) row_count p.rows_ok r l in
      zeros-true ((in_row r).get s).words 4 (row-view-fits r s l shape-here).four u

  loose-slot : (k : ℕ) → k < slot_count → ((r : ℕ) → Live r s → Separate (place_of (blob r s)) (AtSlot k)) → StoreIdle (slot_at k s)
  loose-slot k l f = go (ℕ_discrete (slot_at k s).held 1)
    where
      no-writer : has_writer s k ≡ true → ⊥
      no-writer e =
          let q = writer-row s k e in
          let v = writer-facts s k q.0 q.1 q.2 in
          separate-irrefl (AtSlot k) (subst (λ (w : Place). Separate w (AtSlot k)) (ap place_of v.writer-blob ∙ place-slot k l) (f q.0 v.writer-live))

      mk : Or ((slot_at k s).mark ≡ 1) (((slot_at k s).committed_len ≡ 0) × (has_writer s k ≡ true)) → (slot_at k s).mark ≡ 1
      mk (this e) = e
      mk (that e) = absurd (no-writer e.1)

      st : Or ((slot_at k s).staged_len ≡ 0) (has_writer s k ≡ true) → (slot_at k s).staged_len ≡ 0
      st (this e) = e
      st (that e) = absurd (no-writer e)

      go : Dec ((slot_at k s).held ≡ 1) → StoreIdle (slot_at k s)
      go (yes h) =
          let u = held-slot k l h in
          record {
            held-marked = h ∙ sym (mk u.marked);
            idle-committed = u.committed-small;
            idle-staged = st u.staged-or;
            held-name = λ (z : (slot_at k s).held ≡ 1). u.named;
            free-zero = λ (z : (slot_at k s).held ≡ 0). absurd (omega arith);
          }
      go (no n) =
          let z : (slot_at k s).held ≡ 0 = let b = bit-lt k s.store.slots in omega arith in
          let e = free-slot k l z in
          record {
            held-marked = z ∙ sym (ap (λ (b : Slot). b.mark) e);
            idle-committed = let c : (slot_at k s).committed_len ≡ 0 = ap (λ (b : Slot). b.committed_len) e in omega arith;
            idle-staged = ap (λ (b : Slot). b.staged_len) e;
            held-name = λ (h : (slot_at k s).held ≡ 1). absurd (n h);
            free-zero = λ (h : (slot_at k s).held ≡ 0). e;
          }

  loose-here : (w : Place) → InRange w → ((r : ℕ) → Live r s → Separate (place_of (blob r s)) w) → Unheld w ((in_body w).get s)
  loose-here (AtSlot k) l f = loose-slot k l f
  loose-here AtFlash l f = flash-ok s.flash_group p.flash-part

  names-here : (k l : ℕ) → k < slot_count → l < slot_count → k ≢ l → (slot_at k s).held ≡ 1 → (slot_at l s).held ≡ 1 → (slot_at k s).name ≢ (slot_at l s).name
  unfolding names_apart
  names-here k l hk hl n a b = go (dec_lt l k)
    where
      at : (i j : ℕ) → i < slot_count → j < i → (slot_at i s).held ≡ 1 → (slot_at j s).held ≡ 1 → (slot_at i s).name ≢ (slot_at j s).name
      at i j x y u v = same_false _ _ (clash-not _ _ _ (pairs-at (names_apart s) slot_count p.apart_names i j x y) (eq-eqb _ _ u) (eq-eqb _ _ v))

      go : Dec (l < k) → (slot_at k s).name ≢ (slot_at l s).name
      go (yes q) = at k l hk q a b
      go (no q) = λ (e : (slot_at k s).name ≡ (slot_at l s).name). at l k hl (omega arith) b a (sym e)

  from_parts : Sound s
  from_parts = record {
    shape = shape-here;
    session = session-here;
    unused = unused-here;
    ids = λ (r q : ℕ) (a : Live r s) (b : Live q s) (n : r ≢ q). (distinct r q a b n).ids-differ;
    spots = λ (r q : ℕ) (a : Live r s) (b : Live q s) (n : r ≢ q). blobs-apart _ _ (distinct r q a b n).blobs-differ (distinct r q a b n).one-flash;
    loose = loose-here;
    names-differ = names-here;
  }

-- THE TEST SAYS SOUND
pub sound-of-test : (s : State) → is_sound s ≡ true → Sound s
sound-of-test s h = from_parts s (parts s h)

-- a slot that is not used is free
pub free-of-test : (s : State) → is_sound s ≡ true → (k : ℕ) → k < slot_count → (slot_at k s).held ≡ 0 → slot_at k s ≡ free_slot
free-of-test s h k l z = free-slot s (parts s h) k l z

-- ---- back to the test
module _ (s : State) (snd : Sound s) where
  pub back-flash : FlashIdle s.flash_group
  back-flash = go (holder s AtFlash)
    where
      go : Holder s AtFlash ⊎ ((r : ℕ) → Live r s → Separate (place_of (blob r s)) AtFlash) → FlashIdle s.flash_group
      go (inl h) = (subst (λ (w : Place). Session w ((in_row h.row).get s) ((in_body w).get s)) h.there (snd.session h.row h.live)).lengths
      go (inr f) = snd.loose AtFlash tt f

  store-row : (r k : ℕ) → StoreSession k ((in_row r).get s) (slot_at k s) → store_row (word_of ((in_row r).get s)) (slot_at k s) ≡ true
  unfolding store_row
  store-row r k f =
      and_both _ _ (and_both _ _ (eq-eqb (slot_at k s).held 1 f.is_held) (eq-eqb (status_in (word_of ((in_row r).get s))) 0 f.no-status))
      (and_both _ _ f.flags (and_both _ _ (reader-clean-is (word_of ((in_row r).get s)) f.reader-clean) (marked-clean-is (word_of ((in_row r).get s)) (slot_at k s) f.clean-marked f.mark-bit)))

  flash-row : (r : ℕ) → FlashSession ((in_row r).get s) s.flash_group → flash_row (blob r s) (word_of ((in_row r).get s)) s.flash_group.phase ≡ true
  unfolding flash_row
  flash-row r f =
      let w = f.rest-zero in
      and_both _ _ (and_both _ _ (le-leb (blob r s) cleanup_blob f.a-kind) (eq-eqb (clean_in (word_of ((in_row r).get s))) 0 (omega arith)))
      (and_both _ _ (eq-eqb (flags_in (word_of ((in_row r).get s))) 2 f.flags) (job-fits (kind_of (blob r s)) (status_in (word_of ((in_row r).get s))) s.flash_group.phase (omega arith) f.phased))

  used-row : (r : ℕ) → Live r s → used_row ((in_row r).get s) s ≡ true
  unfolding used_row
  used-row r live = go (ltb (blob r s) slot_count) (snd.session r live)
    where
      go : (y : Bool) → Session (cond y (AtSlot (blob r s)) AtFlash) ((in_row r).get s) ((in_body (cond y (AtSlot (blob r s)) AtFlash)).get s)
          → (ltb (ident r s) sixteen_bits && ltb (word_of ((in_row r).get s)) word_limit)
          && cond y (store_row (word_of ((in_row r).get s)) (slot_at (blob r s) s)) (flash_row (blob r s) (word_of ((in_row r).get s)) s.flash_group.phase) ≡ true
      go true f = and_both _ _ (and_both _ _ (lt-ltb (ident r s) sixteen_bits f.id-small) (lt-ltb (word_of ((in_row r).get s)) word_limit f.rest-zero)) (store-row r (blob r s) f)
      go false f = let w = f.rest-zero in
          and_both _ _ (and_both _ _ (lt-ltb (ident r s) sixteen_bits f.id-small) (lt-ltb (word_of ((in_row r).get s)) word_limit (omega arith))) (flash-row r f)

  row-ok : (r : ℕ) → r < row_count → row_ok s r ≡ true
  unfolding row_ok
  row-ok r l = go (in_use r s) refl
    where
      go : (y : Bool) → in_use r s ≡ y → cond y (used_row ((in_row r).get s) s) (zeros ((in_row r).get s).words) ≡ true
      go true e = used-row r (l, eqb-true _ _ e)
      go false e =
          let n = eqb-false ((in_row r).get s).used 1 e in
          let b = bit-lt r s.sessions.rows in
          ap zeros (snd.unused r l (omega arith)) ∙ replicate-zeros 4

  rows-apart-ok : (i j : ℕ) → i < row_count → j < i → rows_apart s i j ≡ true
  unfolding rows_apart rows_clash
  rows-apart-ok i j l k = not-clash (in_use i s) (in_use j s) (rows_clash s i j) (λ (a : in_use i s ≡ true) (b : in_use j s ≡ true).
      let x : Live i s = (l, eqb-true ((in_row i).get s).used 1 a) in
      let y : Live j s = (omega arith, eqb-true ((in_row j).get s).used 1 b) in
      let n : i ≢ j = omega arith in
      let d = apart-blobs (blob i s) (blob j s) (snd.spots i j x y n) in
      none (eqb (ident i s) (ident j s)) (eqb (blob i s) (blob j s)) (leb slot_count (blob i s)) (leb slot_count (blob j s)) (ne_eqb (ident i s) (ident j s) (snd.ids i j x y n)) (ne_eqb (blob i s) (blob j s) d.0)
      (λ (u : leb slot_count (blob i s) ≡ true) (v : leb slot_count (blob j s) ≡ true). d.1 (leb-true _ _ u) (leb-true _ _ v)))
    where
      none : (a b c d : Bool) → a ≡ false → b ≡ false → (c ≡ true → d ≡ true → ⊥) → a || (b || (c && d)) ≡ false
      none a b true true p q f = absurd (f refl refl)
      none a b true false p q f = rw (p, q)
      none a b false d p q f = rw (p, q)

  used-slot-of : (k : ℕ) → store_field (slot_at k s).name ≡ true → (slot_at k s).committed_len ≤ slot_size → (slot_at k s).staged_len ≤ slot_size
      → eqb (slot_at k s).mark 1 || (eqb (slot_at k s).committed_len 0 && has_writer s k) ≡ true → eqb (slot_at k s).staged_len 0 || has_writer s k ≡ true
      → used_slot (slot_at k s) (has_writer s k) ≡ true
  unfolding used_slot
  used-slot-of k n c g m w =
      and_both _ _ (and_both _ _ n (and_both _ _ (le-leb (slot_at k s).committed_len slot_size c) (le-leb (slot_at k s).staged_len slot_size g))) (and_both _ _ m w)

  slot_held : (k : ℕ) → k < slot_count → (slot_at k s).held ≡ 1 → used_slot (slot_at k s) (has_writer s k) ≡ true
  slot_held k l held = go (holder s (AtSlot k))
    where
      go : Holder s (AtSlot k) ⊎ ((r : ℕ) → Live r s → Separate (place_of (blob r s)) (AtSlot k)) → used_slot (slot_at k s) (has_writer s k) ≡ true
      go (inl h) = used-slot-of k f.name-good f.committed-fits f.staged-fits (mark (ℕ_discrete (slot_at k s).mark 1)) (staged (ℕ_discrete (writing_in w) 0))
        where
          w : ℕ
          w = word_of ((in_row h.row).get s)

          f : StoreSession k ((in_row h.row).get s) (slot_at k s)
          f = subst (λ (p : Place). Session p ((in_row h.row).get s) ((in_body p).get s)) h.there (snd.session h.row h.live)

          writer : writing_in w ≢ 0 → has_writer s k ≡ true
          writer n = facts-writer s k h.row h.live f.on-slot (omega arith)

          mark : Dec ((slot_at k s).mark ≡ 1) → eqb (slot_at k s).mark 1 || (eqb (slot_at k s).committed_len 0 && has_writer s k) ≡ true
          mark (yes e) = or_left (eqb (slot_at k s).mark 1) (eqb (slot_at k s).committed_len 0 && has_writer s k) (eq-eqb (slot_at k s).mark 1 e)
          mark (no n) =
              let z : (slot_at k s).mark ≡ 0 = let m = f.mark-bit in omega arith in
              or_right (eqb (slot_at k s).mark 1) (eqb (slot_at k s).committed_len 0 && has_writer s k)
              (and_both (eqb (slot_at k s).committed_len 0) (has_writer s k) (eq-eqb (slot_at k s).committed_len 0 (f.unmarked z)) (writer (let c = f.clean-marked in let d = f.reader-clean in omega arith)))

          staged : Dec (writing_in w ≡ 0) → eqb (slot_at k s).staged_len 0 || has_writer s k ≡ true
          staged (yes e) = or_left (eqb (slot_at k s).staged_len 0) (has_writer s k) (eq-eqb (slot_at k s).staged_len 0 (f.unstaged e))
          staged (no n) = or_right (eqb (slot_at k s).staged_len 0) (has_writer s k) (writer n)
      go (inr f) =
          let u = snd.loose (AtSlot k) l f in
          used-slot-of k (u.held-name held) u.idle-committed (let z = u.idle-staged in omega arith)
          (or_left (eqb (slot_at k s).mark 1) (eqb (slot_at k s).committed_len 0 && has_writer s k) (eq-eqb (slot_at k s).mark 1 (sym u.held-marked ∙ held)))
          (or_left (eqb (slot_at k s).staged_len 0) (has_writer s k) (eq-eqb (slot_at k s).staged_len 0 u.idle-staged))

  slot-free : (k : ℕ) → k < slot_count → (slot_at k s).held ≡ 0 → unused_slot (slot_at k s) ≡ true
  slot-free k l z = go (holder s (AtSlot k))
    where
      go : Holder s (AtSlot k) ⊎ ((r : ℕ) → Live r s → Separate (place_of (blob r s)) (AtSlot k)) → unused_slot (slot_at k s) ≡ true
      go (inl h) = absurd (
          let f : StoreSession k ((in_row h.row).get s) (slot_at k s) = subst (λ (p : Place). Session p ((in_row h.row).get s) ((in_body p).get s)) h.there (snd.session h.row h.live) in
          let e = f.is_held in omega arith)
      go (inr f) = is-unused (slot_at k s) ((snd.loose (AtSlot k) l f).free-zero z)

  slot_ok_lem : (k : ℕ) → k < slot_count → slot_ok s k ≡ true
  unfolding slot_ok
  slot_ok_lem k l = go (ℕ_discrete (slot_at k s).held 1)
    where
      go : Dec ((slot_at k s).held ≡ 1) → cond (eqb (slot_at k s).held 1) (used_slot (slot_at k s) (has_writer s k)) (unused_slot (slot_at k s)) ≡ true
      go (yes h) = ap (λ (y : Bool). cond y (used_slot (slot_at k s) (has_writer s k)) (unused_slot (slot_at k s))) (eq-eqb (slot_at k s).held 1 h) ∙ slot_held k l h
      go (no n) = ap (λ (y : Bool). cond y (used_slot (slot_at k s) (has_writer s k)) (unused_slot (slot_at k s))) (ne_eqb (slot_at k s).held 1 n)
          ∙ slot-free k l (let b = bit-lt k s.store.slots in omega arith)

  names-apart-ok : (k l : ℕ) → k < slot_count → l < k → names_apart s k l ≡ true
  unfolding names_apart
  names-apart-ok k l h q = not-clash (eqb (slot_at k s).held 1) (eqb (slot_at l s).held 1) (same (slot_at k s).name (slot_at l s).name)
      (λ (a : eqb (slot_at k s).held 1 ≡ true) (b : eqb (slot_at l s).held 1 ≡ true).
      ne_same _ _ (snd.names-differ k l h (omega arith) (omega arith) (eqb-true _ _ a) (eqb-true _ _ b)))

  -- SOUND PASSES THE TEST
  pub test-of-sound : is_sound s ≡ true
  test-of-sound = whole s (record {
    lent = lent_of s snd.shape;
    values = values_of s snd.shape;
    flash-part = flash-fits s.flash_group back-flash;
    rows_ok = all_of (row_ok s) row_count row-ok;
    apart_rows = pairs_of (rows_apart s) row_count rows-apart-ok;
    slots-ok = all_of (slot_ok s) slot_count slot_ok_lem;
    apart_names = pairs_of (names_apart s) slot_count names-apart-ok;
  })
