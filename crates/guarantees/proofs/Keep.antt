-- Every command keeps a state sound: sessions' commands, the sweep, Open and Delete. Assumes nothing.
use Rattle.std.specs.Prelude.{◌≡◌, refl, ◌≢◌, Bool, true, false, cond, ◌&&◌, List, ℕ, zero, suc, ◌≤◌, ◌<◌, ltb, length}
use Rattle.std.proofs.Common.{sym, ◌∙◌, ap, subst, arith, ltb-false, eqb-true}
use Rattle.std.proofs.Math.Option.{Option, none, some}
use Rattle.std.proofs.lemmas.Bool.{not-true}
use Rattle.std.proofs.lemmas.List.{length-replicate}
use Rattle.laws.specs.All.{and-true, Or, this, that}
use Rattle.laws.specs.Ranges.{part}
use Rattle.protocol.specs.Numbers.{not_found, word_limit, cleanup_blob, row_count, slot_count, slot_size, image_size, hash_size, sixteen_bits, read_only, read_write, write_only, busy}
use Rattle.protocol.specs.Names.{store_name, store_field, kind_of, flash_number}
use Rattle.protocol.specs.Decode.{decoded}
use Rattle.protocol.specs.Frame.{refused, done, Reply}
use Rattle.protocol.specs.declared.FlashKind.{FlashKind}
use Rattle.protocol.specs.declared.FlashKind.TheVariants.{Image, Hash, Verify, Update, Cleanup}
use Rattle.protocol.specs.declared.Blob.{Blob}
use Rattle.protocol.specs.declared.Blob.TheVariants.{Store, Flash, Base, Unknown}
use Rattle.protocol.specs.declared.Request.{Request}
use Rattle.protocol.specs.declared.Request.TheVariants.{Count, Enumerate, Open, Read, Write, Commit, Close, Delete, Stat, SessionStat, WriteMeta, Refused}
use Rattle.state.specs.declared.Phase.TheVariants.{Idle, Uploading}
use Rattle.state.specs.declared.row.Place.{Place}
use Rattle.state.specs.declared.row.Place.TheVariants.{AtSlot, AtFlash}
use Rattle.state.specs.State.{State, Slot, FlashBody, place_of, in_row, in_body}
use Rattle.state.specs.Parts.{Separate, FitsSlot, body-view-fits}
use Rattle.state.proofs.Parts.{body-shape, body-get-put, row-body, body-indep}
use Rattle.state.specs.Words.{blob, in_use, Live, free_slot, word_with, flags_in, status_in, clean_in, writing_in, store_flags, writes_with, write_bit, store-flags, store-reads, store_writes}
use Rattle.state.specs.Soundness.{slot_at, is_sound}
use Rattle.state.specs.Facts.{StoreFacts, StoreIdle, FlashIdle, PhaseOk, Sound}
use Rattle.state.proofs.Fresh.{free-idle}
use Rattle.state.specs.Agree.{sound-of-test, test-of-sound, place-slot, place-flash, blobs-apart, not-idle-is, verified-is, back-flash}
use Rattle.rules.specs.Store.{with_staged}
use Rattle.rules.specs.Command.{Command, close, end_job}
use Rattle.state.specs.declared.row.Wanted.{Wanted}
use Rattle.state.specs.declared.row.Wanted.TheVariants.{OnBlob, OnFlash}
use Rattle.rules.specs.Session.{on_row, on_found, on_session, row_found}
use Rattle.rules.specs.Sweep.{stale, sweep_row, sweep_rows, noted, due, swept}
use Rattle.rules.specs.Open.{open_store, open_flash, open_blob}
use Rattle.rules.specs.Respond.{Effect, answered, respond, job_outcome}
use Rattle.rules.proofs.Laws.{respond-is, job_is, some-has, none_has}
use Rattle.rules.proofs.Change.{change-sound, values-sound}
use Rattle.guarantees.proofs.Merging.{on-row-sound}
use Rattle.guarantees.proofs.StorePart.{freed-fits}
use Rattle.guarantees.proofs.FlashPart.{uploading-not-idle}
use Rattle.protocol.specs.Inside.{BlobInside, Inside}
use Rattle.protocol.proofs.Inside.{decoded-inside}
use Rattle.rules.specs.Searches.{free-row, free-slot, named-slot, no-row-on, no-flash-row, found-live}
use Rattle.rules.specs.Lookup.{slot_named, free_row_in, free_slot_in, fresh_id}
use Rattle.rules.specs.Opening.{opened, new_slot, held_slot, flash_listed, opened_flash}
use Rattle.rules.specs.Named.{delete_blob, delete_store}
use Rattle.rules.proofs.OpenLaws.{open-store-has, open-flash-has}
use Rattle.guarantees.proofs.KeepNew.{opened-sound, new-sound}

-- ---- a session's command
pub session-sound : (a : Wanted) (t : ℕ) (c : Command) (s : State) → Sound s → Sound (on_session a t c s).1
unfolding on_session
session-sound a t c s g = go (row_found a s) refl
  where
    go : (o : Option ℕ) → row_found a s ≡ o → Sound (on_found o a t c s).1
    go none e = g
    go (some r) e = on-row-sound s g r (found-live a s r e) t c

-- ---- the sweep
sweep-row-sound : (t r : ℕ) (s : State) → r < row_count → Sound s → Sound (sweep_row t r s)
unfolding sweep_row
sweep-row-sound t r s l g = go (in_use r s && stale t ((in_row r).get s)) refl
  where
    go : (y : Bool) → in_use r s && stale t ((in_row r).get s) ≡ y → Sound (cond y (on_row r t close s).1 s)
    go true e = on-row-sound s g r (l, eqb-true ((in_row r).get s).used 1 (and-true (in_use r s) (stale t ((in_row r).get s)) e).0) t close
    go false e = g

-- the rows of a sweep, one after the other
pub sweep-rows-sound : (t n : ℕ) (s : State) → n ≤ row_count → Sound s → Sound (sweep_rows t n s)
unfolding sweep_rows
sweep-rows-sound t zero s l g = g
sweep-rows-sound t (suc n) s l g = sweep-row-sound t n (sweep_rows t n s) l (sweep-rows-sound t n s (omega arith) g)

-- the whole sweep
pub swept-sound : (t : ℕ) (s : State) → Sound s → Sound (swept t s)
unfolding swept
swept-sound t s g = go (due t s)
  where
    go : (y : Bool) → Sound (cond y (noted t (sweep_rows t row_count s)) s)
    go true =
        let h = sweep-rows-sound t row_count s (omega arith) g in
        values-sound (sweep_rows t row_count s).next t (sweep_rows t row_count s) h.shape.next_small h
    go false = g

-- ---- places without a session
-- a slot that no session is on is apart from every session's place
pub alone-slot : (k : ℕ) (s : State) → k < slot_count → ((q : ℕ) → Live q s → blob q s ≢ k) → (q : ℕ) → Live q s → Separate (place_of (blob q s)) (AtSlot k)
alone-slot k s h f q l = subst (λ (w : Place). Separate (place_of (blob q s)) w) (place-slot k h) (blobs-apart (blob q s) k (f q l) (λ (x : slot_count ≤ blob q s) (y : slot_count ≤ k). omega arith))

alone-flash : (s : State) → ((q : ℕ) → Live q s → slot_count ≤ blob q s → ⊥) → (q : ℕ) → Live q s → Separate (place_of (blob q s)) AtFlash
alone-flash s f q l = go (ltb (blob q s) slot_count) refl
  where
    go : (y : Bool) → ltb (blob q s) slot_count ≡ y → Separate (cond y (AtSlot (blob q s)) AtFlash) AtFlash
    go true e = tt
    go false e = f q l (ltb-false _ _ e)

held-sound : (flags t r k : ℕ) (s : State) → Sound s → Or (flags ≡ read_only) (flags ≡ read_write) → (r < row_count) × (((in_row r).get s).used ≡ 0) → (k < slot_count) × ((slot_at k s).held ≡ 1)
    → row_found (OnBlob k) s ≡ none → Sound (opened (AtSlot k) r k flags 1 t (held_slot flags (slot_at k s)) s).1
held-sound flags t r k s g fl fr fs quiet = go fl
  where
    lone : (q : ℕ) → Live q s → Separate (place_of (blob q s)) (AtSlot k)
    lone = alone-slot k s fs.0 (no-row-on k s quiet)

    idle : StoreIdle (slot_at k s)
    idle = g.loose (AtSlot k) fs.0 lone

    fit : FitsSlot (slot_at k s)
    fit = (body-view-fits (AtSlot k) s fs.0 g.shape).1

    marked : (slot_at k s).mark ≡ 1
    marked = sym idle.held-marked ∙ fs.1

    facts : (f : ℕ) (sm : fresh_id s < sixteen_bits) (d : Slot) → store_flags (flags_in (word_with f 0 1)) ≡ true → status_in (word_with f 0 1) ≡ 0 →
        word_with f 0 1 < word_limit → clean_in (word_with f 0 1) ≡ 1
        → d.held ≡ 1 → d.mark ≡ 1 → d.committed_len ≤ slot_size → d.staged_len ≤ slot_size → (writing_in (word_with f 0 1) ≡ 0 → d.staged_len ≡ 0) → d.name ≡ (slot_at k s).name
        → StoreFacts k (fresh_id s) k (word_with f 0 1) d
    facts f sm d a b c e hd mk cf sf us nm = record {
      id-small = sm;
      on-slot = refl;
      flags = a;
      no-status = b;
      rest-zero = c;
      is_held = hd;
      mark-bit = omega arith;
      committed-fits = cf;
      staged-fits = sf;
      clean-marked = omega arith;
      reader-clean = omega arith;
      unmarked = λ (z : d.mark ≡ 0). absurd (omega arith);
      unstaged = us;
      name-good = ap store_field nm ∙ idle.held-name fs.1;
    }

    others : (l : ℕ) → l < slot_count → k ≢ l → (slot_at l s).held ≡ 1 → (slot_at k s).name ≢ (slot_at l s).name
    others l h m u = g.names-differ k l fs.0 h m fs.1 u

    reader : Sound (opened (AtSlot k) r k read_only 1 t (held_slot read_only (slot_at k s)) s).1
    reader = opened-sound s g r fr.0 fr.1 (AtSlot k) k read_only 1 t (slot_at k s) (place-slot k fs.0) lone (fs.0, fit)
        (λ (sm : fresh_id s < sixteen_bits). facts read_only sm (slot_at k s) store-reads refl (omega arith) refl fs.1 marked idle.idle-committed (let z = idle.idle-staged in omega arith)
        (λ (z : ◌≡◌ {A = ℕ} 0 0). idle.idle-staged) refl)
        others

    copy : Slot
    copy = with_staged (slot_at k s).committed_bytes (slot_at k s).committed_len (slot_at k s)

    writer : Sound (opened (AtSlot k) r k read_write 1 t (held_slot read_write (slot_at k s)) s).1
    writer = opened-sound s g r fr.0 fr.1 (AtSlot k) k read_write 1 t copy (place-slot k fs.0) lone
        (fs.0, record { name-long = fit.name-long; committed-long = fit.committed-long; staged-long = fit.committed-long; held-flag = fit.held-flag; mark-flag = fit.mark-flag })
        (λ (sm : fresh_id s < sixteen_bits). facts read_write sm copy store_writes refl (omega arith) refl fs.1 marked idle.idle-committed
        idle.idle-committed (λ (z : ◌≡◌ {A = ℕ} 1 0). absurd (omega arith)) refl)
        others

    go : Or (flags ≡ read_only) (flags ≡ read_write) → Sound (opened (AtSlot k) r k flags 1 t (held_slot flags (slot_at k s)) s).1
    go (this e) = subst (λ (f : ℕ). Sound (opened (AtSlot k) r k f 1 t (held_slot f (slot_at k s)) s).1) (sym e) reader
    go (that e) = subst (λ (f : ℕ). Sound (opened (AtSlot k) r k f 1 t (held_slot f (slot_at k s)) s).1) (sym e) writer

-- a state that is sound behind a reply
abbrev Kept : Reply × State → Type 0
Kept x = Sound x.1

writing : (flags : ℕ) → Or (flags ≡ read_only) (flags ≡ read_write) → writes_with flags ≡ true → flags ≡ read_write
writing flags (this e) w = absurd (let z = eqb-true (write_bit flags) 1 w in omega arith)
writing flags (that e) w = e

open-store-sound : (n : List ℕ) (flags t : ℕ) (s : State) → Sound s → store_name n ≡ true → Sound (open_store n flags t s).1
open-store-sound n flags t s g nm = open-store-has Kept s (λ _ _. g) n flags t held new
  where
    held : (r k : ℕ) → store_flags flags ≡ true → slot_named n s ≡ some k → row_found (OnBlob k) s ≡ none → free_row_in s ≡ some r → Kept
        (opened (AtSlot k) r k flags 1 t (held_slot flags (slot_at k s)) s)
    held r k f e quiet i = let a = named-slot n s k e in held-sound flags t r k s g (store-flags flags f) (free-row s r i) (a.0, a.1) quiet

    new : (r k : ℕ) → store_flags flags ≡ true → slot_named n s ≡ none → writes_with flags ≡ true → free_row_in s ≡ some r → free_slot_in s ≡ some k →
        Kept (opened (AtSlot k) r k flags 0 t (new_slot n) s)
    new r k f e w i j = subst (λ (x : ℕ). Kept (opened (AtSlot k) r k x 0 t (new_slot n) s)) (sym (writing flags (store-flags flags f) w))
        (new-sound n t r k s g nm e (free-row s r i) (free-slot s k j))

-- ---- Open, of a flash name
-- a flash name's number is its own
pub kind-of-number : (k : FlashKind) → kind_of (flash_number k) ≡ k
unfolding kind_of
kind-of-number Image = refl
kind-of-number Hash = refl
kind-of-number Verify = refl
kind-of-number Update = refl
kind-of-number Cleanup = refl

-- and it lies behind the slots
pub number-high : (k : FlashKind) → (slot_count ≤ flash_number k) × (flash_number k ≤ cleanup_blob)
number-high Image = (omega arith, omega arith)
number-high Hash = (omega arith, omega arith)
number-high Verify = (omega arith, omega arith)
number-high Update = (omega arith, omega arith)
number-high Cleanup = (omega arith, omega arith)

opened-sized : (k : FlashKind) (b : FlashBody) → (length b.image ≡ image_size) × (length b.hash ≡ hash_size) → (length (opened_flash k b).image ≡
    image_size) × (length (opened_flash k b).hash ≡ hash_size)
unfolding opened_flash
opened-sized Image b h = (length-replicate {A = ℕ} image_size 0, h.1)
opened-sized Hash b h = (h.0, length-replicate {A = ℕ} hash_size 0)
opened-sized Verify b h = h
opened-sized Update b h = h
opened-sized Cleanup b h = h

opened-phased : (k : FlashKind) (b : FlashBody) → flash_listed k b.phase ≡ true → PhaseOk k 0 (opened_flash k b).phase
unfolding opened_flash flash_listed
opened-phased Image b h = (refl, refl)
opened-phased Hash b h = (refl, refl)
opened-phased Verify b h = (not-idle-is b.phase (not-true _ h), λ (z : ◌≢◌ {A = ℕ} 0 0). absurd (z refl))
opened-phased Update b h = verified-is b.phase h
opened-phased Cleanup b h = (refl, λ (z : ◌≡◌ {A = ℕ} 0 2). absurd (omega arith))

opened-idle : (k : FlashKind) (b : FlashBody) → FlashIdle b → FlashIdle (opened_flash k b)
unfolding opened_flash
opened-idle Image b f = record { image-fits = omega arith; hash-fits = f.hash-fits; idle-image = λ (e : Uploading ≡ Idle). refl; idle-hash = λ (e : Uploading ≡ Idle). absurd (uploading-not-idle e) }
opened-idle Hash b f = record { image-fits = f.image-fits; hash-fits = omega arith; idle-image = λ (e : Uploading ≡ Idle). absurd (uploading-not-idle e); idle-hash = λ (e : Uploading ≡ Idle). refl }
opened-idle Verify b f = f
opened-idle Update b f = f
opened-idle Cleanup b f = f

flash-sound : (k : FlashKind) (t r : ℕ) (s : State) → Sound s → flash_listed k s.flash_group.phase ≡ true → row_found OnFlash s ≡ none → (r < row_count) × (((in_row r).get s).used ≡ 0)
    → Sound (opened AtFlash r (flash_number k) write_only 0 t (opened_flash k s.flash_group) s).1
flash-sound k t r s g listed quiet fr =
    opened-sound s g r fr.0 fr.1 AtFlash (flash_number k) write_only 0 t (opened_flash k s.flash_group) (place-flash (flash_number k) (number-high k).0) (alone-flash s (no-flash-row s quiet))
    (opened-sized k s.flash_group (g.shape.image-size, g.shape.hash-size))
    (λ (sm : fresh_id s < sixteen_bits). record {
      id-small = sm;
      is-flash = (number-high k).0;
      a-kind = (number-high k).1;
      flags = refl;
      rest-zero = omega arith;
      phased = subst (λ (x : FlashKind). PhaseOk x 0 (opened_flash k s.flash_group).phase) (sym (kind-of-number k)) (opened-phased k s.flash_group listed);
      lengths = opened-idle k s.flash_group (back-flash s g);
    })
    tt

open-flash-sound : (k : FlashKind) (flags t : ℕ) (s : State) → Sound s → Sound (open_flash k flags t s).1
open-flash-sound k flags t s g = open-flash-has Kept s (λ _ _. g) k flags t (λ (r : ℕ) _ l q i. flash-sound k t r s g l q (free-row s r i))

open-sound : (b : Blob) (flags t : ℕ) (m : List ℕ) (s : State) → BlobInside m b → Sound s → Sound (open_blob b flags t m s).1
unfolding open_blob
open-sound (Store at len) flags t m s nm g = open-store-sound (part at len m) flags t s g nm.is_name
open-sound (Flash k) flags t m s nm g = open-flash-sound k flags t s g
open-sound Base flags t m s nm g = g
open-sound Unknown flags t m s nm g = g

-- ---- Delete
deleted-sound : (k : ℕ) (s : State) → Sound s → k < slot_count → row_found (OnBlob k) s ≡ none → Sound ((in_body (AtSlot k)).put free_slot s)
deleted-sound k s g low quiet = change-sound s s' row_count (AtSlot k) g (record {
  new-shape = body-shape (AtSlot k) free_slot s (low, freed-fits) g.shape;
  rows-kept = λ (r : ℕ) (n : r ≢ row_count). (row-body r (AtSlot k)).seen free_slot s;
  bodies_kept = λ (w : Place) (m : Separate (AtSlot k) w). (body-indep (AtSlot k) w m).sees free_slot s;
  others = λ (r : ℕ) (l : Live r s) (n : r ≢ row_count). alone-slot k s low (no-row-on k s quiet) r l;
  before = λ (l : Live row_count s). absurd (past l.0);
  now-at = λ (l : Live row_count s'). absurd (past l.0);
  now-open = λ (l : Live row_count s'). absurd (past l.0);
  now-id = λ (l : Live row_count s') (r : ℕ) (v : Live r s) (n : r ≢ row_count). absurd (past l.0);
  now-free = λ (h : row_count < row_count) (u : ((in_row row_count).get s').used ≡ 0). absurd (omega arith);
  now-loose = λ (f : Live row_count s' → ⊥). subst StoreIdle (sym emptied) free-idle;
  now-named = λ (j l : ℕ) (e : AtSlot k ≡ AtSlot j) (hj : j < slot_count) (hl : l < slot_count) (n : j ≢ l) (a : (slot_at j s').held ≡ 1) (h : (slot_at l s).held ≡ 1).
      absurd (let q : k ≡ j = cc in let z : (slot_at j s').held ≡ 0 = subst (λ (x : ℕ). (slot_at x s').held ≡ 0) q (ap (λ (b : Slot). b.held) emptied) in omega arith);
})
  where
    s' : State
    s' = (in_body (AtSlot k)).put free_slot s

    past : row_count < row_count → ⊥
    past h = omega arith

    emptied : slot_at k s' ≡ free_slot
    emptied = body-get-put (AtSlot k) free_slot s g.shape (low, freed-fits)

delete-sound : (b : Blob) (m : List ℕ) (s : State) → Sound s → Sound (delete_blob b m s).1
unfolding delete_blob delete_store
delete-sound (Store at len) m s g =
    some-has Kept (slot_named n s) (refused not_found, s) _ g
    (λ (k : ℕ) (e : slot_named n s ≡ some k).
    none_has Kept (row_found (OnBlob k) s) (refused busy, s) (done, (in_body (AtSlot k)).put free_slot s) g (deleted-sound k s g (named-slot n s k e).0))
  where
    n : List ℕ
    n = part at len m
delete-sound (Flash k) m s g = g
delete-sound Base m s g = g
delete-sound Unknown m s g = g

-- ---- the whole
answered-sound : (q : Request) (t : ℕ) (m : List ℕ) (s : State) → Inside m q → Sound s → Sound (answered q t m s).1
unfolding answered
answered-sound Count t m s nm g = g
answered-sound (Enumerate index) t m s nm g = g
answered-sound (Open flags b) t m s nm g = open-sound b flags t m (swept t s) nm (swept-sound t s g)
answered-sound (Read session offset n) t m s nm g = session-sound _ t _ s g
answered-sound (Write session offset start) t m s nm g = session-sound _ t _ s g
answered-sound (Commit session len rest) t m s nm g = session-sound _ t _ s g
answered-sound (Close session) t m s nm g = session-sound _ t _ s g
answered-sound (Delete b) t m s nm g = delete-sound b m s g
answered-sound (Stat b) t m s nm g = g
answered-sound (SessionStat session) t m s nm g = session-sound _ t _ s g
answered-sound (WriteMeta session) t m s nm g = session-sound _ t _ s g
answered-sound (Refused code) t m s nm g = g

-- EVERY MESSAGE KEEPS A SOUND STATE SOUND (rule 21.3)
pub respond-sound : (t : ℕ) (m : List ℕ) (s : State) → is_sound s ≡ true → is_sound (respond t m s).state ≡ true
respond-sound t m s h =
    ap (λ (o : Effect). is_sound o.state) (respond-is t m s h) ∙ test-of-sound (answered (decoded m) t m s).1 (answered-sound (decoded m) t m s (decoded-inside m) (sound-of-test s h))

-- AND SO DOES A JOB OUTCOME (rule 21.3)
pub job-sound : (good : Bool) (s : State) → is_sound s ≡ true → is_sound (job_outcome good s).state ≡ true
job-sound good s h =
    ap (λ (o : Effect). is_sound o.state) (job_is good s h) ∙ test-of-sound (on_session OnFlash 0 (end_job good) s).1 (session-sound OnFlash 0 (end_job good) s (sound-of-test s h))
