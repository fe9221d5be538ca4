-- A RETRY CHANGES NOTHING: the same message, sent again at the same clock, leaves the state as the first left it, whatever it is and whatever it was answered. Every message but an accepted Open,
-- Close or Delete is answered alike again. Assumes nothing.
use Rattle.std.specs.Prelude.{◌≡◌, ◌≢◌, Bool, true, cond, List, [], ℕ, ◌+◌, ◌≤◌, ◌<◌}
use Rattle.std.proofs.Math.Path.{refl, sym, ap}
use Rattle.std.proofs.Common.{◌∙◌, subst}
use Rattle.std.proofs.Math.Bool.{false}
use Rattle.std.proofs.Math.Option.{Option, none, some}
use native.Mathlib.Omega.{arith}
use Rattle.std.proofs.Math.Decide.{ℕ_discrete}
use Rattle.std.proofs.Math.Dec.{eqb}
use borrow.Author.Tests.{eqb-true, ne_eqb, eq-eqb, lt-leb}
use Rattle.std.proofs.lemmas.List.{length-replicate}
use Rattle.laws.specs.Bytes.{padded, padded-length}
use Rattle.laws.specs.Ranges.{part}
use Rattle.protocol.specs.Numbers.{slot_count, name_size, slot_size, success, not_sound, not_found, not_supported, busy, write_only, sweep_every, running, open_command, close_command, delete_command}
use Rattle.protocol.specs.Names.{flash_number, kind_of}
use Rattle.protocol.specs.Decode.{decoded, number_of}
use Rattle.protocol.specs.Frame.{Reply, refused, done, framed}
use Rattle.protocol.specs.declared.FlashKind.{FlashKind}
use Rattle.protocol.specs.declared.FlashKind.TheVariants.{Image, Hash, Verify, Update, Cleanup}
use Rattle.protocol.specs.declared.Blob.{Blob}
use Rattle.protocol.specs.declared.Blob.TheVariants.{Store, Flash, Base, Unknown}
use Rattle.protocol.specs.declared.Request.{Request}
use Rattle.protocol.specs.declared.Request.TheVariants.{Count, Enumerate, Open, Read, Write, Commit, Close, Delete, Stat, SessionStat, WriteMeta, Refused}
use Rattle.state.specs.declared.row.Place.{Place}
use Rattle.state.specs.declared.row.Place.TheVariants.{AtSlot, AtFlash}
use Rattle.state.specs.State.{State, Row, Slot, FlashBody, Body, place_of, in_row, in_body, cell}
use Rattle.state.specs.Parts.{FitsSlot, row-view-fits, body-view-fits}
use Rattle.state.proofs.Parts.{cell-get-put, cell-steady, row_put}
use Rattle.state.specs.Words.{id_of, blob_of, status_of, writes_with, store_flags, flash_flags, ident, blob, Live, free_row, free_slot}
use Rattle.state.specs.Soundness.{slot_at, is_sound}
use Rattle.state.specs.Facts.{Session, Sound}
use Rattle.state.specs.Agree.{sound-of-test}
use Rattle.rules.specs.Store.{with_staged}
use Rattle.rules.specs.Command.{Command, close}
use Rattle.rules.specs.Flash.{close_flash, on_flash}
use Rattle.state.specs.declared.row.Wanted.TheVariants.{Id, OnBlob, OnFlash}
use Rattle.rules.specs.Session.{on_part, on_place, on_row, on_found, on_session, row_found}
use Rattle.rules.specs.Sweep.{due, swept}
use Rattle.rules.proofs.Sweeping.{close-frees, swept-due, swept-not}
use Rattle.rules.specs.Lookup.{slot_named, free_row_in, free_slot_in, fresh_id}
use Rattle.rules.specs.Opening.{new_row, opened, new_slot, held_slot, flash_listed, opened_flash}
use Rattle.rules.specs.Open.{open_store, open_flash, open_blob}
use Rattle.rules.specs.Named.{delete_store, delete_blob}
use Rattle.rules.specs.Respond.{Effect, effect_of, unsound, answered, respond}
use Rattle.rules.proofs.Excluded.{Lasting}
use Rattle.rules.proofs.Laws.{respond-is, other-rows, some-has, none_has}
use Rattle.rules.proofs.OpenLaws.{open-store-has, open-flash-has}
use Rattle.rules.specs.Searches.{free-row, free-slot, named-slot, found-row, none_found, row_on, no-flash-row, session-row}
use Rattle.rules.proofs.Change.{Proper, row_new}
use Rattle.guarantees.proofs.Merging.{in-range, proper-row, on-row-sound}
use Rattle.guarantees.proofs.Keep.{number-high, swept-sound, respond-sound}
use Rattle.guarantees.proofs.Refusals.{refused-message}
use Rattle.guarantees.specs.Refusals.{left_by, left_in}
use Rattle.scans.proofs.Found.{named-at}
use Rattle.scans.proofs.Left.{absent_none, gone-absent}
use Rattle.retries.proofs.Twice.{part-again, part-goes}

-- what the same message does when it is sent again, at the same clock
abbrev pub again : (t : ℕ) → List ℕ → State → Effect
again t m s = respond t m (respond t m s).state

-- ---- a session command but Close
module _ (id t : ℕ) (c : Command) (s : State) (g : Sound s) (h : Lasting c) where
  row-twice : (r : ℕ) → Live r s → ident r s ≡ id → on_session (Id id) t c (on_row r t c s).1 ≡ on_row r t c s
  row-twice r l e =
      subst (λ (x : ℕ). on_session (Id x) t c y ≡ on_row r t c y) (id-now ∙ e) (session-row t r c y good live_now)
      ∙ ap (λ (b : ℕ). on_place (place_of b) r t c y) blob-now
      ∙ ap (λ (x : Row × Body p). ((on_part p t c x.0 x.1).0, (cell r p).put (on_part p t c x.0 x.1).1 y)) view-now
      ∙ ap (λ (o : Reply × (Row × Body p)). (o.0, (cell r p).put o.1 y)) (part-again p t c ((in_row r).get s) ((in_body p).get s) h
      (row-view-fits r s l.0 g.shape) (body-view-fits p s (in-range (blob r s)) g.shape) kept.1)
      ∙ ap (λ (x : Row × Body p). (out.0, (cell r p).put x y)) (sym view-now)
      ∙ ap (λ (x : State). (out.0, x)) (cell-steady r p y)
    where
      p : Place
      p = place_of (blob r s)

      out : Reply × (Row × Body (place_of (blob r s)))
      out = on_part (place_of (blob r s)) t c ((in_row r).get s) ((in_body (place_of (blob r s))).get s)

      y : State
      y = (on_row r t c s).1

      good : Sound (on_row r t c s).1
      good = on-row-sound s g r l t c

      fine : Proper (place_of (blob r s)) ((in_row r).get s) (on_part (place_of (blob r s)) t c ((in_row r).get s) ((in_body (place_of (blob r s))).get s)).1.0 ((in_body (place_of (blob r s))).get s)
          (on_part (place_of (blob r s)) t c ((in_row r).get s) ((in_body (place_of (blob r s))).get s)).1.1
      fine = proper-row s g r l t c

      on : (on_part (place_of (blob r s)) t c ((in_row r).get s) ((in_body (place_of (blob r s))).get s)).1.0.used ≡ 1
      on = part-goes (place_of (blob r s)) t c ((in_row r).get s) ((in_body (place_of (blob r s))).get s) h ∙ l.1

      kept : (id_of (on_part (place_of (blob r s)) t c ((in_row r).get s) ((in_body (place_of (blob r s))).get s)).1.0 ≡ ident r s)
          × (blob_of (on_part (place_of (blob r s)) t c ((in_row r).get s) ((in_body (place_of (blob r s))).get s)).1.0 ≡ blob r s)
          × Session (place_of (blob r s)) (on_part (place_of (blob r s)) t c ((in_row r).get s) ((in_body (place_of (blob r s))).get s)).1.0
          (on_part (place_of (blob r s)) t c ((in_row r).get s) ((in_body (place_of (blob r s))).get s)).1.1
      kept = fine.kept on

      view-now : (cell r (place_of (blob r s))).get (on_row r t c s).1 ≡ (on_part (place_of (blob r s)) t c ((in_row r).get s) ((in_body (place_of (blob r s))).get s)).1
      view-now = cell-get-put r (place_of (blob r s)) (on_part (place_of (blob r s)) t c ((in_row r).get s) ((in_body (place_of (blob r s))).get s)).1 s l.0 g.shape fine.row_fits fine.body-fits

      row_now : (in_row r).get (on_row r t c s).1 ≡ (on_part (place_of (blob r s)) t c ((in_row r).get s) ((in_body (place_of (blob r s))).get s)).1.0
      row_now = ap (λ (x : Row × Body (place_of (blob r s))). x.0) view-now

      id-now : ident r (on_row r t c s).1 ≡ ident r s
      id-now = ap id_of row_now ∙ kept.0

      blob-now : blob r (on_row r t c s).1 ≡ blob r s
      blob-now = ap blob_of row_now ∙ kept.1

      live_now : Live r (on_row r t c s).1
      live_now = (l.0, ap (λ (x : Row). x.used) row_now ∙ on)

  -- answer and state are those of the first
  session-twice : on_session (Id id) t c (on_session (Id id) t c s).1 ≡ on_session (Id id) t c s
  unfolding on_session
  session-twice = go (row_found (Id id) s) refl
    where
      go : (o : Option ℕ) → row_found (Id id) s ≡ o → on_session (Id id) t c (on_found o (Id id) t c s).1 ≡ on_found o (Id id) t c s
      go none e = ap (λ (o : Option ℕ). on_found o (Id id) t c s) e
      go (some r) e = let f = found-row (Id id) s r e in row-twice r f.0 (eqb-true (ident r s) id f.1)

-- every message but Open, Close and Delete
abbrev Repeats : Request → Type 0
Repeats q = (number_of q ≢ open_command) × (number_of q ≢ close_command) × (number_of q ≢ delete_command)

answered-twice : (q : Request) (t : ℕ) (m : List ℕ) (s : State) → Sound s → Repeats q → answered q t m (answered q t m s).1 ≡ answered q t m s
unfolding answered
answered-twice Count t m s g h = refl
answered-twice (Enumerate index) t m s g h = refl
answered-twice (Open flags b) t m s g h = absurd (h.0 refl)
answered-twice (Read session offset n) t m s g h = session-twice session t _ s g tt
answered-twice (Write session offset start) t m s g h = session-twice session t _ s g tt
answered-twice (Commit session len rest) t m s g h = session-twice session t _ s g tt
answered-twice (Close session) t m s g h = absurd (h.1 refl)
answered-twice (Delete b) t m s g h = absurd (h.2 refl)
answered-twice (Stat b) t m s g h = refl
answered-twice (SessionStat session) t m s g h = session-twice session t _ s g tt
answered-twice (WriteMeta session) t m s g h = session-twice session t _ s g tt
answered-twice (Refused code) t m s g h = refl

-- ---- whole messages
unsound-is : (t : ℕ) (m : List ℕ) (s : State) → is_sound s ≡ false → respond t m s ≡ unsound s
unfolding respond
unsound-is t m s h = ap (λ (y : Bool). cond y (effect_of (framed (number_of (decoded m)) (answered (decoded m) t m s).0) (answered (decoded m) t m s).1) (unsound s)) h

-- in a state that is not sound, every message is answered FF, and again
unsound-again : (t : ℕ) (m : List ℕ) (s : State) → is_sound s ≡ false → again t m s ≡ respond t m s
unsound-again t m s h = ap (λ (o : Effect). respond t m o.state) (unsound-is t m s h)

-- EVERY MESSAGE BUT OPEN, CLOSE AND DELETE, SENT AGAIN, IS ANSWERED ALIKE AND CHANGES NOTHING: completion code, response and state (rule 21.15)
pub retry-same : (t : ℕ) (m : List ℕ) (s : State) → number_of (decoded m) ≢ open_command → number_of (decoded m) ≢ close_command → number_of (decoded m) ≢ delete_command → again t m s ≡ respond t m s
retry-same t m s a b c = go (is_sound s) refl
  where
    q : Request
    q = decoded m

    go : (y : Bool) → is_sound s ≡ y → again t m s ≡ respond t m s
    go false h = unsound-again t m s h
    go true h =
        respond-is t m (respond t m s).state (respond-sound t m s h)
        ∙ ap (λ (o : Effect). effect_of (framed (number_of q) (answered q t m o.state).0) (answered q t m o.state).1) (respond-is t m s h)
        ∙ ap (λ (x : Reply × State). effect_of (framed (number_of q) x.0) x.1) (answered-twice q t m s (sound-of-test s h) (a, b, c)) ∙ sym (respond-is t m s h)

-- ---- the sweep
-- after a sweep none is due at the same clock
swept-over : (t : ℕ) (s : State) → due t (swept t s) ≡ false
swept-over t s = go (due t s) refl
  where
    go : (y : Bool) → due t s ≡ y → due t (swept t s) ≡ false
    go true e = ap (λ (x : State). due t x) (swept-due t s e) ∙ lt-leb (t + sweep_every) t (omega arith)
    go false e = ap (λ (x : State). due t x) (swept-not t s e) ∙ e

swept-twice : (t : ℕ) (s : State) → swept t (swept t s) ≡ swept t s
swept-twice t s = swept-not t (swept t s) (swept-over t s)

-- ---- a refusal
-- what a refusal left is left by the same refusal
answered-left : (q : Request) (t : ℕ) (m : List ℕ) (s : State) → answered q t m (left_by q t s) ≡ answered q t m s
unfolding answered
answered-left Count t m s = refl
answered-left (Enumerate index) t m s = refl
answered-left (Open flags b) t m s = ap (open_blob b flags t m) (swept-twice t s)
answered-left (Read session offset n) t m s = refl
answered-left (Write session offset start) t m s = refl
answered-left (Commit session len rest) t m s = refl
answered-left (Close session) t m s = refl
answered-left (Delete b) t m s = refl
answered-left (Stat b) t m s = refl
answered-left (SessionStat session) t m s = refl
answered-left (WriteMeta session) t m s = refl
answered-left (Refused code) t m s = refl

-- A MESSAGE THAT WAS REFUSED IS REFUSED AGAIN, with the same code, and changes nothing (rule 21.15)
pub refused-again : (t : ℕ) (m : List ℕ) (s : State) → (respond t m s).code ≢ success → again t m s ≡ respond t m s
refused-again t m s n = go (is_sound s) refl
  where
    q : Request
    q = decoded m

    go : (y : Bool) → is_sound s ≡ y → again t m s ≡ respond t m s
    go false h = unsound-again t m s h
    go true h =
        let left : (respond t m s).state ≡ left_by q t s = (refused-message t m s n).as-found ∙ ap (λ (y : Bool). left_in y q t s) h in
        respond-is t m (respond t m s).state (respond-sound t m s h)
        ∙ ap (λ (x : State). effect_of (framed (number_of q) (answered q t m x).0) (answered q t m x).1) left
        ∙ ap (λ (x : Reply × State). effect_of (framed (number_of q) x.0) x.1) (answered-left q t m s) ∙ sym (respond-is t m s h)

-- ---- an accepted Open
-- a reply and a state after an Open at the clock t: the same Open finds it busy, and sweeps nothing
abbrev Busy : Blob → (flags t : ℕ) → List ℕ → Reply × State → Type 0
Busy b flags t m o = is_sound o.1 ≡ true → (framed open_command o.0).0 ≡ success → open_blob b flags t m (swept t o.1) ≡ (refused busy, o.1)

not-accepted : (b : Blob) (flags t : ℕ) (m : List ℕ) (s : State) (code : ℕ) → code ≢ success → Busy b flags t m (refused code, s)
unfolding framed
not-accepted b flags t m s code n h e = absurd (n e)

-- a store name: its slot has a session now
module _ (n : List ℕ) (r k flags clean t : ℕ) (body : Slot) (s : State) (g : Sound s) (over : due t s ≡ false) (free : free_row_in s ≡ some r) (low : k < slot_count) (fits : FitsSlot body)
    (held : body.held ≡ 1) (name : body.name ≡ padded name_size n) (allowed : store_flags flags ≡ true) where
  abbrev taken : State
  taken = (opened (AtSlot k) r k flags clean t body s).1

  part-now : (cell r (AtSlot k)).get taken ≡ (new_row (fresh_id s) k flags clean t, body)
  unfolding opened
  part-now = cell-get-put r (AtSlot k) (new_row (fresh_id s) k flags clean t, body) s (free-row s r free).0 g.shape (record { four = refl; flag = omega arith }) (low, fits)

  not-due : due t taken ≡ false
  unfolding opened
  not-due = over

  slot-busy : is_sound taken ≡ true → open_store n flags t (swept t taken) ≡ (refused busy, taken)
  unfolding open_store
  slot-busy h =
      let good = sound-of-test taken h in
      let row : (in_row r).get taken ≡ new_row (fresh_id s) k flags clean t = ap (λ (c : Row × Slot). c.0) part-now in
      let slot : slot_at k taken ≡ body = ap (λ (c : Row × Slot). c.1) part-now in
      let there : slot_named n taken ≡ some k = named-at taken good n k low (ap (λ (b : Slot). b.held) slot ∙ held) (ap (λ (b : Slot). b.name) slot ∙ name) in
      let user : row_found (OnBlob k) taken ≡ some r = row_on taken good r k ((free-row s r free).0, ap (λ (x : Row). x.used) row) (ap blob_of row) in
      ap (open_store n flags t) (swept-not t taken not-due) ∙ rw (allowed, there, user)

held-busy : (n : List ℕ) (r k flags t : ℕ) (s : State) → Sound s → due t s ≡ false → store_flags flags ≡ true → slot_named n s ≡ some k → free_row_in s ≡ some r
    → is_sound (opened (AtSlot k) r k flags 1 t (held_slot flags (slot_at k s)) s).1 ≡ true
    → open_store n flags t (swept t (opened (AtSlot k) r k flags 1 t (held_slot flags (slot_at k s)) s).1) ≡ (refused busy, (opened (AtSlot k) r k flags 1 t (held_slot flags (slot_at k s)) s).1)
held-busy n r k flags t s g over allowed e free = go (writes_with flags)
  where
    at : (k < slot_count) × ((slot_at k s).held ≡ 1) × ((slot_at k s).name ≡ padded name_size n)
    at = named-slot n s k e

    fit : FitsSlot (slot_at k s)
    fit = (body-view-fits (AtSlot k) s at.0 g.shape).1

    copy : Slot
    copy = with_staged (slot_at k s).committed_bytes (slot_at k s).committed_len (slot_at k s)

    go : (y : Bool) → is_sound (opened (AtSlot k) r k flags 1 t (cond y copy (slot_at k s)) s).1 ≡ true
        → open_store n flags t (swept t (opened (AtSlot k) r k flags 1 t (cond y copy (slot_at k s)) s).1) ≡ (refused busy, (opened (AtSlot k) r k flags 1 t (cond y copy (slot_at k s)) s).1)
    go true = slot-busy n r k flags 1 t copy s g over free at.0
        (record { name-long = fit.name-long; committed-long = fit.committed-long; staged-long = fit.committed-long; held-flag = fit.held-flag; mark-flag = fit.mark-flag }) at.1 at.2 allowed
    go false = slot-busy n r k flags 1 t (slot_at k s) s g over free at.0 fit at.1 at.2 allowed

new-busy : (n : List ℕ) (r k flags t : ℕ) (s : State) → Sound s → due t s ≡ false → store_flags flags ≡ true → free_row_in s ≡ some r → free_slot_in s ≡ some k
    → is_sound (opened (AtSlot k) r k flags 0 t (new_slot n) s).1 ≡ true
    → open_store n flags t (swept t (opened (AtSlot k) r k flags 0 t (new_slot n) s).1) ≡ (refused busy, (opened (AtSlot k) r k flags 0 t (new_slot n) s).1)
new-busy n r k flags t s g over allowed free e =
    slot-busy n r k flags 0 t (new_slot n) s g over free (free-slot s k e).0
    (record {
      name-long = padded-length name_size n;
      committed-long = length-replicate slot_size 0;
      staged-long = length-replicate slot_size 0;
      held-flag = omega arith;
      mark-flag = omega arith;
    }) refl refl allowed

-- a flash name: it is listed still, and there is a flash session now
still-listed : (k : FlashKind) (b : FlashBody) → flash_listed k b.phase ≡ true → flash_listed k (opened_flash k b).phase ≡ true
unfolding flash_listed opened_flash
still-listed Image b h = refl
still-listed Hash b h = refl
still-listed Verify b h = h
still-listed Update b h = h
still-listed Cleanup b h = refl

module _ (k : FlashKind) (r flags t : ℕ) (s : State) (g : Sound s) (over : due t s ≡ false) (free : free_row_in s ≡ some r) (allowed : flash_flags flags ≡ true)
    (listed : flash_listed k s.flash_group.phase ≡ true) where
  abbrev flashing : State
  flashing = (opened AtFlash r (flash_number k) write_only 0 t (opened_flash k s.flash_group) s).1

  flash-row : (in_row r).get flashing ≡ new_row (fresh_id s) (flash_number k) write_only 0 t
  unfolding opened
  flash-row = row_put r AtFlash (new_row (fresh_id s) (flash_number k) write_only 0 t, opened_flash k s.flash_group) s (free-row s r free).0
      g.shape.table-size (record { four = refl; flag = omega arith })

  flash-not-due : due t flashing ≡ false
  unfolding opened
  flash-not-due = over

  flash-listed : flash_listed k flashing.flash_group.phase ≡ true
  unfolding opened
  flash-listed = still-listed k s.flash_group listed

  flash-busy : open_flash k flags t (swept t flashing) ≡ (refused busy, flashing)
  unfolding open_flash
  flash-busy = ap (open_flash k flags t) (swept-not t flashing flash-not-due) ∙ go (row_found OnFlash flashing) refl
    where
      go : (o : Option ℕ) → row_found OnFlash flashing ≡ o → open_flash k flags t flashing ≡ (refused busy, flashing)
      go none e = absurd (no-flash-row flashing e r ((free-row s r free).0, ap (λ (x : Row). x.used) flash-row) (subst (λ (b : ℕ). slot_count ≤ b) (sym (ap blob_of flash-row)) (number-high k).0))
      go (some q) e = rw (allowed, flash-listed, e)

open-busy : (b : Blob) (flags t : ℕ) (m : List ℕ) (s : State) → Sound s → due t s ≡ false → Busy b flags t m (open_blob b flags t m s)
unfolding open_blob
open-busy (Store at len) flags t m s g over =
    open-store-has (Busy (Store at len) flags t m) s (λ (code : ℕ) (n : code ≢ success). not-accepted (Store at len) flags t m s code n) (part at len m) flags t
    (λ (r k : ℕ) (a : store_flags flags ≡ true) (e : slot_named (part at len m) s ≡ some k) _ (i : free_row_in s ≡ some r) h _. held-busy (part at len m) r k flags t s g over a e i h)
    (λ (r k : ℕ) (a : store_flags flags ≡ true) _ _ (i : free_row_in s ≡ some r) (j : free_slot_in s ≡ some k) h _. new-busy (part at len m) r k flags t s g over a i j h)
open-busy (Flash k) flags t m s g over =
    open-flash-has (Busy (Flash k) flags t m) s (λ (code : ℕ) (n : code ≢ success). not-accepted (Flash k) flags t m s code n) k flags t
    (λ (r : ℕ) (a : flash_flags flags ≡ true) (l : flash_listed k s.flash_group.phase ≡ true) _ (i : free_row_in s ≡ some r) _ _. flash-busy k r flags t s g over i a l)
open-busy Base flags t m s g over = not-accepted Base flags t m s not_found (λ (e : not_found ≡ success). omega arith)
open-busy Unknown flags t m s g over = not-accepted Unknown flags t m s not_found (λ (e : not_found ≡ success). omega arith)

-- ---- an accepted Close
-- no session has the identifier any more
module _ (id t r : ℕ) (s : State) (g : Sound s) (l : Live r s) (e : ident r s ≡ id) (quiet : status_of ((in_row r).get s) ≢ running) where
  abbrev shut : State
  shut = (on_row r t close s).1

  shut_row : (in_row r).get shut ≡ free_row
  shut_row =
      row_new s g r l _ _ (proper-row s g r l t close) ∙ close-frees (place_of (blob r s)) t ((in_row r).get s) ((in_body (place_of (blob r s))).get s) quiet

  closed-again : on_session (Id id) t close shut ≡ (refused not_found, shut)
  unfolding on_session
  closed-again = ap (λ (o : Option ℕ). on_found o (Id id) t close shut) (none_found (Id id) shut (λ (q : ℕ) (v : Live q shut). other q v (ℕ_discrete q r)))
    where
      other : (q : ℕ) → Live q shut → Dec (q ≡ r) → eqb (ident q shut) id ≡ false
      other q v (yes f) = absurd (let z : ((in_row q).get shut).used ≡ 0 = ap (λ (x : ℕ). ((in_row x).get shut).used) f ∙ ap (λ (x : Row). x.used)
          shut_row in let u : ((in_row q).get shut).used ≡ 1 = v.1 in omega arith)
      other q v (no n) =
          let same : (in_row q).get shut ≡ (in_row q).get s = other-rows r q t close s (λ (f : r ≡ q). n (sym f)) in
          let was : Live q s = (v.0, sym (ap (λ (x : Row). x.used) same) ∙ v.1) in
          ne_eqb (ident q shut) id (λ (z : ident q shut ≡ id). g.ids q r was l n (sym (ap id_of same) ∙ z ∙ sym e))

-- a session whose Close was accepted had no running job
close-quiet : (p : Place) (t : ℕ) (r : Row) (b : Body p) → Session p r b → (framed close_command (on_part p t close r b).0).0 ≡ success → status_of r ≢ running
unfolding on_flash close_flash framed
close-quiet (AtSlot k) t r b ses ok e = let z = ses.no-status in omega arith
close-quiet AtFlash t r b ses ok e =
    let z : (framed close_command (close_flash true (kind_of (blob_of r)) r b).0).0 ≡ success = sym (ap (λ (y : Bool). (framed close_command
    (close_flash y (kind_of (blob_of r)) r b).0).0) (eq-eqb (status_of r) running e)) ∙ ok in
    omega arith

close-gone : (id t : ℕ) (s : State) → Sound s → (framed close_command (on_session (Id id) t close s).0).0 ≡ success → on_session (Id id) t close
    (on_session (Id id) t close s).1 ≡ (refused not_found, (on_session (Id id) t close s).1)
unfolding on_session framed
close-gone id t s g = go (row_found (Id id) s) refl
  where
    go : (o : Option ℕ) → row_found (Id id) s ≡ o → (framed close_command (on_found o (Id id) t close s).0).0 ≡ success
        → on_session (Id id) t close (on_found o (Id id) t close s).1 ≡ (refused not_found, (on_found o (Id id) t close s).1)
    go none e ok = absurd (omega arith)
    go (some r) e ok =
        let f = found-row (Id id) s r e in
        closed-again id t r s g f.0 (eqb-true (ident r s) id f.1) (close-quiet (place_of (blob r s)) t ((in_row r).get s) ((in_body (place_of (blob r s))).get s) (g.session r f.0) ok)

-- ---- an accepted Delete
-- no slot has the name any more
abbrev Vanished : Blob → List ℕ → Reply × State → Type 0
Vanished b m o = (framed delete_command o.0).0 ≡ success → delete_blob b m o.1 ≡ (refused not_found, o.1)

delete-none : (n : List ℕ) (s : State) → slot_named n s ≡ none → delete_store n s ≡ (refused not_found, s)
unfolding delete_store
delete-none n s e = rw e

delete-gone : (b : Blob) (m : List ℕ) (s : State) → Sound s → Vanished b m (delete_blob b m s)
unfolding delete_blob delete_store framed
delete-gone (Store at len) m s g =
    some-has (Vanished (Store at len) m) (slot_named n s) (refused not_found, s) _ (λ (e : not_found ≡ success). absurd (omega arith))
    (λ (k : ℕ) (e : slot_named n s ≡ some k). none_has (Vanished (Store at len) m) (row_found (OnBlob k) s) (refused busy, s)
    (done, (in_body (AtSlot k)).put free_slot s) (λ (f : busy ≡ success). absurd (omega arith))
    (λ _ _. delete-none n ((in_body (AtSlot k)).put free_slot s) (absent_none n ((in_body (AtSlot k)).put free_slot s) (gone-absent n s g k e))))
  where
    n : List ℕ
    n = part at len m
delete-gone (Flash k) m s g = λ (e : not_supported ≡ success). absurd (omega arith)
delete-gone Base m s g = λ (e : not_supported ≡ success). absurd (omega arith)
delete-gone Unknown m s g = λ (e : not_found ≡ success). absurd (omega arith)

-- ---- Open, Close and Delete, accepted, and sent again
-- the second is refused with this code, and leaves what the first left
abbrev pub RefusedThen : ℕ → (t : ℕ) → List ℕ → State → Type 0
RefusedThen code t m s = again t m s ≡ effect_of (code, []) (respond t m s).state

-- an accepted message came to a sound state
accepted-sound : (t : ℕ) (m : List ℕ) (s : State) → (respond t m s).code ≡ success → is_sound s ≡ true
accepted-sound t m s ok = go (is_sound s) refl
  where
    go : (y : Bool) → is_sound s ≡ y → is_sound s ≡ true
    go true h = h
    go false h = absurd (let z : not_sound ≡ success = sym (ap (λ (o : Effect). o.code) (unsound-is t m s h)) ∙ ok in omega arith)

module _ (t : ℕ) (m : List ℕ) (s : State) (q : Request) (d : decoded m ≡ q) (ok : (respond t m s).code ≡ success) where
  abbrev out : Reply × State
  out = answered q t m s

  sound : is_sound s ≡ true
  sound = accepted-sound t m s ok

  pub first-is : respond t m s ≡ effect_of (framed (number_of q) out.0) out.1
  first-is = respond-is t m s sound ∙ ap (λ (x : Request). effect_of (framed (number_of x) (answered x t m s).0) (answered x t m s).1) d

  good : is_sound out.1 ≡ true
  good = ap (λ (o : Effect). is_sound o.state) (sym first-is) ∙ respond-sound t m s sound

  code_is : (framed (number_of q) out.0).0 ≡ success
  code_is = ap (λ (o : Effect). o.code) (sym first-is) ∙ ok

  then-refused : (code : ℕ) → answered q t m out.1 ≡ (refused code, out.1) → RefusedThen code t m s
  unfolding framed
  then-refused code e =
      ap (λ (o : Effect). respond t m o.state) first-is ∙ respond-is t m out.1 good ∙ ap (λ (x : Request). effect_of (framed (number_of x) (answered x t m out.1).0) (answered x t m out.1).1) d
      ∙ ap (λ (o : Reply × State). effect_of (framed (number_of q) o.0) o.1) e ∙ ap (λ (o : Effect). effect_of (code, []) o.state) (sym first-is)

-- AN OPEN THAT WAS ACCEPTED IS BUSY WHEN IT IS SENT AGAIN (C0): no second session (rule 21.15)
pub open-again : (t : ℕ) (m : List ℕ) (s : State) (flags : ℕ) (b : Blob) → decoded m ≡ Open flags b → (respond t m s).code ≡ success → RefusedThen busy t m s
unfolding answered
open-again t m s flags b d ok =
    let g = sound-of-test s (accepted-sound t m s ok) in
    then-refused t m s (Open flags b) d ok busy (open-busy b flags t m (swept t s) (swept-sound t s g) (swept-over t s) (good t m s (Open flags b) d ok) (code_is t m s (Open flags b) d ok))

-- A CLOSE THAT WAS ACCEPTED FINDS NO SESSION WHEN IT IS SENT AGAIN (CB) (rule 21.15)
pub close-again : (t : ℕ) (m : List ℕ) (s : State) (session : ℕ) → decoded m ≡ Close session → (respond t m s).code ≡ success → RefusedThen not_found t m s
unfolding answered
close-again t m s session d ok =
    then-refused t m s (Close session) d ok not_found (close-gone session t s (sound-of-test s (accepted-sound t m s ok)) (code_is t m s (Close session) d ok))

-- A DELETE THAT WAS ACCEPTED FINDS NO NAME WHEN IT IS SENT AGAIN (CB) (rule 21.15)
pub delete-again : (t : ℕ) (m : List ℕ) (s : State) (b : Blob) → decoded m ≡ Delete b → (respond t m s).code ≡ success → RefusedThen not_found t m s
unfolding answered
delete-again t m s b d ok =
    then-refused t m s (Delete b) d ok not_found (delete-gone b m s (sound-of-test s (accepted-sound t m s ok)) (code_is t m s (Delete b) d ok))
