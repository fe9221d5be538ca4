-- The worked numbers, as one statement over the rules, on whole messages. Assumes nothing.
use Rattle.std.specs.Prelude.{◌≡◌, refl, ◌≢◌, Bool, true, false, not, ◌&&◌, List, [], ◌∷◌, ℕ, ◌+◌, ◌≤◌, ◌<◌, eqb, leb, ltb, length}
use Rattle.std.proofs.Common.{sym, ◌∙◌, subst, arith, ne_eqb}
use Rattle.std.proofs.Math.Path.{ap}
use Rattle.laws.specs.All.{all, Or, this, that}
use Rattle.laws.specs.Bytes.{little, bytes_of, same, first_zero}
use Rattle.laws.specs.Ranges.{part, length_part}
use Rattle.crc.specs.Crc.{shift, shifts, byte_step, crc_from, crc}
use Rattle.crc.proofs.Worked.{nine_digits, digits, nothing}
use Rattle.protocol.specs.Numbers.{success, out_of_range, too_long, write_command, row_count, slot_count, slot_size, running}
use Rattle.protocol.specs.Numbers.{not_found, count_command, open_command, read_command, sixteen_bits, read_only, read_write, session_life, sweep_every}
use Rattle.protocol.specs.Decode.{decoded, number_of, asked, body_fits, crc_fits, with_name, fields_at}
use Rattle.protocol.specs.Frame.{Reply, refused, done, reply, Answer, framed, header}
use Rattle.protocol.proofs.Sizes.{slot-size}
use Rattle.protocol.specs.Names.{base, flash_folder, flash_word, name_form, blob_named, store_name, alnum}
use Rattle.protocol.specs.declared.Blob.{Blob}
use Rattle.protocol.specs.declared.Request.{Request}
use Rattle.protocol.specs.declared.Request.TheVariants.{Count, Open, Read, Write}
use Rattle.state.specs.declared.row.Place.{Place}
use Rattle.state.specs.declared.row.Place.TheVariants.{AtSlot}
use Rattle.state.specs.State.{State, Row, Slot, in_row, in_body}
use Rattle.state.specs.Parts.{FitsSlot, body-view-fits}
use Rattle.state.specs.Words.{blob_of, stamp_of, status_of, writes, ident, blob, Live, free_row, fresh}
use Rattle.state.specs.Soundness.{slot_at, is_sound}
use Rattle.state.specs.Agree.{sound-of-test, place-slot}
use Rattle.state.proofs.Fresh.{fresh-sound}
use Rattle.rules.specs.Store.{seen_bytes, seen_length, read_store, stored, write_store, on_store, read_count}
use Rattle.rules.specs.Command.{Command, read, write, Out, placed}
use Rattle.state.specs.declared.row.Wanted.TheVariants.{Id}
use Rattle.rules.specs.Session.{on_place, on_session}
use Rattle.rules.specs.Sweep.{stale, sweep_rows, noted, swept}
use Rattle.rules.specs.Open.{open_blob}
use Rattle.rules.specs.Listing.{committed_names, flash_names, listed, count}
use Rattle.rules.specs.Respond.{Effect, effect_of, answered, respond}
use Rattle.rules.proofs.Laws.{respond-is, placed-fits, placed-over, placed-beyond}
use Rattle.rules.specs.Searches.{session-row}
use Rattle.protocol.specs.declared.Blob.TheVariants.{Store, Base}
use Rattle.state.specs.Facts.{Sound, Session}
use Rattle.rules.proofs.Messages.{sent, ask_open, ask_read, ask_write, thirty_two_bits, write_most, read-decoded, write-decoded}
use Rattle.rules.proofs.Situations.{scan_name, letter_b, writer, writer-sound, writer-row, writer-slot, writer-live, writer-swept, letter_a, name-a}
use Rattle.rules.proofs.Sweeping.{sweeps-table, sweeps-below, sweeps-past, turn-keeps, turn-frees, swept-due, swept-not, due-at, table-swept, AfterOpen, open-fine}
use Rattle.rules.specs.Opening.{flash_listed}

-- ---- the situations
-- row i is a store session of a sound state, and sees n bytes
pub record Sees (n i : ℕ) (s : State) : Type 0 where
  pub is-sound : is_sound s ≡ true
  pub is_live : Live i s
  pub blob_in_store : blob i s < slot_count
  pub sees : seen_length (writes ((in_row i).get s)) (slot_at (blob i s) s) ≡ n

-- and it writes
pub record Writes (n i : ℕ) (s : State) : Type 0 where
  pub session : Sees n i s
  pub writing : writes ((in_row i).get s) ≡ true

-- row i is a session of a sound state with stamp 100 and no running job, and the last sweep was at 0
pub record Stamped (i : ℕ) (s : State) : Type 0 where
  pub all_sound : is_sound s ≡ true
  pub live-there : Live i s
  pub stamp-100 : stamp_of ((in_row i).get s) ≡ 100
  pub no-job : status_of ((in_row i).get s) ≢ running
  pub swept-at-0 : s.last_sweep ≡ 0

-- the bytes that row i sees
abbrev pub bytes_seen : ℕ → State → List ℕ
bytes_seen i s = seen_bytes (writes ((in_row i).get s)) (slot_at (blob i s) s)

-- the message m is answered with the k bytes from the offset on that row i sees
pub record Shows (t : ℕ) (m : List ℕ) (i offset k : ℕ) (s : State) : Type 0 where
  pub accepted : (respond t m s).code ≡ success
  pub bytes : (respond t m s).response ≡ sent read_command (part offset k (bytes_seen i s))
  pub many : length (part offset k (bytes_seen i s)) ≡ k

-- an Open at the clock t closed the session of row i, from s to y: its sweep freed the row, and then the row stayed free, or this Open took it anew
abbrev pub Closed : ℕ → ℕ → State → State → Type 0
Closed i t s y = ((in_row i).get (swept t s) ≡ free_row) × Or ((in_row i).get y ≡ free_row) (stamp_of ((in_row i).get y) ≡ t)

-- THE STARRED NUMBERS
pub record Starred : Type 0 where
  -- the CRC of the nine digits, and of no bytes (rule 2.5)
  pub crc-digits : crc nine_digits ≡ 0xE5CC
  pub crc-nothing : crc [] ≡ 0x1D0F
  -- Fresh count is 4 (rule 8.6)
  pub fresh-count : (t : ℕ) → respond t (header count_command) fresh ≡ record { code = success; response = sent count_command (bytes_of 4 4); state = fresh }
  -- Reads of a session that sees 100 bytes: 10 of 58 near the end, 58 of 100, and none from the end on, whatever count is requested (rule 10.5)
  pub read-90 : (t i : ℕ) (s : State) → Sees 100 i s → Shows t (ask_read (ident i s) 90 58) i 90 10 s
  pub read-0 : (t i : ℕ) (s : State) → Sees 100 i s → Shows t (ask_read (ident i s) 0 100) i 0 58 s
  pub read-100 : (t i count : ℕ) (s : State) → Sees 100 i s → count < thirty_two_bits
      → ((respond t (ask_read (ident i s) 100 count) s).code ≡ success) × ((respond t (ask_read (ident i s) 100 count) s).response ≡ 0xCF ∷ 0xC2 ∷ 0x00 ∷ 0x03 ∷ 0x0F ∷ 0x1D ∷ [])
  -- Writes of 52 bytes by a session that has 4,060: up to the capacity, one past it, and past the length (rule 11.6)
  pub write-4044 : (t i : ℕ) (bytes : List ℕ) (s : State) → Writes 4060 i s → length bytes ≡ 52 → (respond t (ask_write (ident i s) 4044 bytes) s).code ≡ success
  pub write-4045 : (t i : ℕ) (bytes : List ℕ) (s : State) → Writes 4060 i s → length bytes ≡ 52 → (respond t (ask_write (ident i s) 4045 bytes) s).code ≡ too_long
  pub write-4061 : (t i : ℕ) (bytes : List ℕ) (s : State) → Writes 4060 i s → length bytes ≤ 52 → (respond t (ask_write (ident i s) 4061 bytes) s).code ≡ out_of_range
  -- Stamp 100, last sweep 0: every Open at 700 keeps the session, every Open at 701 closes it; so does one that is refused, and then the row is free (rule 18.6)
  pub open-700 : (i flags : ℕ) (b : Blob) (m : List ℕ) (s : State) → Stamped i s → decoded m ≡ Open flags b → (in_row i).get (respond 700 m s).state ≡ (in_row i).get s
  pub open-701 : (i flags : ℕ) (b : Blob) (m : List ℕ) (s : State) → Stamped i s → decoded m ≡ Open flags b → Closed i 701 s (respond 701 m s).state
  pub refused-701 : (i flags : ℕ) (m : List ℕ) (s : State) → Stamped i s → decoded m ≡ Open flags Base → ((respond 701 m s).code ≡ not_found) × ((in_row i).get (respond 701 m s).state ≡ free_row)
  -- Last sweep 0: at 59 not due, at 60 due, for every Open (rule 18.6)
  pub open-59 : (flags : ℕ) (b : Blob) (m : List ℕ) (s : State) → is_sound s ≡ true → s.last_sweep ≡ 0 → decoded m ≡ Open flags b → (respond 59 m s).state.last_sweep ≡ 0
  pub open-60 : (flags : ℕ) (b : Blob) (m : List ℕ) (s : State) → is_sound s ≡ true → s.last_sweep ≡ 0 → decoded m ≡ Open flags b → (respond 60 m s).state.last_sweep ≡ 60
  -- states and messages that meet all this: one session that writes `/scan/a`, with stamp 100 and last sweep 0; Opens of `/scan/b` and of the base
  pub sees-100 : Sees 100 0 (writer (scan_name letter_a) 100)
  pub writes-4060 : Writes 4060 0 (writer (scan_name letter_a) 4060)
  pub stamped : Stamped 0 (writer (scan_name letter_a) 100)
  pub opens-b : decoded (ask_open read_write (scan_name letter_b)) ≡ Open read_write (Store (fields_at + 2) 7)
  pub opens-base : decoded (ask_open read_only base) ≡ Open read_only Base

-- ---- how a session's command is answered
store-reply : (n t i : ℕ) (c : Command) (s : State) → Sees n i s → (on_session (Id (ident i s)) t c s).0 ≡ (on_store t c ((in_row i).get s) (slot_at (blob i s) s)).0
store-reply n t i c s h =
    ap (λ (x : Reply × State). x.0) (session-row t i c s (sound-of-test s h.is-sound) h.is_live) ∙ ap (λ (p : Place). (on_place p i t c s).0) (place-slot (blob i s) h.blob_in_store)

-- a message that asks q is answered as q is
pub reply-is : (t : ℕ) (m : List ℕ) (s : State) (q : Request) (x : Reply) → is_sound s ≡ true → decoded m ≡ q → (answered q t m s).0 ≡ x
    → ((respond t m s).code ≡ (framed (number_of q) x).0) × ((respond t m s).response ≡ (framed (number_of q) x).1)
reply-is t m s q x h e f =
    let g : framed (number_of (decoded m)) (answered (decoded m) t m s).0 ≡ framed (number_of q) x = ap (λ (r : Request). framed (number_of r)
    (answered r t m s).0) e ∙ ap (framed (number_of q)) f in (
      ap (λ (o : Effect). o.code) (respond-is t m s h) ∙ ap (λ (y : Answer). y.0) g,
      ap (λ (o : Effect). o.response) (respond-is t m s h) ∙ ap (λ (y : Answer). y.1) g,
    )

-- ---- Count
count-decoded : decoded (header count_command) ≡ Count
unfolding decoded same all body_fits crc_fits asked
count-decoded = refl

-- COUNT IS ANSWERED WITH THE NUMBER OF THE LISTED NAMES
pub count-answer : (t : ℕ) (s : State) → is_sound s ≡ true → respond t (header count_command) s ≡ record { code = success; response = sent count_command (bytes_of 4 (count s)); state = s }
unfolding answered framed
count-answer t s h =
    respond-is t (header count_command) s h
    ∙ ap (λ (q : Request). effect_of (framed (number_of q) (answered q t (header count_command) s).0) (answered q t (header count_command) s).1) count-decoded

counted-fresh : count fresh ≡ 4
unfolding listed committed_names flash_names flash_listed fresh
counted-fresh = refl

fresh-counts : (t : ℕ) → respond t (header count_command) fresh ≡ record { code = success; response = sent count_command (bytes_of 4 4); state = fresh }
fresh-counts t = count-answer t fresh fresh-sound ∙ ap (λ (n : ℕ). effect_of (success, sent count_command (bytes_of 4 n)) fresh) counted-fresh

-- ---- Read
-- a store session's identifier has two bytes, and its region is whole
module _ (n i : ℕ) (s : State) (h : Sees n i s) where
  good : Sound s
  good = sound-of-test s h.is-sound

  ident-small : ident i s < sixteen_bits
  ident-small = (subst (λ (p : Place). Session p ((in_row i).get s) ((in_body p).get s)) (place-slot (blob i s) h.blob_in_store) (good.session i h.is_live)).id-small

  seen-length : length (bytes_seen i s) ≡ slot_size
  seen-length = go (writes ((in_row i).get s))
    where
      fit : FitsSlot (slot_at (blob i s) s)
      fit = (body-view-fits (AtSlot (blob i s)) s h.blob_in_store good.shape).1

      go : (y : Bool) → length (seen_bytes y (slot_at (blob i s) s)) ≡ slot_size
      go true = fit.staged-long
      go false = fit.committed-long

read-reply : (offset count t i : ℕ) (m : List ℕ) (s : State) → Sees 100 i s → (answered (Read (ident i s) offset count) t m s).0 ≡ reply (part offset (read_count count offset 100) (bytes_seen i s))
unfolding answered on_store read_store
read-reply offset count t i m s h =
    store-reply 100 t i (read offset count) s h ∙ ap (λ (x : ℕ). reply (part offset (read_count count offset x) (bytes_seen i s))) h.sees

pub reply-frame : (sub : ℕ) (f : List ℕ) → ((framed sub (reply f)).0 ≡ success) × ((framed sub (reply f)).1 ≡ sent sub f)
unfolding framed
reply-frame sub f = (refl, refl)

shows : (offset count t i : ℕ) (s : State) → offset ≤ 100 → count < thirty_two_bits → Sees 100 i s → Shows t (ask_read (ident i s) offset count) i offset (read_count count offset 100) s
shows offset count t i s ho hc h =
    let x = reply-is t (ask_read (ident i s) offset count) s (Read (ident i s) offset count) (reply (part offset (read_count count offset 100) (bytes_seen i s))) h.is-sound
    (read-decoded (ident i s) offset count (ident-small 100 i s h) (omega arith) hc) (read-reply offset count t i (ask_read (ident i s) offset count) s h) in
    let y = reply-frame read_command (part offset (read_count count offset 100) (bytes_seen i s)) in
    record { accepted = x.0 ∙ y.0; bytes = x.1 ∙ y.1; many = length_part offset (read_count count offset 100) (bytes_seen i s) (let z = seen-length 100 i s h in let w = slot-size in omega arith) }

empty-frame : sent read_command [] ≡ 0xCF ∷ 0xC2 ∷ 0x00 ∷ 0x03 ∷ 0x0F ∷ 0x1D ∷ []
unfolding bytes_of crc_from
empty-frame = refl

-- ---- Write
-- a Write of a session that has 4,060 bytes and writes is answered as its checks are
write-reply : (offset t i : ℕ) (bytes : List ℕ) (s : State) (x : Reply) → Writes 4060 i s → offset < thirty_two_bits → length bytes ≤ write_most
    → (placed slot_size 4060 offset (length bytes) ((in_row i).get s) (slot_at (blob i s) s) (stored t offset bytes ((in_row i).get s) (slot_at (blob i s) s))).0 ≡ x
    → (respond t (ask_write (ident i s) offset bytes) s).code ≡ (framed write_command x).0
unfolding answered on_store write_store
write-reply offset t i bytes s x h ho hb f =
    let r = (in_row i).get s in
    let b = slot_at (blob i s) s in
    let m = ask_write (ident i s) offset bytes in
    let d = write-decoded (ident i s) offset bytes (ident-small 4060 i s h.session) ho hb in
    let n : b.staged_len ≡ 4060 = sym (ap (λ (y : Bool). seen_length y b) h.writing) ∙ h.session.sees in
    (reply-is t m s (Write (ident i s) offset (fields_at + 6)) x h.session.is-sound d.0
    (ap (λ (ws : List ℕ). (on_session (Id (ident i s)) t (write offset ws) s).0) d.1
    ∙ store-reply 4060 t i (write offset bytes) s h.session
    ∙ ap (λ (y : Bool). (write_store y t offset bytes r b).0) h.writing
    ∙ ap (λ (y : ℕ). (placed slot_size y offset (length bytes) r b (stored t offset bytes r b)).0) n ∙ f)).0

stored-done : (ws : List ℕ) (t offset : ℕ) (r : Row) (b : Slot) → (stored t offset ws r b).0 ≡ done
unfolding stored
stored-done [] t offset r b = refl
stored-done (w ∷ ws) t offset r b = refl

pub done-code : (sub : ℕ) → (framed sub done).0 ≡ success
unfolding framed
done-code sub = refl

pub refused-code : (sub c : ℕ) → (framed sub (refused c)).0 ≡ c
unfolding framed
refused-code sub c = refl

module _ (t i : ℕ) (bytes : List ℕ) (s : State) (h : Writes 4060 i s) where
  abbrev kept : ℕ → Out Slot
  kept offset = stored t offset bytes ((in_row i).get s) (slot_at (blob i s) s)

  at-4044 : length bytes ≡ 52 → (respond t (ask_write (ident i s) 4044 bytes) s).code ≡ success
  at-4044 l =
      write-reply 4044 t i bytes s done h (omega arith) (omega arith)
      (ap (λ (o : Out Slot). o.0) (placed-fits slot_size 4060 4044 (length bytes) ((in_row i).get s) (slot_at (blob i s) s) (kept 4044) (omega arith) (let z = slot-size in omega arith))
      ∙ stored-done bytes t 4044 ((in_row i).get s) (slot_at (blob i s) s)) ∙ done-code write_command

  at-4045 : length bytes ≡ 52 → (respond t (ask_write (ident i s) 4045 bytes) s).code ≡ too_long
  at-4045 l =
      write-reply 4045 t i bytes s (refused too_long) h (omega arith) (omega arith)
      (ap (λ (o : Out Slot). o.0) (placed-over slot_size 4060 4045 (length bytes) ((in_row i).get s) (slot_at (blob i s) s) (kept 4045) (omega arith) (let z = slot-size in omega arith)))
      ∙ refused-code write_command too_long

  at-4061 : length bytes ≤ 52 → (respond t (ask_write (ident i s) 4061 bytes) s).code ≡ out_of_range
  at-4061 l =
      write-reply 4061 t i bytes s (refused out_of_range) h (omega arith) l
      (ap (λ (o : Out Slot). o.0) (placed-beyond slot_size 4060 4061 (length bytes) ((in_row i).get s) (slot_at (blob i s) s) (kept 4061) (omega arith)))
      ∙ refused-code write_command out_of_range

-- ---- Sweep
-- row i after a sweep that is due: kept if it is not stale, else freed
abbrev stale-100 : ℕ → ℕ → State → Bool
stale-100 t i s = ltb (100 + session_life) t && not (eqb (status_of ((in_row i).get s)) running)

module _ (t i : ℕ) (s : State) (h : Stamped i s) (late : leb sweep_every t ≡ true) where
  same_row : (in_row i).get (sweep_rows t i s) ≡ (in_row i).get s
  same_row = sweeps-below t i i s (omega arith)

  stale-is : stale t ((in_row i).get (sweep_rows t i s)) ≡ stale-100 t i s
  stale-is = ap (stale t) same_row ∙ ap (λ (x : ℕ). ltb (x + session_life) t && not (eqb (status_of ((in_row i).get s)) running)) h.stamp-100

  swept-is : swept t s ≡ noted t (sweep_rows t row_count s)
  swept-is = swept-due t s (due-at t s h.swept-at-0 ∙ late)

  row_kept : stale-100 t i s ≡ false → (in_row i).get (swept t s) ≡ (in_row i).get s
  row_kept e =
      ap (λ (x : State). (in_row i).get x) swept-is
      ∙ sweeps-past t row_count i s ((in_row i).get s) (turn-keeps t i (sweep_rows t i s) (stale-is ∙ e) ∙ same_row) h.live-there.0

  row-freed : stale-100 t i s ≡ true → (in_row i).get (swept t s) ≡ free_row
  row-freed e =
      ap (λ (x : State). (in_row i).get x) swept-is
      ∙ sweeps-past t row_count i s free_row
      (turn-frees t i (sweep_rows t i s) h.live-there.0 (sweeps-table t i s (sound-of-test s h.all_sound).shape.table-size) (ap (λ (x : Row). x.used) same_row ∙ h.live-there.1)
      (stale-is ∙ e) (λ (z : status_of ((in_row i).get (sweep_rows t i s)) ≡ running). h.no-job (sym (ap status_of same_row) ∙ z))) h.live-there.0

-- a message that asks for an Open
module _ (t flags : ℕ) (b : Blob) (m : List ℕ) (s : State) (h : is_sound s ≡ true) (d : decoded m ≡ Open flags b) where
  open-state : (respond t m s).state ≡ (open_blob b flags t m (swept t s)).1
  unfolding answered
  open-state = ap (λ (o : Effect). o.state) (respond-is t m s h) ∙ ap (λ (q : Request). (answered q t m s).1) d

  open-answer : (respond t m s).code ≡ (framed open_command (open_blob b flags t m (swept t s)).0).0
  unfolding answered
  open-answer = (reply-is t m s (Open flags b) (open_blob b flags t m (swept t s)).0 h d refl).0

  after_open : (i : ℕ) → AfterOpen t i (swept t s) (respond t m s).state
  after_open i = subst (AfterOpen t i (swept t s)) (sym open-state) (open-fine t i m (swept t s) (table-swept t s (sound-of-test s h).shape.table-size) b flags)

at-700 : (i flags : ℕ) (b : Blob) (m : List ℕ) (s : State) → Stamped i s → decoded m ≡ Open flags b → (in_row i).get (respond 700 m s).state ≡ (in_row i).get s
at-700 i flags b m s h d = go (after_open 700 flags b m s h.all_sound d i).row-then
  where
    stays : (in_row i).get (swept 700 s) ≡ (in_row i).get s
    stays = row_kept 700 i s h refl refl

    go : Or ((in_row i).get (respond 700 m s).state ≡ (in_row i).get (swept 700 s)) ((((in_row i).get (swept 700 s)).used ≡ 0) × (stamp_of ((in_row i).get (respond 700 m s).state) ≡ 700))
        → (in_row i).get (respond 700 m s).state ≡ (in_row i).get s
    go (this e) = e ∙ stays
    go (that e) = absurd (let u : ((in_row i).get s).used ≡ 0 = sym (ap (λ (x : Row). x.used) stays) ∙ e.0 in let v : ((in_row i).get s).used ≡ 1 = h.live-there.1 in omega arith)

freed-701 : (i : ℕ) (s : State) → Stamped i s → (in_row i).get (swept 701 s) ≡ free_row
freed-701 i s h = row-freed 701 i s h refl (ap not (ne_eqb (status_of ((in_row i).get s)) running h.no-job))

at-701 : (i flags : ℕ) (b : Blob) (m : List ℕ) (s : State) → Stamped i s → decoded m ≡ Open flags b → Closed i 701 s (respond 701 m s).state
at-701 i flags b m s h d = (freed-701 i s h, go (after_open 701 flags b m s h.all_sound d i).row-then)
  where
    go : Or ((in_row i).get (respond 701 m s).state ≡ (in_row i).get (swept 701 s)) ((((in_row i).get (swept 701 s)).used ≡ 0) × (stamp_of ((in_row i).get (respond 701 m s).state) ≡ 701))
        → Or ((in_row i).get (respond 701 m s).state ≡ free_row) (stamp_of ((in_row i).get (respond 701 m s).state) ≡ 701)
    go (this e) = this (e ∙ freed-701 i s h)
    go (that e) = that e.1

base-refused : (flags t : ℕ) (m : List ℕ) (s : State) → open_blob Base flags t m s ≡ (refused not_found, s)
unfolding open_blob
base-refused flags t m s = refl

swept_at : (t n flags : ℕ) (b : Blob) (m : List ℕ) (s : State) → is_sound s ≡ true → decoded m ≡ Open flags b → (swept t s).last_sweep ≡ n → (respond t m s).state.last_sweep ≡ n
swept_at t n flags b m s h d e = (after_open t flags b m s h d 0).sweep-kept ∙ e

-- ---- the states and messages that meet the premises
writer-sees : (n : ℕ) → n ≤ slot_size → Writes n 0 (writer (scan_name letter_a) n)
writer-sees n h = record {
  session = record {
    is-sound = writer-sound (scan_name letter_a) n name-a h;
    is_live = writer-live (scan_name letter_a) n;
    blob_in_store = let e : blob 0 (writer (scan_name letter_a) n) ≡ 0 = ap blob_of (writer-row (scan_name letter_a) n) in omega arith;
    sees = ap (λ (r : Row). seen_length (writes r) (slot_at (blob_of r) (writer (scan_name letter_a) n))) (writer-row (scan_name letter_a) n) ∙ ap
        (λ (b : Slot). b.staged_len) (writer-slot (scan_name letter_a) n);
  };
  writing = ap writes (writer-row (scan_name letter_a) n);
}

writer-stamped : (n : ℕ) → n ≤ slot_size → Stamped 0 (writer (scan_name letter_a) n)
writer-stamped n h = record {
  all_sound = writer-sound (scan_name letter_a) n name-a h;
  live-there = writer-live (scan_name letter_a) n;
  stamp-100 = ap stamp_of (writer-row (scan_name letter_a) n);
  no-job = λ (e : status_of ((in_row 0).get (writer (scan_name letter_a) n)) ≡ running). let z : ◌≡◌ {A = ℕ} 0 1 = sym (ap status_of (writer-row (scan_name letter_a) n)) ∙ e in omega arith;
  swept-at-0 = writer-swept (scan_name letter_a) n;
}

open-b : decoded (ask_open read_write (scan_name letter_b)) ≡ Open read_write (Store (fields_at + 2) 7)
unfolding decoded same all body_fits crc_fits asked with_name name_form first_zero blob_named store_name alnum base little bytes_of crc_from byte_step shifts shift
open-b = refl

open-base : decoded (ask_open read_only base) ≡ Open read_only Base
unfolding decoded same all body_fits crc_fits asked with_name name_form first_zero blob_named store_name alnum base flash_folder flash_word little bytes_of crc_from byte_step shifts shift
open-base = refl

-- ALL OF THEM HOLD (rule 21.4)
pub starred : Starred
starred = record {
  crc-digits = digits;
  crc-nothing = nothing;
  fresh-count = fresh-counts;
  read-90 = λ (t i : ℕ) (s : State) (h : Sees 100 i s). shows 90 58 t i s (omega arith) (omega arith) h;
  read-0 = λ (t i : ℕ) (s : State) (h : Sees 100 i s). shows 0 100 t i s (omega arith) (omega arith) h;
  read-100 = λ (t i count : ℕ) (s : State) (h : Sees 100 i s) (small : count < thirty_two_bits).
      let x = shows 100 count t i s (omega arith) small h in
      let none_left : read_count count 100 100 ≡ 0 = omega arith in (x.accepted, x.bytes ∙ ap (λ (n : ℕ). sent read_command (part 100 n (bytes_seen i s))) none_left ∙ empty-frame);
  write-4044 = at-4044;
  write-4045 = at-4045;
  write-4061 = at-4061;
  open-700 = at-700;
  open-701 = at-701;
  refused-701 = λ (i flags : ℕ) (m : List ℕ) (s : State) (h : Stamped i s) (d : decoded m ≡ Open flags Base).
      let e = base-refused flags 701 m (swept 701 s) in (
        open-answer 701 flags Base m s h.all_sound d ∙ ap (λ (o : Reply × State). (framed open_command o.0).0) e ∙ refused-code open_command not_found,
        ap (λ (x : State). (in_row i).get x) (open-state 701 flags Base m s h.all_sound d ∙ ap (λ (o : Reply × State). o.1) e) ∙ freed-701 i s h,
      );
  open-59 = λ (flags : ℕ) (b : Blob) (m : List ℕ) (s : State) (h : is_sound s ≡ true) (z : s.last_sweep ≡ 0) (d : decoded m ≡ Open flags b).
      swept_at 59 0 flags b m s h d (ap (λ (x : State). x.last_sweep) (swept-not 59 s (due-at 59 s z)) ∙ z);
  open-60 = λ (flags : ℕ) (b : Blob) (m : List ℕ) (s : State) (h : is_sound s ≡ true) (z : s.last_sweep ≡ 0) (d : decoded m ≡ Open flags b).
      swept_at 60 60 flags b m s h d (ap (λ (x : State). x.last_sweep) (swept-due 60 s (due-at 60 s z)));
  sees-100 = (writer-sees 100 (let z = slot-size in omega arith)).session;
  writes-4060 = writer-sees 4060 (let z = slot-size in omega arith);
  stamped = writer-stamped 100 (let z = slot-size in omega arith);
  opens-b = open-b;
  opens-base = open-base;
}
