-- What is written and committed is what a later Open for reading shows; a Close and an Open leave it; a deleted name is gone. On whole messages. Assumes nothing.
use Rattle.std.specs.Prelude.{◌≡◌, ◌≢◌, Bool, true, List, ℕ, ◌+◌, ◌<◌}
use Rattle.std.proofs.Math.Path.{refl, ap, subst}
use Rattle.std.proofs.Common.{sym, ◌∙◌}
use Rattle.std.proofs.Math.Option.{none, some}
use native.Mathlib.Omega.{arith}
use Rattle.laws.specs.Bytes.{same_true}
use Rattle.laws.specs.Ranges.{part}
use Rattle.protocol.specs.Numbers.{slot_count, success, read_only, open_command, read_command, session_stat_command, state_open_read, state_committed}
use Rattle.protocol.specs.Decode.{decoded}
use Rattle.protocol.specs.Frame.{Reply, refused, framed, stat_fields}
use Rattle.protocol.specs.declared.Blob.TheVariants.{Store}
use Rattle.protocol.specs.declared.Request.TheVariants.{Open, Read, Commit, SessionStat}
use Rattle.state.specs.declared.row.Place.TheVariants.{AtSlot}
use Rattle.state.specs.State.{State, Row, Slot, in_row, cell}
use Rattle.state.specs.Parts.{body-view-fits}
use Rattle.state.proofs.Parts.{cell-get-put}
use Rattle.state.specs.Words.{id_of, blob_of, word_of, writes, store_flags, ident, blob, Live}
use Rattle.state.specs.Soundness.{slot_at, is_sound}
use Rattle.state.specs.Facts.{Sound}
use Rattle.state.specs.Agree.{sound-of-test}
use Rattle.rules.specs.Store.{seen_bytes, seen_length, read_count, read_store, on_store}
use Rattle.rules.specs.Command.{read, stat, state_bits}
use Rattle.state.specs.declared.row.Wanted.TheVariants.{OnBlob}
use Rattle.rules.specs.Session.{row_found}
use Rattle.rules.specs.Sweep.{swept}
use Rattle.rules.specs.Lookup.{slot_named, free_row_in, fresh_id}
use Rattle.rules.specs.Opening.{new_row, opened, held_slot}
use Rattle.rules.specs.Open.{open_store, open_blob}
use Rattle.rules.specs.Respond.{Effect, effect_of, answered, respond}
use Rattle.rules.proofs.OpenLaws.{open-store-has}
use Rattle.rules.specs.Searches.{free-row}
use Rattle.rules.proofs.Messages.{sent}
use Rattle.guarantees.specs.Merging.{Event}
use Rattle.guarantees.proofs.Keep.{swept-sound, respond-sound}
use Rattle.guarantees.proofs.FlashPromise.{run_sound}
use Rattle.guarantees.specs.FlashPromise.{run}
use Rattle.guarantees.proofs.Sessions.{asked_of}
use Rattle.rules.proofs.Committed.{Scan, scan_in, same_name, has_name}
use Rattle.scans.proofs.Scan.{scan_of, left_alone}
use Rattle.guarantees.proofs.After.{own-reply, open_is}
use Rattle.scans.proofs.Safe.{committed-safe, sweep-same}
use Rattle.scans.proofs.Found.{committed-says, marked-held, named-at, Stands, scan-slot}
use Rattle.scans.specs.Uploaded.{Shows, Opens, Uploaded}
use Rattle.scans.proofs.CommitKeeps.{commit-keeps}

-- ---- what an open store session is shown
module _ (s : State) (h : is_sound s ≡ true) (i : ℕ) (l : Live i s) (low : blob i s < slot_count) where
  abbrev row : Row
  row = (in_row i).get s

  abbrev slot : Slot
  slot = slot_at (blob i s) s

  g : Sound s
  g = sound-of-test s h

  -- a Read: the bytes that it sees
  session-reads : (u offset count : ℕ) (m : List ℕ) → decoded m ≡ Read (ident i s) offset count
      → ((respond u m s).code ≡ success) × ((respond u m s).response ≡ sent read_command (part offset (read_count count offset (seen_length (writes row) slot)) (seen_bytes (writes row) slot)))
  unfolding answered on_store read_store framed
  session-reads u offset count m d =
      let e = asked_of u i m (Read (ident i s) offset count) (read offset count) s g l d refl in
      let f = own-reply s g i l u (read offset count) low in (
        ap (λ (o : Effect). o.code) e ∙ ap (λ (x : Reply). (framed read_command x).0) f,
        ap (λ (o : Effect). o.response) e ∙ ap (λ (x : Reply). (framed read_command x).1) f,
      )

  -- a SessionStat: its state bits, and the length that it sees
  session-sizes : (u : ℕ) (m : List ℕ) → decoded m ≡ SessionStat (ident i s)
      → ((respond u m s).code ≡ success) × ((respond u m s).response ≡ sent session_stat_command (stat_fields (state_bits (word_of row)) (seen_length (writes row) slot)))
  unfolding answered on_store framed
  session-sizes u m d =
      let e = asked_of u i m (SessionStat (ident i s)) stat s g l d refl in
      let f = own-reply s g i l u stat low in (
        ap (λ (o : Effect). o.code) e ∙ ap (λ (x : Reply). (framed session_stat_command x).0) f,
        ap (λ (o : Effect). o.response) e ∙ ap (λ (x : Reply). (framed session_stat_command x).1) f,
      )

-- what a session sees, as a scan
abbrev seen_by : Row → Slot → Scan
seen_by r b = record { len = seen_length (writes r) b; bytes = seen_bytes (writes r) b }

reader-bits : (id k t : ℕ) → state_bits (word_of (new_row id k read_only 1 t)) ≡ state_open_read + state_committed
unfolding state_bits
reader-bits id k t = refl

-- a session that was opened for reading on the slot k, by row r
module _ (x : Scan) (t r k : ℕ) (s : State) (g : Sound s) (free : free_row_in s ≡ some r) (low : k < slot_count) (is : scan_in (slot_at k s) ≡ x) where
  abbrev given : State
  given = (opened (AtSlot k) r k read_only 1 t (slot_at k s) s).1

  part-now : (cell r (AtSlot k)).get given ≡ (new_row (fresh_id s) k read_only 1 t, slot_at k s)
  unfolding opened
  part-now = cell-get-put r (AtSlot k) (new_row (fresh_id s) k read_only 1 t, slot_at k s) s (free-row s r free).0 g.shape
      (record { four = refl; flag = omega arith }) (body-view-fits (AtSlot k) s low g.shape)

  row_now : (in_row r).get given ≡ new_row (fresh_id s) k read_only 1 t
  row_now = ap (λ (c : Row × Slot). c.0) part-now

  id-now : ident r given ≡ fresh_id s
  id-now = ap id_of row_now

  blob-now : blob r given ≡ k
  blob-now = ap blob_of row_now

  seen-now : seen_by ((in_row r).get given) (slot_at (blob r given) given) ≡ x
  seen-now = ap (λ (w : Row). seen_by w (slot_at (blob r given) given)) row_now ∙ ap (λ (b : ℕ). scan_in (slot_at b given)) blob-now ∙ ap (λ (c : Row × Slot). scan_in c.1) part-now ∙ is

  given-shows : is_sound given ≡ true → Shows x (fresh_id s) given
  given-shows h = record {
    reads = λ (u offset count : ℕ) (m : List ℕ) (d : decoded m ≡ Read (fresh_id s) offset count).
        let a = session-reads given h r live there u offset count m (d ∙ sym (ap (λ (id : ℕ). Read id offset count) id-now)) in
        (a.0, a.1 ∙ ap (λ (y : Scan). sent read_command (part offset (read_count count offset y.len) y.bytes)) seen-now);
    sizes = λ (u : ℕ) (m : List ℕ) (d : decoded m ≡ SessionStat (fresh_id s)).
        let a = session-sizes given h r live there u m (d ∙ sym (ap SessionStat id-now)) in (
          a.0,
          a.1 ∙ ap (λ (b : ℕ). sent session_stat_command (stat_fields b (seen_length (writes ((in_row r).get given)) (slot_at (blob r given) given))))
              (ap (λ (w : Row). state_bits (word_of w)) row_now ∙ reader-bits (fresh_id s) k t)
              ∙ ap (λ (y : Scan). sent session_stat_command (stat_fields (state_open_read + state_committed) y.len)) seen-now,
        );
  }
    where
      live : Live r given
      live = ((free-row s r free).0, ap (λ (w : Row). w.used) row_now)

      there : blob r given < slot_count
      there = subst (λ (b : ℕ). b < slot_count) (sym blob-now) low

-- an accepted Open has a reply
abbrev Gives : Scan → Reply × State → Type 0
Gives x o = is_sound o.1 ≡ true → (framed open_command o.0).0 ≡ success → Opens x (effect_of (framed open_command o.0) o.1)

module _ (n name : List ℕ) (x : Scan) (t : ℕ) (s : State) (g : Sound s) (has : scan_of n s ≡ some x) (asked : same_name name n ≡ true) where
  pub stands : Stands n x s
  stands = scan-slot n x s has

  pub found-there : slot_named name s ≡ some stands.slot
  found-there =
      let c = committed-says n (slot_at stands.slot s) stands.committed in
      named-at s g name stands.slot stands.low (marked-held s g stands.slot stands.low c.0) (c.1 ∙ sym (same_true _ _ asked))

  not-given : (code : ℕ) → code ≢ success → Gives x (refused code, s)
  unfolding framed
  not-given code n h e = absurd (n e)

  held-given : (r k : ℕ) → store_flags read_only ≡ true → slot_named name s ≡ some k → row_found (OnBlob k) s ≡ none → free_row_in s ≡ some r → Gives
      x (opened (AtSlot k) r k read_only 1 t (held_slot read_only (slot_at k s)) s)
  unfolding opened framed
  held-given r k _ e _ free = subst (λ (j : ℕ). Gives x (opened (AtSlot j) r j read_only 1 t (slot_at j s) s)) (cc found-there) here
    where
      here : Gives x (opened (AtSlot stands.slot) r stands.slot read_only 1 t (slot_at stands.slot s) s)
      here h e = record { id = fresh_id s; answer = refl; shows = given-shows x t r stands.slot s g free stands.low stands.is-scan h }

  name-given : Gives x (open_store name read_only t s)
  name-given = open-store-has (Gives x) s not-given name read_only t held-given
      (λ (r k : ℕ) _ (e : slot_named name s ≡ none) _ _ _. absurd (let z : ◌≡◌ {A = ℕ} 0 1 = cc found-there in omega arith))

-- AN OPEN FOR READING OF A COMMITTED NAME, WHERE IT IS ACCEPTED, GIVES A SESSION THAT IS SHOWN THE SCAN, byte for byte, with its length (rule 21.11)
pub open-shows : (n : List ℕ) (x : Scan) (t at len : ℕ) (m : List ℕ) (s : State) → is_sound s ≡ true → scan_of n s ≡ some x → decoded m ≡ Open
    read_only (Store at len) → same_name (part at len m) n ≡ true
    → (respond t m s).code ≡ success → Opens x (respond t m s)
unfolding open_blob
open-shows n x t at len m s h has d asked ok =
    let e = open_is t read_only (Store at len) m s h d in
    let g₁ = sound-of-test s h in
    subst (Opens x) (sym e)
    (name-given n (part at len m) x t (swept t s) (swept-sound t s g₁) (sweep-same n t s g₁ ∙ has) asked (ap (λ (o : Effect). is_sound o.state)
    (sym e) ∙ respond-sound t m s h) (sym (ap (λ (o : Effect). o.code) e) ∙ ok))

-- WHAT A SESSION THAT WRITES READS WHEN IT COMMITS IS WHAT ANY LATER OPEN FOR READING OF ITS NAME SHOWS, unless an event between the two replaced it (rule 21.11)
pub upload-shown : (n : List ℕ) (t i : ℕ) (m : List ℕ) (s : State) (es : List Event) (u at len : ℕ) (m' : List ℕ)
    → is_sound s ≡ true → Live i s → blob i s < slot_count → writes ((in_row i).get s) ≡ true → has_name n (slot_at (blob i s) s) ≡ true → decoded m ≡ Commit (ident i s) 0 0
    → left_alone n (respond t m s).state es ≡ true → decoded m' ≡ Open read_only (Store at len) → same_name (part at len m') n ≡ true
    → (respond u m' (run (respond t m s).state es)).code ≡ success → Uploaded i s (respond u m' (run (respond t m s).state es))
upload-shown n t i m s es u at len m' h l low w name d alone d' asked ok = record {
  id = o.id;
  answer = o.answer;
  alike = λ (p v offset count : ℕ) (a b : List ℕ) (da : decoded a ≡ Read (ident i s) offset count) (db : decoded b ≡ Read o.id offset count).
      let x = session-reads s h i l low p offset count a da in
      let y = o.shows.reads v offset count b db in
      (x.0, y.0, y.1 ∙ sym (x.1 ∙ ap (λ (f : Bool). sent read_command (part offset (read_count count offset (seen_length f (slot_at (blob i s) s))) (seen_bytes f (slot_at (blob i s) s)))) w));
  as_long = λ (v : ℕ) (b : List ℕ) (db : decoded b ≡ SessionStat o.id). (o.shows.sizes v b db).1;
}
  where
    staged : Scan
    staged = record { len = (slot_at (blob i s) s).staged_len; bytes = (slot_at (blob i s) s).staged_bytes }

    kept : scan_of n (run (respond t m s).state es) ≡ some staged
    kept = committed-safe n (respond t m s).state es (respond-sound t m s h) alone ∙ (commit-keeps n t i m s h l low w name d).1

    o : Opens staged (respond u m' (run (respond t m s).state es))
    o = open-shows n staged u at len m' (run (respond t m s).state es) (run_sound es (respond t m s).state (respond-sound t m s h)) kept d' asked ok
