-- A refusal leaves the state as found and writes no response; a refused Open keeps the sweep. Assumes nothing.
use Rattle.std.specs.Prelude.{◌≡◌, ◌≢◌, Bool, cond, ℕ, ◌+◌, ◌≤◌, eqb}
use Rattle.std.proofs.Math.Path.{refl}
use Rattle.std.proofs.Common.{◌∙◌, ap}
use Rattle.std.proofs.Math.Bool.{true, false}
use Rattle.std.proofs.Math.Option.{Option, none, some}
use mathlib.Core.List.{List, [], ◌∷◌}
use Rattle.std.proofs.Math.ListN.{length}
use Rattle.laws.specs.Ranges.{part}
use Rattle.protocol.specs.Numbers.{not_found, slot_size, image_size, hash_size, success, running, write_only, busy}
use Rattle.protocol.specs.Names.{kind_of, flash_number}
use Rattle.protocol.specs.Decode.{decoded, number_of}
use Rattle.protocol.specs.Frame.{Reply, refused, done, reply, framed}
use Rattle.protocol.specs.declared.FlashKind.{FlashKind}
use Rattle.protocol.specs.declared.FlashKind.TheVariants.{Image, Hash, Verify, Update, Cleanup}
use Rattle.protocol.specs.declared.Blob.{Blob}
use Rattle.protocol.specs.declared.Blob.TheVariants.{Store, Flash, Base, Unknown}
use Rattle.protocol.specs.declared.Request.{Request}
use Rattle.protocol.specs.declared.Request.TheVariants.{Count, Enumerate, Open, Read, Write, Commit, Close, Delete, Stat, SessionStat, WriteMeta, Refused}
use Rattle.state.specs.declared.row.Place.{Place}
use Rattle.state.specs.declared.row.Place.TheVariants.{AtSlot, AtFlash}
use Rattle.state.specs.State.{State, Row, Slot, FlashBody, Body, place_of, in_row, in_body, cell}
use Rattle.state.proofs.Parts.{cell-steady}
use Rattle.state.specs.Words.{blob_of, status_of, writes, blob, free_slot}
use Rattle.state.specs.Soundness.{is_sound, slot_at}
use Rattle.rules.specs.Store.{read_store, stored, write_store, commit_writing, commit_store, on_store}
use Rattle.rules.specs.Command.{Command, read, write, commit, stat, close, write_meta, end_job, commit_fits}
use Rattle.rules.specs.Flash.{write_flash, startable, verify_job, update_job, commit_kind, commit_flash, close_flash, job_ends, on_flash}
use Rattle.state.specs.declared.row.Wanted.{Wanted}
use Rattle.state.specs.declared.row.Wanted.TheVariants.{OnBlob, OnFlash}
use Rattle.rules.specs.Session.{on_part, on_place, on_found, on_session, row_found}
use Rattle.rules.specs.Sweep.{swept}
use Rattle.rules.specs.Open.{open_store, open_flash, open_blob}
use Rattle.rules.specs.Respond.{Effect, effect_of, unsound, answered, respond, silent, job_outcome}
use Rattle.rules.proofs.Laws.{placed-has, some-has, none_has}
use Rattle.rules.specs.Lookup.{slot_named}
use Rattle.rules.specs.Opening.{opened, held_slot, new_slot, opened_flash}
use Rattle.rules.specs.Named.{delete_blob, delete_store}
use Rattle.rules.proofs.OpenLaws.{open-store-has, open-flash-has}
use Rattle.guarantees.specs.Refusals.{left_by, left_in}

-- what a refusal leaves as found
abbrev Refusal : Reply → Type 0
Refusal (refused code) = Unit {0}
Refusal done = ⊥
Refusal (reply f) = ⊥

abbrev Keeps : {S : Type 0} → S → Reply × S → Type 0
Keeps s o = Refusal o.0 → o.1 ≡ s

-- ---- a store session's part
module _ (r : Row) (b : Slot) where
  keep-stored : (ws : List ℕ) (t i : ℕ) → Keeps (r, b) (stored t i ws r b)
  unfolding stored
  keep-stored [] t i h = absurd h
  keep-stored (w ∷ ws) t i h = absurd h

  keep-write : (y : Bool) (ws : List ℕ) (t i : ℕ) → Keeps (r, b) (write_store y t i ws r b)
  unfolding write_store
  keep-write true ws t i =
      placed-has slot_size b.staged_len i (length ws) r b (stored t i ws r b) (Keeps (r, b)) (λ (h : i ≤ b.staged_len) (l : i + length ws ≤ slot_size). keep-stored ws t i) (λ (code : ℕ) h. refl)
  keep-write false ws t i = λ h. refl

  keep-writing : (y : Bool) (t : ℕ) → Keeps (r, b) (commit_writing y t r b)
  unfolding commit_writing
  keep-writing true t = λ h. absurd h
  keep-writing false t = λ h. refl

  keep-commit : (y : Bool) (t : ℕ) → Keeps (r, b) (commit_store y t r b)
  unfolding commit_store
  keep-commit true t = keep-writing (writes r) t
  keep-commit false t = λ h. refl

  keep-read : (y : Bool) (t i n : ℕ) → Keeps (r, b) (read_store y t i n r b)
  unfolding read_store
  keep-read y t i n h = absurd h

  keep-store : (t : ℕ) (c : Command) → Keeps (r, b) (on_store t c r b)
  unfolding on_store
  keep-store t (read i n) = keep-read (writes r) t i n
  keep-store t (write i ws) = keep-write (writes r) ws t i
  keep-store t (commit n l) = keep-commit (commit_fits n l) t
  keep-store t stat = λ h. absurd h
  keep-store t close = λ h. absurd h
  keep-store t write_meta = λ h. refl
  keep-store t (end_job g) = λ h. refl

-- ---- the flash session's part
module _ (r : Row) (b : FlashBody) where
  keep-flash-write : (k : FlashKind) (ws : List ℕ) (t i : ℕ) → Keeps (r, b) (write_flash k t i ws r b)
  unfolding write_flash
  keep-flash-write Image ws t i = placed-has image_size b.image_len i (length ws) r b _ (Keeps (r, b)) (λ (h : i ≤ b.image_len) (l : i + length ws ≤ image_size) x. absurd x) (λ (code : ℕ) h. refl)
  keep-flash-write Hash ws t i = placed-has hash_size b.hash_len i (length ws) r b _ (Keeps (r, b)) (λ (h : i ≤ b.hash_len) (l : i + length ws ≤ hash_size) x. absurd x) (λ (code : ℕ) h. refl)
  keep-flash-write Verify ws t i = λ h. refl
  keep-flash-write Update ws t i = λ h. refl
  keep-flash-write Cleanup ws t i = λ h. refl

  keep-verify : (y : Bool) (t : ℕ) → Keeps (r, b) (verify_job y t r b)
  unfolding verify_job
  keep-verify true t = λ h. absurd h
  keep-verify false t = λ h. absurd h

  keep_update : (y : Bool) (t : ℕ) → Keeps (r, b) (update_job y t r b)
  unfolding update_job
  keep_update true t = λ h. absurd h
  keep_update false t = λ h. absurd h

  keep-kind : (k : FlashKind) (t : ℕ) → Keeps (r, b) (commit_kind k t r b)
  unfolding commit_kind
  keep-kind Image t = λ h. refl
  keep-kind Hash t = λ h. refl
  keep-kind Verify t = keep-verify (startable r) t
  keep-kind Update t = keep_update (startable r) t
  keep-kind Cleanup t = λ h. absurd h

  keep-flash-commit : (y : Bool) (k : FlashKind) (t : ℕ) → Keeps (r, b) (commit_flash y k t r b)
  unfolding commit_flash
  keep-flash-commit true k t = keep-kind k t
  keep-flash-commit false k t = λ h. refl

  keep-flash-close : (y : Bool) (k : FlashKind) → Keeps (r, b) (close_flash y k r b)
  unfolding close_flash
  keep-flash-close true k = λ h. refl
  keep-flash-close false k = λ h. absurd h

  keep-job : (y g : Bool) → Keeps (r, b) (job_ends y g r b)
  unfolding job_ends
  keep-job true g = λ h. absurd h
  keep-job false g = λ h. refl

  keep-flash : (k : FlashKind) (t : ℕ) (c : Command) → Keeps (r, b) (on_flash k t c r b)
  unfolding on_flash
  keep-flash k t (read i n) = λ h. refl
  keep-flash k t (write i ws) = keep-flash-write k ws t i
  keep-flash k t (commit n l) = keep-flash-commit (commit_fits n l) k t
  keep-flash k t stat = λ h. absurd h
  keep-flash k t close = keep-flash-close (eqb (status_of r) running) k
  keep-flash k t write_meta = λ h. refl
  keep-flash k t (end_job g) = keep-job (eqb (status_of r) running) g

keep-part : (p : Place) (t : ℕ) (c : Command) (r : Row) (b : Body p) → Keeps (r, b) (on_part p t c r b)
keep-part (AtSlot k) t c r b = keep-store r b t c
keep-part AtFlash t c r b = keep-flash r b (kind_of (blob_of r)) t c

-- ---- the state
keep-place : (p : Place) (r t : ℕ) (c : Command) (s : State) → Keeps s (on_place p r t c s)
keep-place p r t c s h = ap (λ (x : Row × Body p). (cell r p).put x s) (keep-part p t c ((in_row r).get s) ((in_body p).get s) h) ∙ cell-steady r p s

keep-found : (o : Option ℕ) (a : Wanted) (t : ℕ) (c : Command) (s : State) → Keeps s (on_found o a t c s)
keep-found none a t c s h = refl
keep-found (some r) a t c s h = keep-place (place_of (blob r s)) r t c s h

keep-session : (a : Wanted) (t : ℕ) (c : Command) (s : State) → Keeps s (on_session a t c s)
unfolding on_session
keep-session a t c s = keep-found (row_found a s) a t c s

keep_opened : (p : Place) (r b flags clean t : ℕ) (body : Body p) (s : State) → Keeps s (opened p r b flags clean t body s)
unfolding opened
keep_opened p r b flags clean t body s h = absurd h

keep-open-store : (n : List ℕ) (flags t : ℕ) (s : State) → Keeps s (open_store n flags t s)
keep-open-store n flags t s =
    open-store-has (Keeps s) s (λ _ _ h. refl) n flags t (λ (r k : ℕ) _ _ _ _. keep_opened (AtSlot k) r k flags 1 t (held_slot flags (slot_at k s)) s)
    (λ (r k : ℕ) _ _ _ _ _. keep_opened (AtSlot k) r k flags 0 t (new_slot n) s)

keep-open-flash : (k : FlashKind) (flags t : ℕ) (s : State) → Keeps s (open_flash k flags t s)
keep-open-flash k flags t s =
    open-flash-has (Keeps s) s (λ _ _ h. refl) k flags t (λ (r : ℕ) _ _ _ _. keep_opened AtFlash r (flash_number k) write_only 0 t (opened_flash k s.flash_group) s)

keep-open : (b : Blob) (flags t : ℕ) (m : List ℕ) (s : State) → Keeps s (open_blob b flags t m s)
unfolding open_blob
keep-open (Store at len) flags t m s = keep-open-store (part at len m) flags t s
keep-open (Flash k) flags t m s = keep-open-flash k flags t s
keep-open Base flags t m s = λ h. refl
keep-open Unknown flags t m s = λ h. refl

keep-delete : (b : Blob) (m : List ℕ) (s : State) → Keeps s (delete_blob b m s)
unfolding delete_blob delete_store
keep-delete (Store at len) m s =
    some-has (Keeps s) (slot_named (part at len m) s) (refused not_found, s) _ (λ h. refl)
    (λ (k : ℕ) _. none_has (Keeps s) (row_found (OnBlob k) s) (refused busy, s) (done, (in_body (AtSlot k)).put free_slot s) (λ h. refl) (λ _ h. absurd h))
keep-delete (Flash k) m s = λ h. refl
keep-delete Base m s = λ h. refl
keep-delete Unknown m s = λ h. refl

keep-answered : (q : Request) (t : ℕ) (m : List ℕ) (s : State) → Keeps (left_by q t s) (answered q t m s)
unfolding answered
keep-answered Count t m s = λ h. refl
keep-answered (Enumerate index) t m s = λ h. refl
keep-answered (Open flags b) t m s = keep-open b flags t m (swept t s)
keep-answered (Read session offset n) t m s = keep-session _ t _ s
keep-answered (Write session offset start) t m s = keep-session _ t _ s
keep-answered (Commit session len rest) t m s = keep-session _ t _ s
keep-answered (Close session) t m s = keep-session _ t _ s
keep-answered (Delete b) t m s = keep-delete b m s
keep-answered (Stat b) t m s = λ h. refl
keep-answered (SessionStat session) t m s = keep-session _ t _ s
keep-answered (WriteMeta session) t m s = keep-session _ t _ s
keep-answered (Refused code) t m s = λ h. refl

-- ---- codes
refused-frame : (sub : ℕ) (x : Reply) → (framed sub x).0 ≢ success → Refusal x × ((framed sub x).1 ≡ [])
unfolding framed
refused-frame sub (refused c) h = (tt, refl)
refused-frame sub done h = absurd (h refl)
refused-frame sub (reply f) h = absurd (h refl)

refused-silent : (x : Reply) → (silent x).0 ≢ success → Refusal x
unfolding silent
refused-silent (refused c) h = tt
refused-silent done h = absurd (h refl)
refused-silent (reply f) h = absurd (h refl)

-- a job outcome has no response
pub silent-nothing : (x : Reply) → (silent x).1 ≡ []
unfolding silent
silent-nothing (refused c) = refl
silent-nothing done = refl
silent-nothing (reply f) = refl

-- what a refusal leaves
pub record Nothing (o : Effect) (s : State) : Type 0 where
  pub no-response : o.response ≡ []
  pub as-found : o.state ≡ s

-- A REFUSED MESSAGE CHANGES NOTHING AND WRITES NO RESPONSE, BUT FOR OPEN'S SWEEP (rule 21.1)
pub refused-message : (t : ℕ) (m : List ℕ) (s : State) → (respond t m s).code ≢ success → Nothing (respond t m s) (left_in (is_sound s) (decoded m) t s)
unfolding respond
refused-message t m s = go (is_sound s)
  where
    full : Effect
    full = effect_of (framed (number_of (decoded m)) (answered (decoded m) t m s).0) (answered (decoded m) t m s).1

    go : (y : Bool) → (cond y full (unsound s)).code ≢ success → Nothing (cond y full (unsound s)) (left_in y (decoded m) t s)
    go true h =
        let f = refused-frame (number_of (decoded m)) (answered (decoded m) t m s).0 h in
        record { no-response = f.1; as-found = keep-answered (decoded m) t m s f.0 }
    go false h = record { no-response = refl; as-found = refl }

-- A REFUSED JOB OUTCOME CHANGES NOTHING (rule 21.1)
pub refused-job : (good : Bool) (s : State) → (job_outcome good s).code ≢ success → Nothing (job_outcome good s) s
unfolding job_outcome
refused-job good s = go (is_sound s)
  where
    full : Effect
    full = effect_of (silent (on_session OnFlash 0 (end_job good) s).0) (on_session OnFlash 0 (end_job good) s).1

    go : (y : Bool) → (cond y full (unsound s)).code ≢ success → Nothing (cond y full (unsound s)) s
    go true h = record {
      no-response = silent-nothing (on_session OnFlash 0 (end_job good) s).0;
      as-found = keep-session OnFlash 0 (end_job good) s
          (refused-silent (on_session OnFlash 0 (end_job good) s).0 h);
    }
    go false h = record { no-response = refl; as-found = refl }
