-- What every command replies in a sound state: a refusal whose code is one of nine, or a success, which has fields where the command has. Assumes nothing.
use Rattle.std.specs.Prelude.{◌≡◌, Bool, cond, ℕ, suc, ◌+◌, ◌≤◌, eqb, leb, ltb, length, get_or}
use Rattle.std.proofs.Math.Path.{refl}
use Rattle.std.proofs.Math.Bool.{true, false}
use Rattle.std.proofs.Math.Option.{Option, none, some}
use mathlib.Core.List.{List, [], ◌∷◌, ◌++◌}
use Rattle.laws.specs.Bytes.{little}
use Rattle.laws.specs.Ranges.{part}
use Rattle.protocol.specs.Numbers.{invalid, not_found, out_of_range, too_long, no_room, busy}
use Rattle.protocol.specs.Numbers.{delete_command, open_command, stat_command, write_meta_command, write_only, running, slot_size, image_size, hash_size}
use Rattle.protocol.specs.Names.{kind_of, flash_number}
use Rattle.protocol.proofs.NameForms.{one_of}
use Rattle.protocol.specs.Decode.{decoded, asked, number_of, fields_at, subcommand}
use Rattle.protocol.specs.Cases.{Each, each-command, named-case, decoded-case}
use Rattle.protocol.specs.Frame.{Reply, refused, done, reply}
use Rattle.protocol.specs.declared.FlashKind.{FlashKind}
use Rattle.protocol.specs.declared.FlashKind.TheVariants.{Image, Hash, Verify, Update, Cleanup}
use Rattle.protocol.specs.declared.Blob.{Blob}
use Rattle.protocol.specs.declared.Blob.TheVariants.{Store, Flash, Base, Unknown}
use Rattle.protocol.specs.declared.Request.{Request}
use Rattle.protocol.specs.declared.Request.TheVariants.{Count, Enumerate, Open, Read, Write, Commit, Close, Delete, Stat, SessionStat, WriteMeta, Refused}
use Rattle.state.specs.declared.row.Place.{Place}
use Rattle.state.specs.declared.row.Place.TheVariants.{AtSlot, AtFlash}
use Rattle.state.specs.declared.row.Wanted.{Wanted}
use Rattle.state.specs.declared.row.Wanted.TheVariants.{Id, OnBlob, OnFlash}
use Rattle.state.specs.State.{State, Row, Slot, FlashBody, Body, place_of, in_row, in_body}
use Rattle.state.specs.Words.{blob_of, status_of, writes, blob, free_slot, store_flags, flash_flags, writes_with}
use Rattle.state.specs.Soundness.{slot_at}
use Rattle.rules.specs.Command.{Command, read, write, commit, stat, close, write_meta, end_job, commit_fits, Out, refuse, placed}
use Rattle.rules.specs.Store.{read_store, stored, write_store, commit_writing, commit_store, on_store}
use Rattle.rules.specs.Flash.{write_flash, startable, verify_job, update_job, commit_kind, commit_flash, close_flash, job_ends, on_flash}
use Rattle.rules.specs.Session.{on_part, on_found, on_session, stat_row, row_found}
use Rattle.rules.specs.Sweep.{swept}
use Rattle.rules.specs.Lookup.{slot_named, free_row_in, free_slot_in}
use Rattle.rules.specs.Opening.{opened, new_slot, held_slot, flash_listed, opened_flash}
use Rattle.rules.specs.Open.{open_store, open_flash, open_blob}
use Rattle.rules.specs.Named.{delete_store, delete_blob, stat_name, stat_kind, stat_blob}
use Rattle.rules.specs.Listing.{listed, count, enumerated}
use Rattle.rules.specs.Respond.{answered}
use Rattle.rules.proofs.Laws.{cond_has, some-has, none_has, whether-has}
use Rattle.answers.specs.Replies.{refusals, has_fields}

-- ---- what every command replies: a refusal with a known code, or a success that has fields where the command has
abbrev pub Fine : (fields : Bool) → Reply → Type 0
Fine y (refused code) = one_of code refusals ≡ true
Fine true done = ⊥
Fine false done = Unit {0}
Fine true (reply f) = Unit {0}
Fine false (reply f) = ⊥

-- whether a session's command has fields; a job outcome has none
abbrev sends : Command → Bool
sends (read offset n) = true
sends (write offset ws) = false
sends (commit len rest) = false
sends stat = true
sends close = false
sends write_meta = true
sends (end_job good) = false

-- ---- a session's command
-- Write's checks
placed-fine : {B : Type 0} (capacity len offset n : ℕ) (r : Row) (b : B) (accepted : Out B) → Fine false accepted.0 → Fine false (placed capacity len offset n r b accepted).0
unfolding placed
placed-fine {B} capacity len offset n r b accepted h =
    cond_has (λ (o : Out B). Fine false o.0) (leb offset len) (cond (leb (offset + n) capacity) accepted (refuse too_long r b)) (refuse out_of_range r b)
    (cond_has (λ (o : Out B). Fine false o.0) (leb (offset + n) capacity) accepted (refuse too_long r b) h refl) refl

module _ (t : ℕ) (r : Row) (b : Slot) where
  stored-fine : (ws : List ℕ) (offset : ℕ) → Fine false (stored t offset ws r b).0
  unfolding stored
  stored-fine [] offset = tt
  stored-fine (w ∷ ws) offset = tt

  write-fine : (y : Bool) (ws : List ℕ) (offset : ℕ) → Fine false (write_store y t offset ws r b).0
  unfolding write_store
  write-fine true ws offset = placed-fine slot_size b.staged_len offset (length ws) r b (stored t offset ws r b) (stored-fine ws offset)
  write-fine false ws offset = refl

  writing-fine : (y : Bool) → Fine false (commit_writing y t r b).0
  unfolding commit_writing
  writing-fine true = tt
  writing-fine false = refl

  commit-fine : (y : Bool) → Fine false (commit_store y t r b).0
  unfolding commit_store
  commit-fine true = writing-fine (writes r)
  commit-fine false = refl

  store-fine : (c : Command) → Fine (sends c) (on_store t c r b).0
  unfolding on_store read_store
  store-fine (read offset n) = tt
  store-fine (write offset ws) = write-fine (writes r) ws offset
  store-fine (commit len rest) = commit-fine (commit_fits len rest)
  store-fine stat = tt
  store-fine close = tt
  store-fine write_meta = refl
  store-fine (end_job good) = refl

module _ (t : ℕ) (r : Row) (b : FlashBody) where
  flash-write-fine : (k : FlashKind) (ws : List ℕ) (offset : ℕ) → Fine false (write_flash k t offset ws r b).0
  unfolding write_flash
  flash-write-fine Image ws offset = placed-fine image_size b.image_len offset (length ws) r b _ tt
  flash-write-fine Hash ws offset = placed-fine hash_size b.hash_len offset (length ws) r b _ tt
  flash-write-fine Verify ws offset = refl
  flash-write-fine Update ws offset = refl
  flash-write-fine Cleanup ws offset = refl

  verify-fine : (y : Bool) → Fine false (verify_job y t r b).0
  unfolding verify_job
  verify-fine true = tt
  verify-fine false = tt

  update-fine : (y : Bool) → Fine false (update_job y t r b).0
  unfolding update_job
  update-fine true = tt
  update-fine false = tt

  kind-fine : (k : FlashKind) → Fine false (commit_kind k t r b).0
  unfolding commit_kind
  kind-fine Image = refl
  kind-fine Hash = refl
  kind-fine Verify = verify-fine (startable r)
  kind-fine Update = update-fine (startable r)
  kind-fine Cleanup = tt

  flash-commit-fine : (y : Bool) (k : FlashKind) → Fine false (commit_flash y k t r b).0
  unfolding commit_flash
  flash-commit-fine true k = kind-fine k
  flash-commit-fine false k = refl

  flash-close-fine : (y : Bool) (k : FlashKind) → Fine false (close_flash y k r b).0
  unfolding close_flash
  flash-close-fine true k = refl
  flash-close-fine false k = tt

  job-fine : (y good : Bool) → Fine false (job_ends y good r b).0
  unfolding job_ends
  job-fine true good = tt
  job-fine false good = refl

  flash-fine : (k : FlashKind) (c : Command) → Fine (sends c) (on_flash k t c r b).0
  unfolding on_flash
  flash-fine k (read offset n) = refl
  flash-fine k (write offset ws) = flash-write-fine k ws offset
  flash-fine k (commit len rest) = flash-commit-fine (commit_fits len rest) k
  flash-fine k stat = tt
  flash-fine k close = flash-close-fine (eqb (status_of r) running) k
  flash-fine k write_meta = refl
  flash-fine k (end_job good) = job-fine (eqb (status_of r) running) good

part-fine : (p : Place) (t : ℕ) (c : Command) (r : Row) (b : Body p) → Fine (sends c) (on_part p t c r b).0
part-fine (AtSlot k) t c r b = store-fine t r b c
part-fine AtFlash t c r b = flash-fine t r b (kind_of (blob_of r)) c

found-fine : (o : Option ℕ) (w : Wanted) (t : ℕ) (c : Command) (s : State) → Fine (sends c) (on_found o w t c s).0
found-fine none (Id id) t c s = refl
found-fine none (OnBlob b) t c s = refl
found-fine none OnFlash t c s = refl
found-fine (some r) w t c s = part-fine (place_of (blob r s)) t c ((in_row r).get s) ((in_body (place_of (blob r s))).get s)

session-fine : (w : Wanted) (t : ℕ) (c : Command) (s : State) → Fine (sends c) (on_session w t c s).0
unfolding on_session
session-fine w t c s = found-fine (row_found w s) w t c s

-- ---- Open, Delete, Stat, Enumerate
abbrev After : (fields : Bool) → Reply × State → Type 0
After y o = Fine y o.0

opened-fine : (p : Place) (r b flags clean t : ℕ) (body : Body p) (s : State) → After true (opened p r b flags clean t body s)
unfolding opened
opened-fine p r b flags clean t body s = tt

open-store-fine : (n : List ℕ) (flags t : ℕ) (s : State) → After true (open_store n flags t s)
unfolding open_store
open-store-fine n flags t s =
    cond_has (After true) (store_flags flags) _ (refused invalid, s)
    (whether-has (After true) (slot_named n s) _ _
    (λ (k : ℕ) _. none_has (After true) (row_found (OnBlob k) s) (refused busy, s) _ refl
    (λ _. some-has (After true) (free_row_in s) (refused no_room, s) _ refl (λ (r : ℕ) _. opened-fine (AtSlot k) r k flags 1 t (held_slot flags (slot_at k s)) s)))
    (λ _. cond_has (After true) (writes_with flags) _ (refused not_found, s)
    (some-has (After true) (free_row_in s) (refused no_room, s) _ refl
    (λ (r : ℕ) _. some-has (After true) (free_slot_in s) (refused no_room, s) _ refl (λ (k : ℕ) _. opened-fine (AtSlot k) r k flags 0 t (new_slot n) s))) refl)) refl

open-flash-fine : (k : FlashKind) (flags t : ℕ) (s : State) → After true (open_flash k flags t s)
unfolding open_flash
open-flash-fine k flags t s =
    cond_has (After true) (flash_flags flags) _ (refused invalid, s)
    (cond_has (After true) (flash_listed k s.flash_group.phase) _ (refused not_found, s)
    (none_has (After true) (row_found OnFlash s) (refused busy, s) _ refl
    (λ _. some-has (After true) (free_row_in s) (refused no_room, s) _ refl (λ (r : ℕ) _. opened-fine AtFlash r (flash_number k) write_only 0 t (opened_flash k s.flash_group) s))) refl) refl

open-fine : (b : Blob) (flags t : ℕ) (m : List ℕ) (s : State) → After true (open_blob b flags t m s)
unfolding open_blob
open-fine (Store at len) flags t m s = open-store-fine (part at len m) flags t s
open-fine (Flash k) flags t m s = open-flash-fine k flags t s
open-fine Base flags t m s = refl
open-fine Unknown flags t m s = refl

delete-fine : (b : Blob) (m : List ℕ) (s : State) → After false (delete_blob b m s)
unfolding delete_blob delete_store
delete-fine (Store at len) m s =
    some-has (After false) (slot_named (part at len m) s) (refused not_found, s) _ refl
    (λ (k : ℕ) _. none_has (After false) (row_found (OnBlob k) s) (refused busy, s) (done, (in_body (AtSlot k)).put free_slot s) refl (λ _. tt))
delete-fine (Flash k) m s = refl
delete-fine Base m s = refl
delete-fine Unknown m s = refl

stat-fine : (b : Blob) (m : List ℕ) (s : State) → Fine true (stat_blob b m s)
unfolding stat_blob stat_name stat_kind
stat-fine (Store at len) m s =
    some-has (Fine true) (slot_named (part at len m) s) (refused not_found) _ refl
    (λ (k : ℕ) _. whether-has (Fine true) (row_found (OnBlob k) s) (λ (r : ℕ). reply (stat_row r s)) _ (λ (r : ℕ) _. tt) (λ _. tt))
stat-fine (Flash k) m s =
    cond_has (Fine true) (flash_listed k s.flash_group.phase) _ (refused not_found)
    (whether-has (Fine true) (row_found (OnBlob (flash_number k)) s) (λ (r : ℕ). reply (stat_row r s)) _ (λ (r : ℕ) _. tt) (λ _. tt)) refl
stat-fine Base m s = tt
stat-fine Unknown m s = refl

enumerate-fine : (i : ℕ) (s : State) → Fine true (enumerated i s)
enumerate-fine i s = cond_has (Fine true) (ltb i (count s)) (reply (get_or (listed s) i [] ++ (0 ∷ []))) (refused out_of_range) tt refl

-- ---- every request
-- a request that decoding refuses has a known code too
abbrev pub Known : Request → Type 0
Known Count = Unit {0}
Known (Enumerate index) = Unit {0}
Known (Open flags b) = Unit {0}
Known (Read session offset n) = Unit {0}
Known (Write session offset start) = Unit {0}
Known (Commit session len rest) = Unit {0}
Known (Close session) = Unit {0}
Known (Delete b) = Unit {0}
Known (Stat b) = Unit {0}
Known (SessionStat session) = Unit {0}
Known (WriteMeta session) = Unit {0}
Known (Refused code) = one_of code.0 refusals ≡ true

asked-known : (m : List ℕ) → Each (λ (sub : ℕ). Known (asked sub m)) (suc write_meta_command)
unfolding asked
asked-known m = (((((((((((tt, tt), tt), opens), tt), tt), tt), tt), deletes), stats), tt), tt)
  where
    opens : Known (asked open_command m)
    opens = named-case Known (fields_at + 2) m (λ (b : Blob). Open (little 2 fields_at m) b) refl (λ _. tt)

    deletes : Known (asked delete_command m)
    deletes = named-case Known fields_at m (λ (b : Blob). Delete b) refl (λ _. tt)

    stats : Known (asked stat_command m)
    stats = named-case Known fields_at m (λ (b : Blob). Stat b) refl (λ _. tt)

-- every message asks such a request
pub decoded-known : (m : List ℕ) → Known (decoded m)
decoded-known m =
    decoded-case Known m refl refl refl (λ _ (c : subcommand m ≤ write_meta_command) _. each-command (λ (sub : ℕ). Known (asked sub m)) (subcommand m) (asked-known m) c)

-- WHAT EVERY REQUEST IS REPLIED
pub answered-fine : (q : Request) → Known q → (t : ℕ) (m : List ℕ) (s : State) → Fine (has_fields (number_of q)) (answered q t m s).0
unfolding answered
answered-fine Count n t m s = tt
answered-fine (Enumerate index) n t m s = enumerate-fine index s
answered-fine (Open flags b) n t m s = open-fine b flags t m (swept t s)
answered-fine (Read session offset count) n t m s = session-fine (Id session) t _ s
answered-fine (Write session offset start) n t m s = session-fine (Id session) t _ s
answered-fine (Commit session len rest) n t m s = session-fine (Id session) t _ s
answered-fine (Close session) n t m s = session-fine (Id session) t _ s
answered-fine (Delete b) n t m s = delete-fine b m s
answered-fine (Stat b) n t m s = stat-fine b m s
answered-fine (SessionStat session) n t m s = session-fine (Id session) t _ s
answered-fine (WriteMeta session) n t m s = session-fine (Id session) t _ s
answered-fine (Refused code) n t m s = n
