-- A response fits the answer buffer. Assumes nothing.
use Rattle.std.specs.Prelude.{◌≡◌, refl, Bool, cond, ℕ, zero, suc, ◌+◌, ◌≤◌, eqb, ltb, get_or}
use Rattle.std.proofs.Common.{ap, arith, length-append}
use Rattle.std.proofs.Math.Bool.{true, false}
use Rattle.std.proofs.Math.Option.{Option, none, some}
use mathlib.Core.List.{List, [], ◌∷◌, ◌++◌}
use Rattle.std.proofs.Math.ListN.{length, length-take}
use Rattle.laws.specs.Bytes.{bytes_of, text}
use Rattle.laws.specs.Ranges.{part}
use Rattle.crc.specs.Crc.{crc}
use Rattle.protocol.specs.Numbers.{read_most, state_committed, not_found, out_of_range, slot_count, name_size, answer_size, slot_size, image_size, hash_size, write_only, running}
use Rattle.protocol.specs.Names.{base, flash_folder, flash_word, flash_name, kind_of, flash_number}
use Rattle.protocol.specs.Decode.{decoded, number_of}
use Rattle.protocol.specs.Frame.{Reply, refused, done, reply, framed, stat_fields}
use Rattle.protocol.specs.declared.FlashKind.{FlashKind}
use Rattle.protocol.specs.declared.FlashKind.TheVariants.{Image, Hash, Verify, Update, Cleanup}
use Rattle.protocol.specs.declared.Blob.{Blob}
use Rattle.protocol.specs.declared.Blob.TheVariants.{Store, Flash, Base, Unknown}
use Rattle.protocol.specs.declared.Request.{Request}
use Rattle.protocol.specs.declared.Request.TheVariants.{Count, Enumerate, Open, Read, Write, Commit, Close, Delete, Stat, SessionStat, WriteMeta, Refused}
use Rattle.state.specs.declared.Phase.{Phase}
use Rattle.state.specs.State.{State, Row, Slot, FlashBody, Body, place_of, in_row, in_body}
use Rattle.state.specs.Words.{blob_of, word_of, status_of, writes, blob, free_slot}
use Rattle.state.specs.declared.row.Place.{Place}
use Rattle.state.specs.declared.row.Place.TheVariants.{AtSlot, AtFlash}
use Rattle.state.specs.Soundness.{slot_at, is_sound}
use Rattle.rules.specs.Store.{read_store, stored, write_store, commit_writing, commit_store, on_store, seen_length}
use Rattle.rules.specs.Command.{Command, read, write, commit, stat, close, write_meta, end_job, commit_fits, Out, state_bits}
use Rattle.rules.specs.Flash.{write_flash, startable, verify_job, update_job, commit_kind, commit_flash, close_flash, job_ends, on_flash, flash_length}
use Rattle.state.specs.declared.row.Wanted.{Wanted}
use Rattle.state.specs.declared.row.Wanted.TheVariants.{Id, OnBlob, OnFlash}
use Rattle.rules.specs.Session.{on_part, on_found, on_session, stat_part, stat_row, row_found}
use Rattle.rules.specs.Sweep.{swept}
use Rattle.rules.specs.Open.{open_store, open_flash, open_blob}
use Rattle.rules.specs.Listing.{only, listed_flash, committed_names, flash_names, listed, enumerated, count}
use Rattle.rules.specs.Respond.{Effect, effect_of, unsound, answered, respond}
use Rattle.protocol.proofs.Sizes.{name-size}
use Rattle.rules.proofs.Laws.{cond_has, placed-has, some-has, none_has, whether-has}
use Rattle.rules.specs.Lookup.{slot_named}
use Rattle.rules.specs.Opening.{opened, flash_listed, held_slot, new_slot, opened_flash}
use Rattle.rules.specs.Named.{delete_blob, stat_kind, stat_blob, delete_store, stat_name}
use Rattle.rules.proofs.OpenLaws.{open-store-has, open-flash-has}
use Rattle.guarantees.specs.Fits.{Short}

-- a number sent in n bytes has n of them
pub bytes-long : (n x : ℕ) → length (bytes_of n x) ≡ n
unfolding bytes_of
bytes-long zero x = refl
bytes-long (suc n) x = ap suc (bytes-long n _)

stat-short : (a b : ℕ) → length (stat_fields a b) ≤ read_most
unfolding stat_fields
stat-short a b = rw (length-append, bytes-long, length-append, bytes-long) (omega arith)

-- ---- sessions
module _ (r : Row) (b : Slot) where
  short-stored : (ws : List ℕ) (t i : ℕ) → Short (stored t i ws r b).0
  unfolding stored
  short-stored [] t i = tt
  short-stored (w ∷ ws) t i = tt

  short_write : (y : Bool) (ws : List ℕ) (t i : ℕ) → Short (write_store y t i ws r b).0
  unfolding write_store
  short_write true ws t i =
      placed-has slot_size b.staged_len i (length ws) r b (stored t i ws r b) (λ (o : Out Slot). Short o.0) (λ (h : i ≤ b.staged_len)
      (l : i + length ws ≤ slot_size). short-stored ws t i) (λ (code : ℕ). tt)
  short_write false ws t i = tt

  short-writing : (y : Bool) (t : ℕ) → Short (commit_writing y t r b).0
  unfolding commit_writing
  short-writing true t = tt
  short-writing false t = tt

  short-commit : (y : Bool) (t : ℕ) → Short (commit_store y t r b).0
  unfolding commit_store
  short-commit true t = short-writing (writes r) t
  short-commit false t = tt

  short-read : (y : Bool) (t i n : ℕ) → Short (read_store y t i n r b).0
  unfolding read_store
  short-read y t i n = rw length-take (omega arith)

  short-store : (t : ℕ) (c : Command) → Short (on_store t c r b).0
  unfolding on_store
  short-store t (read i n) = short-read (writes r) t i n
  short-store t (write i ws) = short_write (writes r) ws t i
  short-store t (commit n l) = short-commit (commit_fits n l) t
  short-store t stat = stat-short (state_bits (word_of r)) (seen_length (writes r) b)
  short-store t close = tt
  short-store t write_meta = tt
  short-store t (end_job g) = tt

module _ (r : Row) (b : FlashBody) where
  short-flash-write : (k : FlashKind) (ws : List ℕ) (t i : ℕ) → Short (write_flash k t i ws r b).0
  unfolding write_flash
  short-flash-write Image ws t i = placed-has image_size b.image_len i (length ws) r b _ (λ (o : Out FlashBody). Short o.0) (λ (h : i ≤ b.image_len)
      (l : i + length ws ≤ image_size). tt) (λ (code : ℕ). tt)
  short-flash-write Hash ws t i = placed-has hash_size b.hash_len i (length ws) r b _ (λ (o : Out FlashBody). Short o.0) (λ (h : i ≤ b.hash_len) (l : i + length ws ≤ hash_size). tt) (λ (code : ℕ). tt)
  short-flash-write Verify ws t i = tt
  short-flash-write Update ws t i = tt
  short-flash-write Cleanup ws t i = tt

  short-verify : (y : Bool) (t : ℕ) → Short (verify_job y t r b).0
  unfolding verify_job
  short-verify true t = tt
  short-verify false t = tt

  short-update : (y : Bool) (t : ℕ) → Short (update_job y t r b).0
  unfolding update_job
  short-update true t = tt
  short-update false t = tt

  short-kind : (k : FlashKind) (t : ℕ) → Short (commit_kind k t r b).0
  unfolding commit_kind
  short-kind Image t = tt
  short-kind Hash t = tt
  short-kind Verify t = short-verify (startable r) t
  short-kind Update t = short-update (startable r) t
  short-kind Cleanup t = tt

  short-flash-commit : (y : Bool) (k : FlashKind) (t : ℕ) → Short (commit_flash y k t r b).0
  unfolding commit_flash
  short-flash-commit true k t = short-kind k t
  short-flash-commit false k t = tt

  short-flash-close : (y : Bool) (k : FlashKind) → Short (close_flash y k r b).0
  unfolding close_flash
  short-flash-close true k = tt
  short-flash-close false k = tt

  short-job : (y g : Bool) → Short (job_ends y g r b).0
  unfolding job_ends
  short-job true g = tt
  short-job false g = tt

  short-flash : (k : FlashKind) (t : ℕ) (c : Command) → Short (on_flash k t c r b).0
  unfolding on_flash
  short-flash k t (read i n) = tt
  short-flash k t (write i ws) = short-flash-write k ws t i
  short-flash k t (commit n l) = short-flash-commit (commit_fits n l) k t
  short-flash k t stat = stat-short (state_bits (word_of r)) (flash_length k b)
  short-flash k t close = short-flash-close (eqb (status_of r) running) k
  short-flash k t write_meta = tt
  short-flash k t (end_job g) = short-job (eqb (status_of r) running) g

short-part : (p : Place) (t : ℕ) (c : Command) (r : Row) (b : Body p) → Short (on_part p t c r b).0
short-part (AtSlot k) t c r b = short-store r b t c
short-part AtFlash t c r b = short-flash r b (kind_of (blob_of r)) t c

short-found : (o : Option ℕ) (a : Wanted) (t : ℕ) (c : Command) (s : State) → Short (on_found o a t c s).0
short-found none (Id id) t c s = tt
short-found none (OnBlob b) t c s = tt
short-found none OnFlash t c s = tt
short-found (some r) a t c s = short-part (place_of (blob r s)) t c ((in_row r).get s) ((in_body (place_of (blob r s))).get s)

short-session : (a : Wanted) (t : ℕ) (c : Command) (s : State) → Short (on_session a t c s).0
unfolding on_session
short-session a t c s = short-found (row_found a s) a t c s

-- ---- Open, Delete, Stat
short-opened : (p : Place) (r b flags clean t : ℕ) (body : Body p) (s : State) → Short (opened p r b flags clean t body s).0
unfolding opened
short-opened p r b flags clean t body s = rw bytes-long (omega arith)

-- an answer and a state whose reply is short
abbrev Brief : Reply × State → Type 0
Brief o = Short o.0

short-open-store : (n : List ℕ) (flags t : ℕ) (s : State) → Short (open_store n flags t s).0
short-open-store n flags t s =
    open-store-has Brief s (λ _ _. tt) n flags t (λ (r k : ℕ) _ _ _ _. short-opened (AtSlot k) r k flags 1 t (held_slot flags (slot_at k s)) s)
    (λ (r k : ℕ) _ _ _ _ _. short-opened (AtSlot k) r k flags 0 t (new_slot n) s)

short-open-flash : (k : FlashKind) (flags t : ℕ) (s : State) → Short (open_flash k flags t s).0
short-open-flash k flags t s = open-flash-has Brief s (λ _ _. tt) k flags t (λ (r : ℕ) _ _ _ _. short-opened AtFlash r (flash_number k) write_only 0 t (opened_flash k s.flash_group) s)

short-open : (b : Blob) (flags t : ℕ) (m : List ℕ) (s : State) → Short (open_blob b flags t m s).0
unfolding open_blob
short-open (Store at len) flags t m s = short-open-store (part at len m) flags t s
short-open (Flash k) flags t m s = short-open-flash k flags t s
short-open Base flags t m s = tt
short-open Unknown flags t m s = tt

short-delete : (b : Blob) (m : List ℕ) (s : State) → Short (delete_blob b m s).0
unfolding delete_blob delete_store
short-delete (Store at len) m s =
    some-has Brief (slot_named (part at len m) s) _ _ tt (λ (k : ℕ) _. none_has Brief (row_found (OnBlob k) s) _ (done, (in_body (AtSlot k)).put free_slot s) tt (λ _. tt))
short-delete (Flash k) m s = tt
short-delete Base m s = tt
short-delete Unknown m s = tt

short-stat-part : (p : Place) (r : Row) (b : Body p) → length (stat_part p r b) ≤ read_most
short-stat-part (AtSlot k) r b = stat-short (state_bits (word_of r)) (seen_length (writes r) b)
short-stat-part AtFlash r b = stat-short (state_bits (word_of r)) (flash_length (kind_of (blob_of r)) b)

short-stat-row : (r : ℕ) (s : State) → length (stat_row r s) ≤ read_most
unfolding stat_row
short-stat-row r s = short-stat-part (place_of (blob r s)) ((in_row r).get s) ((in_body (place_of (blob r s))).get s)

short-stat : (b : Blob) (m : List ℕ) (s : State) → Short (stat_blob b m s)
unfolding stat_blob stat_name stat_kind
short-stat (Store at len) m s =
    some-has Short (slot_named (part at len m) s) (refused not_found) _ tt
    (λ (k : ℕ) _. whether-has Short (row_found (OnBlob k) s) (λ (r : ℕ). reply (stat_row r s)) _ (λ (r : ℕ) _. short-stat-row r s) (λ _. stat-short state_committed (slot_at k s).committed_len))
short-stat (Flash k) m s =
    cond_has Short (flash_listed k s.flash_group.phase) _ (refused not_found)
    (whether-has Short (row_found (OnBlob (flash_number k)) s) (λ (r : ℕ). reply (stat_row r s)) _ (λ (r : ℕ) _. short-stat-row r s) (λ _. stat-short 0 (flash_length k s.flash_group))) tt
short-stat Base m s = stat-short 0 0
short-stat Unknown m s = tt

-- ---- Enumerate: every listed name is at most as long as a name field
abbrev Names : List (List ℕ) → Type 0
Names [] = Unit {0}
Names (n ∷ ns) = (length n ≤ name_size) × Names ns

names-append : (a b : List (List ℕ)) → Names a → Names b → Names (a ++ b)
names-append [] b x y = y
names-append (n ∷ a) b x y = (x.0, names-append a b x.1 y)

names-only : (y : Bool) (n : List ℕ) → length n ≤ name_size → Names (only y n)
names-only true n h = (h, tt)
names-only false n h = tt

text-short : (l : List ℕ) (n : ℕ) → length l ≤ n → length (text l) ≤ n
text-short l n h = rw length-take (omega arith)

slot-name-short : (k : ℕ) (s : State) → length (slot_at k s).name ≤ name_size
slot-name-short k s = rw length-take (omega arith)

names-committed : (n : ℕ) (s : State) → Names (committed_names n s)
unfolding committed_names
names-committed zero s = tt
names-committed (suc n) s =
    names-append (committed_names n s) (only (eqb (slot_at n s).mark 1) (text (slot_at n s).name)) (names-committed n s)
    (names-only (eqb (slot_at n s).mark 1) (text (slot_at n s).name) (text-short (slot_at n s).name name_size (slot-name-short n s)))

flash-name-short : (k : FlashKind) → length (flash_name k) ≤ name_size
unfolding flash_folder flash_word name_size
flash-name-short Image = omega arith
flash-name-short Hash = omega arith
flash-name-short Verify = omega arith
flash-name-short Update = omega arith
flash-name-short Cleanup = omega arith

names-kind : (k : FlashKind) (p : Phase) → Names (only (flash_listed k p) (flash_name k))
names-kind k p = names-only (flash_listed k p) (flash_name k) (flash-name-short k)

names-flash : (p : Phase) → Names (flash_names p)
unfolding flash_names
names-flash p =
    names-append (listed_flash Image p) (listed_flash Hash p ++ (listed_flash Verify p ++ (listed_flash Update p ++ listed_flash Cleanup p))) (names-kind Image p)
    (names-append (listed_flash Hash p) (listed_flash Verify p ++ (listed_flash Update p ++ listed_flash Cleanup p)) (names-kind Hash p)
    (names-append (listed_flash Verify p) (listed_flash Update p ++ listed_flash Cleanup p) (names-kind Verify p)
    (names-append (listed_flash Update p) (listed_flash Cleanup p) (names-kind Update p) (names-kind Cleanup p))))

base_short : length base ≤ name_size
unfolding base name_size
base_short = omega arith

names-listed : (s : State) → Names (listed s)
unfolding listed
names-listed s = (base_short, names-append (committed_names slot_count s) (flash_names s.flash_group.phase) (names-committed slot_count s) (names-flash s.flash_group.phase))

at-short : (ns : List (List ℕ)) (i : ℕ) → Names ns → length (get_or ns i []) ≤ name_size
at-short [] i h = omega arith
at-short (n ∷ ns) zero h = h.0
at-short (n ∷ ns) (suc i) h = at-short ns i h.1

short-enumerated : (i : ℕ) (s : State) → Short (enumerated i s)
short-enumerated i s = cond_has Short (ltb i (count s)) (reply (get_or (listed s) i [] ++ (0 ∷ []))) (refused out_of_range) (rw length-append
    (let h = at-short (listed s) i (names-listed s) in let e = name-size in omega arith)) tt

-- the reply to every request is short
pub short-answered : (q : Request) (t : ℕ) (m : List ℕ) (s : State) → Short (answered q t m s).0
unfolding answered
short-answered Count t m s = rw bytes-long (omega arith)
short-answered (Enumerate index) t m s = short-enumerated index s
short-answered (Open flags b) t m s = short-open b flags t m (swept t s)
short-answered (Read session offset n) t m s = short-session _ t _ s
short-answered (Write session offset start) t m s = short-session _ t _ s
short-answered (Commit session len rest) t m s = short-session _ t _ s
short-answered (Close session) t m s = short-session _ t _ s
short-answered (Delete b) t m s = short-delete b m s
short-answered (Stat b) t m s = short-stat b m s
short-answered (SessionStat session) t m s = short-session _ t _ s
short-answered (WriteMeta session) t m s = short-session _ t _ s
short-answered (Refused code) t m s = tt

frame-short : (sub : ℕ) (x : Reply) → Short x → length (framed sub x).1 ≤ answer_size
unfolding framed
frame-short sub (refused c) h = omega arith
frame-short sub done h = omega arith
frame-short sub (reply f) h = rw (length-append (bytes_of 2 (crc f)) f, bytes-long) (omega arith)

-- EVERY RESPONSE FITS THE ANSWER BUFFER
pub response-fits : (t : ℕ) (m : List ℕ) (s : State) → length (respond t m s).response ≤ answer_size
unfolding respond
response-fits t m s = go (is_sound s)
  where
    full : Effect
    full = effect_of (framed (number_of (decoded m)) (answered (decoded m) t m s).0) (answered (decoded m) t m s).1

    go : (y : Bool) → length (cond y full (unsound s)).response ≤ answer_size
    go true = frame-short (number_of (decoded m)) (answered (decoded m) t m s).0 (short-answered (decoded m) t m s)
    go false = omega arith
