-- What the rules rule out: for each wrong build that document 01 names, a theorem that it would break. Two of them stand with the starred numbers: a build that
-- refuses all breaks `fresh-count`, and one that always says 00 breaks `write-4045` and `write-4061`. Assumes nothing.
use Rattle.std.specs.Prelude.{◌≡◌, refl, ◌≢◌, Bool, cond, ◌&&◌, ◌||◌, eqb, get_or, set}
use Rattle.std.proofs.Common.{sym, ◌∙◌, true≢false, length-set, get_or-set_same, get_or-set_other}
use Rattle.std.proofs.Math.Path.{ap, subst}
use Rattle.std.proofs.Math.Bool.{true, false}
use Rattle.std.proofs.Math.Option.{none, some}
use mathlib.Core.List.{List, [], ◌∷◌, ◌++◌}
use Prim.Native.Nat.{ℕ, suc, ◌+◌, ◌*◌, ◌/◌, ◌%◌, ◌≤◌, ◌<◌, max}
use native.Mathlib.Omega.{arith}
use Rattle.std.proofs.Math.Decide.{ℕ_discrete}
use Rattle.std.proofs.Math.ListN.{length}
use Rattle.laws.specs.All.{all}
use Rattle.laws.specs.Bits.{bit}
use Rattle.laws.specs.Bytes.{little, bytes_of, same, same_refl, padded}
use Rattle.laws.specs.Find.{first-none, first_some}
use Rattle.laws.specs.Ranges.{part, part-sets}
use Rattle.protocol.specs.Numbers.{row_count, row_words, slot_count, name_size, slot_size, read_most, invalid, not_supported, image_size, hash_size}
use Rattle.protocol.specs.Numbers.{count_command, not_found, untried, running, succeeded, failed, image_blob, hash_blob, verify_blob, update_blob, cleanup_blob}
use Rattle.protocol.specs.Names.{base, kind_of, no_kind}
use Rattle.protocol.specs.Frame.{Reply, refused, done, reply, stat_fields, header}
use Rattle.protocol.specs.declared.FlashKind.{FlashKind}
use Rattle.protocol.specs.declared.FlashKind.TheVariants.{Image, Hash, Verify, Update, Cleanup}
use Rattle.protocol.specs.declared.Blob.TheVariants.{Flash, Base, Unknown}
use Rattle.state.specs.declared.Phase.TheVariants.{Uploading}
use Rattle.state.specs.declared.row.Place.{Place}
use Rattle.state.specs.declared.row.Place.TheVariants.{AtSlot, AtFlash}
use Rattle.state.specs.State.{State, Row, Slot, FlashBody, Body, place_of, in_row, in_body}
use Rattle.state.specs.Parts.{FitsRow, row-view-fits}
use Rattle.state.proofs.Parts.{row_put}
use Rattle.state.specs.Words.{word_of, stamp_of, flags_in, status_of, word_with, writes, writing_in, stamped, with_clean, flags-with, blob_of, blob, Live, status_in, clean_in, with_status}
use Rattle.state.specs.Soundness.{slot_at, is_sound}
use Rattle.rules.specs.Store.{read_count, read_store, stored, write_store, on_store, seen_length, with_staged, seen_bytes, commit_writing, commit_store}
use Rattle.rules.specs.Command.{Command, read, write, commit, stat, close, write_meta, end_job, Out, refuse, state_bits, bytes_after, length_after, commit_fits}
use Rattle.rules.specs.Session.{on_part, on_row}
use Rattle.rules.specs.Open.{open_flash}
use Rattle.rules.proofs.Laws.{placed-has, by-own-part, other-rows, table-after, stamped-status, status-set}
use Rattle.rules.proofs.Messages.{thirty_two_bits, four_bytes, sent}
use Rattle.rules.proofs.Situations.{writer, writer-slot, other-slot}
use Rattle.rules.specs.Flash.{write_flash, startable, verify_job, update_job, commit_kind, commit_flash, on_flash, flash_length}
use Rattle.rules.proofs.Examples.{count-answer}
use Rattle.rules.specs.Counting.{flash_count}
use Rattle.rules.proofs.Counting.{count-is}
use Rattle.rules.specs.Respond.{Effect, respond}
use Rattle.state.specs.Agree.{sound-of-test}
use Rattle.rules.specs.Lookup.{slot_named, fresh_id, after}
use Rattle.rules.specs.Opening.{opened, opened_flash}
use Rattle.rules.proofs.OpenLaws.{open-flash-has}
use Rattle.rules.specs.Named.{delete_blob}
use Rattle.std.specs.Int.Count.{ones}

-- ---- one that stores nothing, and one that stores only what the first Write has
done-not-refused : (c : ℕ) → refused c ≡ done → ⊥
done-not-refused c e = let z : ◌≡◌ {A = ℕ} 0 1 = cc in omega arith

still-writes : (t : ℕ) (r : Row) → length r.words ≡ row_words → writes (stamped t (with_clean 0 r)) ≡ writes r
still-writes t r four =
    ap (λ (w : ℕ). eqb (writing_in w) 1)
    (get_or-set_other (with_clean 0 r).words 3 2 (max (stamp_of (with_clean 0 r)) t) 0 (omega arith) ∙ get_or-set_same r.words 2 (word_with (flags_in (word_of r)) (status_of r) 0) 0 (omega arith))
    ∙ ap (λ (f : ℕ). eqb (f / 2 % 2) 1) (flags-with (flags_in (word_of r)) (status_of r) 0 (omega arith) (omega arith) (omega arith))

module _ (t u offset : ℕ) (r : Row) (b : Slot) (four : length r.words ≡ row_words) (long : length b.staged_bytes ≡ slot_size) (wr : writes r ≡ true) where
  -- where a Write of ws was accepted, a Read of as many bytes at its offset shows them
  abbrev pub ReadsBack : List ℕ → Out Slot → Type 0
  ReadsBack ws o = o.0 ≡ done → (on_store u (read offset (length ws)) o.1.0 o.1.1).0 ≡ reply ws

  stored-shows : (ws : List ℕ) → length ws ≤ read_most → offset + length ws ≤ slot_size → ReadsBack ws (stored t offset ws r b)
  unfolding stored on_store read_store
  stored-shows [] few fits d =
      let none_left : read_count 0 offset (seen_length (writes (stamped t r)) b) ≡ 0 = omega arith in
      ap (λ (n : ℕ). reply (part offset n (seen_bytes (writes (stamped t r)) b))) none_left
  stored-shows (w ∷ ws) few fits d =
      let all_there : read_count (suc (length ws)) offset later.staged_len ≡ suc (length ws) = omega arith in
      ap (λ (y : Bool). reply (part offset (read_count (suc (length ws)) offset (seen_length y later)) (seen_bytes y later))) (still-writes t r four ∙ wr)
      ∙ ap (λ (n : ℕ). reply (part offset n later.staged_bytes)) all_there
      ∙ ap reply (part-sets (w ∷ ws) b.staged_bytes offset (omega arith))
    where
      later : Slot
      later = with_staged (bytes_after offset (w ∷ ws) b.staged_bytes) (length_after offset (w ∷ ws) b.staged_len) b

  -- WHAT AN ACCEPTED WRITE STORED IS WHAT A READ OF THE SAME SESSION THEN SHOWS, clean before it or not, whatever was written before (rule 21.4)
  pub read-after-write : (ws : List ℕ) → length ws ≤ read_most → ReadsBack ws (on_store t (write offset ws) r b)
  unfolding on_store write_store
  read-after-write ws few =
      subst (λ (y : Bool). ReadsBack ws (write_store y t offset ws r b)) (sym wr)
      (placed-has slot_size b.staged_len offset (length ws) r b (stored t offset ws r b) (ReadsBack ws)
      (λ (h : offset ≤ b.staged_len) (l : offset + length ws ≤ slot_size). stored-shows ws few l) (λ (code : ℕ) (e : refused code ≡ done). absurd (done-not-refused code e)))

-- ---- one that invents a count or a size
-- COUNT SENDS ONE FOR `/scan/`, ONE FOR EACH BIT OF THE MASK OF COMMITTED SLOTS, AND THE FLASH NAMES OF THE PHASE (rule 21.4)
pub count-from-masks : (t : ℕ) (s : State) → is_sound s ≡ true → (respond t (header count_command) s).response ≡ sent count_command
    (bytes_of 4 (suc (ones s.store.marks + flash_count s.flash_group.phase)))
count-from-masks t s h =
    ap (λ (o : Effect). o.response) (count-answer t s h) ∙ ap (λ (n : ℕ). sent count_command (bytes_of 4 n)) (count-is s (sound-of-test s h).shape.marks-small)

size-sent : (state size : ℕ) → size < thirty_two_bits → little 4 2 (stat_fields state size) ≡ size
unfolding stat_fields little bytes_of
size-sent state size h = four_bytes size h

-- SESSIONSTAT SENDS THE LENGTH THAT THE SESSION SEES (rule 21.4)
pub stat-size : (t : ℕ) (r : Row) (b : Slot) → seen_length (writes r) b < thirty_two_bits
    → ((on_store t stat r b).0 ≡ reply (stat_fields (state_bits (word_of r)) (seen_length (writes r) b))) × (little 4 2 (stat_fields
    (state_bits (word_of r)) (seen_length (writes r) b)) ≡ seen_length (writes r) b)
unfolding on_store
stat-size t r b h = (refl, size-sent (state_bits (word_of r)) (seen_length (writes r) b) h)

-- ---- one that finds `/scan/moreau` for `/scan/moreau2` (a name that is found is the slot's whole name: `named-slot` of Searches)
abbrev pub moreau : List ℕ
moreau = base ++ (0x6D ∷ 0x6F ∷ 0x72 ∷ 0x65 ∷ 0x61 ∷ 0x75 ∷ [])

-- and one character more
abbrev pub moreau2 : List ℕ
moreau2 = moreau ++ (0x32 ∷ [])

longer-differs : same (padded name_size moreau) (padded name_size moreau2) ≡ false
unfolding same all padded name_size base
longer-differs = refl

-- WHERE ONLY `/scan/moreau` IS HELD, IT IS FOUND, AND `/scan/moreau2` IS NOT (rule 21.4)
pub only-the-whole-name : (n : ℕ) → (slot_named moreau (writer moreau n) ≡ some 0) × (slot_named moreau2 (writer moreau n) ≡ none)
unfolding slot_named
only-the-whole-name n = (
  first_some (asked moreau) slot_count 0 (omega arith) (ap (holds moreau) (writer-slot moreau n) ∙ same_refl (padded name_size moreau))
      (λ (k : ℕ) (l : k < slot_count) (m : k ≢ 0). elsewhere moreau k m),
  first-none (asked moreau2) slot_count (λ (k : ℕ) (l : k < slot_count). at k (ℕ_discrete k 0)),
)
  where
    holds : List ℕ → Slot → Bool
    holds name b = eqb b.held 1 && same b.name (padded name_size name)

    asked : List ℕ → ℕ → Bool
    asked name k = holds name (slot_at k (writer moreau n))

    elsewhere : (name : List ℕ) (k : ℕ) → k ≢ 0 → asked name k ≡ false
    elsewhere name k m = ap (λ (h : ℕ). eqb h 1 && same (slot_at k (writer moreau n)).name (padded name_size name)) (other-slot moreau n k m)

    at : (k : ℕ) → Dec (k ≡ 0) → asked moreau2 k ≡ false
    at k (yes e) = ap (asked moreau2) e ∙ ap (holds moreau2) (writer-slot moreau n) ∙ longer-differs
    at k (no m) = elsewhere moreau2 k m

-- ---- one that hands a closed identifier straight out again
-- AFTER AN OPEN GAVE OUT AN IDENTIFIER, "NEXT" IS ITS SUCCESSOR; so the next Open does not give it out: `not-again` of Identifiers (rule 21.4)
pub next-moves : (p : Place) (r b flags clean t : ℕ) (body : Body p) (s : State) → ((opened p r b flags clean t body s).0 ≡ reply
    (bytes_of 2 (fresh_id s))) × ((opened p r b flags clean t body s).1.next ≡ after (fresh_id s))
unfolding opened
next-moves p r b flags clean t body s = (refl, refl)

-- ---- one that keeps Verified over a new image
-- Open of the image or the hash
abbrev pub Uploads : FlashKind → Bool
Uploads Image = true
Uploads Hash = true
Uploads Verify = false
Uploads Update = false
Uploads Cleanup = false

-- what an Open that was not refused leaves: phase Uploading
abbrev pub NowUploading : Reply × State → Type 0
NowUploading o = (f : List ℕ) → o.0 ≡ reply f → o.1.flash_group.phase ≡ Uploading

opened-uploading : (k : FlashKind) (b : FlashBody) → Uploads k ≡ true → (opened_flash k b).phase ≡ Uploading
unfolding opened_flash
opened-uploading Image b h = refl
opened-uploading Hash b h = refl
opened-uploading Verify b h = absurd (true≢false (sym h))
opened-uploading Update b h = absurd (true≢false (sym h))
opened-uploading Cleanup b h = absurd (true≢false (sym h))

not-uploading : (c : ℕ) (s : State) → NowUploading (refused c, s)
not-uploading c s f e = absurd (let z : ◌≡◌ {A = ℕ} 0 1 = cc in omega arith)

-- AN OPEN OF IMAGE OR HASH THAT IS ACCEPTED LEAVES PHASE UPLOADING (rule 21.4)
pub opening-uploads : (k : FlashKind) (flags t : ℕ) (s : State) → Uploads k ≡ true → NowUploading (open_flash k flags t s)
unfolding opened
opening-uploads k flags t s h =
    open-flash-has NowUploading s (λ (code : ℕ) _. not-uploading code s) k flags t
    (λ (r : ℕ) _ _ _ _ (f : List ℕ) (e : reply (bytes_of 2 (fresh_id s)) ≡ reply f). opened-uploading k s.flash_group h)

-- ---- one with a shared latest time for all stamps
-- every session command but Close; a job outcome is none
abbrev pub Lasting : Command → Type 0
Lasting (read offset n) = Unit {0}
Lasting (write offset ws) = Unit {0}
Lasting (commit len rest) = Unit {0}
Lasting stat = Unit {0}
Lasting close = ⊥
Lasting write_meta = Unit {0}
Lasting (end_job good) = ⊥

-- where the command is accepted, the row's stamp is the greater of what it was and the clock
abbrev pub Lifted : ℕ → Row → {B : Type 0} → Out B → Type 0
Lifted t r o = ((code : ℕ) → o.0 ≢ refused code) → stamp_of o.1.0 ≡ max (stamp_of r) t

module _ (t : ℕ) (r : Row) (four : length r.words ≡ row_words) where
  lifted : stamp_of (stamped t r) ≡ max (stamp_of r) t
  lifted = get_or-set_same r.words 3 (max (stamp_of r) t) 0 (omega arith)

  -- also with another third word
  lifted-with : (w : ℕ) → get_or (set (set r.words 2 w) 3 (max (get_or (set r.words 2 w) 3 0) t)) 3 0 ≡ max (stamp_of r) t
  lifted-with w =
      get_or-set_same (set r.words 2 w) 3 (max (get_or (set r.words 2 w) 3 0) t) 0 (let e = length-set r.words 2 w in omega arith)
      ∙ ap (λ (x : ℕ). max x t) (get_or-set_other r.words 2 3 w 0 (omega arith))

  module _ {B : Type 0} (b : B) where
    no-stamp : (code : ℕ) → Lifted t r (refuse code r b)
    no-stamp code h = absurd (h code refl)

  module _ (b : Slot) where
    stored-lifts : (ws : List ℕ) (offset : ℕ) → Lifted t r (stored t offset ws r b)
    unfolding stored
    stored-lifts [] offset h = lifted
    stored-lifts (w ∷ ws) offset h = lifted-with _

    write-lifts : (y : Bool) (ws : List ℕ) (offset : ℕ) → Lifted t r (write_store y t offset ws r b)
    unfolding write_store
    write-lifts true ws offset =
        placed-has slot_size b.staged_len offset (length ws) r b (stored t offset ws r b) (Lifted t r) (λ (h : offset ≤ b.staged_len)
        (l : offset + length ws ≤ slot_size). stored-lifts ws offset) (no-stamp b)
    write-lifts false ws offset = no-stamp b not_supported

    writing-lifts : (y : Bool) → Lifted t r (commit_writing y t r b)
    unfolding commit_writing
    writing-lifts true = λ h. lifted-with _
    writing-lifts false = no-stamp b not_supported

    commit-lifts : (y : Bool) → Lifted t r (commit_store y t r b)
    unfolding commit_store
    commit-lifts true = writing-lifts (writes r)
    commit-lifts false = no-stamp b invalid

    store-lifts : (c : Command) → Lasting c → Lifted t r (on_store t c r b)
    unfolding on_store read_store
    store-lifts (read offset n) l = λ h. lifted
    store-lifts (write offset ws) l = write-lifts (writes r) ws offset
    store-lifts (commit len rest) l = commit-lifts (commit_fits len rest)
    store-lifts stat l = λ h. lifted
    store-lifts close l = absurd l
    store-lifts write_meta l = no-stamp b not_supported
    store-lifts (end_job good) l = absurd l

  module _ (b : FlashBody) where
    flash-write-lifts : (k : FlashKind) (ws : List ℕ) (offset : ℕ) → Lifted t r (write_flash k t offset ws r b)
    unfolding write_flash
    flash-write-lifts Image ws offset = placed-has image_size b.image_len offset (length ws) r b _ (Lifted t r) (λ (h : offset ≤ b.image_len)
        (l : offset + length ws ≤ image_size) x. lifted) (no-stamp b)
    flash-write-lifts Hash ws offset = placed-has hash_size b.hash_len offset (length ws) r b _ (Lifted t r) (λ (h : offset ≤ b.hash_len) (l : offset + length ws ≤ hash_size) x. lifted) (no-stamp b)
    flash-write-lifts Verify ws offset = no-stamp b not_supported
    flash-write-lifts Update ws offset = no-stamp b not_supported
    flash-write-lifts Cleanup ws offset = no-stamp b not_supported

    verify-lifts : (y : Bool) → Lifted t r (verify_job y t r b)
    unfolding verify_job
    verify-lifts true = λ h. lifted-with _
    verify-lifts false = λ h. lifted

    update-lifts : (y : Bool) → Lifted t r (update_job y t r b)
    unfolding update_job
    update-lifts true = λ h. lifted-with _
    update-lifts false = λ h. lifted

    kind-lifts : (k : FlashKind) → Lifted t r (commit_kind k t r b)
    unfolding commit_kind
    kind-lifts Image = no-stamp b not_supported
    kind-lifts Hash = no-stamp b not_supported
    kind-lifts Verify = verify-lifts (startable r)
    kind-lifts Update = update-lifts (startable r)
    kind-lifts Cleanup = λ h. lifted-with _

    flash-commit-lifts : (y : Bool) (k : FlashKind) → Lifted t r (commit_flash y k t r b)
    unfolding commit_flash
    flash-commit-lifts true k = kind-lifts k
    flash-commit-lifts false k = no-stamp b invalid

    flash-lifts : (k : FlashKind) (c : Command) → Lasting c → Lifted t r (on_flash k t c r b)
    unfolding on_flash
    flash-lifts k (read offset n) l = no-stamp b not_supported
    flash-lifts k (write offset ws) l = flash-write-lifts k ws offset
    flash-lifts k (commit len rest) l = flash-commit-lifts (commit_fits len rest) k
    flash-lifts k stat l = λ h. lifted
    flash-lifts k close l = absurd l
    flash-lifts k write_meta l = no-stamp b not_supported
    flash-lifts k (end_job good) l = absurd l

  -- AN ACCEPTED COMMAND LIFTS ITS OWN ROW'S STAMP TO THE CLOCK, FROM WHAT THAT ROW HAD; in the state it sees and changes no other row: `by-own-part` and `other-rows` of Laws (rule 21.4)
  pub own-stamp : (p : Place) (c : Command) (b : Body p) → Lasting c → Lifted t r (on_part p t c r b)
  own-stamp (AtSlot k) c b l = store-lifts b c l
  own-stamp AtFlash c b l = flash-lifts b (kind_of (blob_of r)) c l

-- SessionStat lifts the stamp, wherever its session is
stat-row : (p : Place) (t : ℕ) (r : Row) (b : Body p) → (on_part p t stat r b).1.0 ≡ stamped t r
unfolding on_store on_flash
stat-row (AtSlot k) t r b = refl
stat-row AtFlash t r b = refl

stamp-after : (i t : ℕ) (s : State) → i < row_count → length s.sessions.table ≡ row_count * row_words → FitsRow ((in_row i).get s) → stamp_of
    ((in_row i).get (on_row i t stat s).1) ≡ max (stamp_of ((in_row i).get s)) t
stamp-after i t s low long fits =
    let p = place_of (blob i s) in
    let o = (on_part p t stat ((in_row i).get s) ((in_body p).get s)).1 in
    let e : o.0 ≡ stamped t ((in_row i).get s) = stat-row p t ((in_row i).get s) ((in_body p).get s) in
    let still : FitsRow o.0 = subst FitsRow (sym e) (record { four = length-set ((in_row i).get s).words 3 (max (stamp_of ((in_row i).get s)) t) ∙ fits.four; flag = fits.flag }) in
    ap stamp_of (ap (λ (x : State). (in_row i).get x) (by-own-part i t stat s) ∙ row_put i p o s low long still ∙ e) ∙ lifted t ((in_row i).get s) fits.four

-- WHATEVER ANOTHER SESSION ASKED FOR BEFORE, AND AT WHATEVER CLOCK, A SESSIONSTAT LIFTS ITS SESSION'S STAMP FROM WHAT IT WAS TO ITS OWN CLOCK: with one latest time for all, the order of two
-- sessions' requests would show in the stamps wherever the clock runs backward (rule 21.4)
pub own-clock : (i j t u : ℕ) (c : Command) (s : State) → is_sound s ≡ true → Live j s → i ≢ j → stamp_of ((in_row j).get (on_row j u stat (on_row i t c s).1).1) ≡ max (stamp_of ((in_row j).get s)) u
own-clock i j t u c s h l n =
    let shape = (sound-of-test s h).shape in
    let same_row = other-rows i j t c s n in
    stamp-after j u (on_row i t c s).1 l.0 (table-after i t c s ∙ shape.table-size) (subst FitsRow (sym same_row) (row-view-fits j s l.0 shape)) ∙ ap (λ (r : Row). max (stamp_of r) u) same_row

-- ---- one that does not show what a session's job and clean mark are
-- the state x of a session with these flags, job status and clean mark: READ, WRITE, a job that runs, committed or clean, a job that failed, and no bit above (rule 15.4)
pub record Bits (flags status clean x : ℕ) : Type 0 where
  pub read-bit : bit 0 x ≡ bit 0 flags
  pub write-bit : bit 1 x ≡ bit 1 flags
  pub running-bit : bit 2 x ≡ cond (eqb status running) 1 0
  pub committed-bit : bit 3 x ≡ cond (eqb status succeeded || eqb clean 1) 1 0
  pub error-bit : bit 4 x ≡ cond (eqb status failed) 1 0
  pub five-bits : x < 32

-- a bit that is set or not
set-or-not : (y : Bool) → cond y 1 0 < 2
set-or-not true = omega arith
set-or-not false = omega arith

weight-4 : (y : Bool) → cond y 4 0 ≡ 4 * cond y 1 0
weight-4 true = refl
weight-4 false = refl

weight-8 : (y : Bool) → cond y 8 0 ≡ 8 * cond y 1 0
weight-8 true = refl
weight-8 false = refl

weight-16 : (y : Bool) → cond y 16 0 ≡ 16 * cond y 1 0
weight-16 true = refl
weight-16 false = refl

-- a number made of two bits of f and three more
module _ (f p q r : ℕ) (hp : p < 2) (hq : q < 2) (hr : r < 2) where
  abbrev sum : ℕ
  sum = f % 4 + (4 * p + (8 * q + 16 * r))

  sum-0 : bit 0 sum ≡ bit 0 f
  sum-0 = omega arith

  sum-1 : bit 1 sum ≡ bit 1 f
  sum-1 = omega arith

  sum-2 : bit 2 sum ≡ p
  sum-2 = omega arith

  sum-3 : bit 3 sum ≡ q
  sum-3 = omega arith

  sum-4 : bit 4 sum ≡ r
  sum-4 = omega arith

  sum-small : sum < 32
  sum-small = omega arith

-- EVERY SESSION SHOWS THESE BITS, whatever its third word w (rule 15.4)
pub state-bits : (w : ℕ) → Bits (flags_in w) (status_in w) (clean_in w) (state_bits w)
unfolding state_bits
state-bits w = subst (Bits f (status_in w) (clean_in w)) (sym made) (record {
  read-bit = sum-0 f p q r hp hq hr;
  write-bit = sum-1 f p q r hp hq hr;
  running-bit = sum-2 f p q r hp hq hr;
  committed-bit = sum-3 f p q r hp hq hr;
  error-bit = sum-4 f p q r hp hq hr;
  five-bits = sum-small f p q r hp hq hr;
})
  where
    f : ℕ
    f = flags_in w

    runs : Bool
    runs = eqb (status_in w) running

    stands : Bool
    stands = eqb (status_in w) succeeded || eqb (clean_in w) 1

    broke : Bool
    broke = eqb (status_in w) failed

    p : ℕ
    p = cond runs 1 0

    q : ℕ
    q = cond stands 1 0

    r : ℕ
    r = cond broke 1 0

    hp : p < 2
    hp = set-or-not runs

    hq : q < 2
    hq = set-or-not stands

    hr : r < 2
    hr = set-or-not broke

    made : state_bits w ≡ sum f p q r hp hq hr
    made = λ i. f % 4 + (weight-4 runs i + (weight-8 stands i + weight-16 broke i))

-- ---- one whose failed job cannot be tried again
-- the job status after a Commit: the job starts where none was tried, and where the last one failed; one that runs goes on, and one that succeeded stays (rules 12.4 and 12.5)
abbrev pub after_commit : (status : ℕ) → ℕ
after_commit st = cond (eqb st untried) running (cond (eqb st failed) running st)

-- the flash names that have a job
abbrev pub HasJob : FlashKind → Type 0
HasJob Image = ⊥
HasJob Hash = ⊥
HasJob Verify = Unit {0}
HasJob Update = Unit {0}
HasJob Cleanup = ⊥

-- what a Commit that was accepted left
abbrev pub Tried : Row → Out FlashBody → Type 0
Tried r o = (o.0 ≡ done) × (status_of o.1.0 ≡ after_commit (status_of r))

module _ (t : ℕ) (r : Row) (b : FlashBody) (four : length r.words ≡ row_words) where
  now-runs : status_of (stamped t (with_status running r)) ≡ running
  now-runs = stamped-status t (with_status running r) ∙ status-set running r four (omega arith)

  -- x: none was tried; y: the last one failed
  by-status : (x y : Bool) (job : Bool → Out FlashBody) → ((job true).0 ≡ done) × (status_of (job true).1.0 ≡ running) → ((job false).0 ≡ done) × (status_of (job false).1.0 ≡ status_of r)
      → ((job (x || y)).0 ≡ done) × (status_of (job (x || y)).1.0 ≡ cond x running (cond y running (status_of r)))
  by-status true y job new old = new
  by-status false true job new old = new
  by-status false false job new old = old

  -- A COMMIT ON VERIFY OR UPDATE IS ACCEPTED, AND STARTS A JOB EXACTLY WHERE NONE WAS TRIED OR THE LAST ONE FAILED (rules 12.4 and 12.5)
  pub job-starts : (k : FlashKind) → HasJob k → Tried r (on_flash k t (commit 0 0) r b)
  unfolding on_flash commit_flash commit_kind verify_job update_job
  job-starts Image h = absurd h
  job-starts Hash h = absurd h
  job-starts Verify h = by-status (eqb (status_of r) untried) (eqb (status_of r) failed) (λ (y : Bool). verify_job y t r b) (refl, now-runs) (refl, stamped-status t r)
  job-starts Update h = by-status (eqb (status_of r) untried) (eqb (status_of r) failed) (λ (y : Bool). update_job y t r b) (refl, now-runs) (refl, stamped-status t r)
  job-starts Cleanup h = absurd h

-- ---- one that answers a Delete by another kind of name
-- A DELETE OF AN UNKNOWN NAME IS CB, OF THE BASE AND OF A FLASH NAME D5 (rule 14.1)
pub delete-unheld : (m : List ℕ) (s : State) → ((delete_blob Unknown m s).0 ≡ refused not_found) × ((delete_blob Base m s).0 ≡ refused not_supported)
    × ((k : FlashKind) → (delete_blob (Flash k) m s).0 ≡ refused not_supported)
unfolding delete_blob
delete-unheld m s = (refl, refl, λ (k : FlashKind). refl)

-- ---- one that invents the size of a flash name
-- the length of the image, of the hash, and 0 of the other flash names (rule 15.5)
abbrev pub flash_size : (blob : ℕ) → FlashBody → ℕ
flash_size b f = cond (eqb b image_blob) f.image_len (cond (eqb b hash_blob) f.hash_len 0)

kind-length : (a b c d e : Bool) (f : FlashBody) → flash_length (cond a Image (cond b Hash (cond c Verify (cond d Update (cond e Cleanup no_kind))))) f ≡ cond a f.image_len (cond b f.hash_len 0)
unfolding flash_length
kind-length true b c d e f = refl
kind-length false true c d e f = refl
kind-length false false true d e f = refl
kind-length false false false true e f = refl
kind-length false false false false true f = refl
kind-length false false false false false f = refl

-- EVERY BLOB NUMBER OF THE FLASH HAS THIS SIZE (rule 15.5)
pub flash-length : (b : ℕ) (f : FlashBody) → flash_length (kind_of b) f ≡ flash_size b f
unfolding kind_of
flash-length b f = kind-length (eqb b image_blob) (eqb b hash_blob) (eqb b verify_blob) (eqb b update_blob) (eqb b cleanup_blob) f
