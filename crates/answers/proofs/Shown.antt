-- What Stat and SessionStat show, on the bytes of the answer: of every session, of every name without one, and of the base. Assumes nothing.
use Rattle.std.specs.Prelude.{◌≡◌, Bool, true, false, not, cond, List, [], ◌∷◌, ℕ, ◌+◌, ◌≤◌, ◌<◌, eqb, ltb, length}
use Rattle.std.proofs.Math.Path.{refl}
use Rattle.std.proofs.Common.{sym, ◌∙◌, ap, subst, arith, ltb-true, ne_eqb}
use Rattle.std.proofs.Math.Option.{Option, none, some}
use Rattle.laws.specs.Bytes.{little, bytes_of}
use Rattle.laws.specs.Ranges.{part}
use Rattle.protocol.specs.Numbers.{slot_count, sixteen_bits, stat_command, session_stat_command, state_committed, image_blob, hash_blob}
use Rattle.protocol.proofs.Sizes.{slot-size, image-size, hash-size}
use Rattle.protocol.specs.Names.{kind_of, flash_number}
use Rattle.protocol.specs.Decode.{decoded, number_of, values_of, fields_at}
use Rattle.protocol.specs.Frame.{Reply, reply, framed, stat_fields}
use Rattle.protocol.specs.declared.FlashKind.{FlashKind}
use Rattle.protocol.specs.declared.FlashKind.TheVariants.{Image, Hash, Verify, Update, Cleanup}
use Rattle.protocol.specs.declared.Blob.{Blob}
use Rattle.protocol.specs.declared.Blob.TheVariants.{Store, Flash, Base}
use Rattle.protocol.specs.declared.Request.{Request}
use Rattle.protocol.specs.declared.Request.TheVariants.{Count, Enumerate, Open, Read, Write, Commit, Close, Delete, Stat, SessionStat, WriteMeta, Refused}
use Rattle.state.specs.declared.Phase.{Phase}
use Rattle.state.specs.declared.row.Place.{Place}
use Rattle.state.specs.declared.row.Place.TheVariants.{AtSlot, AtFlash}
use Rattle.state.specs.declared.row.Wanted.TheVariants.{OnBlob}
use Rattle.state.specs.State.{State, Row, FlashBody, Body, place_of, in_row, in_body}
use Rattle.state.specs.Words.{word_of, flags_in, status_in, clean_in, writes, status_of, ident, blob, Live}
use Rattle.state.specs.Soundness.{slot_at, is_sound, is_verified}
use Rattle.state.specs.Facts.{StoreFacts, FlashFacts, FlashIdle, PhaseOk, Session, Sound}
use Rattle.state.specs.Agree.{sound-of-test, place-slot, place-flash, back-flash, idle-not}
use Rattle.rules.specs.Command.{stat, state_bits}
use Rattle.rules.specs.Store.{on_store}
use Rattle.rules.specs.Flash.{on_flash, flash_length}
use Rattle.rules.specs.Session.{on_part, on_row, stat_part, stat_row, row_found}
use Rattle.rules.specs.Checks.{whether}
use Rattle.rules.specs.Lookup.{slot_named}
use Rattle.rules.specs.Opening.{flash_listed}
use Rattle.rules.specs.Named.{stat_name, stat_kind, stat_blob}
use Rattle.rules.specs.Respond.{Effect, effect_of, unsound, answered, respond}
use Rattle.rules.specs.Searches.{named-slot, none_found, row_on}
use Rattle.rules.proofs.Messages.{sent, thirty_two_bits, two_bytes, four_bytes}
use Rattle.rules.proofs.Examples.{reply-is, reply-frame}
use Rattle.rules.proofs.Excluded.{Bits, state-bits, flash_size, flash-length}
use Rattle.guarantees.proofs.Keep.{alone-slot, kind-of-number, number-high}
use Rattle.guarantees.proofs.Sessions.{asked_of}
use Rattle.answers.specs.Shown.{state_shown, size_shown, metadata_shown, store_size, session_size, ShowsSession, ShowsName, NoneOn}

-- ---- the bytes
module _ (sub x size : ℕ) where
  state-sent : x < sixteen_bits → state_shown (sent sub (stat_fields x size)) ≡ x
  unfolding stat_fields little bytes_of
  state-sent h = two_bytes x h

  size-there : size < thirty_two_bits → size_shown (sent sub (stat_fields x size)) ≡ size
  unfolding stat_fields little bytes_of
  size-there h = four_bytes size h

  metadata-sent : metadata_shown (sent sub (stat_fields x size)) ≡ 0
  unfolding stat_fields bytes_of
  metadata-sent = refl

  length-there : length (sent sub (stat_fields x size)) ≡ fields_at + 7
  unfolding stat_fields bytes_of
  length-there = refl

-- an answer whose reply is these fields
shows : (sub x size : ℕ) (o : Effect) → x < sixteen_bits → size < thirty_two_bits → o.code ≡ (framed sub (reply (stat_fields x size))).0 → o.response
    ≡ (framed sub (reply (stat_fields x size))).1 → ShowsName x size o
shows sub x size o hx hs c r =
    let f = reply-frame sub (stat_fields x size) in
    let e : o.response ≡ sent sub (stat_fields x size) = r ∙ f.1 in record {
      state-is = ap state_shown e ∙ state-sent sub x size hx;
      its-size = record {
        accepted = c ∙ f.0;
        size_is = ap size_shown e ∙ size-there sub x size hs;
        no-metadata = ap metadata_shown e ∙ metadata-sent sub x size;
        no_more = ap length e ∙ length-there sub x size;
      };
    }

-- ---- a session's fields
row-fields : (i : ℕ) (s : State) → stat_row i s ≡ stat_fields (state_bits (word_of ((in_row i).get s))) (session_size i s)
unfolding stat_row
row-fields i s = go (ltb (blob i s) slot_count)
  where
    go : (y : Bool) → stat_part (cond y (AtSlot (blob i s)) AtFlash) ((in_row i).get s) ((in_body (cond y (AtSlot (blob i s)) AtFlash)).get s)
        ≡ stat_fields (state_bits (word_of ((in_row i).get s))) (cond y (store_size ((in_row i).get s) (slot_at (blob i s) s)) (flash_size (blob i s) s.flash_group))
    go true = refl
    go false = ap (stat_fields (state_bits (word_of ((in_row i).get s)))) (flash-length (blob i s) s.flash_group)

-- every length of a sound state has four bytes
flash-small : (b : ℕ) (s : State) → Sound s → flash_size b s.flash_group < thirty_two_bits
flash-small b s g = go (eqb b image_blob) (eqb b hash_blob)
  where
    fits : FlashIdle s.flash_group
    fits = back-flash s g

    go : (x y : Bool) → cond x s.flash_group.image_len (cond y s.flash_group.hash_len 0) < thirty_two_bits
    go true y = let h = fits.image-fits in let z = image-size in omega arith
    go false true = let h = fits.hash-fits in let z = hash-size in omega arith
    go false false = omega arith

session-small : (i : ℕ) (s : State) → Sound s → Live i s → session_size i s < thirty_two_bits
session-small i s g l = go (ltb (blob i s) slot_count) refl
  where
    store : (y : Bool) → StoreFacts (blob i s) (ident i s) (blob i s) (word_of ((in_row i).get s)) (slot_at (blob i s) s) → cond y
        (slot_at (blob i s) s).staged_len (slot_at (blob i s) s).committed_len < thirty_two_bits
    store true f = let h = f.staged-fits in let z = slot-size in omega arith
    store false f = let h = f.committed-fits in let z = slot-size in omega arith

    go : (y : Bool) → ltb (blob i s) slot_count ≡ y → cond y (store_size ((in_row i).get s) (slot_at (blob i s) s)) (flash_size (blob i s) s.flash_group) < thirty_two_bits
    go true e =
        store (writes ((in_row i).get s))
        (subst (λ (p : Place). Session p ((in_row i).get s) ((in_body p).get s)) (place-slot (blob i s) (ltb-true (blob i s) slot_count e)) (g.session i l))
    go false e = flash-small (blob i s) s g

-- an answer whose reply is what the session of row i says
module _ (i sub : ℕ) (s : State) (g : Sound s) (l : Live i s) (o : Effect) (c : o.code ≡ (framed sub (reply (stat_row i s))).0) (r : o.response ≡ (framed sub (reply (stat_row i s))).1) where
  abbrev w : ℕ
  w = word_of ((in_row i).get s)

  few_bits : state_bits w < sixteen_bits
  few_bits = let h = (state-bits w).five-bits in omega arith

  row-shown : ShowsName (state_bits w) (session_size i s) o
  row-shown =
      let e = row-fields i s in
      shows sub (state_bits w) (session_size i s) o few_bits (session-small i s g l) (c ∙ ap (λ (f : List ℕ). (framed sub (reply f)).0) e) (r ∙ ap (λ (f : List ℕ). (framed sub (reply f)).1) e)

  session-shown : ShowsSession i s o
  session-shown = record { bits = subst (Bits (flags_in w) (status_in w) (clean_in w)) (sym row-shown.state-is) (state-bits w); size = row-shown.its-size }

-- ---- SessionStat
part_says : (p : Place) (t : ℕ) (r : Row) (b : Body p) → (on_part p t stat r b).0 ≡ reply (stat_part p r b)
unfolding on_store on_flash
part_says (AtSlot k) t r b = refl
part_says AtFlash t r b = refl

row-says : (i t : ℕ) (s : State) → (on_row i t stat s).0 ≡ reply (stat_row i s)
unfolding stat_row
row-says i t s = part_says (place_of (blob i s)) t ((in_row i).get s) ((in_body (place_of (blob i s))).get s)

-- a request with the number and the values of a SessionStat is one
session-stat : (q : Request) (id : ℕ) → number_of q ≡ session_stat_command → values_of q ≡ id ∷ [] → q ≡ SessionStat id
session-stat Count id n v = absurd (omega arith)
session-stat (Enumerate index) id n v = absurd (omega arith)
session-stat (Open flags b) id n v = absurd (omega arith)
session-stat (Read session offset count) id n v = absurd (omega arith)
session-stat (Write session offset start) id n v = absurd (omega arith)
session-stat (Commit session len rest) id n v = absurd (omega arith)
session-stat (Close session) id n v = absurd (omega arith)
session-stat (Delete b) id n v = absurd (omega arith)
session-stat (Stat b) id n v = absurd (omega arith)
session-stat (SessionStat session) id n v = ap SessionStat (cc)
session-stat (WriteMeta session) id n v = absurd (omega arith)
session-stat (Refused code) id n v = absurd (let z : ◌≡◌ {A = ℕ} 0 1 = cc in omega arith)

-- SESSIONSTAT OF EVERY SESSION SHOWS ITS BITS AND ITS SIZE (rules 15.4 and 15.5)
pub session-stat-shows : (t i : ℕ) (m : List ℕ) (s : State) → is_sound s ≡ true → Live i s → number_of (decoded m) ≡ session_stat_command → values_of
    (decoded m) ≡ ident i s ∷ [] → ShowsSession i s (respond t m s)
unfolding answered
session-stat-shows t i m s h l n v =
    let g = sound-of-test s h in
    let e = asked_of t i m (SessionStat (ident i s)) stat s g l (session-stat (decoded m) (ident i s) n v) refl in
    session-shown i session_stat_command s g l (respond t m s) (ap (λ (o : Effect). o.code) e ∙ ap (λ (x : Reply). (framed session_stat_command x).0) (row-says i t s))
    (ap (λ (o : Effect). o.response) e ∙ ap (λ (x : Reply). (framed session_stat_command x).1) (row-says i t s))

-- ---- Stat
-- of a name without session
idle-small : (k : ℕ) (s : State) → Sound s → k < slot_count → NoneOn k s → (slot_at k s).committed_len < thirty_two_bits
idle-small k s g low n = let h = (g.loose (AtSlot k) low (alone-slot k s low n)).idle-committed in let z = slot-size in omega arith

number-length : (k : FlashKind) (f : FlashBody) → flash_length k f ≡ flash_size (flash_number k) f
number-length k f = sym (ap (λ (x : FlashKind). flash_length x f) (kind-of-number k)) ∙ flash-length (flash_number k) f

-- a flash name that a session is on is listed
phase-listed : (k : FlashKind) (st : ℕ) (p : Phase) → PhaseOk k st p → flash_listed k p ≡ true
unfolding flash_listed
phase-listed Image st p h = refl
phase-listed Hash st p h = refl
phase-listed Verify st p h = ap not (idle-not p h.0)
phase-listed Update st p h = ap is_verified h
phase-listed Cleanup st p h = refl

session-listed : (i : ℕ) (k : FlashKind) (s : State) → Sound s → Live i s → blob i s ≡ flash_number k → flash_listed k s.flash_group.phase ≡ true
session-listed i k s g l e =
    phase-listed k (status_of ((in_row i).get s)) s.flash_group.phase
    (subst (λ (x : FlashKind). PhaseOk x (status_of ((in_row i).get s)) s.flash_group.phase) (ap kind_of e ∙ kind-of-number k) facts.phased)
  where
    high : slot_count ≤ blob i s
    high = let h = (number-high k).0 in omega arith

    facts : FlashFacts (ident i s) (blob i s) (word_of ((in_row i).get s)) s.flash_group
    facts = subst (λ (p : Place). Session p ((in_row i).get s) ((in_body p).get s)) (place-flash (blob i s) high) (g.session i l)

-- what a Stat is replied where its lookups find this
name-says : (n : List ℕ) (k : ℕ) (o : Option ℕ) (s : State) → slot_named n s ≡ some k → row_found (OnBlob k) s ≡ o
    → stat_name n s ≡ whether o (λ (r : ℕ). reply (stat_row r s)) (reply (stat_fields state_committed (slot_at k s).committed_len))
unfolding stat_name
name-says n k o s e f = rw (e, f)

kind-says : (k : FlashKind) (o : Option ℕ) (s : State) → flash_listed k s.flash_group.phase ≡ true → row_found (OnBlob (flash_number k)) s ≡ o
    → stat_kind k s ≡ whether o (λ (r : ℕ). reply (stat_row r s)) (reply (stat_fields 0 (flash_size (flash_number k) s.flash_group)))
unfolding stat_kind
kind-says k o s e f = rw (e, f, number-length k s.flash_group)

module _ (t : ℕ) (m : List ℕ) (s : State) (h : is_sound s ≡ true) where
  abbrev g : Sound s
  g = sound-of-test s h

  -- a Stat that is replied as it is
  replied : (b : Blob) (x : Reply) → decoded m ≡ Stat b → stat_blob b m s ≡ x → ((respond t m s).code ≡ (framed stat_command x).0) × ((respond t m s).response ≡ (framed stat_command x).1)
  unfolding answered
  replied b x d e = reply-is t m s (Stat b) x h d e

  none-on : (b : ℕ) → NoneOn b s → row_found (OnBlob b) s ≡ none
  none-on b n = none_found (OnBlob b) s (λ (q : ℕ) (l : Live q s). ne_eqb (blob q s) b (n q l))

  -- STAT OF A STORE NAME THAT A SESSION IS ON SHOWS WHAT THE SESSION SHOWS (rule 15.6)
  pub stat-shows-session : (i at len : ℕ) → Live i s → decoded m ≡ Stat (Store at len) → slot_named (part at len m) s ≡ some (blob i s) → ShowsSession i s (respond t m s)
  unfolding stat_blob
  stat-shows-session i at len l d e =
      let x = replied (Store at len) (reply (stat_row i s)) d (name-says (part at len m) (blob i s) (some i) s e (row_on s g i (blob i s) l refl)) in
      session-shown i stat_command s g l (respond t m s) x.0 x.1

  -- WITHOUT A SESSION IT SHOWS 8, THAT IS COMMITTED, AND THE COMMITTED LENGTH (rule 15.7)
  pub stat-shows-scan : (k at len : ℕ) → decoded m ≡ Stat (Store at len) → slot_named (part at len m) s ≡ some k → NoneOn k s → ShowsName state_committed (slot_at k s).committed_len (respond t m s)
  unfolding stat_blob
  stat-shows-scan k at len d e n =
      let x = replied (Store at len) (reply (stat_fields state_committed (slot_at k s).committed_len)) d (name-says (part at len m) k none s e (none-on k n)) in
      shows stat_command state_committed (slot_at k s).committed_len (respond t m s) (omega arith) (idle-small k s g (named-slot (part at len m) s k e).0 n) x.0 x.1

  -- STAT OF A FLASH NAME THAT A SESSION IS ON SHOWS WHAT THE SESSION SHOWS (rule 15.6)
  pub stat-shows-flash-session : (i : ℕ) (k : FlashKind) → Live i s → decoded m ≡ Stat (Flash k) → blob i s ≡ flash_number k → ShowsSession i s (respond t m s)
  unfolding stat_blob
  stat-shows-flash-session i k l d e =
      let x = replied (Flash k) (reply (stat_row i s)) d (kind-says k (some i) s (session-listed i k s g l e) (row_on s g i (flash_number k) l e)) in
      session-shown i stat_command s g l (respond t m s) x.0 x.1

  -- WITHOUT A SESSION A LISTED ONE SHOWS STATE 0 AND ITS SIZE (rule 15.8)
  pub stat-shows-flash : (k : FlashKind) → decoded m ≡ Stat (Flash k) → flash_listed k s.flash_group.phase ≡ true → NoneOn (flash_number k) s →
      ShowsName 0 (flash_size (flash_number k) s.flash_group) (respond t m s)
  unfolding stat_blob
  stat-shows-flash k d li n =
      let x = replied (Flash k) (reply (stat_fields 0 (flash_size (flash_number k) s.flash_group))) d (kind-says k none s li (none-on (flash_number k) n)) in
      shows stat_command 0 (flash_size (flash_number k) s.flash_group) (respond t m s) (omega arith) (flash-small (flash_number k) s g) x.0 x.1

  -- THE BASE SHOWS ZEROS (rule 15.9)
  pub stat-shows-base : decoded m ≡ Stat Base → ShowsName 0 0 (respond t m s)
  unfolding stat_blob
  stat-shows-base d = let x = replied Base (reply (stat_fields 0 0)) d refl in shows stat_command 0 0 (respond t m s) (omega arith) (omega arith) x.0 x.1

-- STAT CHANGES NOTHING, whatever the state (rule 15.10)
pub stat-changes-nothing : (t : ℕ) (m : List ℕ) (s : State) (b : Blob) → decoded m ≡ Stat b → (respond t m s).state ≡ s
unfolding respond answered
stat-changes-nothing t m s b d = go (is_sound s)
  where
    full : Request → Effect
    full q = effect_of (framed (number_of q) (answered q t m s).0) (answered q t m s).1

    go : (y : Bool) → (cond y (full (decoded m)) (unsound s)).state ≡ s
    go true = ap (λ (q : Request). (answered q t m s).1) d
    go false = refl
