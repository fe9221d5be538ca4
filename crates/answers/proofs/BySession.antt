-- The completion code of the commands on a session, by what the session is on, as a table of its own in the order of document 01's checks; and those of Count and Enumerate.
-- Assumes nothing.
use Rattle.std.proofs.Math.Path.{◌≡◌, refl, sym, ap}
use Rattle.std.proofs.Common.{◌∙◌, subst, arith}
use Rattle.std.specs.Prelude.{◌≢◌, Bool, ◌&&◌, ◌||◌, ℕ, ◌+◌, eqb, leb, ltb, drop}
use Rattle.std.proofs.Math.Bool.{true, false, cond}
use mathlib.Core.List.{List, [], ◌∷◌}
use Rattle.std.proofs.Math.Decide.{ℕ_discrete}
use borrow.Author.Tests.{eq-eqb, ne_eqb, ltb-true}
use Rattle.std.proofs.Math.ListN.{length}
use Rattle.protocol.specs.Numbers.{success, invalid, not_found, out_of_range, too_long, busy, not_supported, read_command, write_command, commit_command, close_command, session_stat_command, write_meta_command}
use Rattle.protocol.specs.Numbers.{slot_count, slot_size, image_size, hash_size, image_blob, hash_blob, verify_blob, update_blob, cleanup_blob, running}
use Rattle.protocol.specs.Names.{kind_of, no_kind}
use Rattle.protocol.specs.Decode.{decoded, number_of, values_of}
use Rattle.protocol.specs.Frame.{Reply, refused, reply, framed}
use Rattle.protocol.specs.declared.FlashKind.{FlashKind}
use Rattle.protocol.specs.declared.FlashKind.TheVariants.{Image, Hash, Verify, Update, Cleanup}
use Rattle.protocol.specs.declared.Request.{Request}
use Rattle.protocol.specs.declared.Request.TheVariants.{Count, Enumerate, Read, Write, Commit, Close, SessionStat, WriteMeta}
use Rattle.state.specs.declared.row.Place.{Place}
use Rattle.state.specs.declared.row.Place.TheVariants.{AtSlot, AtFlash}
use Rattle.state.specs.declared.row.Wanted.TheVariants.{Id}
use Rattle.state.specs.State.{State, Row, Slot, FlashBody, in_row, in_body}
use Rattle.state.specs.Words.{word_of, status_of, writes, ident, blob, Live}
use Rattle.state.specs.Soundness.{slot_at, is_sound}
use Rattle.state.specs.Facts.{StoreFacts, Session, Sound}
use Rattle.state.specs.Agree.{sound-of-test, place-slot}
use Rattle.rules.specs.Command.{Command, read, write, commit, stat, close, write_meta, commit_fits, Out, refuse, placed}
use Rattle.rules.specs.Store.{read_store, stored, write_store, commit_writing, commit_store, on_store}
use Rattle.rules.specs.Flash.{write_flash, startable, verify_job, update_job, commit_kind, commit_flash, close_flash, on_flash}
use Rattle.rules.specs.Session.{on_part, on_row, on_session}
use Rattle.rules.specs.Listing.{count, enumerated}
use Rattle.rules.specs.Respond.{Effect, answered, respond}
use Rattle.rules.proofs.Examples.{reply-is, refused-code}
use Rattle.guarantees.specs.Merging.{of_session}
use Rattle.guarantees.proofs.Sessions.{asked_of}
use Rattle.answers.specs.BySession.{on_slot, on_upload, place_code, write_code, commit_code, SessionCodes}
use Rattle.answers.proofs.Absent.{absent-reply}

-- ---- each command on a part
module _ (sub : ℕ) where
  abbrev code_of : Reply → ℕ
  code_of x = (framed sub x).0

  placed-code : {B : Type 0} (capacity len offset n : ℕ) (r : Row) (b : B) (accepted : Out B) → code_of accepted.0 ≡ success → code_of
      (placed capacity len offset n r b accepted).0 ≡ place_code capacity len offset n
  unfolding placed framed
  placed-code capacity len offset n r b accepted e = go (leb offset len) (leb (offset + n) capacity)
    where
      go : (x y : Bool) → code_of (cond x (cond y accepted (refuse too_long r b)) (refuse out_of_range r b)).0 ≡ cond x (cond y success too_long) out_of_range
      go true true = e
      go true false = refl
      go false y = refl

  module _ (t : ℕ) (r : Row) (b : Slot) where
    stored-code : (ws : List ℕ) (offset : ℕ) → code_of (stored t offset ws r b).0 ≡ success
    unfolding stored framed
    stored-code [] offset = refl
    stored-code (w ∷ ws) offset = refl

    write-store-code : (y : Bool) (ws : List ℕ) (offset : ℕ) → code_of (write_store y t offset ws r b).0 ≡ cond y (place_code slot_size b.staged_len offset (length ws)) not_supported
    unfolding write_store framed
    write-store-code true ws offset = placed-code slot_size b.staged_len offset (length ws) r b (stored t offset ws r b) (stored-code ws offset)
    write-store-code false ws offset = refl

    commit-store-code : (y w : Bool) → writes r ≡ w → code_of (commit_store y t r b).0 ≡ cond y (cond w success not_supported) invalid
    unfolding commit_store commit_writing framed
    commit-store-code true true e = ap (λ (x : Bool). code_of (commit_writing x t r b).0) e
    commit-store-code true false e = ap (λ (x : Bool). code_of (commit_writing x t r b).0) e
    commit-store-code false w e = refl

  module _ (t : ℕ) (r : Row) (b : FlashBody) where
    -- the kind of a blob number, by its tests
    abbrev kind_if : (v w x y z : Bool) → FlashKind
    kind_if v w x y z = cond v Image (cond w Hash (cond x Verify (cond y Update (cond z Cleanup no_kind))))

    write-flash-code : (v w x y z : Bool) (ws : List ℕ) (offset : ℕ)
        → code_of (write_flash (kind_if v w x y z) t offset ws r b).0 ≡ cond v (place_code image_size b.image_len offset (length ws))
        (cond w (place_code hash_size b.hash_len offset (length ws)) not_supported)
    unfolding write_flash framed
    write-flash-code true w x y z ws offset = placed-code image_size b.image_len offset (length ws) r b _ refl
    write-flash-code false true x y z ws offset = placed-code hash_size b.hash_len offset (length ws) r b _ refl
    write-flash-code false false true y z ws offset = refl
    write-flash-code false false false true z ws offset = refl
    write-flash-code false false false false true ws offset = refl
    write-flash-code false false false false false ws offset = refl

    verify-code : (y : Bool) → code_of (verify_job y t r b).0 ≡ success
    unfolding verify_job framed
    verify-code true = refl
    verify-code false = refl

    update-code : (y : Bool) → code_of (update_job y t r b).0 ≡ success
    unfolding update_job framed
    update-code true = refl
    update-code false = refl

    commit-kind-code : (v w x y z : Bool) → code_of (commit_kind (kind_if v w x y z) t r b).0 ≡ cond (v || w) not_supported success
    unfolding commit_kind framed
    commit-kind-code true w x y z = refl
    commit-kind-code false true x y z = refl
    commit-kind-code false false true y z = verify-code (startable r)
    commit-kind-code false false false true z = update-code (startable r)
    commit-kind-code false false false false true = refl
    commit-kind-code false false false false false = refl

    commit-flash-code : (f v w x y z : Bool) → code_of (commit_flash f (kind_if v w x y z) t r b).0 ≡ cond f (cond (v || w) not_supported success) invalid
    unfolding commit_flash framed
    commit-flash-code true v w x y z = commit-kind-code v w x y z
    commit-flash-code false v w x y z = refl

    close-flash-code : (y : Bool) (k : FlashKind) → code_of (close_flash y k r b).0 ≡ cond y busy success
    unfolding close_flash framed
    close-flash-code true k = refl
    close-flash-code false k = refl

  -- by the place of the session
  row-code : (i t : ℕ) (c : Command) (s : State) (x y : ℕ) → code_of (on_store t c ((in_row i).get s) (slot_at (blob i s) s)).0 ≡ x
      → code_of (on_flash (kind_of (blob i s)) t c ((in_row i).get s) s.flash_group).0 ≡ y → code_of (on_row i t c s).0 ≡ cond (on_slot i s) x y
  row-code i t c s x y p q = go (on_slot i s)
    where
      go : (z : Bool) → code_of (on_part (cond z (AtSlot (blob i s)) AtFlash) t c ((in_row i).get s) ((in_body (cond z (AtSlot (blob i s)) AtFlash)).get s)).0 ≡ cond z x y
      go true = p
      go false = q

-- the length byte
fits-is : (len rest : ℕ) → commit_fits len rest ≡ eqb len 0 && eqb rest 0
fits-is len rest = go (ℕ_discrete len 0) (ℕ_discrete rest 0)
  where
    go : Dec (len ≡ 0) → Dec (rest ≡ 0) → eqb len rest && eqb len 0 ≡ eqb len 0 && eqb rest 0
    go (yes e) (yes f) = rw (eq-eqb len rest (e ∙ sym f), eq-eqb len 0 e, eq-eqb rest 0 f)
    go (yes e) (no n) = rw (ne_eqb len rest (λ (z : len ≡ rest). n (sym z ∙ e)), eq-eqb len 0 e, ne_eqb rest 0 n)
    go (no n) d = ap (λ (y : Bool). eqb len rest && y) (ne_eqb len 0 n) ∙ and_no (eqb len rest) ∙ sym (ap (λ (y : Bool). y && eqb rest 0) (ne_eqb len 0 n))
      where
        and_no : (y : Bool) → y && false ≡ false
        and_no true = refl
        and_no false = refl

-- a store session has no job
store-quiet : (i : ℕ) (s : State) → Sound s → Live i s → on_slot i s ≡ true → eqb (status_of ((in_row i).get s)) running ≡ false
store-quiet i s g l e =
    let f : StoreFacts (blob i s) (ident i s) (blob i s) (word_of ((in_row i).get s)) (slot_at (blob i s) s)
    = subst (λ (p : Place). Session p ((in_row i).get s) ((in_body p).get s)) (place-slot (blob i s) (ltb-true (blob i s) slot_count e)) (g.session i l) in
    let z = f.no-status in ne_eqb (status_of ((in_row i).get s)) running (omega arith)

module _ (t i : ℕ) (m : List ℕ) (s : State) (h : is_sound s ≡ true) (l : Live i s) where
  abbrev g : Sound s
  g = sound-of-test s h

  abbrev r : Row
  r = (in_row i).get s

  abbrev b : Slot
  b = slot_at (blob i s) s

  abbrev f : FlashBody
  f = s.flash_group

  -- the code of a message that asks q, that is the command c of this session
  code_is : (q : Request) (c : Command) (n : ℕ) → decoded m ≡ q → answered q t m s ≡ on_session (Id (ident i s)) t c s → code_of (number_of q) (on_row i t c s).0 ≡ n → (respond t m s).code ≡ n
  code_is q c n d e p = ap (λ (o : Effect). o.code) (asked_of t i m q c s g l d e) ∙ p

  read-code : (offset n : ℕ) → code_of read_command (on_row i t (read offset n) s).0 ≡ cond (on_slot i s) success not_supported
  unfolding on_store on_flash read_store framed
  read-code offset n = row-code read_command i t (read offset n) s success not_supported refl refl

  write-code : (offset : ℕ) (ws : List ℕ) → code_of write_command (on_row i t (write offset ws) s).0 ≡ write_code i offset (length ws) s
  unfolding on_store on_flash kind_of
  write-code offset ws =
      row-code write_command i t (write offset ws) s _ _ (write-store-code write_command t r b (writes r) ws offset)
      (write-flash-code write_command t r f (eqb (blob i s) image_blob) (eqb (blob i s) hash_blob) (eqb (blob i s) verify_blob) (eqb (blob i s) update_blob) (eqb (blob i s) cleanup_blob) ws offset)

  commit-code : (len rest : ℕ) → code_of commit_command (on_row i t (commit len rest) s).0 ≡ commit_code i len rest s
  unfolding on_store on_flash kind_of
  commit-code len rest =
      row-code commit_command i t (commit len rest) s _ _ (commit-store-code commit_command t r b (commit_fits len rest) (writes r) refl)
      (commit-flash-code commit_command t r f (commit_fits len rest) (eqb (blob i s) image_blob) (eqb (blob i s) hash_blob) (eqb (blob i s)
      verify_blob) (eqb (blob i s) update_blob) (eqb (blob i s) cleanup_blob))
      ∙ inside (on_slot i s) (commit_fits len rest) _ _
      ∙ ap (λ (y : Bool). cond y (cond (on_slot i s) (cond (writes r) success not_supported) (cond (on_upload i s) not_supported success)) invalid) (fits-is len rest)
    where
      -- the length byte is tested first on either place
      inside : (x y : Bool) (v w : ℕ) → cond x (cond y v invalid) (cond y w invalid) ≡ cond y (cond x v w) invalid
      inside true y v w = refl
      inside false y v w = refl

  close-code : code_of close_command (on_row i t close s).0 ≡ cond (eqb (status_of r) running) busy success
  unfolding on_store on_flash framed
  close-code = row-code close_command i t close s success _ refl (close-flash-code close_command t r f (eqb (status_of r) running) (kind_of (blob i s))) ∙ go (on_slot i s) refl
    where
      go : (y : Bool) → on_slot i s ≡ y → cond y success (cond (eqb (status_of r) running) busy success) ≡ cond (eqb (status_of r) running) busy success
      go true e = sym (ap (λ (x : Bool). cond x busy success) (store-quiet i s g l e))
      go false e = refl

  both : (y : Bool) (n : ℕ) → cond y n n ≡ n
  both true n = refl
  both false n = refl

  stat-code : code_of session_stat_command (on_row i t stat s).0 ≡ success
  unfolding on_store on_flash framed
  stat-code = row-code session_stat_command i t stat s success success refl refl ∙ both (on_slot i s) success

  meta-code : code_of write_meta_command (on_row i t write_meta s).0 ≡ not_supported
  unfolding on_store on_flash framed
  meta-code = row-code write_meta_command i t write_meta s not_supported not_supported refl refl ∙ both (on_slot i s) not_supported

  -- EVERY COMMAND ON A SESSION HAS THE CODE OF THE TABLE (rules 10.1, 11.1, 12.1, 13.1, 15.2 and 16.1)
  pub session-codes : SessionCodes t i m s
  unfolding answered
  session-codes = record {
    of-read = λ (offset n : ℕ) (d : decoded m ≡ Read (ident i s) offset n). code_is (Read (ident i s) offset n) (read offset n) _ d refl (read-code offset n);
    of-write = λ (offset start : ℕ) (d : decoded m ≡ Write (ident i s) offset start). code_is (Write (ident i s) offset start) (write offset
        (drop start m)) _ d refl (write-code offset (drop start m));
    of-commit = λ (len rest : ℕ) (d : decoded m ≡ Commit (ident i s) len rest). code_is (Commit (ident i s) len rest) (commit len rest) _ d refl (commit-code len rest);
    of-close = λ (d : decoded m ≡ Close (ident i s)). code_is (Close (ident i s)) close _ d refl close-code;
    of-session-stat = λ (d : decoded m ≡ SessionStat (ident i s)). code_is (SessionStat (ident i s)) stat _ d refl stat-code;
    of-write-meta = λ (d : decoded m ≡ WriteMeta (ident i s)). code_is (WriteMeta (ident i s)) write_meta _ d refl meta-code;
  }

-- ---- no such session
module _ (t : ℕ) (m : List ℕ) (s : State) (h : is_sound s ≡ true) (id : ℕ) (n : (i : ℕ) → Live i s → ident i s ≢ id) where
  -- AN IDENTIFIER THAT NO SESSION HAS IS CB (rule 7.14)
  pub absent-code : (rest : List ℕ) → of_session (number_of (decoded m)) ≡ true → values_of (decoded m) ≡ id ∷ rest → (respond t m s).code ≡ not_found
  absent-code rest o v = (reply-is t m s (decoded m) (refused not_found) h refl (absent-reply t m s id n (decoded m) rest o v)).0 ∙ refused-code (number_of (decoded m)) not_found

-- ---- Count and Enumerate
-- COUNT IS ALWAYS ACCEPTED, ENUMERATE BELOW THE COUNT (rules 8.3 and 8.4)
pub listing-codes : (t : ℕ) (m : List ℕ) (s : State) → is_sound s ≡ true
    → (decoded m ≡ Count → (respond t m s).code ≡ success) × ((index : ℕ) → decoded m ≡ Enumerate index → (respond t m s).code ≡ cond (ltb index (count s)) success out_of_range)
unfolding answered framed
listing-codes t m s h = (
  λ (d : decoded m ≡ Count). (reply-is t m s Count _ h d refl).0,
  λ (index : ℕ) (d : decoded m ≡ Enumerate index). (reply-is t m s (Enumerate index) (enumerated index s) h d refl).0 ∙ go index (ltb index (count s)) _,
)
  where
    go : (index : ℕ) (y : Bool) (name : List ℕ) → (framed (number_of (Enumerate index)) (cond y (reply name) (refused out_of_range))).0 ≡ cond y success out_of_range
    go index true name = refl
    go index false name = refl
