-- The completion code of Open, Delete and Stat by the kind of name, as tables of their own, in the order of document 01's checks. Assumes nothing.
use Rattle.std.specs.Prelude.{◌≡◌, refl, Bool, true, false, ◌&&◌, List, ℕ, ◌+◌, eqb, drop}
use Rattle.std.proofs.Common.{sym, ◌∙◌, subst}
use Rattle.std.proofs.Math.Path.{ap}
use Rattle.std.proofs.Math.Bool.{cond}
use Rattle.std.proofs.Math.Option.{Option, none, some}
use Rattle.laws.specs.All.{Or, this, that}
use Rattle.laws.specs.Find.{is_some}
use Rattle.laws.specs.Ranges.{part}
use Rattle.protocol.specs.Numbers.{success, invalid, not_found, busy, no_room, open_command, delete_command, stat_command}
use Rattle.protocol.specs.Numbers.{read_only, read_write, write_only}
use Rattle.protocol.specs.Names.{flash_number, name_form}
use Rattle.protocol.specs.Decode.{decoded, asked, subcommand, fields_at, with_name, refused_with}
use Rattle.protocol.specs.Frame.{Reply, refused, done, reply, framed}
use Rattle.protocol.specs.declared.FlashKind.{FlashKind}
use Rattle.protocol.specs.declared.FlashKind.TheVariants.{Image, Hash, Verify, Update, Cleanup}
use Rattle.protocol.specs.declared.Blob.{Blob}
use Rattle.protocol.specs.declared.Blob.TheVariants.{Store, Flash, Base, Unknown}
use Rattle.protocol.specs.declared.Request.TheVariants.{Open, Delete, Stat}
use Rattle.state.specs.declared.Phase.{Phase}
use Rattle.state.specs.declared.Phase.TheVariants.{Idle, Uploading, Verified}
use Rattle.state.specs.declared.row.Place.{Place}
use Rattle.state.specs.declared.row.Place.TheVariants.{AtSlot, AtFlash}
use Rattle.state.specs.declared.row.Wanted.TheVariants.{OnBlob, OnFlash}
use Rattle.state.specs.State.{State, Body, in_body}
use Rattle.state.specs.Words.{free_slot, store_flags, flash_flags, writes_with, store-flags}
use Rattle.state.specs.Soundness.{slot_at, is_sound}
use Rattle.rules.specs.Checks.{none_or, some_or, whether}
use Rattle.rules.specs.Session.{stat_row, row_found}
use Rattle.rules.specs.Sweep.{swept}
use Rattle.rules.specs.Lookup.{slot_named, free_row_in, free_slot_in}
use Rattle.rules.specs.Opening.{opened, new_slot, held_slot, flash_listed, opened_flash}
use Rattle.rules.specs.Open.{open_store, open_flash, open_blob}
use Rattle.rules.specs.Named.{delete_store, delete_blob, stat_name, stat_kind, stat_blob}
use Rattle.rules.specs.Respond.{answered, respond}
use Rattle.rules.proofs.Examples.{reply-is, refused-code}
use Rattle.answers.proofs.Faults.{decoded-by-frame}
use Rattle.answers.specs.Faults.{frame_fault}
use Rattle.answers.specs.ByName.{flash_open, row_free, slot_free, there, delete_held, delete_code, stat_code, open_held, open_code}

-- ---- how a check's code is found
-- the code of a reply
abbrev code_of : (sub : ℕ) → Reply → ℕ
code_of sub x = (framed sub x).0

abbrev code_after : (sub : ℕ) → Reply × State → ℕ
code_after sub o = code_of sub o.0

module _ {A : Type 0} (code : A → ℕ) where
  holds-code : (y : Bool) (next refusal : A) (n c : ℕ) → (y ≡ true → code next ≡ n) → code refusal ≡ c → code (cond y next refusal) ≡ cond y n c
  holds-code true next refusal n c p q = p refl
  holds-code false next refusal n c p q = q

  none-code : (o : Option ℕ) (refusal next : A) (c n : ℕ) → code refusal ≡ c → code next ≡ n → code (none_or o refusal next) ≡ cond (is_some o) c n
  none-code none refusal next c n p q = q
  none-code (some k) refusal next c n p q = p

  some-code : (o : Option ℕ) (refusal : A) (next : ℕ → A) (c n : ℕ) → code refusal ≡ c → ((k : ℕ) → code (next k) ≡ n) → code (some_or o refusal next) ≡ cond (is_some o) n c
  some-code none refusal next c n p q = p
  some-code (some k) refusal next c n p q = q k

both-free : (x y : Bool) → cond x (cond y success no_room) no_room ≡ cond (x && y) success no_room
both-free true y = refl
both-free false y = refl

listed-there : (k : FlashKind) (p : Phase) → flash_listed k p ≡ there k p
unfolding flash_listed
listed-there Image p = refl
listed-there Hash p = refl
listed-there Verify Idle = refl
listed-there Verify Uploading = refl
listed-there Verify Verified = refl
listed-there Update Idle = refl
listed-there Update Uploading = refl
listed-there Update Verified = refl
listed-there Cleanup p = refl

-- ---- Delete
delete-store-code : (n : List ℕ) (s : State) → code_after delete_command (delete_store n s) ≡ delete_held (slot_named n s) s
unfolding delete_store framed
delete-store-code n s = go (slot_named n s)
  where
    go : (o : Option ℕ) → code_after delete_command (some_or o (refused not_found, s) (λ (k : ℕ). none_or (row_found (OnBlob k) s) (refused busy, s)
        (done, (in_body (AtSlot k)).put free_slot s))) ≡ delete_held o s
    go none = refl
    go (some k) = none-code (code_after delete_command) (row_found (OnBlob k) s) (refused busy, s) (done, (in_body (AtSlot k)).put free_slot s) busy success refl refl

delete-code : (b : Blob) (m : List ℕ) (s : State) → code_after delete_command (delete_blob b m s) ≡ delete_code b m s
unfolding delete_blob framed
delete-code (Store at len) m s = delete-store-code (part at len m) s
delete-code (Flash k) m s = refl
delete-code Base m s = refl
delete-code Unknown m s = refl

-- EVERY DELETE HAS THE CODE OF THE TABLE (rule 14.1)
pub delete-by-name : (t : ℕ) (m : List ℕ) (s : State) (b : Blob) → is_sound s ≡ true → decoded m ≡ Delete b → (respond t m s).code ≡ delete_code b m s
unfolding answered
delete-by-name t m s b h d = (reply-is t m s (Delete b) (delete_blob b m s).0 h d refl).0 ∙ delete-code b m s

-- ---- Stat
stat-code : (b : Blob) (m : List ℕ) (s : State) → code_of stat_command (stat_blob b m s) ≡ stat_code b m s
unfolding stat_blob stat_name stat_kind framed
stat-code (Store at len) m s = some-code (code_of stat_command) (slot_named (part at len m) s) (refused not_found) _ not_found success refl (λ (k : ℕ). shown (row_found (OnBlob k) s) _)
  where
    shown : (o : Option ℕ) (f : List ℕ) → code_of stat_command (whether o (λ (r : ℕ). reply (stat_row r s)) (reply f)) ≡ success
    shown none f = refl
    shown (some r) f = refl
stat-code (Flash k) m s =
    holds-code (code_of stat_command) (flash_listed k s.flash_group.phase) _ (refused not_found) success not_found (λ _. shown (row_found (OnBlob (flash_number k)) s) _) refl
    ∙ ap (λ (y : Bool). cond y success not_found) (listed-there k s.flash_group.phase)
  where
    shown : (o : Option ℕ) (f : List ℕ) → code_of stat_command (whether o (λ (r : ℕ). reply (stat_row r s)) (reply f)) ≡ success
    shown none f = refl
    shown (some r) f = refl
stat-code Base m s = refl
stat-code Unknown m s = refl

-- EVERY STAT HAS THE CODE OF THE TABLE (rule 15.1)
pub stat-by-name : (t : ℕ) (m : List ℕ) (s : State) (b : Blob) → is_sound s ≡ true → decoded m ≡ Stat b → (respond t m s).code ≡ stat_code b m s
unfolding answered
stat-by-name t m s b h d = (reply-is t m s (Stat b) (stat_blob b m s) h d refl).0 ∙ stat-code b m s

-- ---- Open
opened-code : (p : Place) (r b flags clean t : ℕ) (body : Body p) (s : State) → code_after open_command (opened p r b flags clean t body s) ≡ success
unfolding opened framed
opened-code p r b flags clean t body s = refl

-- of two allowed flags, the one that does not write reads only
reads_only : (flags x y : ℕ) → store_flags flags ≡ true → cond (writes_with flags) x y ≡ cond (eqb flags read_only) y x
reads_only flags x y h = go (store-flags flags h)
  where
    go : Or (flags ≡ read_only) (flags ≡ read_write) → cond (writes_with flags) x y ≡ cond (eqb flags read_only) y x
    go (this e) = subst (λ (f : ℕ). cond (writes_with f) x y ≡ cond (eqb f read_only) y x) (sym e) refl
    go (that e) = subst (λ (f : ℕ). cond (writes_with f) x y ≡ cond (eqb f read_only) y x) (sym e) refl

module _ (flags t : ℕ) (s : State) where
  abbrev code : Reply × State → ℕ
  code o = code_after open_command o

  -- a row, and what is done with it
  row-code : (next : ℕ → Reply × State) (n : ℕ) → ((r : ℕ) → code (next r) ≡ n) → code (some_or (free_row_in s) (refused no_room, s) next) ≡ cond (row_free s) n no_room
  row-code next n f = some-code code (free_row_in s) (refused no_room, s) next no_room n (refused-code open_command no_room) f

  held-code : (n : List ℕ) (o : Option ℕ) → store_flags flags ≡ true
      → code (whether o
      (λ (k : ℕ). none_or (row_found (OnBlob k) s) (refused busy, s) (some_or (free_row_in s) (refused no_room, s) (λ (r : ℕ). opened (AtSlot k) r k flags 1 t (held_slot flags (slot_at k s)) s)))
      (cond (writes_with flags) (some_or (free_row_in s) (refused no_room, s) (λ (r : ℕ). some_or (free_slot_in s) (refused no_room, s)
      (λ (k : ℕ). opened (AtSlot k) r k flags 0 t (new_slot n) s))) (refused not_found, s)))
      ≡ open_held o flags s
  held-code n none h =
      holds-code code (writes_with flags) _ (refused not_found, s) (cond (row_free s) (cond (slot_free s) success no_room) no_room) not_found
      (λ _. row-code _ (cond (slot_free s) success no_room)
      (λ (r : ℕ). some-code code (free_slot_in s) (refused no_room, s) _ no_room success (refused-code open_command no_room) (λ (k : ℕ). opened-code (AtSlot k) r k flags 0 t (new_slot n) s)))
      (refused-code open_command not_found)
      ∙ reads_only flags (cond (row_free s) (cond (slot_free s) success no_room) no_room) not_found h
      ∙ ap (cond (eqb flags read_only) not_found) (both-free (row_free s) (slot_free s))
  held-code n (some k) h =
      none-code code (row_found (OnBlob k) s) (refused busy, s) _ busy (cond (row_free s) success no_room) (refused-code open_command busy)
      (row-code _ success (λ (r : ℕ). opened-code (AtSlot k) r k flags 1 t (held_slot flags (slot_at k s)) s))

  open-store-code : (n : List ℕ) → code (open_store n flags t s) ≡ cond (store_flags flags) (open_held (slot_named n s) flags s) invalid
  unfolding open_store
  open-store-code n = holds-code code (store_flags flags) _ (refused invalid, s) (open_held (slot_named n s) flags s) invalid (held-code n (slot_named n s)) (refused-code open_command invalid)

  open-flash-code : (k : FlashKind) (m : List ℕ) → code (open_flash k flags t s) ≡ open_code (Flash k) flags m s
  unfolding open_flash
  open-flash-code k m =
      holds-code code (flash_flags flags) _ (refused invalid, s) _ invalid
      (λ _. holds-code code (flash_listed k s.flash_group.phase) _ (refused not_found, s) (cond (flash_open s) busy (cond (row_free s) success no_room)) not_found
      (λ _. none-code code (row_found OnFlash s) (refused busy, s) _ busy (cond (row_free s) success no_room) (refused-code open_command busy)
      (row-code _ success (λ (r : ℕ). opened-code AtFlash r (flash_number k) write_only 0 t (opened_flash k s.flash_group) s)))
      (refused-code open_command not_found)
      ∙ ap (λ (y : Bool). cond y (cond (flash_open s) busy (cond (row_free s) success no_room)) not_found) (listed-there k s.flash_group.phase))
      (refused-code open_command invalid)

  open_code_lem : (b : Blob) (m : List ℕ) → code (open_blob b flags t m s) ≡ open_code b flags m s
  unfolding open_blob store_flags
  open_code_lem (Store at len) m = open-store-code (part at len m)
  open_code_lem (Flash k) m = open-flash-code k m
  open_code_lem Base m = refused-code open_command not_found
  open_code_lem Unknown m = refused-code open_command not_found

-- EVERY OPEN HAS THE CODE OF THE TABLE, on the swept state (rules 9.1 and 9.2)
pub open-by-name : (t : ℕ) (m : List ℕ) (s : State) (flags : ℕ) (b : Blob) → is_sound s ≡ true → decoded m ≡ Open flags b → (respond t m s).code ≡ open_code b flags m (swept t s)
unfolding answered
open-by-name t m s flags b h d = (reply-is t m s (Open flags b) (open_blob b flags t m (swept t s)).0 h d refl).0 ∙ open_code_lem flags t (swept t s) b m

-- ---- a wrong name form
-- Open, whose name stands behind the flags; Delete and Stat, where it is all (rule 3.3)
pub data NameAt (m : List ℕ) : (at : ℕ) → Type 0 where
  in-open : subcommand m ≡ open_command → NameAt m (fields_at + 2)
  in-delete : subcommand m ≡ delete_command → NameAt m fields_at
  in-stat : subcommand m ≡ stat_command → NameAt m fields_at

ill-named : (m : List ℕ) (at : ℕ) → NameAt m at → name_form (drop at m) ≡ false → asked (subcommand m) m ≡ refused_with invalid
unfolding asked with_name
ill-named m at (in-open q) e = rw (q, e)
ill-named m at (in-delete q) e = rw (q, e)
ill-named m at (in-stat q) e = rw (q, e)

-- A WRONG NAME FORM IS CC, for Open, Delete and Stat, before all other checks of theirs (rules 4.1, 9.1, 14.1 and 15.1)
pub wrong-form : (t at : ℕ) (m : List ℕ) (s : State) → is_sound s ≡ true → frame_fault m ≡ none → NameAt m at → name_form (drop at m) ≡ false → (respond t m s).code ≡ invalid
unfolding answered
wrong-form t at m s h f n e =
    (reply-is t m s (refused_with invalid) (refused invalid) h (decoded-by-frame m ∙ ap (λ (o : Option ℕ). whether o refused_with (asked (subcommand m) m)) f ∙ ill-named m at n e) refl).0
    ∙ refused-code invalid invalid
