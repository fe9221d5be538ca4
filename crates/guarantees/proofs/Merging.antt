-- DEMAND 3, on bytes: events are messages with their clocks, and job outcomes. Whatever the order in which the lists of several sessions are merged,
-- each request is answered as in its list run whole, and the whole end state is the same. Assumes nothing.
use Rattle.std.specs.Prelude.{◌≡◌, ◌≢◌, Bool, true, cond, List, [], ◌++◌, ℕ, suc, ◌≤◌, ◌<◌, ltb, eqb, leb, drop}
use Rattle.std.proofs.Math.Path.{refl, ap}
use Rattle.std.proofs.Common.{sym, ◌∙◌, subst, true≢false, arith, ltb-true, eq-eqb, ne_eqb, le-leb, leb-true}
use Rattle.std.proofs.Math.Bool.{false}
use Rattle.std.proofs.Math.Option.{Option}
use Rattle.std.proofs.Math.Decide.{ℕ_discrete}
use Rattle.laws.specs.All.{this, that}
use Rattle.laws.specs.Merge.{Apart, Same, Merges, Merge, All, whole, times, tag, of, answers, alone, family, two, apart-same}
use Rattle.laws.specs.Lens.{local-apart}
use Rattle.protocol.specs.Numbers.{slot_count, write_meta_command}
use Rattle.protocol.specs.Decode.{decoded, asked, with_name, subcommand, refused_with, number_of, values_of}
use Rattle.protocol.specs.Cases.{Each, each-command, named-case, decoded-case}
use Rattle.protocol.specs.declared.Blob.{Blob}
use Rattle.protocol.specs.Frame.{Reply, refused, Answer, framed}
use Rattle.protocol.specs.declared.Request.{Request}
use Rattle.protocol.specs.declared.Request.TheVariants.{Count, Enumerate, Open, Read, Write, Commit, Close, Delete, Stat, SessionStat, WriteMeta, Refused}
use Rattle.state.specs.declared.row.Place.{Place}
use Rattle.state.specs.declared.row.Place.TheVariants.{AtSlot, AtFlash}
use Rattle.state.specs.State.{State, Row, Body, place_of, in_row, in_body, cell}
use Rattle.state.specs.Parts.{InRange, FitsRow, FitsBody, row-view-fits, body-view-fits}
use Rattle.state.proofs.Parts.{cell-indep, cell-steady}
use Rattle.state.specs.Words.{ident, blob, Live}
use Rattle.state.specs.Soundness.{is_sound}
use Rattle.state.specs.Facts.{Session, Sound}
use Rattle.state.specs.Agree.{sound-of-test, test-of-sound, apart-blobs}
use Rattle.rules.specs.Command.{Command, read, write, commit, stat, close, write_meta, end_job}
use Rattle.state.specs.declared.row.Wanted.{Wanted}
use Rattle.state.specs.declared.row.Wanted.TheVariants.{Id, OnBlob, OnFlash}
use Rattle.rules.specs.Session.{on_part, on_place, on_row, matches, absent, on_found, on_session}
use Rattle.rules.specs.Respond.{Effect, answered, silent}
use Rattle.rules.proofs.Laws.{respond-is, job_is}
use Rattle.rules.proofs.Change.{Proper, put-sound, was}
use Rattle.rules.specs.Searches.{only_row, none_found}
use Rattle.guarantees.proofs.StorePart.{proper-store}
use Rattle.guarantees.proofs.FlashPart.{proper-flash}
use Rattle.guarantees.specs.Merging.{Event, step, of_session, FirstIs, NamedBy, NamesRow, Mine, message, job_ended}

-- ---- messages that are refused early
-- a refusal's number is above the subcommands
abbrev Early : Request → Type 0
Early Count = Unit {0}
Early (Enumerate index) = Unit {0}
Early (Open flags b) = Unit {0}
Early (Read session offset n) = Unit {0}
Early (Write session offset start) = Unit {0}
Early (Commit session len rest) = Unit {0}
Early (Close session) = Unit {0}
Early (Delete b) = Unit {0}
Early (Stat b) = Unit {0}
Early (SessionStat session) = Unit {0}
Early (WriteMeta session) = Unit {0}
Early (Refused code) = write_meta_command < code.0

early-asked : (m : List ℕ) → Each (λ (sub : ℕ). Early (asked sub m)) (suc write_meta_command)
unfolding asked
early-asked m = (((((((((((tt, tt), tt), with-name _ _ (λ b. tt)), tt), tt), tt), tt), with-name _ _ (λ b. tt)), with-name _ _ (λ b. tt)), tt), tt)
  where
    with-name : (at : ℕ) (f : Blob → Request) → ((b : Blob) → Early (f b)) → Early (with_name at m f)
    with-name at f e = named-case Early at m f (omega arith) (λ _. e _)

early-decoded : (m : List ℕ) → Early (decoded m)
early-decoded m = decoded-case Early m (omega arith) (omega arith) (omega arith) (λ _ (c : subcommand m ≤ write_meta_command) _. each-command
    (λ (sub : ℕ). Early (asked sub m)) (subcommand m) (early-asked m) c)

-- A MESSAGE THAT IS REFUSED BEFORE ITS COMMAND'S OWN ORDER MAY STAND IN ANY SESSION'S LIST (rule 21.8)
pub refused-anywhere : (s : State) (i t : ℕ) (m : List ℕ) (code : ℕ) → Live i s → decoded m ≡ refused_with code → Mine s i (message t m)
refused-anywhere s i t m code l e =
    (l, subst (λ (q : Request). NamedBy q (ident i s)) (sym e) (this (subst Early e (early-decoded m))))

-- ---- the command that an event asks of a session, or a refusal that needs no state, or something else
data Deed : Type 0 where
  asks : Wanted → ℕ → Command → Deed
  early : ℕ → Deed
  other : Deed

-- of a decoded message
abbrev deed_in : Request → ℕ → List ℕ → Deed
deed_in Count t m = other
deed_in (Enumerate index) t m = other
deed_in (Open flags b) t m = other
deed_in (Read session offset n) t m = asks (Id session) t (read offset n)
deed_in (Write session offset start) t m = asks (Id session) t (write offset (drop start m))
deed_in (Commit session len rest) t m = asks (Id session) t (commit len rest)
deed_in (Close session) t m = asks (Id session) t close
deed_in (Delete b) t m = other
deed_in (Stat b) t m = other
deed_in (SessionStat session) t m = asks (Id session) t stat
deed_in (WriteMeta session) t m = asks (Id session) t write_meta
deed_in (Refused code) t m = early code.0

-- of an event
abbrev deed : Event → Deed
deed (message t m) = deed_in (decoded m) t m
deed (job_ended good) = asks OnFlash 0 (end_job good)

-- the deed names the session of row i, or is refused early
abbrev Names : State → ℕ → Deed → Type 0
Names s i (asks (Id id) t c) = id ≡ ident i s
Names s i (asks (OnBlob b) t c) = b ≡ blob i s
Names s i (asks OnFlash t c) = slot_count ≤ blob i s
Names s i (early code) = Unit {0}
Names s i other = ⊥

-- a request whose number is a subcommand's names a session by its first value
by_first : {P : Type 0} (q : Request) (id : ℕ) → number_of q ≤ write_meta_command → (of_session (number_of q) ≡ true → FirstIs id (values_of q) → P) → NamedBy q id → P
by_first q id l f (this h) = absurd (omega arith)
by_first q id l f (that p) = f p.0 p.1

-- and so its deed does
names-deed : (q : Request) (s : State) (i t : ℕ) (m : List ℕ) → NamedBy q (ident i s) → Names s i (deed_in q t m)
names-deed Count s i t m = by_first Count (ident i s) (omega arith) (λ _ x. x)
names-deed (Enumerate index) s i t m = by_first (Enumerate index) (ident i s) (omega arith) (λ e _. absurd (true≢false (sym e)))
names-deed (Open flags b) s i t m = by_first (Open flags b) (ident i s) (omega arith) (λ e _. absurd (true≢false (sym e)))
names-deed (Read session offset n) s i t m = by_first (Read session offset n) (ident i s) (omega arith) (λ _ x. x)
names-deed (Write session offset start) s i t m = by_first (Write session offset start) (ident i s) (omega arith) (λ _ x. x)
names-deed (Commit session len rest) s i t m = by_first (Commit session len rest) (ident i s) (omega arith) (λ _ x. x)
names-deed (Close session) s i t m = by_first (Close session) (ident i s) (omega arith) (λ _ x. x)
names-deed (Delete b) s i t m = by_first (Delete b) (ident i s) (omega arith) (λ _ x. x)
names-deed (Stat b) s i t m = by_first (Stat b) (ident i s) (omega arith) (λ _ x. x)
names-deed (SessionStat session) s i t m = by_first (SessionStat session) (ident i s) (omega arith) (λ _ x. x)
names-deed (WriteMeta session) s i t m = by_first (WriteMeta session) (ident i s) (omega arith) (λ _ x. x)
names-deed (Refused code) s i t m = λ _. tt

deed-of : (e : Event) (s : State) (i : ℕ) → NamesRow s i e → Names s i (deed e)
deed-of (message t m) s i = names-deed (decoded m) s i t m
deed-of (job_ended good) s i = λ h. h

-- ---- what a command does on its own part is proper
pub proper : (p : Place) (t : ℕ) (c : Command) (r : Row) (b : Body p) → FitsRow r → FitsBody p b → r.used ≡ 1 → Session p r b
    → Proper p r (on_part p t c r b).1.0 b (on_part p t c r b).1.1
proper (AtSlot k) t c r b fr fb u ses = proper-store k fb.0 r b fr fb.1 u ses t c
proper AtFlash t c r b fr fb u ses = proper-flash r b fr fb.0 fb.1 u ses t c

-- a blob is somewhere
pub in-range : (b : ℕ) → InRange (place_of b)
in-range b = go (ltb b slot_count) refl
  where
    go : (y : Bool) → ltb b slot_count ≡ y → InRange (cond y (AtSlot b) AtFlash)
    go true q = ltb-true b slot_count q
    go false q = tt

-- what a command does on the part of row i is proper
pub proper-row : (s : State) → Sound s → (i : ℕ) → Live i s → (t : ℕ) (c : Command)
    → Proper (place_of (blob i s)) ((in_row i).get s) (on_part (place_of (blob i s)) t c ((in_row i).get s) ((in_body (place_of (blob i s))).get s)).1.0 ((in_body (place_of (blob i s))).get s)
    (on_part (place_of (blob i s)) t c ((in_row i).get s) ((in_body (place_of (blob i s))).get s)).1.1
proper-row s g i l t c =
    proper (place_of (blob i s)) t c ((in_row i).get s) ((in_body (place_of (blob i s))).get s) (row-view-fits i s l.0 g.shape) (body-view-fits
    (place_of (blob i s)) s (in-range (blob i s)) g.shape) l.1 (g.session i l)

-- a command on a live row keeps the state sound
pub on-row-sound : (s : State) → Sound s → (i : ℕ) → Live i s → (t : ℕ) (c : Command) → Sound (on_row i t c s).1
on-row-sound s g i l t c =
    put-sound s g i l (on_part (place_of (blob i s)) t c ((in_row i).get s) ((in_body (place_of (blob i s))).get s)).1.0
    (on_part (place_of (blob i s)) t c ((in_row i).get s) ((in_body (place_of (blob i s))).get s)).1.1 (proper-row s g i l t c)

-- ---- the deeds as steps, before the soundness test
abbrev act : Deed → State → Reply × State
act (asks a t c) s = on_session a t c s
act (early code) s = (refused code, s)
act other s = (refused 0, s)

-- a state that came from s₀ by such events
pub record Since (s₀ s : State) : Type 0 where
  pub good : Sound s
  pub from_start : (r : ℕ) → Live r s → Live r s₀
  pub id-from : (r : ℕ) → Live r s → ident r s ≡ ident r s₀
  pub blob-from : (r : ℕ) → Live r s → blob r s ≡ blob r s₀

module _ (s₀ : State) (good₀ : Sound s₀) where
  others-miss : (i : ℕ) (a : Wanted) (t : ℕ) (c : Command) (s : State) → Live i s₀ → Names s₀ i (asks a t c) → Since s₀ s → (r : ℕ) → Live r s → r ≢ i → matches a ((in_row r).get s) ≡ false
  others-miss i (Id id) t c s li nm since r l n = ne_eqb (ident r s) id (λ (x : ident r s ≡ id). good₀.ids r i (since.from_start r l) li n (sym (since.id-from r l) ∙ x ∙ nm))
  others-miss i (OnBlob b) t c s li nm since r l n =
      ne_eqb (blob r s) b (λ (x : blob r s ≡ b). (apart-blobs (blob r s₀) (blob i s₀) (good₀.spots r i (since.from_start r l) li n)).0 (sym (since.blob-from r l) ∙ x ∙ nm))
  others-miss i OnFlash t c s li nm since r l n =
      let d = apart-blobs (blob r s₀) (blob i s₀) (good₀.spots r i (since.from_start r l) li n) in
      go (leb slot_count (blob r s)) refl (λ (h : slot_count ≤ blob r s). d.1 (subst (λ (x : ℕ). slot_count ≤ x) (since.blob-from r l) h) nm)
    where
      go : (y : Bool) → leb slot_count (blob r s) ≡ y → (slot_count ≤ blob r s → ⊥) → leb slot_count (blob r s) ≡ false
      go true e f = absurd (f (leb-true _ _ e))
      go false e f = e

  live-hits : (i : ℕ) (a : Wanted) (t : ℕ) (c : Command) (s : State) → Names s₀ i (asks a t c) → Since s₀ s → Live i s → matches a ((in_row i).get s) ≡ true
  live-hits i (Id id) t c s nm since l = eq-eqb (ident i s) id (since.id-from i l ∙ sym nm)
  live-hits i (OnBlob b) t c s nm since l = eq-eqb (blob i s) b (since.blob-from i l ∙ sym nm)
  live-hits i OnFlash t c s nm since l = le-leb slot_count (blob i s) (subst (λ (x : ℕ). slot_count ≤ x) (sym (since.blob-from i l)) nm)

  -- what a command does: on its own session's part, or it is refused
  does-live : (i : ℕ) (a : Wanted) (t : ℕ) (c : Command) (s : State) → Live i s₀ → Names s₀ i (asks a t c) → Since s₀ s → Live i s → on_session a t c s ≡ on_row i t c s
  unfolding on_session
  does-live i a t c s li nm since l = ap (λ (f : Option ℕ). on_found f a t c s) (only_row a s i l (live-hits i a t c s nm since l) (others-miss i a t c s li nm since))

  does-gone : (i : ℕ) (a : Wanted) (t : ℕ) (c : Command) (s : State) → Live i s₀ → Names s₀ i (asks a t c) → Since s₀ s → ((in_row i).get s).used ≢ 1 → on_session a t c s ≡ (absent a, s)
  unfolding on_session
  does-gone i a t c s li nm since h = ap (λ (f : Option ℕ). on_found f a t c s) (none_found a s (λ (r : ℕ) (l : Live r s). go r l (ℕ_discrete r i)))
    where
      go : (r : ℕ) → Live r s → Dec (r ≡ i) → matches a ((in_row r).get s) ≡ false
      go r l (yes e) = absurd (h (subst (λ (x : ℕ). ((in_row x).get s).used ≡ 1) e l.1))
      go r l (no n) = others-miss i a t c s li nm since r l n

  -- the session's part decides
  abbrev Part : ℕ → Type 0
  Part i = Row × Body (place_of (blob i s₀))

  abbrev view : (i : ℕ) → State → Part i
  view i s = (cell i (place_of (blob i s₀))).get s

  abbrev within : (i : ℕ) → Deed → Part i → Reply × Part i
  within i (asks a t c) x = cond (eqb x.0.used 1) (on_part (place_of (blob i s₀)) t c x.0 x.1) (absent a, x)
  within i (early code) x = (refused code, x)
  within i other x = (refused 0, x)

  abbrev back : (i : ℕ) → State → Reply × Part i → Reply × State
  back i s o = (o.0, (cell i (place_of (blob i s₀))).put o.1 s)

  inside : (i : ℕ) (d : Deed) (s : State) → Live i s₀ → Names s₀ i d → Since s₀ s → act d s ≡ back i s (within i d (view i s))
  inside i (asks a t c) s li nm since = go (ℕ_discrete ((in_row i).get s).used 1)
    where
      choice : Bool → Reply × State
      choice y = back i s (cond y (on_part (place_of (blob i s₀)) t c (view i s).0 (view i s).1) (absent a, view i s))

      go : Dec (((in_row i).get s).used ≡ 1) → on_session a t c s ≡ choice (eqb ((in_row i).get s).used 1)
      go (yes h) =
          let l : Live i s = (li.0, h) in
          does-live i a t c s li nm since l ∙ ap (λ (b : ℕ). on_place (place_of b) i t c s) (since.blob-from i l) ∙ sym (ap choice (eq-eqb ((in_row i).get s).used 1 h))
      go (no h) =
          does-gone i a t c s li nm since h ∙ sym (ap (λ (x : State). (absent a, x)) (cell-steady i (place_of (blob i s₀)) s)) ∙ sym (ap choice (ne_eqb ((in_row i).get s).used 1 h))
  inside i (early code) s li nm since = sym (ap (λ (x : State). (refused code, x)) (cell-steady i (place_of (blob i s₀)) s))
  inside i other s li nm since = absurd nm

  goes_on : (i : ℕ) (t : ℕ) (c : Command) (s : State) → Since s₀ s → Live i s → Since s₀ (on_row i t c s).1
  goes_on i t c s since l =
      let w = place_of (blob i s) in
      let o = on_part w t c ((in_row i).get s) ((in_body w).get s) in
      let g = since.good in
      let pr = proper-row s g i l t c in
      let back_to = was s g i l o.1.0 o.1.1 pr in
      record {
        good = on-row-sound s g i l t c;
        from_start = λ (r : ℕ) (x : Live r (on_row i t c s).1). since.from_start r (back_to r x).was-live;
        id-from = λ (r : ℕ) (x : Live r (on_row i t c s).1). (back_to r x).same_id ∙ since.id-from r (back_to r x).was-live;
        blob-from = λ (r : ℕ) (x : Live r (on_row i t c s).1). (back_to r x).same-blob ∙ since.blob-from r (back_to r x).was-live;
      }

  remains : (i : ℕ) (d : Deed) (s : State) → Live i s₀ → Names s₀ i d → Since s₀ s → Since s₀ (act d s).1
  remains i (asks a t c) s li nm since = go (ℕ_discrete ((in_row i).get s).used 1)
    where
      go : Dec (((in_row i).get s).used ≡ 1) → Since s₀ (on_session a t c s).1
      go (yes h) = subst (λ (x : Reply × State). Since s₀ x.1) (sym (does-live i a t c s li nm since (li.0, h))) (goes_on i t c s since (li.0, h))
      go (no h) = subst (λ (x : Reply × State). Since s₀ x.1) (sym (does-gone i a t c s li nm since h)) since
  remains i (early code) s li nm since = since
  remains i other s li nm since = absurd nm

  -- the answer as bytes
  abbrev say : Event → Reply → Answer
  say (message t m) r = framed (number_of (decoded m)) r
  say (job_ended good) r = silent r

  abbrev plain : State → Event → Answer × State
  plain s e = (say e (act (deed e) s).0, (act (deed e) s).1)

  plain-apart : Apart plain (Since s₀) (Mine s₀)
  plain-apart = local-apart plain (Since s₀) (Mine s₀) Part (λ (i : ℕ). cell i (place_of (blob i s₀))) (record {
    stays = λ (i : ℕ) (e : Event) (s : State) (o : Mine s₀ i e) (since : Since s₀ s). remains i (deed e) s o.0 (deed-of e s₀ i o.1) since;
    disjoint = λ (i j : ℕ) (a b : Event) (n : i ≢ j) (x : Mine s₀ i a) (y : Mine s₀ j b). cell-indep i j (place_of (blob i s₀)) (place_of (blob j s₀)) n (good₀.spots i j x.0 y.0 n);
    reply = λ (i : ℕ) (e : Event) (c : Part i). say e (within i (deed e) c).0;
    act = λ (i : ℕ) (e : Event) (c : Part i). (within i (deed e) c).1;
    inside = λ (i : ℕ) (e : Event) (s : State) (o : Mine s₀ i e) (since : Since s₀ s). ap (λ (x : Reply × State). (say e x.0, x.1)) (inside i (deed e) s o.0 (deed-of e s₀ i o.1) since);
  })

  -- the rules do this
  message-is : (q : Request) (i : ℕ) (t : ℕ) (m : List ℕ) (s : State) → Names s₀ i (deed_in q t m) → answered q t m s ≡ act (deed_in q t m) s
  unfolding answered
  message-is Count i t m s nm = absurd nm
  message-is (Enumerate index) i t m s nm = absurd nm
  message-is (Open flags b) i t m s nm = absurd nm
  message-is (Read session offset n) i t m s nm = refl
  message-is (Write session offset start) i t m s nm = refl
  message-is (Commit session len rest) i t m s nm = refl
  message-is (Close session) i t m s nm = refl
  message-is (Delete b) i t m s nm = absurd nm
  message-is (Stat b) i t m s nm = absurd nm
  message-is (SessionStat session) i t m s nm = refl
  message-is (WriteMeta session) i t m s nm = refl
  message-is (Refused code) i t m s nm = refl

  abbrev told : Effect → Answer × State
  told o = ((o.code, o.response), o.state)

  step_is : (i : ℕ) (e : Event) (s : State) → Mine s₀ i e → Since s₀ s → step s e ≡ plain s e
  step_is i (message t m) s o since =
      ap told (respond-is t m s (test-of-sound s since.good)) ∙ ap (λ (x : Reply × State). (framed (number_of (decoded m)) x.0, x.1)) (message-is (decoded m) i t m s (deed-of (message t m) s₀ i o.1))
  step_is i (job_ended good) s o since = ap told (job_is good s (test-of-sound s since.good))

  step-apart : Apart step (Since s₀) (Mine s₀)
  step-apart = apart-same plain step (Since s₀) (Mine s₀) step_is plain-apart

  start : Since s₀ s₀
  start = record { good = good₀; from_start = λ (r : ℕ) (l : Live r s₀). l; id-from = λ (r : ℕ) (l : Live r s₀). refl; blob-from = λ (r : ℕ) (l : Live r s₀). refl }

-- TWO SESSIONS: any merge of their lists does what the lists do whole, one after the other, in either order (rule 21.7)
pub merge-two : (s : State) → is_sound s ≡ true → (i j : ℕ) (xs ys : List Event) (zs : List (ℕ × Event)) → i ≢ j → All (Mine s i) xs → All (Mine s j) ys → Merge i j xs ys zs
    → Same step s zs (tag i xs ++ tag j ys) × Same step s zs (tag j ys ++ tag i xs)
merge-two s h i j xs ys zs n a b m =
    let g = sound-of-test s h in
    two step (Since s) (Mine s) (step-apart s g) i j xs ys zs s n (start s g) a b m

-- ANY NUMBER OF SESSIONS: any merge of their lists does what the lists do whole, one after the other, in any order `os` that names each list once;
-- and each list is answered as it is when it runs alone (rule 21.7)
pub merge-all : (s : State) → is_sound s ≡ true → (lists : ℕ → List Event) (zs : List (ℕ × Event)) (os : List ℕ) → ((i : ℕ) → All (Mine s i) (lists i)) → Merges lists zs
    → ((i : ℕ) → lists i ≢ [] → times i os ≡ 1)
    → Same step s zs (whole lists os) × ((i : ℕ) → of i (answers step s zs) ≡ alone step s (lists i))
merge-all s h lists zs os own m once =
    let g = sound-of-test s h in
    family step (Since s) (Mine s) (step-apart s g) lists zs os s (start s g) own m once
