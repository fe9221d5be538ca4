-- What the searches of the rules find: free rows and slots, the slot of a name, the session of a blob or an identifier. Assumes nothing.
use Rattle.std.specs.Prelude.{◌≡◌, refl, ◌≢◌, true, false, List, ℕ, ◌≤◌, ◌<◌, eqb}
use Rattle.std.proofs.Common.{sym, ◌∙◌, ap, true≢false, eqb-true, eq-eqb, ne_eqb, le-leb}
use Rattle.std.proofs.Math.Option.{Option, none, some}
use Rattle.laws.specs.All.{and-true, and_both}
use Rattle.laws.specs.Bits.{bit}
use Rattle.laws.specs.Bytes.{same, same_true, eq-same, padded}
use Rattle.laws.specs.Find.{first_some, first-none, found, missed, and-false}
use Rattle.protocol.specs.Numbers.{row_count, slot_count, name_size}
use Rattle.state.specs.State.{State, in_row}
use Rattle.state.specs.Words.{ident, blob, in_use, Live}
use Rattle.state.specs.Soundness.{slot_at}
use Rattle.state.specs.Facts.{Sound}
use Rattle.state.specs.Agree.{apart-blobs}
use Rattle.rules.specs.Command.{Command}
use Rattle.state.specs.declared.row.Wanted.{Wanted}
use Rattle.state.specs.declared.row.Wanted.TheVariants.{Id, OnBlob, OnFlash}
use Rattle.rules.specs.Session.{matches, wanted, row_found, on_row, on_found, on_session}
use Rattle.rules.specs.Lookup.{holds, slot_named, free_row_in, free_slot_in}

-- ---- free places
-- the row is free
pub free-row : (s : State) (r : ℕ) → free_row_in s ≡ some r → (r < row_count) × (((in_row r).get s).used ≡ 0)
unfolding free_row_in
free-row s r e = let f = found (λ (x : ℕ). eqb (bit x s.sessions.rows) 0) row_count r e in (f.low, eqb-true _ _ f.passes)

-- the slot is free
pub free-slot : (s : State) (k : ℕ) → free_slot_in s ≡ some k → (k < slot_count) × ((slot_at k s).held ≡ 0)
unfolding free_slot_in
free-slot s k e = let f = found (λ (x : ℕ). eqb (bit x s.store.slots) 0) slot_count k e in (f.low, eqb-true _ _ f.passes)

-- ---- names
-- the slot that a name finds is in use, and its field is the whole name, filled up
pub named-slot : (n : List ℕ) (s : State) (k : ℕ) → slot_named n s ≡ some k → (k < slot_count) × ((slot_at k s).held ≡ 1) × ((slot_at k s).name ≡ padded name_size n)
unfolding slot_named
named-slot n s k e =
    let f = found (holds n s) slot_count k e in
    let a = and-true (eqb (slot_at k s).held 1) (same (slot_at k s).name (padded name_size n)) f.passes in
    (f.low, eqb-true _ _ a.0, same_true _ _ a.1)

-- a name that finds none is no slot's
pub no_name : (n : List ℕ) (s : State) → slot_named n s ≡ none → (l : ℕ) → l < slot_count → (slot_at l s).held ≡ 1 → padded name_size n ≢ (slot_at l s).name
unfolding slot_named
no_name n s e l h u z =
    true≢false (sym (and_both (eqb (slot_at l s).held 1) (same (slot_at l s).name (padded name_size n)) (eq-eqb _ _ u) (eq-same _ _ (sym z)))
    ∙ missed (holds n s) slot_count e l h)

-- ---- sessions
-- the row that is found is in use and is the one wanted
pub found-row : (w : Wanted) (s : State) (r : ℕ) → row_found w s ≡ some r → (Live r s) × (matches w ((in_row r).get s) ≡ true)
unfolding row_found
found-row w s r e =
    let f = found (wanted w s) row_count r e in
    let a = and-true (in_use r s) (matches w ((in_row r).get s)) f.passes in
    ((f.low, eqb-true ((in_row r).get s).used 1 a.0), a.1)

-- where none is found, no row in use is the one wanted
pub no_row : (w : Wanted) (s : State) → row_found w s ≡ none → (q : ℕ) → Live q s → matches w ((in_row q).get s) ≢ true
unfolding row_found
no_row w s e q l z = true≢false (sym (and_both (in_use q s) (matches w ((in_row q).get s)) (eq-eqb _ _ l.1) z) ∙ missed (wanted w s) row_count e q l.0)

-- a row in use that is the only one wanted is found
pub only_row : (w : Wanted) (s : State) (x : ℕ) → Live x s → matches w ((in_row x).get s) ≡ true → ((r : ℕ) → Live r s → r ≢ x → matches w ((in_row r).get s) ≡ false) → row_found w s ≡ some x
unfolding row_found
only_row w s x l e others =
    first_some (wanted w s) row_count x l.0 (and_both (in_use x s) (matches w ((in_row x).get s)) (eq-eqb _ _ l.1) e)
    (λ (r : ℕ) (q : r < row_count) (n : r ≢ x). and-false (in_use r s) (matches w ((in_row r).get s)) (λ (u : in_use r s ≡ true). others r (q, eqb-true ((in_row r).get s).used 1 u) n))

-- where no row in use is the one wanted, none is found
pub none_found : (w : Wanted) (s : State) → ((r : ℕ) → Live r s → matches w ((in_row r).get s) ≡ false) → row_found w s ≡ none
unfolding row_found
none_found w s others =
    first-none (wanted w s) row_count
    (λ (r : ℕ) (q : r < row_count). and-false (in_use r s) (matches w ((in_row r).get s)) (λ (u : in_use r s ≡ true). others r (q, eqb-true ((in_row r).get s).used 1 u)))

-- no session is on the blob
pub no-row-on : (b : ℕ) (s : State) → row_found (OnBlob b) s ≡ none → (q : ℕ) → Live q s → blob q s ≢ b
no-row-on b s e q l z = no_row (OnBlob b) s e q l (eq-eqb _ _ z)

-- no session is flash
pub no-flash-row : (s : State) → row_found OnFlash s ≡ none → (q : ℕ) → Live q s → slot_count ≤ blob q s → ⊥
no-flash-row s e q l z = no_row OnFlash s e q l (le-leb _ _ z)

-- the session that is found on a blob
pub on_row_lem : (s : State) (b x : ℕ) → row_found (OnBlob b) s ≡ some x → (Live x s) × (blob x s ≡ b)
on_row_lem s b x e = let f = found-row (OnBlob b) s x e in (f.0, eqb-true _ _ f.1)

-- in a sound state it is the only one
pub row_on : (s : State) → Sound s → (x b : ℕ) → Live x s → blob x s ≡ b → row_found (OnBlob b) s ≡ some x
row_on s g x b l e =
    only_row (OnBlob b) s x l (eq-eqb _ _ e)
    (λ (r : ℕ) (q : Live r s) (n : r ≢ x). ne_eqb (blob r s) b (λ (z : blob r s ≡ b). (apart-blobs (blob r s) (blob x s) (g.spots r x q l n)).0 (z ∙ sym e)))

-- the session that a command finds is open
pub found-live : (w : Wanted) (s : State) (r : ℕ) → row_found w s ≡ some r → Live r s
found-live w s r e = (found-row w s r e).0

-- the session of an identifier, in a sound state
pub row-of-id : (i : ℕ) (s : State) → Sound s → Live i s → row_found (Id (ident i s)) s ≡ some i
row-of-id i s g l =
    only_row (Id (ident i s)) s i l (eq-eqb (ident i s) (ident i s) refl) (λ (r : ℕ) (q : Live r s) (n : r ≢ i). ne_eqb (ident r s) (ident i s) (g.ids r i q l n))

pub session-row : (t i : ℕ) (c : Command) (s : State) → Sound s → Live i s → on_session (Id (ident i s)) t c s ≡ on_row i t c s
unfolding on_session
session-row t i c s g l = ap (λ (f : Option ℕ). on_found f (Id (ident i s)) t c s) (row-of-id i s g l)
