-- What a search says of the state: the row that the commands act on, and no more visits than there are used rows. Assumes nothing.
use Rattle.std.specs.Prelude.{◌≡◌, refl, ◌≢◌, Bool, true, false, List, ℕ, suc, ◌*◌, ◌≤◌, ◌<◌, eqb, get_or}
use Rattle.std.proofs.Common.{sym, ◌∙◌, ap, subst, true≢false, arith, eqb-true, eq-eqb, ne_eqb, lt-ltb}
use Rattle.std.proofs.Math.Option.{Option, none, some}
use Rattle.laws.specs.All.{and-true, and_both}
use Rattle.laws.specs.Bits.{bit}
use Rattle.laws.specs.Find.{found}
use Rattle.laws.specs.Ranges.{block, get_d_part}
use Rattle.laws.specs.SetBits.{ones-most}
use Rattle.protocol.specs.Numbers.{row_count, row_words, success, not_found, not_sound}
use Rattle.protocol.specs.Frame.{refused}
use Rattle.state.specs.State.{State, with_rows}
use Rattle.state.specs.Words.{fresh, ident, Live}
use Rattle.state.specs.Facts.{Sound}
use Rattle.state.specs.declared.row.Wanted.TheVariants.{Id}
use Rattle.rules.specs.Command.{Command}
use Rattle.rules.specs.Session.{wanted, row_found, on_row, on_found, on_session}
use Rattle.rules.specs.Searches.{found-live, none_found, row-of-id}
use Rattle.visits.specs.Visits.{used_below, visited, Looked, looked_by, not_looked, table_fits, looked_up}
use Rattle.visits.specs.Table.{Has, First}
use Rattle.visits.proofs.HowMany.{visited-found, visited-none, visited-most}

-- ---- the lookup
-- no code is another
differ : (a b : ℕ) {A : Type 0} → a < b → a ≡ b → A
differ a b l e = absurd (omega arith)

-- in a sound state it is the search that every command on a session makes
pub looked-is : (id : ℕ) (s : State) → Sound s → looked_up id s.sessions.rows s.sessions.table ≡ looked_by (row_found (Id id) s) (visited (Id id) s)
unfolding looked_up row_found visited
looked-is id s g = rw (and_both _ _ (eq-eqb _ _ g.shape.table-size) (lt-ltb _ _ g.shape.rows-small))

-- an open session's identifier gives its row, and as many visits as there are used rows up to it (rule 21.22)
pub looked-open : (i : ℕ) (s : State) → Sound s → Live i s
    → looked_up (ident i s) s.sessions.rows s.sessions.table ≡ record { code = success; row = i; visits = suc (used_below i s) }
looked-open i s g l =
    let e = row-of-id i s g l in
    looked-is (ident i s) s g ∙ ap (λ (o : Option ℕ). looked_by o (visited (Id (ident i s)) s)) e ∙ ap (looked_by (some i)) (visited-found (Id (ident i s)) s i e)

-- an identifier that no session has gives CB, and as many visits as there are used rows (rule 21.22)
pub looked-absent : (id : ℕ) (s : State) → Sound s → ((r : ℕ) → Live r s → ident r s ≢ id)
    → looked_up id s.sessions.rows s.sessions.table ≡ record { code = not_found; row = 0; visits = used_below row_count s }
looked-absent id s g others =
    let e : row_found (Id id) s ≡ none = none_found (Id id) s (λ (r : ℕ) (l : Live r s). ne_eqb (ident r s) id (others r l)) in
    looked-is id s g ∙ ap (λ (o : Option ℕ). looked_by o (visited (Id id) s)) e ∙ ap (looked_by none) (visited-none (Id id) s e)

-- THE ROW IS THE ONE THAT COMMANDS ACT ON, those with this identifier (rule 21.22)
pub looked-acts : (id t : ℕ) (c : Command) (s : State) → Sound s → (looked_up id s.sessions.rows s.sessions.table).code ≡ success
    → on_session (Id id) t c s ≡ on_row (looked_up id s.sessions.rows s.sessions.table).row t c s
unfolding on_session
looked-acts id t c s g h =
    go (row_found (Id id) s) (sym (ap (λ (x : Looked). x.code) (looked-is id s g)) ∙ h)
    ∙ sym (ap (λ (x : Looked). on_row x.row t c s) (looked-is id s g))
  where
    go : (o : Option ℕ) → (looked_by o (visited (Id id) s)).code ≡ success → on_found o (Id id) t c s ≡ on_row (looked_by o (visited (Id id) s)).row t c s
    go (some r) e = refl
    go none e = differ success not_found (omega arith) (sym e)

-- WHERE IT SAYS CB, EVERY COMMAND WITH THIS IDENTIFIER IS REFUSED, with CB, and changes nothing (rule 21.22)
pub looked-refuses : (id t : ℕ) (c : Command) (s : State) → Sound s → (looked_up id s.sessions.rows s.sessions.table).code ≡ not_found
    → on_session (Id id) t c s ≡ (refused not_found, s)
unfolding on_session
looked-refuses id t c s g h = go (row_found (Id id) s) (sym (ap (λ (x : Looked). x.code) (looked-is id s g)) ∙ h)
  where
    go : (o : Option ℕ) → (looked_by o (visited (Id id) s)).code ≡ not_found → on_found o (Id id) t c s ≡ (refused not_found, s)
    go none e = refl
    go (some r) e = differ success not_found (omega arith) e

-- FF where there is no table
pub looked-nothing : (id m : ℕ) (t : List ℕ) → table_fits m t ≡ false → looked_up id m t ≡ not_looked
unfolding looked_up
looked-nothing id m t e = rw e

-- a table that fits is searched
pub looked-by : (id m : ℕ) (t : List ℕ) → table_fits m t ≡ true → looked_up id m t ≡ looked_by (row_found (Id id) (with_rows m t fresh)) (visited (Id id) (with_rows m t fresh))
unfolding looked_up
looked-by id m t e = rw e

-- what holds of FF, of a row that is found, and of CB, holds of every lookup
looked-cases : (P : Looked → Type 0) (id m : ℕ) (t : List ℕ)
    → (table_fits m t ≡ false → P not_looked)
    → ((r : ℕ) → row_found (Id id) (with_rows m t fresh) ≡ some r → P (looked_by (some r) (visited (Id id) (with_rows m t fresh))))
    → P (looked_by none (visited (Id id) (with_rows m t fresh)))
    → P (looked_up id m t)
looked-cases P id m t no_table row none-there = fits (table_fits m t) refl
  where
    at : (o : Option ℕ) → row_found (Id id) (with_rows m t fresh) ≡ o → P (looked_by o (visited (Id id) (with_rows m t fresh)))
    at (some r) e = row r e
    at none e = none-there

    fits : (b : Bool) → table_fits m t ≡ b → P (looked_up id m t)
    fits true e = subst P (sym (looked-by id m t e)) (at (row_found (Id id) (with_rows m t fresh)) refl)
    fits false e = subst P (sym (looked-nothing id m t e)) (no_table e)

-- FF only where there is no table
pub nothing-only : (id m : ℕ) (t : List ℕ) → (looked_up id m t).code ≡ not_sound → table_fits m t ≡ false
nothing-only id m t =
    looked-cases (λ (x : Looked). x.code ≡ not_sound → table_fits m t ≡ false) id m t
    (λ (e : table_fits m t ≡ false) (h : not_looked.code ≡ not_sound). e)
    (λ (r : ℕ) (e : row_found (Id id) (with_rows m t fresh) ≡ some r). differ success not_sound (omega arith))
    (differ not_found not_sound (omega arith))

-- its row is one of the table, and its visits are no more than the rows
pub looked-small : (id m : ℕ) (t : List ℕ) → ((looked_up id m t).row < row_count) × ((looked_up id m t).visits ≤ row_count)
looked-small id m t =
    let few : visited (Id id) (with_rows m t fresh) ≤ row_count = omega (arith, visited-most (Id id) (with_rows m t fresh), ones-most row_count m) in
    looked-cases (λ (x : Looked). (x.row < row_count) × (x.visits ≤ row_count)) id m t
    (λ (e : table_fits m t ≡ false). (omega arith, omega arith))
    (λ (r : ℕ) (e : row_found (Id id) (with_rows m t fresh) ≡ some r). ((found-live (Id id) (with_rows m t fresh) r e).0, few))
    (omega arith, few)

first_word : (t : List ℕ) (r : ℕ) → get_or ((block row_words r).get t) 0 0 ≡ get_or t (r * row_words) 0
first_word t r = get_d_part (r * row_words) row_words 0 t 0 (omega arith) ∙ ap (λ (i : ℕ). get_or t i 0) (omega arith)

found_first : (id m : ℕ) (t : List ℕ) (r : ℕ) → row_found (Id id) (with_rows m t fresh) ≡ some r → First id m t r
unfolding row_found
found_first id m t r e =
    let f = found (wanted (Id id) (with_rows m t fresh)) row_count r e in
    let a = and-true (eqb (bit r m) 1) (eqb (get_or ((block row_words r).get t) 0 0) id) f.passes in (
      f.low,
      (
        (eqb-true _ _ a.0, sym (first_word t r) ∙ eqb-true _ _ a.1),
        λ (j : ℕ) (l : j < r) (h : Has id m t j).
            true≢false (sym (and_both (eqb (bit j m) 1) (eqb (get_or ((block row_words j).get t) 0 0) id) (eq-eqb _ _ h.0) (eq-eqb _ _ (first_word t j ∙ h.1))) ∙ f.lowest j l),
      ),
    )

-- 00 gives the lowest row that is used and has the identifier, of any mask and any table (rule 21.22)
pub looked-first : (id m : ℕ) (t : List ℕ) → (looked_up id m t).code ≡ success → First id m t (looked_up id m t).row
looked-first id m t =
    looked-cases (λ (x : Looked). x.code ≡ success → First id m t x.row) id m t
    (λ (e : table_fits m t ≡ false) (h : not_sound ≡ success). differ success not_sound (omega arith) (sym h))
    (λ (r : ℕ) (e : row_found (Id id) (with_rows m t fresh) ≡ some r) (h : success ≡ success). found_first id m t r e)
    (λ (h : not_found ≡ success). differ success not_found (omega arith) (sym h))
