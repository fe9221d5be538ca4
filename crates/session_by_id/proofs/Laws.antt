-- From the row that was found to the session that was asked for. Assumes nothing.
use mathlib.Core.Path.{◌≡◌, refl, sym, ◌∙◌, ap}
use mathlib.Core.List.{List}
use mathlib.Core.Option.{Option}
use Prim.Native.Nat.{ℕ}
use lib.Dec.{leb}
use borrow.Author.Tests.{leb-true}
use lib.ListN.{get_or}
use Rattle.laws.specs.Ranges.{block}
use Rattle.protocol.specs.Numbers.{row_words, slot_count, not_supported}
use Rattle.protocol.specs.Frame.{Reply, refused}
use Rattle.std.specs.Prelude.{Option as Answer, Some, None}
use Rattle.state.specs.declared.row.Entry.{Entry}
use Rattle.state.specs.Entry.{words_of}
use Rattle.state.specs.declared.row.Place.{Place}
use Rattle.state.specs.declared.row.Place.TheVariants.{AtSlot, AtFlash}
use Rattle.state.specs.State.{State, Row, Body, place_of, in_row, in_body, cell, with_rows}
use Rattle.state.proofs.Parts.{cell-steady}
use Rattle.state.specs.Words.{blob, fresh}
use Rattle.state.specs.Lent.{TableLent}
use Rattle.state.specs.declared.row.Wanted.{Wanted}
use Rattle.state.specs.declared.row.Wanted.TheVariants.{OnFlash}
use Rattle.state.specs.Agree.{place-flash}
use Rattle.rules.specs.Store.{on_store}
use Rattle.rules.specs.Command.{Command, read, write_meta, refuse}
use Rattle.rules.specs.Flash.{on_flash}
use Rattle.rules.specs.Session.{absent, on_part, on_place, on_row, on_found, on_session}
use Rattle.rules.specs.Searches.{found-row}
use Rattle.lookup.specs.Search.{FoundRow, row_in, row_low}
use Rattle.response_types.specs.After.{fields_laid}
use Rattle.session_row.specs.OnRow.{refuses}
use Rattle.session_row.specs.Lent.{RowIs}

module _ (s : State) (t : ℕ) (cmd : Command) {w : Wanted} {x : Answer ℕ} (looked : FoundRow x w s.sessions.rows s.sessions.table) where
  -- what is shown of the row that was found holds of the session
  pub of_row : {r : ℕ} {o : Reply × State} → x ≡ Some r → o ≡ on_row r t cmd s → o ≡ on_session w t cmd s
  unfolding on_session
  of_row p u = u ∙ ap (λ (y : Option ℕ). on_found y w t cmd s) (sym (row_in s looked p))

  -- no row was found
  pub of_none : x ≡ None → (absent w, s) ≡ on_session w t cmd s
  unfolding on_session
  of_none p = ap (λ (y : Option ℕ). on_found y w t cmd s) (sym (row_in s looked p))

-- the row that was found, read as e
pub row_is : {x : Answer ℕ} {w : Wanted} {rows : ℕ} {table : List ℕ} {r : ℕ} {e : Entry} → FoundRow x w rows table → x ≡ Some r → TableLent table →
    (block row_words r).get table ≡ words_of e → RowIs table r e
row_is looked p size u = record { table-size = size; row_low = row_low looked p; words_of_row = u }

-- the flash session's row names a flash blob
pub found-flash : {x : Answer ℕ} {rows : ℕ} {table : List ℕ} {r : ℕ} {e : Entry} → FoundRow x OnFlash rows table → x ≡ Some r → (block row_words r).get table ≡ words_of e → place_of e.blob ≡ AtFlash
found-flash {rows = rows} {table = table} {r = r} {e = e} looked p u =
    let h = (found-row OnFlash (with_rows rows table fresh) r (row_in (with_rows rows table fresh) looked p)).1 in
    place-flash e.blob (leb-true slot_count e.blob (sym (ap (λ (l : List ℕ). leb slot_count (get_or l 1 0)) u) ∙ h))

-- "Read: .. not a store session (D5)"
pub flash-read : (s : State) (r : ℕ) (e : Entry) → (block row_words r).get s.sessions.table ≡ words_of e → place_of e.blob ≡ AtFlash →
    (t offset count : ℕ) → (refused not_supported, s) ≡ on_row r t (read offset count) s
unfolding on_flash
flash-read s r e words place t offset count = refuses s r e words AtFlash place t (read offset count) not_supported refl

-- a refused Read leaves the answer buffer
pub kept-answer : (s : State) (o : Reply × State) (code : ℕ) (answer : List ℕ) → (refused code, s) ≡ o → ((refused code, s) ≡ o) × (answer ≡ fields_laid o.0 answer)
kept-answer s o code answer p = (p, ap (λ (y : Reply × State). fields_laid y.0 answer) p)

-- WriteMeta is refused to every session
part-meta : (p : Place) (t : ℕ) (x : Row) (b : Body p) → on_part p t write_meta x b ≡ refuse not_supported x b
unfolding on_store on_flash
part-meta (AtSlot k) t x b = refl
part-meta AtFlash t x b = refl

pub meta-is : (s : State) (r t : ℕ) → (refused not_supported, s) ≡ on_row r t write_meta s
meta-is s r t = go (place_of (blob r s))
  where
    go : (p : Place) → (refused not_supported, s) ≡ on_place p r t write_meta s
    go p = sym (ap (λ (o : Reply × (Row × Body p)). (o.0, (cell r p).put o.1 s)) (part-meta p t ((in_row r).get s) ((in_body p).get s)) ∙ ap
        (λ (y : State). (refused not_supported, y)) (cell-steady r p s))
