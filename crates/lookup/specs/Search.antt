-- What the searches of the code find, in the words of the rules. Assumes nothing.
use Rattle.std.specs.Prelude.{◌≡◌, refl, Bool, true, false, List, ℕ, ◌<◌, Option as Answer, Some, Result, Ok, Err}
use Rattle.std.proofs.Common.{sym, ◌∙◌, ap}
use Rattle.std.proofs.Math.Option.{Option, none, some}
use Rattle.std.specs.Int.Count.{ones_in}
use Rattle.laws.specs.Bits.{bit}
use Rattle.laws.specs.Find.{first}
use Rattle.laws.specs.Masks.{clear}
use Rattle.protocol.specs.declared.Code.{Code}
use Rattle.protocol.specs.Numbers.{row_count, slot_count, success}
use Rattle.state.specs.declared.row.Wanted.{Wanted}
use Rattle.state.specs.Answers.{option_of}
use Rattle.state.specs.State.{State, with_rows, with_names}
use Rattle.state.specs.Words.{fresh}
use Rattle.rules.specs.Session.{row_found}
use Rattle.rules.specs.Searches.{found-live, named-slot}
use Rattle.rules.specs.Lookup.{slot_named, free_row_in, free_slot_in}
use Rattle.visits.specs.Visits.{Search, searched, Looked}
use Rattle.lookup.specs.declared.RowSearch.{RowSearch}
use Rattle.lookup.specs.declared.Lookup.{Lookup}

abbrev pub is_none : Option ℕ → Bool
is_none none = true
is_none (some i) = false

-- what a search for a row gives, as the definition has it
abbrev pub search_of : RowSearch → Search
search_of x = record { row = option_of x.row; visits = x.visits }

-- what is said of an identifier, as the definition has it
abbrev pub lookup_of : Lookup → Looked
lookup_of x = said_of x.row x.visits
  where
    said_of : Result ℕ Code → ℕ → Looked
    said_of (Ok row) visits = record { code = success; row = row; visits = visits }
    said_of (Err code) visits = record { code = code.0; row = 0; visits = visits }

-- x is the row wanted, in every state with this mask of rows and this session table
pub record FoundRow (x : Answer ℕ) (w : Wanted) (rows : ℕ) (table : List ℕ) : Type 0 where
  pub row-found : (s : State) → option_of x ≡ row_found w (with_rows rows table s)

-- the row of a search is the one wanted
pub searched-row : {x : RowSearch} {w : Wanted} {rows : ℕ} {table : List ℕ} → ((s : State) → search_of x ≡ searched w (with_rows rows table s)) → FoundRow x.row w rows table
searched-row e = record { row-found = λ (s : State). ap (λ (y : Search). y.row) (e s) }

-- x is the slot that holds the name n, in every state with this mask of slots and these names
pub record FoundName (x : Answer ℕ) (n : List ℕ) (slots : ℕ) (names : List ℕ) : Type 0 where
  pub name-found : (s : State) → option_of x ≡ slot_named n (with_names slots names s)

-- what was found, in the words of the rules
pub row_in : (s : State) {x y : Answer ℕ} {w : Wanted} → FoundRow x w s.sessions.rows s.sessions.table → x ≡ y → row_found w s ≡ option_of y
row_in s looked p = sym (looked.row-found s) ∙ ap option_of p

pub slot-in : (s : State) {x y : Answer ℕ} {n : List ℕ} → FoundName x n s.store.slots s.store.names → x ≡ y → slot_named n s ≡ option_of y
slot-in s looked p = sym (looked.name-found s) ∙ ap option_of p

-- it is a row of the table, or a slot
pub row_low : {x : Answer ℕ} {w : Wanted} {rows : ℕ} {table : List ℕ} {r : ℕ} → FoundRow x w rows table → x ≡ Some r → r < row_count
row_low {w = w} {rows = rows} {table = table} {r = r} looked p = (found-live w (with_rows rows table fresh) r (row_in (with_rows rows table fresh) looked p)).0

pub slot-low : {x : Answer ℕ} {n : List ℕ} {slots : ℕ} {names : List ℕ} {k : ℕ} → FoundName x n slots names → x ≡ Some k → k < slot_count
slot-low {n = n} {slots = slots} {names = names} {k = k} looked p = (named-slot n (with_names slots names fresh) k (slot-in (with_names slots names fresh) looked p)).0

-- ---- the rules' free places
pub free-row : (s : State) → free_row_in s ≡ first (clear s.sessions.rows) slot_count
unfolding free_row_in
free-row s = refl

pub free-slot : (s : State) → free_slot_in s ≡ first (clear s.store.slots) slot_count
unfolding free_slot_in
free-slot s = refl

-- k is the set bit of the mask m with i set bits below it
pub record Nth (m i k : ℕ) : Type 0 where
  pub low : k < slot_count
  pub is_set : bit k m ≡ 1
  pub below : ones_in k m ≡ i
