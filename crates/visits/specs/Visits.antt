-- What a search for a row gives, with the number of rows that it visits; and the lookup of an identifier by a caller.
use Rattle.std.specs.Prelude.{Bool, cond, ◌&&◌, List, ℕ, suc, ◌*◌, eqb, ltb, length}
use Rattle.std.proofs.Math.Option.{Option, none, some}
use Rattle.std.specs.Int.Count.{ones_in}
use Rattle.protocol.specs.Numbers.{row_count, row_words, sixteen_bits, success, not_found, not_sound}
use Rattle.state.specs.State.{State, with_rows}
use Rattle.state.specs.Words.{fresh}
use Rattle.state.specs.declared.row.Wanted.{Wanted}
use Rattle.state.specs.declared.row.Wanted.TheVariants.{Id}
use Rattle.rules.specs.Session.{row_found}

-- how many of the lowest n rows are used (rule 25.1)
abbrev pub used_below : ℕ → State → ℕ
used_below n s = ones_in n s.sessions.rows

-- how many rows lie behind a search when it ends: those up to and with the row found, or all of them (rule 25.2)
abbrev pub rows_behind : Option ℕ → ℕ
rows_behind (some r) = suc r
rows_behind none = row_count

-- THE NUMBER OF ROWS VISITED: the used ones among these (rule 25.2)
unfoldable pub visited : Wanted → State → ℕ
visited w s = used_below (rows_behind (row_found w s)) s

-- a search: the row found, if there is one, and the number of rows visited
pub record Search : Type 0 where
  pub row : Option ℕ
  pub visits : ℕ

-- THE SEARCH FOR A ROW (rules 25.1 and 25.2)
abbrev pub searched : Wanted → State → Search
searched w s = record { row = row_found w s; visits = visited w s }

-- ---- the lookup of an identifier
-- what it says: completion code, row, number of rows visited
pub record Looked : Type 0 where
  pub code : ℕ
  pub row : ℕ
  pub visits : ℕ

-- 00 and the row, where it is found; else CB and row 0 (rule 25.3)
abbrev pub looked_by : Option ℕ → (visits : ℕ) → Looked
looked_by (some r) n = record { code = success; row = r; visits = n }
looked_by none n = record { code = not_found; row = 0; visits = n }

-- FF: nothing was looked at (rule 25.3)
abbrev pub not_looked : Looked
not_looked = record { code = not_sound; row = 0; visits = 0 }

-- m and t may be a mask of used rows and a session table (rules 6.1, 6.2 and 25.3)
abbrev pub table_fits : (m : ℕ) (t : List ℕ) → Bool
table_fits m t = eqb (length t) (row_count * row_words) && ltb m sixteen_bits

-- THE LOOKUP OF AN IDENTIFIER among the rows of the table t that the mask m says are used: the search that the commands make, which reads nothing else of a state (rule 25.3)
unfoldable pub looked_up : (identifier m : ℕ) (t : List ℕ) → Looked
looked_up id m t = cond (table_fits m t) (looked_by (row_found (Id id) (with_rows m t fresh)) (visited (Id id) (with_rows m t fresh))) not_looked
