-- How many rows a search visits: no more than there are used rows. Assumes nothing.
use Rattle.std.specs.Prelude.{◌≡◌, refl, ℕ, suc, ◌+◌, ◌-◌, ◌≤◌, ◌<◌}
use Rattle.std.proofs.Common.{◌∙◌, ap, arith}
use Rattle.std.proofs.Math.Option.{Option, none, some}
use Rattle.std.specs.Int.Count.{ones, ones_in}
use Rattle.laws.specs.Masks.{ones-more, ones-mono, ones-in}
use Rattle.protocol.specs.Numbers.{row_count, sixteen_bits}
use Rattle.state.specs.State.{State}
use Rattle.state.specs.declared.row.Wanted.{Wanted}
use Rattle.rules.specs.Session.{row_found}
use Rattle.rules.specs.Searches.{found-live}
use Rattle.visits.specs.Visits.{used_below, rows_behind, visited}

-- ---- how many
-- a row that is found is visited, and so is every used row below it, and no other (rule 21.21)
pub visited-found : (w : Wanted) (s : State) (r : ℕ) → row_found w s ≡ some r → visited w s ≡ suc (used_below r s)
unfolding visited
visited-found w s r e =
    ap (λ (o : Option ℕ). used_below (rows_behind o) s) e ∙ ones-more r s.sessions.rows ∙ omega (arith, (found-live w s r e).1)

-- so at least one row is visited (rule 21.21)
pub visited-least : (w : Wanted) (s : State) (r : ℕ) → row_found w s ≡ some r → 1 ≤ visited w s
visited-least w s r e = omega (arith, visited-found w s r e)

-- where none is found, all used rows are visited (rule 21.21)
pub visited-none : (w : Wanted) (s : State) → row_found w s ≡ none → visited w s ≡ used_below row_count s
unfolding visited
visited-none w s e = ap (λ (o : Option ℕ). used_below (rows_behind o) s) e

-- NEVER MORE THAN ARE USED (rule 21.21)
pub visited-most : (w : Wanted) (s : State) → visited w s ≤ used_below row_count s
visited-most w s = go (row_found w s) refl
  where
    go : (o : Option ℕ) → row_found w s ≡ o → visited w s ≤ used_below row_count s
    go none e = omega (arith, visited-none w s e)
    go (some r) e =
        let l : r < row_count = (found-live w s r e).0 in
        let m = s.sessions.rows in
        let more : ones_in (suc r) m ≤ ones_in (suc r + (row_count - suc r)) m = ones-mono (suc r) (row_count - suc r) m in
        let same : suc r + (row_count - suc r) ≡ row_count = omega arith in
        let most : ones_in (suc r) m ≤ ones_in row_count m = rw same at more in
        omega (arith, visited-found w s r e, ones-more r m, (found-live w s r e).1)

-- which are the ones of the mask
pub used-are : (s : State) → s.sessions.rows < sixteen_bits → used_below row_count s ≡ ones s.sessions.rows
used-are s h = ones-in row_count s.sessions.rows h
