-- A sweep leaves the next identifier as it is. Assumes nothing.
use Rattle.std.specs.Prelude.{◌≡◌, refl, Bool, true, false, cond, ◌&&◌, ℕ, zero, suc}
use Rattle.std.proofs.Common.{◌∙◌}
use Rattle.protocol.specs.Numbers.{row_count}
use Rattle.state.specs.declared.row.Place.{Place}
use Rattle.state.specs.declared.row.Place.TheVariants.{AtSlot, AtFlash}
use Rattle.state.specs.State.{State, place_of, in_row}
use Rattle.state.specs.Words.{blob, in_use}
use Rattle.rules.specs.Command.{Command, close}
use Rattle.rules.specs.Session.{on_place, on_row}
use Rattle.rules.specs.Sweep.{stale, sweep_row, sweep_rows, swept, noted, due}

-- ---- the sweep and the next identifier
place-next : (p : Place) (r t : ℕ) (c : Command) (s : State) → (on_place p r t c s).1.next ≡ s.next
place-next (AtSlot k) r t c s = refl
place-next AtFlash r t c s = refl

row_next : (t r : ℕ) (s : State) → (sweep_row t r s).next ≡ s.next
unfolding sweep_row
row_next t r s = go (in_use r s && stale t ((in_row r).get s))
  where
    go : (y : Bool) → (cond y (on_row r t close s).1 s).next ≡ s.next
    go true = place-next (place_of (blob r s)) r t close s
    go false = refl

rows_next : (t n : ℕ) (s : State) → (sweep_rows t n s).next ≡ s.next
unfolding sweep_rows
rows_next t zero s = refl
rows_next t (suc n) s = row_next t n (sweep_rows t n s) ∙ rows_next t n s

-- A SWEEP LEAVES THE NEXT IDENTIFIER
pub sweep-next : (t : ℕ) (s : State) → (swept t s).next ≡ s.next
unfolding swept
sweep-next t s = go (due t s)
  where
    go : (y : Bool) → (cond y (noted t (sweep_rows t row_count s)) s).next ≡ s.next
    go true = rows_next t row_count s
    go false = refl
