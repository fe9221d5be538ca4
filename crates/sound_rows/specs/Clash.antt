-- Places in use that do not clash.
use Rattle.std.specs.Prelude.{Bool, not, ◌&&◌, ℕ, eqb}
use Rattle.laws.specs.Bits.{bit}

-- i and j are not in use both, or do not clash; a mask says which places are in use
abbrev pub apart_by : (used : ℕ) → (ℕ → ℕ → Bool) → (i j : ℕ) → Bool
apart_by used clash i j = not (eqb (bit i used) 1 && (eqb (bit j used) 1 && clash i j))
