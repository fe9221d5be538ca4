-- The groups that a number is written in.
use Rattle.std.specs.Prelude.{List, [], ◌∷◌, ℕ, ◌+◌, ◌*◌, ◌^◌, ◌≤◌, ◌<◌, length}
use Rattle.laws.specs.Merge.{All}
use Rattle.wire.specs.Base128.{number_most}

-- what groups of seven bits are worth, the lowest first
unfoldable pub value_of : List ℕ → ℕ
value_of [] = 0
value_of (g ∷ gs) = g + 128 * value_of gs

-- their bytes: every group but the last with 128 added
unfoldable pub form_of : List ℕ → List ℕ
form_of [] = []
form_of (g ∷ []) = g ∷ []
form_of (g ∷ h ∷ gs) = (128 + g) ∷ form_of (h ∷ gs)

-- the groups of a number of 64 bits: one to ten, each of seven bits
pub record IsForm (gs : List ℕ) : Type 0 where
  pub some : 0 < length gs
  pub few : length gs ≤ number_most
  pub seven : All (λ (g : ℕ). g < 128) gs
  pub fits : value_of gs < 2 ^ 64
