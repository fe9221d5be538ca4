-- What a Write leaves of a slot.
use Rattle.std.specs.Prelude.{◌≡◌, ℕ, ◌+◌, max, length, take, drop}
use mathlib.Core.List.{List, ◌++◌}
use Rattle.state.specs.State.{Slot}

-- what a Write of ws at the offset leaves: of the region only the addressed bytes change (rule 11.3), the length is the greater of itself and the end (rule 11.4), and
-- what is committed stays
pub record Written (offset : ℕ) (ws : List ℕ) (b d : Slot) : Type 0 where
  pub region : d.staged_bytes ≡ take offset b.staged_bytes ++ ws ++ drop (offset + length ws) b.staged_bytes
  pub as_long : d.staged_len ≡ max b.staged_len (offset + length ws)
  pub committed-kept : (d.committed_bytes ≡ b.committed_bytes) × (d.committed_len ≡ b.committed_len) × (d.mark ≡ b.mark)
  pub name-kept : (d.name ≡ b.name) × (d.held ≡ b.held)
