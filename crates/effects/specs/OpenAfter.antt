-- What an accepted Open for writing of a held name stages.
use Rattle.std.specs.Prelude.{◌≡◌, ℕ}
use Rattle.state.specs.State.{State, in_row}
use Rattle.state.specs.Words.{clean_of, blob, Live}
use Rattle.state.specs.Soundness.{slot_at}

-- ---- a held name opened for writing
-- what is committed in slot k of x is staged in it in y, and the session on it is clean (rule 9.11)
pub record Staged (k : ℕ) (x y : State) : Type 0 where
  pub bytes : (slot_at k y).staged_bytes ≡ (slot_at k x).committed_bytes
  pub as_long : (slot_at k y).staged_len ≡ (slot_at k x).committed_len
  pub row : ℕ
  pub is_live : Live row y
  pub on-it : blob row y ≡ k
  pub is-clean : clean_of ((in_row row).get y) ≡ 1
