-- The control block as 40 words: rows, slots, committed, 16 committed lengths, 16 staged lengths, phase, image length, hash length, next identifier, last sweep.
use Rattle.std.specs.Prelude.{Bool, cond, ◌&&◌, List, [], ◌∷◌, ◌++◌, ℕ, eqb, leb, length, get_or}
use Rattle.laws.specs.Ranges.{part}
use Rattle.protocol.specs.Numbers.{slot_count}
use Rattle.state.specs.declared.Phase.{Phase}
use Rattle.state.specs.declared.Phase.TheVariants.{Idle, Uploading, Verified}
use Rattle.state.specs.declared.Control.{Control}

-- how many words there are
abbrev pub control_size : ℕ
control_size = 40

-- where the lengths and the values behind them stand
abbrev pub committed_lens_at : ℕ
committed_lens_at = 3

abbrev pub staged_lens_at : ℕ
staged_lens_at = 19

abbrev pub phase_at : ℕ
phase_at = 35

abbrev pub image_len_at : ℕ
image_len_at = 36

abbrev pub hash_len_at : ℕ
hash_len_at = 37

abbrev pub next_at : ℕ
next_at = 38

abbrev pub last_sweep_at : ℕ
last_sweep_at = 39

-- 0 Idle, 1 Uploading, 2 Verified (rule 5.12)
abbrev pub phase_number : Phase → ℕ
phase_number Idle = 0
phase_number Uploading = 1
phase_number Verified = 2

-- of a number that is a phase's
abbrev pub phase_of : ℕ → Phase
phase_of n = cond (eqb n 0) Idle (cond (eqb n 1) Uploading Verified)

-- the words are a control block: their number is right, and the phase is one (rule 5.13)
unfoldable pub control_fits : List ℕ → Bool
control_fits w = eqb (length w) control_size && leb (get_or w phase_at 0) (phase_number Verified)

-- the control block that words are (rule 5.12)
unfoldable pub control_of : List ℕ → Control
control_of w = record {
  rows = get_or w 0 0;
  slots = get_or w 1 0;
  marks = get_or w 2 0;
  committed_len = part committed_lens_at slot_count w;
  staged_len = part staged_lens_at slot_count w;
  phase = phase_of (get_or w phase_at 0);
  image_len = get_or w image_len_at 0;
  hash_len = get_or w hash_len_at 0;
  next = get_or w next_at 0;
  last_sweep = get_or w last_sweep_at 0;
}

-- the words that a control block is (rule 5.12)
unfoldable pub words_of : Control → List ℕ
words_of c =
    c.rows ∷ c.slots ∷ c.marks ∷ (c.committed_len ++ (c.staged_len ++ (phase_number c.phase ∷ c.image_len ∷ c.hash_len ∷ c.next ∷ c.last_sweep ∷ [])))
