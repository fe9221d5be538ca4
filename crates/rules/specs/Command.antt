-- What a session can be asked, and what commands on a store session and on the flash session share.
use Rattle.std.specs.Prelude.{Bool, cond, ◌&&◌, ◌||◌, List, ℕ, ◌+◌, ◌%◌, max, eqb, leb, length}
use Rattle.std.proofs.lemmas.List.Edits.{sets}
use Rattle.protocol.specs.Numbers.{running, succeeded, failed, out_of_range, too_long, state_committing, state_committed, state_commit_error}
use Rattle.protocol.specs.Frame.{Reply, refused}
use Rattle.state.specs.State.{Row}
use Rattle.state.specs.Words.{flags_in, status_in, clean_in}

-- what a session is asked; the end of a job, which no message tells, is asked of the flash session (rule 17.1)
pub data Command : Type 0 where
  read : (offset count : ℕ) → Command
  write : (offset : ℕ) → List ℕ → Command
  commit : (len rest : ℕ) → Command
  stat : Command
  close : Command
  write_meta : Command
  end_job : (good : Bool) → Command

-- what a command replies, and what it leaves of the session's row and body
abbrev pub Out : Type 0 → Type 0
Out B = Reply × (Row × B)

-- a refusal leaves both as they were (rule 7.12)
abbrev pub refuse : {B : Type 0} → (code : ℕ) → Row → B → Out B
refuse code r b = (refused code, (r, b))

-- ---- Write
-- its last two checks, of n bytes at an offset into a region: offset past the length (C9), end past the capacity (C8); else what it does (rule 11.1)
unfoldable pub placed : {B : Type 0} (capacity len offset n : ℕ) → Row → B → Out B → Out B
placed capacity len offset n r b accepted = cond (leb offset len) (cond (leb (offset + n) capacity) accepted (refuse too_long r b)) (refuse out_of_range r b)

-- the region after it (rule 11.3)
abbrev pub bytes_after : (offset : ℕ) (written region : List ℕ) → List ℕ
bytes_after offset ws region = sets region offset ws

-- the length after it (rule 11.4)
abbrev pub length_after : (offset : ℕ) (written : List ℕ) (len : ℕ) → ℕ
length_after offset ws len = max len (offset + length ws)

-- ---- Commit: its length byte tells how many bytes are behind it, and is 0 (rule 12.2)
abbrev pub commit_fits : (len rest : ℕ) → Bool
commit_fits len rest = eqb len rest && eqb len 0

-- ---- SessionStat: the state bits of a session whose third word is w (rule 15.4)
unfoldable pub state_bits : (word : ℕ) → ℕ
state_bits w =
    flags_in w % 4
    + (cond (eqb (status_in w) running) state_committing 0
    + (cond (eqb (status_in w) succeeded || eqb (clean_in w) 1) state_committed 0
    + cond (eqb (status_in w) failed) state_commit_error 0))
