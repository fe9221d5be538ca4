-- What Stat and SessionStat show of a state.
use Rattle.std.specs.Prelude.{◌≡◌, ◌≢◌, cond, List, ℕ, ◌+◌, ltb, length, get_or}
use Rattle.laws.specs.Bytes.{little}
use Rattle.protocol.specs.Numbers.{success, slot_count}
use Rattle.protocol.specs.Decode.{fields_at}
use Rattle.state.specs.State.{State, Row, Slot, in_row}
use Rattle.state.specs.Words.{word_of, flags_in, status_in, clean_in, writes, blob, Live}
use Rattle.state.specs.Soundness.{slot_at}
use Rattle.rules.specs.Respond.{Effect}
use Rattle.rules.proofs.Excluded.{Bits, flash_size}

-- ---- the fields of the answer, behind header and CRC (rule 15.3)
abbrev pub state_shown : (response : List ℕ) → ℕ
state_shown response = little 2 fields_at response

abbrev pub size_shown : (response : List ℕ) → ℕ
size_shown response = little 4 (fields_at + 2) response

abbrev pub metadata_shown : (response : List ℕ) → ℕ
metadata_shown response = get_or response (fields_at + 6) 0

-- accepted, with this size, no metadata and no byte more (rule 15.3)
pub record ShowsSize (size : ℕ) (o : Effect) : Type 0 where
  pub accepted : o.code ≡ success
  pub size_is : size_shown o.response ≡ size
  pub no-metadata : metadata_shown o.response ≡ 0
  pub no_more : length o.response ≡ fields_at + 7

-- ---- sizes
-- the length that a store session sees: the staged one if it writes, else the committed one (rule 15.5)
abbrev pub store_size : Row → Slot → ℕ
store_size r b = cond (writes r) b.staged_len b.committed_len

-- the size of what the session of row i is on (rule 15.5)
abbrev pub session_size : ℕ → State → ℕ
session_size i s = cond (ltb (blob i s) slot_count) (store_size ((in_row i).get s) (slot_at (blob i s) s)) (flash_size (blob i s) s.flash_group)

-- ---- what is shown
-- of the session of row i: the bits of its third word, and its size (rules 15.4 and 15.5)
pub record ShowsSession (i : ℕ) (s : State) (o : Effect) : Type 0 where
  pub bits : Bits (flags_in (word_of ((in_row i).get s))) (status_in (word_of ((in_row i).get s))) (clean_in (word_of ((in_row i).get s))) (state_shown o.response)
  pub size : ShowsSize (session_size i s) o

-- of what has no session: this state exactly, and this size
pub record ShowsName (state size : ℕ) (o : Effect) : Type 0 where
  pub state-is : state_shown o.response ≡ state
  pub its-size : ShowsSize size o

-- no session is on the blob
abbrev pub NoneOn : ℕ → State → Type 0
NoneOn b s = (q : ℕ) → Live q s → blob q s ≢ b
