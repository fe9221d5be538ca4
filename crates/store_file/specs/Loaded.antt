-- What reading a store file does to a state.
use Rattle.std.specs.Prelude.{Bool, true, not, cond, ◌&&◌, List, [], ◌∷◌, ℕ, suc, eqb, ltb, leb, length, replicate}
use Rattle.laws.specs.All.{all}
use Rattle.laws.specs.Bytes.{same, padded}
use Rattle.protocol.specs.Numbers.{success, not_sound, session_open, wrong_base, bad_name, repeated_name, long_data, many_blobs, row_count, slot_count, name_size, slot_size}
use Rattle.protocol.specs.Names.{base, store_name}
use Rattle.state.specs.State.{State, Slots, Slot, slot_of, in_store}
use Rattle.state.specs.Words.{fresh, blob, in_use}
use Rattle.state.specs.Soundness.{is_sound}
use Rattle.store_file.specs.Messages.{Scan, Reading, reading}

-- row r is a store session's (rule 24.2)
abbrev pub on_store : State → ℕ → Bool
on_store s r = in_use r s && ltb (blob r s) slot_count

-- some row is (rule 24.2)
unfoldable pub store_open : State → Bool
store_open s = not (all (λ (r : ℕ). not (on_store s r)) row_count)

-- every blob of a list passes a test (rule 24.5)
unfoldable pub every : (Scan → Bool) → List Scan → Bool
every p [] = true
every p (x ∷ xs) = p x && every p xs

-- no two blobs of a list have the same name (rule 24.5)
unfoldable pub different : List Scan → Bool
different [] = true
different (x ∷ xs) = every (λ (y : Scan). not (same x.name y.name)) xs && different xs

-- THE FIRST REASON against what was read, 00 if there is none (rule 24.5)
unfoldable pub reason : Reading → ℕ
reason r =
    cond (not (eqb r.fault 0)) r.fault
    (cond (not (same r.base base)) wrong_base
    (cond (not (every (λ (x : Scan). store_name x.name) r.scans)) bad_name
    (cond (not (different r.scans)) repeated_name
    (cond (not (every (λ (x : Scan). leb (length x.bytes) slot_size) r.scans)) long_data
    (cond (ltb slot_count (length r.scans)) many_blobs success)))))

-- a slot that holds a loaded blob: used and committed, zeros behind the name and the scan, nothing staged (rule 24.6)
abbrev pub slot_with : Scan → Slot
slot_with x = record {
  name = padded name_size x.name;
  committed_bytes = padded slot_size x.bytes;
  staged_bytes = replicate slot_size 0;
  held = 1;
  mark = 1;
  committed_len = length x.bytes;
  staged_len = 0;
}

-- blobs in their order, into the slots from k on (rule 24.6)
unfoldable pub filled_from : ℕ → List Scan → Slots → Slots
filled_from k [] g = g
filled_from k (x ∷ xs) g = filled_from (suc k) xs ((slot_of k).put (slot_with x) g)

-- a state whose store holds these blobs, from slot 0 on, and nothing else (rule 24.6)
unfoldable pub stored : List Scan → State → State
stored xs s = in_store.put (filled_from 0 xs fresh.store) s

-- a completion code and a state (rule 24.1)
pub record Loaded : Type 0 where
  pub code : ℕ
  pub state : State

-- a refusal, which changes nothing (rule 24.7)
abbrev pub refused : ℕ → State → Loaded
refused code s = record { code = code; state = s }

-- THE READER (rule 24.1)
unfoldable pub loaded : List ℕ → State → Loaded
loaded f s =
    cond (not (is_sound s)) (refused not_sound s)
    (cond (store_open s) (refused session_open s)
    (cond (eqb (reason (reading f)) success) (record { code = success; state = stored (reading f).scans s }) (refused (reason (reading f)) s)))
