-- What a session is shown of a scan.
use Rattle.std.specs.Prelude.{◌≡◌, List, ℕ, ◌+◌}
use Rattle.laws.specs.Bytes.{bytes_of}
use Rattle.laws.specs.Ranges.{part}
use Rattle.protocol.specs.Numbers.{success, open_command, read_command, session_stat_command, state_open_read, state_committed}
use Rattle.protocol.specs.Decode.{decoded}
use Rattle.protocol.specs.Frame.{stat_fields}
use Rattle.protocol.specs.declared.Request.TheVariants.{Read, SessionStat}
use Rattle.state.specs.State.{State}
use Rattle.state.specs.Words.{ident, blob}
use Rattle.state.specs.Soundness.{slot_at}
use Rattle.rules.specs.Store.{read_count}
use Rattle.rules.specs.Respond.{Effect, respond}
use Rattle.rules.proofs.Messages.{sent}
use Rattle.rules.proofs.Committed.{Scan}

-- ---- Open for reading
-- what the session with this identifier is shown: of every Read the part of the scan, of SessionStat the scan's length, open for reading and committed
pub record Shows (x : Scan) (id : ℕ) (s : State) : Type 0 where
  pub reads : (u offset count : ℕ) (m : List ℕ) → decoded m ≡ Read id offset count
      → ((respond u m s).code ≡ success) × ((respond u m s).response ≡ sent read_command (part offset (read_count count offset x.len) x.bytes))
  pub sizes : (u : ℕ) (m : List ℕ) → decoded m ≡ SessionStat id
      → ((respond u m s).code ≡ success) × ((respond u m s).response ≡ sent session_stat_command (stat_fields (state_open_read + state_committed) x.len))

-- an answer to an Open that gave a session, which is shown x
pub record Opens (x : Scan) (o : Effect) : Type 0 where
  pub id : ℕ
  pub answer : o.response ≡ sent open_command (bytes_of 2 id)
  pub shows : Shows x id o.state

-- ---- Write, Commit, and any time later an Open for reading
-- what two sessions are shown is the same: of each Read the same response, whatever the offset and the count
abbrev pub ReadAlike : (id : ℕ) (s : State) (id' : ℕ) (s' : State) → Type 0
ReadAlike id s id' s' = (u v offset count : ℕ) (a b : List ℕ) → decoded a ≡ Read id offset count → decoded b ≡ Read id' offset count
    → ((respond u a s).code ≡ success) × ((respond v b s').code ≡ success) × ((respond v b s').response ≡ (respond u a s).response)

-- the later session, what it was answered, and that it reads what the session i read before its Commit
pub record Uploaded (i : ℕ) (s : State) (o : Effect) : Type 0 where
  pub id : ℕ
  pub answer : o.response ≡ sent open_command (bytes_of 2 id)
  pub alike : ReadAlike (ident i s) s id o.state
  pub as_long : (u : ℕ) (m : List ℕ) → decoded m ≡ SessionStat id → (respond u m o.state).response ≡ sent session_stat_command (stat_fields (state_open_read + state_committed) (slot_at (blob i s) s).staged_len)
