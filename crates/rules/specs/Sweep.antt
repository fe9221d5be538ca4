-- The sweep, which an Open makes before its checks if it is due (section 18).
use Rattle.std.specs.Prelude.{Bool, not, cond, ◌&&◌, ℕ, zero, suc, ◌+◌, eqb, leb, ltb}
use Rattle.protocol.specs.Numbers.{row_count, sweep_every, session_life, running}
use Rattle.state.specs.State.{State, Row, in_row}
use Rattle.state.specs.Words.{stamp_of, status_of, in_use}
use Rattle.rules.specs.Command.{close}
use Rattle.rules.specs.Session.{on_row}

-- the session is over its time, and no job runs; the sum has no bound (rule 18.4)
abbrev pub stale : (t : ℕ) → Row → Bool
stale t r = ltb (stamp_of r + session_life) t && not (eqb (status_of r) running)

-- row r: a stale session is closed as Close does it (rule 18.5)
unfoldable pub sweep_row : (t r : ℕ) → State → State
sweep_row t r s = cond (in_use r s && stale t ((in_row r).get s)) (on_row r t close s).1 s

-- the first n rows, one after the other
unfoldable pub sweep_rows : (t n : ℕ) → State → State
sweep_rows t zero s = s
sweep_rows t (suc n) s = sweep_row t n (sweep_rows t n s)

-- the last sweep set to the clock
abbrev pub noted : (t : ℕ) → State → State
noted t s = record { sessions = s.sessions; store = s.store; flash_group = s.flash_group; next = s.next; last_sweep = t }

-- a sweep is due; the sum has no bound (rule 18.3)
abbrev pub due : (t : ℕ) → State → Bool
due t s = leb (s.last_sweep + sweep_every) t

-- THE SWEEP at the clock t (rule 18.5)
unfoldable pub swept : (t : ℕ) → State → State
swept t s = cond (due t s) (noted t (sweep_rows t row_count s)) s
