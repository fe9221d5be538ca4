-- Calls that go on where the one before stopped: with the records that it left, on its state, and with buffers of any lengths.
use Rattle.std.specs.Prelude.{ℕ, ◌≤◌, length, take, drop}
use mathlib.Core.List.{List, [], ◌∷◌}
use Rattle.laws.specs.Merge.{All}
use Rattle.protocol.specs.Numbers.{answer_size}
use Rattle.state.specs.State.{State}
use Rattle.tray.specs.Tray.{Done, nothing_done, Tray, tray}
use Rattle.tray.proofs.Form.{start_of}
use Rattle.tray.proofs.CutInTwo.{done_then}

-- ---- the calls
-- what a call is lent for its answers: the buffer for the responses, and the words for the results
abbrev pub Lent : Type 0
Lent = List ℕ × List ℕ

-- the records that a call left: those behind the messages that it did
abbrev pub left_by : Tray → (records : List ℕ) → List ℕ
left_by r b = drop (start_of r.done b) b

-- one call behind the other, each with what the one before left (rule 21.33)
abbrev pub going_on : List Lent → (records : List ℕ) → State → List Tray
going_on [] b s = []
going_on (l ∷ ls) b s = tray b s l.0 l.1 ∷ going_on ls (left_by (tray b s l.0 l.1) b) (tray b s l.0 l.1).state

-- what a call did, as it stands at the fronts of its buffers
abbrev pub front_of : Tray → Done
front_of r = record { results = take r.done r.results; responses = take r.len r.responses; state = r.state }

-- what all of them did
abbrev pub together : List Tray → State → Done
together [] s = nothing_done s
together (r ∷ rs) s = done_then (front_of r) (together rs r.state)

-- each call is lent 64 bytes or more for its responses
abbrev pub Room : List Lent → Type 0
Room ls = All (λ (l : Lent). answer_size ≤ length l.0) ls
