-- The scan that is committed under a name, and which events may replace it.
use Rattle.std.specs.Prelude.{Bool, true, false, not, ◌&&◌, List, [], ◌∷◌, ℕ, eqb, ltb}
use Rattle.std.proofs.Math.Option.{Option, none, some}
use Rattle.laws.specs.Find.{first}
use Rattle.laws.specs.Ranges.{part}
use Rattle.protocol.specs.Numbers.{slot_count, success}
use Rattle.protocol.specs.Decode.{decoded}
use Rattle.protocol.specs.declared.Blob.{Blob}
use Rattle.protocol.specs.declared.Blob.TheVariants.{Store, Flash, Base, Unknown}
use Rattle.protocol.specs.declared.Request.{Request}
use Rattle.protocol.specs.declared.Request.TheVariants.{Count, Enumerate, Open, Read, Write, Commit, Close, Delete, Stat, SessionStat, WriteMeta, Refused}
use Rattle.state.specs.State.{State}
use Rattle.state.specs.Words.{blob}
use Rattle.state.specs.Soundness.{slot_at}
use Rattle.state.specs.declared.row.Wanted.TheVariants.{Id}
use Rattle.rules.specs.Checks.{whether}
use Rattle.rules.proofs.Committed.{Scan, scan_in, same_name, has_name, committed_as}
use Rattle.rules.specs.Session.{row_found}
use Rattle.rules.specs.Respond.{respond}
use Rattle.guarantees.specs.Merging.{Event, message, job_ended}
use Rattle.guarantees.specs.FlashPromise.{next}

-- THE SCAN COMMITTED UNDER A NAME, if there is one (rule 21.10)
unfoldable pub scan_of : List ℕ → State → Option Scan
scan_of n s = whether (first (λ (k : ℕ). committed_as n (slot_at k s)) slot_count) (λ (k : ℕ). some (scan_in (slot_at k s))) none

-- ---- what may replace it
-- the session of row r is on a slot with the name n
abbrev pub on_name : List ℕ → State → (r : ℕ) → Bool
on_name n s r = ltb (blob r s) slot_count && has_name n (slot_at (blob r s) s)

-- a Delete asks for the name n
abbrev pub deletes : List ℕ → Blob → List ℕ → Bool
deletes n (Store at len) m = same_name (part at len m) n
deletes n (Flash k) m = false
deletes n Base m = false
deletes n Unknown m = false

-- the message m asks to replace the scan of n: it is a Commit of a session on that very name, or a Delete of it
abbrev pub asks_to_replace : List ℕ → Request → List ℕ → State → Bool
asks_to_replace n Count m s = false
asks_to_replace n (Enumerate index) m s = false
asks_to_replace n (Open flags blob) m s = false
asks_to_replace n (Read session offset count) m s = false
asks_to_replace n (Write session offset start) m s = false
asks_to_replace n (Commit session len rest) m s = whether (row_found (Id session) s) (on_name n s) false
asks_to_replace n (Close session) m s = false
asks_to_replace n (Delete blob) m s = deletes n blob m
asks_to_replace n (Stat blob) m s = false
asks_to_replace n (SessionStat session) m s = false
asks_to_replace n (WriteMeta session) m s = false
asks_to_replace n (Refused code) m s = false

-- the event replaces it: it asks to, and is accepted; a Commit is accepted of a session that writes only (rule 21.10)
abbrev pub replaces : List ℕ → State → Event → Bool
replaces n s (message t m) = asks_to_replace n (decoded m) m s && eqb (respond t m s).code success
replaces n s (job_ended good) = false

-- no event of a history does
abbrev pub left_alone : List ℕ → State → List Event → Bool
left_alone n s [] = true
left_alone n s (e ∷ es) = not (replaces n s e) && left_alone n (next s e) es
