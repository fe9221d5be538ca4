-- The flash promise in words of events: what is open, which job runs, and whether the image is verified since it was last opened.
use Rattle.std.proofs.Math.Path.{◌≡◌}
use Rattle.std.specs.Prelude.{Bool, not, cond, ◌&&◌, List, [], ◌∷◌, ◌++◌, ℕ}
use Rattle.std.proofs.Math.Bool.{true, false}
use Rattle.std.proofs.Math.Option.{Option, none, some}
use Rattle.std.proofs.Math.Dec.{eqb}
use Rattle.laws.specs.Find.{is_some}
use Rattle.protocol.specs.Numbers.{success, running}
use Rattle.protocol.specs.Names.{flash_number}
use Rattle.protocol.specs.Decode.{decoded}
use Rattle.protocol.specs.declared.FlashKind.{FlashKind}
use Rattle.protocol.specs.declared.FlashKind.TheVariants.{Image, Hash, Verify, Update, Cleanup}
use Rattle.protocol.specs.declared.Blob.TheVariants.{Store, Flash, Base, Unknown}
use Rattle.protocol.specs.declared.Request.{Request}
use Rattle.protocol.specs.declared.Request.TheVariants.{Count, Enumerate, Open, Read, Write, Commit, Close, Delete, Stat, SessionStat, WriteMeta, Refused}
use Rattle.state.specs.State.{State, in_row}
use Rattle.state.specs.Words.{status_of}
use Rattle.state.specs.declared.row.Wanted.TheVariants.{OnBlob}
use Rattle.rules.specs.Session.{row_found}
use Rattle.rules.specs.Respond.{respond}
use Rattle.guarantees.specs.Merging.{Event, message, job_ended, effect_on}

-- ---- histories
-- the state after an event, and after a history
abbrev pub next : State → Event → State
next s e = (effect_on e s).state

-- the state after a history
abbrev pub run : State → List Event → State
run s [] = s
run s (e ∷ es) = run (next s e) es

-- the job status of a session on a flash name, 0 without one
abbrev pub status_at : Option ℕ → State → ℕ
status_at none s = 0
status_at (some r) s = status_of ((in_row r).get s)

-- a session is open on the flash name
unfoldable pub is_open : FlashKind → State → Bool
is_open k s = is_some (row_found (OnBlob (flash_number k)) s)

-- the job status of that session
unfoldable pub job_state : FlashKind → State → ℕ
job_state k s = status_at (row_found (OnBlob (flash_number k)) s) s

-- the event opens the image: an Open of it that succeeds
abbrev pub asks_image : Request → Bool
asks_image Count = false
asks_image (Enumerate i) = false
asks_image (Open f (Store at len)) = false
asks_image (Open f (Flash Image)) = true
asks_image (Open f (Flash Hash)) = false
asks_image (Open f (Flash Verify)) = false
asks_image (Open f (Flash Update)) = false
asks_image (Open f (Flash Cleanup)) = false
asks_image (Open f Base) = false
asks_image (Open f Unknown) = false
asks_image (Read s o n) = false
asks_image (Write s o n) = false
asks_image (Commit s o n) = false
asks_image (Close s) = false
asks_image (Delete b) = false
asks_image (Stat b) = false
asks_image (SessionStat s) = false
asks_image (WriteMeta s) = false
asks_image (Refused c) = false

-- it asks for it, and is answered 00
abbrev pub opens_image : State → Event → Bool
opens_image s (message t m) = asks_image (decoded m) && eqb (respond t m s).code success
opens_image s (job_ended good) = false

-- the event verifies the image: a good outcome while a verify job runs
abbrev pub verifies_image : State → Event → Bool
verifies_image s (message t m) = false
verifies_image s (job_ended true) = eqb (job_state Verify s) running
verifies_image s (job_ended false) = false

-- the event starts an update job: it runs after the event, and did not before
abbrev pub starts_update : State → Event → Bool
starts_update s e = not (eqb (job_state Update s) running) && eqb (job_state Update (next s e)) running

-- whether the image was verified since it was last opened, carried along a history: opened, no; verified, yes; else as before
abbrev pub watch : Bool → State → Event → Bool
watch v s e = cond (opens_image s e) false (cond (verifies_image s e) true v)

-- along the whole history
abbrev pub verified_since : Bool → State → List Event → Bool
verified_since v s [] = v
verified_since v s (e ∷ es) = verified_since (watch v s e) (next s e) es

-- ---- the same, by a place in the history
-- no event of the history opens the image
abbrev pub NeverOpens : State → List Event → Type 0
NeverOpens s [] = Unit {0}
NeverOpens s (e ∷ es) = (opens_image s e ≡ false) × NeverOpens (next s e) es

-- the history has an event that verifies the image, and none after it opens the image
pub record VerifiedIn (s : State) (es : List Event) : Type 0 where
  pub earlier : List Event
  pub event : Event
  pub later : List Event
  pub is-history : es ≡ earlier ++ (event ∷ later)
  pub verifies : verifies_image (run s earlier) event ≡ true
  pub not_opened : NeverOpens (next (run s earlier) event) later
