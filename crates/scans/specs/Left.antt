-- What is left of a name after it was deleted.
use Rattle.std.specs.Prelude.{◌≡◌, ◌≢◌, List, ℕ}
use Rattle.std.proofs.Math.Bool.{true}
use Rattle.std.proofs.Math.Option.{some}
use Rattle.laws.specs.Ranges.{part}
use Rattle.protocol.specs.Numbers.{not_found, read_only}
use Rattle.protocol.specs.Decode.{decoded}
use Rattle.protocol.specs.declared.Blob.TheVariants.{Store}
use Rattle.protocol.specs.declared.Request.TheVariants.{Open}
use Rattle.state.specs.State.{State}
use Rattle.state.specs.Words.{free_slot}
use Rattle.state.specs.Soundness.{slot_at}
use Rattle.rules.specs.Lookup.{slot_named}
use Rattle.rules.specs.Respond.{respond}
use Rattle.rules.proofs.Committed.{same_name}

-- ---- Delete
-- what is left of the name n after it was deleted, in the state y that was s
pub record Gone (n : List ℕ) (s y : State) : Type 0 where
  -- the slot that had it is zero in all its parts, and every other is as it was
  pub slot : ℕ
  pub had : slot_named n s ≡ some slot
  pub zero : slot_at slot y ≡ free_slot
  pub others : (k : ℕ) → k ≢ slot → slot_at k y ≡ slot_at k s
  -- so are the sessions, the flash and the two values that no session has
  pub sessions-kept : y.sessions ≡ s.sessions
  pub flash-kept : y.flash_group ≡ s.flash_group
  pub next-kept : y.next ≡ s.next
  pub sweep-kept : y.last_sweep ≡ s.last_sweep
  -- no Open for reading finds it, whenever it comes
  pub is_not_found : (t at len : ℕ) (m : List ℕ) → decoded m ≡ Open read_only (Store at len) → same_name (part at len m) n ≡ true → (respond t m y).code ≡ not_found
