-- Where a name, a free row, a free slot and an unused identifier are.
use Rattle.std.specs.Prelude.{Bool, cond, ◌&&◌, List, ℕ, zero, suc, eqb}
use Rattle.std.proofs.Math.Option.{Option, none, some}
use Rattle.laws.specs.Bits.{bit}
use Rattle.laws.specs.Find.{first}
use Rattle.laws.specs.Bytes.{same, padded}
use Rattle.protocol.specs.Numbers.{row_count, slot_count, name_size, sixteen_bits}
use Rattle.state.specs.declared.row.Wanted.TheVariants.{Id}
use Rattle.state.specs.State.{State}
use Rattle.state.specs.Soundness.{slot_at}
use Rattle.rules.specs.Session.{row_found}

-- slot k is used and holds a name: all of its name field is the same (rule 4.7)
abbrev pub holds : List ℕ → State → ℕ → Bool
holds n s k = eqb (slot_at k s).held 1 && same (slot_at k s).name (padded name_size n)

-- the slot that holds a name, committed or not (rules 4.7 and 9.5)
unfoldable pub slot_named : List ℕ → State → Option ℕ
slot_named n s = first (holds n s) slot_count

-- the lowest free row, and the lowest free slot (rule 9.7)
unfoldable pub free_row_in : State → Option ℕ
free_row_in s = first (λ (r : ℕ). eqb (bit r s.sessions.rows) 0) row_count

unfoldable pub free_slot_in : State → Option ℕ
free_slot_in s = first (λ (k : ℕ). eqb (bit k s.store.slots) 0) slot_count

-- the identifier behind another: 0 behind the last (rule 9.8)
abbrev pub after : (id : ℕ) → ℕ
after id = cond (eqb (suc id) sixteen_bits) 0 (suc id)

abbrev pub unless : Option ℕ → (id other : ℕ) → ℕ
unless none id other = id
unless (some r) id other = other

-- the first that no session has among n identifiers from `id` on; where all n are taken, the one behind them
unfoldable pub fresh_from : (n id : ℕ) → State → ℕ
fresh_from zero id s = id
fresh_from (suc n) id s = unless (row_found (Id id) s) id (fresh_from n (after id) s)

-- THE NEW IDENTIFIER: 16 sessions at most are open, so one of 17 is unused (rule 9.8)
abbrev pub fresh_id : State → ℕ
fresh_id s = fresh_from row_count s.next s
