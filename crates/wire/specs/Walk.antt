-- A message from front to back: its fields up to the end, or up to the first fault.
use Rattle.std.specs.Prelude.{Result, Ok, Err, cond, List, [], ◌∷◌, ℕ, zero, suc, ◌-◌, eqb, ltb}
use Rattle.protocol.specs.declared.Code.{Code}
use Rattle.laws.specs.Ranges.{part}
use Rattle.wire.specs.declared.Field.{Field}
use Rattle.wire.specs.Fields.{KeyRule, field_at}

-- the fields, and the code of the fault behind them, 0 if there is none (rule 22.9)
pub record Walked : Type 0 where
  pub items : List Field
  pub fault : ℕ

-- a walk that ends here (rule 22.9)
abbrev pub stopped : ℕ → Walked
stopped f = record { items = []; fault = f }

-- a walk that goes on behind a field (rule 22.9)
abbrev pub before : Field → Walked → Walked
before i w = record { items = i ∷ w.items; fault = w.fault }

-- a field, then what is wrong inside it (0: nothing), then the walk behind it (rule 22.9)
unfoldable pub onward : (Field → ℕ) → Result Field Code → (ℕ → Walked) → Walked
onward inside (Err c) rest = stopped c.0
onward inside (Ok f) rest = cond (eqb (inside f) 0) (before f (rest f.next)) (stopped (inside f))

-- at most m fields of s from the place `at` to `end` (rules 22.1 and 22.9)
unfoldable pub walk_in : KeyRule → (Field → ℕ) → ℕ → List ℕ → ℕ → ℕ → Walked
walk_in rule inside zero s at end = stopped 0
walk_in rule inside (suc m) s at end = cond (ltb at end) (onward inside (field_at rule s at end) (λ (next : ℕ). walk_in rule inside m s next end)) (stopped 0)

-- A MESSAGE, with what is wrong inside a field said by `inside`: no field is without a byte, so there are no more fields than bytes (rule 22.9)
abbrev pub walk_with : KeyRule → (Field → ℕ) → List ℕ → ℕ → ℕ → Walked
walk_with rule inside s at end = walk_in rule inside (end - at) s at end

-- A MESSAGE whose fields are not looked into (rule 22.9)
abbrev pub walk : KeyRule → List ℕ → ℕ → ℕ → Walked
walk rule s at end = walk_with rule (λ (i : Field). 0) s at end

-- a field's value (rule 22.10)
abbrev pub bytes_at : List ℕ → Field → List ℕ
bytes_at s i = part i.start (i.next - i.start) s

-- of the fields of number n the last one's value; b if there is none (rule 22.10)
unfoldable pub last_from : List ℕ → ℕ → List ℕ → List Field → List ℕ
last_from s n b [] = b
last_from s n b (i ∷ is) = last_from s n (cond (eqb i.number n) (bytes_at s i) b) is

-- THE VALUE OF A SINGLE FIELD, no bytes if there is none (rule 22.10)
abbrev pub last : List ℕ → ℕ → List Field → List ℕ
last s n is = last_from s n [] is
