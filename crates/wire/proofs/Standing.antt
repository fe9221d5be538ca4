-- The fields of one number stand in their message. Assumes nothing.
use Rattle.std.specs.Prelude.{◌≡◌, refl, Result, Ok, Err, Bool, true, false, cond, List, ◌∷◌, ℕ, zero, suc, ◌-◌, ◌≤◌, eqb, ltb, length}
use Rattle.std.proofs.Common.{arith, eqb-true}
use Rattle.protocol.specs.declared.Code.{Code}
use Rattle.laws.specs.Merge.{All}
use Rattle.wire.specs.declared.Field.{Field}
use Rattle.wire.proofs.Steps.{Placed, field-place}
use Rattle.wire.specs.Fields.{store_keys, field_at}
use Rattle.wire.specs.Numbered.{of_number, fields_from}
use Rattle.wire.specs.Walk.{stopped, onward, walk_in}

-- a field of number n stands in the message that ends at `end`
pub record Stands (n end : ℕ) (f : Field) : Type 0 where
  pub number : f.number ≡ n
  pub span : f.start ≤ f.next
  pub within : f.next ≤ end

-- so do several, of which there are at most `most`
pub record AllStand (n end most : ℕ) (fs : List Field) : Type 0 where
  pub few : length fs ≤ most
  pub each : All (Stands n end) fs

module _ (s : List ℕ) (end n : ℕ) where
  stand-in : (m at : ℕ) → AllStand n end (end - at) (of_number n (walk_in store_keys (λ (i : Field). 0) m s at end).items)
  unfolding walk_in onward
  stand-in zero at = record { few = omega arith; each = tt }
  stand-in (suc m) at = go (ltb at end) (field_at store_keys s at end) refl refl (λ (next : ℕ). stand-in m next)
    where
      Stood : List Field → Type 0
      Stood fs = AllStand n end (end - at) fs

      Later : Type 0
      Later = (next : ℕ) → AllStand n end (end - next) (of_number n (walk_in store_keys (λ (i : Field). 0) m s next end).items)

      one : (f : Field) (b : Bool) → eqb f.number n ≡ b → Placed at end f.start f.next → (fs : List Field) → AllStand n end (end - f.next) fs → Stood (cond b (f ∷ fs) fs)
      one f true q p fs h = record { few = omega (arith, h.few, p.ahead, p.span, p.within); each = (record { number = eqb-true f.number n q; span = p.span; within = p.within }, h.each) }
      one f false q p fs h = record { few = omega (arith, h.few, p.ahead, p.span, p.within); each = h.each }

      go : (b : Bool) (f : Result Field Code) → ltb at end ≡ b → field_at store_keys s at end ≡ f → Later
          → Stood (of_number n (cond b (onward (λ (i : Field). 0) f (λ (next : ℕ). walk_in store_keys (λ (i : Field). 0) m s next end)) (stopped 0)).items)
      go false f p e ih = record { few = omega arith; each = tt }
      go true (Err c) p e ih = record { few = omega arith; each = tt }
      go true (Ok f) p e ih = one f (eqb f.number n) refl (field-place store_keys s at end f.number f.kind f.start f.next e) _ (ih f.next)

  -- THE FIELDS OF A NUMBER STAND IN THEIR MESSAGE
  pub all-stand : (at : ℕ) → AllStand n end (end - at) (fields_from s at end n)
  all-stand at = stand-in (end - at) at

-- the next of several, and those behind it
pub stand-turn : {n end : ℕ} {fs : List Field} (f : Field) (rest : List Field) → fs ≡ f ∷ rest → All (Stands n end) fs → Stands n end f × All (Stands n end) rest
stand-turn {n} {end} f rest e h = let a : All (Stands n end) (f ∷ rest) = rw e at h in (a.0, a.1)
