-- The fields of one number, one after the other. Assumes nothing.
use Rattle.std.specs.Prelude.{◌≡◌, refl, Bool, true, false, cond, List, [], ◌∷◌, ℕ, ◌≤◌, eqb}
use Rattle.std.proofs.Common.{sym, ◌∙◌, ap, eq-eqb, ne_eqb}
use Rattle.protocol.specs.declared.Code.{Code}
use Rattle.laws.specs.Merge.{All}
use Rattle.wire.specs.declared.Field.{Field}
use Rattle.wire.proofs.Standing.{Stands, all-stand}
use Rattle.wire.proofs.Steps.{Here, step_end, step-fault, step-on}
use Rattle.wire.specs.Fields.{store_keys}
use Rattle.wire.specs.Walk.{Walked, walk, bytes_at, last_from, last}
use Rattle.wire_reader.proofs.WalkWays.{Faulty}
use Rattle.wire.specs.Numbered.{of_number, fields_from}

-- ---- step by step
module _ (s : List ℕ) (at end n : ℕ) where
  -- the fields that a walk finds
  abbrev found : Walked → List Field
  found w = of_number n w.items

  pub left-end : end ≤ at → fields_from s at end n ≡ []
  left-end l = ap found (step_end store_keys (λ (i : Field). 0) s at end l)

  pub left-fault : {c : Code} → Faulty s at end c → fields_from s at end n ≡ []
  left-fault {c} x = ap found (step-fault store_keys (λ (i : Field). 0) s at end c.0 x.inside x.field)

  module _ {f : Field} (x : Here store_keys s at end f.number f.kind f.start f.next) where
    step : fields_from s at end n ≡ cond (eqb f.number n) (f ∷ fields_from s f.next end n) (fields_from s f.next end n)
    step = ap found (step-on store_keys (λ (i : Field). 0) s at end f.number f.kind f.start f.next x.inside x.field refl)

    pub left-hit : f.number ≡ n → fields_from s at end n ≡ f ∷ fields_from s f.next end n
    left-hit q = step ∙ rw (eq-eqb f.number n q)

    pub left-miss : (f.number ≡ n → ⊥) → fields_from s at end n ≡ fields_from s f.next end n
    left-miss q = step ∙ rw (ne_eqb f.number n q)

-- ---- the last of them
-- what is found so far, and what is left: the last value before these fields is b
pub record Lasts (s : List ℕ) (from end wanted : ℕ) (b : List ℕ) (fs : List Field) : Type 0 where
  pub value : last s wanted (walk store_keys s from end).items ≡ last_from s wanted b fs
  pub stand : All (Stands wanted end) fs

-- fields of other numbers do not count
last-of-number : (s : List ℕ) (n : ℕ) (b : List ℕ) (fs : List Field) → last_from s n b fs ≡ last_from s n b (of_number n fs)
unfolding last_from
last-of-number s n b [] = refl
last-of-number s n b (f ∷ fs) = go (eqb f.number n) refl (λ (w : List ℕ). last-of-number s n w fs)
  where
    go : (y : Bool) → eqb f.number n ≡ y → ((w : List ℕ) → last_from s n w fs ≡ last_from s n w (of_number n fs))
        → last_from s n (cond y (bytes_at s f) b) fs ≡ last_from s n b (cond y (f ∷ of_number n fs) (of_number n fs))
    go true q ih = ih (bytes_at s f) ∙ ap (λ (y : Bool). last_from s n (cond y (bytes_at s f) b) (of_number n fs)) (sym q)
    go false q ih = ih b

module _ (s : List ℕ) (from end n : ℕ) where
  pub last-start : (fs : List Field) → fs ≡ fields_from s from end n → Lasts s from end n [] fs
  last-start fs e = record {
    value = last-of-number s n [] (walk store_keys s from end).items ∙ ap (last_from s n []) (sym e);
    stand = rw e (all-stand s end n from).each;
  }

  module _ {b : List ℕ} {fs : List Field} (h : Lasts s from end n b fs) where
    pub last-more : (f : Field) (rest : List Field) → fs ≡ f ∷ rest → Lasts s from end n (bytes_at s f) rest
    unfolding last_from
    last-more f rest e =
        let a : All (Stands n end) (f ∷ rest) = rw e at h.stand in
        record { value = h.value ∙ ap (last_from s n b) e ∙ rw (eq-eqb f.number n a.0.number); stand = a.1 }

    pub last_end : fs ≡ [] → b ≡ last s n (walk store_keys s from end).items
    unfolding last_from
    last_end e = sym (h.value ∙ ap (last_from s n b) e)
