-- A loop that stores the elements of s into d from `at` on, of whatever type. Assumes nothing.
use Rattle.std.specs.Prelude.{◌≡◌, refl, List, ℕ, ◌+◌, ◌≤◌, ◌<◌, length, get_or, set}
use Rattle.std.proofs.Common.{sym, ◌∙◌, ap, le_antisymm, add-one, arith, length-set, take_all}
use Rattle.std.proofs.lemmas.List.Edits.{sets}
use Rattle.std.proofs.Math.Seq.{paste, paste-zero, paste-suc}
use Rattle.laws.specs.Ranges.{paste-sets}

-- x is d once i of them are stored
pub record Stored {A : Type 0} (d : List A) (at : ℕ) (s : List A) (i : ℕ) (x : List A) : Type 0 where
  pub inside : i ≤ length s
  pub long : length x ≡ length d
  pub is : x ≡ paste d at s i

pub pasted : {A : Type 0} (d : List A) (at : ℕ) (s : List A) → at + length s ≤ length d → paste d at s (length s) ≡ sets d at s
pasted d at s h = paste-sets d at s (length s) h (omega arith) ∙ ap (sets d at) (take_all (length s) s (omega arith))

module _ {A : Type 0} (d : List A) (at : ℕ) (s : List A) where
  pub stored-none : Stored d at s 0 d
  stored-none = record { inside = omega arith; long = refl; is = paste-zero d at s }

  module _ (room : at + length s ≤ length d) where
    -- one turn
    pub stored_more : (i : ℕ) (v : A) (x : List A) → i < length s → get_or s i v ≡ v → Stored d at s i x → Stored d at s (i + 1) (set x (at + i) v)
    stored_more i v x l g p = record {
      inside = omega arith;
      long = length-set x (at + i) v ∙ p.long;
      is =
          ap (λ (y : List A). set y (at + i) v) p.is
          ∙ ap (λ (y : A). set (paste d at s i) (at + i) y) (sym g)
          ∙ rw add-one (paste-suc d at s i v (omega arith) l);
    }

    -- its end
    pub stored-all : (i : ℕ) (x : List A) → length s ≤ i → Stored d at s i x → x ≡ sets d at s
    stored-all i x h p = p.is ∙ ap (paste d at s) (le_antisymm p.inside h) ∙ pasted d at s room
