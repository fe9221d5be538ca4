-- The bytes that a run left, moved to the front of their buffer, and the end of the input. Assumes nothing.
use Rattle.std.specs.Prelude.{◌≡◌, refl, cond, List, [], ◌∷◌, ◌++◌, ℕ, ◌+◌, ◌≤◌, ◌<◌, ltb, length, get_or, set, take, drop}
use Rattle.std.proofs.Common.{sym, ◌∙◌, ap, zero-add, add-one, arith, lt-ltb, length-drop, drop_of_length-le, get_or-drop, take_all}
use Rattle.std.proofs.Math.Seq.{paste, paste-suc}
use Rattle.std.proofs.lemmas.List.Edits.{drop-paste}
use Rattle.protocol.specs.Frame.{laid}
use Rattle.run_lines.specs.Lines.{cut_line}
use Rattle.run_output.specs.Run.{end_of}

pub cut-is : (b : List ℕ) → end_of b ≡ cond (ltb 0 (length b)) cut_line []
cut-is [] = refl
cut-is (x ∷ b) = rw (lt-ltb 0 (length (x ∷ b)) (omega arith))

-- nothing is left
pub none_kept : (b : List ℕ) (from : ℕ) → length b ≤ from → (0 ≡ length (drop from b)) × (b ≡ laid (drop from b) b)
none_kept b from h = rw (drop_of_length-le b {i = from} h) (refl, refl)

-- x is the buffer b once i bytes of those from `from` on stand at its front
module _ (b : List ℕ) (from i : ℕ) (x : List ℕ) (h : i ≤ length (drop from b)) (e : x ≡ paste b 0 (drop from b) i) where
  -- the next one is where it was
  still-there : get_or x (from + i) 0 ≡ get_or (drop from b) i 0
  still-there =
      let p : from + i ≡ 0 + i + from = omega arith in
      ap (λ (y : List ℕ). get_or y (from + i) 0) e
      ∙ ap (λ (k : ℕ). get_or (paste b 0 (drop from b) i) k 0) p
      ∙ sym (get_or-drop (0 + i) (paste b 0 (drop from b) i) from 0)
      ∙ ap (λ (y : List ℕ). get_or y from 0) (drop-paste b 0 (drop from b) i (omega arith) h)
      ∙ get_or-drop (0 + i) b from 0
      ∙ ap (λ (k : ℕ). get_or b k 0) (sym p)
      ∙ sym (get_or-drop from b i 0)

  pub one-moved : i < length (drop from b) → set x i (get_or x (from + i) 0) ≡ paste b 0 (drop from b) (i + 1)
  one-moved q =
      ap (set x i) still-there
      ∙ ap (λ (y : List ℕ). set y i (get_or (drop from b) i 0)) e
      ∙ ap (λ (k : ℕ). set (paste b 0 (drop from b) i) k (get_or (drop from b) i 0)) (sym (zero-add i))
      ∙ rw add-one (paste-suc b 0 (drop from b) i 0 (omega (arith, length-drop from b)) q)

  pub all_moved : i ≡ length (drop from b) → x ≡ laid (drop from b) b
  all_moved q =
      e
      ∙ ap (λ (k : ℕ). take k (drop from b) ++ drop (0 + k) b) q
      ∙ ap (λ (k : ℕ). take (length (drop from b)) (drop from b) ++ drop k b) (zero-add (length (drop from b)))
      ∙ ap (λ (l : List ℕ). l ++ drop (length (drop from b)) b) (take_all (length (drop from b)) (drop from b) (omega arith))
