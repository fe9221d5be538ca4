-- A buffer that was x₀ and is x now, of which only the first n elements were written. Assumes nothing.
use Rattle.std.specs.Prelude.{◌≡◌, List, ◌++◌, ℕ, ◌+◌, ◌≤◌, length, take, drop}
use Rattle.std.proofs.Common.{sym, ◌∙◌, ap, arith, length-append, take-append-drop, take_at, drop_at, drop-drop, length-take-le}
use Rattle.std.proofs.lemmas.List.Edits.{sets, sets-eq}

module _ {A : Type 0} (x x₀ : List A) (n : ℕ) (behind : drop n x ≡ drop n x₀) where
  -- it is what was written, and behind it what was there
  pub front-then : n ≤ length x → x ≡ take n x ++ drop (length (take n x)) x₀
  front-then h =
      sym (take-append-drop n x) ∙ ap (λ (l : List A). take n x ++ l) behind ∙ ap (λ (k : ℕ). take n x ++ drop k x₀) (sym (length-take-le n x h))

  -- vs are written behind it
  module _ (vs : List A) (h : n + length vs ≤ length x) where
    split : sets x n vs ≡ (take n x ++ vs) ++ drop (n + length vs) x
    split = sets-eq vs x n h

    long : length (take n x ++ vs) ≡ n + length vs
    long = length-append (take n x) vs ∙ ap (λ (k : ℕ). k + length vs) (length-take-le n x (omega arith))

    pub front-more : take (n + length vs) (sets x n vs) ≡ take n x ++ vs
    front-more = ap (take (n + length vs)) split ∙ take_at (take n x ++ vs) (drop (n + length vs) x) (n + length vs) long

    pub behind-less : drop (n + length vs) (sets x n vs) ≡ drop (n + length vs) x₀
    behind-less =
        ap (drop (n + length vs)) split
        ∙ drop_at (take n x ++ vs) (drop (n + length vs) x) (n + length vs) long
        ∙ sym (drop-drop (length vs) n x)
        ∙ ap (drop (length vs)) behind
        ∙ drop-drop (length vs) n x₀
