-- Hex digits of more bytes, and each way through a line. Assumes nothing.
use mathlib.Core.Path.{◌≡◌, refl, sym, ◌∙◌, ap}
use mathlib.Core.Bool.{Bool, true, false, cond}
use mathlib.Core.List.{List, [], ◌∷◌, ◌++◌}
use Prim.Native.Nat.{ℕ, ◌+◌, ◌*◌, ◌≤◌, ◌<◌}
use native.Mathlib.Numerals.{add-one}
use native.Mathlib.Omega.{arith}
use lib.Dec.{eqb}
use borrow.Author.Tests.{eq-eqb, ne_eqb}
use lib.ListN.{length, get_or, set, take, length-append}
use lib.Seq.{sets, take-suc}
use Rattle.laws.specs.Ranges.{sets-append}
use Rattle.protocol.specs.Numbers.{success, answer_size}
use Rattle.run_lines.specs.Lines.{space, line_feed, hex_of, hexes, answer_text, line_of, line_most}

-- ---- hex digits
pub hexes-length : (l : List ℕ) → length (hexes l) ≡ 2 * length l
unfolding hexes
hexes-length [] = refl
hexes-length (b ∷ l) = omega (arith, hexes-length l)

hexes-append : (a b : List ℕ) → hexes (a ++ b) ≡ hexes a ++ hexes b
unfolding hexes
hexes-append [] b = refl
hexes-append (x ∷ a) b = ap (λ (l : List ℕ). hex_of x ++ l) (hexes-append a b)

hexes-more : (s : List ℕ) (i : ℕ) → i < length s → hexes (take (i + 1) s) ≡ hexes (take i s) ++ hex_of (get_or s i 0)
unfolding hexes
hexes-more s i h = rw (add-one, take-suc s i 0 h) (hexes-append (take i s) (get_or s i 0 ∷ []))

-- the digits of one more byte
pub hexes-stored : (t s : List ℕ) (at i : ℕ) (x : List ℕ) → i < length s → length (take i s) ≡ i → x ≡ sets t at (hexes (take i s))
    → sets x (at + 2 * i) (hex_of (get_or s i 0)) ≡ sets t at (hexes (take (i + 1) s))
hexes-stored t s at i x h e q =
    let n : length (hexes (take i s)) ≡ 2 * i = omega (arith, hexes-length (take i s)) in
    ap (λ (y : List ℕ). sets y (at + 2 * i) (hex_of (get_or s i 0))) q
    ∙ ap (λ (j : ℕ). sets (sets t at (hexes (take i s))) (at + j) (hex_of (get_or s i 0))) (sym n)
    ∙ sym (sets-append (hexes (take i s)) (hex_of (get_or s i 0)) t at)
    ∙ ap (sets t at) (sym (hexes-more s i h))

-- ---- a line
line-length : (code : ℕ) (r : List ℕ) → length (line_of code r) ≡ length (answer_text code r) + 1
unfolding line_of
line-length code r = length-append (answer_text code r) (line_feed ∷ [])

pub text-fits : (code : ℕ) (r : List ℕ) → length r ≤ answer_size → length (answer_text code r) < line_most
unfolding answer_text
text-fits code r h = go (eqb code success)
  where
    go : (b : Bool) → length (hex_of code ++ cond b (space ∷ hexes r) []) < line_most
    go true = omega (arith, hexes-length r)
    go false = omega arith

-- no line is longer than line_most
pub line-fits : (code : ℕ) (r : List ℕ) → length r ≤ answer_size → length (line_of code r) ≤ line_most
line-fits code r h = omega (arith, line-length code r, text-fits code r h)

-- the text t with a code at `at` is x: all that is written of a refusal
module _ (t x r : List ℕ) (at code : ℕ) (q : x ≡ sets t at (hex_of code)) where
  pub refused-written : (code ≡ success → ⊥) → (at + 2 ≡ at + length (answer_text code r)) × (x ≡ sets t at (answer_text code r))
  unfolding answer_text
  refused-written h = simp (ne_eqb code success h) (refl, q)

  -- of a success, the space and the response r follow
  pub success-written : (y : List ℕ) (n : ℕ) → code ≡ success → length r ≡ n → y ≡ sets (set x (at + 2) space) (at + 2 + 1) (hexes r)
      → (at + 2 + 1 + 2 * n ≡ at + length (answer_text code r)) × (y ≡ sets t at (answer_text code r))
  unfolding answer_text
  success-written y n h e p =
      simp (eq-eqb code success h) (
        omega (arith, hexes-length r),
        p
            ∙ ap (λ (z : List ℕ). sets (set z (at + 2) space) (at + 2 + 1) (hexes r)) q
            ∙ ap (λ (i : ℕ). sets (set (sets t at (hex_of code)) (at + 2) space) i (hexes r)) (add-one (at + 2))
            ∙ sym (sets-append (hex_of code) (space ∷ hexes r) t at),
      )

-- the line feed behind it
pub line-written : (t x r : List ℕ) (at e code : ℕ) → e ≡ at + length (answer_text code r) → x ≡ sets t at (answer_text code r)
    → (e + 1 ≡ at + length (line_of code r)) × (set x e line_feed ≡ sets t at (line_of code r))
unfolding line_of
line-written t x r at e code p q = (
  omega (arith, line-length code r),
  ap (λ (y : List ℕ). set y e line_feed) q
      ∙ ap (λ (i : ℕ). set (sets t at (answer_text code r)) i line_feed) p
      ∙ sym (sets-append (answer_text code r) (line_feed ∷ []) t at),
)
