-- Laws of parts of lists, of a name field and of a slot, as the test reads them. Assumes nothing.
use mathlib.Core.Path.{◌≡◌, refl, sym, ◌∙◌, ap}
use mathlib.Core.Bool.{Bool, true, false, ◌&&◌, true≢false}
use mathlib.Core.List.{List, ◌++◌}
use Prim.Native.Nat.{ℕ, ◌+◌, ◌*◌, ◌-◌, ◌≤◌}
use native.Mathlib.Nat.{suc-mul}
use native.Mathlib.Numerals.{add-one}
use native.Mathlib.Omega.{arith}
use lib.Dec.{eqb}
use lib.ListN.{length, take, drop, replicate, length-drop, take-append-drop}
use lib.Seq.{take_all, length-take-le, drop_at, take-add, drop-drop}
use Rattle.laws.specs.All.{and-true}
use Rattle.laws.specs.Bytes.{zeros, zeros-true, zeros-append, replicate-zeros, same, eq-same, ne_same, padded, padded-is, first_zero}
use Rattle.laws.specs.Ranges.{part, lent-part}
use Rattle.protocol.specs.Numbers.{name_size, slot_size}
use Rattle.protocol.specs.Names.{store_name, store_field}
use Rattle.state.specs.State.{Slot}
use Rattle.state.specs.Soundness.{used_slot}

-- a part that is lent
pub ruleset parts = (lent-part)

-- ---- a region by blocks of 1,024 bytes: the first j from a place on are zero
unfoldable pub blocks_zero : ℕ → List ℕ → ℕ → Bool
blocks_zero at l j = zeros (part at (j * 1024) l)

pub blocks_start : (at : ℕ) (l : List ℕ) → true ≡ blocks_zero at l 0
unfolding blocks_zero
blocks_start at l = sym (replicate-zeros 0)

pub blocks_more : (at : ℕ) (l : List ℕ) (j : ℕ) (r q : Bool) → r ≡ blocks_zero at l j → q ≡ zeros (part (at + j * 1024) 1024 l) → r && q ≡ blocks_zero at l (j + 1)
unfolding blocks_zero
blocks_more at l j r q e f =
    rw (e, f, add-one, suc-mul, take-add (j * 1024) 1024 (drop at l), zeros-append, drop-drop (j * 1024) at l)

pub blocks_end : (at : ℕ) (l : List ℕ) (j : ℕ) (r : Bool) → r ≡ blocks_zero at l j → j ≡ 4 → r ≡ zeros (part at slot_size l)
unfolding blocks_zero slot_size
blocks_end at l j r e p = rw (e, p)

-- ---- a name field: the text, then zeros
pad-zeros : (f : List ℕ) (n : ℕ) → length f ≡ name_size → n ≤ length f → zeros (drop n f) ≡ same f (padded name_size (take n f))
pad-zeros f n l h = go (zeros (drop n f)) refl
  where
    short : length (take n f) ≡ n
    short = length-take-le n f h

    left : length (drop n f) ≡ name_size - n
    left = length-drop n f ∙ ap (λ (k : ℕ). k - n) l

    pads : padded name_size (take n f) ≡ take n f ++ replicate (name_size - n) 0
    pads = padded-is name_size (take n f) (omega (arith, short)) ∙ ap (λ (k : ℕ). take n f ++ replicate (name_size - k) 0) short

    go : (y : Bool) → zeros (drop n f) ≡ y → y ≡ same f (padded name_size (take n f))
    go true e = sym (eq-same f (padded name_size (take n f)) (sym (take-append-drop n f) ∙ ap (λ (k : List ℕ). take n f ++ k) (zeros-true (drop n f) (name_size - n) left e) ∙ sym pads))
    go false e =
        sym (ne_same f (padded name_size (take n f)) (λ (q : f ≡ padded name_size (take n f)).
        true≢false (sym (ap zeros (ap (drop n) (q ∙ pads) ∙ drop_at (take n f) (replicate (name_size - n) 0) n short) ∙ replicate-zeros (name_size - n)) ∙ e)))

pub field_is : (f : List ℕ) (n : ℕ) (a b : Bool) → length f ≡ name_size → n ≡ first_zero f → n ≤ length f
    → a ≡ store_name (take n f) → b ≡ zeros (take (length f - n) (drop n f)) → a && b ≡ store_field f
unfolding store_field
field_is f n a b l p h u v =
    let e : take (length f - n) (drop n f) ≡ drop n f = take_all (length f - n) (drop n f) (omega (arith, length-drop n f)) in
    rw (u, v, e, ← p, pad-zeros f n l h)

-- ---- a committed slot with nothing staged is right with a writer or without
pub any-writer : (x : Bool) (b : Slot) (w : Bool) → x ≡ used_slot b true → eqb b.mark 1 && eqb b.staged_len 0 ≡ true → x ≡ used_slot b w
unfolding used_slot
any-writer x b w e h = let p = and-true (eqb b.mark 1) (eqb b.staged_len 0) h in rw (e, p.0, p.1)
