-- The record that `record_at` found. Assumes nothing.
use Rattle.std.specs.Prelude.{◌≡◌, refl, Bool, true, false, cond, List, ℕ, ◌+◌, ◌≤◌, ◌<◌, leb, length, take, drop}
use Rattle.std.proofs.Common.{sym, ◌∙◌, ap, ap₂, arith, leb-true, length-drop, drop_of_length-le, drop-drop}
use Rattle.laws.specs.Ranges.{part}
use Rattle.records.specs.declared.Record.{Record}
use Rattle.records.specs.declared.Record.TheVariants.{Whole, Cut, End}
use Rattle.records.specs.Records.{prefix_size, clock_of, message_of, length_of, size_of, is_whole, record_at}

-- it is whole: where its parts stand, in the bytes from the place `at` on
pub record Found (s : List ℕ) (at clock start len next : ℕ) : Type 0 where
  pub whole : is_whole (drop at s) ≡ true
  pub clock-is : clock ≡ clock_of (drop at s)
  pub start_is : start ≡ at + prefix_size
  pub len_is : len ≡ length_of (drop at s)
  pub next-is : next ≡ at + size_of (drop at s)

pub found : (s : List ℕ) (at clock start len next : ℕ) → Whole clock start len next ≡ record_at s at → Found s at clock start len next
unfolding record_at
found s at clock start len next e = go (leb (length s) at) (is_whole (drop at s)) refl e
  where
    go : (x y : Bool) → is_whole (drop at s) ≡ y
        → Whole clock start len next ≡ cond x End (cond y (Whole (clock_of (drop at s)) (at + prefix_size) (length_of (drop at s)) (at + size_of (drop at s))) Cut)
        → Found s at clock start len next
    go true y q e = absurd (let z : ◌≡◌ {A = ℕ} 0 1 = cc in omega arith)
    go false false q e = absurd (let z : ◌≡◌ {A = ℕ} 0 1 = cc in omega arith)
    go false true q e = record { whole = q; clock-is = cc; start_is = cc; len_is = cc; next-is = cc }

-- it and the next record's place lie in the buffer
pub found_in : {s : List ℕ} {at clock start len next : ℕ} → Found s at clock start len next → (start + len ≤ length s) × (next ≤ length s) × (at < next)
found_in {s} {at} f =
    let h = leb-true (size_of (drop at s)) (length (drop at s)) f.whole in
    let e = length-drop at s in
    let p = f.start_is in
    let q = f.len_is in
    let r = f.next-is in
    (omega arith, omega arith, omega arith)

pub found-message : {s : List ℕ} {at clock start len next : ℕ} → Found s at clock start len next → part start len s ≡ message_of (drop at s)
found-message {s} {at} f =
    ap₂ (λ (i n : ℕ). take n (drop i s)) f.start_is f.len_is ∙ ap (take (length_of (drop at s))) (sym (drop-drop prefix_size at s))

found-cut : (s : List ℕ) (at : ℕ) → Cut ≡ record_at s at → is_whole (drop at s) ≡ false
unfolding record_at
found-cut s at e = go (leb (length s) at) (is_whole (drop at s)) refl e
  where
    go : (x y : Bool) → is_whole (drop at s) ≡ y
        → Cut ≡ cond x End (cond y (Whole (clock_of (drop at s)) (at + prefix_size) (length_of (drop at s)) (at + size_of (drop at s))) Cut) → is_whole (drop at s) ≡ false
    go true y q e = absurd (let z : ◌≡◌ {A = ℕ} 0 1 = cc in omega arith)
    go false true q e = absurd (let z : ◌≡◌ {A = ℕ} 0 1 = cc in omega arith)
    go false false q e = q

found-end : (s : List ℕ) (at : ℕ) → End ≡ record_at s at → is_whole (drop at s) ≡ false
unfolding record_at
found-end s at e = go (leb (length s) at) refl (is_whole (drop at s)) refl e
  where
    go : (x : Bool) → leb (length s) at ≡ x → (y : Bool) → is_whole (drop at s) ≡ y
        → End ≡ cond x End (cond y (Whole (clock_of (drop at s)) (at + prefix_size) (length_of (drop at s)) (at + size_of (drop at s))) Cut) → is_whole (drop at s) ≡ false
    go true p y q e = rw (drop_of_length-le s {i = at} (leb-true (length s) at p))
    go false p true q e = absurd (let z : ◌≡◌ {A = ℕ} 0 1 = cc in omega arith)
    go false p false q e = q

-- it is no whole one
pub found_none : (s : List ℕ) (at : ℕ) (r : Record) → r ≡ record_at s at → ((clock start len next : ℕ) → r ≡ Whole clock start len next → ⊥) → is_whole (drop at s) ≡ false
found_none s at (Whole clock start len next) e h = absurd (h clock start len next refl)
found_none s at Cut e h = found-cut s at e
found_none s at End e h = found-end s at e
