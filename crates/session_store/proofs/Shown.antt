-- What a Read shows: the same bytes, in the session's region and in the whole lent slice. Assumes nothing.
use mathlib.Core.Path.{◌≡◌, sym, ◌∙◌, ap}
use mathlib.Core.Bool.{Bool, true, false, cond}
use mathlib.Core.List.{List}
use Prim.Native.Nat.{ℕ, ◌+◌, ◌*◌, ◌-◌, ◌≤◌, ◌<◌, min}
use native.Mathlib.Omega.{arith}
use native.Mathlib.Decide.{dec_lt}
use lib.ListN.{length}
use Rattle.laws.specs.Ranges.{part, block, part-part, length_part}
use Rattle.protocol.specs.Numbers.{slot_count, slot_size, read_most}
use Rattle.rules.specs.Store.{read_count}
use Rattle.protocol.proofs.Sizes.{slot-size}

-- of a session of slot k that writes or not, and sees len bytes: n bytes from `from` on
pub record Shown (k len from n : ℕ) (writing : Bool) (committed staged : List ℕ) : Type 0 where
  pub most : n ≤ read_most
  pub in-committed : k * 4096 + from + n ≤ length committed
  pub in-staged : k * 4096 + from + n ≤ length staged
  pub long : length (part (k * 4096 + from) n (cond writing staged committed)) ≡ n

pub shown : (k requested offset len x y from n : ℕ) (writing : Bool) (committed staged : List ℕ) → k < slot_count → length committed ≡ slot_count * slot_size → length staged ≡ slot_count * slot_size
    → len ≡ cond writing x y → y ≤ slot_size → x ≤ slot_size → n ≡ read_count requested offset len → from ≡ min offset len → Shown k len from n writing committed staged
shown k requested offset len x y from n writing committed staged h hc hg e yl xl pn pf =
    let l : len ≤ slot_size = fits writing e in
    let a : k * 4096 + from + n ≤ length committed = omega (arith, slot-size) in
    let b : k * 4096 + from + n ≤ length staged = omega (arith, slot-size) in
    record { most = omega arith; in-committed = a; in-staged = b; long = either writing a b }
  where
    fits : (w : Bool) → len ≡ cond w x y → len ≤ slot_size
    fits true p = omega arith
    fits false p = omega arith

    either : (w : Bool) → k * 4096 + from + n ≤ length committed → k * 4096 + from + n ≤ length staged → length (part (k * 4096 + from) n (cond w staged committed)) ≡ n
    either true p q = length_part (k * 4096 + from) n staged q
    either false p q = length_part (k * 4096 + from) n committed p

-- a part of region k is a part of the whole; from the end on both are empty
in-region : (k offset len from n : ℕ) (l : List ℕ) → from ≡ min offset len → n ≤ len - offset → len ≤ slot_size → part offset n ((block slot_size k).get l) ≡ part (k * 4096 + from) n l
in-region k offset len from n l p q h = go (dec_lt len offset)
  where
    go : Dec (len < offset) → part offset n ((block slot_size k).get l) ≡ part (k * 4096 + from) n l
    go (yes z) = let y : n ≡ 0 = omega arith in rw y
    go (no z) =
        let y : from ≡ offset = omega arith in
        part-part (k * slot_size) slot_size offset n l (omega arith) ∙ ap (λ (m : ℕ). part (k * m + offset) n l) slot-size ∙ ap (λ (m : ℕ). part (k * 4096 + m) n l) (sym y)

-- the part that is shown is what the session sees (rules 10.2 to 10.4)
pub seen : (writing : Bool) (k requested offset len from n x y : ℕ) (committed staged : List ℕ) → len ≡ cond writing x y → y ≤ slot_size → x ≤
    slot_size → n ≡ read_count requested offset len → from ≡ min offset len
    → part (k * 4096 + from) n (cond writing staged committed) ≡ part offset (read_count requested offset (cond writing x y)) (cond writing
    ((block slot_size k).get staged) ((block slot_size k).get committed))
seen writing k requested offset len from n x y committed staged e yl xl pn pf = go writing e
  where
    go : (w : Bool) → len ≡ cond w x y → part (k * 4096 + from) n (cond w staged committed) ≡ part offset (read_count requested offset (cond w x y))
        (cond w ((block slot_size k).get staged) ((block slot_size k).get committed))
    go true p = sym (in-region k offset len from n staged pf (omega arith) (omega arith)) ∙ ap (λ (m : ℕ). part offset m ((block slot_size k).get staged)) (pn ∙ ap (read_count requested offset) p)
    go false p = sym (in-region k offset len from n committed pf (omega arith) (omega arith)) ∙ ap (λ (m : ℕ). part offset m ((block slot_size k).get
        committed)) (pn ∙ ap (read_count requested offset) p)
