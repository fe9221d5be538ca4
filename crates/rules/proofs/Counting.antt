-- Count, as code finds it: from the mask of committed slots. Assumes nothing.
use Rattle.std.specs.Prelude.{◌≡◌, refl, List, ℕ, zero, suc, ◌+◌, ◌<◌, eqb, length}
use Rattle.std.proofs.Common.{sym, ◌∙◌, ap, ap₂, arith, length-append}
use Rattle.std.specs.Int.Count.{ones, ones_in}
use Rattle.laws.specs.Bits.{bit, bit-lt}
use Rattle.laws.specs.Bytes.{text}
use Rattle.laws.specs.Masks.{ones-more, ones-in}
use Rattle.protocol.specs.Numbers.{slot_count, sixteen_bits}
use Rattle.state.specs.State.{State}
use Rattle.state.specs.Soundness.{slot_at}
use Rattle.rules.specs.Listing.{only, committed_names, flash_names, listed, count}
use Rattle.rules.specs.Counting.{flash_count}

only-length : (b : ℕ) (n : List ℕ) → b < 2 → length (only (eqb b 1) n) ≡ b
only-length zero n h = refl
only-length (suc zero) n h = refl
only-length (suc (suc b)) n h = absurd (omega arith)

none_in : (m : ℕ) → 0 ≡ ones_in 0 m
unfolding ones_in
none_in m = refl

pub committed-count : (n : ℕ) (s : State) → length (committed_names n s) ≡ ones_in n s.store.marks
unfolding committed_names
committed-count zero s = none_in s.store.marks
committed-count (suc n) s =
    length-append (committed_names n s) (only (eqb (slot_at n s).mark 1) (text (slot_at n s).name))
    ∙ ap₂ (λ (a b : ℕ). a + b) (committed-count n s) (only-length (bit n s.store.marks) (text (slot_at n s).name) (bit-lt n s.store.marks))
    ∙ sym (ones-more n s.store.marks)

-- COUNT, FROM THE MASK OF COMMITTED SLOTS
pub count-is : (s : State) → s.store.marks < sixteen_bits → count s ≡ suc (ones s.store.marks + flash_count s.flash_group.phase)
unfolding listed
count-is s h =
    ap suc (length-append (committed_names slot_count s) (flash_names s.flash_group.phase)
    ∙ ap (λ (n : ℕ). n + flash_count s.flash_group.phase) (committed-count slot_count s ∙ ones-in slot_count s.store.marks h))
