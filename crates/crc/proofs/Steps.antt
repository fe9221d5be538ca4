-- A step by the table is a step by the rule, and the register after one byte more.
-- Assumes nothing.
use mathlib.Core.Path.{◌≡◌, sym, ap, ap₂, ◌∙◌}
use mathlib.Core.List.{List, [], ◌∷◌, foldl-append}
use Prim.Native.Nat.{ℕ, ◌+◌, ◌*◌, ◌/◌, ◌%◌, ◌<◌}
use native.Mathlib.Nat.{add-zero, mod-lt}
use native.Mathlib.Omega.{arith}
use native.Mathlib.Numerals.{add-one}
use lib.Dec.{lit<}
use lib.ListN.{length, take, get_or}
use lib.Seq.{take-suc}
use lib.Pow.{split}
use lib.Bits.{bit_xor, xor_comm, xor_zero_r, xor_block, xor_shifted}
use Rattle.crc.specs.Crc.{shifts, byte_step, crc_from}
use Rattle.crc.proofs.Linear.{shifts-linear, eight-shifts-of-byte}

-- ---- a step by the table is a step by the rule

pub table_step : (r b : ℕ) → bit_xor (r * 256 % 0x10000) (shifts 8 (bit_xor (r / 256) b * 256)) ≡ byte_step r b
unfolding byte_step
table_step r b =
    xor_comm (r * 256 % 0x10000) (shifts 8 (bit_xor (r / 256) b * 256))
    ∙ ap (bit_xor (shifts 8 (bit_xor (r / 256) b * 256))) (shl ∙ sym (eight-shifts-of-byte (r % 256) (mod-lt r (lit< tt))))
    ∙ sym (shifts-linear 8 (bit_xor (r / 256) b * 256) (r % 256))
    ∙ ap (shifts 8) parts
  where
    shl : r * 256 % 0x10000 ≡ r % 256 * 256
    shl = omega arith

    parts : bit_xor (bit_xor (r / 256) b * 256) (r % 256) ≡ bit_xor r (b * 256)
    parts =
        xor_shifted (bit_xor (r / 256) b) 8 (r % 256) (mod-lt r (lit< tt))
        ∙ ap (λ (x : ℕ). bit_xor (r / 256) b * 256 + x) (sym (xor_zero_r (r % 256)))
        ∙ sym (xor_block 8 (r / 256) b (r % 256) 0 (mod-lt r (lit< tt)) (lit< tt))
        ∙ ap₂ bit_xor (split r 8) (add-zero (b * 256))

-- ---- one byte more

pub crc-more : (r : ℕ) (s : List ℕ) (i : ℕ) → i < length s → crc_from r (take (i + 1) s) ≡ byte_step (crc_from r (take i s)) (get_or s i 0)
unfolding crc_from
crc-more r s i h = rw (add-one, take-suc s i 0) (foldl-append byte_step r (take i s) (get_or s i 0 ∷ []))
