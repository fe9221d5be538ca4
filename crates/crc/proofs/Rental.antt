-- The rental firm's rule for the CRC, by its own words, and that it gives what ours gives (rule 2.6).
-- Assumes nothing.
use Rattle.std.specs.Prelude.{◌≡◌, refl, ℕ, zero, suc, ◌+◌, ◌*◌, ◌/◌, ◌%◌, ◌<◌, length, replicate}
use Rattle.std.proofs.Common.{sym, ap, ap₂, ◌∙◌, mod-lt, zero-lt-suc, zero-add, suc-add, arith}
use mathlib.Core.List.{List, [], ◌∷◌, foldl}
use Rattle.std.specs.Int.Bits.{bit_xor, xor_zero_r, xor_shifted}
use Rattle.std.proofs.lemmas.Nat.{xor_comm}
use Rattle.crc.specs.Values.{agree}
use Rattle.crc.specs.Crc.{poly, leaving, shift, shifts, byte_step, crc_from, start, crc}
use Rattle.crc.proofs.Linear.{xor_assoc, shift-linear, shifts-linear, eight-shifts-of-byte}
use Rattle.crc.specs.Rental.{bit_in, bits_of, byte_in, rental_start, rental_crc, EachBelow}

-- ---- a bit that comes in is exclusive-ored into a shift
in-leaving : (top x bit : ℕ) → x * 2 + bit ≡ bit_xor (x * 2) bit → leaving top (x * 2 + bit) ≡ bit_xor (leaving top (x * 2)) bit
in-leaving zero x bit e = e
in-leaving (suc top) x bit e =
    ap (λ (y : ℕ). bit_xor y poly) e ∙ xor_assoc (x * 2) bit poly ∙ ap (bit_xor (x * 2)) (xor_comm bit poly) ∙ sym (xor_assoc (x * 2) poly bit)

in_is : (r bit : ℕ) → bit < 2 → bit_in r bit ≡ bit_xor (shift r) bit
unfolding bit_in shift
in_is r bit h =
    ap (λ (y : ℕ). leaving (r / 0x8000 % 2) (y + bit)) even
    ∙ in-leaving (r / 0x8000 % 2) (r % 0x8000) bit (sym (xor_shifted (r % 0x8000) 1 bit h))
    ∙ ap (λ (y : ℕ). bit_xor (leaving (r / 0x8000 % 2) y) bit) (sym even)
  where
    even : r * 2 % 0x10000 ≡ r % 0x8000 * 2
    even = omega arith

in-zero : (r : ℕ) → bit_in r 0 ≡ shift r
in-zero r = in_is r 0 (zero-lt-suc 1) ∙ xor_zero_r (shift r)

-- ---- many bits
in-linear : (ds : List ℕ) (r q : ℕ) → EachBelow 2 ds → foldl bit_in (bit_xor r q) ds ≡ bit_xor (shifts (length ds) r) (foldl bit_in q ds)
unfolding shifts
in-linear [] r q h = refl
in-linear (d ∷ ds) r q h = ap (λ (x : ℕ). foldl bit_in x ds) one ∙ in-linear ds (shift r) (bit_in q d) h.1
  where
    one : bit_in (bit_xor r q) d ≡ bit_xor (shift r) (bit_in q d)
    one =
        in_is (bit_xor r q) d h.0
        ∙ ap (λ (x : ℕ). bit_xor x d) (shift-linear r q)
        ∙ xor_assoc (shift r) (shift q) d
        ∙ ap (bit_xor (shift r)) (sym (in_is q d h.0))

zeros-in : (n r : ℕ) → foldl bit_in r (replicate n 0) ≡ shifts n r
unfolding shifts
zeros-in zero r = refl
zeros-in (suc n) r = ap (λ (x : ℕ). foldl bit_in x (replicate n 0)) (in-zero r) ∙ zeros-in n (shift r)

shifts-add : (n k r : ℕ) → shifts k (shifts n r) ≡ shifts (n + k) r
unfolding shifts
shifts-add zero k r = ap (λ (x : ℕ). shifts x r) (sym (zero-add k))
shifts-add (suc n) k r = shifts-add n k (shift r) ∙ ap (λ (x : ℕ). shifts x r) (sym (suc-add n k))

-- ---- a byte
bits_below : (b : ℕ) → EachBelow 2 (bits_of b)
bits_below b = (below (b / 128), (below (b / 64), (below (b / 32), (below (b / 16), (below (b / 8), (below (b / 4), (below (b / 2), (below b, tt))))))))
  where
    below : (x : ℕ) → x % 2 < 2
    below x = mod-lt x (zero-lt-suc 1)

-- into an empty register it comes as it is
alone : (b : ℕ) → b < 256 → byte_in 0 b ≡ b
unfolding byte_in bit_in
alone b h = agree (byte_in 0) (λ (x : ℕ). x) 256 refl b h

byte-is : (r b : ℕ) → b < 256 → byte_in r b ≡ bit_xor (shifts 8 r) b
unfolding byte_in
byte-is r b h =
    ap (λ (x : ℕ). foldl bit_in x (bits_of b)) (sym (xor_zero_r r)) ∙ in-linear (bits_of b) r 0 (bits_below b) ∙ ap (bit_xor (shifts 8 r)) (alone b h)

-- sixteen zero bits behind it make of it a step of our rule
byte_step_lem : (r b : ℕ) → b < 256 → shifts 16 (byte_in r b) ≡ byte_step (shifts 16 r) b
unfolding byte_step
byte_step_lem r b h =
    ap (shifts 16) (byte-is r b h)
    ∙ shifts-linear 16 (shifts 8 r) b
    ∙ ap₂ bit_xor (shifts-add 8 16 r ∙ sym (shifts-add 16 8 r)) (sym (shifts-add 8 8 b) ∙ ap (shifts 8) (eight-shifts-of-byte b h))
    ∙ sym (shifts-linear 8 (shifts 16 r) (b * 256))

bytes-step : (s : List ℕ) (r : ℕ) → EachBelow 256 s → shifts 16 (foldl byte_in r s) ≡ crc_from (shifts 16 r) s
unfolding crc_from
bytes-step [] r h = refl
bytes-step (b ∷ s) r h = bytes-step s (byte_in r b) h.1 ∙ ap (λ (x : ℕ). crc_from x s) (byte_step_lem r b h.0)

-- our start is what sixteen steps make of theirs
started : shifts 16 rental_start ≡ start
unfolding shifts shift
started = refl

-- THE RENTAL FIRM'S CRC IS OURS, of every list of bytes, the empty one too (rule 2.6)
pub rental-is : (s : List ℕ) → EachBelow 256 s → rental_crc s ≡ crc s
unfolding rental_crc
rental-is s h = zeros-in 16 (foldl byte_in rental_start s) ∙ bytes-step s rental_start h ∙ ap (λ (x : ℕ). crc_from x s) started
