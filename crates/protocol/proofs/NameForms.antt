-- Names, spelled out: which texts have the form of a name, and which bytes are letters or digits. Assumes nothing.
use Rattle.std.specs.Prelude.{◌≡◌, refl, ◌≢◌, Bool, true, false, ◌&&◌, ◌||◌, List, [], ◌∷◌, ◌++◌, ℕ, ◌+◌, ◌<◌, eqb, leb, length, get_or}
use Rattle.std.proofs.Common.{sym, true≢false, eq-eqb, length-append}
use Rattle.laws.specs.All.{all, all-at}
use Rattle.laws.specs.Bytes.{first_zero, zero-after}
use Rattle.protocol.specs.Names.{alnum, name_form}

-- ---- the form of a name
both_true : (y : Bool) → y && true ≡ y
both_true true = refl
both_true false = refl

-- A TEXT WITHOUT NUL, WITH A NUL BEHIND IT, IS A NAME EXACTLY IF IT HAS 1 TO 31 BYTES, whatever they are (rules 4.1 and 4.2)
pub form-is : (n : List ℕ) → ((i : ℕ) → i < length n → get_or n i 0 ≢ 0) → name_form (n ++ (0 ∷ [])) ≡ leb 1 (length n) && leb (length n) 31
unfolding name_form first_zero
form-is n h =
    let e : first_zero (n ++ (0 ∷ [])) ≡ length n = zero-after n (0 ∷ []) h refl in
    let l : length n + 1 ≡ length (n ++ (0 ∷ [])) = sym (length-append n (0 ∷ [])) in
    rw (e, eq-eqb (length n + 1) (length (n ++ (0 ∷ []))) l) (both_true (leb 1 (length n) && leb (length n) 31))

-- ---- letters and digits
-- 0 to 9, A to Z, a to z, one by one (rule 4.3)
abbrev pub characters : List ℕ
characters =
    0x30 ∷ 0x31 ∷ 0x32 ∷ 0x33 ∷ 0x34 ∷ 0x35 ∷ 0x36 ∷ 0x37 ∷ 0x38 ∷ 0x39
    ∷ 0x41 ∷ 0x42 ∷ 0x43 ∷ 0x44 ∷ 0x45 ∷ 0x46 ∷ 0x47 ∷ 0x48 ∷ 0x49 ∷ 0x4A ∷ 0x4B ∷ 0x4C ∷ 0x4D
    ∷ 0x4E ∷ 0x4F ∷ 0x50 ∷ 0x51 ∷ 0x52 ∷ 0x53 ∷ 0x54 ∷ 0x55 ∷ 0x56 ∷ 0x57 ∷ 0x58 ∷ 0x59 ∷ 0x5A
    ∷ 0x61 ∷ 0x62 ∷ 0x63 ∷ 0x64 ∷ 0x65 ∷ 0x66 ∷ 0x67 ∷ 0x68 ∷ 0x69 ∷ 0x6A ∷ 0x6B ∷ 0x6C ∷ 0x6D
    ∷ 0x6E ∷ 0x6F ∷ 0x70 ∷ 0x71 ∷ 0x72 ∷ 0x73 ∷ 0x74 ∷ 0x75 ∷ 0x76 ∷ 0x77 ∷ 0x78 ∷ 0x79 ∷ 0x7A ∷ []

-- the number is one of a list
abbrev pub one_of : ℕ → List ℕ → Bool
one_of b [] = false
one_of b (c ∷ cs) = eqb b c || one_of b cs

-- two answers agree
abbrev agree : Bool → Bool → Bool
agree true y = y
agree false true = false
agree false false = true

agree-true : (x y : Bool) → agree x y ≡ true → x ≡ y
agree-true true y h = sym h
agree-true false true h = absurd (true≢false (sym h))
agree-true false false h = refl

-- the computed test over all bytes
tested : all (λ (b : ℕ). agree (alnum b) (one_of b characters)) 256 ≡ true
unfolding all alnum
tested = refl

-- A BYTE IS A LETTER OR A DIGIT EXACTLY IF IT IS ONE OF THE 62 (rule 4.3)
pub alnum-is : (b : ℕ) → b < 256 → alnum b ≡ one_of b characters
alnum-is b h = agree-true (alnum b) (one_of b characters) (all-at (λ (x : ℕ). agree (alnum x) (one_of x characters)) 256 tested b h)
