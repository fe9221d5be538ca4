-- A response is laid down part by part, each behind the one before. Assumes nothing.
use mathlib.Core.Path.{◌≡◌, refl, sym, ap, ap₂, ◌∙◌}
use mathlib.Core.List.{List, [], ◌∷◌, ◌++◌, append_assoc}
use Prim.Native.Nat.{ℕ, ◌+◌, ◌≤◌}
use native.Mathlib.Omega.{arith}
use lib.ListN.{length, get_or, take, drop, length-append, take-append-drop}
use lib.Seq.{paste, sets, take_all, take-append_seam, drop-append-add, drop-drop}
use Rattle.laws.specs.Bytes.{bytes_of}
use Rattle.laws.specs.Ranges.{part, part-sets, length_part}
use Rattle.crc.specs.Crc.{crc}
use Rattle.protocol.specs.Decode.{fields_at}
use Rattle.protocol.specs.Frame.{header, done, reply, framed, laid, answer_after, stat_fields}
use Rattle.response_frame.specs.Over.{fields-long, fields-over}

-- what follows a part
pub laid_more : (r v a x : List ℕ) (n : ℕ) → n ≡ length r → x ≡ laid r a → paste x n v (length v) ≡ laid (r ++ v) a
laid_more r v a x n e q =
    ap (λ (y : List ℕ). paste y n v (length v)) q
    ∙ ap (λ (k : ℕ). paste (laid r a) k v (length v)) e
    ∙ ap (λ (y : List ℕ). take (length r) (laid r a) ++ y ++ drop (length r + length v) (laid r a)) (take_all (length v) v (omega arith))
    ∙ ap (λ (y : List ℕ). y ++ v ++ drop (length r + length v) (laid r a)) (take-append_seam r (drop (length r) a))
    ∙ ap (λ (y : List ℕ). r ++ v ++ y) (drop-append-add r (drop (length r) a) (length v) ∙ drop-drop (length v) (length r) a ∙ ap (λ (k : ℕ). drop k a) (sym (length-append r v)))

pub empty-is : (sub : ℕ) (h a : List ℕ) → h ≡ header sub → paste a 0 h (length h) ≡ answer_after sub done a
unfolding framed
empty-is sub h a e = ap (λ (x : List ℕ). paste a 0 x (length x)) e ∙ laid_more [] (header sub) a a 0 refl refl

-- what stands behind a front is part of what is laid
stands : (r a : List ℕ) (n : ℕ) → length r + n ≤ length a → laid r a ≡ laid (r ++ part (length r) n a) a
stands r a n h =
    ap (λ (x : List ℕ). r ++ x) (sym (take-append-drop n (drop (length r) a)) ∙ ap (λ (x : List ℕ). part (length r) n a ++ x) (drop-drop n (length r) a))
    ∙ sym (append_assoc r (part (length r) n a) (drop (length r + n) a))
    ∙ ap (λ (k : ℕ). (r ++ part (length r) n a) ++ drop k a) (sym (length-append r (part (length r) n a) ∙ ap (λ (k : ℕ). length r + k) (length_part (length r) n a h)))

-- what is written of a response with the fields f: its length, and the answer buffer z
abbrev pub Written : ℕ → List ℕ → List ℕ → ℕ → List ℕ → Type 0
Written sub f a len z = (len ≡ length (framed sub (reply f)).1) × (z ≡ answer_after sub (reply f) a)

-- header and CRC before the n bytes that stand behind their place
pub sealed : (sub n : ℕ) (h c a x z : List ℕ) (at : ℕ) → h ≡ header sub → c ≡ bytes_of 2 (crc (part fields_at n a)) → x ≡ paste a 0 h (length h) → at ≡ 0 + length h
    → z ≡ paste x at c (length c) → fields_at + n ≤ length a → Written sub (part fields_at n a) a (fields_at + n) z
unfolding framed bytes_of
sealed sub n h c a x z at eh ec ex eat ez l = (
  ap (λ (k : ℕ). fields_at + k) (sym (length_part fields_at n a l)) ∙ sym (fields-long sub (part fields_at n a)),
  ez ∙ laid_more h c a x at (omega arith) first ∙ front ∙ stands (header sub ++ bytes_of 2 (crc (part fields_at n a))) a n l,
)
  where
    first : x ≡ laid h a
    first = ex ∙ laid_more [] h a a 0 refl refl

    front : laid (h ++ c) a ≡ laid (header sub ++ bytes_of 2 (crc (part fields_at n a))) a
    front = ap₂ (λ (u v : List ℕ). laid (u ++ v) a) eh ec

-- the fields copied to their place, and header and CRC before them
pub with-is : (sub : ℕ) (f a x z : List ℕ) (n : ℕ) → fields_at + length f ≤ length a → x ≡ sets a fields_at f
    → Written sub (part fields_at (length f) x) x n z → Written sub f a n z
with-is sub f a x z n l e w =
    let there : part fields_at (length f) x ≡ f = ap (part fields_at (length f)) e ∙ part-sets f a fields_at l in (
      w.0 ∙ ap (λ (g : List ℕ). length (framed sub (reply g)).1) there,
      w.1 ∙ ap (λ (g : List ℕ). answer_after sub (reply g) x) there ∙ ap (answer_after sub (reply f)) e ∙ fields-over sub f a,
    )

-- the seven bytes of a Stat
pub stat-is : (state size : ℕ) (s n : List ℕ) → s ≡ bytes_of 2 state → n ≡ bytes_of 4 size
    → get_or s 0 0 ∷ get_or s 1 0 ∷ get_or n 0 0 ∷ get_or n 1 0 ∷ get_or n 2 0 ∷ get_or n 3 0 ∷ 0 ∷ [] ≡ stat_fields state size
unfolding bytes_of stat_fields
stat-is state size s n e q =
    ap (λ (l : List ℕ). get_or l 0 0 ∷ get_or l 1 0 ∷ get_or n 0 0 ∷ get_or n 1 0 ∷ get_or n 2 0 ∷ get_or n 3 0 ∷ 0 ∷ []) e
    ∙ ap (λ (l : List ℕ). get_or (bytes_of 2 state) 0 0 ∷ get_or (bytes_of 2 state) 1 0 ∷ get_or l 0 0 ∷ get_or l 1 0 ∷ get_or l 2 0 ∷ get_or l 3 0 ∷ 0 ∷ []) q

pub empty-long : (sub : ℕ) (h : List ℕ) (n : ℕ) → h ≡ header sub → n ≡ 0 + length h → n ≡ length (framed sub done).1
unfolding framed
empty-long sub h n e q = q ∙ ap (λ (x : List ℕ). 0 + length x) e
