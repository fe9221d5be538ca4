-- Parts of a flat list: a range, a block of equal blocks, an element. As lenses none of them asks anything of the list's length. Assumes nothing.
use Rattle.std.specs.Prelude.{◌≡◌, refl, ◌≢◌, List, [], ◌∷◌, ◌++◌, ℕ, zero, suc, ◌+◌, ◌*◌, ◌-◌, ◌≤◌, ◌<◌, replicate, length, get_or, set, take, drop}
use Rattle.std.proofs.Common.{sym, ◌∙◌, ap, ap₂, append_assoc, suc-mul, zero-add, suc-add, mul-le-mul_right, add-zero, add-suc, arith, length-take, length-drop}
use Rattle.std.proofs.Common.{length-set, drop_of_length-le, ext_get_or, get_or-set_other, drop-set-lt, drop-cons, take_at, drop_at, length-take-le, take_all, get_or-take, get_or-drop, set-set, take-take, drop-drop}
use Rattle.std.proofs.Math.Logic.{Ne-symm}
use Rattle.std.proofs.Math.Nat.{min-le_left, add-sub_cancel_left}
use Rattle.std.proofs.Math.Decide.{dec_lt}
use Rattle.std.proofs.lemmas.List.{length-replicate, get_or-replicate, set_comm, set-get_or, drop-set-add, take-set-le}
use Rattle.std.proofs.lemmas.List.Edits.{sets, sets-eq}
use Rattle.std.proofs.Math.Seq.{paste, length-sets, take-nil, drop-nil}
use Rattle.laws.specs.Lens.{Lens, Indep, Steady, indep-sym}

pub block-fits : (n a b : ℕ) → a < b → a * n + n ≤ b * n
block-fits n a b q = rw (← suc-mul) (mul-le-mul_right n q)

module _ {A : Type 0} where
  abbrev pub part : ℕ → ℕ → List A → List A
  part i n l = take n (drop i l)

  -- `&l[i..i + n]`
  pub lent-part : (i n : ℕ) (l : List A) → take (i + n - i) (drop i l) ≡ part i n l
  lent-part i n l = rw add-sub_cancel_left

  part-set-below : (i n : ℕ) (l : List A) (k : ℕ) (a : A) → k < i → part i n (set l k a) ≡ part i n l
  part-set-below i n l k a h = rw (drop-set-lt i l k a h)

  part-set-above : (i n : ℕ) (l : List A) (k : ℕ) (a : A) → n ≤ k → part i n (set l (i + k) a) ≡ part i n l
  part-set-above i n l k a h = rw (drop-set-add i l k a, take-set-le n (drop i l) k a h)

  part-set-above' : (i n : ℕ) (l : List A) (k : ℕ) (a : A) → i + n ≤ k → part i n (set l k a) ≡ part i n l
  part-set-above' i n l k a h = let e : k ≡ i + (k - i) = omega arith in rw e (part-set-above i n l (k - i) a (omega arith))

  pub part-sets-below : (vs l : List A) (i n k : ℕ) → k + length vs ≤ i → part i n (sets l k vs) ≡ part i n l
  part-sets-below [] l i n k h = refl
  part-sets-below (v ∷ vs) l i n k h = part-sets-below vs (set l k v) i n (suc k) (omega arith) ∙ part-set-below i n l k v (omega arith)

  pub part-sets-above : (vs l : List A) (i n k : ℕ) → i + n ≤ k → part i n (sets l k vs) ≡ part i n l
  part-sets-above [] l i n k h = refl
  part-sets-above (v ∷ vs) l i n k h = part-sets-above vs (set l k v) i n (suc k) (omega arith) ∙ part-set-above' i n l k v h

  set-sets : (vs l : List A) (i j : ℕ) (a : A) → i + length vs ≤ j → set (sets l i vs) j a ≡ sets (set l j a) i vs
  set-sets [] l i j a h = refl
  set-sets (v ∷ vs) l i j a h =
      set-sets vs (set l i v) (suc i) j a (omega arith)
      ∙ ap (λ (r : List A). sets r (suc i) vs) (set_comm l i j v a (omega arith))

  set-sets-above : (vs l : List A) (i j : ℕ) (a : A) → j < i → set (sets l i vs) j a ≡ sets (set l j a) i vs
  set-sets-above [] l i j a h = refl
  set-sets-above (v ∷ vs) l i j a h =
      set-sets-above vs (set l i v) (suc i) j a (omega arith)
      ∙ ap (λ (r : List A). sets r (suc i) vs) (set_comm l i j v a (omega arith))

  pub sets-comm : (ws vs l : List A) (i j : ℕ) → i + length vs ≤ j → sets (sets l i vs) j ws ≡ sets (sets l j ws) i vs
  sets-comm [] vs l i j h = refl
  sets-comm (w ∷ ws) vs l i j h =
      ap (λ (r : List A). sets r (suc j) ws) (set-sets vs l i j w h)
      ∙ sets-comm ws vs (set l j w) i (suc j) (omega arith)

  -- two runs, one behind the other
  pub sets-append : (a b l : List A) (i : ℕ) → sets l i (a ++ b) ≡ sets (sets l i a) (i + length a) b
  sets-append [] b l i = rw add-zero
  sets-append (x ∷ a) b l i = sets-append a b (set l i x) (suc i) ∙ ap (λ (j : ℕ). sets (sets (set l i x) (suc i) a) j b) (omega arith)

  -- what is stored again as it was read changes nothing, also past the end
  pub sets-part : (d : A) (n : ℕ) (l : List A) (i : ℕ) → sets l i (part i n l) ≡ l
  sets-part d zero l i = refl
  sets-part d (suc n) l i = go (dec_lt i (length l)) (sets-part d n l (suc i))
    where
      go : Dec (i < length l) → sets l (suc i) (part (suc i) n l) ≡ l → sets l i (part i (suc n) l) ≡ l
      go (yes h) ih =
          ap (λ (r : List A). sets l i (take (suc n) r)) (drop-cons l i d h) ∙ ap (λ (r : List A). sets r (suc i) (part (suc i) n l)) (set-get_or l i d) ∙ ih
      go (no h) ih = rw (drop_of_length-le l {i = i} (omega arith))

  -- in range, what was stored is read
  pub part-sets : (vs l : List A) (i : ℕ) → i + length vs ≤ length l → part i (length vs) (sets l i vs) ≡ vs
  part-sets vs l i h =
      rw (sets-eq vs l i h, append_assoc, drop_at (take i l) (vs ++ drop (i + length vs) l) i (length-take-le i l (omega arith)), take_at vs (drop (i + length vs) l) (length vs) refl)

  -- reading inside a part
  pub drop-take : (a b : ℕ) (l : List A) → drop a (take (a + b) l) ≡ take b (drop a l)
  drop-take zero b l = rw zero-add
  drop-take (suc a) b [] = simp (take-nil, drop-nil)
  drop-take (suc a) b (x ∷ l) = rw suc-add (drop-take a b l)

  pub part-part : (i n a b : ℕ) (l : List A) → a + b ≤ n → part a b (part i n l) ≡ part (i + a) b l
  part-part i n a b l h =
      let e : n ≡ a + (n - a) = omega arith in
      let q : b ≤ n - a = omega arith in
      ap (λ (k : ℕ). take b (drop a (take k (drop i l)))) e
      ∙ ap (take b) (drop-take a (n - a) (drop i l))
      ∙ take-take b (n - a) (drop a (drop i l)) q
      ∙ ap (take b) (drop-drop a i l)

  pub get_d_part : (i n k : ℕ) (l : List A) (d : A) → k < n → get_or (part i n l) k d ≡ get_or l (i + k) d
  get_d_part i n k l d h = get_or-take n (drop i l) k d h ∙ get_or-drop i l k d

  pub length_part : (i n : ℕ) (l : List A) → i + n ≤ length l → length (part i n l) ≡ n
  length_part i n l h = length-take-le n (drop i l) (rw (length-drop i l) (omega arith))

  pub part-replicate : (i n m : ℕ) (a : A) → i + n ≤ m → part i n (replicate m a) ≡ replicate n a
  part-replicate i n m a h =
      let e : length (part i n (replicate m a)) ≡ n = length_part i n (replicate m a) (rw (length-replicate m a) h) in
      ext_get_or a (part i n (replicate m a)) (replicate n a) (e ∙ sym (length-replicate n a))
      (λ (j : ℕ) (q : j < length (part i n (replicate m a))).
      let q' : j < n = rw e at q in
      get_d_part i n j (replicate m a) a q' ∙ get_or-replicate m (i + j) a a (omega arith) ∙ sym (get_or-replicate n j a a q'))

  -- storing inside a part, which is then stored
  set-in-sets : (vs l : List A) (i k : ℕ) (a : A) → k < length vs → sets l i (set vs k a) ≡ set (sets l i vs) (i + k) a
  set-in-sets [] l i k a h = absurd (omega arith)
  set-in-sets (v ∷ vs) l i zero a h =
      rw add-zero (sym (set-sets-above vs (set l i v) (suc i) i a (omega arith) ∙ ap (λ (r : List A). sets r (suc i) vs) (set-set l i v a)))
  set-in-sets (v ∷ vs) l i (suc k) a h =
      let e : i + suc k ≡ suc i + k = omega arith in
      rw e (set-in-sets vs (set l i v) (suc i) k a (omega arith))

  pub sets-in-sets : (ws vs l : List A) (i k : ℕ) → k + length ws ≤ length vs → sets l i (sets vs k ws) ≡ sets (sets l i vs) (i + k) ws
  sets-in-sets [] vs l i k h = refl
  sets-in-sets (w ∷ ws) vs l i k h =
      sets-in-sets ws (set vs k w) l i (suc k) (simp length-set (omega arith))
      ∙ ap₂ (λ (r : List A) (j : ℕ). sets r j ws) (set-in-sets vs l i k w (omega arith)) (add-suc i k)

  abbrev pub range : ℕ → ℕ → Lens (List A) (List A)
  range i n = record { get = part i n; put = λ (v l : List A). sets l i (take n v) }

  short : (n : ℕ) (v : List A) → length (take n v) ≤ n
  short n v = rw (length-take n v) (min-le_left n (length v))

  pub range-indep : (i n j m : ℕ) → i + n ≤ j → Indep (range i n) (range j m)
  range-indep i n j m h = record {
    sees = λ (v l : List A). part-sets-below (take n v) l j m i (omega (arith, short n v));
    seen = λ (w l : List A). part-sets-above (take m w) l i n j h;
    swap = λ (v w l : List A). sym (sets-comm (take m w) (take n v) l i j (omega (arith, short n v)));
  }

  pub range-steady : (d : A) (i n : ℕ) → Steady (range i n)
  range-steady d i n l = ap (sets l i) (take_all n (part i n l) (short n (drop i l))) ∙ sets-part d n l i

  -- a store inside a range is the store in the list
  pub range-write : (d : A) (i n k : ℕ) (ws l : List A) → k + length ws ≤ n → i + n ≤ length l
      → (range i n).put (sets (part i n l) k ws) l ≡ sets l (i + k) ws
  range-write d i n k ws l h q =
      ap (sets l i) (take_all n (sets (part i n l) k ws) (rw (length-sets (part i n l) k ws) (short n (drop i l))))
      ∙ sets-in-sets ws (part i n l) l i k (rw (length_part i n l q) h)
      ∙ ap (λ (r : List A). sets r (i + k) ws) (sets-part d n l i)

  -- a range takes what fits it
  pub range-get-put : (i n : ℕ) (v l : List A) → length v ≡ n → i + n ≤ length l → part i n ((range i n).put v l) ≡ v
  range-get-put i n v l e h =
      ap (λ (w : List A). part i n (sets l i w)) (take_all n v (omega arith))
      ∙ ap (λ (k : ℕ). part i k (sets l i v)) (sym e)
      ∙ part-sets v l i (rw e h)

  -- a copy as a run of stores
  pub paste-sets : (l : List A) (i : ℕ) (s : List A) (n : ℕ) → i + n ≤ length l → n ≤ length s → paste l i s n ≡ sets l i (take n s)
  paste-sets l i s n h q =
      let e : length (take n s) ≡ n = length-take-le n s q in
      sym (sets-eq (take n s) l i (rw e h) ∙ rw e)

  -- block k of a list of blocks of n
  abbrev pub block : ℕ → ℕ → Lens (List A) (List A)
  block n k = range (k * n) n

  pub block-steady : (d : A) (n k : ℕ) → Steady (block n k)
  block-steady d n k = range-steady d (k * n) n

  pub block-indep : (n i j : ℕ) → i ≢ j → Indep (block n i) (block n j)
  block-indep n i j h = go (dec_lt i j)
    where
      go : Dec (i < j) → Indep (block n i) (block n j)
      go (yes q) = range-indep (i * n) n (j * n) n (block-fits n i j q)
      go (no q) = indep-sym (range-indep (j * n) n (i * n) n (block-fits n j i (omega arith)))

  -- one element
  abbrev pub element : A → ℕ → Lens (List A) A
  element d i = record { get = λ (l : List A). get_or l i d; put = λ (a : A) (l : List A). set l i a }

  pub element-indep : (d : A) (i j : ℕ) → i ≢ j → Indep (element d i) (element d j)
  element-indep d i j h = record {
    sees = λ (a : A) (l : List A). get_or-set_other l i j a d (Ne-symm h);
    seen = λ (a : A) (l : List A). get_or-set_other l j i a d h;
    swap = λ (a b : A) (l : List A). set_comm l j i b a (Ne-symm h);
  }

  pub element-steady : (d : A) (i : ℕ) → Steady (element d i)
  element-steady d i l = set-get_or l i d
