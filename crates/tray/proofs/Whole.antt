-- Whole records at the front of some bytes: how many and how long they are, what stands behind them, and where they may be cut. Assumes nothing.
use Rattle.std.specs.Prelude.{◌≡◌, refl, Bool, true, false, cond, List, [], ◌∷◌, ◌++◌, ℕ, zero, suc, ◌+◌, ◌-◌, ◌≤◌, ◌<◌, length, take, drop}
use Rattle.std.proofs.Common.{sym, ◌∙◌, ap, arith, leb-true, le-leb, length-drop, take-append-drop, drop-drop, take-add, get_or-take, length-take-le}
use Rattle.std.proofs.Math.Seq.{drop-length, take-nil}
use Rattle.records.specs.Records.{clock_size, prefix_size, clock_of, message_of, length_of, size_of, is_whole, Timed, requests_in, bytes_in}
use Rattle.records.proofs.Requests.{first-whole, first-none, message-length, same-clock, same-message, same_rest, still-whole}

-- ---- one record more
-- the first request, and those of the bytes behind its record
abbrev by_first : ℕ → List ℕ → List Timed
by_first n b = (clock_of b, message_of b) ∷ requests_in n (drop (size_of b) b)

-- the requests of one record more: there is a first record, or there is none
by_first_lem : (P : List Timed → Type 0) (n : ℕ) (b : List ℕ) → (is_whole b ≡ true → P (by_first n b)) → (is_whole b ≡ false → P []) → P (requests_in (suc n) b)
unfolding requests_in
by_first_lem P n b f g = go (is_whole b) refl
  where
    go : (y : Bool) → is_whole b ≡ y → P (cond y (by_first n b) [])
    go true h = f h
    go false h = g h

limit-none : (b : List ℕ) → requests_in 0 b ≡ []
unfolding requests_in
limit-none b = refl

pub no-requests : (n : ℕ) → requests_in n [] ≡ []
no-requests zero = limit-none []
no-requests (suc n) = first-none (suc n) [] refl

pub no_bytes : bytes_in [] ≡ 0
unfolding bytes_in
no_bytes = refl

-- the bytes of the first record, and of those behind it
pub first-bytes : (b : List ℕ) (qs : List Timed) → is_whole b ≡ true → bytes_in ((clock_of b, message_of b) ∷ qs) ≡ size_of b + bytes_in qs
unfolding bytes_in
first-bytes b qs h = ap (λ (k : ℕ). prefix_size + k + bytes_in qs) (message-length b h)

-- ---- how many, and how long
-- of at most n records there are at most n
pub requests-most : (n : ℕ) (b : List ℕ) → length (requests_in n b) ≤ n
requests-most zero b = omega (arith, ap length (limit-none b))
requests-most (suc n) b = by_first_lem (λ (l : List Timed). length l ≤ suc n) n b (λ _. omega (arith, requests-most n (drop (size_of b) b))) (λ _. omega arith)

-- they lie in the bytes
pub bytes-within : (n : ℕ) (b : List ℕ) → bytes_in (requests_in n b) ≤ length b
bytes-within zero b = omega (arith, ap bytes_in (limit-none b), no_bytes)
bytes-within (suc n) b =
    by_first_lem (λ (l : List Timed). bytes_in l ≤ length b) n b
    (λ (h : is_whole b ≡ true). omega (arith, first-bytes b (requests_in n (drop (size_of b) b)) h, leb-true (size_of b) (length b) h, length-drop (size_of b) b, bytes-within n (drop (size_of b) b)))
    (λ _. omega (arith, no_bytes))

pub bytes-append : (xs ys : List Timed) → bytes_in (xs ++ ys) ≡ bytes_in xs + bytes_in ys
unfolding bytes_in
bytes-append [] ys = omega arith
bytes-append (q ∷ xs) ys = let e = bytes-append xs ys in omega arith

-- where fewer are read than may be, what stands behind them is no whole record
pub behind-cut : (n : ℕ) (b : List ℕ) → length (requests_in n b) < n → is_whole (drop (bytes_in (requests_in n b)) b) ≡ false
behind-cut zero b = λ l. absurd (omega arith)
behind-cut (suc n) b =
    by_first_lem (λ (l : List Timed). length l < suc n → is_whole (drop (bytes_in l) b) ≡ false) n b
    (λ (h : is_whole b ≡ true) l.
    let rest = requests_in n (drop (size_of b) b) in
    ap (λ (k : ℕ). is_whole (drop k b)) (first-bytes b rest h)
    ∙ ap is_whole (sym (drop-drop (bytes_in rest) (size_of b) b))
    ∙ behind-cut n (drop (size_of b) b) (omega arith))
    (λ (h : is_whole b ≡ false) l. ap (λ (k : ℕ). is_whole (drop k b)) no_bytes ∙ h)

-- ---- bytes behind whole records
-- b is whole records and nothing behind them, at most n
abbrev pub AllWhole : ℕ → List ℕ → Type 0
AllWhole n b = bytes_in (requests_in n b) ≡ length b

none_left : (b : List ℕ) → length b ≡ 0 → b ≡ []
none_left [] h = refl
none_left (x ∷ b) h = absurd (omega arith)

-- so is what stands behind its first record
rest-whole : (n : ℕ) (b : List ℕ) → is_whole b ≡ true → AllWhole (suc n) b → AllWhole n (drop (size_of b) b)
rest-whole n b h w =
    let rest = requests_in n (drop (size_of b) b) in
    omega (arith, length-drop (size_of b) b, ap bytes_in (first-whole n b h), first-bytes b rest h)

-- without a whole record it is empty
empty-whole : (n : ℕ) (b : List ℕ) → is_whole b ≡ false → AllWhole (suc n) b → b ≡ []
empty-whole n b h w = none_left b (sym w ∙ ap bytes_in (first-none (suc n) b h) ∙ no_bytes)

-- a first record stays the first, whatever stands behind it
joined-first : (n : ℕ) (b c : List ℕ) → is_whole b ≡ true → requests_in (suc n) (b ++ c) ≡ (clock_of b, message_of b) ∷ requests_in n (drop (size_of b) b ++ c)
joined-first n b c h = first-whole n (b ++ c) (still-whole b c h) ∙ (λ i. (same-clock b c h i, same-message b c h i) ∷ requests_in n (same_rest b c h i))

-- the requests of the bytes behind it come behind its own
pub requests-joined : (n : ℕ) (b c : List ℕ) → AllWhole n b → requests_in n (b ++ c) ≡ requests_in n b ++ requests_in (n - length (requests_in n b)) c
requests-joined zero b c w = limit-none (b ++ c) ∙ sym (limit-none c) ∙ ap (λ (l : List Timed). l ++ requests_in (0 - length l) c) (sym (limit-none b))
requests-joined (suc n) b c w =
    by_first_lem (λ (l : List Timed). requests_in (suc n) (b ++ c) ≡ l ++ requests_in (suc n - length l) c) n b
    (λ (h : is_whole b ≡ true).
    let rest = requests_in n (drop (size_of b) b) in
    let k : n - length rest ≡ suc n - suc (length rest) = omega arith in
    let behind : requests_in n (drop (size_of b) b ++ c) ≡ rest ++ requests_in (suc n - suc (length rest)) c = requests-joined n (drop (size_of b) b) c (rest-whole n b h w)
    ∙ ap (λ (j : ℕ). rest ++ requests_in j c) k in
    joined-first n b c h ∙ ap (λ (l : List Timed). (clock_of b, message_of b) ∷ l) behind)
    (λ (h : is_whole b ≡ false).
    let k : suc n ≡ suc n - 0 = omega arith in
    ap (λ (x : List ℕ). requests_in (suc n) (x ++ c)) (empty-whole n b h w) ∙ ap (λ (j : ℕ). requests_in j c) k)

-- a higher limit finds no more
pub requests-higher : (n m : ℕ) (b : List ℕ) → AllWhole n b → n ≤ m → requests_in m b ≡ requests_in n b
requests-higher zero m b w l = ap (requests_in m) (none_left b (sym w ∙ ap bytes_in (limit-none b) ∙ no_bytes)) ∙ no-requests m ∙ sym (limit-none b)
requests-higher (suc n) zero b w l = absurd (omega arith)
requests-higher (suc n) (suc m) b w l =
    by_first_lem (λ (x : List Timed). requests_in (suc m) b ≡ x) n b
    (λ (h : is_whole b ≡ true). first-whole m b h ∙ ap (λ (x : List Timed). (clock_of b, message_of b) ∷ x) (requests-higher n m (drop (size_of b) b) (rest-whole n b h w) (omega arith)))
    (λ (h : is_whole b ≡ false). first-none (suc m) b h)

-- ---- the first records by themselves
abbrev front : List ℕ → List ℕ
front b = take (size_of b) b

module _ (b : List ℕ) (h : is_whole b ≡ true) where
  front_long : length (front b) ≡ size_of b
  front_long = length-take-le (size_of b) b (leb-true (size_of b) (length b) h)

  front_length : length_of (front b) ≡ length_of b
  front_length = get_or-take (size_of b) b clock_size 0 (omega arith)

  front-whole : is_whole (front b) ≡ true
  front-whole = let e = front_long in let f = front_length in le-leb (size_of (front b)) (length (front b)) (omega arith)

  -- the first record, with other bytes behind it
  front-first : (n : ℕ) (c : List ℕ) → requests_in (suc n) (front b ++ c) ≡ (clock_of b, message_of b) ∷ requests_in n c
  front-first n c =
      let f = front b in
      let w = front-whole in
      let r = drop (size_of b) b in
      let j : f ++ r ≡ b = take-append-drop (size_of b) b in
      let t : clock_of f ≡ clock_of b = sym (same-clock f r w) ∙ ap clock_of j in
      let m : message_of f ≡ message_of b = sym (same-message f r w) ∙ ap message_of j in
      let z : drop (size_of f) f ≡ [] = ap (λ (k : ℕ). drop k f) (ap (λ (k : ℕ). prefix_size + k) front_length ∙ sym front_long) ∙ drop-length f in
      joined-first n f c w ∙ (λ i. (t i, m i) ∷ requests_in n (z i ++ c))

front-none : (n : ℕ) (b : List ℕ) → requests_in n (take (bytes_in []) b) ≡ []
front-none n b = ap (λ (k : ℕ). requests_in n (take k b)) no_bytes ∙ no-requests n

-- the bytes of the first k records have these k requests
pub requests-front : (n k : ℕ) (b : List ℕ) → requests_in n (take (bytes_in (take k (requests_in n b))) b) ≡ take k (requests_in n b)
requests-front zero k b = limit-none (take (bytes_in (take k (requests_in 0 b))) b) ∙ sym (take-nil k) ∙ ap (take k) (sym (limit-none b))
requests-front (suc n) zero b = front-none (suc n) b
requests-front (suc n) (suc k) b =
    by_first_lem (λ (l : List Timed). requests_in (suc n) (take (bytes_in (take (suc k) l)) b) ≡ take (suc k) l) n b
    (λ (h : is_whole b ≡ true).
    let rest = requests_in n (drop (size_of b) b) in
    ap (λ (j : ℕ). requests_in (suc n) (take j b)) (first-bytes b (take k rest) h)
    ∙ ap (requests_in (suc n)) (take-add (size_of b) (bytes_in (take k rest)) b)
    ∙ front-first b h n (take (bytes_in (take k rest)) (drop (size_of b) b))
    ∙ ap (λ (l : List Timed). (clock_of b, message_of b) ∷ l) (requests-front n k (drop (size_of b) b)))
    (λ _. front-none (suc n) b)
