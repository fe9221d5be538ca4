-- What was written is read back, whatever stands behind it. Assumes nothing.
use Rattle.std.specs.Prelude.{Option, Some, None, ◌≡◌, refl, Bool, true, false, cond, List, [], ◌∷◌, ◌++◌, ℕ, zero, suc, ◌+◌, ◌*◌, ◌-◌, ◌/◌, ◌%◌, ◌^◌, ◌≤◌, ◌<◌, ltb, length, get_or, drop}
use Rattle.std.proofs.Common.{sym, ◌∙◌, ap, pow-suc, add-zero, arith, lt-ltb, le-ltb, ltb-true, get_or-drop, drop-drop}
use Rattle.std.proofs.Math.Decide.{dec_lt}
use Rattle.std.proofs.Math.Seq.{drop-append_seam}
use Rattle.wire.specs.declared.Number.{Number}
use Rattle.wire.specs.Base128.{valued, more, number_in, number_at, shortest_in, shortest}

-- the byte at a place, and what follows it
pub byte-here : (s t : List ℕ) (at x : ℕ) → drop at s ≡ x ∷ t → get_or s at 0 ≡ x
byte-here s t at x e = ap (λ (i : ℕ). get_or s i 0) (sym (add-zero at)) ∙ sym (get_or-drop at s 0 0) ∙ ap (λ (l : List ℕ). get_or l 0 0) e

pub behind : (w s t : List ℕ) (at : ℕ) → drop at s ≡ w ++ t → drop (at + length w) s ≡ t
behind w s t at e = sym (drop-drop (length w) at s) ∙ ap (drop (length w)) e ∙ drop-append_seam w t

-- one byte, and one before others
pub number-last : (n : ℕ) (s : List ℕ) (at end : ℕ) → at < end → get_or s at 0 < 128 → number_in (suc n) s at end ≡ valued (get_or s at 0) (at + 1)
unfolding number_in
number-last n s at end h q = rw (lt-ltb at end h, lt-ltb (get_or s at 0) 128 q)

pub number_more : (n : ℕ) (s : List ℕ) (at end : ℕ) → at < end → 128 ≤ get_or s at 0
    → number_in (suc n) s at end ≡ more (get_or s at 0 - 128) (number_in n s (at + 1) end)
unfolding number_in
number_more n s at end h q = rw (lt-ltb at end h, le-ltb (get_or s at 0) 128 q)

pub number_cut : (n : ℕ) (s : List ℕ) (at end : ℕ) → end ≤ at → number_in (suc n) s at end ≡ None
unfolding number_in
number_cut n s at end h = rw (le-ltb at end h)

-- a number of more than seven bits is more than one group
pub positive : (n v : ℕ) → 128 ≤ v → v < 128 ^ n * 128 → 0 < n
positive zero v h q = absurd (omega arith)
positive (suc n) v h q = omega arith

pub short-last : (n v : ℕ) → v < 128 → shortest_in (suc n) v ≡ v ∷ []
unfolding shortest_in
short-last n v h = rw (lt-ltb v 128 h)

pub short-more : (n v : ℕ) → 128 ≤ v → shortest_in (suc n) v ≡ (128 + v % 128) ∷ shortest_in n (v / 128)
unfolding shortest_in
short-more n v h = rw (le-ltb v 128 h)

-- A NUMBER IN ITS SHORTEST FORM IS READ BACK
pub number-written : (n v : ℕ) (s t : List ℕ) (at end : ℕ) → 0 < n → v < 128 ^ n → v < 2 ^ 64 → drop at s ≡ shortest_in n v ++ t → at + length (shortest_in n v) ≤ end
    → number_in n s at end ≡ valued v (at + length (shortest_in n v))
number-written zero v s t at end z f g e l = absurd (omega arith)
number-written (suc n) v s t at end z f g e l =
    go (dec_lt v 128) (λ (p : 0 < n) (q : v / 128 < 128 ^ n) (r : v / 128 < 2 ^ 64). number-written n (v / 128) s t (at + 1) end p q r)
  where
    go : Dec (v < 128) → (0 < n → v / 128 < 128 ^ n → v / 128 < 2 ^ 64 → drop (at + 1) s ≡ shortest_in n (v / 128) ++ t → at + 1 + length (shortest_in n (v / 128)) ≤ end
        → number_in n s (at + 1) end ≡ valued (v / 128) (at + 1 + length (shortest_in n (v / 128)))) → number_in (suc n) s at end ≡ valued v (at + length (shortest_in (suc n) v))
    go (yes h) ih =
        let e' : drop at s ≡ v ∷ t = e ∙ ap (λ (w : List ℕ). w ++ t) (short-last n v h) in
        let b : get_or s at 0 ≡ v = byte-here s t at v e' in
        let k : length (shortest_in (suc n) v) ≡ 1 = ap length (short-last n v h) in
        number-last n s at end (omega arith) (omega arith) ∙ rw (b, k)
    go (no h) ih =
        let m : 128 ≤ v = omega arith in
        let f' : v < 128 ^ n * 128 = rw pow-suc at f in
        let e' : drop at s ≡ (128 + v % 128) ∷ (shortest_in n (v / 128) ++ t) = e ∙ ap (λ (w : List ℕ). w ++ t) (short-more n v m) in
        let b : get_or s at 0 ≡ 128 + v % 128 = byte-here s _ at (128 + v % 128) e' in
        let k : length (shortest_in (suc n) v) ≡ suc (length (shortest_in n (v / 128))) = ap length (short-more n v m) in
        let i : number_in n s (at + 1) end ≡ valued (v / 128) (at + 1 + length (shortest_in n (v / 128))) =
        ih (positive n v m f') (omega arith) (omega arith) (behind ((128 + v % 128) ∷ []) s (shortest_in n (v / 128) ++ t) at e') (omega arith) in
        let low : get_or s at 0 - 128 ≡ v % 128 = omega arith in
        let whole : v % 128 + 128 * (v / 128) ≡ v = omega arith in
        let place : at + 1 + length (shortest_in n (v / 128)) ≡ at + length (shortest_in (suc n) v) = omega arith in
        number_more n s at end (omega arith) (omega arith) ∙ rw (low, i, whole, lt-ltb v (2 ^ 64) g, place)

-- at most ten bytes: whatever fits 64 bits
pub number-back : (v : ℕ) (s t : List ℕ) (at end : ℕ) → v < 2 ^ 64 → drop at s ≡ shortest v ++ t → at + length (shortest v) ≤ end
    → number_at s at end ≡ valued v (at + length (shortest v))
number-back v s t at end g e l = number-written 10 v s t at end (omega arith) (omega arith) g e l

-- at least one
pub short-some : (v : ℕ) → 0 < length (shortest v)
short-some v = go (dec_lt v 128)
  where
    go : Dec (v < 128) → 0 < length (shortest v)
    go (yes h) = rw (short-last 9 v h) (omega arith)
    go (no h) = rw (short-more 9 v (omega arith)) (omega arith)

-- equal numbers have equal parts
pub same-valued : {v next v' next' : ℕ} → valued v next ≡ valued v' next' → (v ≡ v') × (next ≡ next')
same-valued {v} {next} {v'} {next'} e =
    let q : ◌≡◌ {A = Number} (record { value = v; next = next }) (record { value = v'; next = next' }) = cc in
    (ap (λ (x : Number). x.value) q, ap (λ (x : Number). x.next) q)

-- a number stands between its place and the end
pub number-place : (n : ℕ) (s : List ℕ) (at end v next : ℕ) → number_in n s at end ≡ valued v next → (at < next) × (next ≤ end)
unfolding number_in
number-place zero s at end v next e = absurd (let z : ◌≡◌ {A = ℕ} 0 1 = cc in omega arith)
number-place (suc n) s at end v next e = go (ltb at end) (ltb (get_or s at 0) 128) refl (λ (u m : ℕ). number-place n s (at + 1) end u m) e
  where
    low : ℕ
    low = get_or s at 0 - 128

    Later : Type 0
    Later = (u m : ℕ) → number_in n s (at + 1) end ≡ valued u m → (at + 1 < m) × (m ≤ end)

    last : (b : Bool) (u m : ℕ) → at + 1 < m → m ≤ end → cond b (valued (low + 128 * u) m) None ≡ valued v next → (at < next) × (next ≤ end)
    last true u m p q e = let g : m ≡ next = (same-valued e).1 in (omega arith, omega arith)
    last false u m p q e = absurd (let z : ◌≡◌ {A = ℕ} 0 1 = cc in omega arith)

    inner : (x : Option Number) → number_in n s (at + 1) end ≡ x → Later → more low x ≡ valued v next → (at < next) × (next ≤ end)
    inner None p ih e = absurd (let z : ◌≡◌ {A = ℕ} 0 1 = cc in omega arith)
    inner (Some x) p ih e = let r = ih x.value x.next p in last (ltb (low + 128 * x.value) (2 ^ 64)) x.value x.next r.0 r.1 e

    go : (a b : Bool) → ltb at end ≡ a → Later → cond a (cond b (valued (get_or s at 0) (at + 1)) (more low (number_in n s (at + 1) end))) None ≡ valued v next → (at < next) × (next ≤ end)
    go true true p ih e = let g : at + 1 ≡ next = (same-valued e).1 in let h = ltb-true at end p in (omega arith, omega arith)
    go true false p ih e = inner (number_in n s (at + 1) end) refl ih e
    go false b p ih e = absurd (let z : ◌≡◌ {A = ℕ} 0 1 = cc in omega arith)

-- at most n bytes
pub short-most : (n v : ℕ) → length (shortest_in n v) ≤ n
unfolding shortest_in
short-most zero v = omega arith
short-most (suc n) v = go (ltb v 128) (short-most n (v / 128))
  where
    go : (b : Bool) → length (shortest_in n (v / 128)) ≤ n → length (cond b (v ∷ []) ((128 + v % 128) ∷ shortest_in n (v / 128))) ≤ suc n
    go true h = omega arith
    go false h = omega arith
