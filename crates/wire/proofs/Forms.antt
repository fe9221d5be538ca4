-- A number is read in every form that it has, and written in the shortest. Assumes nothing.
use Rattle.std.specs.Prelude.{Option, Some, None, ◌≡◌, refl, Bool, true, false, cond, List, [], ◌∷◌, ◌++◌, ℕ, zero, suc, ◌+◌, ◌*◌, ◌-◌, ◌/◌, ◌%◌, ◌^◌, ◌≤◌, ◌<◌, ltb, length, get_or, drop}
use Rattle.std.proofs.Common.{sym, ◌∙◌, ap, pow-suc, add-one, arith, lt-ltb, le-ltb, ltb-true, ltb-false, drop-cons}
use Rattle.std.proofs.Math.Decide.{dec_lt}
use Rattle.laws.specs.Merge.{All}
use Rattle.wire.specs.declared.Number.{Number}
use Rattle.wire.specs.Base128.{number_most, valued, more, number_in, number_at, shortest_in, shortest}
use Rattle.wire.proofs.NumberLaws.{same-valued, byte-here, behind, number-last, number_more, positive, short-last, short-more}
use Rattle.wire.specs.Forms.{value_of, form_of, IsForm}

-- ---- read
read-in : (n : ℕ) (gs : List ℕ) (s t : List ℕ) (at end : ℕ) → 0 < length gs → length gs ≤ n → All (λ (g : ℕ). g < 128) gs → value_of gs < 2 ^ 64
    → drop at s ≡ form_of gs ++ t → at + length gs ≤ end → number_in n s at end ≡ valued (value_of gs) (at + length gs)
unfolding value_of form_of
read-in n [] s t at end z l a f e h = absurd (omega arith)
read-in zero (g ∷ gs) s t at end z l a f e h = absurd (omega arith)
read-in (suc n) (g ∷ []) s t at end z l a f e h =
    let b : get_or s at 0 ≡ g = byte-here s t at g e in
    let w : g + 128 * 0 ≡ g = omega arith in
    let q : g < 128 = a.0 in
    number-last n s at end (omega arith) (omega arith) ∙ rw (b, w)
read-in (suc n) (g ∷ h ∷ gs) s t at end z l a f e k =
    let b : get_or s at 0 ≡ 128 + g = byte-here s (form_of (h ∷ gs) ++ t) at (128 + g) e in
    let low : get_or s at 0 - 128 ≡ g = omega arith in
    let place : at + 1 + length (h ∷ gs) ≡ at + length (g ∷ h ∷ gs) = omega arith in
    let r : number_in n s (at + 1) end ≡ valued (value_of (h ∷ gs)) (at + 1 + length (h ∷ gs))
    = read-in n (h ∷ gs) s t (at + 1) end (omega arith) (omega arith) a.1 (omega arith) (behind ((128 + g) ∷ []) s (form_of (h ∷ gs) ++ t) at e) (omega arith) in
    number_more n s at end (omega arith) (omega arith) ∙ rw (low, r, lt-ltb (g + 128 * value_of (h ∷ gs)) (2 ^ 64) f, place)

-- A NUMBER IS READ IN EVERY FORM, whatever stands behind it; the highest groups may be zero (rule 21.19)
pub read-any : (gs s t : List ℕ) (at end : ℕ) → IsForm gs → drop at s ≡ form_of gs ++ t → at + length gs ≤ end → number_at s at end ≡ valued (value_of gs) (at + length gs)
read-any gs s t at end h e l = read-in number_most gs s t at end h.some h.few h.seven h.fits e l

-- ---- written
-- a number's groups, of which there are at most n
unfoldable pub groups_in : ℕ → ℕ → List ℕ
groups_in zero v = []
groups_in (suc n) v = cond (ltb v 128) (v ∷ []) (v % 128 ∷ groups_in n (v / 128))

-- a number's groups, as few as it takes
abbrev pub groups_of : ℕ → List ℕ
groups_of v = groups_in number_most v

groups-last : (n v : ℕ) → v < 128 → groups_in (suc n) v ≡ v ∷ []
unfolding groups_in
groups-last n v h = rw (lt-ltb v 128 h)

groups-more : (n v : ℕ) → 128 ≤ v → groups_in (suc n) v ≡ v % 128 ∷ groups_in n (v / 128)
unfolding groups_in
groups-more n v h = rw (le-ltb v 128 h)

-- one more group before others
form-more : (g : ℕ) (gs : List ℕ) → 0 < length gs → form_of (g ∷ gs) ≡ (128 + g) ∷ form_of gs
unfolding form_of
form-more g [] h = absurd (omega arith)
form-more g (x ∷ gs) h = refl

record Made (n v : ℕ) (gs : List ℕ) : Type 0 where
  made_some : 0 < length gs
  made-few : length gs ≤ n
  made-seven : All (λ (g : ℕ). g < 128) gs
  made-value : value_of gs ≡ v
  made-form : form_of gs ≡ shortest_in n v

made-last : (n v : ℕ) → v < 128 → Made (suc n) v (v ∷ [])
unfolding value_of form_of
made-last n v h = record { made_some = omega arith; made-few = omega arith; made-seven = (h, tt); made-value = omega arith; made-form = sym (short-last n v h) }

made_more : (n v : ℕ) (gs : List ℕ) → 128 ≤ v → Made n (v / 128) gs → Made (suc n) v (v % 128 ∷ gs)
unfolding value_of
made_more n v gs h m =
    let w = m.made-value in
    record {
      made_some = omega arith;
      made-few = let f = m.made-few in omega arith;
      made-seven = (omega arith, m.made-seven);
      made-value = omega arith;
      made-form = form-more (v % 128) gs m.made_some ∙ ap (λ (l : List ℕ). (128 + v % 128) ∷ l) m.made-form ∙ sym (short-more n v h);
    }

made : (n v : ℕ) → 0 < n → v < 128 ^ n → Made n v (groups_in n v)
made zero v z h = absurd (omega arith)
made (suc n) v z h = go (dec_lt v 128) (λ (p : 0 < n) (q : v / 128 < 128 ^ n). made n (v / 128) p q)
  where
    go : Dec (v < 128) → (0 < n → v / 128 < 128 ^ n → Made n (v / 128) (groups_in n (v / 128))) → Made (suc n) v (groups_in (suc n) v)
    go (yes l) ih = rw (groups-last n v l) (made-last n v l)
    go (no l) ih =
        let m : 128 ≤ v = omega arith in
        let h' : v < 128 ^ n * 128 = rw pow-suc at h in
        rw (groups-more n v m) (made_more n v (groups_in n (v / 128)) m (ih (positive n v m h') (omega arith)))

-- the groups are a form of v, the one that is written
pub record Shortest (v : ℕ) (gs : List ℕ) : Type 0 where
  pub is-form : IsForm gs
  pub is-worth : value_of gs ≡ v
  pub is-written : form_of gs ≡ shortest v

-- WHAT IS WRITTEN OF A NUMBER OF 64 BITS IS ONE OF ITS FORMS (rule 21.19)
pub shortest-form : (v : ℕ) → v < 2 ^ 64 → Shortest v (groups_of v)
shortest-form v h =
    let m = made number_most v (omega arith) (omega arith) in
    let e = m.made-value in
    record { is-form = record { some = m.made_some; few = m.made-few; seven = m.made-seven; fits = omega arith }; is-worth = e; is-written = m.made-form }

least-in : (n : ℕ) (gs : List ℕ) → All (λ (g : ℕ). g < 128) gs → 0 < length gs → length (shortest_in n (value_of gs)) ≤ length gs
unfolding value_of shortest_in
least-in zero gs a z = omega arith
least-in (suc n) [] a z = absurd (omega arith)
least-in (suc n) (g ∷ []) a z =
    let q : g < 128 = a.0 in
    let l : g + 128 * 0 < 128 = omega arith in
    rw (lt-ltb (g + 128 * 0) 128 l) (omega arith)
least-in (suc n) (g ∷ h ∷ gs) a z = go (ltb (g + 128 * value_of (h ∷ gs)) 128) (least-in n (h ∷ gs) a.1 (omega arith))
  where
    v : ℕ
    v = g + 128 * value_of (h ∷ gs)

    go : (b : Bool) → length (shortest_in n (value_of (h ∷ gs))) ≤ length (h ∷ gs) → length (cond b (v ∷ []) ((128 + v % 128) ∷ shortest_in n (v / 128))) ≤ length (g ∷ h ∷ gs)
    go true ih = omega arith
    go false ih =
        let q : g < 128 = a.0 in
        let e : v / 128 ≡ value_of (h ∷ gs) = omega arith in
        rw e (omega arith)

-- NO FORM OF A NUMBER, however many groups it has, IS SHORTER THAN WHAT IS WRITTEN (rule 21.19)
pub shortest-least : (gs : List ℕ) (v : ℕ) → All (λ (g : ℕ). g < 128) gs → 0 < length gs → value_of gs ≡ v → length (shortest v) ≤ length gs
shortest-least gs v a z e = let l = least-in number_most gs a z in rw (← e) l

-- ---- nothing else is read
record ReadIn (n : ℕ) (s : List ℕ) (at v next : ℕ) : Type 0 where
  in-groups : List ℕ
  in_some : 0 < length in-groups
  in-few : length in-groups ≤ n
  in-seven : All (λ (g : ℕ). g < 128) in-groups
  in-worth : value_of in-groups ≡ v
  in-fits : v < 2 ^ 64
  in-stop : next ≡ at + length in-groups
  in-there : drop at s ≡ form_of in-groups ++ drop next s

one_byte : (n : ℕ) (s : List ℕ) (at : ℕ) → at < length s → get_or s at 0 < 128 → ReadIn (suc n) s at (get_or s at 0) (at + 1)
unfolding value_of form_of
one_byte n s at l h = record {
  in-groups = get_or s at 0 ∷ [];
  in_some = omega arith;
  in-few = omega arith;
  in-seven = (h, tt);
  in-worth = omega arith;
  in-fits = omega arith;
  in-stop = refl;
  in-there = rw add-one (drop-cons s at 0 l);
}

byte_more : (n : ℕ) (s : List ℕ) (at u m : ℕ) → at < length s → 128 ≤ get_or s at 0 → get_or s at 0 < 256 → get_or s at 0 - 128 + 128 * u < 2 ^ 64 → ReadIn n s (at + 1) u m
    → ReadIn (suc n) s at (get_or s at 0 - 128 + 128 * u) m
unfolding value_of
byte_more n s at u m l a b f r =
    let low : ℕ = get_or s at 0 - 128 in
    let gs : List ℕ = r.in-groups in
    let w : value_of gs ≡ u = r.in-worth in
    let k : length gs ≤ n = r.in-few in
    let t : m ≡ at + 1 + length gs = r.in-stop in
    let e : get_or s at 0 ≡ 128 + low = omega arith in
    record {
      in-groups = low ∷ gs;
      in_some = omega arith;
      in-few = omega arith;
      in-seven = (omega arith, r.in-seven);
      in-worth = ap (λ (x : ℕ). low + 128 * x) w;
      in-fits = f;
      in-stop = omega arith;
      in-there = drop-cons s at 0 l ∙ rw (← add-one at) (λ i. e i ∷ r.in-there i) ∙ ap (λ (x : List ℕ). x ++ drop m s) (sym (form-more low gs r.in_some));
    }

read-one-in : (n : ℕ) (s : List ℕ) (at end v next : ℕ) → end ≤ length s → ((i : ℕ) → i < length s → get_or s i 0 < 256) → number_in n s at end ≡ valued v next → ReadIn n s at v next
unfolding number_in
read-one-in zero s at end v next z y e = absurd (let q : ◌≡◌ {A = ℕ} 0 1 = cc in omega arith)
read-one-in (suc n) s at end v next z y e = go (ltb at end) (ltb (get_or s at 0) 128) refl refl (λ (u m : ℕ). read-one-in n s (at + 1) end u m z y) e
  where
    low : ℕ
    low = get_or s at 0 - 128

    Later : Type 0
    Later = (u m : ℕ) → number_in n s (at + 1) end ≡ valued u m → ReadIn n s (at + 1) u m

    last : (b : Bool) (u m : ℕ) → ltb (low + 128 * u) (2 ^ 64) ≡ b → at < end → 128 ≤ get_or s at 0 → ReadIn n s (at + 1) u m → cond b
        (valued (low + 128 * u) m) None ≡ valued v next → ReadIn (suc n) s at v next
    last true u m p l h r e =
        let worth : low + 128 * u ≡ v = (same-valued e).0 in
        let stop : m ≡ next = (same-valued e).1 in
        rw (worth, stop) at (byte_more n s at u m (omega arith) h (y at (omega arith)) (ltb-true (low + 128 * u) (2 ^ 64) p) r)
    last false u m p l h r e = absurd (let q : ◌≡◌ {A = ℕ} 0 1 = cc in omega arith)

    inner : (x : Option Number) → number_in n s (at + 1) end ≡ x → at < end → 128 ≤ get_or s at 0 → Later → more low x ≡ valued v next → ReadIn (suc n) s at v next
    inner None p l h ih e = absurd (let q : ◌≡◌ {A = ℕ} 0 1 = cc in omega arith)
    inner (Some x) p l h ih e = last (ltb (low + 128 * x.value) (2 ^ 64)) x.value x.next refl l h (ih x.value x.next p) e

    go : (a b : Bool) → ltb at end ≡ a → ltb (get_or s at 0) 128 ≡ b → Later → cond a (cond b (valued (get_or s at 0) (at + 1))
        (more low (number_in n s (at + 1) end))) None ≡ valued v next → ReadIn (suc n) s at v next
    go true true p q ih e =
        let worth : get_or s at 0 ≡ v = (same-valued e).0 in
        let stop : at + 1 ≡ next = (same-valued e).1 in
        let l = ltb-true at end p in
        rw (worth, stop) at (one_byte n s at (omega arith) (ltb-true (get_or s at 0) 128 q))
    go true false p q ih e = inner (number_in n s (at + 1) end) refl (ltb-true at end p) (ltb-false (get_or s at 0) 128 q) ih e
    go false b p q ih e = absurd (let q : ◌≡◌ {A = ℕ} 0 1 = cc in omega arith)

-- at the place `at` of s there stands a form of v, and `next` is the place behind it
pub record ReadAs (s : List ℕ) (at v next : ℕ) : Type 0 where
  pub groups : List ℕ
  pub read-form : IsForm groups
  pub read-worth : value_of groups ≡ v
  pub read-stop : next ≡ at + length groups
  pub read-there : drop at s ≡ form_of groups ++ drop next s

-- WHATEVER IS READ AS A NUMBER, from bytes that are all there, IS ONE OF ITS FORMS (rule 21.19)
pub read-one-value : (s : List ℕ) (at end v next : ℕ) → end ≤ length s → ((i : ℕ) → i < length s → get_or s i 0 < 256) → number_at s at end ≡ valued v next → ReadAs s at v next
read-one-value s at end v next z y e =
    let r = read-one-in number_most s at end v next z y e in
    let w = r.in-worth in
    let f = r.in-fits in
    record {
      groups = r.in-groups;
      read-form = record { some = r.in_some; few = r.in-few; seven = r.in-seven; fits = omega arith };
      read-worth = w;
      read-stop = r.in-stop;
      read-there = r.in-there;
    }
