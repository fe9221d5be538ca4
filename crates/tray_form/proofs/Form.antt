-- The walk over a tray's records, and each end of it. Assumes nothing.
use mathlib.Core.Path.{◌≡◌, refl, sym, ◌∙◌, ap, ap₂}
use mathlib.Core.Bool.{Bool, true, false, cond}
use mathlib.Core.List.{List, [], ◌∷◌}
use Prim.Native.Nat.{ℕ, suc, ◌+◌, ◌-◌, ◌≤◌, ◌<◌}
use native.Mathlib.Nat.{add-zero, zero-add}
use native.Mathlib.Omega.{arith}
use lib.Dec.{eqb, leb}
use borrow.Author.Tests.{eq-eqb, ne_eqb, leb-true, leb-false}
use lib.ListN.{length, drop, length-drop, drop_of_length-le}
use lib.Seq.{drop-drop}
use Rattle.protocol.specs.Numbers.{success, wrong_length, too_long}
use Rattle.records.specs.declared.Record.TheVariants.{Whole, Cut, End}
use Rattle.records.specs.Records.{record_at, prefix_size, length_of, message_of, clock_of, size_of, is_whole, Timed, requests_in, bytes_in}
use Rattle.records.proofs.Requests.{first-whole}
use Rattle.records.proofs.Found.{Found, found_in}
use Rattle.tray.proofs.Whole.{first-bytes}
use Rattle.tray.specs.Tray.{tray_most, messages_in, form_of, tray_form}

-- how far the walk has come: `count` records lie before the place `at`
pub record Walk (b : List ℕ) (at count : ℕ) : Type 0 where
  pub at_in : at ≤ length b
  pub count-in : count ≤ tray_most
  pub bytes-are : bytes_in (messages_in b) ≡ at + bytes_in (requests_in (tray_most - count) (drop at b))
  pub count-is : length (messages_in b) ≡ count + length (requests_in (tray_most - count) (drop at b))

pub walk_begins : (b : List ℕ) → Walk b 0 0
walk_begins b = record { at_in = omega arith; count-in = omega arith; bytes-are = sym (zero-add _); count-is = sym (zero-add _) }

-- the first of the records that are left, and those behind it
pub more : (b : List ℕ) (at count : ℕ) → is_whole (drop at b) ≡ true → count < tray_most
    → requests_in (tray_most - count) (drop at b) ≡ (clock_of (drop at b), message_of (drop at b)) ∷ requests_in (tray_most - (count + 1)) (drop (at + size_of (drop at b)) b)
more b at count h l =
    let n : tray_most - count ≡ suc (tray_most - (count + 1)) = omega arith in
    ap (λ (k : ℕ). requests_in k (drop at b)) n
    ∙ first-whole (tray_most - (count + 1)) (drop at b) h
    ∙ ap (λ (r : List ℕ). (clock_of (drop at b), message_of (drop at b)) ∷ requests_in (tray_most - (count + 1)) r) (drop-drop (size_of (drop at b)) at b)

module _ (b : List ℕ) (at count : ℕ) (w : Walk b at count) where
  pub walk-on : {clock start len next : ℕ} → Found b at clock start len next → count < tray_most → Walk b next (count + 1)
  walk-on {next = next} f l =
      let c : List ℕ = drop at b in
      let e = f.next-is in
      let rest : List Timed = requests_in (tray_most - (count + 1)) (drop (at + size_of c) b) in
      let same : requests_in (tray_most - (count + 1)) (drop next b) ≡ rest = ap (λ (k : ℕ). requests_in (tray_most - (count + 1)) (drop k b)) e in
      let size : bytes_in (requests_in (tray_most - count) c) ≡ size_of c + bytes_in rest =
      ap bytes_in (more b at count f.whole l) ∙ first-bytes c rest f.whole in
      let many : length (requests_in (tray_most - count) c) ≡ suc (length rest) = ap length (more b at count f.whole l) in
      let same_bytes : bytes_in (requests_in (tray_most - (count + 1)) (drop next b)) ≡ bytes_in rest = ap bytes_in same in
      let same-many : length (requests_in (tray_most - (count + 1)) (drop next b)) ≡ length rest = ap length same in
      let p = w.bytes-are in
      let q = w.count-is in
      let i = (found_in f).1 in
      record { at_in = i; count-in = omega arith; bytes-are = omega arith; count-is = omega arith }

  -- the walk is over: all 64 were seen, or there is no whole record
  module _ (over : requests_in (tray_most - count) (drop at b) ≡ []) where
    form-is : tray_form b ≡ form_of (drop at b) count
    unfolding tray_form bytes_in
    form-is =
        ap₂ (λ (i n : ℕ). form_of (drop i b) n) (w.bytes-are ∙ ap (λ (l : List Timed). at + bytes_in l) over ∙ add-zero at)
        (w.count-is ∙ ap (λ (l : List Timed). count + length l) over ∙ add-zero count)

    -- nothing is behind the records
    pub has-form : length b ≤ at → success ≡ tray_form b
    has-form h = sym (form-is ∙ ap (λ (l : List ℕ). form_of l count) (drop_of_length-le b {i = at} h))

    behind : (l : List ℕ) → 0 < length l → form_of l count ≡ cond (eqb count tray_most) too_long wrong_length
    behind [] h = absurd (omega arith)
    behind (x ∷ l) h = refl

    left : at < length b → tray_form b ≡ cond (eqb count tray_most) too_long wrong_length
    left h = form-is ∙ behind (drop at b) (rw (length-drop at b) (omega arith))

    pub is_cut : at < length b → count < tray_most → wrong_length ≡ tray_form b
    is_cut h l = sym (left h ∙ ap (λ t. cond t too_long wrong_length) (ne_eqb count tray_most (λ (e : count ≡ tray_most). omega arith)))

    pub too_many : at < length b → tray_most ≤ count → too_long ≡ tray_form b
    too_many h l = let k = w.count-in in sym (left h ∙ ap (λ t. cond t too_long wrong_length) (eq-eqb count tray_most (omega arith)))

-- 64 records were seen
pub all_seen : (b : List ℕ) (at count : ℕ) → tray_most ≤ count → requests_in (tray_most - count) (drop at b) ≡ []
unfolding requests_in
all_seen b at count h = let n : tray_most - count ≡ 0 = omega arith in ap (λ (k : ℕ). requests_in k (drop at b)) n

-- a cut record lies in the bytes, and where there is none they are over
pub cut-inside : (b : List ℕ) (at : ℕ) → Cut ≡ record_at b at → at < length b
unfolding record_at
cut-inside b at e = go (leb (length b) at) refl e
  where
    go : (y : Bool) → leb (length b) at ≡ y
        → Cut ≡ cond y End (cond (is_whole (drop at b)) (Whole (clock_of (drop at b)) (at + prefix_size) (length_of (drop at b)) (at + size_of (drop at b))) Cut) → at < length b
    go true q h = absurd (let z : ◌≡◌ {A = ℕ} 0 1 = cc in omega arith)
    go false q h = leb-false (length b) at q

pub end_reached : (b : List ℕ) (at : ℕ) → End ≡ record_at b at → length b ≤ at
unfolding record_at
end_reached b at e = go (leb (length b) at) (is_whole (drop at b)) refl e
  where
    go : (x y : Bool) → leb (length b) at ≡ x
        → End ≡ cond x End (cond y (Whole (clock_of (drop at b)) (at + prefix_size) (length_of (drop at b)) (at + size_of (drop at b))) Cut) → length b ≤ at
    go true y q h = leb-true (length b) at q
    go false true q h = absurd (let z : ◌≡◌ {A = ℕ} 0 1 = cc in omega arith)
    go false false q h = absurd (let z : ◌≡◌ {A = ℕ} 0 1 = cc in omega arith)
