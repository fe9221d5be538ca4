-- Laws of the list of names. Assumes nothing.
use Rattle.std.specs.Prelude.{◌≡◌, Some, None, refl, Bool, true, false, cond, List, [], ◌∷◌, ◌++◌, ℕ, zero, suc, ◌+◌, ◌-◌, ◌≤◌, ◌<◌, eqb, ltb, length, get_or, set}
use Rattle.std.proofs.Math.Path.{sym}
use Rattle.std.proofs.Common.{◌∙◌, ap, append-nil, add-zero, add-suc, add-one, arith, length-append, get_or-append-add}
use Rattle.std.proofs.Math.Decide.{dec_lt}
use Rattle.std.specs.Int.Count.{ones, ones_in}
use borrow.Author.Tests.{ne_eqb, lt-ltb, le-ltb}
use Rattle.std.proofs.Math.ListN.{get_or-append}
use Rattle.std.proofs.lemmas.List.Edits.{sets}
use Rattle.std.proofs.Math.Seq.{get_or-append_seam}
use Rattle.laws.specs.Ranges.{part, part-sets, sets-append}
use Rattle.laws.specs.Bits.{bit}
use Rattle.laws.specs.Bytes.{text}
use Rattle.laws.specs.Masks.{ones-more, ones-in, ones-mono}
use Rattle.protocol.specs.Numbers.{slot_count, sixteen_bits, out_of_range, image_blob, cleanup_blob}
use Rattle.protocol.specs.Names.{base, flash_name, kind_of}
use Rattle.protocol.specs.Frame.{Reply, refused, reply}
use Rattle.state.specs.declared.Phase.{Phase}
use Rattle.state.specs.State.{State}
use Rattle.state.specs.Soundness.{slot_at}
use Rattle.rules.specs.Listing.{only, committed_names, flash_names, listed, enumerated}
use Rattle.rules.specs.Counting.{flash_count}
use Rattle.rules.proofs.Counting.{committed-count}
use Rattle.name_list.specs.declared.Listed.TheVariants.{Base, Slot, Flash}
use Rattle.lookup.specs.Search.{Nth}
use Rattle.name_list.specs.Listed.{flash_at, InStore, listed_reply, flash_kinds, behind, names_from, flash_from}
use Rattle.rules.specs.Opening.{flash_listed}

-- ---- the committed names by number
only_set : (b : ℕ) (n : List ℕ) → b ≡ 1 → only (eqb b 1) n ≡ n ∷ []
only_set b n h = rw h

at_last : (k : ℕ) (s : State) → bit k s.store.marks ≡ 1
    → get_or (committed_names (suc k) s) (ones_in k s.store.marks) [] ≡ text (slot_at k s).name
unfolding committed_names
at_last k s h =
    ap (λ (i : ℕ). get_or (committed_names k s ++ only (eqb (bit k s.store.marks) 1) (text (slot_at k s).name)) i []) (sym (committed-count k s))
    ∙ ap (λ (l : List (List ℕ)). get_or (committed_names k s ++ l) (length (committed_names k s)) []) (only_set (bit k s.store.marks) (text (slot_at k s).name) h)
    ∙ get_or-append_seam (committed_names k s) (text (slot_at k s).name) [] []

name-stays : (n d i : ℕ) (s : State) → i < length (committed_names n s) → get_or (committed_names (n + d) s) i [] ≡ get_or (committed_names n s) i []
unfolding committed_names
name-stays n zero i s h = rw add-zero
name-stays n (suc d) i s h =
    let l : length (committed_names n s) ≤ length (committed_names (n + d) s) =
    omega (arith, committed-count n s, committed-count (n + d) s, ones-mono n d s.store.marks)
    in
    rw add-suc
    (get_or-append (committed_names (n + d) s) (only (eqb (slot_at (n + d) s).mark 1) (text (slot_at (n + d) s).name)) [] i (omega arith)
    ∙ name-stays n d i s h)

name-at : (i k : ℕ) (s : State) → Nth s.store.marks i k → get_or (committed_names slot_count s) i [] ≡ text (slot_at k s).name
name-at i k s p =
    let e : slot_count ≡ suc k + (slot_count - suc k) = omega (arith, p.low) in
    let l : i < length (committed_names (suc k) s) = omega (arith, committed-count (suc k) s, ones-more k s.store.marks, p.is_set, p.below) in
    ap (λ (n : ℕ). get_or (committed_names n s) i []) e
    ∙ name-stays (suc k) (slot_count - suc k) i s l
    ∙ ap (λ (j : ℕ). get_or (committed_names (suc k) s) j []) (sym p.below)
    ∙ at_last k s p.is_set

-- ---- the reply to number i of a list, and of two lists one behind the other
unfoldable pub reply_at : List (List ℕ) → ℕ → Reply
reply_at l i = cond (ltb i (length l)) (reply (get_or l i [] ++ (0 ∷ []))) (refused out_of_range)

ltb-shift : (a i n : ℕ) → ltb (a + i) (a + n) ≡ ltb i n
ltb-shift a i n = go (dec_lt i n)
  where
    go : Dec (i < n) → ltb (a + i) (a + n) ≡ ltb i n
    go (yes h) = lt-ltb (a + i) (a + n) (omega arith) ∙ sym (lt-ltb i n h)
    go (no h) = le-ltb (a + i) (a + n) (omega arith) ∙ sym (le-ltb i n (omega arith))

reply-behind : (a b : List (List ℕ)) (i n : ℕ) → i ≡ length a + n → reply_at (a ++ b) i ≡ reply_at b n
unfolding reply_at
reply-behind a b i n e = rw (e, length-append a b, ltb-shift (length a) n (length b), get_or-append-add a b n [])

reply-inside : (a b : List (List ℕ)) (i : ℕ) (x : List ℕ) → i < length a → get_or a i [] ≡ x → reply_at (a ++ b) i ≡ reply (x ++ (0 ∷ []))
unfolding reply_at
reply-inside a b i x h e =
    let q : i < length a + length b = omega arith in
    rw (length-append a b, lt-ltb i (length a + length b) q, get_or-append a b [] i h, e)

-- ---- the flash names by number
pub names-from : (p : Phase) → flash_names p ≡ names_from flash_kinds image_blob p
unfolding flash_names names_from kind_of
names-from p = rw append-nil

only-few : (b : Bool) (n : List ℕ) → length (only b n) ≤ 1
only-few true n = omega arith
only-few false n = omega arith

few-from : (n b : ℕ) (p : Phase) → length (names_from n b p) ≤ n
unfolding names_from
few-from zero b p = omega arith
few-from (suc n) b p =
    rw length-append (omega (arith, few-from n (suc b) p, only-few (flash_listed (kind_of b) p) (flash_name (kind_of b))))

pub few-listed : (p : Phase) → flash_count p ≤ flash_kinds
few-listed p = rw (names-from p) (few-from flash_kinds image_blob p)

-- a loop over the blob numbers: at its start, and where it passes b, which is listed or not
pub start-count : (p : Phase) (b : ℕ) → b ≡ image_blob → length (names_from (behind b) b p) ≡ flash_count p
start-count p b e = ap (λ (j : ℕ). length (names_from (behind j) j p)) e ∙ ap length (sym (names-from p))

module _ (p : Phase) (b : ℕ) (low : b ≤ cleanup_blob) where
  more : behind b ≡ suc (behind (b + 1))
  more = omega arith

  pub count-shown : flash_listed (kind_of b) p ≡ true → length (names_from (behind b) b p) ≡ suc (length (names_from (behind (b + 1)) (b + 1) p))
  unfolding names_from
  count-shown e = rw (more, e, add-one)

  pub count-hidden : flash_listed (kind_of b) p ≡ false → length (names_from (behind b) b p) ≡ length (names_from (behind (b + 1)) (b + 1) p)
  unfolding names_from
  count-hidden e = rw (more, e, add-one)

  module _ (i : ℕ) where
    pub at_first : flash_listed (kind_of b) p ≡ true → i ≡ 0 → flash_from (behind b) b p i ≡ Some (Flash (kind_of b))
    unfolding flash_from
    at_first e z = rw (more, e, z)

    pub at-shown : flash_listed (kind_of b) p ≡ true → (i ≡ 0 → ⊥) → flash_from (behind b) b p i ≡ flash_from (behind (b + 1)) (b + 1) p (i - 1)
    unfolding flash_from
    at-shown e z = rw (more, e, ne_eqb i 0 z, add-one)

    pub at-hidden : flash_listed (kind_of b) p ≡ false → flash_from (behind b) b p i ≡ flash_from (behind (b + 1)) (b + 1) p i
    unfolding flash_from
    at-hidden e = rw (more, e, add-one)

pub none-behind : (p : Phase) (b : ℕ) → cleanup_blob < b → length (names_from (behind b) b p) ≡ 0
unfolding names_from
none-behind p b h = let e : behind b ≡ 0 = omega arith in rw e

pub outside : (p : Phase) (b i : ℕ) → cleanup_blob < b → flash_from (behind b) b p i ≡ None
unfolding flash_from
outside p b i h = let e : behind b ≡ 0 = omega arith in rw e

from-in-store : (n b : ℕ) (p : Phase) (i : ℕ) → InStore (flash_from n b p i)
unfolding flash_from
from-in-store zero b p i = tt
from-in-store (suc n) b p i = go (flash_listed (kind_of b) p) (eqb i 0) (from-in-store n (suc b) p (i - 1)) (from-in-store n (suc b) p i)
  where
    go : (x y : Bool) → InStore (flash_from n (suc b) p (i - 1)) → InStore (flash_from n (suc b) p i)
        → InStore (cond x (cond y (Some (Flash (kind_of b))) (flash_from n (suc b) p (i - 1))) (flash_from n (suc b) p i))
    go true true q r = tt
    go true false q r = q
    go false y q r = r

pub flash-in-store : (p : Phase) (i : ℕ) → InStore (flash_at p i)
flash-in-store p i = from-in-store flash_kinds image_blob p i

from-reply : (n b : ℕ) (p : Phase) (i : ℕ) (names : List ℕ) → listed_reply (flash_from n b p i) names ≡ reply_at (names_from n b p) i
unfolding reply_at names_from flash_from
from-reply zero b p i names = rw (le-ltb i 0 (omega arith))
from-reply (suc n) b p i names = go (λ (j : ℕ). from-reply n (suc b) p j names) (flash_listed (kind_of b) p) i
  where
    go : ((j : ℕ) → listed_reply (flash_from n (suc b) p j) names ≡ reply_at (names_from n (suc b) p) j) → (x : Bool) (j : ℕ)
        → listed_reply (cond x (cond (eqb j 0) (Some (Flash (kind_of b))) (flash_from n (suc b) p (j - 1))) (flash_from n (suc b) p j)) names
        ≡ reply_at (only x (flash_name (kind_of b)) ++ names_from n (suc b) p) j
    go more true zero = sym (reply-inside (flash_name (kind_of b) ∷ []) (names_from n (suc b) p) 0 (flash_name (kind_of b)) (omega arith) refl)
    go more true (suc j) =
        let e : suc j - 1 ≡ j = omega arith in
        let f : eqb (suc j) 0 ≡ false = ne_eqb (suc j) 0 (λ (q : suc j ≡ 0). omega arith) in
        rw (f, e) (more j ∙ sym (reply-behind (flash_name (kind_of b) ∷ []) (names_from n (suc b) p) (suc j) j (omega arith)))
    go more false j = more j

flash-reply : (p : Phase) (i : ℕ) (names : List ℕ) → listed_reply (flash_at p i) names ≡ reply_at (flash_names p) i
flash-reply p i names = from-reply flash_kinds image_blob p i names ∙ ap (λ (l : List (List ℕ)). reply_at l i) (sym (names-from p))

-- ---- Enumerate's three ways
enumerated-is : (i : ℕ) (s : State) → enumerated i s ≡ reply_at ((base ∷ []) ++ (committed_names slot_count s ++ flash_names s.flash_group.phase)) i
unfolding listed reply_at
enumerated-is i s = refl

module _ (s : State) (i : ℕ) where
  rest : List (List ℕ)
  rest = committed_names slot_count s ++ flash_names s.flash_group.phase

  pub enum-base : i ≡ 0 → listed_reply (Some Base) s.store.names ≡ enumerated i s
  unfolding rest
  enum-base e = sym (enumerated-is i s ∙ reply-inside (base ∷ []) rest i base (omega arith) (rw e))

  module _ (h : 1 ≤ i) (m : s.store.marks < sixteen_bits) where
    committed-all : length (committed_names slot_count s) ≡ ones s.store.marks
    committed-all = committed-count slot_count s ∙ ones-in slot_count s.store.marks m

    pub enum-slot : (k : ℕ) → i - 1 < ones s.store.marks → Nth s.store.marks (i - 1) k → listed_reply (Some (Slot k)) s.store.names ≡ enumerated i s
    unfolding rest
    enum-slot k l p =
        sym (enumerated-is i s ∙ reply-behind (base ∷ []) rest i (i - 1) (omega arith)
        ∙ reply-inside (committed_names slot_count s) (flash_names s.flash_group.phase) (i - 1) (text (slot_at k s).name) (omega (arith, committed-all)) (name-at (i - 1) k s p))

    pub enum-flash : ones s.store.marks ≤ i - 1 → listed_reply (flash_at s.flash_group.phase (i - 1 - ones s.store.marks)) s.store.names ≡ enumerated i s
    unfolding rest
    enum-flash l =
        flash-reply s.flash_group.phase (i - 1 - ones s.store.marks) s.store.names
        ∙ sym (enumerated-is i s ∙ reply-behind (base ∷ []) rest i (i - 1) (omega arith)
        ∙ reply-behind (committed_names slot_count s) (flash_names s.flash_group.phase) (i - 1) (i - 1 - ones s.store.marks) (omega (arith, committed-all)))

-- ---- a name and its NUL in their place
pub name-laid : (a x : List ℕ) (at : ℕ) → set (sets a at x) (at + length x) 0 ≡ sets a at (x ++ (0 ∷ []))
name-laid a x at = sym (sets-append x (0 ∷ []) a at)

pub name-read : (a x : List ℕ) (at : ℕ) → at + length x < length a → part at (length x + 1) (sets a at (x ++ (0 ∷ []))) ≡ x ++ (0 ∷ [])
name-read a x at h =
    let e : length x + 1 ≡ length (x ++ (0 ∷ [])) = sym (length-append x (0 ∷ [])) in
    ap (λ (n : ℕ). part at n (sets a at (x ++ (0 ∷ [])))) e ∙ part-sets (x ++ (0 ∷ [])) a at (omega arith)
