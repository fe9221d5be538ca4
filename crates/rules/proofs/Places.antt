-- Where each listed name stands: the base first, a committed slot behind those below it, a flash name behind those before it; each is sent with its NUL. Assumes nothing.
use Rattle.std.specs.Prelude.{◌≡◌, refl, Bool, true, false, cond, List, [], ◌∷◌, ◌++◌, ℕ, zero, suc, ◌+◌, ◌<◌, eqb, length, get_or}
use Rattle.std.proofs.Common.{sym, ◌∙◌, ap, subst, arith, eq-eqb, lt-ltb, length-append, get_or-append-add}
use Rattle.std.proofs.Math.Decide.{ℕ_discrete}
use Rattle.std.proofs.Math.ListN.{get_or-append}
use Rattle.laws.specs.Bytes.{text}
use Rattle.protocol.specs.Numbers.{slot_count, out_of_range}
use Rattle.protocol.specs.Names.{base, flash_name}
use Rattle.protocol.specs.Frame.{Reply, refused, reply}
use Rattle.protocol.specs.declared.FlashKind.{FlashKind}
use Rattle.protocol.specs.declared.FlashKind.TheVariants.{Image, Hash, Verify, Update, Cleanup}
use Rattle.state.specs.declared.Phase.{Phase}
use Rattle.state.specs.declared.Phase.TheVariants.{Idle, Uploading, Verified}
use Rattle.state.specs.State.{State}
use Rattle.state.specs.Soundness.{slot_at}
use Rattle.rules.specs.Opening.{flash_listed}
use Rattle.rules.specs.Listing.{only, committed_names, flash_names, listed, count, enumerated}

-- how many slots below n are committed
unfoldable pub committed_below : (n : ℕ) → State → ℕ
committed_below zero s = 0
committed_below (suc k) s = committed_below k s + cond (eqb (slot_at k s).mark 1) 1 0

-- how many flash names are listed before this one, in this phase (rule 8.2)
abbrev pub listed_before : FlashKind → Phase → ℕ
listed_before Image p = 0
listed_before Hash p = 1
listed_before Verify p = 2
listed_before Update p = 3
listed_before Cleanup Idle = 2
listed_before Cleanup Uploading = 3
listed_before Cleanup Verified = 4

-- a name as it is sent (rule 8.4)
abbrev pub with_nul : List ℕ → Reply
with_nul n = reply (n ++ (0 ∷ []))

-- ---- the committed names
length-only : (y : Bool) (n : List ℕ) → length (only y n) ≡ cond y 1 0
length-only true n = refl
length-only false n = refl

length-committed : (n : ℕ) (s : State) → length (committed_names n s) ≡ committed_below n s
unfolding committed_names committed_below
length-committed zero s = refl
length-committed (suc k) s =
    length-append (committed_names k s) (only (eqb (slot_at k s).mark 1) (text (slot_at k s).name))
    ∙ (λ i. length-committed k s i + length-only (eqb (slot_at k s).mark 1) (text (slot_at k s).name) i)

-- a committed slot is counted behind it
below_more : (n k : ℕ) (s : State) → k < n → (slot_at k s).mark ≡ 1 → committed_below k s < committed_below n s
unfolding committed_below
below_more zero k s l m = absurd (omega arith)
below_more (suc n) k s l m = go (ℕ_discrete k n) (below_more n k s)
  where
    go : Dec (k ≡ n) → (k < n → (slot_at k s).mark ≡ 1 → committed_below k s < committed_below n s) → committed_below k s < committed_below n s + cond (eqb (slot_at n s).mark 1) 1 0
    go (yes e) ih =
        let one : ◌≡◌ {A = ℕ} (cond (eqb (slot_at n s).mark 1) 1 0) 1 = ap (λ (y : Bool). cond y 1 0) (eq-eqb (slot_at n s).mark 1 (sym (ap (λ (x : ℕ). (slot_at x s).mark) e) ∙ m)) in
        let same : committed_below k s ≡ committed_below n s = ap (λ (x : ℕ). committed_below x s) e in
        omega arith
    go (no d) ih = let h = ih (omega arith) m in omega arith

committed-at : (n k : ℕ) (s : State) → k < n → (slot_at k s).mark ≡ 1 → get_or (committed_names n s) (committed_below k s) [] ≡ text (slot_at k s).name
unfolding committed_names
committed-at zero k s l m = absurd (omega arith)
committed-at (suc n) k s l m = go (ℕ_discrete k n) (committed-at n k s)
  where
    here : List (List ℕ)
    here = only (eqb (slot_at n s).mark 1) (text (slot_at n s).name)

    go : Dec (k ≡ n) → (k < n → (slot_at k s).mark ≡ 1 → get_or (committed_names n s) (committed_below k s) [] ≡ text (slot_at k s).name)
        → get_or (committed_names n s ++ only (eqb (slot_at n s).mark 1) (text (slot_at n s).name)) (committed_below k s) [] ≡ text (slot_at k s).name
    go (yes e) ih =
        ap (λ (i : ℕ). get_or (committed_names n s ++ here) i []) (ap (λ (x : ℕ). committed_below x s) e ∙ sym (length-committed n s) ∙ omega arith)
        ∙ get_or-append-add (committed_names n s) here 0 []
        ∙ ap (λ (y : Bool). get_or (only y (text (slot_at n s).name)) 0 []) (eq-eqb (slot_at n s).mark 1 (sym (ap (λ (x : ℕ). (slot_at x s).mark) e) ∙ m))
        ∙ sym (ap (λ (x : ℕ). text (slot_at x s).name) e)
    go (no d) ih =
        let h = below_more n k s (omega arith) m in
        get_or-append (committed_names n s) here [] (committed_below k s) (subst (λ (x : ℕ). committed_below k s < x) (sym (length-committed n s)) h) ∙ ih (omega arith) m

-- ---- the flash names
flash-at : (k : FlashKind) (p : Phase) → flash_listed k p ≡ true → (get_or (flash_names p) (listed_before k p) [] ≡ flash_name k) × (listed_before k p < length (flash_names p))
unfolding flash_names flash_listed
flash-at Image Idle h = (refl, omega arith)
flash-at Image Uploading h = (refl, omega arith)
flash-at Image Verified h = (refl, omega arith)
flash-at Hash Idle h = (refl, omega arith)
flash-at Hash Uploading h = (refl, omega arith)
flash-at Hash Verified h = (refl, omega arith)
flash-at Verify Idle h = absurd (let z : ◌≡◌ {A = ℕ} 0 1 = cc in omega arith)
flash-at Verify Uploading h = (refl, omega arith)
flash-at Verify Verified h = (refl, omega arith)
flash-at Update Idle h = absurd (let z : ◌≡◌ {A = ℕ} 0 1 = cc in omega arith)
flash-at Update Uploading h = absurd (let z : ◌≡◌ {A = ℕ} 0 1 = cc in omega arith)
flash-at Update Verified h = (refl, omega arith)
flash-at Cleanup Idle h = (refl, omega arith)
flash-at Cleanup Uploading h = (refl, omega arith)
flash-at Cleanup Verified h = (refl, omega arith)

-- ---- in the list
sends : (i : ℕ) (n : List ℕ) (s : State) → i < count s → get_or (listed s) i [] ≡ n → enumerated i s ≡ with_nul n
sends i n s l e = ap (λ (y : Bool). cond y (with_nul (get_or (listed s) i [])) (refused out_of_range)) (lt-ltb i (count s) l) ∙ ap with_nul e

counts : (s : State) → count s ≡ suc (committed_below slot_count s + length (flash_names s.flash_group.phase))
unfolding listed
counts s = ap suc (length-append (committed_names slot_count s) (flash_names s.flash_group.phase) ∙ ap (λ (x : ℕ). x + length (flash_names s.flash_group.phase)) (length-committed slot_count s))

-- what every Enumerate of a listed name is answered
pub record Listed (s : State) : Type 0 where
  pub base-first : enumerated 0 s ≡ with_nul base
  pub scan-listed : (k : ℕ) → k < slot_count → (slot_at k s).mark ≡ 1 → enumerated (suc (committed_below k s)) s ≡ with_nul (text (slot_at k s).name)
  pub flash-listed : (k : FlashKind) → flash_listed k s.flash_group.phase ≡ true → enumerated (suc (committed_below slot_count s + listed_before k s.flash_group.phase)) s ≡ with_nul (flash_name k)

-- EVERY LISTED NAME IS SENT AT ITS PLACE, WITH ITS NUL (rules 8.1, 8.2 and 8.4)
pub all_listed : (s : State) → Listed s
unfolding listed
all_listed s = record {
  base-first = sends 0 base s (let c = counts s in omega arith) refl;
  scan-listed = λ (k : ℕ) (l : k < slot_count) (m : (slot_at k s).mark ≡ 1).
      let h = below_more slot_count k s l m in
      sends (suc (committed_below k s)) (text (slot_at k s).name) s (let c = counts s in omega arith)
      (get_or-append (committed_names slot_count s) (flash_names s.flash_group.phase) [] (committed_below k s) (subst (λ (x : ℕ). committed_below k s < x) (sym (length-committed slot_count s)) h)
      ∙ committed-at slot_count k s l m);
  flash-listed = λ (k : FlashKind) (h : flash_listed k s.flash_group.phase ≡ true).
      let f = flash-at k s.flash_group.phase h in
      let short = f.1 in
      sends (suc (committed_below slot_count s + listed_before k s.flash_group.phase)) (flash_name k) s (let c = counts s in omega arith)
      (ap (λ (x : ℕ). get_or (committed_names slot_count s ++ flash_names s.flash_group.phase) (x + listed_before k s.flash_group.phase) []) (sym (length-committed slot_count s))
      ∙ get_or-append-add (committed_names slot_count s) (flash_names s.flash_group.phase) (listed_before k s.flash_group.phase) [] ∙ f.0);
}
