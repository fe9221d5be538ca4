-- In a sound state one slot at most has a name: where it is committed, it is the slot that the name finds. Assumes nothing.
use Rattle.std.specs.Prelude.{◌≡◌, refl, ◌≢◌, ◌⊎◌, Bool, List, ℕ, ◌<◌}
use Rattle.std.proofs.Common.{sym, ◌∙◌, subst, inl, inr, arith, eqb-true, eq-eqb}
use Rattle.std.proofs.Math.Path.{ap}
use Rattle.std.proofs.Math.Bool.{true, false}
use Rattle.std.proofs.Math.Option.{Option, none, some}
use Rattle.std.proofs.Math.Dec.{eqb}
use Rattle.laws.specs.All.{and-true, and_both}
use Rattle.laws.specs.Bytes.{same, same_true, eq-same, padded}
use Rattle.laws.specs.Find.{first, first_some, found, and-false}
use Rattle.protocol.specs.Numbers.{slot_count, name_size}
use Rattle.state.specs.declared.row.Place.{Place}
use Rattle.state.specs.declared.row.Place.TheVariants.{AtSlot}
use Rattle.state.specs.State.{State, Slot, place_of, in_row, in_body}
use Rattle.state.specs.Words.{blob, Live, word_of, ident}
use Rattle.state.specs.Soundness.{slot_at}
use Rattle.state.specs.Facts.{StoreFacts, Session, Sound}
use Rattle.state.specs.Parts.{Separate}
use Rattle.state.specs.Agree.{Holder, holder}
use Rattle.rules.specs.Checks.{whether}
use Rattle.rules.specs.Lookup.{holds, slot_named}
use Rattle.rules.proofs.Committed.{Scan, scan_in, has_name, committed_as}
use Rattle.scans.proofs.Scan.{scan_of}

-- what the test says of a slot
pub committed-says : (n : List ℕ) (b : Slot) → committed_as n b ≡ true → (b.mark ≡ 1) × (b.name ≡ padded name_size n)
unfolding committed_as
committed-says n b h = let a = and-true (eqb b.mark 1) (has_name n b) h in (eqb-true b.mark 1 a.0, same_true b.name (padded name_size n) a.1)

-- and what it takes
pub committed-is : (n : List ℕ) (b : Slot) → b.mark ≡ 1 → b.name ≡ padded name_size n → committed_as n b ≡ true
unfolding committed_as
committed-is n b m e = and_both (eqb b.mark 1) (has_name n b) (eq-eqb b.mark 1 m) (eq-same b.name (padded name_size n) e)

module _ (s : State) (g : Sound s) where
  -- a committed slot is in use
  pub marked-held : (k : ℕ) → k < slot_count → (slot_at k s).mark ≡ 1 → (slot_at k s).held ≡ 1
  marked-held k h m = go (holder s (AtSlot k))
    where
      go : Holder s (AtSlot k) ⊎ ((r : ℕ) → Live r s → Separate (place_of (blob r s)) (AtSlot k)) → (slot_at k s).held ≡ 1
      go (inl o) =
          let f : StoreFacts k (ident o.row s) (blob o.row s) (word_of ((in_row o.row).get s)) (slot_at k s)
          = subst (λ (w : Place). Session w ((in_row o.row).get s) ((in_body w).get s)) o.there (g.session o.row o.live) in
          f.is_held
      go (inr f) = (g.loose (AtSlot k) h f).held-marked ∙ m

  module _ (n : List ℕ) (k : ℕ) (low : k < slot_count) (held : (slot_at k s).held ≡ 1) (name : (slot_at k s).name ≡ padded name_size n) where
    -- no other slot has its name
    other_name : (j : ℕ) → j < slot_count → j ≢ k → (slot_at j s).held ≡ 1 → (slot_at j s).name ≢ padded name_size n
    other_name j l m h e = g.names-differ j k l low m h held (e ∙ sym name)

    -- so the name finds it
    pub named-at : slot_named n s ≡ some k
    unfolding slot_named
    named-at = first_some (holds n s) slot_count k low
        (and_both (eqb (slot_at k s).held 1) (same (slot_at k s).name (padded name_size n)) (eq-eqb _ _ held) (eq-same _ _ name))
        (λ (j : ℕ) (l : j < slot_count) (m : j ≢ k). and-false (eqb (slot_at j s).held 1) (same (slot_at j s).name (padded name_size n))
        (λ (u : eqb (slot_at j s).held 1 ≡ true). go j l m (eqb-true _ _ u) (same (slot_at j s).name (padded name_size n)) refl))
      where
        go : (j : ℕ) → j < slot_count → j ≢ k → (slot_at j s).held ≡ 1 → (y : Bool) → same (slot_at j s).name (padded name_size n) ≡ y → same (slot_at j s).name (padded name_size n) ≡ false
        go j l m u true e = absurd (other_name j l m u (same_true _ _ e))
        go j l m u false e = e

    -- and what it has committed is the scan under the name
    pub scan-at : (slot_at k s).mark ≡ 1 → scan_of n s ≡ some (scan_in (slot_at k s))
    unfolding scan_of
    scan-at m = ap (λ (o : Option ℕ). whether o (λ (j : ℕ). some (scan_in (slot_at j s))) none)
        (first_some (λ (j : ℕ). committed_as n (slot_at j s)) slot_count k low (committed-is n (slot_at k s) m name)
        (λ (j : ℕ) (l : j < slot_count) (d : j ≢ k). go j l d (committed_as n (slot_at j s)) refl))
      where
        go : (j : ℕ) → j < slot_count → j ≢ k → (y : Bool) → committed_as n (slot_at j s) ≡ y → committed_as n (slot_at j s) ≡ false
        go j l d true e = let c = committed-says n (slot_at j s) e in absurd (other_name j l d (marked-held j l c.0) c.1)
        go j l d false e = e

-- the slot that a committed scan stands in
pub record Stands (n : List ℕ) (x : Scan) (s : State) : Type 0 where
  pub slot : ℕ
  pub low : slot < slot_count
  pub committed : committed_as n (slot_at slot s) ≡ true
  pub is-scan : scan_in (slot_at slot s) ≡ x

pub scan-slot : (n : List ℕ) (x : Scan) (s : State) → scan_of n s ≡ some x → Stands n x s
unfolding scan_of
scan-slot n x s h = go (first (λ (k : ℕ). committed_as n (slot_at k s)) slot_count) refl h
  where
    go : (o : Option ℕ) → first (λ (k : ℕ). committed_as n (slot_at k s)) slot_count ≡ o → ◌≡◌ {A = Option Scan} (whether o (λ (k : ℕ). some (scan_in (slot_at k s))) none) (some x) → Stands n x s
    go none e q = absurd (let z : ◌≡◌ {A = ℕ} 0 1 = cc in omega arith)
    go (some k) e q = let f = found (λ (j : ℕ). committed_as n (slot_at j s)) slot_count k e in record { slot = k; low = f.low; committed = f.passes; is-scan = cc }
