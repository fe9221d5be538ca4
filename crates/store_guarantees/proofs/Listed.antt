-- The names of the saved list are the committed names that Enumerate lists. Assumes nothing.
use Rattle.std.specs.Prelude.{◌≡◌, refl, Bool, true, false, cond, List, [], ◌∷◌, ◌++◌, map, ℕ, zero, suc, eqb}
use Rattle.std.proofs.Common.{sym, ◌∙◌, ap}
use Rattle.std.proofs.lemmas.List.{map-append}
use Rattle.laws.specs.Bits.{bit}
use Rattle.laws.specs.Bytes.{text}
use Rattle.protocol.specs.Numbers.{slot_count}
use Rattle.state.specs.State.{State}
use Rattle.state.specs.Soundness.{slot_at}
use Rattle.rules.specs.Listing.{only, committed_names}
use Rattle.store_file.specs.Messages.{Scan}
use Rattle.store_file.specs.Saved.{places_below, committed_slots, scan_of, scans_of}

names-below : (s : State) (n : ℕ) → committed_names n s ≡ map (λ (k : ℕ). text (slot_at k s).name) (places_below s.store.marks n)
unfolding committed_names places_below
names-below s zero = refl
names-below s (suc n) = go (eqb (bit n s.store.marks) 1) (names-below s n)
  where
    g : ℕ → List ℕ
    g k = text (slot_at k s).name

    go : (b : Bool) → committed_names n s ≡ map g (places_below s.store.marks n)
        → committed_names n s ++ only b (g n) ≡ map g (places_below s.store.marks n ++ cond b (n ∷ []) [])
    go true ih = ap (λ (l : List (List ℕ)). l ++ (g n ∷ [])) ih ∙ sym (map-append g (places_below s.store.marks n) (n ∷ []))
    go false ih = ap (λ (l : List (List ℕ)). l ++ []) ih ∙ sym (map-append g (places_below s.store.marks n) [])

twice : (s : State) (ks : List ℕ) → map (λ (x : Scan). x.name) (map (λ (k : ℕ). scan_of (slot_at k s)) ks) ≡ map (λ (k : ℕ). text (slot_at k s).name) ks
twice s [] = refl
twice s (k ∷ ks) = ap (λ (l : List (List ℕ)). text (slot_at k s).name ∷ l) (twice s ks)

-- THE NAMES SAVED ARE THE NAMES LISTED (rule 21.20)
pub saved-listed : (s : State) → map (λ (x : Scan). x.name) (scans_of s) ≡ committed_names slot_count s
unfolding scans_of
saved-listed s = twice s (committed_slots s) ∙ sym (names-below s slot_count)
