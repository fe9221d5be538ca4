-- What there is no reason against can be stored. Assumes nothing.
use Rattle.std.specs.Prelude.{◌≡◌, refl, Bool, true, false, not, cond, List, ◌≤◌, eqb, leb, ltb, length}
use Rattle.std.proofs.Common.{arith, ltb-false}
use Rattle.std.proofs.lemmas.Bool.{eqb-false}
use Rattle.laws.specs.Bytes.{same}
use Rattle.protocol.specs.Numbers.{success, wrong_base, bad_name, repeated_name, long_data, many_blobs, slot_count, slot_size}
use Rattle.protocol.specs.Names.{base, store_name}
use Rattle.store_file.specs.Messages.{Scan, Reading}
use Rattle.store_file.specs.Loaded.{every, different, reason}

-- a list of blobs that the slots can take
pub record Storable (xs : List Scan) : Type 0 where
  pub few : length xs ≤ slot_count
  pub names : every (λ (x : Scan). store_name x.name) xs ≡ true
  pub apart : different xs ≡ true
  pub sizes : every (λ (x : Scan). leb (length x.bytes) slot_size) xs ≡ true

-- where there is no reason against what was read, its list is one
pub storable : (r : Reading) → reason r ≡ success → Storable r.scans
unfolding reason
storable r h = go
    (eqb r.fault 0) (same r.base base) (every (λ (x : Scan). store_name x.name) r.scans) (different r.scans)
    (every (λ (x : Scan). leb (length x.bytes) slot_size) r.scans) (ltb slot_count (length r.scans)) refl refl refl refl refl refl h
  where
    go : (a b c d e f : Bool) → eqb r.fault 0 ≡ a → same r.base base ≡ b → every (λ (x : Scan). store_name x.name) r.scans ≡ c → different r.scans ≡ d
        → every (λ (x : Scan). leb (length x.bytes) slot_size) r.scans ≡ e → ltb slot_count (length r.scans) ≡ f
        → cond (not a) r.fault (cond (not b) wrong_base (cond (not c) bad_name (cond (not d) repeated_name (cond (not e) long_data (cond f many_blobs success))))) ≡ success
        → Storable r.scans
    go false b c d e f pa pb pc pd pe pf q = absurd (eqb-false _ _ pa q)
    go true false c d e f pa pb pc pd pe pf q = absurd (omega arith)
    go true true false d e f pa pb pc pd pe pf q = absurd (omega arith)
    go true true true false e f pa pb pc pd pe pf q = absurd (omega arith)
    go true true true true false f pa pb pc pd pe pf q = absurd (omega arith)
    go true true true true true true pa pb pc pd pe pf q = absurd (omega arith)
    go true true true true true false pa pb pc pd pe pf q = record { few = ltb-false _ _ pf; names = pc; apart = pd; sizes = pe }
