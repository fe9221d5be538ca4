-- Loops over a store file: what is still to come says the whole. Assumes nothing.
use mathlib.Core.Path.{◌≡◌, sym, ◌∙◌, ap}
use mathlib.Core.Bool.{Bool, true, false, ◌&&◌}
use mathlib.Core.List.{List, [], ◌∷◌}
use Prim.Native.Nat.{ℕ, suc, ◌+◌, ◌≤◌, ◌<◌}
use native.Mathlib.Nat.{zero-add, add-zero}
use native.Mathlib.Omega.{arith}
use borrow.Author.Tests.{eq-eqb, ne_eqb, lt-ltb, le-ltb}
use Rattle.laws.specs.Bytes.{same}
use lib.ListN.{length}
use Rattle.protocol.specs.Numbers.{success}
use Rattle.protocol.specs.Names.{base}
use Rattle.std.specs.Prelude.{Ok, Err}
use Rattle.protocol.specs.declared.Code.{Code}
use Rattle.laws.specs.Merge.{All}
use Rattle.wire.specs.declared.Field.{Field}
use Rattle.wire.specs.Fields.{store_keys, field_at}
use Rattle.protocol.specs.Verdict.{verdict}
use Rattle.wire.proofs.Standing.{Stands, stand-turn}
use Rattle.protocol.proofs.Verdicts.{verdict-good, verdict-bad, good-verdict, bad-verdict}
use Rattle.wire.proofs.FaultCodes.{fault-coded}
use Rattle.wire.specs.Walk.{Walked, walk_with, walk, last}
use Rattle.wire.proofs.Steps.{step_end, step-fault, step-on, step-inside}
use Rattle.store_file.specs.Messages.{Scan, blob_field, scan_at, inside, store_in, scans_at, Reading, reading}
use Rattle.protocol.specs.Numbers.{wrong_base, bad_name, repeated_name, long_data, many_blobs}
use Rattle.store_file.specs.Loaded.{every, different, reason}
use Rattle.store_file.specs.Scans.{scans_from, scans_in}
use Rattle.store_file.specs.ScanLaws.{Unread, Here, clean-items, every-end, every-step}
use Rattle.store_check.specs.Tests.{named_right, sized_right, AllTested}

-- ---- the first wire fault
module _ (f : List ℕ) (at : ℕ) (h : (store_in f).fault ≡ (walk_with store_keys (inside f) f at (length f)).fault) where
  pub store-end : length f ≤ at → Ok tt ≡ verdict (store_in f).fault
  store-end l = verdict-good _ (h ∙ ap (λ (w : Walked). w.fault) (step_end store_keys (inside f) f at (length f) l))

  pub store_found : (c : Code) → at < length f → field_at store_keys f at (length f) ≡ Err c → Err c ≡ verdict (store_in f).fault
  store_found c l e =
      verdict-bad c _ (sym (h ∙ ap (λ (w : Walked). w.fault) (step-fault store_keys (inside f) f at (length f) c.0 l e))) (fault-coded store_keys f at (length f) c e)

  module _ (n k start next : ℕ) (x : Here f at n k start next) where
    inside-blob : n ≡ 2 → inside f (record { number = n; kind = k; start = start; next = next }) ≡ (walk store_keys f start next).fault
    inside-blob q = rw (eq-eqb n 2 q)

    pub store-inner : (c : Code) → n ≡ 2 → verdict (walk store_keys f start next).fault ≡ Err c → Err c ≡ verdict (store_in f).fault
    store-inner c q r =
        let p = bad-verdict c _ r in
        verdict-bad c _ (sym (h ∙ ap (λ (w : Walked). w.fault)
        (step-inside store_keys (inside f) f at (length f) n k start next x.inside x.field c.0 (inside-blob q ∙ sym p.0) p.1))) p.1

    pub store-blob : n ≡ 2 → verdict (walk store_keys f start next).fault ≡ Ok tt → (store_in f).fault ≡ (walk_with store_keys (inside f) f next (length f)).fault
    store-blob q r =
        h ∙ ap (λ (w : Walked). w.fault) (step-on store_keys (inside f) f at (length f) n k start next x.inside x.field (inside-blob q ∙ good-verdict _ r))

    pub store_other : (n ≡ 2 → ⊥) → (store_in f).fault ≡ (walk_with store_keys (inside f) f next (length f)).fault
    store_other q = h ∙ ap (λ (w : Walked). w.fault) (step-on store_keys (inside f) f at (length f) n k start next x.inside x.field (rw (ne_eqb n 2 q)))

-- ---- all blobs
-- what is found of the blobs so far, and what is left of them
pub record Testing (f : List ℕ) (blobs : List Field) (names sizes : Bool) (count : ℕ) : Type 0 where
  pub names-left : every named_right (scans_from f 0) ≡ (names && every named_right (scans_in f blobs))
  pub sizes-left : every sized_right (scans_from f 0) ≡ (sizes && every sized_right (scans_in f blobs))
  pub count_left : length (scans_from f 0) ≡ count + length (scans_in f blobs)
  pub few : count + length blobs ≤ length f
  pub stand : All (Stands blob_field (length f)) blobs

pub testing-start : (f : List ℕ) (blobs : List Field) → Unread f blobs → Testing f blobs true true 0
testing-start f blobs u = record {
  names-left = ap (every named_right) u.scans;
  sizes-left = ap (every sized_right) u.scans;
  count_left = ap length u.scans ∙ sym (zero-add _);
  few = omega (arith, u.few);
  stand = u.stand;
}

module _ (f : List ℕ) (blobs : List Field) (names sizes : Bool) (count : ℕ) (h : Testing f blobs names sizes count) where
  pub testing-end : blobs ≡ [] → AllTested f names sizes count
  testing-end e =
      let z : scans_in f blobs ≡ [] = ap (scans_in f) e in
      record {
        names-are = every-end named_right _ names _ h.names-left z;
        sizes-are = every-end sized_right _ sizes _ h.sizes-left z;
        count-is = sym (h.count_left ∙ ap (λ (y : List Scan). count + length y) z ∙ add-zero count);
      }

  module _ (blob : Field) (rest : List Field) (e : blobs ≡ blob ∷ rest) where
    pub testing-more : (name size : Bool) → name ≡ named_right (scan_at f blob) → size ≡ sized_right (scan_at f blob) → Testing f rest (names && name) (sizes && size) (count + 1)
    testing-more name size p q =
        let s : scans_in f blobs ≡ scan_at f blob ∷ scans_in f rest = ap (scans_in f) e in
        let l : length (scans_in f blobs) ≡ suc (length (scans_in f rest)) = ap length s in
        let k : length blobs ≡ suc (length rest) = ap length e in
        record {
          names-left = every-step named_right _ names name _ _ _ h.names-left s p;
          sizes-left = every-step sized_right _ sizes size _ _ _ h.sizes-left s q;
          count_left = h.count_left ∙ (let z : count + length (scans_in f blobs) ≡ count + 1 + length (scans_in f rest) = omega arith in z);
          few = omega (arith, h.few);
          stand = (stand-turn blob rest e h.stand).1;
        }

-- ---- each way through the reasons
module _ (f : List ℕ) where
  pub reason-fault : (c : Code) → verdict (store_in f).fault ≡ Err c → Err c ≡ verdict (reason (reading f))
  unfolding reason reading
  reason-fault c e =
      let p = bad-verdict c _ e in
      let r : c.0 ≡ reason (reading f) = rw (← p.0, ne_eqb c.0 0 p.1) in
      verdict-bad c _ r p.1

  module _ (z : (store_in f).fault ≡ 0) where
    abbrev found : Reading
    found = record { fault = 0; base = last f 1 (walk store_keys f 0 (length f)).items; scans = scans_from f 0 }

    found-is : reading f ≡ record { fault = 0; base = last f 1 (walk store_keys f 0 (length f)).items; scans = scans_from f 0 }
    unfolding reading
    found-is = let i = clean-items f z in λ j. record { fault = z j; base = last f 1 (i j); scans = scans_at f (i j) }

    pub reason-base : same (last f 1 (walk store_keys f 0 (length f)).items) base ≡ false → wrong_base ≡ reason (reading f)
    unfolding reason
    reason-base a = rw (found-is, a)

    module _ (a : same (last f 1 (walk store_keys f 0 (length f)).items) base ≡ true) where
      pub reason-name : every named_right (scans_from f 0) ≡ false → bad_name ≡ reason (reading f)
      unfolding reason
      reason-name b = rw (found-is, a, b)

      module _ (b : every named_right (scans_from f 0) ≡ true) where
        pub reason-repeated : different (scans_from f 0) ≡ false → repeated_name ≡ reason (reading f)
        unfolding reason
        reason-repeated c = rw (found-is, a, b, c)

        module _ (c : different (scans_from f 0) ≡ true) where
          pub reason-long : every sized_right (scans_from f 0) ≡ false → long_data ≡ reason (reading f)
          unfolding reason
          reason-long d = rw (found-is, a, b, c, d)

          module _ (d : every sized_right (scans_from f 0) ≡ true) where
            pub reason-many : 16 < length (scans_from f 0) → many_blobs ≡ reason (reading f)
            unfolding reason
            reason-many e = rw (found-is, a, b, c, d, lt-ltb 16 (length (scans_from f 0)) e)

            pub reason-none : length (scans_from f 0) ≤ 16 → success ≡ reason (reading f)
            unfolding reason
            reason-none e = rw (found-is, a, b, c, d, le-ltb 16 (length (scans_from f 0)) e)
