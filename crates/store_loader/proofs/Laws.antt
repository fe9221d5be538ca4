-- Slots filled one after the other, and each way through the reader. Assumes nothing.
use mathlib.Core.Path.{◌≡◌, refl, sym, ◌∙◌, ap, subst}
use mathlib.Core.Bool.{Bool, true, false, not, cond}
use mathlib.Core.List.{List, [], ◌∷◌}
use Prim.Native.Nat.{ℕ, suc, ◌+◌, ◌*◌, ◌≤◌, ◌<◌}
use native.Mathlib.Numerals.{add-one}
use native.Mathlib.Omega.{arith}
use lib.Dec.{eqb, leb}
use borrow.Author.Tests.{leb-true, eqb-true, ne_eqb}
use lib.ListN.{length, replicate}
use Rattle.laws.specs.All.{and-true}
use Rattle.laws.specs.Ranges.{block, block-fits, block-steady, part-replicate}
use Rattle.protocol.specs.Numbers.{success, not_sound, session_open, slot_count, slot_size, name_size}
use Rattle.protocol.specs.Names.{store_name}
use Rattle.protocol.proofs.Naming.{name-fits}
use Rattle.state.specs.declared.Control.{Control}
use Rattle.state.specs.declared.row.Place.TheVariants.{AtSlot}
use Rattle.state.specs.State.{State, state_of, in_store, in_body}
use Rattle.state.specs.Words.{fresh}
use Rattle.state.specs.Soundness.{is_sound}
use Rattle.store_file.specs.Messages.{Scan, blob_field, scan_at, store_in, scans_at, reading}
use Rattle.store_file.specs.Loaded.{every, store_open, reason, slot_with, filled_from, stored, refused, loaded}
use Rattle.store_file.specs.Storable.{Storable, storable}
use Rattle.store_file.specs.Scans.{scans_from, scans_in}
use Rattle.laws.specs.Merge.{All}
use Rattle.wire.specs.declared.Field.{Field}
use Rattle.std.specs.Prelude.{Err}
use Rattle.protocol.specs.declared.Code.{Code}
use Rattle.protocol.specs.Verdict.{verdict}
use Rattle.protocol.proofs.Verdicts.{bad-verdict}
use Rattle.wire.proofs.Standing.{Stands, stand-turn}
use Rattle.store_file.specs.ScanLaws.{Unread, clean-items}
use Rattle.store_loader.specs.Filling.{Fitting, filling}

-- ---- one blob
-- a block of zeros stays where all is zero
pub zero-block : (n k m : ℕ) (l : List ℕ) → k < m → l ≡ replicate (m * n) 0 → l ≡ (block n k).put (replicate n 0) l
zero-block n k m l h e =
    let g : (block n k).get l ≡ replicate n 0 = ap (block n k).get e ∙ part-replicate (k * n) n (m * n) 0 (block-fits n k m h) in
    sym (block-steady 0 n k l) ∙ ap (λ (w : List ℕ). (block n k).put w l) g

-- the name fits its field
pub name-short : (f : List ℕ) (blob : Field) → Fitting f blob → length (scan_at f blob).name ≤ name_size
name-short f blob h = name-fits (scan_at f blob).name h.named

-- ---- all blobs: what is filled, and what is left
pub record Filled (f : List ℕ) (names₀ committed₀ : List ℕ) (before : Control) (names committed : List ℕ) (kept : Control) (k : ℕ) (blobs : List Field) : Type 0 where
  pub few : k + length (scans_in f blobs) ≤ slot_count
  pub named : every (λ (x : Scan). store_name x.name) (scans_in f blobs) ≡ true
  pub sized : every (λ (x : Scan). leb (length x.bytes) slot_size) (scans_in f blobs) ≡ true
  pub stand : All (Stands blob_field (length f)) blobs
  pub names-long : length names ≡ length names₀
  pub committed-long : length committed ≡ length committed₀
  pub left : (table staged image hash : List ℕ) → staged ≡ replicate (slot_count * slot_size) 0
      → filling 0 (scans_from f 0) (state_of before table names₀ committed₀ staged image hash) ≡ filling k (scans_in f blobs) (state_of kept table names committed staged image hash)

pub filled-start : (f names committed : List ℕ) (v : Control) (blobs : List Field) → Storable (scans_from f 0) → Unread f blobs → Filled f names committed v names committed v 0 blobs
filled-start f names committed v blobs h u = record {
  few = let e : length (scans_from f 0) ≡ length (scans_in f blobs) = ap length u.scans in omega (arith, h.few);
  named = sym (ap (every (λ (x : Scan). store_name x.name)) u.scans) ∙ h.names;
  sized = sym (ap (every (λ (x : Scan). leb (length x.bytes) slot_size)) u.scans) ∙ h.sizes;
  stand = u.stand;
  names-long = refl;
  committed-long = refl;
  left = λ table staged image hash z. ap (λ (xs : List Scan). filling 0 xs (state_of v table names committed staged image hash)) u.scans;
}

-- what a list that passes says of its first blob and of the rest
first_of : (p : Scan → Bool) (x : Scan) (xs ys : List Scan) → every p ys ≡ true → ys ≡ x ∷ xs → (p x ≡ true) × (every p xs ≡ true)
unfolding every
first_of p x xs ys h e = and-true (p x) (every p xs) (sym (ap (every p) e) ∙ h)

module _ (f names₀ committed₀ : List ℕ) (v : Control) (names committed : List ℕ) (kept : Control) (k : ℕ) (blobs : List Field) (s : Filled f names₀ committed₀ v names committed kept k blobs) where
  -- the end
  pub filled-end : blobs ≡ [] → (table staged image hash : List ℕ) → staged ≡ replicate (slot_count * slot_size) 0
      → state_of kept table names committed staged image hash ≡ filling 0 (scans_from f 0) (state_of v table names₀ committed₀ staged image hash)
  unfolding filled_from
  filled-end e table staged image hash z =
      sym (s.left table staged image hash z ∙ ap (λ (xs : List Scan). filling k xs (state_of kept table names committed staged image hash)) (ap (scans_in f) e))

  module _ (blob : Field) (rest : List Field) (q : blobs ≡ blob ∷ rest) where
    e : scans_in f blobs ≡ scan_at f blob ∷ scans_in f rest
    e = ap (scans_in f) q

    room : k + suc (length (scans_in f rest)) ≤ slot_count
    room = let l : length (scans_in f blobs) ≡ suc (length (scans_in f rest)) = ap length e in omega (arith, s.few)

    pub filled-room : k < slot_count
    filled-room = omega (arith, room)

    pub filled-fits : Fitting f blob
    filled-fits = record {
      inside = (stand-turn blob rest q s.stand).0.within;
      named = (first_of (λ (y : Scan). store_name y.name) _ _ _ s.named e).0;
      sized = leb-true _ _ (first_of (λ (y : Scan). leb (length y.bytes) slot_size) _ _ _ s.sized e).0;
    }

    -- a blob
    pub filled_more : (names' committed' : List ℕ) (more : Control) → length names' ≡ length names → length committed' ≡ length committed
        → ((table staged image hash : List ℕ) → staged ≡ replicate (slot_count * slot_size) 0
        → state_of more table names' committed' staged image hash ≡ (in_body (AtSlot k)).put (slot_with (scan_at f blob)) (state_of kept table names committed staged image hash))
        → Filled f names₀ committed₀ v names' committed' more (k + 1) rest
    unfolding filled_from
    filled_more names' committed' more n₁ n₂ h =
        record {
          few = omega (arith, room);
          named = (first_of (λ (y : Scan). store_name y.name) _ _ _ s.named e).1;
          sized = (first_of (λ (y : Scan). leb (length y.bytes) slot_size) _ _ _ s.sized e).1;
          stand = (stand-turn blob rest q s.stand).1;
          names-long = n₁ ∙ s.names-long;
          committed-long = n₂ ∙ s.committed-long;
          left = λ table staged image hash z.
              s.left table staged image hash z
              ∙ ap (λ (xs : List Scan). filling k xs (state_of kept table names committed staged image hash)) e
              ∙ ap (filling (suc k) (scans_in f rest)) (sym (h table staged image hash z))
              ∙ ap (λ (j : ℕ). filling j (scans_in f rest) (state_of more table names' committed' staged image hash)) (sym (add-one k));
        }

-- ---- each way through the reader
no-fault : (a rest : ℕ) → cond (not (eqb a 0)) a rest ≡ 0 → a ≡ 0
no-fault a rest q = go (eqb a 0) refl q
  where
    go : (y : Bool) → eqb a 0 ≡ y → cond (not y) a rest ≡ 0 → a ≡ 0
    go true e z = eqb-true a 0 e
    go false e z = z

-- a file against which there is no reason has no wire fault, and its blobs are those that a walk finds
clean : (f : List ℕ) → reason (reading f) ≡ success → (store_in f).fault ≡ 0
unfolding reason reading
clean f q = no-fault (store_in f).fault _ q

pub clean-storable : (f : List ℕ) → reason (reading f) ≡ success → Storable (scans_from f 0)
unfolding reading
clean-storable f q = subst (λ (is : List Field). Storable (scans_at f is)) (clean-items f (clean f q)) (storable (reading f) q)

module _ (f : List ℕ) (s : State) where
  pub load-unsound : is_sound s ≡ false → refused not_sound s ≡ loaded f s
  unfolding loaded
  load-unsound h = rw h

  module _ (h : is_sound s ≡ true) where
    pub load-open : store_open s ≡ true → refused session_open s ≡ loaded f s
    unfolding loaded
    load-open o = rw (h, o)

    module _ (o : store_open s ≡ false) where
      pub load-refused : (c : Code) → verdict (reason (reading f)) ≡ Err c → refused c.0 s ≡ loaded f s
      unfolding loaded
      load-refused c e =
          let p = bad-verdict c _ e in
          rw (h, o, ← p.0, ne_eqb c.0 0 p.1)

      pub load_stored : reason (reading f) ≡ success → record { code = success; state = filling 0 (scans_from f 0) (in_store.put fresh.store s) } ≡ loaded f s
      unfolding loaded stored reading
      load_stored q =
          ap (λ (is : List Field). record { code = success; state = in_store.put (filled_from 0 (scans_at f is) fresh.store) s }) (sym (clean-items f (clean f q)))
          ∙ sym (rw (h, o, q))
