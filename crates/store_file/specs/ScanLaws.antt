-- The blobs of a file, step by step. Assumes nothing.
use Rattle.std.specs.Prelude.{◌≡◌, refl, Result, Ok, Err, Bool, true, false, cond, ◌&&◌, List, [], ◌∷◌, ℕ, zero, suc, ◌-◌, ◌≤◌, ◌<◌, eqb, ltb, length}
use Rattle.std.proofs.Common.{sym, ◌∙◌, arith, eq-eqb, ne_eqb}
use Rattle.std.proofs.Math.Path.{ap}
use Rattle.std.proofs.lemmas.Bool.{eqb-false}
use Rattle.protocol.specs.declared.Code.{Code}
use Rattle.wire.specs.declared.Field.{Field}
use Rattle.wire.specs.Fields.{faulty, store_keys, field_at}
use Rattle.wire.specs.Numbered.{of_number, fields_from}
use Rattle.wire.specs.Walk.{Walked, stopped, before, onward, walk_in, walk}
use Rattle.laws.specs.Merge.{All}
use Rattle.wire.proofs.Standing.{Stands, all-stand}
use Rattle.wire.proofs.Steps.{step_end, step-fault, step-on}
use Rattle.wire.proofs.Steps as steps
use Rattle.store_file.specs.Messages.{Scan, blob_field, scan_at, scans_at, inside, store_in}
use Rattle.store_file.specs.Loaded.{every}
use Rattle.store_file.specs.Scans.{scans_from, scans_in, scan_between}

-- a walk in which nothing is wrong inside the fields finds the same fields as one that does not look
clean-walk : (look : Field → ℕ) (m : ℕ) (s : List ℕ) (at end : ℕ) → (walk_in store_keys look m s at end).fault ≡ 0
    → walk_in store_keys look m s at end ≡ walk_in store_keys (λ (i : Field). 0) m s at end
unfolding walk_in onward
clean-walk look zero s at end h = refl
clean-walk look (suc m) s at end h = go (ltb at end) (field_at store_keys s at end) h (λ (x : ℕ). clean-walk look m s x end)
  where
    Later : Type 0
    Later = (x : ℕ) → (walk_in store_keys look m s x end).fault ≡ 0 → walk_in store_keys look m s x end ≡ walk_in store_keys (λ (i : Field). 0) m s x end

    looked : (i : Field) (next : ℕ) (b : Bool) → eqb (look i) 0 ≡ b → (cond b (before i (walk_in store_keys look m s next end)) (stopped (look i))).fault ≡ 0 → Later
        → cond b (before i (walk_in store_keys look m s next end)) (stopped (look i)) ≡ before i (walk_in store_keys (λ (j : Field). 0) m s next end)
    looked i next true q h ih = ap (before i) (ih next h)
    looked i next false q h ih = absurd (eqb-false _ _ q h)

    go : (b : Bool) (f : Result Field Code) → (cond b (onward look f (λ (x : ℕ). walk_in store_keys look m s x end)) (stopped 0)).fault ≡ 0 → Later
        → cond b (onward look f (λ (x : ℕ). walk_in store_keys look m s x end)) (stopped 0)
        ≡ cond b (onward (λ (i : Field). 0) f (λ (x : ℕ). walk_in store_keys (λ (i : Field). 0) m s x end)) (stopped 0)
    go false f h ih = refl
    go true (Err c) h ih = refl
    go true (Ok f) h ih = looked f f.next (eqb (look f) 0) refl h ih

-- what the reader finds in a file without a wire fault
pub clean-items : (f : List ℕ) → (store_in f).fault ≡ 0 → (store_in f).items ≡ (walk store_keys f 0 (length f)).items
clean-items f h = ap (λ (w : Walked). w.items) (clean-walk (inside f) (length f - 0) f 0 (length f) h)

-- the blobs are those in the fields of their number
scans-of-number : (f : List ℕ) (is : List Field) → scans_at f is ≡ scans_in f (of_number blob_field is)
unfolding scans_at
scans-of-number f [] = refl
scans-of-number f (i ∷ is) = go (eqb i.number blob_field) (scans-of-number f is)
  where
    go : (b : Bool) → scans_at f is ≡ scans_in f (of_number blob_field is)
        → cond b (scan_at f i ∷ scans_at f is) (scans_at f is) ≡ scans_in f (cond b (i ∷ of_number blob_field is) (of_number blob_field is))
    go true h = ap (λ (xs : List Scan). scan_at f i ∷ xs) h
    go false h = h

pub scans-fields : (f : List ℕ) (at : ℕ) → scans_from f at ≡ scans_in f (fields_from f at (length f) blob_field)
scans-fields f at = scans-of-number f (walk store_keys f at (length f)).items

-- before a loop over the blobs of a file: all of them are left, each stands in the file, and there are no more than bytes
pub record Unread (f : List ℕ) (blobs : List Field) : Type 0 where
  pub few : length blobs ≤ length f
  pub stand : All (Stands blob_field (length f)) blobs
  pub scans : scans_from f 0 ≡ scans_in f blobs

pub unread : (f : List ℕ) (blobs : List Field) → blobs ≡ fields_from f 0 (length f) blob_field → Unread f blobs
unread f blobs e =
    let s = all-stand f (length f) blob_field 0 in
    let l : length blobs ≡ length (fields_from f 0 (length f) blob_field) = ap length e in
    record { few = omega (arith, s.few); stand = rw e s.each; scans = scans-fields f 0 ∙ ap (scans_in f) (sym e) }

-- a whole field stands at a place of the file
abbrev pub Here : List ℕ → (at n k start next : ℕ) → Type 0
Here f at n k start next = steps.Here store_keys f at (length f) n k start next

module _ {f : List ℕ} {at n k start next : ℕ} (h : Here f at n k start next) where
  scans-step : scans_from f at ≡ cond (eqb n blob_field) (scan_between f start next ∷ scans_from f next) (scans_from f next)
  unfolding scans_at
  scans-step = ap (λ (w : Walked). scans_at f w.items) (step-on store_keys (λ (i : Field). 0) f at (length f) n k start next h.inside h.field refl)

  -- a blob, and any other field
  pub scans-blob : n ≡ 2 → scans_from f at ≡ scan_between f start next ∷ scans_from f next
  scans-blob q = scans-step ∙ rw (eq-eqb n blob_field q)

  pub scans-other : (n ≡ 2 → ⊥) → scans_from f at ≡ scans_from f next
  scans-other q = scans-step ∙ rw (ne_eqb n blob_field q)

-- at the end, and at a fault, there is no blob
pub scans-end : (f : List ℕ) (at : ℕ) → length f ≤ at → scans_from f at ≡ []
unfolding scans_at
scans-end f at l = ap (λ (w : Walked). scans_at f w.items) (step_end store_keys (λ (i : Field). 0) f at (length f) l)

pub scans-fault : (f : List ℕ) (at c : ℕ) → at < length f → field_at store_keys f at (length f) ≡ faulty c → scans_from f at ≡ []
unfolding scans_at
scans-fault f at c l e = ap (λ (w : Walked). scans_at f w.items) (step-fault store_keys (λ (i : Field). 0) f at (length f) c l e)

-- ---- a test over blobs, carried along: what is found so far, and what is still to come
and_right : (b : Bool) → b && true ≡ b
and_right true = refl
and_right false = refl

and_assoc : (a b c : Bool) → a && (b && c) ≡ (a && b) && c
and_assoc true b c = refl
and_assoc false b c = refl

-- at the end, and with one blob more
pub every-end : (p : Scan → Bool) (whole b : Bool) (xs : List Scan) → whole ≡ (b && every p xs) → xs ≡ [] → b ≡ whole
unfolding every
every-end p whole b xs h e = sym (h ∙ ap (λ (y : List Scan). b && every p y) e ∙ and_right b)

pub every-step : (p : Scan → Bool) (whole b t : Bool) (x : Scan) (xs ys : List Scan) → whole ≡ (b && every p ys) → ys ≡ x ∷ xs → t ≡ p x → whole ≡ ((b && t) && every p xs)
unfolding every
every-step p whole b t x xs ys h e q = h ∙ ap (λ (y : List Scan). b && every p y) e ∙ ap (λ (y : Bool). b && (y && every p xs)) (sym q) ∙ and_assoc b t (every p xs)
