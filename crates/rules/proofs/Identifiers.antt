-- The identifier that Open gives out is unused, and the one before it is not given out straight again. Assumes nothing.
use Rattle.std.proofs.Math.Path.{◌≡◌, refl, ap}
use Rattle.std.proofs.Common.{sym, ◌∙◌, subst, arith, eqb-true, eq-eqb}
use Rattle.std.specs.Prelude.{◌≢◌, Bool, true, false, cond, eqb}
use Rattle.std.proofs.Math.Option.{Option, none, some}
use Prim.Native.Nat.{ℕ, zero, suc, ◌+◌, ◌%◌, ◌<◌, ◌≤◌}
use Rattle.std.proofs.lemmas.Bool.{eqb-false}
use Rattle.laws.specs.Pigeon.{pigeon}
use Rattle.protocol.specs.Numbers.{row_count, sixteen_bits}
use Rattle.state.specs.State.{State}
use Rattle.state.specs.Words.{ident, Live}
use Rattle.state.specs.declared.row.Wanted.TheVariants.{Id}
use Rattle.rules.specs.Session.{row_found}
use Rattle.rules.specs.Searches.{found-row, no_row}
use Rattle.rules.specs.Lookup.{after, unless, fresh_from, fresh_id}

-- the successor of an identifier is one
pub after_small : (id : ℕ) → id < sixteen_bits → after id < sixteen_bits
after_small id h = go (eqb (suc id) sixteen_bits) refl
  where
    go : (y : Bool) → eqb (suc id) sixteen_bits ≡ y → cond y 0 (suc id) < sixteen_bits
    go true q = omega arith
    go false q = let n = eqb-false (suc id) sixteen_bits q in omega arith

after_is : (id : ℕ) → id < sixteen_bits → after id ≡ suc id % sixteen_bits
after_is id h = go (eqb (suc id) sixteen_bits) refl
  where
    go : (y : Bool) → eqb (suc id) sixteen_bits ≡ y → cond y 0 (suc id) ≡ suc id % sixteen_bits
    go true q = let n : suc id ≡ 65536 = eqb-true (suc id) sixteen_bits q in rw n
    go false q = let n = eqb-false (suc id) sixteen_bits q in omega arith

-- d further
abbrev ahead : ℕ → ℕ → ℕ
ahead zero id = id
ahead (suc d) id = ahead d (after id)

ahead-is : (d id : ℕ) → id < sixteen_bits → ahead d id ≡ (id + d) % sixteen_bits
ahead-is zero id h = omega arith
ahead-is (suc d) id h = ahead-is d (after id) (after_small id h) ∙ (let e = after_is id h in omega arith)

module _ (s : State) where
  abbrev owner : ℕ → Option ℕ
  owner id = row_found (Id id) s

  -- what is given out is an identifier
  pub fresh-small : (n id : ℕ) → id < sixteen_bits → fresh_from n id s < sixteen_bits
  unfolding fresh_from
  fresh-small zero id h = h
  fresh-small (suc n) id h = go (owner id) (fresh-small n (after id) (after_small id h))
    where
      go : (o : Option ℕ) → fresh_from n (after id) s < sixteen_bits → unless o id (fresh_from n (after id) s) < sixteen_bits
      go none l = h
      go (some q) l = l

  abbrev or_zero : Option ℕ → ℕ
  or_zero none = 0
  or_zero (some r) = r

  -- where the one given out is taken, so are all before it
  all-taken : (n id r : ℕ) → owner (fresh_from n id s) ≡ some r → (d : ℕ) → d < suc n → owner (ahead d id) ≡ some (or_zero (owner (ahead d id)))
  unfolding fresh_from
  all-taken zero id r h zero l = h ∙ ap some (sym (ap or_zero h))
  all-taken zero id r h (suc d) l = absurd (omega arith)
  all-taken (suc n) id r h d l = go (owner id) refl h d l (all-taken n (after id) r)
    where
      go : (o : Option ℕ) → owner id ≡ o → owner (unless o id (fresh_from n (after id) s)) ≡ some r → (d : ℕ) → d < suc (suc n)
          → (owner (fresh_from n (after id) s) ≡ some r → (d : ℕ) → d < suc n → owner (ahead d (after id)) ≡ some (or_zero (owner (ahead d (after id)))))
          → owner (ahead d id) ≡ some (or_zero (owner (ahead d id)))
      go none e q d l ih = absurd (let z : ◌≡◌ {A = ℕ} 0 1 = cc in omega arith)
      go (some x) e q zero l ih = e ∙ ap some (sym (ap or_zero e))
      go (some x) e q (suc d) l ih = ih q d (omega arith)

  owner-id : (id r : ℕ) → owner id ≡ some r → ident r s ≡ id
  owner-id id r h = eqb-true (ident r s) id (found-row (Id id) s r h).1

  untaken : (id : ℕ) → id < sixteen_bits → owner (fresh_from row_count id s) ≡ none
  untaken id small = go (owner (fresh_from row_count id s)) refl
    where
      go : (o : Option ℕ) → owner (fresh_from row_count id s) ≡ o → owner (fresh_from row_count id s) ≡ none
      go none e = e
      go (some r) e = absurd (pigeon row_count (λ (d : ℕ). or_zero (owner (ahead d id)))
          (λ (d : ℕ) (l : d < suc row_count). (found-row (Id (ahead d id)) s (or_zero (owner (ahead d id))) (all-taken row_count id r e d l)).0.0)
          (λ (d f : ℕ) (hd : d < suc row_count) (hf : f < suc row_count) (q : or_zero (owner (ahead d id)) ≡ or_zero (owner (ahead f id))).
          let a = owner-id (ahead d id) (or_zero (owner (ahead d id))) (all-taken row_count id r e d hd) in
          let b = owner-id (ahead f id) (or_zero (owner (ahead f id))) (all-taken row_count id r e f hf) in
          let c : ahead d id ≡ ahead f id = sym a ∙ ap (λ (x : ℕ). ident x s) q ∙ b in
          let g : (id + d) % sixteen_bits ≡ (id + f) % sixteen_bits = sym (ahead-is d id small) ∙ c ∙ ahead-is f id small in
          omega arith))

  -- no session has it
  pub fresh-unused : s.next < sixteen_bits → (q : ℕ) → Live q s → ident q s ≢ fresh_id s
  fresh-unused h q l e = no_row (Id (fresh_id s)) s (untaken s.next h) q l (eq-eqb (ident q s) (fresh_id s) e)

  -- it is one of the seventeen from "next" on
  not-given : (n id old : ℕ) → ((d : ℕ) → d ≤ n → ahead d id ≢ old) → fresh_from n id s ≢ old
  unfolding fresh_from
  not-given zero id old h = h 0 (omega arith)
  not-given (suc n) id old h = go (owner id) (not-given n (after id) old (λ (d : ℕ) (l : d ≤ n). h (suc d) (omega arith)))
    where
      go : (o : Option ℕ) → fresh_from n (after id) s ≢ old → unless o id (fresh_from n (after id) s) ≢ old
      go none m = h 0 (omega arith)
      go (some q) m = m

  -- AN IDENTIFIER THAT WAS JUST GIVEN OUT IS NOT GIVEN OUT AGAIN BY THE NEXT OPEN, WHATEVER WAS CLOSED MEANWHILE
  pub not-again : (old : ℕ) → old < sixteen_bits → s.next ≡ after old → fresh_id s ≢ old
  not-again old h e = not-given row_count s.next old (λ (d : ℕ) (l : d ≤ row_count) (z : ahead d s.next ≡ old).
      let a : s.next ≡ suc old % sixteen_bits = e ∙ after_is old h in
      let b : ahead d s.next ≡ (s.next + d) % sixteen_bits = ahead-is d s.next (subst (λ (x : ℕ). x < sixteen_bits) (sym e) (after_small old h)) in
      omega arith)
