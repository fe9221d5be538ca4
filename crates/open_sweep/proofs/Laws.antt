-- Each way through the sweep's code, as the rules have it. Assumes nothing.
use mathlib.Core.Path.{◌≡◌, refl, sym, ap, ap₂, ◌∙◌}
use mathlib.Core.Bool.{Bool, true, false, not, cond, ◌&&◌}
use mathlib.Core.List.{List}
use Prim.Native.Nat.{ℕ, ◌+◌}
use native.Mathlib.Numerals.{add-one}
use lib.Dec.{eqb, ltb}
use lib.ListN.{get_or}
use Rattle.laws.specs.Ranges.{block}
use Rattle.laws.specs.Bits.{bit}
use Rattle.protocol.specs.Numbers.{row_count, row_words, session_life, running}
use Rattle.state.specs.State.{State, in_row}
use Rattle.state.specs.Words.{status_in}
use Rattle.state.specs.Entry.{words_of}
use Rattle.state.specs.declared.row.Entry.{Entry}
use Rattle.rules.specs.Command.{close}
use Rattle.rules.specs.Session.{on_row}
use Rattle.rules.specs.Sweep.{stale, sweep_row, sweep_rows, noted, due, swept}

-- ---- one row
module _ (t r : ℕ) (s : State) where
  abbrev choice : Bool → Bool → State
  choice y z = cond (y && z) (on_row r t close s).1 s

  -- it is not used
  pub row-unused : eqb (bit r s.sessions.rows) 1 ≡ false → s ≡ sweep_row t r s
  unfolding sweep_row
  row-unused h = sym (ap (λ (y : Bool). choice y (stale t ((in_row r).get s))) h)

  module _ (e : Entry) (words : (block row_words r).get s.sessions.table ≡ words_of e) where
    -- stale or not, by the row that was read
    stale-is : stale t ((in_row r).get s) ≡ ltb (e.stamp + session_life) t && not (eqb (status_in e.word) running)
    stale-is = ap (λ (l : List ℕ). ltb (get_or l 3 0 + session_life) t && not (eqb (status_in (get_or l 2 0)) running)) words

    -- it is not stale
    pub row_kept : eqb (bit r s.sessions.rows) 1 ≡ true → (y : Bool) → y ≡ ltb (e.stamp + session_life) t && not (eqb (status_in e.word) running) → y ≡ false → s ≡ sweep_row t r s
    unfolding sweep_row
    row_kept u y p q = sym (ap₂ choice u (stale-is ∙ sym p ∙ q))

    -- it is, and was closed
    pub row-closed : eqb (bit r s.sessions.rows) 1 ≡ true → (y : Bool) → y ≡ ltb (e.stamp + session_life) t && not (eqb (status_in e.word) running) → y ≡ true
        → (x : State) → x ≡ (on_row r t close s).1 → x ≡ sweep_row t r s
    unfolding sweep_row
    row-closed u y p q x c = c ∙ sym (ap₂ choice u (stale-is ∙ sym p ∙ q))

-- ---- the rows, one after the other
pub none-swept : (t : ℕ) (s : State) → s ≡ sweep_rows t 0 s
unfolding sweep_rows
none-swept t s = refl

pub one_more : (t r : ℕ) (s x y : State) → x ≡ sweep_rows t r s → y ≡ sweep_row t r x → y ≡ sweep_rows t (r + 1) s
unfolding sweep_rows
one_more t r s x y p q = rw add-one (q ∙ ap (sweep_row t r) p)

-- ---- the whole
module _ (t : ℕ) (s : State) where
  pub not-due : due t s ≡ false → s ≡ swept t s
  unfolding swept
  not-due h = sym (ap (λ (y : Bool). cond y (noted t (sweep_rows t row_count s)) s) h)

  pub all-swept : due t s ≡ true → (r : ℕ) (x : State) → r ≡ row_count → x ≡ sweep_rows t r s → noted t x ≡ swept t s
  unfolding swept
  all-swept h r x e p = ap (noted t) (p ∙ ap (λ (k : ℕ). sweep_rows t k s) e) ∙ sym (ap (λ (y : Bool). cond y (noted t (sweep_rows t row_count s)) s) h)
