-- The ways through Open of a store name. Assumes nothing.
use Rattle.std.specs.Prelude.{◌≡◌, Bool, true, false, List, ℕ}
use Rattle.std.proofs.Common.{sym, ◌∙◌, eqb-true}
use Rattle.std.proofs.Math.Path.{ap}
use Rattle.std.proofs.Math.Bool.{cond}
use Rattle.std.proofs.Math.Option.{Option, none, some}
use Rattle.laws.specs.Find.{first, found}
use Rattle.laws.specs.Masks.{clear}
use Rattle.protocol.specs.Numbers.{slot_count, not_found, no_room, busy, invalid}
use Rattle.protocol.specs.Frame.{refused}
use Rattle.state.specs.declared.row.Place.TheVariants.{AtSlot}
use Rattle.state.specs.State.{State, Slot, in_body}
use Rattle.state.specs.Soundness.{slot_at}
use Rattle.rules.specs.Open.{open_store}
use Rattle.state.specs.declared.row.Wanted.TheVariants.{OnBlob}
use Rattle.rules.specs.Session.{row_found}
use Rattle.lookup.specs.Search.{free-row, free-slot}
use Rattle.open_steps.specs.Steps.{FreeZero, named, row_opened}
use Rattle.open_steps.specs.Laws.{opened-is}
use Rattle.state.specs.Words.{store_flags, writes_with}
use Rattle.rules.specs.Lookup.{free_row_in, free_slot_in, slot_named}
use Rattle.rules.specs.Opening.{new_slot, held_slot}
use Rattle.open_steps.specs.Ways.{open_new, open_free, open_held, open_named}

-- ---- a new name
module _ (n : List ℕ) (flags t : ℕ) (s : State) where
  new_row : (o : Option ℕ) → first (clear s.sessions.rows) slot_count ≡ o → open_new o (free_slot_in s) n flags t s ≡ open_new (free_row_in s) (free_slot_in s) n flags t s
  new_row o e = ap (λ (x : Option ℕ). open_new x (free_slot_in s) n flags t s) (sym (free-row s ∙ e))

  pub new-no-row : first (clear s.sessions.rows) slot_count ≡ none → (refused no_room, s) ≡ open_new (free_row_in s) (free_slot_in s) n flags t s
  new-no-row e = new_row none e

  module _ (r : ℕ) (e : first (clear s.sessions.rows) slot_count ≡ some r) where
    new-place : (o : Option ℕ) → first (clear s.store.slots) slot_count ≡ o → open_new (some r) o n flags t s ≡ open_new (free_row_in s) (free_slot_in s) n flags t s
    new-place o f = ap (λ (x : Option ℕ). open_new (some r) x n flags t s) (sym (free-slot s ∙ f)) ∙ new_row (some r) e

    pub new-no-slot : first (clear s.store.slots) slot_count ≡ none → (refused no_room, s) ≡ open_new (free_row_in s) (free_slot_in s) n flags t s
    new-no-slot f = new-place none f

    pub new_ok : (k : ℕ) → first (clear s.store.slots) slot_count ≡ some k → FreeZero s.store → row_opened r k flags 0 t ((in_body (AtSlot k)).put (named n (slot_at k s)) s) ≡ open_new (free_row_in s) (free_slot_in s) n flags t s
    new_ok k f z =
        let g = found (clear s.store.slots) slot_count k f in
        ap (λ (b : Slot). row_opened r k flags 0 t ((in_body (AtSlot k)).put (named n b) s)) (z k g.low (eqb-true _ _ g.passes))
        ∙ opened-is (AtSlot k) r k flags 0 t (new_slot n) s ∙ new-place (some k) f

-- ---- a held name
module _ (k flags t : ℕ) (s : State) where
  held-row : (o : Option ℕ) → row_found (OnBlob k) s ≡ o → open_held o k flags t s ≡ open_held (row_found (OnBlob k) s) k flags t s
  held-row o e = ap (λ (x : Option ℕ). open_held x k flags t s) (sym e)

  pub held-busy : (q : ℕ) → row_found (OnBlob k) s ≡ some q → (refused busy, s) ≡ open_held (row_found (OnBlob k) s) k flags t s
  held-busy q e = held-row (some q) e

  module _ (e : row_found (OnBlob k) s ≡ none) where
    held-free : (o : Option ℕ) → first (clear s.sessions.rows) slot_count ≡ o → open_free o k flags t s ≡ open_held (row_found (OnBlob k) s) k flags t s
    held-free o f = ap (λ (x : Option ℕ). open_free x k flags t s) (sym (free-row s ∙ f)) ∙ held-row none e

    pub held-no-row : first (clear s.sessions.rows) slot_count ≡ none → (refused no_room, s) ≡ open_held (row_found (OnBlob k) s) k flags t s
    held-no-row f = held-free none f

    pub held-ok : (r : ℕ) → first (clear s.sessions.rows) slot_count ≡ some r
        → row_opened r k flags 1 t ((in_body (AtSlot k)).put (held_slot flags (slot_at k s)) s) ≡ open_held (row_found (OnBlob k) s) k flags t s
    held-ok r f = opened-is (AtSlot k) r k flags 1 t (held_slot flags (slot_at k s)) s ∙ held-free (some r) f

-- ---- flags and name
module _ (n : List ℕ) (flags t : ℕ) (s : State) where
  pub flags-bad : store_flags flags ≡ false → (refused invalid, s) ≡ open_store n flags t s
  unfolding open_store
  flags-bad p = ap (λ (x : Bool). cond x (open_named (slot_named n s) n flags t s) (refused invalid, s)) (sym p)

  module _ (p : store_flags flags ≡ true) where
    with-name : (o : Option ℕ) → slot_named n s ≡ o → open_named o n flags t s ≡ open_store n flags t s
    unfolding open_store
    with-name o e =
        ap (λ (x : Option ℕ). open_named x n flags t s) (sym e)
        ∙ ap (λ (x : Bool). cond x (open_named (slot_named n s) n flags t s) (refused invalid, s)) (sym p)

    pub name-held : (k : ℕ) → slot_named n s ≡ some k → open_held (row_found (OnBlob k) s) k flags t s ≡ open_store n flags t s
    name-held k e = with-name (some k) e

    module _ (e : slot_named n s ≡ none) where
      choice : (b : Bool) → writes_with flags ≡ b → cond b (open_new (free_row_in s) (free_slot_in s) n flags t s) (refused not_found, s) ≡ open_store n flags t s
      choice b q = ap (λ (x : Bool). cond x (open_new (free_row_in s) (free_slot_in s) n flags t s) (refused not_found, s)) (sym q) ∙ with-name none e

      pub name-absent : writes_with flags ≡ false → (refused not_found, s) ≡ open_store n flags t s
      name-absent q = choice false q

      pub name_new : writes_with flags ≡ true → open_new (free_row_in s) (free_slot_in s) n flags t s ≡ open_store n flags t s
      name_new q = choice true q
