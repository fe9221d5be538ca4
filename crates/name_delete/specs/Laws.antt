-- The ways through Delete of a store name: not held, open, free. Assumes nothing.
use Rattle.std.specs.Prelude.{◌≡◌, List, ℕ, ◌+◌, ◌-◌, take, drop}
use Rattle.std.proofs.Math.Path.{sym}
use Rattle.std.proofs.Common.{◌∙◌, ap}
use Rattle.std.proofs.Math.Option.{Option, none, some}
use Rattle.laws.specs.Ranges.{lent-part}
use Rattle.protocol.specs.Numbers.{not_found, busy}
use Rattle.protocol.specs.Frame.{Reply, refused, done}
use Rattle.protocol.specs.declared.Blob.TheVariants.{Store}
use Rattle.state.specs.declared.row.Place.TheVariants.{AtSlot}
use Rattle.state.specs.State.{State, in_body}
use Rattle.state.specs.Words.{free_slot}
use Rattle.state.specs.declared.row.Wanted.TheVariants.{OnBlob}
use Rattle.rules.specs.Session.{row_found}
use Rattle.rules.specs.Lookup.{slot_named}
use Rattle.rules.specs.Named.{delete_blob, delete_store}
use Rattle.rules.specs.Checks.{some_or, none_or}

module _ (n : List ℕ) (s : State) where
  -- a session on slot k, or none
  abbrev quiet : (k : ℕ) → Option ℕ → Reply × State
  quiet k o = none_or o (refused busy, s) (done, (in_body (AtSlot k)).put free_slot s)

  named : (o : Option ℕ) → slot_named n s ≡ o → some_or o (refused not_found, s) (λ (k : ℕ). quiet k (row_found (OnBlob k) s)) ≡ delete_store n s
  unfolding delete_store
  named o e = sym (ap (λ (x : Option ℕ). some_or x (refused not_found, s) (λ (k : ℕ). quiet k (row_found (OnBlob k) s))) e)

  pub delete-none : slot_named n s ≡ none → (refused not_found, s) ≡ delete_store n s
  delete-none e = named none e

  module _ (k : ℕ) (e : slot_named n s ≡ some k) where
    pub delete-busy : (q : ℕ) → row_found (OnBlob k) s ≡ some q → (refused busy, s) ≡ delete_store n s
    delete-busy q f = ap (quiet k) (sym f) ∙ named (some k) e

    pub delete-ok : row_found (OnBlob k) s ≡ none → (done, (in_body (AtSlot k)).put free_slot s) ≡ delete_store n s
    delete-ok f = ap (quiet k) (sym f) ∙ named (some k) e

-- a name that is lent from the message
pub delete-lent : (start len : ℕ) (m : List ℕ) (s : State) → delete_store (take (start + len - start) (drop start m)) s ≡ delete_blob (Store start len) m s
unfolding delete_blob
delete-lent start len m s = ap (λ (n : List ℕ). delete_store n s) (lent-part start len m)
