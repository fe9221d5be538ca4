-- What holds of an Open: of each refusal, and of what it does where all checks have passed. Whoever shows something of Open goes by these two laws, not by its text. Assumes nothing.
use Rattle.std.specs.Prelude.{◌≡◌, refl, ◌≢◌, Bool, true, false, cond, List, ℕ}
use Rattle.std.proofs.Math.Option.{none, some}
use Rattle.std.proofs.Common.{arith}
use Rattle.protocol.specs.Numbers.{write_only, success, invalid, not_found, no_room, busy}
use Rattle.protocol.specs.Names.{flash_number}
use Rattle.protocol.specs.Frame.{Reply, refused}
use Rattle.protocol.specs.declared.FlashKind.{FlashKind}
use Rattle.state.specs.declared.row.Wanted.TheVariants.{OnBlob, OnFlash}
use Rattle.state.specs.State.{State}
use Rattle.state.specs.Words.{writes_with, store_flags, flash_flags}
use Rattle.state.specs.Soundness.{slot_at}
use Rattle.state.specs.declared.row.Place.TheVariants.{AtSlot, AtFlash}
use Rattle.rules.specs.Session.{row_found}
use Rattle.rules.specs.Lookup.{slot_named, free_row_in, free_slot_in}
use Rattle.rules.specs.Opening.{opened, new_slot, held_slot, flash_listed, opened_flash}
use Rattle.rules.specs.Open.{open_store, open_flash}
use Rattle.rules.proofs.Laws.{some-has, none_has, whether-has}

module _ (P : Reply × State → Type 0) (s : State) (refuses : (code : ℕ) → code ≢ success → P (refused code, s)) where
  -- a check that holds is known where it goes on
  holds_has : (y : Bool) (code : ℕ) → code ≢ success → (next : Reply × State) → (y ≡ true → P next) → P (cond y next (refused code, s))
  holds_has true code n next f = f refl
  holds_has false code n next f = refuses code n

  is-busy : P (refused busy, s)
  is-busy = refuses busy (λ (e : busy ≡ success). omega arith)

  is-full : P (refused no_room, s)
  is-full = refuses no_room (λ (e : no_room ≡ success). omega arith)

  -- A STORE NAME: a held one gets a session, or a new one does
  pub open-store-has : (n : List ℕ) (flags t : ℕ)
      → ((r k : ℕ) → store_flags flags ≡ true → slot_named n s ≡ some k → row_found (OnBlob k) s ≡ none → free_row_in s ≡ some r → P
      (opened (AtSlot k) r k flags 1 t (held_slot flags (slot_at k s)) s))
      → ((r k : ℕ) → store_flags flags ≡ true → slot_named n s ≡ none → writes_with flags ≡ true → free_row_in s ≡ some r → free_slot_in s ≡ some k →
      P (opened (AtSlot k) r k flags 0 t (new_slot n) s))
      → P (open_store n flags t s)
  unfolding open_store
  open-store-has n flags t held new =
      holds_has (store_flags flags) invalid (λ (e : invalid ≡ success). omega arith) _
      (λ (f : store_flags flags ≡ true). whether-has P (slot_named n s) _ _
      (λ (k : ℕ) (e : slot_named n s ≡ some k). none_has P (row_found (OnBlob k) s) _ _ is-busy
      (λ (q : row_found (OnBlob k) s ≡ none). some-has P (free_row_in s) _ _ is-full (λ (r : ℕ) (i : free_row_in s ≡ some r). held r k f e q i)))
      (λ (e : slot_named n s ≡ none). holds_has (writes_with flags) not_found (λ (e : not_found ≡ success). omega arith) _
      (λ (w : writes_with flags ≡ true). some-has P (free_row_in s) _ _ is-full
      (λ (r : ℕ) (i : free_row_in s ≡ some r). some-has P (free_slot_in s) _ _ is-full (λ (k : ℕ) (j : free_slot_in s ≡ some k). new r k f e w i j)))))

  -- A FLASH NAME gets a session
  pub open-flash-has : (k : FlashKind) (flags t : ℕ)
      → ((r : ℕ) → flash_flags flags ≡ true → flash_listed k s.flash_group.phase ≡ true → row_found OnFlash s ≡ none → free_row_in s ≡ some r
      → P (opened AtFlash r (flash_number k) write_only 0 t (opened_flash k s.flash_group) s))
      → P (open_flash k flags t s)
  unfolding open_flash
  open-flash-has k flags t free =
      holds_has (flash_flags flags) invalid (λ (e : invalid ≡ success). omega arith) _
      (λ (f : flash_flags flags ≡ true). holds_has (flash_listed k s.flash_group.phase) not_found (λ (e : not_found ≡ success). omega arith) _
      (λ (l : flash_listed k s.flash_group.phase ≡ true). none_has P (row_found OnFlash s) _ _ is-busy
      (λ (q : row_found OnFlash s ≡ none). some-has P (free_row_in s) _ _ is-full (λ (r : ℕ) (i : free_row_in s ≡ some r). free r f l q i))))
