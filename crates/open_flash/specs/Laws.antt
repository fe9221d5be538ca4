-- The ways through Open of a flash name. Assumes nothing.
use Rattle.std.specs.Prelude.{◌≡◌, Bool, true, false, ℕ}
use Rattle.std.proofs.Common.{sym, ◌∙◌, eqb-true}
use Rattle.std.proofs.Math.Path.{ap}
use Rattle.std.proofs.Math.Bool.{cond}
use Rattle.std.proofs.Math.Option.{Option, none, some}
use Rattle.laws.specs.Find.{first}
use Rattle.laws.specs.Masks.{clear}
use Rattle.protocol.specs.Numbers.{slot_count, write_only, not_found, no_room, busy, invalid}
use Rattle.protocol.specs.Names.{flash_number}
use Rattle.protocol.specs.Frame.{refused}
use Rattle.protocol.specs.declared.FlashKind.{FlashKind}
use Rattle.state.specs.State.{State, in_body}
use Rattle.state.specs.Words.{flash_flags}
use Rattle.rules.specs.Open.{open_flash}
use Rattle.state.specs.declared.row.Place.TheVariants.{AtFlash}
use Rattle.state.specs.declared.row.Wanted.TheVariants.{OnFlash}
use Rattle.rules.specs.Session.{row_found}
use Rattle.lookup.specs.Search.{free-row}
use Rattle.open_steps.specs.Steps.{row_opened}
use Rattle.open_steps.specs.Laws.{opened-is}
use Rattle.rules.specs.Opening.{opened_flash, flash_listed}
use Rattle.open_steps.specs.Ways.{open_flash_listed, open_flash_quiet, open_flash_free}

module _ (k : FlashKind) (flags t : ℕ) (s : State) where
  allowed : (x : Bool) → flash_flags flags ≡ x → cond x (open_flash_listed (flash_listed k s.flash_group.phase) k t s) (refused invalid, s) ≡ open_flash k flags t s
  unfolding open_flash
  allowed x e = ap (λ (y : Bool). cond y (open_flash_listed (flash_listed k s.flash_group.phase) k t s) (refused invalid, s)) (sym e)

  pub flash-flags : flash_flags flags ≡ false → (refused invalid, s) ≡ open_flash k flags t s
  flash-flags p = allowed false p

  module _ (p : flash_flags flags ≡ true) where
    there : (x : Bool) → flash_listed k s.flash_group.phase ≡ x → open_flash_listed x k t s ≡ open_flash k flags t s
    there x e = ap (λ (y : Bool). open_flash_listed y k t s) (sym e) ∙ allowed true p

    pub flash-absent : flash_listed k s.flash_group.phase ≡ false → (refused not_found, s) ≡ open_flash k flags t s
    flash-absent e = there false e

    module _ (e : flash_listed k s.flash_group.phase ≡ true) where
      quiet : (o : Option ℕ) → row_found OnFlash s ≡ o → open_flash_quiet o k t s ≡ open_flash k flags t s
      quiet o f = ap (λ (x : Option ℕ). open_flash_quiet x k t s) (sym f) ∙ there true e

      pub flash-busy : (q : ℕ) → row_found OnFlash s ≡ some q → (refused busy, s) ≡ open_flash k flags t s
      flash-busy q f = quiet (some q) f

      module _ (f : row_found OnFlash s ≡ none) where
        free : (o : Option ℕ) → first (clear s.sessions.rows) slot_count ≡ o → open_flash_free o k t s ≡ open_flash k flags t s
        free o g = ap (λ (x : Option ℕ). open_flash_free x k t s) (sym (free-row s ∙ g)) ∙ quiet none f

        pub flash-no-row : first (clear s.sessions.rows) slot_count ≡ none → (refused no_room, s) ≡ open_flash k flags t s
        flash-no-row g = free none g

        -- first the flash, then its row
        pub flash-ok : (r b : ℕ) → b ≡ flash_number k → first (clear s.sessions.rows) slot_count ≡ some r
            → row_opened r b flags 0 t ((in_body AtFlash).put (opened_flash k s.flash_group) s) ≡ open_flash k flags t s
        flash-ok r b q g =
            ap (λ (x : ℕ). row_opened r x flags 0 t ((in_body AtFlash).put (opened_flash k s.flash_group) s)) q
            ∙ ap (λ (x : ℕ). row_opened r (flash_number k) x 0 t ((in_body AtFlash).put (opened_flash k s.flash_group) s)) (eqb-true flags write_only p)
            ∙ opened-is AtFlash r (flash_number k) write_only 0 t (opened_flash k s.flash_group) s
            ∙ free (some r) g
