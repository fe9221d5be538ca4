-- A walk as a loop: what is still to come says the whole. Assumes nothing.
use mathlib.Core.Path.{◌≡◌, refl, sym, ◌∙◌, ap}
use mathlib.Core.List.{List}
use Prim.Native.Nat.{ℕ, ◌≤◌, ◌<◌}
use Rattle.std.specs.Prelude.{Ok, Err}
use Rattle.protocol.specs.declared.Code.{Code}
use Rattle.wire.specs.declared.Field.{Field}
use Rattle.wire.specs.Fields.{store_keys, field_at}
use Rattle.protocol.specs.Verdict.{verdict}
use Rattle.protocol.proofs.Verdicts.{verdict-good, verdict-bad}
use Rattle.wire.proofs.FaultCodes.{fault-coded}
use Rattle.wire.specs.Walk.{Walked, walk}
use Rattle.wire.proofs.Steps.{Here, step_end, step-fault, step-on}

-- a fault stands there
pub record Faulty (s : List ℕ) (at end : ℕ) (code : Code) : Type 0 where
  pub inside : at < end
  pub field : field_at store_keys s at end ≡ Err code

-- ---- the first fault
module _ (s : List ℕ) (from end at : ℕ) (h : (walk store_keys s from end).fault ≡ (walk store_keys s at end).fault) where
  pub fault-end : end ≤ at → Ok tt ≡ verdict (walk store_keys s from end).fault
  fault-end l = verdict-good _ (h ∙ ap (λ (w : Walked). w.fault) (step_end store_keys (λ (i : Field). 0) s at end l))

  pub fault-found : {c : Code} → Faulty s at end c → Err c ≡ verdict (walk store_keys s from end).fault
  fault-found {c} x =
      verdict-bad c _ (sym (h ∙ ap (λ (w : Walked). w.fault) (step-fault store_keys (λ (i : Field). 0) s at end c.0 x.inside x.field)))
      (fault-coded store_keys s at end c x.field)

  pub fault-on : {n k start next : ℕ} → Here store_keys s at end n k start next → (walk store_keys s from end).fault ≡ (walk store_keys s next end).fault
  fault-on {n} {k} {start} {next} x = h ∙ ap (λ (w : Walked). w.fault) (step-on store_keys (λ (i : Field). 0) s at end n k start next x.inside x.field refl)
