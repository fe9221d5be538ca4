-- Each way through `answer_tray`, as the definition has it. Assumes nothing.
use mathlib.Core.Path.{◌≡◌, sym, ◌∙◌, ap}
use mathlib.Core.Logic.{◌≢◌}
use mathlib.Core.Bool.{Bool, true, false, cond, ◌&&◌}
use mathlib.Core.List.{List}
use Prim.Native.Nat.{ℕ}
use native.Mathlib.Omega.{arith}
use lib.Dec.{eqb}
use lib.ListN.{length}
use Rattle.protocol.specs.Numbers.{success, not_sound}
use Rattle.state.specs.State.{State}
use Rattle.state.specs.Soundness.{is_sound}
use Rattle.tray.specs.Tray.{tray_most, messages_in, tray_form, tray_code, done_in, tray_done, tray}
use Rattle.tray.proofs.Call.{as_found, tray-done, code_is, refused-tray}

module _ (b : List ℕ) (s : State) (a w : List ℕ) where
  -- the code where the test for soundness and length came to y
  tested : (y : Bool) → is_sound s && eqb (length w) tray_most ≡ y → tray_code b s w ≡ cond y (tray_form b) not_sound
  unfolding tray_code
  tested y h = ap (λ (z : Bool). cond z (tray_form b) not_sound) h

  kept : (code : ℕ) → tray_code b s w ≡ code → code ≢ success → as_found code s a w ≡ tray b s a w
  kept code e n =
      let k : (tray b s a w).code ≡ code = code_is b s a w ∙ e in
      sym (refused-tray b s a w (λ (z : (tray b s a w).code ≡ success). n (sym k ∙ z)) ∙ ap (λ (c : ℕ). as_found c s a w) k)

  -- it failed
  pub not-able : is_sound s && eqb (length w) tray_most ≡ false → as_found not_sound s a w ≡ tray b s a w
  not-able h = kept not_sound (tested false h) (λ (z : not_sound ≡ success). omega arith)

  module _ (h : is_sound s && eqb (length w) tray_most ≡ true) where
    -- the records have not the form
    pub not-formed : (code : ℕ) → code ≡ tray_form b → code ≢ success → as_found code s a w ≡ tray b s a w
    not-formed code e n = kept code (tested true h ∙ sym e) n

    -- they have it
    pub formed : (code : ℕ) → code ≡ tray_form b → code ≡ success → tray_done (done_in (length a) (messages_in b) s) a w ≡ tray b s a w
    formed code e z = sym (tray-done b s a w (tested true h ∙ sym e ∙ z))
