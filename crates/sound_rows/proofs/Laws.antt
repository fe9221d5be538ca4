-- A blob is taken apart by its place. Assumes nothing.
use mathlib.Core.Path.{◌≡◌, refl, ◌∙◌, ap}
use mathlib.Core.Bool.{Bool, true, false, cond}
use Prim.Native.Nat.{ℕ}
use lib.Dec.{ltb}
use Rattle.protocol.specs.Numbers.{slot_count}
use Rattle.state.specs.declared.row.Place.{Place}
use Rattle.state.specs.declared.row.Place.TheVariants.{AtSlot, AtFlash}
use Rattle.state.specs.State.{place_of}

module _ (on_slot : ℕ → Bool) (on_flash : Bool) where
  abbrev pub by_place : Place → Bool
  by_place (AtSlot k) = on_slot k
  by_place AtFlash = on_flash

  -- a test that asks whether the blob is a slot's is one by its place
  pub by_place_lem : (b : ℕ) (p : Place) → place_of b ≡ p → cond (ltb b slot_count) (on_slot b) on_flash ≡ by_place p
  by_place_lem b p e = go (ltb b slot_count) ∙ ap by_place e
    where
      go : (y : Bool) → cond y (on_slot b) on_flash ≡ by_place (cond y (AtSlot b) AtFlash)
      go true = refl
      go false = refl
