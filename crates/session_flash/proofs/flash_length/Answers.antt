-- `flash_length`: one kind after another.
use Rattle.std.proofs.Common.{◌≡◌, List, ℕ, inl, inr}
use Rattle.std.specs.Prelude.{◌⊎◌}
use Rattle.protocol.specs.declared.FlashKind.{FlashKind}
use Rattle.protocol.specs.declared.FlashKind.TheVariants.{Verify, Update, Cleanup}
use Rattle.state.specs.State.{FlashBody}
use Rattle.rules.specs.Flash.{flash_length}
use Rattle.session_flash.proofs.flash_length.Goals as goal

-- verify, update and cleanup hold no bytes
nothing-held : {k : FlashKind} (b : FlashBody) → (k ≡ Verify) ⊎ ((k ≡ Update) ⊎ (k ≡ Cleanup)) → 0 ≡ flash_length k b
unfolding flash_length
nothing-held b (inl p) = rw p
nothing-held b (inr (inl p)) = rw p
nothing-held b (inr (inr p)) = rw p

pub returns-in-Image : goal.returns-in-Image
unfolding flash_length
returns-in-Image c = λ (t n m g im h : List ℕ). rw c.in-Image.is

pub returns-in-Hash : goal.returns-in-Hash
unfolding flash_length
returns-in-Hash c = λ (t n m g im h : List ℕ). rw c.in-Hash.is

pub returns-in-Verify : goal.returns-in-Verify
returns-in-Verify c = λ (t n m g im h : List ℕ). nothing-held _ c.in-Verify.is
