-- `begin_flash`: by kind; image or hash from `clear_at`.
use Rattle.std.proofs.Common.{◌≡◌, sym, ◌∙◌, ap, inl, inr, rules}
use Rattle.std.specs.Prelude.{◌⊎◌}
use Rattle.laws.specs.Fronts.{cleared}
use Rattle.protocol.proofs.Sizes.{image-size, hash-size}
use Rattle.protocol.specs.Numbers.{image_size, hash_size}
use Rattle.protocol.specs.declared.FlashKind.{FlashKind}
use Rattle.protocol.specs.declared.FlashKind.TheVariants.{Verify, Update, Cleanup}
use Rattle.rules.specs.Opening.{opened_flash}
use Rattle.state.specs.State.{State, FlashBody, state_of, in_body}
use Rattle.state.specs.Values.{in_phase}
use Rattle.state.specs.declared.Phase.TheVariants.{Uploading}
use Rattle.state.specs.declared.row.Place.TheVariants.{AtFlash}
use Rattle.open_flash.proofs.begin_flash.Goals as goal
use Rattle.open_flash.proofs.begin_flash.Goals.{in-Image, in-Hash}

-- the state once the flash of this name has begun
abbrev begun : FlashKind → State → State
begun k s = (in_body AtFlash).put (opened_flash k s.flash_group) s

-- verify, update and cleanup change nothing
unchanged : {k : FlashKind} (b : FlashBody) → (k ≡ Verify) ⊎ ((k ≡ Update) ⊎ (k ≡ Cleanup)) → b ≡ opened_flash k b
unfolding opened_flash
unchanged b (inl p) = rw p
unchanged b (inr (inl p)) = rw p
unchanged b (inr (inr p)) = rw p

pub clear_at-requires : goal.clear_at-requires
clear_at-requires c = search (rules, image-size)

pub clear_at-requires-in-Hash : goal.clear_at-requires-in-Hash
clear_at-requires-in-Hash c = search (rules, hash-size)

pub returns-in-Verify : goal.returns-in-Verify
returns-in-Verify c =
    let a = c.args in
    λ t n d g. let s = state_of a.control.now t n d g a.image.now a.hash.now in ap (λ (b : FlashBody). (in_body AtFlash).put b s) (unchanged s.flash_group c.in-Verify.is)

pub returns : goal.returns
unfolding opened_flash
returns c =
    let a = c.args in
    λ t n d g.
    let s = state_of a.control.now t n d g a.image.now a.hash.now in
    elim c.match-kind.branch [
      | in-Image w ↦
          let zeros = w.image-is ∙ w.clear_at.ensures ∙ cleared image_size 16384 a.image.now image-size c.requires.0 in
          (λ j. state_of (in_phase (w.control-is j) Uploading) t n d g (zeros j) (w.hash-is j)) ∙ ap (λ (k : FlashKind). begun k s) (sym w.in-Image.is)
      | in-Hash w ↦
          let zeros = w.hash-is ∙ w.clear_at-in-Hash.ensures ∙ cleared hash_size 64 a.hash.now hash-size c.requires.1 in
          (λ j. state_of (in_phase (w.control-is j) Uploading) t n d g (w.image-is j) (zeros j)) ∙ ap (λ (k : FlashKind). begun k s) (sym w.in-Hash.is)
    ]
