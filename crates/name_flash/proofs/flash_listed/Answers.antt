-- `flash_listed`: by kind, from `is_idle` and `is_verified`.
use Rattle.std.proofs.Common.{ap, sym, ◌∙◌}
use Rattle.std.specs.Prelude.{not}
use Rattle.protocol.specs.declared.FlashKind.{FlashKind}
use Rattle.rules.specs.Opening.{flash_listed}
use Rattle.name_flash.proofs.flash_listed.Goals as goal

pub returns-in-Image : goal.returns-in-Image
unfolding flash_listed
returns-in-Image c = ap (λ (k : FlashKind). flash_listed k c.args.phase) (sym c.in-Image.is)

pub returns-in-Hash : goal.returns-in-Hash
unfolding flash_listed
returns-in-Hash c = ap (λ (k : FlashKind). flash_listed k c.args.phase) (sym c.in-Hash.is)

pub returns-in-Verify : goal.returns-in-Verify
unfolding flash_listed
returns-in-Verify c = ap not c.is_idle.ensures ∙ ap (λ (k : FlashKind). flash_listed k c.args.phase) (sym c.in-Verify.is)

pub returns-in-Update : goal.returns-in-Update
unfolding flash_listed
returns-in-Update c = c.is_verified.ensures ∙ ap (λ (k : FlashKind). flash_listed k c.args.phase) (sym c.in-Update.is)

pub returns-in-Cleanup : goal.returns-in-Cleanup
unfolding flash_listed
returns-in-Cleanup c = ap (λ (k : FlashKind). flash_listed k c.args.phase) (sym c.in-Cleanup.is)
