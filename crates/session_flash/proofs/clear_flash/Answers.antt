-- `clear_flash`: from `clear_at`, twice.
use Rattle.std.proofs.Common.{◌∙◌, arith}
use Rattle.laws.specs.Fronts.{cleared}
use Rattle.protocol.proofs.Sizes.{image-size, hash-size}
use Rattle.protocol.specs.Numbers.{image_size, hash_size}
use Rattle.session_flash.proofs.clear_flash.Goals as goal

pub clear_at-requires : goal.clear_at-requires
clear_at-requires c = omega (arith, image-size)

pub clear_at-requires-2 : goal.clear_at-requires-2
clear_at-requires-2 c = omega (arith, hash-size)

pub returns : goal.returns
returns c =
    let a = c.args in (
      c.clear_at.ensures ∙ cleared image_size 16384 a.image.now image-size c.requires.0,
      c.clear_at-2.ensures ∙ cleared hash_size 64
          a.hash.now hash-size c.requires.1,
    )
