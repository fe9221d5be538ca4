-- The shut sizes, as numbers. Assumes nothing.
use Rattle.std.specs.Prelude.{◌≡◌, refl}
use Rattle.protocol.specs.Numbers.{name_size, slot_size, image_size, hash_size}

pub name-size : name_size ≡ 32
unfolding name_size
name-size = refl

pub slot-size : slot_size ≡ 4096
unfolding slot_size
slot-size = refl

pub image-size : image_size ≡ 16384
unfolding image_size
image-size = refl

pub hash-size : hash_size ≡ 64
unfolding hash_size
hash-size = refl
