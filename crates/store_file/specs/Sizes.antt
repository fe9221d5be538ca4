-- The shut size, as a number. Assumes nothing.
use Rattle.std.specs.Prelude.{◌≡◌, refl}
use Rattle.store_file.specs.Saved.{buffer_size}

pub buffer-size : buffer_size ≡ 4200
unfolding buffer_size
buffer-size = refl
