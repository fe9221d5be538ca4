-- Worked files, computed. Assumes nothing.
use Rattle.std.specs.Prelude.{◌≡◌, refl, [], ◌∷◌}
use Rattle.protocol.specs.Names.{base}
use Rattle.wire.specs.Base128.{number_in, shortest_in}
use Rattle.wire.specs.Fields.{known, numbered, fixed, measured, value_at, keyed, field_at}
use Rattle.wire.specs.Walk.{onward, walk_in, last_from}
use Rattle.wire.specs.Written.{head_of, written, written_all}
use Rattle.store_file.specs.Messages.{scans_at, reading}
use Rattle.store_file.specs.Saved.{contents}

-- an empty store: the base alone
pub wrote-empty : written_all (contents []) ≡ 0x0A ∷ 0x06 ∷ 0x2F ∷ 0x73 ∷ 0x63 ∷ 0x61 ∷ 0x6E ∷ 0x2F ∷ []
unfolding written_all contents written head_of shortest_in base
wrote-empty = refl

-- max_size skipped, a base twice (the last counts), a blob without data
pub read-file : reading (0x18 ∷ 0x07 ∷ 0x0A ∷ 0x00 ∷ 0x12 ∷ 0x03 ∷ 0x0A ∷ 0x01 ∷ 0x61 ∷ 0x0A ∷ 0x01 ∷ 0x62 ∷ [])
    ≡ record { fault = 0; base = 0x62 ∷ []; scans = (record { name = 0x61 ∷ []; bytes = [] }) ∷ [] }
unfolding reading walk_in onward field_at known keyed value_at numbered measured fixed number_in last_from scans_at
read-file = refl
