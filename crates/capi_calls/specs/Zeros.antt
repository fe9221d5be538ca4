-- Memory that is zero.
use Rattle.std.specs.Prelude.{◌*◌, replicate}
use Rattle.protocol.specs.Numbers.{row_count, row_words, slot_count, name_size, slot_size, image_size, hash_size}
use Rattle.capi_control.specs.Words.{control_size}
use Rattle.capi_calls.specs.Call.{Memory, memory}

-- zeros in every word and byte that is lent
abbrev pub zeroed : Memory
zeroed = memory (replicate control_size 0) (replicate (row_count * row_words) 0) (replicate (slot_count * name_size) 0) (replicate (slot_count * slot_size) 0)
    (replicate (slot_count * slot_size) 0) (replicate image_size 0) (replicate hash_size 0)
