-- Worked values of the wire format, computed. Assumes nothing.
use Rattle.std.specs.Prelude.{None, ◌≡◌, refl, [], ◌∷◌}
use Rattle.protocol.specs.Numbers.{other_type, zero_field, wrong_type, past_end}
use Rattle.wire.specs.Base128.{valued, number_in, number_at, shortest_in, shortest}
use Rattle.wire.specs.Fields.{faulty, known, store_keys, fixed, measured, value_at, keyed, field_at}
use Rattle.wire.specs.Walk.{onward, walk_in, walk, last_from, last}
use Rattle.wire.specs.Written.{head_of}

-- protobuf's own example: 150 is 96 01
pub wrote-150 : shortest 150 ≡ 0x96 ∷ 0x01 ∷ []
unfolding shortest_in
wrote-150 = refl

pub read-150 : number_at (0x96 ∷ 0x01 ∷ []) 0 2 ≡ valued 150 2
unfolding number_in
read-150 = refl

-- not in the shortest form
pub read-long : number_at (0x96 ∷ 0x81 ∷ 0x00 ∷ []) 0 3 ≡ valued 150 3
unfolding number_in
read-long = refl

-- the largest of 64 bits, and one bit more
pub read-most : number_at (255 ∷ 255 ∷ 255 ∷ 255 ∷ 255 ∷ 255 ∷ 255 ∷ 255 ∷ 255 ∷ 1 ∷ []) 0 10 ≡ valued 18446744073709551615 10
unfolding number_in
read-most = refl

pub read-over : number_at (255 ∷ 255 ∷ 255 ∷ 255 ∷ 255 ∷ 255 ∷ 255 ∷ 255 ∷ 255 ∷ 2 ∷ []) 0 10 ≡ None
unfolding number_in
read-over = refl

-- key and length of a field 1 of six bytes
pub wrote-head : head_of 1 6 ≡ 0x0A ∷ 0x06 ∷ []
unfolding head_of shortest_in
wrote-head = refl

-- a known field of type 0, another type, field 0, a length past the end
pub field-e3 : field_at store_keys (0x08 ∷ 0x01 ∷ []) 0 2 ≡ faulty wrong_type
unfolding field_at known keyed number_in
field-e3 = refl

pub field-e1 : field_at store_keys (0x03 ∷ []) 0 1 ≡ faulty other_type
unfolding field_at known keyed number_in
field-e1 = refl

pub field-e2 : field_at store_keys (0x02 ∷ 0x00 ∷ []) 0 2 ≡ faulty zero_field
unfolding field_at known keyed number_in
field-e2 = refl

pub field-e5 : field_at store_keys (0x0A ∷ 0x02 ∷ 0x00 ∷ []) 0 3 ≡ faulty past_end
unfolding field_at known keyed value_at measured fixed number_in
field-e5 = refl

-- field 0 of type 0 is field 0 before it is of a wrong type
pub zero-first : field_at store_keys (0x00 ∷ []) 0 1 ≡ faulty zero_field
unfolding field_at known keyed number_in
zero-first = refl

-- a field 1 twice: the last counts
pub last-of-two : last (0x0A ∷ 0x01 ∷ 0x61 ∷ 0x0A ∷ 0x01 ∷ 0x62 ∷ []) 1 (walk store_keys (0x0A ∷ 0x01 ∷ 0x61 ∷ 0x0A ∷ 0x01 ∷ 0x62 ∷ []) 0 6).items ≡ 0x62 ∷ []
unfolding walk_in onward field_at known keyed value_at measured fixed number_in last_from
last-of-two = refl
