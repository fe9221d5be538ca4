-- One field at a place of a message: a key, and a value of one of four kinds.
use Rattle.std.specs.Prelude.{Option, Some, None, Result, Ok, Err, Bool, not, cond, ◌&&◌, ◌||◌, List, ℕ, ◌+◌, ◌*◌, ◌-◌, ◌/◌, ◌%◌, eqb, leb}
use Rattle.protocol.specs.declared.Code.{Code}
use Rattle.protocol.specs.Numbers.{other_type, zero_field, wrong_type, bad_number, past_end}
use Rattle.wire.specs.declared.Number.{Number}
use Rattle.wire.specs.declared.Field.{Field}
use Rattle.wire.specs.Base128.{number_at}

-- wire type 0: the value is a number (rule 22.5)
abbrev pub number_type : ℕ
number_type = 0

-- wire type 1: the value is eight bytes (rule 22.5)
abbrev pub eight_type : ℕ
eight_type = 1

-- wire type 2: the value is a length, a number, and that many bytes (rule 22.5)
abbrev pub bytes_type : ℕ
bytes_type = 2

-- wire type 5: the value is four bytes (rule 22.5)
abbrev pub four_type : ℕ
four_type = 5

-- the wire types that a reader can pass over (rule 22.5)
abbrev pub readable : ℕ → Bool
readable k = leb k bytes_type || eqb k four_type

-- a key: the field number, and below it three bits of wire type (rule 22.4)
abbrev pub key_of : ℕ → ℕ → ℕ
key_of n k = n * 8 + k

-- a whole field: its number, its wire type, where its value starts, and the place behind it
abbrev pub whole : ℕ → ℕ → ℕ → ℕ → Result Field Code
whole n k start next = Ok (record { number = n; kind = k; start = start; next = next })

-- the fault in its place, by its code
abbrev pub faulty : ℕ → Result Field Code
faulty c = Err (record { 0 = c })

-- a value that is a number (rule 22.7)
unfoldable pub numbered : ℕ → ℕ → Option Number → Result Field Code
numbered n start None = faulty bad_number
numbered n start (Some x) = whole n number_type start x.next

-- a value of `size` bytes, which have to stand before the message's end (rule 22.7)
unfoldable pub fixed : ℕ → ℕ → ℕ → ℕ → ℕ → Result Field Code
fixed n k size start end = cond (leb size (end - start)) (whole n k start (start + size)) (faulty past_end)

-- a value behind its length (rule 22.7)
unfoldable pub measured : ℕ → ℕ → Option Number → Result Field Code
measured n end None = faulty bad_number
measured n end (Some x) = fixed n bytes_type x.value x.next end

-- the value of field n, of the wire type k, that starts behind the key (rule 22.7)
unfoldable pub value_at : ℕ → ℕ → List ℕ → ℕ → ℕ → Result Field Code
value_at n k s start end =
    cond (eqb k number_type) (numbered n start (number_at s start end))
    (cond (eqb k eight_type) (fixed n k 8 start end)
    (cond (eqb k four_type) (fixed n k 4 start end)
    (measured n end (number_at s start end))))

-- what a message's own rule says of a field number and a wire type: the code against them, or 0 (rule 22.6)
abbrev pub KeyRule : Type 0
KeyRule = ℕ → ℕ → ℕ

-- the order at one key: its number, its wire type, the message's own rule, the value (rule 22.6)
unfoldable pub keyed : KeyRule → List ℕ → ℕ → Option Number → Result Field Code
keyed rule s end None = faulty bad_number
keyed rule s end (Some x) =
    cond (not (readable (x.value % 8))) (faulty other_type)
    (cond (eqb (rule (x.value / 8) (x.value % 8)) 0) (value_at (x.value / 8) (x.value % 8) s x.next end)
    (faulty (rule (x.value / 8) (x.value % 8))))

-- THE FIELD AT A PLACE of s, in a message that ends at `end` and has this rule (rule 22.6)
unfoldable pub field_at : KeyRule → List ℕ → ℕ → ℕ → Result Field Code
field_at rule s at end = keyed rule s end (number_at s at end)

-- a known field of another type than 2, where the fields 1 to `most` are known (rule 22.8)
abbrev pub misfit : ℕ → ℕ → ℕ → Bool
misfit most n k = not (eqb k bytes_type) && leb n most

-- the rule of a message whose fields 1 to `most` are known and all of type 2: no field 0, and no misfit (rule 22.8)
unfoldable pub known : ℕ → KeyRule
known most n k = cond (eqb n 0) zero_field (cond (misfit most n k) wrong_type 0)

-- the rule of both messages of a store file, which know their fields 1 and 2 (rule 22.8)
abbrev pub store_keys : KeyRule
store_keys = known 2
