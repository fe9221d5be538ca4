-- Numbers in base 128: seven bits in each byte, the lowest first; a byte of 128 or more says that another one follows.
use Rattle.std.specs.Prelude.{Option, Some, None, cond, List, [], ◌∷◌, ℕ, zero, suc, ◌+◌, ◌*◌, ◌-◌, ◌/◌, ◌%◌, ◌^◌, ltb, get_or}
use Rattle.wire.specs.declared.Number.{Number}

-- the most bytes that a number may have (rule 22.2)
abbrev pub number_most : ℕ
number_most = 10

-- a whole number: its value and the place behind it
abbrev pub valued : ℕ → ℕ → Option Number
valued v next = Some (record { value = v; next = next })

-- seven low bits before the number that follows them; in all no more than 64 bits (rule 22.2)
abbrev pub more : ℕ → Option Number → Option Number
more low None = None
more low (Some x) = cond (ltb (low + 128 * x.value) (2 ^ 64)) (valued (low + 128 * x.value) x.next) None

-- the number of at most n bytes that starts at the place `at` of s; all of it has to stand before `end` (rule 22.2)
unfoldable pub number_in : ℕ → List ℕ → ℕ → ℕ → Option Number
number_in zero s at end = None
number_in (suc n) s at end =
    cond (ltb at end) (cond (ltb (get_or s at 0) 128) (valued (get_or s at 0) (at + 1)) (more (get_or s at 0 - 128) (number_in n s (at + 1) end))) None

-- THE NUMBER AT A PLACE: its value and the place behind it, or that there is no whole one (rule 22.2)
abbrev pub number_at : List ℕ → ℕ → ℕ → Option Number
number_at s at end = number_in number_most s at end

-- a number in as few bytes as it takes, of which there are at most n (rule 22.3)
unfoldable pub shortest_in : ℕ → ℕ → List ℕ
shortest_in zero v = []
shortest_in (suc n) v = cond (ltb v 128) (v ∷ []) ((128 + v % 128) ∷ shortest_in n (v / 128))

-- A NUMBER AS IT IS WRITTEN (rule 22.3)
abbrev pub shortest : ℕ → List ℕ
shortest v = shortest_in number_most v
