-- The fields of one number in a message.
use Rattle.std.specs.Prelude.{List, ℕ, eqb, filter}
use Rattle.wire.specs.declared.Field.{Field}
use Rattle.wire.specs.Fields.{store_keys}
use Rattle.wire.specs.Walk.{walk}

-- of several fields those of number n, in their order
abbrev pub of_number : ℕ → List Field → List Field
of_number n fs = filter (λ (f : Field). eqb f.number n) fs

-- THE FIELDS OF NUMBER n in the message from the place `at` to `end`, up to its first fault
abbrev pub fields_from : List ℕ → (at end n : ℕ) → List Field
fields_from s at end n = of_number n (walk store_keys s at end).items
