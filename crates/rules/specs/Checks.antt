-- How a command's checks are written, one behind the other: what must hold, what happens if it does not, and how it goes on.
use Rattle.std.specs.Prelude.{Bool, cond, ℕ}
use Rattle.std.proofs.Math.Option.{Option, none, some}

-- this must be so
abbrev pub holds_or : {A : Type 0} → Bool → (refusal next : A) → A
holds_or ok refusal next = cond ok next refusal

-- there must be none
abbrev pub none_or : {A : Type 0} → Option ℕ → (refusal next : A) → A
none_or none refusal next = next
none_or (some q) refusal next = refusal

-- there must be one, and it goes on with that
abbrev pub some_or : {A : Type 0} → Option ℕ → (refusal : A) → (next : ℕ → A) → A
some_or none refusal next = refusal
some_or (some k) refusal next = next k

-- one way where there is one, another where there is none
abbrev pub whether : {A : Type 0} → Option ℕ → (one : ℕ → A) → (other : A) → A
whether none one other = other
whether (some k) one other = one k
