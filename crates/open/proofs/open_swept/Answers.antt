-- `open_swept`: by what the name names.
use Rattle.std.proofs.Common.{◌≡◌, inl, inr, List, ℕ, ◌+◌, ◌-◌, ◌≤◌, length, take, drop, arith, sym, ◌∙◌, ap, subst}
use Rattle.std.specs.Prelude.{◌⊎◌}
use Rattle.laws.specs.Ranges.{lent-part, length_part}
use Rattle.protocol.specs.Frame.{refused}
use Rattle.protocol.specs.Inside.{BlobInside, StoreInside}
use Rattle.protocol.specs.Numbers.{not_found, name_most}
use Rattle.protocol.specs.declared.Blob.{Blob}
use Rattle.protocol.specs.declared.Blob.TheVariants.{Base, Unknown}
use Rattle.rules.specs.Open.{open_blob, open_store}
use Rattle.state.specs.Agree.{sound-of-test, free-of-test}
use Rattle.state.specs.State.{State, state_of}
use Rattle.open.proofs.open_swept.Goals as goal
use Rattle.open.proofs.open_swept.Goals.{Start}

-- the state as it is given
abbrev given : Start → State
given c = let a = c.args in state_of a.control.now a.table.now a.names.now a.committed.now a.staged.now a.image.now a.hash.now

-- base and a name that is unknown are not there
absent : {b : Blob} (flags t : ℕ) (m : List ℕ) (s : State) → (b ≡ Base) ⊎ (b ≡ Unknown) → (refused not_found, s) ≡ open_blob b flags t m s
unfolding open_blob
absent flags t m s (inl p) = rw p
absent flags t m s (inr p) = rw p

-- a store name that is lent from the message is short
lent-short : (m : List ℕ) (start len : ℕ) → StoreInside m start len → length (take (start + len - start) (drop start m)) ≤ name_most
lent-short m start len i =
    let e : length (take (start + len - start) (drop start m)) ≡ len = ap length (lent-part start len m) ∙ length_part start len m i.ends in
    omega (arith, e, i.short)

pub open_store-requires : goal.open_store-requires
open_store-requires c =
    let a = c.args in
    let s = given (goal.at.open_store-requires c).Start in
    let p = (sound-of-test s c.requires.1).shape in
    (lent-short a.message.now c.in-Store.start c.in-Store.len (subst (BlobInside a.message.now) c.in-Store.is c.requires.0), (p.next_small, (p.table-size, (p.names-size, (p.committed-size, (p.staged-size, free-of-test s c.requires.1))))))

pub open_flash-requires : goal.open_flash-requires
open_flash-requires c =
    let a = c.args in
    let p = (sound-of-test (given (goal.at.open_flash-requires c).Start) c.requires.1).shape in
    (p.next_small, (p.table-size, (p.image-size, p.hash-size)))

pub returns-in-Store : goal.returns-in-Store
unfolding open_blob
returns-in-Store c =
    let a = c.args in
    let s = given (goal.at.returns-in-Store c).Start in
    λ x. c.open_store.ensures a.image.now a.hash.now x
    ∙ ap (λ (n : List ℕ). open_store n a.flags a.clock s) (lent-part c.in-Store.start c.in-Store.len a.message.now)
    ∙ ap (λ (b : Blob). open_blob b a.flags a.clock a.message.now s) (sym c.in-Store.is)

pub returns-in-Flash : goal.returns-in-Flash
unfolding open_blob
returns-in-Flash c =
    let a = c.args in
    let s = given (goal.at.returns-in-Flash c).Start in
    λ x. c.open_flash.ensures a.names.now a.committed.now a.staged.now x ∙ ap (λ (b : Blob). open_blob b a.flags a.clock a.message.now s) (sym c.in-Flash.is)

pub returns-in-Base : goal.returns-in-Base
returns-in-Base c =
    let a = c.args in
    λ x. absent a.flags a.clock a.message.now (given (goal.at.returns-in-Base c).Start) c.in-Base.is
