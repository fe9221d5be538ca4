-- `delete`: by what the name names.
use Rattle.std.proofs.Common.{◌≡◌, List, ℕ, sym, ◌∙◌, ap, inl, inr}
use Rattle.std.specs.Prelude.{◌⊎◌}
use Rattle.name_delete.specs.Laws.{delete-lent}
use Rattle.protocol.specs.Frame.{refused}
use Rattle.protocol.specs.Numbers.{not_supported}
use Rattle.protocol.specs.declared.FlashKind.{FlashKind}
use Rattle.protocol.specs.declared.Blob.TheVariants.{Flash, Base}
use Rattle.protocol.specs.declared.Blob.{Blob}
use Rattle.rules.specs.Named.{delete_blob}
use Rattle.state.specs.State.{State, state_of}
use Rattle.name_delete.proofs.delete.Goals as goal

pub returns-in-Store : goal.returns-in-Store
returns-in-Store c =
    λ i h x.
    let a = c.args in
    let s = state_of a.control.now a.table.now a.names.now a.committed.now a.staged.now i h in
    c.delete_store.ensures i h x ∙ delete-lent c.in-Store.start c.in-Store.len a.message.now s ∙ ap (λ (b : Blob). delete_blob b a.message.now s) (sym c.in-Store.is)

-- a flash name and the base
not-stored : {b : Blob} (m : List ℕ) (s : State) → ((kind : FlashKind) × (b ≡ Flash kind)) ⊎ (b ≡ Base) → (refused not_supported, s) ≡ delete_blob b m s
unfolding delete_blob
not-stored m s (inl p) = rw p.1
not-stored m s (inr p) = rw p

pub returns-in-Flash : goal.returns-in-Flash
returns-in-Flash c = λ i h x. not-stored _ _ c.in-Flash.is

pub returns-in-Unknown : goal.returns-in-Unknown
unfolding delete_blob
returns-in-Unknown c = λ i h x. rw c.in-Unknown.is
