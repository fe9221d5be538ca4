-- `stat`: by what the name names.
use Rattle.std.proofs.Common.{sym, ◌∙◌, ap}
use Rattle.name_stat.specs.Laws.{store-lent}
use Rattle.protocol.specs.declared.Blob.{Blob}
use Rattle.rules.specs.Named.{stat_blob}
use Rattle.state.specs.State.{state_of}
use Rattle.name_stat.proofs.stat.Goals as goal

pub returns-in-Store : goal.returns-in-Store
returns-in-Store c =
    λ d g i h x.
    let a = c.args in
    let s = state_of a.control a.table.now a.names.now d g i h in
    c.stat_store.ensures d g i h x ∙ store-lent c.in-Store.start c.in-Store.len a.message.now s ∙ ap (λ (b : Blob). stat_blob b a.message.now s) (sym c.in-Store.is)

pub returns-in-Flash : goal.returns-in-Flash
returns-in-Flash c =
    λ d g i h x. let a = c.args in c.stat_flash.ensures a.message.now a.names.now d g i h x ∙ ap
    (λ (b : Blob). stat_blob b a.message.now (state_of a.control a.table.now a.names.now d g i h)) (sym c.in-Flash.is)

pub returns-in-Base : goal.returns-in-Base
unfolding stat_blob
returns-in-Base c = λ d g i h _. let a = c.args in ap (λ (b : Blob). stat_blob b a.message.now (state_of a.control a.table.now a.names.now d g i h)) (sym c.in-Base.is)

pub returns-in-Unknown : goal.returns-in-Unknown
unfolding stat_blob
returns-in-Unknown c = λ d g i h _. let a = c.args in ap (λ (b : Blob). stat_blob b a.message.now (state_of a.control a.table.now a.names.now d g i h)) (sym c.in-Unknown.is)
