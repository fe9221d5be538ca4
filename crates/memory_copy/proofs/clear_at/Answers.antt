-- `clear_at`: the part that was filled, as a run of stores.
use Rattle.std.proofs.Common.{◌≡◌, ◌+◌, ◌-◌, ◌∙◌, ap, ℕ, List, length, take, drop, replicate, arith, length-take, length-drop}
use Rattle.std.proofs.lemmas.List.{length-replicate}
use Rattle.std.proofs.lemmas.Slice.{put_mid-paste}
use Rattle.memory_copy.specs.Laws.{pasted}
use Rattle.memory_copy.proofs.clear_at.Goals as goal

pub returns : goal.returns
returns c =
    let a = c.args in
    let zeros : List ℕ = replicate a.n 0 in
    let many : length zeros ≡ a.n = length-replicate a.n 0 in
    let part : length (take (a.at + a.n - a.at) (drop a.at a.dst.now)) ≡ a.n = simp (length-take, length-drop) (omega arith) in
    put_mid-paste _ _ _ _ zeros (length zeros) (c.fill.ensures.after (λ y e. e) ∙ ap (λ (k : ℕ). replicate k 0) part) (omega arith) (omega arith)
    ∙ pasted a.dst.now a.at zeros (omega arith)
