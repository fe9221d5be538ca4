use Rattle.std.proofs.Common.{◌≡◌, ℕ, ◌+◌, ◌-◌, ◌≤◌, List, ◌++◌, rules, length, take, sym, ap, ◌∙◌, subst, length-take-le}
use Rattle.std.proofs.lemmas.List.{take-append-le}
use Rattle.std.proofs.Math.Seq.{take-append-add}
use Rattle.std.specs.Io.KnownBytes.{Consumes}
use Rattle.std.proofs.KnownBytes.{Consumes-trans}
use borrow.Rule.Slice.PartMut.{put_mid, post_of}
use Rattle.system.proofs.read_full.Goals as goal

-- what was read behind the front of a buffer stands there
take-read : (a k n : ℕ) (xs ys : List ℕ) → a ≤ length xs → n ≤ length ys → take (a + n) (put_mid a k xs ys) ≡ take a xs ++ take n ys
take-read a k n xs ys within fits =
    let front = take a xs in
    let behind = ys ++ post_of a k xs in
    ap (λ m. take (m + n) (front ++ behind)) (sym (length-take-le a xs within)) ∙ take-append-add front behind n ∙ ap (λ l. front ++ l) (take-append-le n ys (post_of a k xs) fits)

pub loop-len-preserved : goal.loop-len-preserved
loop-len-preserved g c =
    let at = c.loop-len.len in
    let room = length c.loop-len.buffer - at in
    let read = take-read at room c.in_ok-n.n c.loop-len.buffer c.read.new.buf c.loop-len.invariant.0 c.in_ok-n.ensures.bound.0 in
    (search rules, subst (Consumes _ _) (sym read) (Consumes-trans _ _ _ _ _ c.loop-len.invariant.1 c.in_ok-n.ensures.bytes.0))
