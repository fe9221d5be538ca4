-- `request_serve::serve` meets its contract: each command by what its code ensures. Assumes nothing.
use Rattle.std.proofs.Common.{◌≡◌, Ok, Err, refl, ap, List, ℕ, ◌≤◌, arith}
use Rattle.protocol.specs.Frame.{Reply}
use Rattle.protocol.specs.Inside.{Inside}
use Rattle.protocol.specs.Numbers.{read_most}
use Rattle.protocol.specs.declared.Request.{Request}
use Rattle.request_serve.proofs.Laws.{shape_of, lengths-fit, inside_of, write-rest}
use Rattle.request_serve.proofs.Serving.{Serves, plain, laying, asked_is}
use Rattle.request_serve.specs.Serves.{readied}
use Rattle.response_types.specs.After.{Outcome, fields_length}
use Rattle.rules.specs.Respond.{answered}
use Rattle.state.specs.Parts.{Shape}
use Rattle.state.specs.State.{State, state_of}
use Rattle.request_serve.proofs.serve.Goals as goal
use Rattle.request_serve.proofs.serve.Goals.{Start}

-- the state that is found
abbrev found : Start → State
found c = let a = c.args in state_of a.control.now a.table.now a.names.now a.committed.now a.staged.now a.image.now a.hash.now

-- what is lent has the right lengths
shape : (c : Start) → Shape (found c)
shape c = shape_of (found c) c.requires.0

-- what the request points to stands in the message
inside : (c : Start) {q : Request} → c.args.asked ≡ q → Inside c.args.message.now q
inside c {q} e = inside_of c.args.message.now c.args.asked q c.requires.1.0 e

-- the request is the one of the arm
answers : (c : Start) {said : Outcome} {x : Reply × State} {b : List ℕ} {q : Request} → c.args.asked ≡ q
    → Serves said x b q c.args.clock c.args.message.now (found c) c.args.answer.now
    → ((x, b) ≡ readied c.args.asked c.args.clock c.args.message.now (found c) c.args.answer.now) × (fields_length said ≤ read_most)
answers c {said} {x} {b} {q} e h = asked_is said x c.args.answer.now b c.args.clock c.args.message.now (found c) q c.args.asked e h

pub count-requires : goal.count-requires
count-requires c = (shape (goal.at.count-requires c).Start).marks-small

pub enumerate-requires : goal.enumerate-requires
enumerate-requires c =
    ((shape (goal.at.enumerate-requires c).Start).marks-small, ((shape (goal.at.enumerate-requires c).Start).names-size, c.requires.1.1))

pub open-requires : goal.open-requires
open-requires c =
    (c.requires.0, inside (goal.at.open-requires c).Start c.in-Open.is)

pub read-requires : goal.read-requires
read-requires c =
    let g = shape (goal.at.read-requires c).Start in (
      g.table-size,
      (
        g.committed-size,
        (
          g.staged-size,
          (
            c.requires.1.1,
            lengths-fit (found (goal.at.read-requires c).Start) c.requires.0,
          ),
        ),
      ),
    )

pub slice_bounds-write-count : goal.slice_bounds-write-count
slice_bounds-write-count c =
    let i : _ ≤ _ = inside (goal.at.slice_bounds-write-count c).Start c.in-Write.is in
    omega (arith, i)

pub slice_bounds-write-start : goal.slice_bounds-write-start
slice_bounds-write-start c =
    let i : _ ≤ _ = inside (goal.at.slice_bounds-write-start c).Start c.in-Write.is in
    omega (arith, i)

pub write-requires : goal.write-requires
write-requires c =
    let g = shape (goal.at.write-requires c).Start in
    (g.table-size, (g.staged-size, (g.image-size, g.hash-size)))

pub commit-requires : goal.commit-requires
commit-requires c =
    let g = shape (goal.at.commit-requires c).Start in
    (g.table-size, (g.committed-size, (g.staged-size, (g.image-size, g.hash-size))))

pub close-requires : goal.close-requires
close-requires c =
    let g = shape (goal.at.close-requires c).Start in
    (g.table-size, (g.names-size, (g.committed-size, (g.staged-size, (g.image-size, g.hash-size)))))

pub delete-requires : goal.delete-requires
delete-requires c =
    let g = shape (goal.at.delete-requires c).Start in
    (inside (goal.at.delete-requires c).Start c.in-Delete.is, (g.table-size, (g.names-size, (g.committed-size, g.staged-size))))

pub stat-requires : goal.stat-requires
stat-requires c =
    (inside (goal.at.stat-requires c).Start c.in-Stat.is, ((shape (goal.at.stat-requires c).Start).table-size, (shape (goal.at.stat-requires c).Start).names-size))

pub stat-requires-in-SessionStat : goal.stat-requires-in-SessionStat
stat-requires-in-SessionStat c = (shape (goal.at.stat-requires-in-SessionStat c).Start).table-size

pub write_meta-requires : goal.write_meta-requires
write_meta-requires c = (shape (goal.at.write_meta-requires c).Start).table-size

pub returns-in-Count : goal.returns-in-Count
unfolding answered
returns-in-Count c =
    let a = c.args in
    let s = found (goal.at.returns-in-Count c).Start in
    answers (goal.at.returns-in-Count c).Start c.in-Count.is (plain _ _ _ _ _ refl (Ok c.count.result) s
    (λ (b : List ℕ). ap (λ (r : Reply). (r, s)) (c.count.ensures a.table.now a.names.now a.committed.now a.staged.now a.image.now a.hash.now b)))

pub returns-in-Enumerate : goal.returns-in-Enumerate
unfolding answered
returns-in-Enumerate c =
    let a = c.args in
    let s = found (goal.at.returns-in-Enumerate c).Start in
    let e = c.enumerate.ensures a.table.now a.committed.now a.staged.now a.image.now a.hash.now in
    answers (goal.at.returns-in-Enumerate c).Start c.in-Enumerate.is
    (laying _ _ _ _ _ refl c.enumerate.result s _ (ap (λ (r : Reply). (r, s)) e.says) e.short e.lays)

pub returns-in-Open : goal.returns-in-Open
unfolding answered
returns-in-Open c =
    answers (goal.at.returns-in-Open c).Start c.in-Open.is (plain _ _ _ _ _ refl c.«open».result _ c.«open».ensures)

pub returns-in-Read : goal.returns-in-Read
unfolding answered
returns-in-Read c =
    let a = c.args in
    let e = c.read.ensures.1 a.names.now a.image.now a.hash.now in
    answers (goal.at.returns-in-Read c).Start c.in-Read.is (laying _ _ _ _ _ refl c.read.result _ _ e.0 c.read.ensures.0 e.1)

pub returns-in-Write : goal.returns-in-Write
unfolding answered
returns-in-Write c =
    let a = c.args in
    answers (goal.at.returns-in-Write c).Start c.in-Write.is (plain _ _ _ _ _ refl c.write.result _
    (λ (b : List ℕ). write-rest _ a.clock _ _ a.message.now (found (goal.at.returns-in-Write c).Start) _ (c.write.ensures a.names.now a.committed.now b)))

pub returns-in-Commit : goal.returns-in-Commit
unfolding answered
returns-in-Commit c =
    answers (goal.at.returns-in-Commit c).Start c.in-Commit.is (plain _ _ _ _ _ refl c.commit.result _ (c.commit.ensures c.args.names.now))

pub returns-in-Close : goal.returns-in-Close
unfolding answered
returns-in-Close c =
    answers (goal.at.returns-in-Close c).Start c.in-Close.is (plain _ _ _ _ _ refl c.close.result _ (c.close.ensures c.args.clock))

pub returns-in-Delete : goal.returns-in-Delete
unfolding answered
returns-in-Delete c =
    answers (goal.at.returns-in-Delete c).Start c.in-Delete.is (plain _ _ _ _ _ refl c.delete.result _ (c.delete.ensures c.args.image.now c.args.hash.now))

pub returns-in-Stat : goal.returns-in-Stat
unfolding answered
returns-in-Stat c =
    let a = c.args in
    let s = found (goal.at.returns-in-Stat c).Start in
    answers (goal.at.returns-in-Stat c).Start c.in-Stat.is (plain _ _ _ _ _ refl c.stat.result s
    (λ (b : List ℕ). ap (λ (r : Reply). (r, s)) (c.stat.ensures a.committed.now a.staged.now a.image.now a.hash.now b)))

pub returns-in-SessionStat : goal.returns-in-SessionStat
unfolding answered
returns-in-SessionStat c =
    let a = c.args in
    answers (goal.at.returns-in-SessionStat c).Start c.in-SessionStat.is (plain _ _ _ _ _ refl c.stat-in-SessionStat.result _
    (c.stat-in-SessionStat.ensures a.names.now a.committed.now a.staged.now a.image.now a.hash.now))

pub returns-in-WriteMeta : goal.returns-in-WriteMeta
unfolding answered
returns-in-WriteMeta c =
    let a = c.args in
    answers (goal.at.returns-in-WriteMeta c).Start c.in-WriteMeta.is (plain _ _ _ _ _ refl c.write_meta.result _
    (c.write_meta.ensures a.clock a.names.now a.committed.now a.staged.now a.image.now a.hash.now))

pub returns-in-Refused : goal.returns-in-Refused
unfolding answered
returns-in-Refused c =
    answers (goal.at.returns-in-Refused c).Start c.in-Refused.is (plain _ _ _ _ _ refl (Err c.in-Refused.code) _ (λ (b : List ℕ). refl))
