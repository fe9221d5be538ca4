-- `request_decode::request_of` meets its contract: each arm knows the subcommand, and what the reader found. Assumes nothing.
use Rattle.std.proofs.Common.{ap, ◌∙◌, arith, rules}
use Rattle.request_decode.proofs.Asked.{near, fits, found-at, first-fits, enumerate-is, read_is, write-is, commit-is, close-is, session-stat-is, write-meta-is, open_is, delete-is, stat-is}
use Rattle.request_decode.proofs.Fits.{open-inside, commit-inside, delete-inside, stat-inside}
use Rattle.request_decode.specs.Widths.{widths_of}
use Rattle.request_reader.specs.declared.Fields.{Fields}
use Rattle.protocol.specs.declared.Blob.{Blob}
use Rattle.protocol.specs.declared.Request.TheVariants as request
use Rattle.protocol.specs.declared.Subcommand.TheVariants.{Enumerate, Open, Read, Write, Commit, Close, Delete, Stat, SessionStat, WriteMeta}
use Rattle.protocol.specs.Decode.{asked}
use Rattle.request_decode.proofs.request_of.Goals as goal

pub overflow_add-at : goal.overflow_add-at
overflow_add-at c = omega (arith, near _ c.args.message.now _ c.requires.1)

pub with_name-requires-clause-within : goal.with_name-requires-clause-within
with_name-requires-clause-within c = let a = c.args in open-inside _ _ (found-at a.sub a.message.now a.f c.requires.1 Open c.in-Open.is) (rw c.in-Open.is at c.requires.0)

pub with_name-requires-in-Delete-clause-within : goal.with_name-requires-in-Delete-clause-within
with_name-requires-in-Delete-clause-within c = let a = c.args in delete-inside _ _ (found-at a.sub a.message.now a.f c.requires.1 Delete c.in-Delete.is) (rw c.in-Delete.is at c.requires.0)

pub with_name-requires-in-Stat-clause-within : goal.with_name-requires-in-Stat-clause-within
with_name-requires-in-Stat-clause-within c = let a = c.args in stat-inside _ _ (found-at a.sub a.message.now a.f c.requires.1 Stat c.in-Stat.is) (rw c.in-Stat.is at c.requires.0)

pub overflow_sub-result : goal.overflow_sub-result
overflow_sub-result c = let a = c.args in commit-inside _ _ (found-at a.sub a.message.now a.f c.requires.1 Commit c.in-Commit.is) (rw c.in-Commit.is at c.requires.0)

pub overflow_cast-flags : goal.overflow_cast-flags
unfolding widths_of
overflow_cast-flags c = let a = c.args in record { fits = first-fits a.sub a.message.now a.f c.requires.1 (λ i. (c.type_inv.message i).fits) (rw c.in-Open.is) }

pub overflow_cast-result : goal.overflow_cast-result
unfolding widths_of
overflow_cast-result c = let a = c.args in record { fits = first-fits a.sub a.message.now a.f c.requires.1 (λ i. (c.type_inv.message i).fits) (rw c.in-Read.is) }

pub overflow_cast-result-in-Write : goal.overflow_cast-result-in-Write
unfolding widths_of
overflow_cast-result-in-Write c = let a = c.args in record { fits = first-fits a.sub a.message.now a.f c.requires.1 (λ i. (c.type_inv.message i).fits) (rw c.in-Write.is) }

pub overflow_cast-result-in-Commit : goal.overflow_cast-result-in-Commit
unfolding widths_of
overflow_cast-result-in-Commit c = let a = c.args in record { fits = first-fits a.sub a.message.now a.f c.requires.1 (λ i. (c.type_inv.message i).fits) (rw c.in-Commit.is) }

pub overflow_cast-result-in-Close : goal.overflow_cast-result-in-Close
unfolding widths_of
overflow_cast-result-in-Close c = let a = c.args in record { fits = first-fits a.sub a.message.now a.f c.requires.1 (λ i. (c.type_inv.message i).fits) (rw c.in-Close.is) }

pub overflow_cast-result-in-SessionStat : goal.overflow_cast-result-in-SessionStat
unfolding widths_of
overflow_cast-result-in-SessionStat c = let a = c.args in record { fits = first-fits a.sub a.message.now a.f c.requires.1 (λ i. (c.type_inv.message i).fits) (rw c.in-SessionStat.is) }

pub overflow_cast-result-in-WriteMeta : goal.overflow_cast-result-in-WriteMeta
unfolding widths_of
overflow_cast-result-in-WriteMeta c = let a = c.args in record { fits = first-fits a.sub a.message.now a.f c.requires.1 (λ i. (c.type_inv.message i).fits) (rw c.in-WriteMeta.is) }

pub overflow_cast-result-in-Commit-2 : goal.overflow_cast-result-in-Commit-2
unfolding widths_of
overflow_cast-result-in-Commit-2 c =
    let a = c.args in
    record { fits = fits a.message.now (λ i. (c.type_inv.message i).fits) 1 4 _ (ap (λ (g : Fields). g.second) (found-at a.sub a.message.now a.f c.requires.1 Commit c.in-Commit.is)) }

pub returns-in-Count : goal.returns-in-Count
unfolding asked
returns-in-Count c = rw c.in-Count.is

pub returns-in-Enumerate : goal.returns-in-Enumerate
returns-in-Enumerate c = let a = c.args in rw c.in-Enumerate.is (enumerate-is _ _ (found-at a.sub a.message.now a.f c.requires.1 Enumerate c.in-Enumerate.is))

pub returns-in-Read : goal.returns-in-Read
returns-in-Read c = let a = c.args in rw c.in-Read.is (read_is _ _ (found-at a.sub a.message.now a.f c.requires.1 Read c.in-Read.is))

pub returns-in-Write : goal.returns-in-Write
returns-in-Write c = let a = c.args in rw c.in-Write.is (write-is _ _ (found-at a.sub a.message.now a.f c.requires.1 Write c.in-Write.is))

pub returns-in-Commit : goal.returns-in-Commit
returns-in-Commit c = let a = c.args in rw c.in-Commit.is (commit-is _ _ (found-at a.sub a.message.now a.f c.requires.1 Commit c.in-Commit.is))

pub returns-in-Close : goal.returns-in-Close
returns-in-Close c = let a = c.args in rw c.in-Close.is (close-is _ _ (found-at a.sub a.message.now a.f c.requires.1 Close c.in-Close.is))

pub returns-in-SessionStat : goal.returns-in-SessionStat
returns-in-SessionStat c = let a = c.args in rw c.in-SessionStat.is (session-stat-is _ _ (found-at a.sub a.message.now a.f c.requires.1 SessionStat c.in-SessionStat.is))

pub returns-in-WriteMeta : goal.returns-in-WriteMeta
returns-in-WriteMeta c = let a = c.args in rw c.in-WriteMeta.is (write-meta-is _ _ (found-at a.sub a.message.now a.f c.requires.1 WriteMeta c.in-WriteMeta.is))

pub returns-in-Open : goal.returns-in-Open
returns-in-Open c = let a = c.args in c.with_name.ensures (λ (b : Blob). request.Open c.args.f.first b) (λ b r post. search rules) ∙ rw c.in-Open.is (open_is _ _ (found-at a.sub a.message.now a.f c.requires.1 Open c.in-Open.is))

pub returns-in-Delete : goal.returns-in-Delete
returns-in-Delete c = let a = c.args in c.with_name-in-Delete.ensures (λ (b : Blob). request.Delete b) (λ b r post. search rules) ∙ rw c.in-Delete.is (delete-is _ _ (found-at a.sub a.message.now a.f c.requires.1 Delete c.in-Delete.is))

pub returns-in-Stat : goal.returns-in-Stat
returns-in-Stat c = let a = c.args in c.with_name-in-Stat.ensures (λ (b : Blob). request.Stat b) (λ b r post. search rules) ∙ rw c.in-Stat.is (stat-is _ _ (found-at a.sub a.message.now a.f c.requires.1 Stat c.in-Stat.is))
