-- `write`: to the image, to the hash, refused to the others.
use Rattle.std.proofs.Common.{sym, ◌∙◌, ap, refl, List, ℕ, arith}
use Rattle.std.proofs.lemmas.Result.{err_from_is_err_and}
use Rattle.protocol.proofs.Sizes.{image-size, hash-size}
use Rattle.protocol.specs.Names.{kind_of}
use Rattle.protocol.specs.Numbers.{image_size, hash_size}
use Rattle.rules.specs.Flash.{with_image, with_hash}
use Rattle.session_flash.proofs.Laws.{holds_bytes, no-bytes-held, write-image, write-hash, write-d5, write-refused, write-accepted}
use Rattle.session_row.specs.OnRow.{row_read}
use Rattle.state.specs.State.{State, state_of}
use Rattle.session_flash.proofs.write.Goals as goal

pub write_whole-requires : goal.write_whole-requires
write_whole-requires c = (c.requires.0, omega (arith, image-size))

pub write_whole-requires-in-Hash : goal.write_whole-requires-in-Hash
write_whole-requires-in-Hash c = (c.requires.0, omega (arith, hash-size))

pub returns-in_err-control-in-Image : goal.returns-in_err-control-in-Image
returns-in_err-control-in-Image c =
    let a = c.args in
    λ (n m g x : List ℕ).
    let s : State = state_of a.control.now a.table.now n m g a.image.now a.hash.now in
    let passed = err_from_is_err_and c.from_residual.result c.from_residual.ensures.1 in
    rw (passed.1, passed.2) (
    write-refused s a.r a.e c.requires.0.words_of_row c.requires.1.0 a.clock a.offset a.bytes.now x image_size a.image.now a.control.now.image_len (λ (l : List ℕ) (j : ℕ). with_image l j s.flash_group) refl
    (write-image a.clock a.offset a.bytes.now (row_read a.r a.e s) s.flash_group (kind_of a.e.blob) (sym c.kind_of.ensures ∙ c.in-Image.is)) c.requires.1.1.0
    c.write_whole.result c.write_whole.new.table c.write_whole.new.region c.write_whole.ensures.0 c.write_whole.ensures.1.0 c.write_whole.ensures.1.1 _ c.in_err-control-in-Image.was
    )

pub returns-in_ok-control-in-Image : goal.returns-in_ok-control-in-Image
returns-in_ok-control-in-Image c =
    let a = c.args in
    λ (n m g x : List ℕ).
    let s : State = state_of a.control.now a.table.now n m g a.image.now a.hash.now in
    write-accepted s a.r a.e c.requires.0.words_of_row c.requires.1.0 a.clock a.offset a.bytes.now x image_size a.image.now a.control.now.image_len (λ (l : List ℕ) (j : ℕ). with_image l j s.flash_group) refl
    (write-image a.clock a.offset a.bytes.now (row_read a.r a.e s) s.flash_group (kind_of a.e.blob) (sym c.kind_of.ensures ∙ c.in-Image.is)) c.requires.1.1.0
    c.write_whole.result c.write_whole.new.table c.write_whole.new.region c.write_whole.ensures.0 c.write_whole.ensures.1.0 c.write_whole.ensures.1.1 _ c.in_ok-control-in-Image.was

pub returns-in_err-control-in-Hash : goal.returns-in_err-control-in-Hash
returns-in_err-control-in-Hash c =
    let a = c.args in
    λ (n m g x : List ℕ).
    let s : State = state_of a.control.now a.table.now n m g a.image.now a.hash.now in
    let passed = err_from_is_err_and c.from_residual-in_err-control-in-Hash.result c.from_residual-in_err-control-in-Hash.ensures.1 in
    rw (passed.1, passed.2) (
    write-refused s a.r a.e c.requires.0.words_of_row c.requires.1.0 a.clock a.offset a.bytes.now x hash_size a.hash.now a.control.now.hash_len (λ (l : List ℕ) (j : ℕ). with_hash l j s.flash_group) refl
    (write-hash a.clock a.offset a.bytes.now (row_read a.r a.e s) s.flash_group (kind_of a.e.blob) (sym c.kind_of.ensures ∙ c.in-Hash.is)) c.requires.1.1.1
    c.write_whole-in-Hash.result c.write_whole-in-Hash.new.table c.write_whole-in-Hash.new.region c.write_whole-in-Hash.ensures.0 c.write_whole-in-Hash.ensures.1.0 c.write_whole-in-Hash.ensures.1.1 _ c.in_err-control-in-Hash.was
    )

pub returns-in_ok-control-in-Hash : goal.returns-in_ok-control-in-Hash
returns-in_ok-control-in-Hash c =
    let a = c.args in
    λ (n m g x : List ℕ).
    let s : State = state_of a.control.now a.table.now n m g a.image.now a.hash.now in
    write-accepted s a.r a.e c.requires.0.words_of_row c.requires.1.0 a.clock a.offset a.bytes.now x hash_size a.hash.now a.control.now.hash_len (λ (l : List ℕ) (j : ℕ). with_hash l j s.flash_group) refl
    (write-hash a.clock a.offset a.bytes.now (row_read a.r a.e s) s.flash_group (kind_of a.e.blob) (sym c.kind_of.ensures ∙ c.in-Hash.is)) c.requires.1.1.1
    c.write_whole-in-Hash.result c.write_whole-in-Hash.new.table c.write_whole-in-Hash.new.region c.write_whole-in-Hash.ensures.0 c.write_whole-in-Hash.ensures.1.0 c.write_whole-in-Hash.ensures.1.1 _ c.in_ok-control-in-Hash.was

pub returns-in-Verify : goal.returns-in-Verify
returns-in-Verify c =
    let a = c.args in
    λ (n m g x : List ℕ).
    write-d5 (state_of a.control.now a.table.now n m g a.image.now a.hash.now) a.r a.e c.requires.0.words_of_row c.requires.1.0 a.clock a.offset a.bytes.now x
    (ap holds_bytes (sym c.kind_of.ensures) ∙ no-bytes-held c.in-Verify.is)
