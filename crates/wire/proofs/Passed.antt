-- What a `?` hands on. Assumes nothing.
use Rattle.std.specs.Prelude.{◌≡◌, refl, Option, Some, None, Result, Ok, Err, IsErr, IsErrAnd, ok_or, ℕ}
use Rattle.std.proofs.Common.{◌∙◌, ap, arith}
use Rattle.std.specs.Result.{result_ok}
use Rattle.std.proofs.lemmas.Result.{err_from_is_err_and}

-- the error of a call
pub passed : {T E : Type 0} (r : Result T E) (e : E) → IsErr r × IsErrAnd r (λ (x : E). x ≡ e) → r ≡ Err e
passed {T} {E} r e h =
    let err : E → Result T E = λ (x : E). Err x in
    let p = err_from_is_err_and {Q = λ (x : E). x ≡ e} r h.1 in
    p.1 ∙ ap err p.2

-- the error that stands for a value that is not there
pub missing : {T U E : Type 0} (o : Option U) (r : Result T E) (e d : E) → ◌≡◌ {A = Result U E} (Err d) (ok_or o e) → o ≡ None → IsErr r × IsErrAnd r (λ (x : E). x ≡ d) → r ≡ Err e
missing {T} {U} {E} o r e d h n p =
    let err : E → Result T E = λ (x : E). Err x in
    let q : ◌≡◌ {A = Result U E} (Err d) (Err e) = h ∙ ap (λ (x : Option U). ok_or x e) n in
    let w : d ≡ e = cc in
    passed r d p ∙ ap err w

-- what `ok` leaves of a result that is there, and of one that is not
pub ok-there : {T E : Type 0} (r : Result T E) (x : T) → Some x ≡ result_ok r → r ≡ Ok x
ok-there {T} {E} (Ok y) x h =
    let ok : T → Result T E = λ (z : T). Ok z in
    let q : y ≡ x = cc in
    ap ok q
ok-there (Err e) x h = absurd (let z : ◌≡◌ {A = ℕ} 0 1 = cc in omega arith)

pub ok-missing : {T E : Type 0} (r : Result T E) → ◌≡◌ {A = Option T} None (result_ok r) → (e : E) × (r ≡ Err e)
ok-missing (Ok y) h = absurd (let z : ◌≡◌ {A = ℕ} 0 1 = cc in omega arith)
ok-missing (Err e) h = (e, refl)
