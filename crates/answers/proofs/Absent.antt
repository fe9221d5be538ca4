-- A command with an identifier that no session has is refused with CB. Assumes nothing.
use Rattle.std.proofs.Math.Path.{◌≡◌, sym, ap}
use Rattle.std.proofs.Common.{◌∙◌, true≢false, arith}
use Rattle.std.specs.Prelude.{◌≢◌, ℕ, drop}
use Rattle.std.proofs.Math.Bool.{true}
use Rattle.std.proofs.Math.Option.{Option}
use mathlib.Core.List.{List, ◌∷◌}
use borrow.Author.Tests.{ne_eqb}
use Rattle.protocol.specs.Numbers.{not_found}
use Rattle.protocol.specs.Decode.{number_of, values_of}
use Rattle.protocol.specs.Frame.{refused}
use Rattle.protocol.specs.declared.Request.{Request}
use Rattle.protocol.specs.declared.Request.TheVariants.{Count, Enumerate, Open, Read, Write, Commit, Close, Delete, Stat, SessionStat, WriteMeta, Refused}
use Rattle.state.specs.declared.row.Wanted.TheVariants.{Id}
use Rattle.state.specs.State.{State}
use Rattle.state.specs.Words.{ident, Live}
use Rattle.rules.specs.Command.{Command, read, write, commit, stat, close, write_meta}
use Rattle.rules.specs.Session.{on_found, on_session}
use Rattle.rules.specs.Respond.{answered}
use Rattle.rules.specs.Searches.{none_found}
use Rattle.guarantees.specs.Merging.{of_session}

module _ (t : ℕ) (m : List ℕ) (s : State) (id : ℕ) (n : (i : ℕ) → Live i s → ident i s ≢ id) where
  none-there : (c : Command) → (on_session (Id id) t c s).0 ≡ refused not_found
  unfolding on_session
  none-there c = ap (λ (o : Option ℕ). (on_found o (Id id) t c s).0) (none_found (Id id) s (λ (r : ℕ) (l : Live r s). ne_eqb (ident r s) id (n r l)))

  pub absent-reply : (q : Request) (rest : List ℕ) → of_session (number_of q) ≡ true → values_of q ≡ id ∷ rest → (answered q t m s).0 ≡ refused not_found
  unfolding answered
  absent-reply Count rest o v = absurd (true≢false (sym o))
  absent-reply (Enumerate index) rest o v = absurd (true≢false (sym o))
  absent-reply (Open flags b) rest o v = absurd (true≢false (sym o))
  absent-reply (Read session offset k) rest o v = let e : session ≡ id = cc in ap (λ (x : ℕ). (on_session (Id x) t (read offset k) s).0) e ∙ none-there (read offset k)
  absent-reply (Write session offset start) rest o v = let e : session ≡ id = cc in ap (λ (x : ℕ). (on_session (Id x) t (write offset (drop start m)) s).0) e ∙ none-there (write offset (drop start m))
  absent-reply (Commit session len k) rest o v = let e : session ≡ id = cc in ap (λ (x : ℕ). (on_session (Id x) t (commit len k) s).0) e ∙ none-there (commit len k)
  absent-reply (Close session) rest o v = let e : session ≡ id = cc in ap (λ (x : ℕ). (on_session (Id x) t close s).0) e ∙ none-there close
  absent-reply (Delete b) rest o v = absurd (true≢false (sym o))
  absent-reply (Stat b) rest o v = absurd (true≢false (sym o))
  absent-reply (SessionStat session) rest o v = let e : session ≡ id = cc in ap (λ (x : ℕ). (on_session (Id x) t stat s).0) e ∙ none-there stat
  absent-reply (WriteMeta session) rest o v = let e : session ≡ id = cc in ap (λ (x : ℕ). (on_session (Id x) t write_meta s).0) e ∙ none-there write_meta
  absent-reply (Refused code) rest o v = absurd (let z : ◌≡◌ {A = ℕ} 0 1 = cc in omega arith)
