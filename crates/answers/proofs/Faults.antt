-- The faults of a message's frame, in the order of document 01: the first decides the code, and where there is none the command's own checks do. Assumes nothing.
use Rattle.std.specs.Prelude.{◌≡◌, refl, Bool, true, false, cond, ◌&&◌, List, ℕ, suc, leb, length, take}
use Rattle.std.proofs.Common.{◌∙◌, ap, leb-true}
use Rattle.std.proofs.Math.Option.{Option, none, some}
use Rattle.laws.specs.Bytes.{same}
use Rattle.protocol.specs.Numbers.{wrong_length, invalid, unknown_command, oem, header_size, message_size, write_meta_command}
use Rattle.protocol.specs.Decode.{decoded, asked, subcommand, body_length, body_fits, crc_fits, refused_with}
use Rattle.protocol.specs.Cases.{Each, each-command}
use Rattle.protocol.specs.Frame.{refused}
use Rattle.protocol.specs.declared.Request.{Request}
use Rattle.state.specs.State.{State}
use Rattle.state.specs.Soundness.{is_sound}
use Rattle.rules.specs.Checks.{whether}
use Rattle.rules.specs.Respond.{answered, respond}
use Rattle.rules.proofs.Examples.{reply-is, refused-code}
use Rattle.answers.specs.Faults.{body_right, frame_fault}

-- ---- it is what decoding does
bodies : (n : ℕ) → Each (λ (sub : ℕ). body_fits sub n ≡ body_right sub n) (suc write_meta_command)
unfolding body_fits
bodies n = (((((((((((tt, refl), refl), refl), refl), refl), refl), refl), refl), refl), refl), refl)

-- the five checks, one behind the other: d and e stand for body length and CRC
checks : (a b c d e : Bool) (q : Request)
    → cond a (cond b (cond c (cond d (cond e q (refused_with invalid)) (refused_with wrong_length)) (refused_with unknown_command)) (refused_with invalid)) (refused_with wrong_length)
    ≡ whether (cond a (cond b (cond c (cond d (cond e none (some invalid)) (some wrong_length)) (some unknown_command)) (some invalid)) (some wrong_length)) refused_with q
checks false b c d e q = refl
checks true false c d e q = refl
checks true true false d e q = refl
checks true true true false e q = refl
checks true true true true false q = refl
checks true true true true true q = refl

-- a check that is only reached behind another
behind : (c d d' : Bool) (x y z : Request) → (c ≡ true → d ≡ d') → cond c (cond d x y) z ≡ cond c (cond d' x y) z
behind true d d' x y z f = ap (λ (v : Bool). cond v x y) (f refl)
behind false d d' x y z f = refl

-- A MESSAGE IS REFUSED WITH ITS FIRST FAULT, OR ASKS WHAT ITS SUBCOMMAND ASKS (rule 7.13)
pub decoded-by-frame : (m : List ℕ) → decoded m ≡ whether (frame_fault m) refused_with (asked (subcommand m) m)
unfolding decoded crc_fits
decoded-by-frame m =
    ap (λ (q : Request). cond sized (cond branded q (refused_with invalid)) (refused_with wrong_length))
    (behind known (body_fits (subcommand m) (body_length m)) (body_right (subcommand m) (body_length m)) (cond (crc_fits m) (asked (subcommand m) m)
    (refused_with invalid)) (refused_with wrong_length) (refused_with unknown_command)
    (λ (c : known ≡ true). each-command (λ (sub : ℕ). body_fits sub (body_length m) ≡ body_right sub (body_length m)) (subcommand m)
    (bodies (body_length m)) (leb-true (subcommand m) write_meta_command c)))
    ∙ checks sized branded known (body_right (subcommand m) (body_length m)) (crc_fits m) (asked (subcommand m) m)
  where
    sized : Bool
    sized = leb header_size (length m) && leb (length m) message_size

    branded : Bool
    branded = same (take (length oem) m) oem

    known : Bool
    known = leb (subcommand m) write_meta_command

-- SO THE FIRST FAULT IS THE CODE (rule 7.13)
pub fault-code : (t : ℕ) (m : List ℕ) (s : State) (code : ℕ) → is_sound s ≡ true → frame_fault m ≡ some code → (respond t m s).code ≡ code
unfolding answered
fault-code t m s code h e =
    (reply-is t m s (refused_with code) (refused code) h (decoded-by-frame m ∙ ap (λ (o : Option ℕ). whether o refused_with (asked (subcommand m) m)) e) refl).0 ∙ refused-code code code
