-- The listed names in their order, and which letters and lengths names have: tables of their own. Assumes nothing.
use Rattle.std.specs.Prelude.{◌≡◌, refl, Bool, true, false, cond, List, [], ◌∷◌, ◌++◌, ℕ, ◌<◌, length, get_or, replicate}
use Rattle.std.proofs.Common.{sym, ◌∙◌, ap, subst, lt-ltb}
use Rattle.laws.specs.All.{all}
use Rattle.laws.specs.Bytes.{same, first_zero}
use Rattle.protocol.specs.Numbers.{slot_count, enumerate_command, out_of_range}
use Rattle.protocol.specs.Names.{base, alnum, store_name, name_form}
use Rattle.protocol.specs.Decode.{number_of, decoded}
use Rattle.protocol.specs.Frame.{framed, refused, reply}
use Rattle.protocol.specs.declared.Request.{Request}
use Rattle.protocol.specs.declared.Request.TheVariants.{Enumerate}
use Rattle.state.specs.declared.Phase.{Phase}
use Rattle.state.specs.declared.Phase.TheVariants.{Idle, Uploading, Verified}
use Rattle.state.specs.State.{State}
use Rattle.state.specs.Soundness.{is_sound}
use Rattle.rules.specs.Opening.{flash_listed}
use Rattle.rules.specs.Listing.{committed_names, flash_names, listed, count}
use Rattle.rules.proofs.Messages.{sent}
use Rattle.rules.specs.Respond.{Effect, answered, respond}
use Rattle.rules.proofs.Laws.{respond-is}
use Rattle.effects.specs.Names.{flash_in, names}

flash-in : (p : Phase) → flash_names p ≡ flash_in p
unfolding flash_names flash_listed
flash-in Idle = refl
flash-in Uploading = refl
flash-in Verified = refl

names-are : (s : State) → listed s ≡ names s
unfolding listed
names-are s = ap (λ (l : List (List ℕ)). base ∷ (committed_names slot_count s ++ l)) (flash-in s.flash_group.phase)

-- ENUMERATE SENDS THE NAME AT ITS INDEX WITH A NUL BEHIND IT (rule 8.4)
pub enumerate-sends : (t i : ℕ) (m : List ℕ) (s : State) → is_sound s ≡ true → decoded m ≡ Enumerate i → i < length (names s)
    → (respond t m s).response ≡ sent enumerate_command (get_or (names s) i [] ++ (0 ∷ []))
unfolding answered framed
enumerate-sends t i m s h d l =
    ap (λ (o : Effect). o.response) (respond-is t m s h)
    ∙ ap (λ (q : Request). (framed (number_of q) (answered q t m s).0).1) d
    ∙ ap (λ (y : Bool). (framed enumerate_command (cond y (reply (get_or (listed s) i [] ++ (0 ∷ []))) (refused out_of_range))).1)
    (lt-ltb i (count s) (subst (λ (n : List (List ℕ)). i < length n) (sym (names-are s)) l))
    ∙ ap (λ (n : List (List ℕ)). sent enumerate_command (get_or n i [] ++ (0 ∷ []))) (names-are s)

-- ---- lengths
-- THE LONGEST NAMES: 25 letters behind `/scan/` and not 26 nor none; 31 characters and not 32 nor none (rules 4.2 and 4.3)
pub record Longest : Type 0 where
  pub letters-25 : store_name (base ++ replicate 25 0x61) ≡ true
  pub letters-26 : store_name (base ++ replicate 26 0x61) ≡ false
  pub letters-0 : store_name base ≡ false
  pub characters-31 : name_form (replicate 31 0x61 ++ (0 ∷ [])) ≡ true
  pub characters-32 : name_form (replicate 32 0x61 ++ (0 ∷ [])) ≡ false
  pub characters-0 : name_form (0 ∷ []) ≡ false

pub longest : Longest
unfolding store_name alnum base same all name_form first_zero
longest = record { letters-25 = refl; letters-26 = refl; letters-0 = refl; characters-31 = refl; characters-32 = refl; characters-0 = refl }
