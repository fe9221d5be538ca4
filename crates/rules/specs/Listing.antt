-- Count and Enumerate: the listed names (section 8).
use Rattle.std.specs.Prelude.{Bool, true, false, cond, List, [], ◌∷◌, ◌++◌, ℕ, zero, suc, eqb, ltb, length, get_or}
use Rattle.laws.specs.Bytes.{bytes_of, text}
use Rattle.protocol.specs.Numbers.{slot_count, out_of_range}
use Rattle.protocol.specs.Names.{base, flash_name}
use Rattle.protocol.specs.Frame.{Reply, refused, reply}
use Rattle.protocol.specs.declared.FlashKind.{FlashKind}
use Rattle.protocol.specs.declared.FlashKind.TheVariants.{Image, Hash, Verify, Update, Cleanup}
use Rattle.state.specs.declared.Phase.{Phase}
use Rattle.state.specs.State.{State}
use Rattle.state.specs.Soundness.{slot_at}
use Rattle.rules.specs.Opening.{flash_listed}

-- a name that is listed or not
abbrev pub only : (there : Bool) → List ℕ → List (List ℕ)
only true n = n ∷ []
only false n = []

-- the names of the committed slots among the first n, lowest first (rule 8.1)
unfoldable pub committed_names : (n : ℕ) → State → List (List ℕ)
committed_names zero s = []
committed_names (suc k) s = committed_names k s ++ only (eqb (slot_at k s).mark 1) (text (slot_at k s).name)

abbrev pub listed_flash : FlashKind → Phase → List (List ℕ)
listed_flash k p = only (flash_listed k p) (flash_name k)

-- the listed flash names in their order (rules 8.1 and 8.2)
unfoldable pub flash_names : Phase → List (List ℕ)
flash_names p = listed_flash Image p ++ (listed_flash Hash p ++ (listed_flash Verify p ++ (listed_flash Update p ++ listed_flash Cleanup p)))

-- ALL LISTED NAMES: the base, the committed slots, the flash names (rule 8.1)
unfoldable pub listed : State → List (List ℕ)
listed s = base ∷ (committed_names slot_count s ++ flash_names s.flash_group.phase)

-- how many there are
abbrev pub count : State → ℕ
count s = length (listed s)

-- Count (rule 8.3)
abbrev pub counted : State → Reply
counted s = reply (bytes_of 4 (count s))

-- Enumerate: the name at an index, with a NUL behind it (rule 8.4)
abbrev pub enumerated : (index : ℕ) → State → Reply
enumerated i s = cond (ltb i (count s)) (reply (get_or (listed s) i [] ++ (0 ∷ []))) (refused out_of_range)
