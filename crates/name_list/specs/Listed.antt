-- The list of names by number, and what the code of Enumerate says and leaves in the answer buffer.
use Rattle.std.specs.Prelude.{◌≡◌, Option as Answer, Some, None, cond, List, [], ◌∷◌, ◌++◌, ℕ, zero, suc, ◌+◌, ◌-◌, ◌≤◌, ◌<◌, eqb}
use Rattle.laws.specs.Ranges.{block}
use Rattle.laws.specs.Bytes.{text}
use Rattle.protocol.specs.Numbers.{slot_count, name_size, read_most, out_of_range, image_blob}
use Rattle.protocol.specs.Names.{base, flash_name, kind_of}
use Rattle.protocol.specs.Frame.{Reply, refused, reply}
use Rattle.state.specs.declared.Phase.{Phase}
use Rattle.rules.specs.Listing.{listed_flash}
use Rattle.response_types.specs.After.{Outcome, reply_of, fields_laid, fields_length}
use Rattle.name_list.specs.declared.Listed.{Listed}
use Rattle.name_list.specs.declared.Listed.TheVariants.{Base, Slot, Flash}
use Rattle.rules.specs.Opening.{flash_listed}

-- how many flash names there are; their blob numbers follow one another, from image's on
abbrev pub flash_kinds : ℕ
flash_kinds = 5

-- how many of them have the blob number b or a higher one
abbrev pub behind : ℕ → ℕ
behind b = image_blob + flash_kinds - b

-- of the n flash names from blob number b on, the listed ones
unfoldable pub names_from : ℕ → ℕ → Phase → List (List ℕ)
names_from zero b p = []
names_from (suc n) b p = listed_flash (kind_of b) p ++ names_from n (suc b) p

-- of them the listed one number i, if there are so many
unfoldable pub flash_from : ℕ → ℕ → Phase → ℕ → Answer Listed
flash_from zero b p i = None
flash_from (suc n) b p i = cond (flash_listed (kind_of b) p) (cond (eqb i 0) (Some (Flash (kind_of b))) (flash_from n (suc b) p (i - 1))) (flash_from n (suc b) p i)

abbrev pub flash_at : Phase → ℕ → Answer Listed
flash_at p i = flash_from flash_kinds image_blob p i

-- a slot that is listed is one of the store's
abbrev pub InStore : Answer Listed → Type 0
InStore (Some Base) = Unit {0}
InStore (Some (Slot k)) = k < slot_count
InStore (Some (Flash k)) = Unit {0}
InStore None = Unit {0}

-- a listed name with its NUL; the slots' names stand in `names`
abbrev pub listed_reply : Answer Listed → List ℕ → Reply
listed_reply (Some Base) names = reply (base ++ (0 ∷ []))
listed_reply (Some (Slot k)) names = reply (text ((block name_size k).get names) ++ (0 ∷ []))
listed_reply (Some (Flash k)) names = reply (flash_name k ++ (0 ∷ []))
listed_reply None names = refused out_of_range

-- what is said is the reply r, whose fields stand in the answer buffer in their place and fit a response; the buffer was a
pub record Answers (r : Reply) (said : Outcome) (a a' : List ℕ) : Type 0 where
  pub says : reply_of said a' ≡ r
  pub lays : a' ≡ fields_laid r a
  pub short : fields_length said ≤ read_most
