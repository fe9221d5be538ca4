-- Every number of the protocol, once, under its name. Those that measure memory are shut, so that no list of such a length is ever written out.
use Rattle.std.specs.Prelude.{List, [], ◌∷◌, ℕ}

-- ---- Completion codes (section 7)
-- the request is done (rule 7.1)
abbrev pub success : ℕ
success = 0x00

-- the state is not sound (rule 7.2)
abbrev pub not_sound : ℕ
not_sound = 0xFF

-- too few bytes or too many, of the message or of its body (rule 7.3)
abbrev pub wrong_length : ℕ
wrong_length = 0xC7

-- a field that no request may have: OEM number, CRC, form of the name, flags, Commit's length byte (rule 7.4)
abbrev pub invalid : ℕ
invalid = 0xCC

-- a subcommand that there is not (rule 7.5)
abbrev pub unknown_command : ℕ
unknown_command = 0xC1

-- the blob or the session does not exist (rule 7.6)
abbrev pub not_found : ℕ
not_found = 0xCB

-- an index or an offset past the end (rule 7.7)
abbrev pub out_of_range : ℕ
out_of_range = 0xC9

-- more than the region holds (rule 7.8)
abbrev pub too_long : ℕ
too_long = 0xC8

-- every row or every slot is used (rule 7.9)
abbrev pub no_room : ℕ
no_room = 0xC4

-- someone else is at it: a session, or a job (rule 7.10)
abbrev pub busy : ℕ
busy = 0xC0

-- this blob or session does not do that, or no job runs (rule 7.11)
abbrev pub not_supported : ℕ
not_supported = 0xD5

-- ---- Completion codes of a store file (section 24)
-- a store session is open (rule 24.2)
abbrev pub session_open : ℕ
session_open = 0xE0

-- a wire type that is none of the four (rule 24.3)
abbrev pub other_type : ℕ
other_type = 0xE1

-- field number 0 (rule 24.3)
abbrev pub zero_field : ℕ
zero_field = 0xE2

-- a known field of another wire type than its own (rule 24.3)
abbrev pub wrong_type : ℕ
wrong_type = 0xE3

-- a number that is cut off, or has more than ten bytes or 64 bits (rule 24.3)
abbrev pub bad_number : ℕ
bad_number = 0xE4

-- a value that goes past the end of its message (rule 24.3)
abbrev pub past_end : ℕ
past_end = 0xE5

-- no base, or another one (rule 24.5)
abbrev pub wrong_base : ℕ
wrong_base = 0xE6

-- a blob without a store name (rule 24.5)
abbrev pub bad_name : ℕ
bad_name = 0xE7

-- one name for two blobs (rule 24.5)
abbrev pub repeated_name : ℕ
repeated_name = 0xE8

-- a scan that is longer than a slot's region (rule 24.5)
abbrev pub long_data : ℕ
long_data = 0xE9

-- more blobs than slots (rule 24.5)
abbrev pub many_blobs : ℕ
many_blobs = 0xEA

-- ---- Completion codes of a flash configuration (sections 26 and 27)
-- no text of the grammar goes on so, or the text is cut (rule 26.9)
abbrev pub bad_text : ℕ
bad_text = 0xF1

-- a number, where a value is due (rule 26.8)
abbrev pub number_there : ℕ
number_there = 0xF2

-- true, where a value is due (rule 26.8)
abbrev pub true_there : ℕ
true_there = 0xF3

-- false, where a value is due (rule 26.8)
abbrev pub false_there : ℕ
false_there = 0xF4

-- null, where a value is due (rule 26.8)
abbrev pub null_there : ℕ
null_there = 0xF5

-- a list or an object in the eighth level (rule 26.8)
abbrev pub too_deep : ℕ
too_deep = 0xF6

-- a text of the grammar that offends against the profile (rule 28.3)
abbrev pub off_profile : ℕ
off_profile = 0xF7

-- ---- Message frame (section 1)
-- the OEM number 49871, lowest byte first (rule 1.3)
abbrev pub oem : List ℕ
oem = 0xCF ∷ 0xC2 ∷ 0x00 ∷ []

-- OEM number and subcommand, the least that a message has (rule 1.2)
abbrev pub header_size : ℕ
header_size = 4

-- the CRC's bytes (rule 1.5)
abbrev pub crc_size : ℕ
crc_size = 2

-- the most that a message has (rule 1.2)
abbrev pub message_size : ℕ
message_size = 64

-- the most that a Read sends (rule 3.2)
abbrev pub read_most : ℕ
read_most = 58

-- ---- Subcommands (rule 1.4)
abbrev pub count_command : ℕ
count_command = 0

abbrev pub enumerate_command : ℕ
enumerate_command = 1

abbrev pub open_command : ℕ
open_command = 2

abbrev pub read_command : ℕ
read_command = 3

abbrev pub write_command : ℕ
write_command = 4

abbrev pub commit_command : ℕ
commit_command = 5

abbrev pub close_command : ℕ
close_command = 6

abbrev pub delete_command : ℕ
delete_command = 7

abbrev pub stat_command : ℕ
stat_command = 8

abbrev pub session_stat_command : ℕ
session_stat_command = 9

abbrev pub write_meta_command : ℕ
write_meta_command = 10

-- ---- Names (section 4)
-- characters of a name, its NUL not counted (rule 4.1)
abbrev pub name_most : ℕ
name_most = 31

-- letters and digits behind `/scan/` (rule 4.3)
abbrev pub store_name_most : ℕ
store_name_most = 25

-- ---- Memory (section 5)
-- rows of the session table, and slots of the store (rule 5.1)
abbrev pub row_count : ℕ
row_count = 16

abbrev pub slot_count : ℕ
slot_count = 16

-- words of a row (rule 5.4)
abbrev pub row_words : ℕ
row_words = 4

-- bytes of a slot's name, of each of its regions, of the image, the hash and the answer buffer (rule 5.1)
unfoldable pub name_size : ℕ
name_size = 32

unfoldable pub slot_size : ℕ
slot_size = 4096

unfoldable pub image_size : ℕ
image_size = 16384

unfoldable pub hash_size : ℕ
hash_size = 64

abbrev pub answer_size : ℕ
answer_size = 64

-- what a mask, an identifier and the next identifier are below (rules 6.2 and 6.5)
abbrev pub sixteen_bits : ℕ
sixteen_bits = 0x10000

-- ---- Blob numbers of the flash names, above those of the slots (rule 5.8)
abbrev pub image_blob : ℕ
image_blob = 16

abbrev pub hash_blob : ℕ
hash_blob = 17

abbrev pub verify_blob : ℕ
verify_blob = 18

abbrev pub update_blob : ℕ
update_blob = 19

abbrev pub cleanup_blob : ℕ
cleanup_blob = 20

-- ---- A row's third word (rule 5.5)
-- the flags that a session may have (rule 5.7)
abbrev pub read_only : ℕ
read_only = 0x0001

abbrev pub read_write : ℕ
read_write = 0x0003

abbrev pub write_only : ℕ
write_only = 0x0002

-- bit 16, where the job status begins
abbrev pub status_unit : ℕ
status_unit = 0x10000

-- bit 18, clean
abbrev pub clean_unit : ℕ
clean_unit = 0x40000

-- the bits from here on are zero (rule 6.5)
abbrev pub word_limit : ℕ
word_limit = 0x80000

-- the job status (rule 5.6)
abbrev pub untried : ℕ
untried = 0

abbrev pub running : ℕ
running = 1

abbrev pub succeeded : ℕ
succeeded = 2

abbrev pub failed : ℕ
failed = 3

-- ---- Sweep (section 18)
-- seconds from one sweep to the next (rule 18.3)
abbrev pub sweep_every : ℕ
sweep_every = 60

-- seconds that a session lives without a request (rule 18.4)
abbrev pub session_life : ℕ
session_life = 600

-- ---- The bits of a blob's state (rule 15.4)
abbrev pub state_open_read : ℕ
state_open_read = 1

abbrev pub state_open_write : ℕ
state_open_write = 2

abbrev pub state_committing : ℕ
state_committing = 4

abbrev pub state_committed : ℕ
state_committed = 8

abbrev pub state_commit_error : ℕ
state_commit_error = 16
