-- Subcommands and their numbers.
use Rattle.std.specs.Prelude.{◌≡◌, ℕ, ◌<◌, Result, MatchResult}
use Rattle.protocol.specs.declared.Code.{Code}
use Rattle.protocol.specs.declared.Subcommand.{Subcommand}
use Rattle.protocol.specs.declared.Subcommand.TheVariants.{Count, Enumerate, Open, Read, Write, Commit, Close, Delete, Stat, SessionStat, WriteMeta}
use Rattle.protocol.specs.Numbers.{unknown_command, count_command, enumerate_command, open_command, read_command, write_command, commit_command, close_command}
use Rattle.protocol.specs.Numbers.{delete_command, stat_command, session_stat_command, write_meta_command}

-- the number of a subcommand (rule 1.4)
abbrev pub command_number : Subcommand → ℕ
command_number Count = count_command
command_number Enumerate = enumerate_command
command_number Open = open_command
command_number Read = read_command
command_number Write = write_command
command_number Commit = commit_command
command_number Close = close_command
command_number Delete = delete_command
command_number Stat = stat_command
command_number SessionStat = session_stat_command
command_number WriteMeta = write_meta_command

-- the result is the subcommand with this number, or a number above the last is refused
abbrev pub Numbered : ℕ → Result Subcommand Code → Type 0
Numbered number r = MatchResult r (λ sub. command_number sub ≡ number) (λ code. (code.0 ≡ unknown_command) × (write_meta_command < number))
