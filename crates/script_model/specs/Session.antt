-- Which session a session line names.
use Rattle.std.specs.Prelude.{ℕ, Bool, ◌&&◌, List, length, drop, Option}
use Rattle.std.specs.Fmt.{decimal}
use Rattle.std.specs.List.{find, list_all, range_with_len}
use Rattle.own_model.specs.declared.limit.TheConstants.{SESSIONS}
use Rattle.sql_lex.specs.Bytes.{is_space}
use Rattle.script_model.specs.Piece.{starts}

-- the numbers of the sessions, from 1
abbrev pub sessions : List ℕ
sessions = range_with_len 1 SESSIONS

-- the number in decimal, and then white space alone
abbrev pub names : List ℕ → ℕ → Bool
names line number = starts line (decimal number) && list_all is_space (drop (length (decimal number)) line)

-- the session that is named by what follows `-- session ` on a line
unfoldable pub session_of : List ℕ → Option ℕ
session_of line = find (names line) sessions
