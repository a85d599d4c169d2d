-- The lines of a reply.
use Rattle.std.specs.Prelude.{ℕ, List, [], ◌∷◌, ◌++◌, length, map, Option, None, Some, codes}
use Rattle.std.specs.Fmt.{decimal}
use Rattle.std.specs.List.{flat_map, join_with_byte}
use Rattle.own_base.specs.declared.value.Value.{Value}
use Rattle.own_model.specs.declared.reply.GotRow.{GotRow}
use Rattle.own_model.specs.declared.reply.Reply.{Reply}
use Rattle.own_model.specs.declared.reply.Reply.TheVariants.{Done, Counted, Rows, Got, Forgot, Graph, Ended, Refused}
use Rattle.text_model.specs.Refused.{refusal_text}
use Rattle.text_model.specs.Shown.{shown_cell, shown_value}

-- what the first line says after the place and the call
unfoldable pub reply_text : Reply → List ℕ
reply_text Done = codes "ok"
reply_text (Counted count) = codes "ok " ++ decimal count
reply_text (Rows rows) = codes "rows " ++ decimal (length rows)
reply_text (Got rows) = codes "got " ++ decimal (length rows)
reply_text (Forgot removed changed) = codes "forgot " ++ decimal removed ++ codes " removed " ++ decimal changed ++ codes " changed"
reply_text (Graph lines) = codes "graph " ++ decimal (length lines)
reply_text Ended = codes "end"
reply_text (Refused refusal) = refusal_text refusal

-- a line below the first: two spaces, and then its text
abbrev pub line_below : List ℕ → List ℕ
line_below text = codes "  " ++ text ++ 10 ∷ []

-- texts with a bar between
abbrev pub barred : List (List ℕ) → List ℕ
barred texts = join_with_byte 124 texts

-- the values of a row
unfoldable pub row_line : List Value → List ℕ
row_line row = line_below (barred (map shown_value row))

-- the table of a row, and its values
unfoldable pub got_line : GotRow → List ℕ
got_line row = line_below (barred (row.table ∷ map shown_cell row.cells))

-- the lines below the first
unfoldable pub lines_below : Reply → List ℕ
lines_below (Rows rows) = flat_map row_line rows
lines_below (Got rows) = flat_map got_line rows
lines_below (Graph lines) = flat_map line_below lines
lines_below _ = []

-- a place, or `-` for none
abbrev pub place_text : Option ℕ → List ℕ
place_text None = codes "-"
place_text (Some place) = decimal place

-- PLACE SESSION.CALL REPLY, and the lines below; each line ends with a line feed
unfoldable pub reply_lines : Option ℕ → ℕ → ℕ → Reply → List ℕ
reply_lines place session call reply = place_text place ++ codes " " ++ decimal session ++ codes "." ++ decimal call ++ codes " "
    ++ reply_text reply ++ 10 ∷ [] ++ lines_below reply
