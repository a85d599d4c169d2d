-- No reply has a float as JSON, so that its text is known byte for byte.
use Rattle.std.proofs.Common.{◌≡◌, ℕ, List, [], ◌∷◌, Bool, true, false, map, refl}
use Rattle.std.specs.Prelude.{ℤ, pos, negsuc, ◌||◌, Option, None, Some, codes}
use Rattle.std.specs.Ordering.{nat_cmp, match_ordering}
use Rattle.std.specs.Cmp.Lexicographic.{slice_cmp}
use Rattle.std.specs.declared.cmp.Ordering.TheVariants.{Less, Equal, Greater}
use Rattle.serde_json.specs.Data.{Data, Members, no_members, member, put, string, array}
use Rattle.serde_json.specs.View.{items_of}
use Rattle.serde_json.specs.Written.{has_float, items_have_float, members_have_float}
use Rattle.own_base.specs.declared.value.Key.{Key}
use Rattle.own_base.specs.declared.value.Key.TheVariants as key
use Rattle.own_base.specs.declared.value.Value.{Value}
use Rattle.own_base.specs.declared.value.Value.TheVariants as value
use Rattle.own_model.specs.declared.limit.LimitName.{LimitName}
use Rattle.own_model.specs.declared.refusal.Refusal.{Refusal}
use Rattle.own_model.specs.declared.refusal.Refusal.TheVariants.{Syntax, NoTable, NoColumn, WrongKind, Count, NameTaken, BadSchema, Cycle, HasRows, KeyWrite, NotSubject, NullValue, Duplicate, Range, Inside, Outside, Busy, Conflict, Doomed, NoSubject, Unique, Reference, Owner, TooBig, Limit, Disk, Down, Memory}
use Rattle.own_model.specs.declared.reply.Cell.{Cell}
use Rattle.own_model.specs.declared.reply.Cell.TheVariants.{Shown, Hidden}
use Rattle.own_model.specs.declared.reply.GotRow.{GotRow}
use Rattle.own_model.specs.declared.reply.Reply.{Reply}
use Rattle.own_model.specs.declared.reply.Reply.TheVariants as reply
use Rattle.reply_json.specs.Line.{call_members, place_data, reply_data, texts_data, with_reply}
use Rattle.text_model.specs.Refused.{limit_name, limit_number}
use Rattle.reply_json.specs.Columns.{columns_of}
use Rattle.reply_json.specs.Wording.{refusal_name, refusal_number, refusal_sentence}
use Rattle.reply_json.specs.Refused.{count_data, held_data, refused_data, with_column_of_row, with_facts, with_held, with_limit, with_row}
use Rattle.reply_json.specs.Rows.{got_data, row_data}
use Rattle.reply_json.specs.Values.{cell_data, integer_data, key_data, value_data}
use Rattle.reply_json.specs.declared.columns.TableNames.{TableNames}

first_false : (a b : Bool) → (a || b) ≡ false → a ≡ false
first_false true b none = none
first_false false b none = refl

second_false : (a b : Bool) → (a || b) ≡ false → b ≡ false
second_false true true none = none
second_false true false none = refl
second_false false b none = none

both_false : (a b : Bool) → a ≡ false → b ≡ false → (a || b) ≡ false
both_false true b one two = one
both_false false b one two = two

-- a member more
pub put-has_float : (k : List ℕ) (d : Data) (ms : Members) → has_float d ≡ false → members_have_float ms ≡ false → members_have_float (put k d ms) ≡ false
put-has_float k d no_members own none = both_false (has_float d) false own refl
put-has_float k d (member l e ms) own none =
    let rest = second_false (has_float e) (members_have_float ms) none in
    let first = first_false (has_float e) (members_have_float ms) none in
    elim (slice_cmp nat_cmp k l) as (λ o. members_have_float (match_ordering o (member k d (member l e ms)) (member l d ms) (member l e (put k d ms))) ≡ false) [
      | Less ↦ both_false (has_float d) _ own none
      | Equal ↦ both_false (has_float d) _ own rest
      | Greater ↦ both_false (has_float e) _ first (put-has_float k d ms own rest)
    ]

-- an array
pub items-has_float : {X : Type 0} (f : X → Data) → ((x : X) → has_float (f x) ≡ false) → (xs : List X) → items_have_float (items_of (map f xs)) ≡ false
items-has_float f none [] = refl
items-has_float f none (x ∷ xs) = both_false (has_float (f x)) _ (none x) (items-has_float f none xs)

integer-has_float : (z : ℤ) → has_float (integer_data z) ≡ false
integer-has_float (pos n) = refl
integer-has_float (negsuc n) = refl

value-has_float : (v : Value) → has_float (value_data v) ≡ false
value-has_float value.Null = refl
value-has_float (value.Int z) = integer-has_float z
value-has_float (value.Text text) = refl
value-has_float (value.Sum z) = refl

key-has_float : (k : Key) → has_float (key_data k) ≡ false
key-has_float (key.Int z) = integer-has_float z
key-has_float (key.Text text) = refl

cell-has_float : (cell : Cell) → has_float (cell_data cell) ≡ false
cell-has_float (Shown v) = value-has_float v
cell-has_float Hidden = refl

row-has_no_float : (row : List Value) → has_float (row_data row) ≡ false
row-has_no_float row = items-has_float value_data value-has_float row

texts-has_float : (texts : List (List ℕ)) → has_float (texts_data texts) ≡ false
texts-has_float texts = items-has_float (λ text. string text) (λ text. refl) texts

got-has_float : (tables : List TableNames) (row : GotRow) → has_float (got_data tables row) ≡ false
got-has_float tables row = put-has_float (codes "values") (array (items_of (map cell_data row.cells))) (put (codes "columns") (array (items_of (map (λ name. string name) (columns_of tables row.table)))) (put (codes "table") (string row.table) (no_members))) (items-has_float cell_data cell-has_float row.cells) (put-has_float (codes "columns") (array (items_of (map (λ name. string name) (columns_of tables row.table)))) (put (codes "table") (string row.table) (no_members)) (texts-has_float (columns_of tables row.table)) (put-has_float (codes "table") (string row.table) (no_members) refl (refl)))

row-has_float : (table : List ℕ) (k : Key) (rest : Members) → members_have_float rest ≡ false → members_have_float (with_row table k rest) ≡ false
unfolding with_row
row-has_float table k rest none = put-has_float (codes "key") (key_data k) (put (codes "table") (string table) (rest)) (key-has_float k) (put-has_float (codes "table") (string table) (rest) refl (none))

column-has_float : (table : List ℕ) (k : Key) (column : List ℕ) (rest : Members) → members_have_float rest ≡ false → members_have_float (with_column_of_row table k column rest) ≡ false
unfolding with_column_of_row
column-has_float table k column rest none = put-has_float (codes "column") (string column) (with_row table k rest) refl (row-has_float table k rest none)

held_key-has_float : (k : Option Key) → has_float (held_data k) ≡ false
held_key-has_float None = refl
held_key-has_float (Some k) = key-has_float k

held-has_float : (session : ℕ) (table : List ℕ) (k : Option Key) (rest : Members) → members_have_float rest ≡ false → members_have_float (with_held session table k rest) ≡ false
unfolding with_held
held-has_float session table k rest none = put-has_float (codes "key") (held_data k) (put (codes "table") (string table) (put (codes "session") (count_data session) (rest))) (held_key-has_float k) (put-has_float (codes "table") (string table) (put (codes "session") (count_data session) (rest)) refl (put-has_float (codes "session") (count_data session) (rest) refl (none)))

limit-has_float : (limit : LimitName) (rest : Members) → members_have_float rest ≡ false → members_have_float (with_limit limit rest) ≡ false
unfolding with_limit
limit-has_float limit rest none = put-has_float (codes "most") (count_data (limit_number limit)) (put (codes "limit") (string (limit_name limit)) (rest)) refl (put-has_float (codes "limit") (string (limit_name limit)) (rest) refl (none))

facts-has_float : (refusal : Refusal) (rest : Members) → members_have_float rest ≡ false → members_have_float (with_facts refusal rest) ≡ false
facts-has_float (Syntax byte) rest none = put-has_float (codes "byte") (count_data byte) (rest) refl (none)
facts-has_float (NoTable table) rest none = put-has_float (codes "table") (string table) (rest) refl (none)
facts-has_float (NoColumn column) rest none = put-has_float (codes "column") (string column) (rest) refl (none)
facts-has_float (WrongKind column) rest none = put-has_float (codes "column") (string column) (rest) refl (none)
facts-has_float (Count got wanted) rest none = put-has_float (codes "wanted") (count_data wanted) (put (codes "got") (count_data got) (rest)) refl (put-has_float (codes "got") (count_data got) (rest) refl (none))
facts-has_float (NameTaken name) rest none = put-has_float (codes "taken") (string name) (rest) refl (none)
facts-has_float (BadSchema rule name) rest none = put-has_float (codes "at") (string name) (put (codes "rule") (count_data rule) (rest)) refl (put-has_float (codes "rule") (count_data rule) (rest) refl (none))
facts-has_float (Cycle table through) rest none = put-has_float (codes "through") (string through) (put (codes "table") (string table) (rest)) refl (put-has_float (codes "table") (string table) (rest) refl (none))
facts-has_float (HasRows table) rest none = put-has_float (codes "table") (string table) (rest) refl (none)
facts-has_float (KeyWrite column) rest none = put-has_float (codes "column") (string column) (rest) refl (none)
facts-has_float (NotSubject table) rest none = put-has_float (codes "table") (string table) (rest) refl (none)
facts-has_float (NullValue column) rest none = put-has_float (codes "column") (string column) (rest) refl (none)
facts-has_float (Duplicate table key) rest none = row-has_float table key rest none
facts-has_float (Range column) rest none = put-has_float (codes "column") (string column) (rest) refl (none)
facts-has_float Inside rest none = none
facts-has_float Outside rest none = none
facts-has_float (Busy session) rest none = put-has_float (codes "session") (count_data session.0) (rest) refl (none)
facts-has_float (Conflict session table key) rest none = held-has_float session.0 table key rest none
facts-has_float (Doomed place) rest none = put-has_float (codes "place") (count_data place.0) (rest) refl (none)
facts-has_float (NoSubject table key) rest none = row-has_float table key rest none
facts-has_float (Unique table key column) rest none = column-has_float table key column rest none
facts-has_float (Reference table key column) rest none = column-has_float table key column rest none
facts-has_float (Owner table key) rest none = row-has_float table key rest none
facts-has_float (TooBig bytes) rest none = put-has_float (codes "bytes") (count_data bytes) (rest) refl (none)
facts-has_float (Limit limit) rest none = limit-has_float limit rest none
facts-has_float Disk rest none = none
facts-has_float (Down place) rest none = put-has_float (codes "place") (count_data place.0) (rest) refl (none)
facts-has_float Memory rest none = none

refused-has_float : (refusal : Refusal) → has_float (refused_data refusal) ≡ false
unfolding refused_data
refused-has_float refusal = facts-has_float refusal (put (codes "sentence") (string (refusal_sentence refusal)) (put (codes "name") (string (refusal_name refusal)) (put (codes "number") (count_data (refusal_number refusal)) (no_members)))) (put-has_float (codes "sentence") (string (refusal_sentence refusal)) (put (codes "name") (string (refusal_name refusal)) (put (codes "number") (count_data (refusal_number refusal)) (no_members))) refl (put-has_float (codes "name") (string (refusal_name refusal)) (put (codes "number") (count_data (refusal_number refusal)) (no_members)) refl (put-has_float (codes "number") (count_data (refusal_number refusal)) (no_members) refl (refl))))

place-has_float : (place : Option ℕ) → has_float (place_data place) ≡ false
place-has_float None = refl
place-has_float (Some place) = refl

call-has_float : (place : Option ℕ) (session call line : ℕ) → members_have_float (call_members place session call line) ≡ false
unfolding call_members
call-has_float place session call line = put-has_float (codes "line") (count_data line) (put (codes "call") (count_data call) (put (codes "session") (count_data session) (put (codes "place") (place_data place) (no_members)))) refl (put-has_float (codes "call") (count_data call) (put (codes "session") (count_data session) (put (codes "place") (place_data place) (no_members))) refl (put-has_float (codes "session") (count_data session) (put (codes "place") (place_data place) (no_members)) refl (put-has_float (codes "place") (place_data place) (no_members) (place-has_float place) (refl))))

told-has_float : (columns : List (List ℕ)) (tables : List TableNames) (told : Reply) (rest : Members) → members_have_float rest ≡ false
    → members_have_float (with_reply columns tables told rest) ≡ false
told-has_float columns tables reply.Done rest none = put-has_float (codes "kind") (string (codes "ok")) (rest) refl (none)
told-has_float columns tables (reply.Counted count) rest none = put-has_float (codes "count") (count_data count) (put (codes "kind") (string (codes "counted")) (rest)) refl (put-has_float (codes "kind") (string (codes "counted")) (rest) refl (none))
told-has_float columns tables (reply.Rows rows) rest none = put-has_float (codes "rows") (array (items_of (map row_data rows))) (put (codes "columns") (texts_data columns) (put (codes "kind") (string (codes "rows")) (rest))) (items-has_float row_data row-has_no_float rows) (put-has_float (codes "columns") (texts_data columns) (put (codes "kind") (string (codes "rows")) (rest)) (texts-has_float columns) (put-has_float (codes "kind") (string (codes "rows")) (rest) refl (none)))
told-has_float columns tables (reply.Got rows) rest none = put-has_float (codes "rows") (array (items_of (map (got_data tables) rows))) (put (codes "kind") (string (codes "got")) (rest)) (items-has_float (got_data tables) (got-has_float tables) rows) (put-has_float (codes "kind") (string (codes "got")) (rest) refl (none))
told-has_float columns tables (reply.Forgot removed changed) rest none = put-has_float (codes "changed") (count_data changed) (put (codes "removed") (count_data removed) (put (codes "kind") (string (codes "forgot")) (rest))) refl (put-has_float (codes "removed") (count_data removed) (put (codes "kind") (string (codes "forgot")) (rest)) refl (put-has_float (codes "kind") (string (codes "forgot")) (rest) refl (none)))
told-has_float columns tables (reply.Graph lines) rest none = put-has_float (codes "lines") (texts_data lines) (put (codes "kind") (string (codes "graph")) (rest)) (texts-has_float lines) (put-has_float (codes "kind") (string (codes "graph")) (rest) refl (none))
told-has_float columns tables reply.Ended rest none = put-has_float (codes "kind") (string (codes "end")) (rest) refl (none)
told-has_float columns tables (reply.Refused refusal) rest none = put-has_float (codes "refused") (refused_data refusal) (put (codes "kind") (string (codes "refused")) (rest)) (refused-has_float refusal) (put-has_float (codes "kind") (string (codes "refused")) (rest) refl (none))

-- the whole reply
pub reply-has_float : (place : Option ℕ) (session call line : ℕ) (columns : List (List ℕ)) (tables : List TableNames) (told : Reply)
    → has_float (reply_data place session call line columns tables told) ≡ false
unfolding reply_data
reply-has_float place session call line columns tables told =
    told-has_float columns tables told (call_members place session call line) (call-has_float place session call line)
