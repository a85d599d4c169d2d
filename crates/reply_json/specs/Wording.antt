-- Each refusal's number, word and sentence.
use Rattle.std.specs.Prelude.{ℕ, List, codes}
use Rattle.own_model.specs.declared.refusal.Refusal.{Refusal}
use Rattle.own_model.specs.declared.refusal.Refusal.TheVariants.{Syntax, NoTable, NoColumn, WrongKind, Count, NameTaken, BadSchema, Cycle, HasRows, KeyWrite, NotSubject, NullValue, Duplicate, Range, Inside, Outside, Busy, Conflict, Doomed, NoSubject, Unique, Reference, Owner, TooBig, Limit, Disk, Down, Memory}

-- its number
abbrev pub refusal_number : Refusal → ℕ
refusal_number (Syntax byte) = 1
refusal_number (NoTable table) = 2
refusal_number (NoColumn column) = 3
refusal_number (WrongKind column) = 4
refusal_number (Count got wanted) = 5
refusal_number (NameTaken name) = 6
refusal_number (BadSchema rule name) = 7
refusal_number (Cycle table through) = 8
refusal_number (HasRows table) = 9
refusal_number (KeyWrite column) = 10
refusal_number (NotSubject table) = 11
refusal_number (NullValue column) = 12
refusal_number (Duplicate table key) = 13
refusal_number (Range column) = 14
refusal_number Inside = 15
refusal_number Outside = 16
refusal_number (Busy session) = 17
refusal_number (Conflict session table key) = 18
refusal_number (Doomed place) = 19
refusal_number (NoSubject table key) = 20
refusal_number (Unique table key column) = 21
refusal_number (Reference table key column) = 22
refusal_number (Owner table key) = 23
refusal_number (TooBig bytes) = 24
refusal_number (Limit limit) = 25
refusal_number Disk = 26
refusal_number (Down place) = 27
refusal_number Memory = 28

-- the word by which it is known
unfoldable pub refusal_name : Refusal → List ℕ
refusal_name (Syntax byte) = codes "syntax"
refusal_name (NoTable table) = codes "table"
refusal_name (NoColumn column) = codes "column"
refusal_name (WrongKind column) = codes "kind"
refusal_name (Count got wanted) = codes "count"
refusal_name (NameTaken name) = codes "taken"
refusal_name (BadSchema rule name) = codes "schema"
refusal_name (Cycle table through) = codes "cycle"
refusal_name (HasRows table) = codes "rows"
refusal_name (KeyWrite column) = codes "key"
refusal_name (NotSubject table) = codes "subject"
refusal_name (NullValue column) = codes "null"
refusal_name (Duplicate table key) = codes "duplicate"
refusal_name (Range column) = codes "range"
refusal_name Inside = codes "inside"
refusal_name Outside = codes "outside"
refusal_name (Busy session) = codes "busy"
refusal_name (Conflict session table key) = codes "conflict"
refusal_name (Doomed place) = codes "doomed"
refusal_name (NoSubject table key) = codes "absent"
refusal_name (Unique table key column) = codes "unique"
refusal_name (Reference table key column) = codes "reference"
refusal_name (Owner table key) = codes "owner"
refusal_name (TooBig bytes) = codes "big"
refusal_name (Limit limit) = codes "limit"
refusal_name Disk = codes "disk"
refusal_name (Down place) = codes "down"
refusal_name Memory = codes "memory"

-- what it means
unfoldable pub refusal_sentence : Refusal → List ℕ
refusal_sentence (Syntax byte) = codes "No statement goes on at this byte of the call's text."
refusal_sentence (NoTable table) = codes "This has to be the name of a table, and is not."
refusal_sentence (NoColumn column) = codes "This has to be the name of a column, and is not."
refusal_sentence (WrongKind column) = codes "A number and a text meet where both have to be of one kind."
refusal_sentence (Count got wanted) = codes "There are more or fewer values than are asked for."
refusal_sentence (NameTaken name) = codes "There is a table or a view of this name."
refusal_sentence (BadSchema rule name) = codes "The table or view breaks a rule of schemas."
refusal_sentence (Cycle table through) = codes "With its edges a walk would lead from the table back to it."
refusal_sentence (HasRows table) = codes "A column of the new table owns this table, which holds rows."
refusal_sentence (KeyWrite column) = codes "This column is the primary key, which is not set."
refusal_sentence (NotSubject table) = codes "This is no DATA_SUBJECT table."
refusal_sentence (NullValue column) = codes "This column takes no NULL."
refusal_sentence (Duplicate table key) = codes "A row with this key is there."
refusal_sentence (Range column) = codes "A sum for this column needs more than 64 bits."
refusal_sentence Inside = codes "The session is in a transaction, where this call is not made."
refusal_sentence Outside = codes "The session is in no transaction."
refusal_sentence (Busy session) = codes "Another session is in a transaction."
refusal_sentence (Conflict session table key) = codes "The transaction of another session is in the way."
refusal_sentence (Doomed place) = codes "A GDPR FORGET ended the session's transaction, and this call was not made."
refusal_sentence (NoSubject table key) = codes "There is no such row."
refusal_sentence (Unique table key column) = codes "Another row has this row's value in a column that is UNIQUE."
refusal_sentence (Reference table key column) = codes "The column of this row would name a row that is not there."
refusal_sentence (Owner table key) = codes "This row of a private table would have no owner."
refusal_sentence (TooBig bytes) = codes "What the call changes takes too many bytes."
refusal_sentence (Limit limit) = codes "The call or what it leaves passes a limit."
refusal_sentence Disk = codes "The disk failed, and whether the call is kept is not known."
refusal_sentence (Down place) = codes "The disk failed at an earlier call, and no other call is made."
refusal_sentence Memory = codes "Memory ran out, and the call was not made."
