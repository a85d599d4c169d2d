-- A refusal as JSON.
use Rattle.std.specs.Prelude.{ℕ, List, Option, None, Some, codes}
use Rattle.serde_json.specs.Data.{Data, Members, null, number, object, string, put, no_members, unsigned}
use Rattle.own_base.specs.declared.value.Key.{Key}
use Rattle.own_model.specs.declared.limit.LimitName.{LimitName}
use Rattle.own_model.specs.declared.refusal.Refusal.{Refusal}
use Rattle.own_model.specs.declared.refusal.Refusal.TheVariants.{Syntax, NoTable, NoColumn, WrongKind, Count, NameTaken, BadSchema, Cycle, HasRows, KeyWrite, NotSubject, NullValue, Duplicate, Range, Inside, Outside, Busy, Conflict, Doomed, NoSubject, Unique, Reference, Owner, TooBig, Limit, Disk, Down, Memory}
use Rattle.text_model.specs.Refused.{limit_name, limit_number}
use Rattle.reply_json.specs.Values.{key_data}
use Rattle.reply_json.specs.Wording.{refusal_name, refusal_number, refusal_sentence}

-- a count
abbrev pub count_data : ℕ → Data
count_data count = number (unsigned count)

-- with a row's table and key,
unfoldable pub with_row : List ℕ → Key → Members → Members
with_row table key members = put (codes "key") (key_data key) (put (codes "table") (string table) members)

-- and a column of it
unfoldable pub with_column_of_row : List ℕ → Key → List ℕ → Members → Members
with_column_of_row table key column members = put (codes "column") (string column) (with_row table key members)

-- the key of a row that is held; of a whole table there is none
abbrev pub held_data : Option Key → Data
held_data None = null
held_data (Some key) = key_data key

-- with the session that holds a row or a table
unfoldable pub with_held : ℕ → List ℕ → Option Key → Members → Members
with_held session table key members =
    put (codes "key") (held_data key) (put (codes "table") (string table) (put (codes "session") (count_data session) members))

-- with a limit and its number
unfoldable pub with_limit : LimitName → Members → Members
with_limit limit members = put (codes "most") (count_data (limit_number limit)) (put (codes "limit") (string (limit_name limit)) members)

-- with what shows the refusal
abbrev pub with_facts : Refusal → Members → Members
with_facts (Syntax byte) members = put (codes "byte") (count_data byte) members
with_facts (NoTable table) members = put (codes "table") (string table) members
with_facts (NoColumn column) members = put (codes "column") (string column) members
with_facts (WrongKind column) members = put (codes "column") (string column) members
with_facts (Count got wanted) members = put (codes "wanted") (count_data wanted) (put (codes "got") (count_data got) members)
with_facts (NameTaken name) members = put (codes "taken") (string name) members
with_facts (BadSchema rule name) members = put (codes "at") (string name) (put (codes "rule") (count_data rule) members)
with_facts (Cycle table through) members = put (codes "through") (string through) (put (codes "table") (string table) members)
with_facts (HasRows table) members = put (codes "table") (string table) members
with_facts (KeyWrite column) members = put (codes "column") (string column) members
with_facts (NotSubject table) members = put (codes "table") (string table) members
with_facts (NullValue column) members = put (codes "column") (string column) members
with_facts (Duplicate table key) members = with_row table key members
with_facts (Range column) members = put (codes "column") (string column) members
with_facts Inside members = members
with_facts Outside members = members
with_facts (Busy session) members = put (codes "session") (count_data session.0) members
with_facts (Conflict session table key) members = with_held session.0 table key members
with_facts (Doomed place) members = put (codes "place") (count_data place.0) members
with_facts (NoSubject table key) members = with_row table key members
with_facts (Unique table key column) members = with_column_of_row table key column members
with_facts (Reference table key column) members = with_column_of_row table key column members
with_facts (Owner table key) members = with_row table key members
with_facts (TooBig bytes) members = put (codes "bytes") (count_data bytes) members
with_facts (Limit limit) members = with_limit limit members
with_facts Disk members = members
with_facts (Down place) members = put (codes "place") (count_data place.0) members
with_facts Memory members = members

-- its number, word and sentence, and what shows it
unfoldable pub refused_data : Refusal → Data
refused_data refusal = object (with_facts refusal (put (codes "sentence") (string (refusal_sentence refusal))
    (put (codes "name") (string (refusal_name refusal)) (put (codes "number") (count_data (refusal_number refusal)) no_members))))
