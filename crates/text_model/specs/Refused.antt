-- Why a call was refused, as a reply says it.
use Rattle.std.specs.Prelude.{ℕ, List, ◌++◌, Option, None, Some, codes}
use Rattle.std.specs.Fmt.{decimal}
use Rattle.own_base.specs.declared.text.TheConstants.{NAME_BYTES}
use Rattle.own_base.specs.declared.value.Key.{Key}
use Rattle.own_model.specs.declared.limit.LimitName.{LimitName}
use Rattle.own_model.specs.declared.limit.LimitName.TheVariants as limit
use Rattle.own_model.specs.declared.limit.TheConstants.{JOURNAL_ROOM, NESTING_LEVELS, REPLY_ROWS, SELECT_ITEMS, STATEMENT_BYTES, STORE_ROWS, STORE_WEIGHT, TABLES, TABLE_COLUMNS, TEXT_BYTES, VIEWS}
use Rattle.own_model.specs.declared.refusal.Refusal.{Refusal}
use Rattle.own_model.specs.declared.refusal.Refusal.TheVariants.{Syntax, NoTable, NoColumn, WrongKind, Count, NameTaken, BadSchema, Cycle, HasRows, KeyWrite, NotSubject, NullValue, Duplicate, Range, Inside, Outside, Busy, Conflict, Doomed, NoSubject, Unique, Reference, Owner, TooBig, Limit, Disk, Down, Memory}
use Rattle.text_model.specs.Shown.{shown_key}

-- two parts of a text, with a space between
infixr 6 ◌<+>◌
abbrev pub ◌<+>◌ : List ℕ → List ℕ → List ℕ
first <+> second = first ++ codes " " ++ second

-- a limit's name
unfoldable pub limit_name : LimitName → List ℕ
limit_name limit.Statement = codes "statement"
limit_name limit.Nesting = codes "nesting"
limit_name limit.Text = codes "text"
limit_name limit.Items = codes "items"
limit_name limit.Name = codes "name"
limit_name limit.Columns = codes "columns"
limit_name limit.Tables = codes "tables"
limit_name limit.Views = codes "views"
limit_name limit.Reply = codes "reply"
limit_name limit.Rows = codes "rows"
limit_name limit.Weight = codes "weight"
limit_name limit.Room = codes "room"

-- a limit's number
unfoldable pub limit_number : LimitName → ℕ
limit_number limit.Statement = STATEMENT_BYTES
limit_number limit.Nesting = NESTING_LEVELS
limit_number limit.Text = TEXT_BYTES
limit_number limit.Items = SELECT_ITEMS
limit_number limit.Name = NAME_BYTES
limit_number limit.Columns = TABLE_COLUMNS
limit_number limit.Tables = TABLES
limit_number limit.Views = VIEWS
limit_number limit.Reply = REPLY_ROWS
limit_number limit.Rows = STORE_ROWS
limit_number limit.Weight = STORE_WEIGHT
limit_number limit.Room = JOURNAL_ROOM

-- the key of a row that is held, or `*` where the whole table is
unfoldable pub held_key : Option Key → List ℕ
held_key None = codes "*"
held_key (Some key) = shown_key key

-- what the reply says after the place and the call
unfoldable pub refusal_text : Refusal → List ℕ
refusal_text (Syntax byte) = codes "refused syntax" <+> decimal byte
refusal_text (NoTable table) = codes "refused table" <+> table
refusal_text (NoColumn column) = codes "refused column" <+> column
refusal_text (WrongKind column) = codes "refused kind" <+> column
refusal_text (Count got wanted) = codes "refused count" <+> decimal got <+> decimal wanted
refusal_text (NameTaken name) = codes "refused taken" <+> name
refusal_text (BadSchema rule name) = codes "refused schema" <+> decimal rule <+> name
refusal_text (Cycle table through) = codes "refused cycle" <+> table <+> through
refusal_text (HasRows table) = codes "refused rows" <+> table
refusal_text (KeyWrite column) = codes "refused key" <+> column
refusal_text (NotSubject table) = codes "refused subject" <+> table
refusal_text (NullValue column) = codes "refused null" <+> column
refusal_text (Duplicate table key) = codes "refused duplicate" <+> table <+> shown_key key
refusal_text (Range column) = codes "refused range" <+> column
refusal_text Inside = codes "refused inside"
refusal_text Outside = codes "refused outside"
refusal_text (Busy session) = codes "refused busy" <+> decimal session.0
refusal_text (Conflict session table key) = codes "refused conflict" <+> decimal session.0 <+> table <+> held_key key
refusal_text (Doomed place) = codes "refused doomed" <+> decimal place.0
refusal_text (NoSubject table key) = codes "refused absent" <+> table <+> shown_key key
refusal_text (Unique table key column) = codes "refused unique" <+> table <+> shown_key key <+> column
refusal_text (Reference table key column) = codes "refused reference" <+> table <+> shown_key key <+> column
refusal_text (Owner table key) = codes "refused owner" <+> table <+> shown_key key
refusal_text (TooBig bytes) = codes "refused big" <+> decimal bytes
refusal_text (Limit passed) = codes "refused limit" <+> limit_name passed <+> decimal (limit_number passed)
refusal_text Disk = codes "disk"
refusal_text (Down place) = codes "down" <+> decimal place.0
refusal_text Memory = codes "memory"
