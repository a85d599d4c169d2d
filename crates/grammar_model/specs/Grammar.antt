-- The grammar of statements, from the smallest rule up: what each rule says of a text's terminals. After the dashes
-- stands the rule as a grammar is written: {x} is any number of x, [x] is one or none.
use Rattle.std.specs.Prelude.{ℕ, zero, suc, ◌+◌, Bool, true, false, ℤ, List, ◌∷◌, Option, None, codes}
use Rattle.own_base.specs.declared.value.Key.{Key}
use Rattle.own_base.specs.declared.value.Value.{Value}
use Rattle.own_model.specs.declared.condition.Cmp.{Cmp}
use Rattle.own_model.specs.declared.condition.Cond.{Cond}
use Rattle.own_model.specs.declared.condition.Cond.TheVariants as Cond
use Rattle.own_model.specs.declared.condition.Operand.{Operand}
use Rattle.own_model.specs.declared.create.Attr.{Attr}
use Rattle.own_model.specs.declared.create.Part.{Part}
use Rattle.own_model.specs.declared.create.RefDef.{RefDef}
use Rattle.own_model.specs.declared.expression.Expr.{Expr}
use Rattle.own_model.specs.declared.schema.Kind.{Kind}
use Rattle.own_model.specs.declared.schema.RefKind.{RefKind}
use Rattle.own_model.specs.declared.select.ColRef.{ColRef}
use Rattle.own_model.specs.declared.select.Item.{Item}
use Rattle.own_model.specs.declared.select.Items.{Items}
use Rattle.own_model.specs.declared.select.Join.{Join}
use Rattle.own_model.specs.declared.select.Order.{Order}
use Rattle.own_model.specs.declared.select.Select.{Select}
use Rattle.own_model.specs.declared.select.What.{What}
use Rattle.own_model.specs.declared.statement.Statement.{Statement}
use Rattle.grammar_model.specs.Language.{Language, one, ◌>>=◌, ◌>>◌, pure, ◌or◌, optional, many, many_from, word, mark, separated, listed, bracketed, whether}
use Rattle.grammar_model.specs.Limits.{Limits, fits}
use Rattle.grammar_model.specs.Values.{NameIs, NumberIs, TextIs, SlotIs}
use Rattle.grammar_model.specs.Parts.{is_there, list_of, col_of}

-- name: a name, in lower case
unfoldable pub name : Limits → Language (List ℕ)
name limits = one (NameIs limits)

-- text: what stands between its quotes
unfoldable pub text : Limits → Language (List ℕ)
text limits = one (TextIs limits)

-- number: digits, after a sign or without one
unfoldable pub number : Bool → Language ℤ
number negative = one (NumberIs negative)

-- int = [-] number
unfoldable pub int : Language ℤ
int = (mark (codes "-") >> number true) or number false

-- literal = NULL | int | text
unfoldable pub literal : Limits → Language Value
literal limits =
    (word (codes "NULL") >> pure Value.Null)
    or ((text limits >>= λ found. pure (Value.Text found))
    or (int >>= λ found. pure (Value.Int found)))

-- cmp = = | <> | != | < | <= | > | >=
unfoldable pub cmp : Language Cmp
cmp =
    (mark (codes "=") >> pure Cmp.Eq)
    or ((mark (codes "<>") >> pure Cmp.Ne)
    or ((mark (codes "!=") >> pure Cmp.Ne)
    or ((mark (codes "<") >> pure Cmp.Lt)
    or ((mark (codes "<=") >> pure Cmp.Le)
    or ((mark (codes ">") >> pure Cmp.Gt)
    or (mark (codes ">=") >> pure Cmp.Ge))))))

-- [. name], after a name
unfoldable pub col_after : Limits → List ℕ → Language ColRef
col_after limits first = do
  second ← optional (mark (codes ".") >> name limits)
  pure (col_of first second)

-- col = name [. name]
unfoldable pub col : Limits → Language ColRef
col limits = name limits >>= col_after limits

-- (col | literal)
unfoldable pub operand : Limits → Language Operand
operand limits = (col limits >>= λ found. pure (Operand.Column found)) or (literal limits >>= λ found. pure (Operand.Literal found))

-- cmp (col | literal), after a column
abbrev pub compared : Limits → ColRef → Language Cond
compared limits column = do
  sign ← cmp
  right ← operand limits
  pure (Cond.Compare column sign right)

-- IS [NOT] NULL, after a column
abbrev pub tested : ColRef → Language Cond
tested column = do
  word (codes "IS")
  negated ← optional (word (codes "NOT"))
  word (codes "NULL")
  pure (Cond.IsNull column (is_there negated))

-- col cmp (col | literal) | col IS [NOT] NULL
unfoldable pub comparison : Limits → Language Cond
comparison limits = (col limits >>= compared limits) or (col limits >>= tested)

-- conj = neg {AND neg}; a list of one is that one
unfoldable pub conj : Language Cond → Language Cond
conj neg = separated (word (codes "AND")) neg >>= λ parts. pure (list_of Cond.Every parts)

-- cond = conj {OR conj}
unfoldable pub cond : Language Cond → Language Cond
cond neg = separated (word (codes "OR")) (conj neg) >>= λ parts. pure (list_of Cond.Some1 parts)

-- neg = NOT neg | col cmp (col | literal) | col IS [NOT] NULL | ( cond ), with that many levels of NOT and brackets
unfoldable pub neg : Limits → ℕ → Language Cond
neg limits zero = comparison limits
neg limits (suc levels) =
    (word (codes "NOT") >> neg limits levels >>= λ inner. pure (Cond.Not inner))
    or (comparison limits
    or bracketed (cond (neg limits levels)))

-- [WHERE cond]
unfoldable pub condition : Limits → ℕ → Language (Option Cond)
condition limits levels = optional (word (codes "WHERE") >> cond (neg limits levels))

-- expr = literal | name | name + int | name - int
unfoldable pub expr : Limits → Language Expr
expr limits =
    (literal limits >>= λ found. pure (Expr.Literal found))
    or ((name limits >>= λ column. pure (Expr.Column column))
    or ((name limits >>= λ column. mark (codes "+") >> int >>= λ more. pure (Expr.Plus column more))
    or (name limits >>= λ column. mark (codes "-") >> int >>= λ fewer. pure (Expr.Minus column fewer))))

-- delete = DELETE FROM name [WHERE cond]
unfoldable pub delete : Limits → ℕ → Language Statement
delete limits levels = do
  word (codes "DELETE")
  word (codes "FROM")
  table ← name limits
  cond ← condition limits levels
  pure (Statement.Delete table cond)

-- name = expr
unfoldable pub set : Limits → Language (List ℕ × Expr)
set limits = do
  column ← name limits
  mark (codes "=")
  value ← expr limits
  pure (column, value)

-- update = UPDATE name SET name = expr {, name = expr} [WHERE cond]
unfoldable pub update : Limits → ℕ → Language Statement
update limits levels = do
  word (codes "UPDATE")
  table ← name limits
  word (codes "SET")
  sets ← listed (set limits)
  cond ← condition limits levels
  pure (Statement.Update table sets cond)

-- names = name {, name}
unfoldable pub names : Limits → Language (List (List ℕ))
names limits = listed (name limits)

-- tuple = ( literal {, literal} )
unfoldable pub tuple : Limits → Language (List Value)
tuple limits = bracketed (listed (literal limits))

-- insert = INSERT INTO name [( names )] VALUES tuple {, tuple}
unfoldable pub insert : Limits → Language Statement
insert limits = do
  word (codes "INSERT")
  word (codes "INTO")
  table ← name limits
  columns ← optional (bracketed (names limits))
  word (codes "VALUES")
  rows ← listed (tuple limits)
  pure (Statement.Insert table columns rows)

-- [AS name]
unfoldable pub alias : Limits → Language (Option (List ℕ))
alias limits = optional (word (codes "AS") >> name limits)

-- a name that is a function's
abbrev pub function : Limits → List ℕ → Language (Unit {0})
function limits called found terminals rest = name limits called terminals rest

-- col
abbrev pub column : Limits → Language What
column limits = col limits >>= λ found. pure (What.Column found)

-- COUNT ( * )
abbrev pub count : Limits → Language What
count limits = do
  function limits (codes "count")
  mark (codes "(")
  mark (codes "*")
  mark (codes ")")
  pure What.Count

-- SUM ( col )
abbrev pub sum : Limits → Language What
sum limits = do
  function limits (codes "sum")
  mark (codes "(")
  found ← col limits
  mark (codes ")")
  pure (What.SumOf found)

-- citem = col [AS name]
unfoldable pub citem : Limits → Language Item
citem limits = do
  found ← column limits
  called ← alias limits
  pure (record { what = found; alias = called })

-- gitem = (col | COUNT ( * ) | SUM ( col )) [AS name]
unfoldable pub gitem : Limits → Language Item
gitem limits = do
  found ← column limits or (count limits or sum limits)
  called ← alias limits
  pure (record { what = found; alias = called })

-- an item after that many others; above the limit no terminal of a text is one
abbrev pub item_after : Language Item → Limits → ℕ → Language Item
item_after item limits count = whether (fits limits.items (count + 1)) item (one SlotIs)

-- item {, item}
unfoldable pub items : Language Item → Limits → Language (List Item)
items item limits = do
  first ← item_after item limits 0
  others ← many_from (λ count. mark (codes ",") >> item_after item limits count) 1
  pure (first ∷ others)

-- [INNER] JOIN name ON col = col
unfoldable pub join : Limits → Language Join
join limits = do
  optional (word (codes "INNER"))
  word (codes "JOIN")
  table ← name limits
  word (codes "ON")
  left ← col limits
  mark (codes "=")
  right ← col limits
  pure (record { table = table; left = left; right = right })

-- plain = SELECT (* | citem {, citem}) FROM name [[INNER] JOIN name ON col = col] [WHERE cond]
unfoldable pub plain : Limits → ℕ → Language Select
plain limits levels = do
  word (codes "SELECT")
  found ← (mark (codes "*") >> pure Items.Star) or (items (citem limits) limits >>= λ listed. pure (Items.Listed listed))
  word (codes "FROM")
  from ← name limits
  joined ← optional (join limits)
  cond ← condition limits levels
  pure (record { items = found; from = from; join = joined; cond = cond; group = None; order = None })

-- grouped = SELECT gitem {, gitem} FROM name [WHERE cond] [GROUP BY col]
unfoldable pub grouped : Limits → ℕ → Language Select
grouped limits levels = do
  word (codes "SELECT")
  found ← items (gitem limits) limits
  word (codes "FROM")
  from ← name limits
  cond ← condition limits levels
  group ← optional (word (codes "GROUP") >> word (codes "BY") >> col limits)
  pure (record { items = Items.Listed found; from = from; join = None; cond = cond; group = group; order = None })

-- [ASC | DESC]
unfoldable pub direction : Language Bool
direction = (word (codes "ASC") >> pure false) or ((word (codes "DESC") >> pure true) or pure false)

-- ORDER BY col [ASC | DESC]
unfoldable pub order : Limits → Language Order
order limits = do
  word (codes "ORDER")
  word (codes "BY")
  column ← col limits
  down ← direction
  pure (record { column = column; down = down })

-- select = (plain | grouped) [ORDER BY col [ASC | DESC]]
unfoldable pub select : Limits → ℕ → Language Select
select limits levels = do
  found ← plain limits levels or grouped limits levels
  ordered ← optional (order limits)
  pure (record found { order = ordered })

-- view = CREATE VIEW name AS (plain | grouped)
unfoldable pub view : Limits → ℕ → Language Statement
view limits levels = do
  word (codes "CREATE")
  word (codes "VIEW")
  found ← name limits
  word (codes "AS")
  select ← plain limits levels or grouped limits levels
  pure (Statement.CreateView (record { name = found; select = select }))

-- (REFERENCES [ONLY] | OWNED_BY | OWNS | ACCESSED_BY | ACCESSES)
unfoldable pub ref_kind : Language RefKind
ref_kind =
    (word (codes "REFERENCES") >> optional (word (codes "ONLY")) >> pure RefKind.Plain)
    or ((word (codes "OWNED_BY") >> pure RefKind.OwnedBy)
    or ((word (codes "OWNS") >> pure RefKind.Owns)
    or ((word (codes "ACCESSED_BY") >> pure RefKind.AccessedBy)
    or (word (codes "ACCESSES") >> pure RefKind.Accesses))))

-- refers = (REFERENCES [ONLY] | OWNED_BY | OWNS | ACCESSED_BY | ACCESSES) name ( name )
unfoldable pub refers : Limits → Language RefDef
refers limits = do
  found ← ref_kind
  table ← name limits
  column ← bracketed (name limits)
  pure (record { kind = found; table = table; column = column })

-- attr = PRIMARY KEY | NOT NULL | UNIQUE | refers
unfoldable pub attr : Limits → Language Attr
attr limits =
    (word (codes "PRIMARY") >> word (codes "KEY") >> pure Attr.Key)
    or ((word (codes "NOT") >> word (codes "NULL") >> pure Attr.NotNull)
    or ((word (codes "UNIQUE") >> pure Attr.Unique)
    or (refers limits >>= λ found. pure (Attr.Refers found))))

-- INT | TEXT
unfoldable pub kind : Language Kind
kind = (word (codes "INT") >> pure Kind.Int) or (word (codes "TEXT") >> pure Kind.Text)

-- name (INT | TEXT) {attr}
unfoldable pub column_part : Limits → Language Part
column_part limits = do
  column ← name limits
  found ← kind
  attrs ← many (attr limits)
  pure (Part.Column (record { name = column; kind = found; attrs = attrs }))

-- FOREIGN KEY ( name ) refers
unfoldable pub foreign_part : Limits → Language Part
foreign_part limits = do
  word (codes "FOREIGN")
  word (codes "KEY")
  column ← bracketed (name limits)
  found ← refers limits
  pure (Part.Foreign column found)

-- GET name ANON ( names ), after ON
unfoldable pub get_part : Limits → Language Part
get_part limits = do
  word (codes "GET")
  column ← name limits
  word (codes "ANON")
  hidden ← bracketed (names limits)
  pure (Part.Get column hidden)

-- DEL name ANON ( names ) | DEL name DELETE_ROW, after ON
unfoldable pub del_part : Limits → Language Part
del_part limits = do
  word (codes "DEL")
  column ← name limits
  (word (codes "ANON") >> bracketed (names limits) >>= λ ruled. pure (Part.Del column ruled)) or (word (codes "DELETE_ROW") >> pure (Part.DelRow column))

-- part = name (INT | TEXT) {attr} | PRIMARY KEY ( name ) | UNIQUE ( name ) | FOREIGN KEY ( name ) refers
--      | ON GET name ANON ( names ) | ON DEL name ANON ( names ) | ON DEL name DELETE_ROW
unfoldable pub part : Limits → Language Part
part limits =
    column_part limits
    or ((word (codes "PRIMARY") >> word (codes "KEY") >> bracketed (name limits) >>= λ column. pure (Part.Key column))
    or ((word (codes "UNIQUE") >> bracketed (name limits) >>= λ column. pure (Part.Unique column))
    or (foreign_part limits
    or (word (codes "ON") >> (get_part limits or del_part limits)))))

-- create = CREATE [DATA_SUBJECT] TABLE name ( part {, part} )
unfoldable pub create : Limits → Language Statement
create limits = do
  word (codes "CREATE")
  subject ← optional (word (codes "DATA_SUBJECT"))
  word (codes "TABLE")
  found ← name limits
  parts ← bracketed (listed (part limits))
  pure (Statement.CreateTable (record { name = found; subject = is_there subject; parts = parts }))

-- control = BEGIN [TRANSACTION] | COMMIT | ROLLBACK | CTX START | CTX COMMIT | CTX ROLLBACK | CHECKPOINT
--         | EXPLAIN COMPLIANCE
unfoldable pub control : Language Statement
control =
    (word (codes "BEGIN") >> optional (word (codes "TRANSACTION")) >> pure Statement.Begin)
    or ((word (codes "COMMIT") >> pure Statement.Commit)
    or ((word (codes "ROLLBACK") >> pure Statement.Rollback)
    or ((word (codes "CTX") >> ((word (codes "START") >> pure Statement.Begin) or ((word (codes "COMMIT") >> pure Statement.Commit) or (word (codes "ROLLBACK") >> pure Statement.Rollback))))
    or ((word (codes "CHECKPOINT") >> pure Statement.Checkpoint)
    or (word (codes "EXPLAIN") >> word (codes "COMPLIANCE") >> pure Statement.Explain)))))

-- (int | text)
unfoldable pub key : Limits → Language Key
key limits = (text limits >>= λ found. pure (Key.Text found)) or (int >>= λ found. pure (Key.Int found))

-- gdpr = GDPR (GET | FORGET) name (int | text)
unfoldable pub gdpr : Limits → Language Statement
gdpr limits = word (codes "GDPR") >> ((do
  word (codes "GET")
  table ← name limits
  found ← key limits
  pure (Statement.GdprGet table found))
    or (do
      word (codes "FORGET")
      table ← name limits
      found ← key limits
      pure (Statement.GdprForget table found)))

-- create | view | select | insert | update | delete | control | gdpr
unfoldable pub statement : Limits → ℕ → Language Statement
statement limits levels =
    create limits
    or (view limits levels
    or ((select limits levels >>= λ found. pure (Statement.Select found))
    or (insert limits
    or (update limits levels
    or (delete limits levels
    or (control
    or gdpr limits))))))
