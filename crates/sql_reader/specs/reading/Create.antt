-- The rules of CREATE, as they are read.
use Rattle.std.specs.Prelude.{ℕ, Bool, List, ◌∷◌, ◌||◌, codes}
use Rattle.own_model.specs.declared.create.Attr.{Attr}
use Rattle.own_model.specs.declared.create.Attr.TheVariants as attr
use Rattle.own_model.specs.declared.create.CreateTable.{CreateTable}
use Rattle.own_model.specs.declared.create.CreateView.{CreateView}
use Rattle.own_model.specs.declared.create.Part.{Part}
use Rattle.own_model.specs.declared.create.Part.TheVariants as part
use Rattle.own_model.specs.declared.create.RefDef.{RefDef}
use Rattle.own_model.specs.declared.schema.Kind.{Kind}
use Rattle.own_model.specs.declared.schema.Kind.TheVariants as kind
use Rattle.own_model.specs.declared.schema.RefKind.{RefKind}
use Rattle.own_model.specs.declared.schema.RefKind.TheVariants as ref
use Rattle.own_model.specs.declared.statement.Statement.{Statement}
use Rattle.own_model.specs.declared.statement.Statement.TheVariants as statement
use Rattle.grammar_model.specs.Parts.{is_there}
use Rattle.grammar_model.specs.Limits.{Limits}
use Rattle.sql_reader.specs.reading.Reader.{Reader, ◌>>=◌, ◌>>◌, pure, either, optional, many}
use Rattle.sql_reader.specs.reading.Rules.{word, mark, name, one_name, bracketed_names}
use Rattle.sql_reader.specs.reading.Select.{query}
use Rattle.grammar_model.specs.Terminal.{Terminal, is_word, is_mark}
use Rattle.sql_reader.specs.reading.Judges.{is_name}

-- REFERENCES [ONLY] | OWNED_BY | OWNS | ACCESSED_BY | ACCESSES
unfoldable pub ref_kind : Reader RefKind
ref_kind =
    either (is_word (codes "REFERENCES")) (word (codes "REFERENCES") >> optional (is_word (codes "ONLY")) (word (codes "ONLY")) >> pure ref.Plain)
    (either (is_word (codes "OWNED_BY")) (word (codes "OWNED_BY") >> pure ref.OwnedBy)
    (either (is_word (codes "OWNS")) (word (codes "OWNS") >> pure ref.Owns)
    (either (is_word (codes "ACCESSED_BY")) (word (codes "ACCESSED_BY") >> pure ref.AccessedBy)
    (word (codes "ACCESSES") >> pure ref.Accesses))))

-- refers = (REFERENCES [ONLY] | OWNED_BY | OWNS | ACCESSED_BY | ACCESSES) name ( name )
unfoldable pub refers : Limits → Reader RefDef
refers limits = do
  found ← ref_kind
  table ← name limits
  column ← one_name limits
  pure (record { kind = found; table = table; column = column })

-- attr = PRIMARY KEY | NOT NULL | UNIQUE | refers
unfoldable pub attr_rule : Limits → Reader Attr
attr_rule limits =
    either (is_word (codes "PRIMARY")) (word (codes "PRIMARY") >> word (codes "KEY") >> pure attr.Key)
    (either (is_word (codes "NOT")) (word (codes "NOT") >> word (codes "NULL") >> pure attr.NotNull)
    (either (is_word (codes "UNIQUE")) (word (codes "UNIQUE") >> pure attr.Unique)
    (refers limits >>= λ found. pure (attr.Refers found))))

abbrev pub begins_ref : Terminal → Bool
begins_ref terminal =
    is_word (codes "REFERENCES") terminal || (is_word (codes "OWNED_BY") terminal || (is_word (codes "OWNS") terminal
    || (is_word (codes "ACCESSED_BY") terminal || is_word (codes "ACCESSES") terminal)))

abbrev pub begins_attr : Terminal → Bool
begins_attr terminal =
    is_word (codes "PRIMARY") terminal || (is_word (codes "NOT") terminal || (is_word (codes "UNIQUE") terminal || begins_ref terminal))

-- {attr}
unfoldable pub attrs : Limits → Reader (List Attr)
attrs limits = many begins_attr (attr_rule limits)

-- INT | TEXT
unfoldable pub kind_rule : Reader Kind
kind_rule = either (is_word (codes "INT")) (word (codes "INT") >> pure kind.Int) (word (codes "TEXT") >> pure kind.Text)

-- name (INT | TEXT) {attr}
unfoldable pub column_part : Limits → Reader Part
column_part limits = do
  column ← name limits
  found ← kind_rule
  all ← attrs limits
  pure (part.Column (record { name = column; kind = found; attrs = all }))

-- FOREIGN KEY ( name ) refers
unfoldable pub foreign_part : Limits → Reader Part
foreign_part limits = do
  word (codes "FOREIGN")
  word (codes "KEY")
  column ← one_name limits
  found ← refers limits
  pure (part.Foreign column found)

-- GET name ANON ( names ), after ON
unfoldable pub get_part : Limits → Reader Part
get_part limits = do
  word (codes "GET")
  column ← name limits
  word (codes "ANON")
  hidden ← bracketed_names limits
  pure (part.Get column hidden)

-- DEL name ANON ( names ) | DEL name DELETE_ROW, after ON
unfoldable pub del_part : Limits → Reader Part
del_part limits = do
  word (codes "DEL")
  column ← name limits
  either (is_word (codes "ANON")) (word (codes "ANON") >> bracketed_names limits >>= λ ruled. pure (part.Del column ruled))
      (word (codes "DELETE_ROW") >> pure (part.DelRow column))

-- part = name (INT | TEXT) {attr} | PRIMARY KEY ( name ) | UNIQUE ( name ) | FOREIGN KEY ( name ) refers
--      | ON GET name ANON ( names ) | ON DEL name ANON ( names ) | ON DEL name DELETE_ROW
unfoldable pub part_rule : Limits → Reader Part
part_rule limits =
    either is_name (column_part limits)
    (either (is_word (codes "PRIMARY")) (word (codes "PRIMARY") >> word (codes "KEY") >> one_name limits >>= λ column. pure (part.Key column))
    (either (is_word (codes "UNIQUE")) (word (codes "UNIQUE") >> one_name limits >>= λ column. pure (part.Unique column))
    (either (is_word (codes "FOREIGN")) (foreign_part limits)
    (word (codes "ON") >> either (is_word (codes "GET")) (get_part limits) (del_part limits)))))

-- part {, part}
unfoldable pub listed_parts : Limits → Reader (List Part)
listed_parts limits = do
  first ← part_rule limits
  others ← many (is_mark (codes ",")) (mark (codes ",") >> part_rule limits)
  pure (first ∷ others)

-- ( part {, part} )
unfoldable pub parts : Limits → Reader (List Part)
parts limits = do
  mark (codes "(")
  all ← listed_parts limits
  mark (codes ")")
  pure all

-- [DATA_SUBJECT] TABLE name ( part {, part} ), after CREATE
unfoldable pub table : Limits → Reader CreateTable
table limits = do
  subject ← optional (is_word (codes "DATA_SUBJECT")) (word (codes "DATA_SUBJECT"))
  word (codes "TABLE")
  found ← name limits
  all ← parts limits
  pure (record { name = found; subject = is_there subject; parts = all })

-- VIEW name AS (plain | grouped), after CREATE
unfoldable pub view : Limits → ℕ → Reader CreateView
view limits levels = do
  word (codes "VIEW")
  found ← name limits
  word (codes "AS")
  select ← query limits levels
  pure (record { name = found; select = select })

-- create = CREATE [DATA_SUBJECT] TABLE name ( part {, part} ), view = CREATE VIEW name AS (plain | grouped)
unfoldable pub create : Limits → ℕ → Reader Statement
create limits levels = word (codes "CREATE") >> either (is_word (codes "VIEW")) (view limits levels >>= λ found. pure (statement.CreateView found)) (table limits >>= λ found. pure (statement.CreateTable found))
