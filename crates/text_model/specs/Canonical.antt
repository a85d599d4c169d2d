-- The canonical text of a statement: its tokens in the grammar's order with one space between, keywords in capitals, names
-- in lower case, without the words that mean nothing, a sign joined to its number, each quote in a text doubled.
use Rattle.std.specs.Prelude.{ℕ, List, [], ◌∷◌, ◌++◌, Option, codes, if◌then◌else◌}
use Rattle.std.specs.Fmt.{signed_decimal}
use Rattle.std.specs.List.{flat_map}
use Rattle.own_base.specs.declared.value.Value.{Value}
use Rattle.own_model.specs.declared.condition.Cond.{Cond}
use Rattle.own_model.specs.declared.create.Attr.{Attr}
use Rattle.own_model.specs.declared.create.Attr.TheVariants as attr
use Rattle.own_model.specs.declared.create.ColumnDef.{ColumnDef}
use Rattle.own_model.specs.declared.create.CreateTable.{CreateTable}
use Rattle.own_model.specs.declared.create.CreateView.{CreateView}
use Rattle.own_model.specs.declared.create.Part.{Part}
use Rattle.own_model.specs.declared.create.Part.TheVariants as part
use Rattle.own_model.specs.declared.create.RefDef.{RefDef}
use Rattle.own_model.specs.declared.expression.Expr.{Expr}
use Rattle.own_model.specs.declared.expression.Expr.TheVariants as expr
use Rattle.own_model.specs.declared.schema.Kind.{Kind}
use Rattle.own_model.specs.declared.schema.Kind.TheVariants as kind
use Rattle.own_model.specs.declared.schema.RefKind.{RefKind}
use Rattle.own_model.specs.declared.schema.RefKind.TheVariants as ref_kind
use Rattle.own_model.specs.declared.select.Item.{Item}
use Rattle.own_model.specs.declared.select.Items.{Items}
use Rattle.own_model.specs.declared.select.Items.TheVariants as items
use Rattle.own_model.specs.declared.select.Join.{Join}
use Rattle.own_model.specs.declared.select.Order.{Order}
use Rattle.own_model.specs.declared.select.Select.{Select}
use Rattle.own_model.specs.declared.select.What.{What}
use Rattle.own_model.specs.declared.select.What.TheVariants as what
use Rattle.own_model.specs.declared.statement.Statement.{Statement}
use Rattle.own_model.specs.declared.statement.Statement.TheVariants as statement
use Rattle.text_model.specs.Condition.{cond_words}
use Rattle.text_model.specs.Words.{Words, bracketed, column_words, key_word, listed, literal_words, names_words, spaced, word, words_of}

-- INT or TEXT; no column of a table is a sum
unfoldable pub kind_word : Kind → List ℕ
kind_word kind.Int = codes "INT"
kind_word kind.Text = codes "TEXT"
kind_word kind.Sum = codes "SUM"

unfoldable pub ref_kind_word : RefKind → List ℕ
ref_kind_word ref_kind.Plain = codes "REFERENCES"
ref_kind_word ref_kind.OwnedBy = codes "OWNED_BY"
ref_kind_word ref_kind.Owns = codes "OWNS"
ref_kind_word ref_kind.AccessedBy = codes "ACCESSED_BY"
ref_kind_word ref_kind.Accesses = codes "ACCESSES"

-- a reference to a table's column
unfoldable pub refers_words : RefDef → Words
refers_words refers = ref_kind_word refers.kind ∷ refers.table ∷ bracketed (word refers.column)

unfoldable pub attr_words : Attr → Words
attr_words attr.Key = codes "PRIMARY" ∷ codes "KEY" ∷ []
attr_words attr.NotNull = codes "NOT" ∷ codes "NULL" ∷ []
attr_words attr.Unique = codes "UNIQUE" ∷ []
attr_words (attr.Refers refers) = refers_words refers

-- a column, its kind and its attributes
unfoldable pub column_def_words : ColumnDef → Words
column_def_words column = column.name ∷ kind_word column.kind ∷ flat_map attr_words column.attrs

-- a part of a CREATE TABLE
unfoldable pub part_words : Part → Words
part_words (part.Column column) = column_def_words column
part_words (part.Key column) = codes "PRIMARY" ∷ codes "KEY" ∷ bracketed (word column)
part_words (part.Unique column) = codes "UNIQUE" ∷ bracketed (word column)
part_words (part.Foreign column refers) = codes "FOREIGN" ∷ codes "KEY" ∷ (bracketed (word column) ++ refers_words refers)
part_words (part.Get column hidden) = codes "ON" ∷ codes "GET" ∷ column ∷ codes "ANON" ∷ bracketed (names_words hidden)
part_words (part.Del column ruled) = codes "ON" ∷ codes "DEL" ∷ column ∷ codes "ANON" ∷ bracketed (names_words ruled)
part_words (part.DelRow column) = codes "ON" ∷ codes "DEL" ∷ column ∷ codes "DELETE_ROW" ∷ []

unfoldable pub create_words : CreateTable → Words
create_words create = codes "CREATE" ∷ ((if create.subject then codes "DATA_SUBJECT" ∷ [] else [])
    ++ codes "TABLE" ∷ create.name ∷ bracketed (listed part_words create.parts))

-- [WHERE cond]
abbrev pub where_words : Option Cond → Words
where_words cond = words_of (λ cond. codes "WHERE" ∷ cond_words cond) cond

unfoldable pub what_words : What → Words
what_words (what.Column column) = column_words column
what_words what.Count = codes "COUNT" ∷ bracketed (word (codes "*"))
what_words (what.SumOf column) = codes "SUM" ∷ bracketed (column_words column)

-- an item of a select, with its name
unfoldable pub item_words : Item → Words
item_words item = what_words item.what ++ words_of (λ alias. codes "AS" ∷ alias ∷ []) item.alias

unfoldable pub items_words : Items → Words
items_words items.Star = codes "*" ∷ []
items_words (items.Listed found) = listed item_words found

unfoldable pub join_words : Join → Words
join_words join = codes "JOIN" ∷ join.table ∷ codes "ON" ∷ (column_words join.left ++ codes "=" ∷ column_words join.right)

unfoldable pub order_words : Order → Words
order_words order = codes "ORDER" ∷ codes "BY" ∷ (column_words order.column ++ (if order.down then codes "DESC" ∷ [] else []))

unfoldable pub select_words : Select → Words
select_words select = codes "SELECT" ∷ (items_words select.items ++ codes "FROM" ∷ select.from ∷ (words_of join_words select.join
    ++ (where_words select.cond ++ (words_of (λ column. codes "GROUP" ∷ codes "BY" ∷ column_words column) select.group
    ++ words_of order_words select.order))))

unfoldable pub view_words : CreateView → Words
view_words view = codes "CREATE" ∷ codes "VIEW" ∷ view.name ∷ codes "AS" ∷ select_words view.select

unfoldable pub tuple_words : List Value → Words
tuple_words tuple = bracketed (listed literal_words tuple)

-- what a column is set to
unfoldable pub expr_words : Expr → Words
expr_words (expr.Literal value) = literal_words value
expr_words (expr.Column column) = word column
expr_words (expr.Plus column more) = column ∷ codes "+" ∷ signed_decimal more ∷ []
expr_words (expr.Minus column fewer) = column ∷ codes "-" ∷ signed_decimal fewer ∷ []

unfoldable pub set_words : List ℕ × Expr → Words
set_words set = set.0 ∷ codes "=" ∷ expr_words set.1

-- the words of a statement
unfoldable pub statement_words : Statement → Words
statement_words (statement.CreateTable create) = create_words create
statement_words (statement.CreateView view) = view_words view
statement_words (statement.Insert table columns rows) = codes "INSERT" ∷ codes "INTO" ∷ table
    ∷ (words_of (λ columns. bracketed (names_words columns)) columns ++ codes "VALUES" ∷ listed tuple_words rows)
statement_words (statement.Update table sets cond) = codes "UPDATE" ∷ table ∷ codes "SET" ∷ (listed set_words sets ++ where_words cond)
statement_words (statement.Delete table cond) = codes "DELETE" ∷ codes "FROM" ∷ table ∷ where_words cond
statement_words (statement.Select select) = select_words select
statement_words statement.Begin = word (codes "BEGIN")
statement_words statement.Commit = word (codes "COMMIT")
statement_words statement.Rollback = word (codes "ROLLBACK")
statement_words (statement.GdprGet table key) = codes "GDPR" ∷ codes "GET" ∷ table ∷ key_word key ∷ []
statement_words (statement.GdprForget table key) = codes "GDPR" ∷ codes "FORGET" ∷ table ∷ key_word key ∷ []
statement_words statement.Explain = codes "EXPLAIN" ∷ codes "COMPLIANCE" ∷ []
statement_words statement.Checkpoint = word (codes "CHECKPOINT")

-- the canonical text of a statement
unfoldable pub canonical : Statement → List ℕ
canonical statement = spaced (statement_words statement)
