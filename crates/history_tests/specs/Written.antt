-- Statements, short to write.
use Prim.Native.String.{String}
use Rattle.std.specs.Prelude.{ℕ, pos, List, [], ◌∷◌, true, false, Option, None, Some, codes}
use Rattle.own_base.specs.declared.value.Key.TheVariants as key
use Rattle.own_base.specs.declared.value.Value.{Value}
use Rattle.own_base.specs.declared.value.Value.TheVariants as value
use Rattle.own_model.specs.declared.condition.Cmp.TheVariants.{Eq}
use Rattle.own_model.specs.declared.condition.Cond.{Cond}
use Rattle.own_model.specs.declared.condition.Cond.TheVariants as cond
use Rattle.own_model.specs.declared.condition.Operand.TheVariants as operand
use Rattle.own_model.specs.declared.create.Attr.{Attr}
use Rattle.own_model.specs.declared.create.Attr.TheVariants as attr
use Rattle.own_model.specs.declared.create.Part.{Part}
use Rattle.own_model.specs.declared.create.Part.TheVariants as part
use Rattle.own_model.specs.declared.expression.Expr.{Expr}
use Rattle.own_model.specs.declared.expression.Expr.TheVariants as expr
use Rattle.own_model.specs.declared.schema.Kind.{Kind}
use Rattle.own_model.specs.declared.schema.Kind.TheVariants as kind
use Rattle.own_model.specs.declared.schema.RefKind.{RefKind}
use Rattle.own_model.specs.declared.schema.RefKind.TheVariants as ref_kind
use Rattle.own_model.specs.declared.select.ColRef.{ColRef}
use Rattle.own_model.specs.declared.select.Item.{Item}
use Rattle.own_model.specs.declared.select.Items.{Items}
use Rattle.own_model.specs.declared.select.Items.TheVariants as items
use Rattle.own_model.specs.declared.select.Select.{Select}
use Rattle.own_model.specs.declared.select.What.{What}
use Rattle.own_model.specs.declared.select.What.TheVariants as what
use Rattle.own_model.specs.declared.statement.Statement.{Statement}
use Rattle.own_model.specs.declared.statement.Statement.TheVariants as statement

-- values
abbrev pub int : ℕ → Value
int number = value.Int (pos number)

abbrev pub text : String → Value
text bytes = value.Text (codes bytes)

abbrev pub null : Value
null = value.Null

-- NAME KIND ATTRIBUTES
abbrev pub column : String → Kind → List Attr → Part
column name kind attrs = part.Column (record { name = codes name; kind = kind; attrs = attrs })

abbrev pub int_column : String → List Attr → Part
int_column name attrs = column name kind.Int attrs

abbrev pub text_column : String → List Attr → Part
text_column name attrs = column name kind.Text attrs

-- id INT PRIMARY KEY
abbrev pub id : Part
id = int_column "id" (attr.Key ∷ [])

-- NOT NULL, UNIQUE and KIND TABLE(id)
abbrev pub not_null : Attr
not_null = attr.NotNull

abbrev pub unique : Attr
unique = attr.Unique

abbrev pub refers : RefKind → String → Attr
refers kind table = attr.Refers (record { kind = kind; table = codes table; column = codes "id" })

abbrev pub plain : String → Attr
plain table = refers ref_kind.Plain table

-- REFERENCES TABLE(COLUMN), and PRIMARY KEY REFERENCES TABLE(id)
abbrev pub refers_to : String → String → Attr
refers_to table column = attr.Refers (record { kind = ref_kind.Plain; table = codes table; column = codes column })

abbrev pub key_that_refers : String → List Attr
key_that_refers table = attr.Key ∷ plain table ∷ []

abbrev pub owned_by : String → Attr
owned_by table = refers ref_kind.OwnedBy table

abbrev pub owns : String → Attr
owns table = refers ref_kind.Owns table

abbrev pub accessed_by : String → Attr
accessed_by table = refers ref_kind.AccessedBy table

-- ON GET COLUMN ANON (NAME), ON DEL COLUMN ANON (NAME) and ON DEL COLUMN DELETE_ROW
abbrev pub on_get : String → String → Part
on_get column name = part.Get (codes column) (codes name ∷ [])

abbrev pub on_del : String → String → Part
on_del column name = part.Del (codes column) (codes name ∷ [])

abbrev pub del_row : String → Part
del_row column = part.DelRow (codes column)

abbrev pub create : String → List Part → Statement
create name parts = statement.CreateTable (record { name = codes name; subject = false; parts = parts })

abbrev pub create_subject : String → List Part → Statement
create_subject name parts = statement.CreateTable (record { name = codes name; subject = true; parts = parts })

-- COLUMN and TABLE.COLUMN
abbrev pub here : String → ColRef
here name = record { table = None; column = codes name }

abbrev pub of : String → String → ColRef
of table name = record { table = Some (codes table); column = codes name }

-- WHERE COLUMN = NUMBER
abbrev pub equals : String → ℕ → Option Cond
equals name number = Some (cond.Compare (here name) Eq (operand.Literal (int number)))

abbrev pub shown : What → Item
shown found = record { what = found; alias = None }

-- SELECT * FROM TABLE; with WHERE id = NUMBER; and SELECT id FROM TABLE
abbrev pub selected : Items → String → Option Cond → Select
selected items table condition = record { items = items; from = codes table; join = None; cond = condition; group = None; order = None }

abbrev pub select_all : String → Statement
select_all table = statement.Select (selected items.Star table None)

abbrev pub select_key : String → ℕ → Statement
select_key table number = statement.Select (selected items.Star table (equals "id" number))

abbrev pub select_ids : String → Statement
select_ids table = statement.Select (selected (items.Listed (shown (what.Column (here "id")) ∷ [])) table None)

-- SELECT COLUMN FROM TABLE
abbrev pub select_one : String → String → Statement
select_one name table = statement.Select (selected (items.Listed (shown (what.Column (here name)) ∷ [])) table None)

-- SELECT COLUMN, COUNT(*) FROM TABLE GROUP BY COLUMN
abbrev pub counted : String → String → Select
counted name table =
    record (selected (items.Listed (shown (what.Column (here name)) ∷ shown what.Count ∷ [])) table None) { group = Some (here name) }

-- SELECT LEFT.id, RIGHT.NAME FROM LEFT JOIN RIGHT ON LEFT.COLUMN = RIGHT.id
abbrev pub joined : String → String → String → String → Select
joined left right by name = record (selected (items.Listed (shown (what.Column (of left "id")) ∷ shown (what.Column (of right name)) ∷ [])) left None) {
  join = Some (record { table = codes right; left = of left by; right = of right "id" });
}

abbrev pub create_view : String → Select → Statement
create_view name select = statement.CreateView (record { name = codes name; select = select })

-- writes
abbrev pub insert : String → List (List Value) → Statement
insert table rows = statement.Insert (codes table) None rows

-- COLUMN + NUMBER
abbrev pub plus : String → ℕ → Expr
plus name number = expr.Plus (codes name) (pos number)

abbrev pub constant : Value → Expr
constant of = expr.Literal of

abbrev pub other : String → Expr
other name = expr.Column (codes name)

-- UPDATE TABLE SET COLUMN = EXPRESSION; and with WHERE id = NUMBER
abbrev pub update_all : String → String → Expr → Statement
update_all table name to = statement.Update (codes table) ((codes name, to) ∷ []) None

abbrev pub update : String → String → Expr → ℕ → Statement
update table name to number = statement.Update (codes table) ((codes name, to) ∷ []) (equals "id" number)

-- DELETE FROM TABLE; and with WHERE id = NUMBER
abbrev pub delete_all : String → Statement
delete_all table = statement.Delete (codes table) None

abbrev pub delete_key : String → ℕ → Statement
delete_key table number = statement.Delete (codes table) (equals "id" number)

-- GDPR GET TABLE NUMBER and GDPR FORGET TABLE NUMBER
abbrev pub get : String → ℕ → Statement
get table number = statement.GdprGet (codes table) (key.Int (pos number))

abbrev pub forget : String → ℕ → Statement
forget table number = statement.GdprForget (codes table) (key.Int (pos number))

abbrev pub begin : Statement
begin = statement.Begin

abbrev pub commit : Statement
commit = statement.Commit

abbrev pub rollback : Statement
rollback = statement.Rollback
