-- Which rows an edge joins, as a test and as a list.
use Rattle.std.proofs.Common.{◌≡◌, ℕ, Bool, true, false, ap, subst, eq-eqb}
use Rattle.std.specs.Prelude.{◌==◌, ◌&&◌, ◌↔◌, Contains, IsTrue, Option, Some, None}
use Rattle.std.specs.Option.{option_map_or}
use Rattle.std.proofs.lemmas.Bool.{and_from, and_parts, eqb-true}
use Rattle.own_base.specs.declared.number.TableNo.{TableNo}
use Rattle.own_base.specs.declared.row_name.RowName.{RowName}
use Rattle.own_base.specs.declared.value.Key.{Key}
use Rattle.own_base.specs.declared.value.Key.TheVariants as keyed
use Rattle.own_base.specs.declared.value.Value.{Value}
use Rattle.own_base.specs.declared.value.Value.TheVariants.{Null, Int, Text, Sum}
use Rattle.own_model.specs.declared.schema.Edge.{Edge}
use Rattle.own_model.specs.Db.{Db, IsOrdered}
use Rattle.owner_model.specs.Joins.{Joins, holder_of, other_of, value_at, value_of}
use Rattle.subject_model.specs.Named.{NamedRow, is_there, named_rows}
use Rattle.subject_model.specs.Paths.{Step, is_key, joins, steps_along, steps_of}
use Rattle.subject_model.proofs.Members.{contains_filter, contains_flat_map, contains_map, contains_of_filter, contains_of_flat_map, contains_of_map}
use Rattle.subject_model.proofs.NamedLemmas.{key_is, named-there, one_key}

-- a value that is a key is that key's value
pub value_of_key : (key : Key) (value : Value) → is_key key value ≡ true → value ≡ value_of key
value_of_key key Null is = let never : false ≡ true = is in cc
value_of_key key (Int number) is = ap value_of (one_key (keyed.Int number) key is)
value_of_key key (Text bytes) is = ap value_of (one_key (keyed.Text bytes) key is)
value_of_key key (Sum number) is = let never : false ≡ true = is in cc

-- and the value of a key is it
pub key_of_value : (key : Key) → is_key key (value_of key) ≡ true
key_of_value (keyed.Int number) = key_is (keyed.Int number)
key_of_value (keyed.Text bytes) = key_is (keyed.Text bytes)

names_key : (key : Key) (held : Option Value) → option_map_or (is_key key) held false ≡ true → held ≡ Some (value_of key)
names_key key None is = let never : false ≡ true = is in cc
names_key key (Some value) is = ap Some (value_of_key key value is)

key_named : (key : Key) (held : Option Value) → held ≡ Some (value_of key) → option_map_or (is_key key) held false ≡ true
key_named key held is = rw is (key_of_value key)

pub same_table : (one other : TableNo) → one.0 ≡ other.0 → one ≡ other
same_table one other same = ap (λ (n : ℕ). record { 0 = n }) same

-- where the test says so, an edge of the schema joins two rows
pub joined : (db : Db) (lower : RowName) (edge : Edge) (upper : RowName) → Contains db.schema.edges edge → joins db lower edge upper ≡ true → Joins db lower edge upper
unfolding joins
joined db lower edge upper among is =
    let held = value_at db (holder_of edge lower upper) edge.column.0 in
    let key = (other_of edge lower upper).key in
    let tables : Bool = lower.table.0 == edge.lower.0 && upper.table.0 == edge.upper.0 in
    let there : Bool = is_there db lower && is_there db upper in
    let all = and_parts (tables && there) (option_map_or (is_key key) held false) is in
    let both = and_parts tables there all.0 in
    let table = and_parts (lower.table.0 == edge.lower.0) (upper.table.0 == edge.upper.0) both.0 in
    let row = and_parts (is_there db lower) (is_there db upper) both.1 in
    record {
      among = among;
      of_lower = same_table lower.table edge.lower (eqb-true lower.table.0 edge.lower.0 table.0);
      of_upper = same_table upper.table edge.upper (eqb-true upper.table.0 edge.upper.0 table.1);
      lower_there = row.0;
      upper_there = row.1;
      names = names_key key held all.1;
    }

-- and where one does, it says so
pub join_passes : (db : Db) (lower : RowName) (edge : Edge) (upper : RowName) → Joins db lower edge upper → joins db lower edge upper ≡ true
unfolding joins
join_passes db lower edge upper is =
    let held = value_at db (holder_of edge lower upper) edge.column.0 in
    let key = (other_of edge lower upper).key in
    and_from _ _
    (and_from _ _
    (and_from _ _ (eq-eqb lower.table.0 edge.lower.0 (ap (λ t. t.0) is.of_lower)) (eq-eqb upper.table.0 edge.upper.0 (ap (λ t. t.0) is.of_upper)))
    (and_from _ _ is.lower_there is.upper_there))
    (key_named key held is.names)

-- an edge of the schema joins two rows exactly where the test says so
pub joins-iff_joined : (db : Db) (lower : RowName) (edge : Edge) (upper : RowName) → Contains db.schema.edges edge → IsTrue (joins db lower edge upper) ↔ Joins db lower edge upper
joins-iff_joined db lower edge upper among = (joined db lower edge upper among, join_passes db lower edge upper)

-- the step of a row that is entered
abbrev entered : Edge → NamedRow → Step
entered edge named = record { edge = edge; upper = named.name }

-- each step out of a row joins it to the row that is entered
pub step_joins : (db : Db) (lower : RowName) (step : Step) → Contains (steps_of db lower) step → Joins db lower step.edge step.upper
unfolding steps_of
step_joins db lower step among =
    let (edge, of_schema, along) = contains_of_flat_map (steps_along db lower) db.schema.edges step among in
    let passes : NamedRow → Bool = λ named. joins db lower edge named.name in
    let (named, kept, same) = contains_of_map (entered edge) _ step along in
    let row = contains_of_filter passes (named_rows db) named kept in
    subst (λ s. Joins db lower s.edge s.upper) same (joined db lower edge named.name of_schema row.1)

-- and each row that an edge joins it to is entered by a step
pub joins_step : (db : Db) (lower : RowName) (step : Step) → IsOrdered db → Joins db lower step.edge step.upper → Contains (steps_of db lower) step
unfolding steps_of
joins_step db lower step ordered is =
    let (row, at) = named-there db step.upper ordered is.upper_there in
    let passes : NamedRow → Bool = λ named. joins db lower step.edge named.name in
    let named : NamedRow = record { name = step.upper; row = row } in
    contains_flat_map (steps_along db lower) db.schema.edges step.edge step is.among
    (contains_map (entered step.edge) _ named (contains_filter passes (named_rows db) named at (join_passes db lower step.edge step.upper is)))

-- the steps out of a row are exactly those along which an edge joins it to a row
pub steps-iff_joined : (db : Db) (lower : RowName) (step : Step) → IsOrdered db → Contains (steps_of db lower) step ↔ Joins db lower step.edge step.upper
steps-iff_joined db lower step ordered = (step_joins db lower step, joins_step db lower step ordered)
