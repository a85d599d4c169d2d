-- Owner paths of rows that stay, after a FORGET.
use Rattle.std.proofs.Common.{◌≡◌, ◌≢◌, ℕ, [], ◌∷◌, Bool, true, false, cond, eqb, inl, inr, refl, ap, sym, ◌∙◌, subst}
use Rattle.std.specs.Prelude.{◌⊎◌, Option, Some, None, IsTrue, is_some, slice_get}
use Rattle.std.specs.List.{AllByRecursion}
use Rattle.std.specs.Option.{option_and_then, option_map}
use Rattle.std.proofs.lemmas.Bool.{and_from, and_right, cond-true, eq-eqb, eqb-true, eqb-false, false_from_ne_true, or_from}
use Rattle.own_base.specs.declared.number.TableNo.{TableNo}
use Rattle.own_base.specs.declared.row_name.RowName.{RowName}
use Rattle.own_base.specs.declared.value.Key.{Key}
use Rattle.own_base.specs.declared.value.Key.TheVariants as keyed
use Rattle.own_model.specs.declared.schema.Edge.{Edge}
use Rattle.own_model.specs.declared.schema.TableDef.{TableDef}
use Rattle.own_model.specs.Db.{Db, IsOrdered, Row}
use Rattle.owner_model.specs.Joins.{Joins, holder_of, other_of, row_of, value_at, value_of}
use Rattle.query_model.specs.Footprints.{literal_key}
use Rattle.schema_model.specs.OwnerSchema.{IsOwnerEdge, IsOwnerSchema, RulesWell, named_table}
use Rattle.schema_model.specs.Tables.{is_private, is_subject}
use Rattle.owner_model.specs.RuledColumns.{is_blanked}
use Rattle.subject_model.specs.Forget.{dangles_at, forget, left_of, loses}
use Rattle.subject_model.specs.Named.{NamedRow, is_there}
use Rattle.subject_model.specs.Owners.{By, IsOwnerPath, Owns, by, has_owner}
use Rattle.subject_model.specs.Paths.{IsPath, Path, Step, is_subject_row}
use Rattle.subject_model.specs.Staying.{Claimed, IsFree}
use Rattle.subject_model.specs.Stays.{stays}
use Rattle.subject_model.proofs.ForgetEdges.{Blanks, blanked_by}
use Rattle.subject_model.proofs.ForgetJoins.{subject_after, subject_there, there_after, was_subject}
use Rattle.subject_model.proofs.ForgetKeys.{get_left, kept_value}
use Rattle.subject_model.proofs.ForgetOrder.{ordered-forget}
use Rattle.subject_model.proofs.ForgetRows.{left-stays, schema-forget}
use Rattle.subject_model.proofs.Members.{all_contained}
use Rattle.subject_model.proofs.NamedLemmas.{table-there}
use Rattle.subject_model.proofs.OwnerLemmas.{from_owner}
use Rattle.subject_model.proofs.StayLemmas.{from_stays, stays_from}
use Rattle.subject_model.proofs.JoinsLemmas.{same_table}

-- the key of a key's value is it
key_of_own : (key : Key) → literal_key (value_of key) ≡ Some key
key_of_own (keyed.Int number) = refl
key_of_own (keyed.Text bytes) = refl

-- a key's value tells the key
one_value : (one other : Key) → value_of one ≡ value_of other → one ≡ other
one_value one other same =
    let both : Some one ≡ Some other = sym (key_of_own one) ∙ (ap literal_key same ∙ key_of_own other) in cc

-- what is there is some row
found_row : (found : Option Row) → is_some found ≡ true → (row : Row) × (found ≡ Some row)
found_row None there = let never : false ≡ true = there in cc
found_row (Some row) there = (row, refl)

-- a table is told by its number, and a name by table and key
same_name : (one other : RowName) → one.table ≡ other.table → one.key ≡ other.key → one ≡ other
same_name one other table key =
    let name : TableNo → Key → RowName = λ table key. record { table = table; key = key } in
    ap (λ t. name t one.key) table ∙ ap (name other.table) key

-- the row that has an edge's column, and the other, are of the tables of the edge
module _ (edge : Edge) (lower upper : RowName) (of_lower : lower.table ≡ edge.lower) (of_upper : upper.table ≡ edge.upper) where
  holder_table : (edge.holder ≡ edge.lower) ⊎ (edge.holder ≡ edge.upper) → (holder_of edge lower upper).table ≡ edge.holder
  holder_table held = by _ refl held
    where
      by : (b : Bool) → eqb edge.holder.0 edge.lower.0 ≡ b → (edge.holder ≡ edge.lower) ⊎ (edge.holder ≡ edge.upper) → (holder_of edge lower upper).table ≡ edge.holder
      by true is held = rw is (of_lower ∙ sym (same_table edge.holder edge.lower (eqb-true _ _ is)))
      by false is (inl low) = absurd (eqb-false _ _ is (ap (λ (t : TableNo). t.0) low))
      by false is (inr up) = rw is (of_upper ∙ sym up)

  other_table : (other_of edge lower upper).table ≡ named_table edge
  other_table = by (eqb edge.holder.0 edge.lower.0)
    where
      by : (b : Bool) → (cond b upper lower).table ≡ cond b edge.upper edge.lower
      by true = of_upper
      by false = of_lower

-- along an edge whose lower row has its column, a row has one upper row
one_upper : (db : Db) (edge : Edge) (lower one other : RowName) → edge.holder ≡ edge.lower → Joins db lower edge one → Joins db lower edge other → one ≡ other
one_upper db edge lower one other held is also =
    let low : eqb edge.holder.0 edge.lower.0 ≡ true = eq-eqb _ _ (ap (λ (t : TableNo). t.0) held) in
    let first : value_at db lower edge.column.0 ≡ Some (value_of one.key) = rw low at is.names in
    let second : value_at db lower edge.column.0 ≡ Some (value_of other.key) = rw low at also.names in
    let both : Some (value_of one.key) ≡ Some (value_of other.key) = sym first ∙ second in
    let same : value_of one.key ≡ value_of other.key = cc in
    same_name one other (is.of_upper ∙ sym also.of_upper) (one_value one.key other.key same)

module _ (db : Db) (subject : RowName) (owner : IsOwnerSchema db.schema) where
  -- a subject that reaches a row by an edge that the row itself has, and that leads to a subject table, is the row above
  reached_alone : (lower : RowName) (edge : Edge) (upper : RowName) → edge.holder ≡ edge.lower → IsTrue (is_subject db.schema edge.upper.0) → Joins db lower edge upper → By db subject lower edge
      → upper ≡ subject
  unfolding is_subject_row
  reached_alone lower edge upper held to_subject is reaches =
      let same : reaches.upper ≡ upper = one_upper db edge lower reaches.upper upper held reaches.leads.0 is in
      let table : is_subject db.schema upper.table.0 ≡ true = subst (λ (t : TableNo). is_subject db.schema t.0 ≡ true) (sym is.of_upper) to_subject in
      let row : is_subject_row db reaches.upper ≡ true = subst (λ n. is_subject_row db n ≡ true) (sym same) (and_from _ _ table is.upper_there) in
      let none : reaches.rest ≡ [] = reaches.leads.1.0 row in
      let ends : IsPath db reaches.upper [] subject = subst (λ rest. IsPath db reaches.upper rest subject) none reaches.leads.1.1 in
      sym same ∙ ends.1

  module _ (lower : RowName) (edge : Edge) (upper : RowName) (is : Joins db lower edge upper) (low : stays db subject lower ≡ true) (up : stays db subject upper ≡ true) where
    own : IsOwnerEdge db.schema edge
    own = all_contained (IsOwnerEdge db.schema) db.schema.edges edge owner.edges is.among

    -- an edge between rows that stay isn't made NULL
    unblanked : is_blanked db.schema.edges (by db subject (holder_of edge lower upper)) edge.column.0 ≡ false
    unblanked = false_from_ne_true _ (λ blanked. never (blanked_by db subject _ edge.column.0 owner blanked))
      where
        never : Blanks db subject (holder_of edge lower upper) edge.column.0 → ⊥
        never made =
            let well : RulesWell db.schema made.ruling = all_contained (RulesWell db.schema) db.schema.edges made.ruling owner.rules made.among in
            let table = holder_table edge lower upper is.of_lower is.of_upper own.held in
            let alone = all_contained _ db.schema.edges edge well.own_alone is.among (sym table ∙ made.reaches.leads.0.of_lower) made.rules in
            let held : edge.holder ≡ edge.lower = sym table ∙ (made.reaches.leads.0.of_lower ∙ ap (λ (e : Edge). e.lower) (sym alone.0)) in
            let to_subject : is_subject db.schema edge.upper.0 ≡ true = subst (λ (e : Edge). is_subject db.schema e.upper.0 ≡ true) (sym alone.0) alone.1 in
            let low : eqb edge.holder.0 edge.lower.0 ≡ true = eq-eqb _ _ (ap (λ (t : TableNo). t.0) held) in
            let holder : holder_of edge lower upper ≡ lower = cond-true _ lower upper low in
            let reaches : By db subject lower edge = subst (λ n. By db subject n edge) holder (subst (By db subject (holder_of edge lower upper)) (sym alone.0) made.reaches) in
            (stays_from db subject upper up).other (reached_alone lower edge upper held to_subject is reaches)

    -- both rows stay
    other_stays : stays db subject (other_of edge lower upper) ≡ true
    other_stays = by (eqb edge.holder.0 edge.lower.0)
      where
        by : (b : Bool) → stays db subject (cond b upper lower) ≡ true
        by true = up
        by false = low

    holder_stays : stays db subject (holder_of edge lower upper) ≡ true
    holder_stays = by (eqb edge.holder.0 edge.lower.0)
      where
        by : (b : Bool) → stays db subject (cond b lower upper) ≡ true
        by true = low
        by false = up

    -- nor does it dangle
    undangled : (table : TableDef) → slice_get db.schema.tables edge.holder.0 ≡ Some table → dangles_at db subject table (edge.column.0, value_of (other_of edge lower upper).key) ≡ false
    undangled table there =
        let same : table ≡ own.holder = (let also = own.holder_is in cc) in
        let column : slice_get table.columns edge.column.0 ≡ Some own.column = subst (λ (t : TableDef). slice_get t.columns edge.column.0 ≡ Some own.column) (sym same) own.column_is in
        let name : record { table = named_table edge; key = (other_of edge lower upper).key } ≡ other_of edge lower upper =
        same_name _ (other_of edge lower upper) (sym (other_table edge lower upper is.of_lower is.of_upper)) refl in
        rw (column, own.refers, key_of_own (other_of edge lower upper).key, name, other_stays) (and_right _ _ refl)

    -- so its value isn't lost
    unlost : (table : TableDef) → slice_get db.schema.tables edge.holder.0 ≡ Some table
        → loses db subject table (holder_of edge lower upper) (edge.column.0, value_of (other_of edge lower upper).key) ≡ false
    unfolding loses
    unlost table there = or_from _ _ unblanked (undangled table there)

    value_case : (row : Row) → row_of db (holder_of edge lower upper) ≡ Some row → (table : TableDef) → slice_get db.schema.tables (holder_of edge lower upper).table.0 ≡ Some table
        → value_at (forget db subject) (holder_of edge lower upper) edge.column.0 ≡ Some (value_of (other_of edge lower upper).key)
    value_case row there table table_is =
        let key = (other_of edge lower upper).key in
        let named : NamedRow = record { name = holder_of edge lower upper; row = row } in
        let at : slice_get db.schema.tables edge.holder.0 ≡ Some table =
        subst (λ (t : TableNo). slice_get db.schema.tables t.0 ≡ Some table) (holder_table edge lower upper is.of_lower is.of_upper own.held) table_is in
        let before : slice_get row edge.column.0 ≡ Some (value_of key) = sym (ap (option_and_then (λ row. slice_get row edge.column.0)) there) ∙ is.names in
        let lost : loses db subject table (holder_of edge lower upper) (edge.column.0, value_of key) ≡ false = unlost table at in
        let kept : slice_get (left_of db subject table named) edge.column.0 ≡ Some (value_of key) =
        get_left db subject table named edge.column.0
        ∙ (ap (option_map (λ value. kept_value (loses db subject table (holder_of edge lower upper) (edge.column.0, value)) value)) before
        ∙ ap (λ b. Some (kept_value b (value_of key))) lost) in
        ap (option_and_then (λ row. slice_get row edge.column.0)) (left-stays db subject (holder_of edge lower upper) table row owner table_is there holder_stays) ∙ kept

    holder_there : is_there db (holder_of edge lower upper) ≡ true
    holder_there = by (eqb edge.holder.0 edge.lower.0)
      where
        by : (b : Bool) → is_there db (cond b lower upper) ≡ true
        by true = is.lower_there
        by false = is.upper_there

    value_after : value_at (forget db subject) (holder_of edge lower upper) edge.column.0 ≡ Some (value_of (other_of edge lower upper).key)
    value_after =
        let (table, table_is) = table-there db (holder_of edge lower upper) holder_there in
        let (row, row_is) = found_row (row_of db (holder_of edge lower upper)) holder_there in
        value_case row row_is table table_is

    -- an edge that joins two rows that stay joins them after a FORGET
    pub joined_after : Joins (forget db subject) lower edge upper
    unfolding forget
    joined_after = record {
      among = is.among;
      of_lower = is.of_lower;
      of_upper = is.of_upper;
      lower_there = there_after db subject owner lower is.lower_there low;
      upper_there = there_after db subject owner upper is.upper_there up;
      names = value_after;
    }

  -- so a path of rows that stay is a path after it
  pub path_after : (from : RowName) (path : Path) (end : RowName) → IsPath db from path end → stays db subject from ≡ true
      → AllByRecursion (λ (step : Step). stays db subject step.upper ≡ true) path → IsPath (forget db subject) from path end
  path_after from [] end is stay all = (subject_after db subject owner from is.0 (there_after db subject owner from (subject_there db from is.0) stay), is.1)
  path_after from (step ∷ rest) end is stay all = (
    joined_after from step.edge step.upper is.0 stay all.0,
    (λ first. is.1.0 (was_subject db subject owner step.upper first), path_after step.upper rest end is.1.1 all.0 all.1),
  )

module _ (db : Db) (subject : RowName) (ordered : IsOrdered db) (owner : IsOwnerSchema db.schema) (of_subjects : is_subject db.schema subject.table.0 ≡ true) where
  -- the rows of an owner path without a struck row, to another subject, stay
  free_stays : (from : RowName) (path : Path) (other : RowName) → IsPath db from path other → IsOwnerPath path → IsFree db subject from path → other ≢ subject
      → AllByRecursion (λ (step : Step). stays db subject step.upper ≡ true) path
  unfolding is_subject_row
  free_stays from [] other leads owned free differs = tt
  free_stays from (step ∷ rest) other leads owned free differs =
      (from_stays db subject step.upper ordered owner (record { other = apart; kept = inr held }), free_stays step.upper rest other leads.1.1 owned.1 (free.1.0, free.1.1) differs)
    where
      apart : step.upper ≢ subject
      apart same =
          let table : is_subject db.schema step.upper.table.0 ≡ true = subst (λ (n : RowName). is_subject db.schema n.table.0 ≡ true) (sym same) of_subjects in
          let none : rest ≡ [] = leads.1.0 (and_from _ _ table leads.0.upper_there) in
          let ends : IsPath db step.upper [] other = subst (λ rest. IsPath db step.upper rest other) none leads.1.1 in
          differs (sym ends.1 ∙ same)

      held : Claimed db subject step.upper
      held = record { other = other; differs = differs; path = rest; leads = leads.1.1; owner = owned.1; free = (free.1.0, free.1.1) }

  -- so each row of a private table that stays has an owner after a FORGET
  pub owned_after : (name : RowName) → is_private db.schema name.table.0 ≡ true → stays db subject name ≡ true → (other : RowName) × Owns (forget db subject) other name
  owned_after name private stay = by (stays_from db subject name stay).kept
    where
      by : (is_private db.schema name.table.0 ≡ false) ⊎ Claimed db subject name → (other : RowName) × Owns (forget db subject) other name
      by (inl open_table) = let never : true ≡ false = sym private ∙ open_table in cc
      by (inr held) = (
        held.other,
        record {
          path = held.path;
          leads = path_after db subject owner name held.path held.other held.leads stay (free_stays name held.path held.other held.leads held.owner held.free held.differs);
          owner = held.owner;
        },
      )

  pub has_owner-forget : (name : RowName) → is_private db.schema name.table.0 ≡ true → stays db subject name ≡ true → has_owner (forget db subject) name ≡ true
  has_owner-forget name private stay =
      from_owner (forget db subject) name (ordered-forget db subject owner ordered) (subst IsOwnerSchema (sym (schema-forget db subject)) owner) (owned_after name private stay)
