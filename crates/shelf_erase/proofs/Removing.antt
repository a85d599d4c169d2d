-- The rows that go are told table by table, in the graph's order.
use Rattle.std.proofs.Common.{◌≡◌, ℕ, ◌+◌, ◌<◌, ◌≤◌, List, [], length, get_or, true, inl, inr, refl, ap, sym, ◌∙◌, arith}
use Rattle.std.specs.Prelude.{◌⊎◌, ◌==◌, Contains, Option, Some, None, slice_get}
use Rattle.std.proofs.Common.{eq-eqb}
use Rattle.std.proofs.lemmas.Bool.{cases_lt}
use Rattle.std.proofs.lemmas.Option.{slice_get_read}
use Rattle.subject_model.proofs.Members.{contains_filter}
use Rattle.own_base.specs.declared.change.Change.{Change}
use Rattle.own_base.specs.declared.number.TableNo.{TableNo}
use Rattle.own_base.specs.declared.row_name.RowName.{RowName}
use Rattle.own_model.specs.declared.schema.Edge.{Edge}
use Rattle.own_model.specs.declared.schema.TableDef.{TableDef}
use Rattle.own_model.specs.Db.{Db}
use Rattle.own_model.specs.Stored.{row_named}
use Rattle.owner_model.specs.GraphOrder.{IsGraphOrder}
use Rattle.owner_sets.proofs.InOrder.{order_before, order_has}
use Rattle.schema_model.proofs.Places.{place-lt}
use Rattle.subject_model.specs.Owners.{Owns}
use Rattle.shelf_erase.specs.ChangeAt.{removal_at}
use Rattle.shelf_erase.specs.Above.{AboveTold}
use Rattle.shelf_erase.specs.OwnIn.{IsOwnIn}
use Rattle.shelf_erase.specs.Told.{AreTold, Tells, told}
use Rattle.shelf_erase.proofs.ToldLemmas.{told_none}

-- of the rows of the first tables of the order it is told which go
pub record OrderTold (db : Db) (subject : RowName) (order : List TableNo) (place : ℕ) (changes : List Change) : Type 0 where
  pub either : (name : RowName) → (told changes name ≡ None) ⊎ (told changes name ≡ removal_at db subject name)
  pub tables : (at : ℕ) (table : TableNo) → at < place → slice_get order at ≡ Some table → (name : RowName) → name.table ≡ table → told changes name ≡ removal_at db subject name

-- no row of a table that isn't there goes
none_there : (db : Db) (subject name : RowName) → slice_get db.schema.tables name.table.0 ≡ None → removal_at db subject name ≡ None
unfolding removal_at row_named
none_there db subject name none = rw none refl

module _ (db : Db) (subject : RowName) (order : List TableNo) (graph : IsGraphOrder (length db.schema.tables) db.schema.edges order)
    (owned_or_none : (name : RowName) → Owns db subject name ⊎ (removal_at db subject name ≡ None)) where
  pub order-start : OrderTold db subject order 0 []
  order-start = record { either = λ name. inl (told_none (removal_at db subject) name); tables = λ at table before is. absurd (omega arith) }

  -- so of those above the next table
  one_above : (place : ℕ) (changes : List Change) (table : TableNo) → OrderTold db subject order place changes → slice_get order place ≡ Some table
      → (edge : Edge) → Contains db.schema.edges edge → edge.lower ≡ table → (upper : RowName) → upper.table ≡ edge.upper → told changes upper ≡ removal_at db subject upper
  one_above place changes table so_far is edge among lower upper of =
      let own : (edge.lower.0 == table.0) ≡ true = eq-eqb edge.lower.0 table.0 (ap (λ (t : TableNo). t.0) lower) in
      let (at, before, there) = order_before (length db.schema.tables) db.schema.edges order graph edge place table (contains_filter (λ (e : Edge). e.lower.0 == table.0) db.schema.edges edge among own) is in
      so_far.tables at edge.upper before there upper of

  pub order-above : (place : ℕ) (changes : List Change) (table : TableNo) → OrderTold db subject order place changes → slice_get order place ≡ Some table → AboveTold db subject table changes
  order-above place changes table so_far is = record { above = λ edge among lower upper of. one_above place changes table so_far is edge among lower upper of }

  -- with the next table's they are those of one more
  pub order-more : (place : ℕ) (table : TableNo) (old new : List Change) → OrderTold db subject order place old → slice_get order place ≡ Some table
      → Tells (removal_at db subject) (IsOwnIn db subject table) old new → OrderTold db subject order (place + 1) new
  order-more place table old new so_far is tells = record {
    either = new_either;
    tables = λ at other before found name of. elim (cases_lt at place) [
      | inl earlier ↦ elim (tells.either name) [ inl same ↦ same ∙ so_far.tables at other earlier found name of | inr told_now ↦ told_now ]
      | inr from ↦
          let here : at ≡ place = omega arith in
          let one : ◌≡◌ {A = Option TableNo} (Some other) (Some table) = sym found ∙ (ap (slice_get order) here ∙ is) in
          let same : other ≡ table = cc in
          elim (owned_or_none name) [
            | inl own ↦ elim (tells.these name (record { of_table = of ∙ same; owned = own })) [ inl none ↦ nothing_told name none | inr told_now ↦ told_now ]
            | inr none ↦ nothing_told name none
          ]
    ];
  }
    where
      new_either : (name : RowName) → (told new name ≡ None) ⊎ (told new name ≡ removal_at db subject name)
      new_either name = elim (tells.either name) [
        | inl same ↦ elim (so_far.either name) [ inl none ↦ inl (same ∙ none) | inr told_before ↦ inr (same ∙ told_before) ]
        | inr told_now ↦ inr told_now
      ]

      nothing_told : (name : RowName) → removal_at db subject name ≡ None → told new name ≡ removal_at db subject name
      nothing_told name none = elim (new_either name) [ inl nothing ↦ nothing ∙ sym none | inr told_now ↦ told_now ]

  -- the table at the next place
  pub order-next : (place : ℕ) (table : TableNo) (old new : List Change) → place < length order → table ≡ get_or order place table → OrderTold db subject order place old
      → (AboveTold db subject table old → Tells (removal_at db subject) (IsOwnIn db subject table) old new) → OrderTold db subject order (place + 1) new
  order-next place table old new within next so_far tells =
      let is : slice_get order place ≡ Some table = slice_get_read order (length order) place table refl within next in
      order-more place table old new so_far is (tells (order-above place old table so_far is))

  -- at the end of all
  pub order-end : (place : ℕ) (changes : List Change) → OrderTold db subject order place changes → length order ≤ place → AreTold (removal_at db subject) changes
  order-end place changes so_far all = record { each = λ name. by name (slice_get db.schema.tables name.table.0) refl }
    where
      by : (name : RowName) (table : Option TableDef) → slice_get db.schema.tables name.table.0 ≡ table → told changes name ≡ removal_at db subject name
      by name None none = elim (so_far.either name) [ inl nothing ↦ nothing ∙ sym (none_there db subject name none) | inr told_now ↦ told_now ]
      by name (Some table) is =
          let (at, found) = order_has (length db.schema.tables) db.schema.edges order graph name.table (place-lt db.schema.tables name.table.0 table is) in
          so_far.tables at name.table (omega (arith, place-lt order at name.table found)) found name refl
