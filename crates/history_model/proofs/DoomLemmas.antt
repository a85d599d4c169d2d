-- A FORGET that dooms no transaction leaves the rows that it holds: it removes and changes none of them.
use Rattle.std.proofs.Common.{◌≡◌, ℕ, List, [], ◌∷◌, ◌++◌, Bool, true, false, not, refl, sym, subst, ◌∙◌}
use Rattle.std.specs.Prelude.{◌&&◌, ◌==◌, Option, None, Some, slice_get}
use Rattle.std.specs.List.{AllByRecursion, list_any}
use Rattle.std.proofs.lemmas.Bool.{and_left, or_from, or_parts}
use Rattle.own_base.specs.declared.number.TableNo.{TableNo}
use Rattle.own_base.specs.declared.row_name.RowName.{RowName}
use Rattle.own_base.specs.declared.value.Key.{Key}
use Rattle.own_model.specs.declared.footprint.FootItem.{FootItem}
use Rattle.own_model.specs.declared.history.Entry.{Entry}
use Rattle.own_model.specs.declared.reply.Reply.{Reply}
use Rattle.own_model.specs.declared.schema.TableDef.{TableDef}
use Rattle.own_model.specs.Db.{Db}
use Rattle.own_model.specs.Stored.{rows_at}
use Rattle.owner_model.specs.Joins.{row_of}
use Rattle.schema_model.proofs.Places.{all-weaker}
use Rattle.subject_model.specs.Forget.{changed, forget, removed}
use Rattle.subject_model.specs.Named.{is_name}
use Rattle.subject_model.proofs.ForgetSpared.{row_of-spared}
use Rattle.state_model.specs.Sound.{IsWellFormed}
use Rattle.state_model.proofs.CreatedSchema.{owner_schema-created}
use Rattle.state_model.proofs.NetRows.{named_at}
use Rattle.state_model.proofs.PutRows.{rising_at}
use Rattle.run_model.specs.Agree.{Agree, AgreeOn, lies_on}
use Rattle.run_model.proofs.TableRows.{no_rows}
use Rattle.history_model.specs.History.{dooms, forgotten, lie_on}
use Rattle.history_model.specs.Reply.{is_refusal}
use Rattle.history_model.specs.World.{World}
use Rattle.history_model.proofs.AgreeLemmas.{each_of}
use Rattle.history_model.proofs.RowsByKey.{rows_by_key}

module _ {X Y : Type 0} (test : X → Y → Bool) where
  no_first : (x : X) (xs : List X) (ys : List Y) → list_any (test x) ys ≡ false → AllByRecursion (λ y. list_any (λ x. test x y) xs ≡ false) ys
      → AllByRecursion (λ y. list_any (λ x. test x y) (x ∷ xs) ≡ false) ys
  no_first x xs [] none more = tt
  no_first x xs (y ∷ ys) none more =
      let both = or_parts _ _ none in
      (or_from _ _ both.0 more.0, no_first x xs ys both.1 more.1)

  -- where no two of two lists pass together, each of the second passes with none of the first
  none_together : (xs : List X) (ys : List Y) → list_any (λ x. list_any (test x) ys) xs ≡ false → AllByRecursion (λ y. list_any (λ x. test x y) xs ≡ false) ys
  none_together [] ys none = each_of (λ y. list_any (λ x. test x y) [] ≡ false) (λ y. refl) ys
  none_together (x ∷ xs) ys none =
      let both = or_parts _ _ none in
      no_first x xs ys both.0 (none_together xs ys both.1)

-- a weaker test passes none either
none_weaker : {X : Type 0} (test weaker : X → Bool) → ((x : X) → test x ≡ false → weaker x ≡ false) → (xs : List X) → list_any test xs ≡ false
    → list_any weaker xs ≡ false
none_weaker test weaker so [] none = refl
none_weaker test weaker so (x ∷ xs) none =
    let both = or_parts _ _ none in
    or_from _ _ (so x both.0) (none_weaker test weaker so xs both.1)

and-true : (b : Bool) → (b && true) ≡ false → b ≡ false
and-true true is = is
and-true false is = refl

module _ (db : Db) (subject : RowName) (kept : IsWellFormed db) (kept_left : IsWellFormed (forget db subject)) where
  schema_left : db.schema ≡ (forget db subject).schema
  unfolding forget
  schema_left = refl

  abbrev left : Db
  left = forget db subject

  abbrev struck : List RowName
  struck = removed db subject ++ changed db subject

  -- the row of a name that is neither removed nor changed
  unchanged : (name : RowName) → list_any (is_name name) struck ≡ false → row_of left name ≡ row_of db name
  unchanged name none = row_of-spared db subject name kept.ordered (owner_schema-created db kept.created) none

  -- the rows of a table of which none is removed or changed
  table_left : (table : TableNo) → list_any (λ (name : RowName). (table.0 == name.table.0) && true) struck ≡ false
      → (found : Option TableDef) → slice_get db.schema.tables table.0 ≡ found → rows_at db.rows table.0 ≡ rows_at left.rows table.0
  table_left table none None is =
      let is_left : slice_get left.schema.tables table.0 ≡ None = subst (λ schema. slice_get schema.tables table.0 ≡ None) schema_left is in
      no_rows db.schema.tables db.rows table.0 kept.ordered.rising is ∙ sym (no_rows left.schema.tables left.rows table.0 kept_left.ordered.rising is_left)
  table_left table none (Some definition) is =
      let is_left : slice_get left.schema.tables table.0 ≡ Some definition = subst (λ schema. slice_get schema.tables table.0 ≡ Some definition) schema_left is in
      let name : Key → RowName = λ key. record { table = table; key = key } in
      let own : (key : Key) → list_any (is_name (name key)) struck ≡ false =
      λ key. none_weaker _ (is_name (name key)) (λ other is. and_left _ _ (and-true _ is)) struck none in
      rows_by_key definition (rows_at db.rows table.0) (rows_at left.rows table.0)
      (rising_at db.schema.tables db.rows table.0 definition kept.ordered.rising is)
      (rising_at left.schema.tables left.rows table.0 definition kept_left.ordered.rising is_left)
      (λ key. sym (named_at db (name key) definition is) ∙ (sym (unchanged (name key) (own key)) ∙ named_at left (name key) definition is_left))

  item_left : (table : TableNo) (key : Option Key) (write : Bool) → list_any (λ name. lies_on name (record { table = table; key = key; write = write })) struck ≡ false
      → AgreeOn db left (record { table = table; key = key; write = write })
  item_left table None write none = table_left table none _ refl
  item_left table (Some key) write none = sym (unchanged (record { table = table; key = key }) none)

  -- the rows of items on which none lies that is removed or changed
  pub agree-undoomed : (items : List FootItem) → lie_on (removed db subject ++ changed db subject) items ≡ false → Agree items db (forget db subject)
  agree-undoomed items none = record {
    schema = schema_left;
    on = all-weaker (λ item. list_any (λ name. lies_on name item) struck ≡ false) (AgreeOn db left) (λ item. item_left item.table item.key item.write) items (none_together lies_on struck items none);
  }

-- A request that forgets no one dooms no transaction,
pub undoomed : (world : World) (entry : Entry) (reply : Reply) (session : ℕ) → forgotten world.flat.schema entry.request ≡ None → dooms world entry reply session ≡ false
unfolding dooms
undoomed world entry reply session none = rw none (by (not (is_refusal reply)))
  where
    by : (b : Bool) → (b && false) ≡ false
    by true = refl
    by false = refl

-- nor does one that is refused.
pub refused-dooms : (world : World) (entry : Entry) (reply : Reply) (session : ℕ) → is_refusal reply ≡ true → dooms world entry reply session ≡ false
unfolding dooms
refused-dooms world entry reply session refused = rw refused refl
