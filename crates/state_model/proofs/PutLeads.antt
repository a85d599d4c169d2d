-- Changes that lead from one database to another give the other where they are put into the one.
use Rattle.std.proofs.Common.{◌≡◌, ℕ, suc, ◌+◌, List, [], ◌∷◌, Bool, true, false, cond, refl, sym, ap, ◌∙◌, subst, eqb-true, arith}
use Rattle.std.specs.Prelude.{◌==◌, Option, None, Some, filter, find, slice_get}
use Rattle.std.specs.List.{AllByRecursion as Each, list_any}
use Rattle.std.specs.Option.{option_map_or}
use Rattle.std.proofs.lemmas.Bool.{and_from}
use Rattle.own_base.specs.Key.{key_cmp}
use Rattle.own_base.specs.declared.change.Change.{Change}
use Rattle.own_base.specs.declared.row_name.RowName.{RowName}
use Rattle.own_base.specs.declared.value.Key.{Key}
use Rattle.own_model.specs.declared.schema.Schema.{Schema}
use Rattle.own_model.specs.declared.schema.TableDef.{TableDef}
use Rattle.own_model.specs.Db.{AreRising, Db, IsOrdered, Row, key_of}
use Rattle.own_model.specs.Stored.{is_equal, row_named, rows_at}
use Rattle.own_model.proofs.KeyOrder.{key_order}
use Rattle.owner_model.specs.Joins.{row_of}
use Rattle.page_model.specs.Changed.{AreKeyed}
use Rattle.page_model.specs.Found.{found}
use Rattle.page_model.proofs.ChangedLemmas.{rising_with_changes}
use Rattle.page_model.proofs.FoundChanged.{found_with_changes}
use Rattle.page_model.proofs.InOrder.{is_of}
use Rattle.page_model.proofs.RisingLemmas.{each_weaker}
use Rattle.page_model.proofs.SameFound.{same_found}
use Rattle.subject_model.specs.Named.{is_name}
use Rattle.subject_model.proofs.NamedLemmas.{one_name}
use Rattle.state_model.specs.ChangeOf.{TellsRows}
use Rattle.state_model.specs.LeadTo.{LeadTo}
use Rattle.state_model.specs.Put.{changed_key, is_of_table, put_from, put_rows, row_after, rows_put}
use Rattle.state_model.proofs.PutRows.{equal_is, found_passing, named_in, rising_at, row_keyed}

-- the changes of a table put rows of their keys
tells_keyed : (schema : Schema) (afters : List (List Row)) (number : ℕ) (table : TableDef) (changes : List Change) → slice_get schema.tables number ≡ Some table
    → Each (λ change. change.after ≡ row_named schema afters change.name) changes → AreKeyed (key_of table) changed_key row_after (filter (is_of_table number) changes)
tells_keyed schema afters number table [] at all = tt
tells_keyed schema afters number table (change ∷ changes) at all = by (tells_keyed schema afters number table changes at all.1) (is_of_table number change) refl
  where
    by : AreKeyed (key_of table) changed_key row_after (filter (is_of_table number) changes) → (b : Bool) → is_of_table number change ≡ b
        → AreKeyed (key_of table) changed_key row_after (cond b (change ∷ filter (is_of_table number) changes) (filter (is_of_table number) changes))
    by more true of = (row_keyed schema afters table change.name change.after (ap (slice_get schema.tables) (eqb-true change.name.table.0 number of) ∙ at) all.0, more)
    by more false other = more

module _ (before : Db) (afters : List (List Row)) (rise : AreRising before.schema.tables before.rows) (rises : AreRising before.schema.tables afters)
    (changes : List Change) (lead : LeadTo before (record before { rows = afters }) changes)
    (n : ℕ) (table : TableDef) (at : slice_get before.schema.tables n ≡ Some table) where
  -- those of the table
  abbrev own : List Change
  own = filter (is_of_table n) changes

  abbrev named : Key → RowName
  named key = record { table = record { 0 = n }; key = key }

  keyed : AreKeyed (key_of table) changed_key row_after own
  keyed = tells_keyed before.schema afters n table changes at (each_weaker _ _ (λ change tells. tells.is) changes lead.each)

  -- a key that none of them has is that of no change's name
  unnamed : (key : Key) (cs : List Change) → find (is_of key_cmp changed_key key) (filter (is_of_table n) cs) ≡ None
      → list_any (λ change. is_name change.name (named key)) cs ≡ false
  unnamed key [] none = refl
  unnamed key (change ∷ cs) none = by (unnamed key cs) (is_of_table n change) (is_of key_cmp changed_key key change) refl refl none
    where
      by : (find (is_of key_cmp changed_key key) (filter (is_of_table n) cs) ≡ None → list_any (λ change. is_name change.name (named key)) cs ≡ false)
          → (b c : Bool) → is_of_table n change ≡ b → is_of key_cmp changed_key key change ≡ c
          → find (is_of key_cmp changed_key key) (cond b (change ∷ filter (is_of_table n) cs) (filter (is_of_table n) cs)) ≡ None
          → list_any (λ change. is_name change.name (named key)) (change ∷ cs) ≡ false
      by more true true of has none =
          let found : find (is_of key_cmp changed_key key) (change ∷ filter (is_of_table n) cs) ≡ Some change = rw has refl in
          let never : None ≡ Some change = sym none ∙ found in absurd (cc)
      by more true false of has none =
          let rest : find (is_of key_cmp changed_key key) (filter (is_of_table n) cs) ≡ None = rw has at none in
          let other : is_equal (key_cmp change.name.key key) ≡ false = sym (equal_is (key_cmp change.name.key key)) ∙ has in
          rw (of, other) (more rest)
      by more false c of has none = rw of (more none)

  -- under each key stands afterwards what the changes lead to
  found_same : (key : Key) → found (key_of table) key_cmp key (rows_put n table changes (rows_at before.rows n)) ≡ found (key_of table) key_cmp key (rows_at afters n)
  found_same key =
      found_with_changes (key_of table) key_order changed_key row_after key own (rows_at before.rows n) keyed (lead.once n) ∙ by (find (is_of key_cmp changed_key key) own) refl
    where
      by : (o : Option Change) → find (is_of key_cmp changed_key key) own ≡ o
          → option_map_or row_after o (found (key_of table) key_cmp key (rows_at before.rows n)) ≡ found (key_of table) key_cmp key (rows_at afters n)
      by None none =
          sym (named_in before.schema before.rows (named key) table at) ∙ (lead.others (named key) (unnamed key changes none) ∙ named_in before.schema afters (named key) table at)
      by (Some change) is =
          let has = found_passing (TellsRows before (record before { rows = afters })) (is_of key_cmp changed_key key) (is_of_table n) changes lead.each change is in
          let tied : is_equal (key_cmp change.name.key key) ≡ true = sym (equal_is (key_cmp change.name.key key)) ∙ has.0 in
          let name : change.name ≡ named key = one_name change.name (named key) (and_from (change.name.table.0 == n) (is_equal (key_cmp change.name.key key)) has.1 tied) in
          has.2.is ∙ (ap (row_named before.schema afters) name ∙ named_in before.schema afters (named key) table at)

  -- so the rows of the table are those
  put_at : rows_put n table changes (rows_at before.rows n) ≡ rows_at afters n
  put_at =
      same_found (key_of table) key_order (rows_put n table changes (rows_at before.rows n)) (rows_at afters n)
      (rising_with_changes (key_of table) key_order changed_key row_after own (rows_at before.rows n) keyed (rising_at before.schema.tables before.rows n table rise at))
      (rising_at before.schema.tables afters n table rises at) found_same

-- and those of all tables, where it is so of each
put_each : (number : ℕ) (tables : List TableDef) (rows afters : List (List Row)) (changes : List Change) → AreRising tables rows → AreRising tables afters
    → ((place : ℕ) (table : TableDef) → slice_get tables place ≡ Some table → rows_put (number + place) table changes (rows_at rows place) ≡ rows_at afters place)
    → put_from number tables changes rows ≡ afters
unfolding put_from
put_each number [] [] [] changes rise rises each = refl
put_each number [] [] (after ∷ afters) changes rise rises each = absurd rises
put_each number [] (one ∷ rows) afters changes rise rises each = absurd rise
put_each number (table ∷ tables) [] afters changes rise rises each = absurd rise
put_each number (table ∷ tables) (one ∷ rows) [] changes rise rises each = absurd rises
put_each number (table ∷ tables) (one ∷ rows) (after ∷ afters) changes rise rises each =
    let same : number + 0 ≡ number = omega arith in
    let here : rows_put number table changes one ≡ after = subst (λ n. rows_put n table changes one ≡ after) same (each 0 table refl) in
    let rest = put_each (number + 1) tables rows afters changes rise.1 rises.1
    (λ place other is.
    let next : number + suc place ≡ number + 1 + place = omega arith in
    subst (λ n. rows_put n other changes (rows_at rows place) ≡ rows_at afters place) next (each (suc place) other is)) in
    ap (λ xs. xs ∷ put_from (number + 1) tables changes rows) here ∙ ap (λ rest. after ∷ rest) rest

pub put_leads_to : (before : Db) (afters : List (List Row)) (changes : List Change) → AreRising before.schema.tables before.rows → AreRising before.schema.tables afters
    → LeadTo before (record before { rows = afters }) changes → put_rows before.schema.tables changes before.rows ≡ afters
put_leads_to before afters changes rise rises lead =
    put_each 0 before.schema.tables before.rows afters changes rise rises
    (λ place table is.
    let none : place ≡ 0 + place = omega arith in
    subst (λ n. rows_put n table changes (rows_at before.rows place) ≡ rows_at afters place) none (put_at before afters rise rises changes lead place table is))

module _ (before after : Db) (schema : after.schema ≡ before.schema) (changes : List Change) where
  -- the row of a name is told by the schema and the rows alone
  named_same : (name : RowName) → row_of after name ≡ row_named before.schema after.rows name
  named_same name = ap (λ (schema : Schema). row_named schema after.rows name) schema

  lead_rows : LeadTo before after changes → LeadTo before (record before { rows = after.rows }) changes
  lead_rows lead = record {
    each = each_weaker _ _ (λ change tells. record { was = tells.was; is = tells.is ∙ named_same change.name }) changes lead.each;
    once = lead.once;
    others = λ name none. lead.others name none ∙ named_same name;
  }

  pub put_leads : IsOrdered before → IsOrdered after → LeadTo before after changes → put_rows before.schema.tables changes before.rows ≡ after.rows
  put_leads ordered_before ordered_after lead =
      put_leads_to before after.rows changes ordered_before.rising (subst (λ (schema : Schema). AreRising schema.tables after.rows) schema ordered_after.rising) (lead_rows lead)
