-- The net of the changes that a write of one table makes is read off them.
use Rattle.std.proofs.Common.{◌≡◌, refl, sym, ◌∙◌, ap, subst, ℕ, zero, suc, ◌+◌, ◌<◌, List, [], ◌∷◌, ◌++◌, map, append-nil, filter_map, arith}
use Rattle.std.specs.Prelude.{Bool, true, false, Some, filter, if◌then◌else◌, not, slice_get}
use Rattle.std.specs.List.{AllByRecursion as Each, cons_option}
use Rattle.std.specs.List.Sorted.{IsStrictlySortedBy}
use Rattle.std.proofs.lemmas.Bool.{eq-eqb, ne_eqb}
use Rattle.own_base.specs.Key.{key_cmp}
use Rattle.own_base.specs.declared.change.Change.{Change}
use Rattle.own_base.specs.declared.number.TableNo.{TableNo}
use Rattle.own_model.specs.declared.schema.TableDef.{TableDef}
use Rattle.own_model.specs.Db.{AreRising, Db, Row, key_of}
use Rattle.own_model.specs.Stored.{row_named, rows_at}
use Rattle.page_model.specs.Changed.{AreKeyed, with_changes}
use Rattle.page_model.specs.Found.{found}
use Rattle.page_model.specs.Rising.{IsRising}
use Rattle.page_model.proofs.ChangedLemmas.{filter_all, filter_none}
use Rattle.page_model.proofs.InOrder.{few_rise}
use Rattle.state_model.specs.Net.{change_unless_same, net, net_from, net_in}
use Rattle.state_model.specs.Put.{changed_key, is_of_table, put, put_from, row_after, rows_put}
use Rattle.state_model.specs.Same.{is_same_state}
use Rattle.state_model.proofs.PutRows.{named_in}
use Rattle.txn_space.specs.Changed.{rows_with}
use Rattle.txn_space.specs.Differs.{differs}
use Rattle.txn_space.specs.Entries.{entry_key, entry_of, entry_row}
use Rattle.txn_space.proofs.NetLemmas.{change_in, table_net}
use Rattle.txn_space.proofs.OverLemmas.{from_none}

-- the entries that changes put have their keys
entry_keys : (changes : List Change) → map entry_key (map entry_of changes) ≡ map changed_key changes
entry_keys [] = refl
entry_keys (change ∷ changes) = ap (λ keys. changed_key change ∷ keys) (entry_keys changes)

rising_entries : (changes : List Change) → IsRising changed_key key_cmp changes → IsRising entry_key key_cmp (map entry_of changes)
rising_entries changes rising = subst (IsStrictlySortedBy key_cmp) (sym (entry_keys changes)) rising

module _ (table : TableDef) where
  keyed_entries : (changes : List Change) → AreKeyed (key_of table) changed_key row_after changes → AreKeyed (key_of table) entry_key entry_row (map entry_of changes)
  keyed_entries [] keyed = tt
  keyed_entries (change ∷ changes) keyed = (keyed.0, keyed_entries changes keyed.1)

  -- and they put the rows of the changes
  rows_put_by : (changes : List Change) (rows : List Row) → rows_with table (map entry_of changes) rows ≡ with_changes (key_of table) key_cmp changed_key row_after changes rows
  unfolding with_changes
  rows_put_by [] rows = refl
  rows_put_by (change ∷ changes) rows = rows_put_by changes _

  -- nothing becomes of rows that stay
  none_changed : (number : ℕ) (rows : List Row) → net_in number table rows rows ≡ []
  unfolding with_changes
  none_changed number rows = table_net number table rows [] (few_rise key_cmp [] (omega arith)) tt

-- what a change says of a table's rows: it is of that table, and tells the row that stands there
abbrev pub Tells : TableNo → TableDef → List Row → Change → Type 0
Tells number table rows change = (change.name.table ≡ number) × (change.before ≡ found (key_of table) key_cmp change.name.key rows)

module _ (number : TableNo) (table : TableDef) (rows : List Row) where
  -- what becomes of the row of an entry is the change that put it, where that is of the net
  of_net : (change : Change) → Tells number table rows change → (b : Bool) → is_same_state change.before change.after ≡ b → (rest : List Change)
      → cons_option (change_in number.0 table rows (entry_of change)) rest ≡ (if not b then change ∷ rest else rest)
  of_net change tells b is rest =
      ap (λ (n : TableNo). cons_option (change_unless_same (record { table = n; key = change.name.key }) (found (key_of table) key_cmp change.name.key rows) change.after) rest) (sym tells.0)
      ∙ (ap (λ before. cons_option (change_unless_same change.name before change.after) rest) (sym tells.1)
      ∙ by b is)
    where
      by : (b : Bool) → is_same_state change.before change.after ≡ b → cons_option (change_unless_same change.name change.before change.after) rest ≡ (if not b then change ∷ rest else rest)
      by true is = rw is refl
      by false is = rw is refl

  net_read : (changes : List Change) → Each (Tells number table rows) changes → filter_map (change_in number.0 table rows) (map entry_of changes) ≡ filter differs changes
  net_read [] tells = refl
  net_read (change ∷ changes) tells =
      of_net change tells.0 (is_same_state change.before change.after) refl (filter_map (change_in number.0 table rows) (map entry_of changes))
      ∙ ap (λ rest. if differs change then change ∷ rest else rest) (net_read changes tells.1)

module _ (number : TableNo) (changes : List Change) (of : Each (λ change. change.name.table ≡ number) changes) where
  -- the changes of its table are all, and those of another none
  own : (changes : List Change) → Each (λ change. change.name.table ≡ number) changes → Each (λ change. is_of_table number.0 change ≡ true) changes
  own [] of = tt
  own (change ∷ changes) of = (eq-eqb change.name.table.0 number.0 (ap (λ (n : TableNo). n.0) of.0), own changes of.1)

  others : (other : ℕ) → (number.0 ≡ other → ⊥) → (changes : List Change) → Each (λ change. change.name.table ≡ number) changes → Each (λ change. is_of_table other change ≡ false) changes
  others other apart [] of = tt
  others other apart (change ∷ changes) of =
      (ne_eqb change.name.table.0 other (λ here. apart (sym (ap (λ (n : TableNo). n.0) of.0) ∙ here)), others other apart changes of.1)

  own_changes : filter (is_of_table number.0) changes ≡ changes
  own_changes = filter_all (is_of_table number.0) changes (own changes of)

  other_changes : (other : ℕ) → (number.0 ≡ other → ⊥) → filter (is_of_table other) changes ≡ []
  other_changes other apart = filter_none (is_of_table other) changes (others other apart changes of)

  -- a table of another number stays
  other_net : (other : ℕ) (table : TableDef) (rows : List Row) → (number.0 ≡ other → ⊥) → net_in other table rows (rows_put other table changes rows) ≡ []
  unfolding with_changes
  other_net other table rows apart =
      ap (λ own. net_in other table rows (with_changes (key_of table) key_cmp changed_key row_after own rows)) (other_changes other apart) ∙ none_changed table other rows

  -- and so do all that come after it
  nets_after : (first : ℕ) (tables : List TableDef) (befores : List (List Row)) → number.0 < first → net_from first tables befores (put_from first tables changes befores) ≡ []
  unfolding net_from put_from
  nets_after first [] befores past = refl
  nets_after first (table ∷ tables) [] past = refl
  nets_after first (table ∷ tables) (rows ∷ befores) past =
      ap (λ firsts. firsts ++ net_from (first + 1) tables befores (put_from (first + 1) tables changes befores)) (other_net first table rows (λ here. absurd (omega arith)))
      ∙ nets_after (first + 1) tables befores (omega arith)

  module _ (table : TableDef) (rising : IsRising changed_key key_cmp changes) (keyed : AreKeyed (key_of table) changed_key row_after changes) where
    own_net : (rows : List Row) → Each (Tells number table rows) changes → net_in number.0 table rows (rows_put number.0 table changes rows) ≡ filter differs changes
    own_net rows tells =
        ap (λ own. net_in number.0 table rows (with_changes (key_of table) key_cmp changed_key row_after own rows)) own_changes
        ∙ (ap (net_in number.0 table rows) (sym (rows_put_by table changes rows))
        ∙ (table_net number.0 table rows (map entry_of changes) (rising_entries changes rising) (keyed_entries table changes keyed)
        ∙ net_read number table rows changes tells))

    nets_from : (place first : ℕ) (tables : List TableDef) (befores : List (List Row)) → first + place ≡ number.0 → slice_get tables place ≡ Some table → AreRising tables befores
        → Each (Tells number table (rows_at befores place)) changes
        → net_from first tables befores (put_from first tables changes befores) ≡ filter differs changes
    unfolding net_from put_from
    nets_from place first [] befores here there rises tells = cc
    nets_from place first (other ∷ tables) [] here there rises tells = absurd rises
    nets_from zero first (other ∷ tables) (rows ∷ befores) here there rises tells =
        let this : other ≡ table = cc in
        let number_is : first ≡ number.0 = omega (arith, here) in
        ap (λ firsts. firsts ++ net_from (first + 1) tables befores (put_from (first + 1) tables changes befores))
        (ap (λ n. net_in n other rows (rows_put n other changes rows)) number_is ∙ (ap (λ t. net_in number.0 t rows (rows_put number.0 t changes rows)) this ∙ own_net rows tells))
        ∙ (ap (λ rest. filter differs changes ++ rest) (nets_after (first + 1) tables befores (omega (arith, here))) ∙ append-nil (filter differs changes))
    nets_from (suc place) first (other ∷ tables) (rows ∷ befores) here there rises tells =
        ap (λ firsts. firsts ++ net_from (first + 1) tables befores (put_from (first + 1) tables changes befores)) (other_net first other rows (λ is. absurd (omega (arith, here, is))))
        ∙ nets_from place (first + 1) tables befores (omega (arith, here)) there rises.1 tells

  -- The net of the write: its changes without those after which a row is as it was.
  pub write_net : (db : Db) (table : TableDef) → slice_get db.schema.tables number.0 ≡ Some table → AreRising db.schema.tables db.rows
      → IsRising changed_key key_cmp changes → AreKeyed (key_of table) changed_key row_after changes → Each (λ change. change.before ≡ row_named db.schema db.rows change.name) changes
      → net db (put db changes) ≡ filter differs changes
  unfolding net
  write_net db table there rises rising keyed befores =
      nets_from table rising keyed number.0 0 db.schema.tables db.rows (from_none number.0) there rises (told changes of befores)
    where
      told : (changes : List Change) → Each (λ change. change.name.table ≡ number) changes → Each (λ change. change.before ≡ row_named db.schema db.rows change.name) changes → Each (Tells number table (rows_at db.rows number.0)) changes
      told [] of befores = tt
      told (change ∷ changes) of befores =
          let here : slice_get db.schema.tables change.name.table.0 ≡ Some table = ap (λ (n : TableNo). slice_get db.schema.tables n.0) of.0 ∙ there in (
            (of.0, befores.0 ∙ (named_in db.schema db.rows change.name table here ∙ ap (λ (n : TableNo). found (key_of table) key_cmp change.name.key (rows_at db.rows n.0)) of.0)),
            told changes of.1 befores.1,
          )
