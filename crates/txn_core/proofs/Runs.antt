-- What a statement in a transaction comes to.
use Rattle.std.proofs.Common.{◌≡◌, ◌∙◌, ◌==◌, ℕ, List, [], ◌∷◌, Bool, true, false, Option, None, Some, ap, arith, filter, inl, inr, refl, subst, sym}
use Rattle.std.specs.Prelude.{◌⊎◌, find, is_some}
use Rattle.std.specs.List.{AllByRecursion as Each, list_any}
use Rattle.std.specs.Option.{option_map_or}
use Rattle.std.proofs.lemmas.Bool.{and_from}
use Rattle.own_base.specs.Key.{key_cmp}
use Rattle.own_base.specs.declared.change.Change.{Change}
use Rattle.own_base.specs.declared.row_name.RowName.{RowName}
use Rattle.own_model.specs.declared.bound.Bound.{Bound}
use Rattle.own_model.specs.declared.bound.Bound.TheVariants.{Delete, Explain, Forget, Get, Insert, Select, Update}
use Rattle.own_model.specs.declared.bound.BoundSelect.{BoundSelect}
use Rattle.own_model.specs.declared.footprint.FootItem.{FootItem}
use Rattle.own_model.specs.declared.refusal.Refusal.{Refusal}
use Rattle.own_model.specs.declared.reply.Reply.{Reply}
use Rattle.own_model.specs.declared.reply.Reply.TheVariants.{Refused}
use Rattle.own_model.specs.declared.schema.Schema.{Schema}
use Rattle.own_model.specs.Db.{AreRising, Db, IsOrdered, Row}
use Rattle.own_model.specs.Stored.{is_equal}
use Rattle.own_model.proofs.KeyOrder.{key_order}
use Rattle.owner_model.specs.Joins.{row_of}
use Rattle.page_model.specs.Changed.{AreKeyed}
use Rattle.page_model.specs.Found.{found}
use Rattle.page_model.proofs.FoundChanged.{found_with_changes}
use Rattle.page_model.proofs.InOrder.{is_of}
use Rattle.query_model.specs.Footprints.{footprint_of, item}
use Rattle.query_model.specs.Query.{query_rows, reply_of}
use Rattle.state_model.specs.MayBePut.{IsPutIn, KeysDiffer, MayBePut}
use Rattle.state_model.specs.Put.{changed_key, is_of_table, put_rows}
use Rattle.state_model.specs.Rows.{AreRowsOf}
use Rattle.state_model.specs.Same.{is_same_state}
use Rattle.state_model.proofs.NetLeads.{net_may, net_put}
use Rattle.state_model.proofs.PutRows.{equal_is}
use Rattle.state_model.proofs.SameLemmas.{state_same}
use Rattle.state_model.proofs.StoredRows.{all_stored}
use Rattle.query_eval.specs.Tables.{AreTables}
use Rattle.run_model.specs.Agree.{AgreeOn, overlaps}
use Rattle.run_model.specs.Run.{run_bound}
use Rattle.run_model.proofs.BoundFootprints.{IsFootprinted, still-run_bound}
use Rattle.run_model.proofs.FoundRows.{found_has}
use Rattle.run_model.proofs.Refusals.{refused-bound}
use Rattle.run_model.proofs.TableRows.{AreInPlace}
use Rattle.subject_model.proofs.NamedLemmas.{one_name}
use Rattle.txn_space.specs.declared.entry.Entry.{Entry}
use Rattle.txn_space.specs.Changed.{changed_db, changed_rows}
use Rattle.txn_space.specs.Entries.{entries_at, entry_key, entry_of}
use Rattle.txn_space.specs.HasPut.{entries_put}
use Rattle.txn_space.specs.Sound.{IsBase, IsSpaceOf}
use Rattle.txn_space.proofs.OverLemmas.{changed_rise}
use Rattle.write_eval.specs.Write.{IsWrite}
use Rattle.write_eval.proofs.Kept.{each_passing}
use Rattle.write_eval.proofs.Replacements.{keyless_sets}
use Rattle.txn_core.specs.Runs.{HasRun, IsRowStatement, IsSelect, IsStore, is_entered, is_written}
use Rattle.txn_core.specs.Single.{NetTo}
use Rattle.txn_core.proofs.NetNames.{IsOfOther, net_others}
use Rattle.txn_core.proofs.OrderedWrites.{ordered-write}

-- rows that transactions may stand on, as one of them changed them
module _ (db : Db) (space : List (List Entry)) (store : IsStore db) (sound : IsSpaceOf db.schema.tables space) where
  pub small : IsBase db.schema.tables db.rows
  small = record { rising = store.rising; few = λ number. let few = store.few number in omega arith }

  pub changed_rising : AreRising db.schema.tables (changed_rows db.schema.tables db.rows space)
  changed_rising = changed_rise db.schema.tables db.rows space small sound

  -- a select may read them
  pub changed_tables : AreRowsOf db.schema.tables (changed_rows db.schema.tables db.rows space) → AreTables db.schema (changed_rows db.schema.tables db.rows space)
  changed_tables are = record { rising = changed_rising; stored = all_stored db.schema.tables (changed_rows db.schema.tables db.rows space) are }

-- a statement of rows has a footprint
pub row_footprinted : (schema : Schema) (bound : Bound) → IsRowStatement schema bound → IsFootprinted schema bound
row_footprinted schema (Select query) is = tt
row_footprinted schema (Insert table tuples) is = tt
row_footprinted schema (Update table sets cond) is = λ definition at. keyless_sets schema table definition sets at is.1
row_footprinted schema (Delete table cond) is = tt
row_footprinted schema (Get subject) is = absurd is
row_footprinted schema (Forget subject) is = absurd is
row_footprinted schema Explain is = absurd is

-- changes of rows that differ, put into the entries of a transaction
module _ (seen left : Db) (items : List FootItem) (before after : List (List Entry)) (changes : List Change)
    (still : (other : FootItem) → list_any (λ own. overlaps own other) items ≡ false → AgreeOn seen left other) (others : Each (IsOfOther seen left) changes)
    (once : (number : ℕ) → KeysDiffer (filter (is_of_table number) changes)) (puts : (number : ℕ) → entries_at after number ≡ entries_put number changes (entries_at before number))
    (name : RowName) where
  abbrev own : List Change
  own = filter (is_of_table name.table.0) changes

  keyed : (some : List Change) → AreKeyed entry_key changed_key (λ change. Some (entry_of change)) some
  keyed [] = tt
  keyed (change ∷ some) = (refl, keyed some)

  -- an entry of the name is that of its change, or was there
  looked : found entry_key key_cmp name.key (entries_at after name.table.0)
      ≡ option_map_or (λ change. Some (entry_of change)) (find (is_of key_cmp changed_key name.key) own) (found entry_key key_cmp name.key (entries_at before name.table.0))
  looked =
      ap (found entry_key key_cmp name.key) (puts name.table.0)
      ∙ found_with_changes entry_key key_order changed_key (λ change. Some (entry_of change)) name.key own (entries_at before name.table.0) (keyed own) (once name.table.0)

  -- a change of a row that differs is of a row that is written
  written : (change : Change) → find (is_of key_cmp changed_key name.key) own ≡ Some change → (b : Bool) → is_written items name ≡ b → is_written items name ≡ true
  written change is true meets = meets
  written change is false none =
      let each_own = each_passing (IsOfOther seen left) (is_of_table name.table.0) changes others in
      let has = found_has (is_of key_cmp changed_key name.key) (λ change. IsOfOther seen left change × (is_of_table name.table.0 change ≡ true)) own each_own change is in
      let tied : is_equal (key_cmp change.name.key name.key) ≡ true = sym (equal_is (key_cmp change.name.key name.key)) ∙ has.0 in
      let one : change.name ≡ name = one_name change.name name (and_from (change.name.table.0 == name.table.0) (is_equal (key_cmp change.name.key name.key)) has.1.1 tied) in
      let agree : row_of seen name ≡ row_of left name = still (item name.table (Some name.key) false) none in
      let differ : is_same_state (row_of seen name) (row_of left name) ≡ false = subst (λ name. is_same_state (row_of seen name) (row_of left name) ≡ false) one has.1.0 in
      let never : true ≡ false = sym (state_same (row_of left name)) ∙ (ap (λ row. is_same_state row (row_of left name)) (sym agree) ∙ differ) in
      absurd (cc)

  by : (change : Option Change) → find (is_of key_cmp changed_key name.key) own ≡ change
      → is_some (option_map_or (λ change. Some (entry_of change)) change (found entry_key key_cmp name.key (entries_at before name.table.0))) ≡ true
      → (is_entered before name ≡ true) ⊎ (is_written items name ≡ true)
  by None none entered = inl entered
  by (Some change) is entered = inr (written change is (is_written items name) refl)

  -- so no further row is entered but one that is written
  pub within_put : is_entered after name ≡ true → (is_entered before name ≡ true) ⊎ (is_written items name ≡ true)
  within_put entered = by (find (is_of key_cmp changed_key name.key) own) refl (ap is_some (sym looked) ∙ entered)

-- A statement in a transaction
module _ (db : Db) (space : List (List Entry)) (store : IsStore db) (sound : IsSpaceOf db.schema.tables space)
    (are : AreRowsOf db.schema.tables (changed_rows db.schema.tables db.rows space)) where
  abbrev seen : Db
  seen = changed_db db space

  place : AreInPlace seen
  place = record { ordered = record { rising = changed_rising db space store sound }; rows = are }

  -- that shows rows
  pub has_read : (query : BoundSelect) (reply : Reply) → reply ≡ reply_of (query_rows db.schema (changed_rows db.schema.tables db.rows space) query) → HasRun db (Select query) space reply space
  unfolding run_bound
  has_read query reply is = record { told = sym is; rows = refl; sound = sound; within = λ name entered. inl entered; reads = λ select. refl }

  -- that is refused as it runs
  pub has_refused : (bound : Bound) (why : Refusal) → IsWrite db.schema bound → (run_bound seen bound).reply ≡ Refused why → HasRun db bound space (Refused why) space
  has_refused bound why write told = record {
    told = told;
    rows = ap (λ (db : Db). db.rows) (sym (refused-bound seen bound why told));
    sound = sound;
    within = λ name entered. inl entered;
    reads = λ select. refl;
  }

  no_select : (bound : Bound) → IsWrite db.schema bound → IsSelect bound → ⊥
  no_select (Select query) write select = write
  no_select bound write select = select

  row_write : (bound : Bound) → IsWrite db.schema bound → IsRowStatement db.schema bound
  row_write (Select query) write = absurd write
  row_write (Insert table tuples) write = write
  row_write (Update table sets cond) write = write
  row_write (Delete table cond) write = write
  row_write (Get subject) write = absurd write
  row_write (Forget subject) write = absurd write
  row_write Explain write = absurd write

  -- The net of a write may be put, and gives what the write leaves.
  module _ (bound : Bound) (reply : Reply) (changes : List Change) (write : IsWrite db.schema bound) (net : NetTo seen (run_bound seen bound) reply changes) where
    abbrev left : Db
    left = (run_bound seen bound).db

    after : IsOrdered left
    after = ordered-write seen bound place.ordered write

    net_may_be : MayBePut db.schema.tables changes
    net_may_be = subst (MayBePut db.schema.tables) (sym net.is_net) (net_may seen left place.ordered after net.schema)

    pub net_theirs : Each (IsPutIn db.schema.tables) changes
    net_theirs = net_may_be.theirs

    net_once : (number : ℕ) → KeysDiffer (filter (is_of_table number) changes)
    net_once = net_may_be.once

    net_made : put_rows db.schema.tables changes seen.rows ≡ left.rows
    net_made = ap (λ changes. put_rows db.schema.tables changes seen.rows) net.is_net ∙ net_put seen left place.ordered after net.schema

  -- that writes
  pub has_written : (bound : Bound) (reply : Reply) (changes : List Change) (after : List (List Entry)) → IsWrite db.schema bound → NetTo seen (run_bound seen bound) reply changes
      → IsSpaceOf db.schema.tables after
      → ((others : List (List Row)) → IsBase db.schema.tables others → changed_rows db.schema.tables others after ≡ put_rows db.schema.tables changes (changed_rows db.schema.tables others space))
      → ((number : ℕ) → entries_at after number ≡ entries_put number changes (entries_at space number))
      → HasRun db bound space reply after
  has_written bound reply changes after write net sound_after put puts =
      let others : Each (IsOfOther seen (run_bound seen bound).db) changes =
      subst (Each (IsOfOther seen (run_bound seen bound).db)) (sym net.is_net) (net_others seen (run_bound seen bound).db net.schema) in
      record {
        told = net.told;
        rows = put db.rows (small db space store sound) ∙ net_made bound reply changes write net;
        sound = sound_after;
        within = λ name.
            within_put seen (run_bound seen bound).db (footprint_of db.schema bound) space after changes
            (still-run_bound seen place bound (row_footprinted db.schema bound (row_write bound write))) others (net_once bound reply changes write net) puts name;
        reads = λ select. absurd (no_select bound write select);
      }
