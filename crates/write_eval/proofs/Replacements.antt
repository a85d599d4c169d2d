-- What an UPDATE changes leads to the rows that it leaves.
use Rattle.std.proofs.Common.{◌≡◌, ◌==◌, List, [], ◌∷◌, true, false, Option, Some, None, map, length, refl, sym, ap, ◌∙◌, subst}
use Rattle.std.specs.Prelude.{slice_get}
use Rattle.std.specs.List.{AllByRecursion as Each, filter, find, list_any}
use Rattle.std.specs.Option.{option_map, option_map_or}
use Rattle.std.proofs.lemmas.List.{length-map}
use Rattle.own_base.specs.declared.number.ColNo.{ColNo}
use Rattle.own_base.specs.declared.number.TableNo.{TableNo}
use Rattle.own_base.specs.declared.value.Key.{Key}
use Rattle.own_model.specs.declared.bound.BoundCond.{BoundCond}
use Rattle.own_model.specs.declared.bound.BoundExpr.{BoundExpr}
use Rattle.own_model.specs.declared.refusal.Refusal.{Refusal}
use Rattle.own_model.specs.declared.reply.Reply.TheVariants.{Counted, Refused}
use Rattle.own_model.specs.declared.schema.Schema.{Schema}
use Rattle.own_model.specs.declared.schema.TableDef.{TableDef}
use Rattle.own_model.specs.Db.{AreRising, Db, IsRising, Row, key_of}
use Rattle.own_model.specs.Stored.{has_key, rows_at}
use Rattle.query_model.specs.Footprints.{key_column}
use Rattle.query_model.specs.Truth.{keeps}
use Rattle.state_model.specs.Fault.{first_of}
use Rattle.state_model.specs.Put.{changed_key}
use Rattle.state_model.proofs.PutRows.{rising_at}
use Rattle.run_model.specs.Run.{stored_unless, update}
use Rattle.run_model.specs.Update.{Sets, update_faults, updated_rows}
use Rattle.run_model.proofs.RisingKeys.{AreKeyless, rising-filter}
use Rattle.run_model.proofs.UpdateLookups.{changed, found-updated}
use Rattle.write_eval.specs.Updates.{replacement}
use Rattle.write_eval.specs.Write.{SpareKey}
use Rattle.write_eval.specs.Writes.{Writes}
use Rattle.write_eval.specs.declared.written.Written.{Written}
use Rattle.write_eval.proofs.Kept.{IsFound, each_passing, found_rows, found_spared}
use Rattle.write_eval.proofs.OneTable.{IsWithin, LeadWithin, is_of, lead_of, of_table}

module _ (number : TableNo) (table : TableDef) (sets : Sets) (keyless : AreKeyless table sets) (condition : Option BoundCond) where
  -- that a row is updated which is kept
  within : (rows : List Row) (row : Row) → IsFound table rows row → keeps condition row ≡ true
      → IsWithin number table rows (updated_rows sets condition rows) (replacement number table sets row)
  within rows row found is = record {
    of = refl;
    was = sym found;
    is = sym (found-updated sets condition table (key_of table row) keyless rows ∙ (ap (option_map (changed sets condition)) found ∙ rw is refl));
  }

  all_within : (rows some : List Row) → Each (λ row. IsFound table rows row × (keeps condition row ≡ true)) some
      → Each (IsWithin number table rows (updated_rows sets condition rows)) (map (replacement number table sets) some)
  all_within rows [] all = tt
  all_within rows (row ∷ some) all = (within rows row all.0.0 all.0.1, all_within rows some all.1)

  -- the keys of the changes, and whether one is of a key
  keys_changed : (some : List Row) → map changed_key (map (replacement number table sets) some) ≡ map (key_of table) some
  keys_changed [] = refl
  keys_changed (row ∷ some) = ap (λ keys. key_of table row ∷ keys) (keys_changed some)

  any_of : (key : Key) (some : List Row) → list_any (is_of key) (map (replacement number table sets) some) ≡ list_any (has_key table key) some
  any_of key [] = refl
  any_of key (row ∷ some) = rw (any_of key some) refl

  -- a row that isn't kept stays as it was
  stays : (found : Option Row) → ((row : Row) → found ≡ Some row → keeps condition row ≡ false) → found ≡ option_map (changed sets condition) found
  stays None spared = refl
  stays (Some row) spared = rw (spared row refl) refl

  lead_within : (rows : List Row) → IsRising table rows
      → LeadWithin number table rows (updated_rows sets condition rows) (map (replacement number table sets) (filter (keeps condition) rows))
  lead_within rows rising = record {
    each = all_within rows (filter (keeps condition) rows) (each_passing (IsFound table rows) (keeps condition) rows (found_rows table rows rising));
    rising = rw keys_changed (rising-filter table (keeps condition) rows rising);
    others = λ key none.
        stays (find (has_key table key) rows) (found_spared (has_key table key) (keeps condition) rows (sym (any_of key (filter (keeps condition) rows)) ∙ none))
        ∙ sym (found-updated sets condition table key keyless rows);
  }

-- sets that spare the key of a table that is there
pub keyless_sets : (schema : Schema) (number : TableNo) (table : TableDef) (sets : Sets) → slice_get schema.tables number.0 ≡ Some table → SpareKey schema number sets → AreKeyless table sets
keyless_sets schema number table sets is spare =
    let same : key_column schema number ≡ table.key.0 = ap (λ found. option_map_or (λ (table : TableDef). table.key.0) found 0) is in
    subst (λ key. Each (λ (set : ColNo × BoundExpr). (set.0.0 == key) ≡ false) sets) same spare

module _ (db : Db) (number : TableNo) (table : TableDef) (sets : Sets) (condition : Option BoundCond)
    (rising : AreRising db.schema.tables db.rows) (is : slice_get db.schema.tables number.0 ≡ Some table) where
  abbrev kept : List Row
  kept = filter (keeps condition) (rows_at db.rows number.0)

  -- what an UPDATE comes to, by its first fault
  runs : (fault : Option Refusal) → first_of (update_faults table sets kept) ≡ fault
      → update db number.0 sets condition ≡ stored_unless db number.0 (updated_rows sets condition (rows_at db.rows number.0)) (length kept) fault
  unfolding update
  runs fault reported = rw (is, reported) refl

  -- one with a fault is refused
  pub is_refused : (why : Refusal) → Some why ≡ first_of (update_faults table sets kept) → (update db number.0 sets condition).reply ≡ Refused why
  is_refused why reported = rw (runs (Some why) (sym reported)) refl

  -- one without a fault writes that the rows are updated which its condition keeps
  pub updates : (written : Written) → SpareKey db.schema number sets → None ≡ first_of (update_faults table sets kept) → written.count ≡ length kept
      → written.changes ≡ map (replacement number table sets) kept → Writes db (update db number.0 sets condition) number written
  updates written spare reported count changes =
      let after = updated_rows sets condition (rows_at db.rows number.0) in
      let made = map (replacement number table sets) kept in
      let lead = lead_within number table sets (keyless_sets db.schema number table sets is spare) condition (rows_at db.rows number.0)
      (rising_at db.schema.tables db.rows number.0 table rising is) in
      let write : Writes db (stored_unless db number.0 (updated_rows sets condition (rows_at db.rows number.0)) (length kept) None) number written = record {
        reply = ap Counted (sym count);
        counted = ap length changes ∙ (length-map kept (replacement number table sets) ∙ sym count);
        of = rw changes (of_table db number table after rising is made lead.each);
        rising = rw changes lead.rising;
        leads = rw changes (lead_of db number table after rising is made lead);
      } in
      rw (runs None (sym reported)) write
