-- What a DELETE changes leads to the rows that it leaves.
use Rattle.std.proofs.Common.{◌≡◌, List, [], ◌∷◌, Bool, true, false, not, Option, Some, None, map, length, refl, sym, ap, ◌∙◌}
use Rattle.std.specs.Prelude.{slice_get}
use Rattle.std.specs.List.{AllByRecursion as Each, filter, find, list_any}
use Rattle.std.proofs.lemmas.List.{length-map}
use Rattle.std.proofs.lemmas.Map.Entries.{option_filter}
use Rattle.own_base.specs.declared.number.TableNo.{TableNo}
use Rattle.own_base.specs.declared.value.Key.{Key}
use Rattle.own_model.specs.declared.bound.BoundCond.{BoundCond}
use Rattle.own_model.specs.declared.reply.Reply.TheVariants.{Counted}
use Rattle.own_model.specs.declared.schema.TableDef.{TableDef}
use Rattle.own_model.specs.Db.{Db, IsRising, Row, key_of}
use Rattle.own_model.specs.Stored.{has_key, rows_at}
use Rattle.query_model.specs.Truth.{keeps}
use Rattle.state_model.specs.Put.{changed_key}
use Rattle.state_model.proofs.PutRows.{rising_at}
use Rattle.query_eval.specs.Tables.{AreTables}
use Rattle.run_model.specs.Run.{delete}
use Rattle.run_model.specs.Update.{rows_left}
use Rattle.run_model.proofs.FoundRows.{find-filter}
use Rattle.run_model.proofs.RisingKeys.{rising-filter}
use Rattle.write_eval.specs.Deletions.{deletion}
use Rattle.write_eval.specs.Writes.{Writes}
use Rattle.write_eval.specs.declared.written.Written.{Written}
use Rattle.write_eval.proofs.Kept.{IsFound, each_passing, found_rows, found_spared}
use Rattle.write_eval.proofs.OneTable.{IsWithin, LeadWithin, is_of, lead_of, of_table}

module _ (number : TableNo) (table : TableDef) (kept : Row → Bool) where
  -- whether a row is left
  abbrev is_left : Row → Bool
  is_left row = not (kept row)

  -- that a row goes which is kept
  within : (rows : List Row) → IsRising table rows → (row : Row) → IsFound table rows row → kept row ≡ true
      → IsWithin number table rows (filter is_left rows) (deletion number table row)
  within rows rising row found is = record {
    of = refl;
    was = sym found;
    is = sym (find-filter table (key_of table row) is_left rows rising ∙ ap (option_filter is_left) found ∙ gone);
  }
    where
      gone : option_filter is_left (Some row) ≡ None
      gone = rw is refl

  all_within : (rows some : List Row) → IsRising table rows → Each (λ row. IsFound table rows row × (kept row ≡ true)) some
      → Each (IsWithin number table rows (filter is_left rows)) (map (deletion number table) some)
  all_within rows [] rising all = tt
  all_within rows (row ∷ some) rising all = (within rows rising row all.0.0 all.0.1, all_within rows some rising all.1)

  -- the keys of the changes, and whether one is of a key
  keys_changed : (some : List Row) → map changed_key (map (deletion number table) some) ≡ map (key_of table) some
  keys_changed [] = refl
  keys_changed (row ∷ some) = ap (λ keys. key_of table row ∷ keys) (keys_changed some)

  any_of : (key : Key) (some : List Row) → list_any (is_of key) (map (deletion number table) some) ≡ list_any (has_key table key) some
  any_of key [] = refl
  any_of key (row ∷ some) = rw (any_of key some) refl

  -- a row that isn't kept is left
  stays : (found : Option Row) → ((row : Row) → found ≡ Some row → kept row ≡ false) → found ≡ option_filter is_left found
  stays None spared = refl
  stays (Some row) spared = rw (spared row refl) refl

  lead_within : (rows : List Row) → IsRising table rows → LeadWithin number table rows (filter is_left rows) (map (deletion number table) (filter kept rows))
  lead_within rows rising = record {
    each = all_within rows (filter kept rows) rising (each_passing (IsFound table rows) kept rows (found_rows table rows rising));
    rising = rw keys_changed (rising-filter table kept rows rising);
    others = λ key none.
        stays (find (has_key table key) rows) (found_spared (has_key table key) kept rows (sym (any_of key (filter kept rows)) ∙ none))
        ∙ sym (find-filter table key is_left rows rising);
  }

-- a DELETE writes that the rows go which its condition keeps
pub deletes : (db : Db) (number : TableNo) (table : TableDef) (condition : Option BoundCond) (written : Written)
    → AreTables db.schema db.rows → slice_get db.schema.tables number.0 ≡ Some table
    → written.count ≡ length (filter (keeps condition) (rows_at db.rows number.0))
    → written.changes ≡ map (deletion number table) (filter (keeps condition) (rows_at db.rows number.0))
    → Writes db (delete db number.0 condition) number written
unfolding delete rows_left
deletes db number table condition written tables is count changes =
    let rows = rows_at db.rows number.0 in
    let left = filter (λ row. not (keeps condition row)) rows in
    let made = map (deletion number table) (filter (keeps condition) rows) in
    let lead = lead_within number table (keeps condition) rows (rising_at db.schema.tables db.rows number.0 table tables.rising is) in
    record {
      reply = ap Counted (sym count);
      counted = ap length changes ∙ (length-map (filter (keeps condition) (rows_at db.rows number.0)) (deletion number table) ∙ sym count);
      of = rw changes (of_table db number table left tables.rising is made lead.each);
      rising = rw changes lead.rising;
      leads = rw changes (lead_of db number table left tables.rising is made lead);
    }
