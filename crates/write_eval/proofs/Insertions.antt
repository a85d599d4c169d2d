-- What an INSERT changes leads to the rows with its tuples.
use Rattle.std.proofs.Common.{◌≡◌, List, [], ◌∷◌, Some, None, map, length, refl, sym, ap, ◌∙◌}
use Rattle.std.specs.Prelude.{Result, Ok, Err, slice_get}
use Rattle.std.specs.List.{AllByRecursion as Each, find, list_any}
use Rattle.std.specs.Map.{keys_of}
use Rattle.std.proofs.lemmas.List.{length-map}
use Rattle.own_base.specs.Key.{key_cmp}
use Rattle.own_base.specs.declared.change.Change.{Change}
use Rattle.own_base.specs.declared.number.TableNo.{TableNo}
use Rattle.own_base.specs.declared.value.Key.{Key}
use Rattle.own_model.specs.declared.refusal.Refusal.TheVariants.{Duplicate}
use Rattle.own_model.specs.declared.reply.Reply.TheVariants.{Counted, Refused}
use Rattle.own_model.specs.declared.schema.TableDef.{TableDef}
use Rattle.own_model.specs.Db.{AreRising, Db, Row}
use Rattle.own_model.specs.Stored.{has_key, is_equal, rows_at}
use Rattle.state_model.specs.Put.{changed_key}
use Rattle.run_model.specs.Insert.{with_tuples}
use Rattle.run_model.specs.Run.{insert, put}
use Rattle.write_eval.specs.Insertions.{Given, come_unless, given_tuples, insertion}
use Rattle.write_eval.specs.Writes.{Writes}
use Rattle.write_eval.specs.declared.written.Written.{Written}
use Rattle.write_eval.proofs.GivenEntries.{IsFound, found_given, lookup-none}
use Rattle.write_eval.proofs.GivenTuples.{AreAlike, AreWith, alike-tuples, length-given}
use Rattle.write_eval.proofs.OneTable.{IsWithin, LeadWithin, is_of, lead_of, of_table}

module _ (number : TableNo) (table : TableDef) (rows merged : List Row) (given : Given) (with : AreWith table rows merged given) where
  within : (entry : Key × Row) → IsFound given entry → find (has_key table entry.0) rows ≡ None → IsWithin number table rows merged (insertion number entry)
  within entry found new = record { of = refl; was = sym new; is = sym (with.found entry.0 ∙ rw found refl) }

  all_within : (some : Given) → Each (IsFound given) some → Each (λ (entry : Key × Row). find (has_key table entry.0) rows ≡ None) some
      → Each (IsWithin number table rows merged) (map (insertion number) some)
  all_within [] found new = tt
  all_within (entry ∷ some) found new = (within entry found.0 new.0, all_within some found.1 new.1)

  keys_changed : (some : Given) → map changed_key (map (insertion number) some) ≡ keys_of some
  keys_changed [] = refl
  keys_changed (entry ∷ some) = ap (λ keys. entry.0 ∷ keys) (keys_changed some)

  any_of : (key : Key) (some : Given) → list_any (is_of key) (map (insertion number) some) ≡ list_any (λ (entry : Key × Row). is_equal (key_cmp entry.0 key)) some
  any_of key [] = refl
  any_of key (entry ∷ some) = rw (any_of key some) refl

  lead_within : LeadWithin number table rows merged (map (insertion number) given)
  lead_within = record {
    each = all_within given (found_given given with.rising) with.new;
    rising = rw keys_changed with.rising;
    others = λ key none. sym (with.found key ∙ rw (lookup-none key given (sym (any_of key given) ∙ none)) refl);
  }

module _ (db : Db) (number : TableNo) (table : TableDef) (tuples : List Row)
    (rising : AreRising db.schema.tables db.rows) (is : slice_get db.schema.tables number.0 ≡ Some table) where
  puts : insert db number.0 tuples ≡ put db number.0 table (length tuples) (with_tuples table (rows_at db.rows number.0) tuples)
  unfolding insert
  puts = rw is refl

  alike : (given : Result Given Key) → given_tuples db.schema db.rows number table tuples ≡ given → AreAlike table (rows_at db.rows number.0) (with_tuples table (rows_at db.rows number.0) tuples) given
  alike given is_given = rw (← is_given) (alike-tuples db.schema db.rows number table is tuples)

  write_given : (written : Written) (given : Given) → written.count ≡ length tuples → written.changes ≡ map (insertion number) given → length given ≡ length tuples
      → (merged : Result (List Row) Key) → AreAlike table (rows_at db.rows number.0) merged (Ok given) → Writes db (put db number.0 table (length tuples) merged) number written
  write_given written given count changes long (Ok merged) with =
      let lead = lead_within number table (rows_at db.rows number.0) merged given with in
      record {
        reply = ap Counted (sym count);
        counted = ap length changes ∙ (length-map given (insertion number) ∙ (long ∙ sym count));
        of = rw changes (of_table db number table merged rising is (map (insertion number) given) lead.each);
        rising = rw changes lead.rising;
        leads = rw changes (lead_of db number table merged rising is (map (insertion number) given) lead);
      }
  write_given written given count changes long (Err key) with = absurd with

  -- an INSERT whose tuples have free keys writes that they come
  pub inserts : (written : Written) (given : Given) → written.count ≡ length tuples → written.changes ≡ map (insertion number) given
      → given_tuples db.schema db.rows number table tuples ≡ Ok given → Writes db (insert db number.0 tuples) number written
  inserts written given count changes is_given = rw puts (write_given written given count changes (length-given db.schema db.rows number table tuples given is_given) _ (alike (Ok given) is_given))

  refuse : (key : Key) (merged : Result (List Row) Key) → AreAlike table (rows_at db.rows number.0) merged (Err key)
      → (put db number.0 table (length tuples) merged).reply ≡ Refused (Duplicate table.name key)
  refuse key (Err other) same = ap (λ key. Refused (Duplicate table.name key)) same
  refuse key (Ok merged) same = absurd same

  -- one of whose keys is taken is refused
  pub is_duplicate : (key : Key) → given_tuples db.schema db.rows number table tuples ≡ Err key → (insert db number.0 tuples).reply ≡ Refused (Duplicate table.name key)
  is_duplicate key is_given = rw puts (refuse key _ (alike (Err key) is_given))

-- the tuples of which changes say that they come
pub given_come : (number : TableNo) (answer : Result Given Key) (changes : List Change) → Ok changes ≡ come_unless number answer → (given : Given) × (answer ≡ Ok given) × (changes ≡ map (insertion number) given)
given_come number (Ok given) changes is = (given, refl, cc)
given_come number (Err key) changes is = let never : ◌≡◌ {A = Result (List Change) Key} (Ok changes) (Err key) = is in cc

-- and the key that is taken
pub given_taken : (number : TableNo) (answer : Result Given Key) (key : Key) → Err key ≡ come_unless number answer → answer ≡ Err key
given_taken number (Err other) key is = cc
given_taken number (Ok given) key is = let never : ◌≡◌ {A = Result (List Change) Key} (Err key) (Ok (map (insertion number) given)) = is in cc
