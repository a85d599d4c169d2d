-- What a net says table by table.
use Rattle.std.proofs.Common.{◌≡◌, ℕ, ◌+◌, ◌<◌, ◌≤◌, List, [], ◌∷◌, ◌++◌, Bool, true, false, cond, refl, sym, ap, ◌∙◌, subst, eq-eqb, append-nil, append_assoc, arith}
use Rattle.std.specs.Prelude.{Option, None, Some, IfSome, filter, find}
use Rattle.std.specs.List.{AllByRecursion as Each}
use Rattle.std.proofs.lemmas.Bool.{ne_eqb}
use Rattle.std.proofs.lemmas.List.Elements.{filter-append}
use Rattle.own_base.specs.Key.{key_cmp}
use Rattle.own_base.specs.declared.change.Change.{Change}
use Rattle.own_base.specs.declared.value.Key.{Key}
use Rattle.own_model.specs.declared.schema.TableDef.{TableDef}
use Rattle.own_model.specs.Db.{AreRising, IsRising, Row, key_of}
use Rattle.own_model.specs.Stored.{has_key}
use Rattle.page_model.specs.Changed.{AreKeyed, with_changes}
use Rattle.page_model.proofs.ChangedLemmas.{filter_all, filter_none}
use Rattle.page_model.proofs.RisingLemmas.{each_append, each_weaker}
use Rattle.schema_model.proofs.Found.{find-some}
use Rattle.subject_model.proofs.NamedLemmas.{one_key}
use Rattle.state_model.specs.MayBePut.{KeysDiffer}
use Rattle.state_model.specs.Net.{change_at, keys_in, net_from, net_in}
use Rattle.state_model.specs.Put.{changed_key, is_of_table, put_from, row_after, rows_put}
use Rattle.state_model.specs.Same.{is_same_state}
use Rattle.state_model.proofs.Made.{all-filter_map}
use Rattle.state_model.proofs.NetLeads.{from_number}

-- a change of the table of a number: what its key had before, and what it has after
pub record IsChangeIn (number : ℕ) (table : TableDef) (before after : List Row) (change : Change) : Type 0 where
  pub of : change.name.table.0 ≡ number
  pub was : change.before ≡ find (has_key table change.name.key) before
  pub is : change.after ≡ find (has_key table change.name.key) after

module _ (number : ℕ) (table : TableDef) (before after : List Row) where
  unless_step : (P : Change → Type 0) (same : Bool) (change : Change) → P change → IfSome (cond same None (Some change)) P
  unless_step P true change has = tt
  unless_step P false change has = has

  change_in : (key : Key) → IfSome (change_at number table before after key) (IsChangeIn number table before after)
  change_in key = unless_step (IsChangeIn number table before after) (is_same_state (find (has_key table key) before) (find (has_key table key) after)) _ (record { of = refl; was = refl; is = refl })

  pub net-changes : Each (IsChangeIn number table before after) (net_in number table before after)
  net-changes = all-filter_map (IsChangeIn number table before after) (change_at number table before after) change_in (keys_in table (before ++ after))

  found_keyed : (key : Key) (rows : List Row) (found : Option Row) → find (has_key table key) rows ≡ found → IfSome found (λ row. key_of table row ≡ key)
  found_keyed key rows None is = tt
  found_keyed key rows (Some row) is = one_key (key_of table row) key (find-some (has_key table key) rows row is).1

  -- a row that is put has the key of its change
  pub net-keyed : AreKeyed (key_of table) changed_key row_after (net_in number table before after)
  net-keyed = each_weaker (IsChangeIn number table before after) _ (λ change in_it. found_keyed (changed_key change) after (row_after change) (sym in_it.is)) _ net-changes

-- changes lead from the rows of a table to others
pub record Leads (number : ℕ) (table : TableDef) (before after : List Row) : Type 0 where
  pub rising : IsRising table before
  pub applied : with_changes (key_of table) key_cmp changed_key row_after (net_in number table before after) before ≡ after
  pub differ : KeysDiffer (net_in number table before after)

-- and from those of tables that are numbered from here on
abbrev pub LeadsFrom : ℕ → List TableDef → List (List Row) → List (List Row) → Type 0
LeadsFrom number [] [] [] = Unit {0}
LeadsFrom number (table ∷ tables) (before ∷ befores) (after ∷ afters) = Leads number table before after × LeadsFrom (number + 1) tables befores afters
LeadsFrom number _ _ _ = ⊥

other_table : (number : ℕ) (change : Change) → (change.name.table.0 ≡ number → ⊥) → is_of_table number change ≡ false
other_table number change apart = ne_eqb change.name.table.0 number apart

module _ (changes : List Change) (once : (number : ℕ) → KeysDiffer (filter (is_of_table number) changes)) where
  -- of all changes those of one table are its net
  own_changes : (number : ℕ) (table : TableDef) (before after : List Row) (earlier later : List Change) → Each (λ change. change.name.table.0 < number) earlier → Each (λ change. number + 1 ≤ change.name.table.0) later
      → filter (is_of_table number) (earlier ++ (net_in number table before after ++ later)) ≡ net_in number table before after
  own_changes number table before after earlier later below above =
      let front : filter (is_of_table number) earlier ≡ [] = filter_none (is_of_table number) earlier (each_weaker _ _ (λ change less. other_table number change (λ is. absurd (omega arith))) earlier below) in
      let own : filter (is_of_table number) (net_in number table before after) ≡ net_in number table before after =
      filter_all (is_of_table number) (net_in number table before after) (each_weaker _ _ (λ change in_it. eq-eqb change.name.table.0 number in_it.of) _ (net-changes number table before after)) in
      let back : filter (is_of_table number) later ≡ [] = filter_none (is_of_table number) later (each_weaker _ _ (λ change more. other_table number change (λ is. absurd (omega arith))) later above) in
      filter-append (is_of_table number) earlier (net_in number table before after ++ later)
      ∙ (ap (λ some. some ++ filter (is_of_table number) (net_in number table before after ++ later)) front
      ∙ (filter-append (is_of_table number) (net_in number table before after) later
      ∙ (ap (λ some. some ++ filter (is_of_table number) later) own ∙ (ap (λ some. net_in number table before after ++ some) back ∙ append-nil _))))

  -- so each table's net leads from its rows to those after
  leads-from : (number : ℕ) (tables : List TableDef) (befores afters : List (List Row)) (earlier : List Change) → AreRising tables befores → AreRising tables afters → Each (λ change. change.name.table.0 < number) earlier
      → changes ≡ earlier ++ net_from number tables befores afters → put_from number tables changes befores ≡ afters → LeadsFrom number tables befores afters
  unfolding net_from put_from
  leads-from number [] [] [] earlier rising rises below are put = tt
  leads-from number [] [] (after ∷ afters) earlier rising rises below are put = absurd rises
  leads-from number [] (before ∷ befores) afters earlier rising rises below are put = absurd rising
  leads-from number (table ∷ tables) [] afters earlier rising rises below are put = absurd rising
  leads-from number (table ∷ tables) (before ∷ befores) [] earlier rising rises below are put = absurd rises
  leads-from number (table ∷ tables) (before ∷ befores) (after ∷ afters) earlier rising rises below are put =
      let later = net_from (number + 1) tables befores afters in
      let own : filter (is_of_table number) changes ≡ net_in number table before after =
      ap (filter (is_of_table number)) are ∙ own_changes number table before after earlier later below (from_number (number + 1) tables befores afters) in
      let here : rows_put number table changes before ≡ after = cc in
      let rest : put_from (number + 1) tables changes befores ≡ afters = cc in
      let applied = ap (λ some. with_changes (key_of table) key_cmp changed_key row_after some before) (sym own) ∙ here in
      let passed : Each (λ change. change.name.table.0 < number + 1) (earlier ++ net_in number table before after) =
      each_append _ earlier (net_in number table before after) (each_weaker _ _ (λ change less. let less : change.name.table.0 < number = less in omega arith) earlier below)
      (each_weaker _ _ (λ change in_it. let of : change.name.table.0 ≡ number = in_it.of in omega arith) _ (net-changes number table before after)) in (
        record { rising = rising.0; applied = applied; differ = subst KeysDiffer own (once number) },
        leads-from (number + 1) tables befores afters (earlier ++ net_in number table before after) rising.1 rises.1 passed (are ∙ sym (append_assoc earlier (net_in number table before after) later)) rest,
      )

  pub leads-all : (tables : List TableDef) (befores afters : List (List Row)) → AreRising tables befores → AreRising tables afters → changes ≡ net_from 0 tables befores afters
      → put_from 0 tables changes befores ≡ afters → LeadsFrom 0 tables befores afters
  leads-all tables befores afters rising rises are put = leads-from 0 tables befores afters [] rising rises tt are put
