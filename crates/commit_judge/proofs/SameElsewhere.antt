-- Where changes are of tables that pass a test alone, the rows of all others are the same.
use Rattle.std.proofs.Common.{◌≡◌, ◌∙◌, ℕ, zero, suc, ◌+◌, List, [], ◌∷◌, Bool, true, false, inl, inr, refl, sym, ap, subst, arith}
use Rattle.std.specs.Prelude.{Some, slice_get, find}
use Rattle.std.specs.List.{AllByRecursion as Each}
use Rattle.std.specs.Option.{option_and_then}
use Rattle.std.proofs.lemmas.Option.{get_or_from_slice_get, slice_get_cases, slice_get_within}
use Rattle.own_base.specs.declared.change.Change.{Change}
use Rattle.own_base.specs.declared.row_name.RowName.{RowName}
use Rattle.page_model.specs.Changed.{with_changes}
use Rattle.page_model.proofs.RisingLemmas.{each_back, each_front}
use Rattle.own_model.specs.declared.schema.TableDef.{TableDef}
use Rattle.own_model.specs.Db.{Db, IsOrdered, Row}
use Rattle.own_model.specs.Stored.{has_key, row_named, rows_at}
use Rattle.state_model.specs.Net.{net_from, net_in}
use Rattle.commit_check.proofs.RowCounts.{length-rising}
use Rattle.commit_judge.proofs.TableLeads.{LeadsFrom, IsChangeIn, Leads, net-changes}

-- the rows of another database under the schema of this one
abbrev pub under : Db → Db → Db
under db next = record next { schema = db.schema }

-- each table that doesn't pass has the same rows in two lists
pub record AreSameElsewhere (passes : ℕ → Bool) (rows news : List (List Row)) : Type 0 where
  pub same : (number : ℕ) → passes number ≡ false → rows_at rows number ≡ rows_at news number

-- changes of tables that pass
abbrev pub AreWithin : (ℕ → Bool) → List Change → Type 0
AreWithin passes changes = Each (λ change. passes change.name.table.0 ≡ true) changes

module _ (passes : ℕ → Bool) where
  none_other : (number : ℕ) (table : TableDef) (before after : List Row) (changes : List Change) → passes number ≡ false → Each (IsChangeIn number table before after) changes → AreWithin passes changes
      → changes ≡ []
  none_other number table before after [] other are within = refl
  none_other number table before after (change ∷ changes) other are within =
      let own : passes number ≡ true = subst (λ n. passes n ≡ true) are.0.of within.0 in
      let never : true ≡ false = sym own ∙ other in absurd (cc)

  -- a table that doesn't pass has no change
  pub net_other : (number : ℕ) (table : TableDef) (before after : List Row) → passes number ≡ false → AreWithin passes (net_in number table before after) → net_in number table before after ≡ []
  net_other number table before after other within = none_other number table before after _ other (net-changes number table before after) within

  -- so its rows are the same
  pub rows_other : (number : ℕ) (table : TableDef) (before after : List Row) → Leads number table before after → passes number ≡ false → AreWithin passes (net_in number table before after) → before ≡ after
  unfolding with_changes
  rows_other number table before after leads other within =
      let none = net_other number table before after other within in
      rw none at leads.applied

  same_from : (number place : ℕ) (tables : List TableDef) (befores afters : List (List Row)) → LeadsFrom number tables befores afters → AreWithin passes (net_from number tables befores afters)
      → passes (number + place) ≡ false → rows_at befores place ≡ rows_at afters place
  unfolding net_from
  same_from number place [] [] [] leads within other = refl
  same_from number place [] [] (after ∷ afters) leads within other = absurd leads
  same_from number place [] (before ∷ befores) afters leads within other = absurd leads
  same_from number place (table ∷ tables) [] afters leads within other = absurd leads
  same_from number place (table ∷ tables) (before ∷ befores) [] leads within other = absurd leads
  same_from number zero (table ∷ tables) (before ∷ befores) (after ∷ afters) leads within other =
      let n : number + zero ≡ number = omega arith in
      rows_other number table before after leads.0 (subst (λ n. passes n ≡ false) n other) (each_front _ (net_in number table before after) (net_from (number + 1) tables befores afters) within)
  same_from number (suc place) (table ∷ tables) (before ∷ befores) (after ∷ afters) leads within other =
      let n : number + suc place ≡ number + 1 + place = omega arith in
      same_from (number + 1) place tables befores afters leads.1 (each_back _ (net_in number table before after) (net_from (number + 1) tables befores afters) within)
      (subst (λ n. passes n ≡ false) n other)

  pub same-elsewhere : (tables : List TableDef) (befores afters : List (List Row)) → LeadsFrom 0 tables befores afters → AreWithin passes (net_from 0 tables befores afters) → AreSameElsewhere passes befores afters
  same-elsewhere tables befores afters leads within = record {
    same = λ number other.
        let n : number ≡ 0 + number = omega arith in
        same_from 0 number tables befores afters leads within (subst (λ n. passes n ≡ false) n other);
  }

module _ (passes : ℕ → Bool) (db next : Db) (are : AreSameElsewhere passes db.rows next.rows) where
  -- a row of a table that doesn't pass is found by its name in both
  pub same_row : (name : RowName) → passes name.table.0 ≡ false → row_named db.schema db.rows name ≡ row_named db.schema next.rows name
  unfolding row_named
  same_row name other = ap (λ (own : List Row). option_and_then (λ table. find (has_key table name.key) own) (slice_get db.schema.tables name.table.0)) (are.same name.table.0 other)

  -- and such a table had the rows that it has
  pub there_before : (number : ℕ) (own : List Row) → IsOrdered db → IsOrdered (under db next) → passes number ≡ false → slice_get next.rows number ≡ Some own → slice_get db.rows number ≡ Some own
  there_before number own before after other is =
      elim (slice_get_cases db.rows number).1 [
        | inl (had, within, there, at) ↦
            let same : had ≡ own = sym (get_or_from_slice_get db.rows number had [] there) ∙ (are.same number other ∙ get_or_from_slice_get next.rows number own [] is) in
            there ∙ ap (λ (found : List Row). Some found) same
        | inr (past, none) ↦
            let one = length-rising db.schema.tables db.rows before.rising in
            let other = length-rising db.schema.tables next.rows after.rising in
            let within = slice_get_within next.rows number own is in
            absurd (omega arith)
      ]
