-- Which change brought what a row holds.
use Rattle.std.proofs.Common.{◌≡◌, ℕ, List, Bool, true, false, inl, inr, refl, ap, sym, ◌∙◌}
use Rattle.std.specs.Prelude.{◌⊎◌, Option, None, Some, slice_get}
use Rattle.std.specs.List.{AllByRecursion, list_any}
use Rattle.std.specs.Option.{option_map_or}
use Rattle.std.proofs.lemmas.Option.{slice_get_read}
use Rattle.own_base.specs.Key.{key_cmp}
use Rattle.own_base.specs.declared.change.Change.{Change}
use Rattle.own_base.specs.declared.row_name.RowName.{RowName}
use Rattle.own_base.specs.declared.value.Key.{Key}
use Rattle.own_model.specs.Db.{Db, Row}
use Rattle.own_model.specs.Stored.{is_equal}
use Rattle.owner_model.specs.Joins.{row_of}
use Rattle.query_model.specs.Footprints.{literal_key}
use Rattle.query_model.specs.Truth.{cell}
use Rattle.schema_model.proofs.Places.{all-weaker}
use Rattle.subject_model.specs.Named.{is_name}
use Rattle.subject_model.proofs.Members.{all_contained, contains_any}
use Rattle.subject_model.proofs.NamedLemmas.{one_name}
use Rattle.state_model.specs.ChangeOf.{TellsRows}
use Rattle.state_model.specs.LeadTo.{LeadTo}
use Rattle.link_model.specs.Holds.{holds}
use Rattle.change_check.specs.Came.{came, held, unless_same}
use Rattle.change_check.proofs.HeldLemmas.{holds_key}

-- a value that a row holds, and the row before did not, is what it came to hold
new_came : (column : ℕ) (value : Key) (old new : Option Row) (row : Row) → new ≡ Some row → holds column value row ≡ true → option_map_or (holds column value) old false ≡ false
    → unless_same (held column old) (held column new) ≡ Some value
unfolding holds
new_came column value old new row is holding not_before = ap (unless_same (held column old)) (ap (held column) is ∙ holds_key column value row holding) ∙ by old not_before
  where
    by_old : (o : Option Key) → option_map_or (λ key. is_equal (key_cmp key value)) o false ≡ false → unless_same o (Some value) ≡ Some value
    by_old None fails = refl
    by_old (Some other) fails = rw fails refl

    by : (o : Option Row) → option_map_or (holds column value) o false ≡ false → unless_same (held column o) (Some value) ≡ Some value
    by None fails = refl
    by (Some row) fails = by_old (literal_key (cell row column)) fails

-- the change of a name, among changes
pub record ChangeNamed (before after : Db) (changes : List Change) (name : RowName) : Type 0 where
  pub place : ℕ
  pub change : Change
  pub change_is : slice_get changes place ≡ Some change
  pub name_is : change.name ≡ name
  pub was : change.before ≡ row_of before name
  pub is : change.after ≡ row_of after name

module _ (before after : Db) (changes : List Change) (lead : LeadTo before after changes) where
  -- a row that is not the same in both has a change
  pub named_or_same : (name : RowName) → ChangeNamed before after changes name ⊎ (row_of before name ≡ row_of after name)
  named_or_same name = by _ refl
    where
      by : (b : Bool) → list_any (λ (change : Change). is_name change.name name) changes ≡ b → ChangeNamed before after changes name ⊎ (row_of before name ≡ row_of after name)
      by true any =
          let (change, among, named) = contains_any (λ (change : Change). is_name change.name name) changes any in
          let (place, within, at) = among in
          let same : change.name ≡ name = one_name change.name name named in
          let tells = all_contained (TellsRows before after) changes change lead.each among in
          inl (record {
            place = place;
            change = change;
            change_is = slice_get_read changes _ place change refl within (sym at);
            name_is = same;
            was = tells.was ∙ ap (row_of before) same;
            is = tells.is ∙ ap (row_of after) same;
          })
      by false none = inr (lead.others name none)

  -- what a row came to hold by a change
  pub record CameBy (name : RowName) (column : ℕ) (value : Key) : Type 0 where
    pub named : ChangeNamed before after changes name
    pub came : came column named.change ≡ Some value

  -- what a row holds, it held before, or came to hold by a change
  pub held_or_came : (name : RowName) (column : ℕ) (value : Key) (row : Row) → row_of after name ≡ Some row → holds column value row ≡ true
      → CameBy name column value ⊎ (option_map_or (holds column value) (row_of before name) false ≡ true)
  held_or_came name column value row is holding = by_name (named_or_same name)
    where
      with_old : (named : ChangeNamed before after changes name) → (b : Bool) → option_map_or (holds column value) (row_of before name) false ≡ b
          → CameBy name column value ⊎ (option_map_or (holds column value) (row_of before name) false ≡ true)
      with_old named true held_before = inr held_before
      with_old named false not_before =
          let old : option_map_or (holds column value) named.change.before false ≡ false = ap (λ o. option_map_or (holds column value) o false) named.was ∙ not_before in
          inl (record { named = named; came = new_came column value named.change.before named.change.after row (named.is ∙ is) holding old })

      by_name : ChangeNamed before after changes name ⊎ (row_of before name ≡ row_of after name)
          → CameBy name column value ⊎ (option_map_or (holds column value) (row_of before name) false ≡ true)
      by_name (inl named) = with_old named _ refl
      by_name (inr same) = inr (ap (λ o. option_map_or (holds column value) o false) (same ∙ is) ∙ holding)

-- changes that lead to a database tell the rows of their names there
pub told_after : (before after : Db) (changes : List Change) → LeadTo before after changes → AllByRecursion (λ change. change.after ≡ row_of after change.name) changes
told_after before after changes lead = all-weaker (TellsRows before after) (λ change. change.after ≡ row_of after change.name) (λ change tells. tells.is) changes lead.each
