-- Each reference that names no row is what the row of some change came to hold, or refers to a row that one took away.
use Rattle.std.proofs.Common.{◌≡◌, ℕ, List, [], Bool, true, false, not, inl, inr, refl, ap, sym, ◌∙◌, subst, eq-eqb}
use Rattle.std.specs.Prelude.{◌⊎◌, ◌==◌, IsSome, Option, None, Some, is_some, slice_get}
use Rattle.std.specs.Option.{option_map_or}
use Rattle.std.proofs.lemmas.Bool.{and_from, not_from_false}
use Rattle.own_base.specs.declared.change.Change.{Change}
use Rattle.own_base.specs.declared.number.TableNo.{TableNo}
use Rattle.own_base.specs.declared.row_name.RowName.{RowName}
use Rattle.own_model.specs.declared.schema.RefKind.{RefKind}
use Rattle.own_model.specs.declared.schema.Schema.{Schema}
use Rattle.own_model.specs.Db.{Db, IsOrdered, Row}
use Rattle.owner_model.specs.Joins.{row_of}
use Rattle.subject_model.specs.Named.{is_there}
use Rattle.state_model.specs.Fault.{first_of, reference_faults}
use Rattle.state_model.specs.LeadTo.{LeadTo}
use Rattle.link_model.specs.Holds.{holds}
use Rattle.change_check.specs.declared.cell_name.CellName.{CellName}
use Rattle.change_check.specs.declared.refusing.Rule.TheVariants.{Reference}
use Rattle.change_check.specs.Dangling.{IsWhatCame, RefersTo, is_taken}
use Rattle.change_check.specs.Least.{IsFurther, is_reached}
use Rattle.change_check.specs.Rule.{breaks_at, breaks_by, refusal_at, refused_by}
use Rattle.change_check.proofs.CameLemmas.{CameBy, ChangeNamed, held_or_came, named_or_same}
use Rattle.change_check.proofs.HeldLemmas.{holds_key, key_holds}
use Rattle.change_check.proofs.BrokenCells.{Broken, breaks-broken, broken}
use Rattle.change_check.proofs.LeastFault.{first_of_least, none_broken}
use Rattle.change_check.proofs.LinkLemmas.{NamesNone, names_none, none_named}
use Rattle.change_check.proofs.HolderRows.{some_holding}

-- a change by which a cell may break the rule
pub record MayBreakBy (after : Db) (changes : List Change) (name : CellName) : Type 0 where
  pub place : ℕ
  pub change : Change
  pub change_is : slice_get changes place ≡ Some change
  pub by : IsWhatCame change name ⊎ ((is_taken change ≡ true) × RefersTo after change.name name)

module _ (before after : Db) (changes : List Change) (lead : LeadTo before after changes) (ordered_before : IsOrdered before) (ordered : IsOrdered after)
    (schema : before.schema ≡ after.schema) (none : reference_faults before ≡ []) where
  abbrev test : CellName → Bool
  test = breaks_at (breaks_by Reference after) after

  module _ (name : CellName) (it : Broken (breaks_by Reference after) after name) (names : NamesNone after it.row name.column.0 it.column) where
    abbrev to : RowName
    to = record { table = names.link.1; key = names.key }

    holding : holds name.column.0 names.key it.row ≡ true
    holding = key_holds name.column.0 names.key it.row names.key_is

    by_came : CameBy before after changes lead name.row name.column.0 names.key → MayBreakBy after changes name
    by_came came =
        let some : IsSome (Some names.key) = refl in
        record {
          place = came.named.place;
          change = came.named.change;
          change_is = came.named.change_is;
          by = inl (record { row = sym came.named.name_is; came = subst IsSome (sym came.came) some });
        }

    refers_there : RefersTo after to name
    refers_there = record {
      table = it.table;
      table_is = it.table_is;
      column = it.column;
      column_is = it.column_is;
      refers = ap (λ o. option_map_or (λ (link : RefKind × TableNo). link.1.0 == names.link.1.0) o false) names.refers ∙ eq-eqb names.link.1.0 names.link.1.0 refl;
      holds = ap (λ o. option_map_or (holds name.column.0 names.key) o false) it.row_is ∙ holding;
    }

    by_taken : is_there before to ≡ true → ChangeNamed before after changes to → MayBreakBy after changes name
    by_taken there named = record {
      place = named.place;
      change = named.change;
      change_is = named.change_is;
      by = inr (
        and_from (is_some named.change.before) (not (is_some named.change.after)) (ap is_some named.was ∙ there) (not_from_false (is_some named.change.after) (ap is_some named.is ∙ names.gone)),
        subst (λ other. RefersTo after other name) (sym named.name_is) refers_there,
      );
    }

    by_there : is_there before to ≡ true → ChangeNamed before after changes to ⊎ (row_of before to ≡ row_of after to) → MayBreakBy after changes name
    by_there there (inl named) = by_taken there named
    by_there there (inr same) = let never : true ≡ false = sym there ∙ (ap is_some same ∙ names.gone) in absurd (cc)

    by_held : (row : Row) → row_of before name.row ≡ Some row → holds name.column.0 names.key row ≡ true → (b : Bool) → is_there before to ≡ b → MayBreakBy after changes name
    unfolding reference_faults
    by_held row row_is held true there = by_there there (named_or_same before after changes lead to)
    by_held row row_is held false gone =
        let table_is : slice_get before.schema.tables name.row.table.0 ≡ Some it.table = ap (λ (s : Schema). slice_get s.tables name.row.table.0) schema ∙ it.table_is in
        absurd (none_broken (breaks_by Reference before) (refused_by Reference) before ordered_before none name
        (breaks-broken (breaks_by Reference before) before name it.table row it.column table_is row_is it.column_is
        ∙ none_named before row name.column.0 it.column names.link names.key names.refers (holds_key name.column.0 names.key row held) gone))

    by_either : CameBy before after changes lead name.row name.column.0 names.key ⊎ (option_map_or (holds name.column.0 names.key) (row_of before name.row) false ≡ true) → MayBreakBy after changes name
    by_either (inl came) = by_came came
    by_either (inr held) = let some = some_holding name.column.0 names.key (row_of before name.row) held in by_held some.0 some.1 some.2 _ refl

  pub caught_by_change : (name : CellName) → test name ≡ true → MayBreakBy after changes name
  caught_by_change name breaks =
      let it = broken (breaks_by Reference after) after name breaks in
      let names = names_none after it.row name.column.0 it.column it.broke in
      by_either name it names (held_or_came before after changes lead name.row name.column.0 names.key it.row it.row_is (holding name it names))

  -- So the least cell that was found, where all that each change may break is reached, has the first fault.
  pub reference_least : (least : Option CellName) → IsFurther test None least
      → ((place : ℕ) (change : Change) → slice_get changes place ≡ Some change → (name : CellName) → IsWhatCame change name → test name ≡ true → is_reached least name ≡ true)
      → ((place : ℕ) (change : Change) → slice_get changes place ≡ Some change → is_taken change ≡ true → (name : CellName) → RefersTo after change.name name → is_reached least name ≡ true)
      → first_of (reference_faults after) ≡ refusal_at (refused_by Reference) after.schema least
  unfolding reference_faults
  reference_least least further came taken =
      first_of_least (breaks_by Reference after) (refused_by Reference) after ordered least (record {
        own = further.own tt;
        reached = λ name breaks.
            let may = caught_by_change name breaks in
            elim may.by [
              | inl is ↦ came may.place may.change may.change_is name is breaks
              | inr both ↦ taken may.place may.change may.change_is both.0 name both.1
            ];
      })
