use Rattle.std.proofs.Common.{◌≡◌, ℕ, ◌<◌, true}
use Rattle.std.specs.Prelude.{None, Some, slice_get}
use Rattle.own_base.specs.declared.change.Change.{Change}
use Rattle.change_check.specs.declared.cell_name.CellName.{CellName}
use Rattle.change_check.specs.declared.refusing.Rule.TheVariants.{Reference}
use Rattle.change_check.specs.Dangling.{IsWhatCame, RefersTo, is_taken}
use Rattle.change_check.specs.Least.{IsFurther, is_reached}
use Rattle.change_check.specs.Rule.{breaks_at, breaks_by}
use Rattle.change_check.proofs.reference.first_reference_fault_by.Given as goal

-- what is found breaks the rule, and reaches what the changes so far may break
abbrev pub invariant-loop-change : goal.invariant-loop-change
invariant-loop-change g l =
    let db = g.V.StoreView.db l.after in
    let test = breaks_at (breaks_by Reference db) db in
    record {
      further : IsFurther test None l.least;
      came : (place : ℕ) (change : Change) → place < l.change-index → slice_get l.changes place ≡ Some change
          → (name : CellName) → IsWhatCame change name → test name ≡ true → is_reached l.least name ≡ true;
      taken : (place : ℕ) (change : Change) → place < l.change-index → slice_get l.changes place ≡ Some change
          → is_taken change ≡ true → (name : CellName) → RefersTo db change.name name → is_reached l.least name ≡ true;
    }
