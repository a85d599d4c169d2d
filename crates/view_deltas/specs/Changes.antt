-- Changes one after another, of which some may be of other tables.
use Rattle.std.specs.Prelude.{◌≡◌, ℕ, List, [], ◌∷◌, true, if◌then◌else◌}
use Rattle.own_base.specs.declared.change.Change.{Change}
use Rattle.own_model.specs.declared.schema.TableDef.{TableDef}
use Rattle.own_model.specs.Db.{Row}
use Rattle.state_model.specs.Put.{is_of_table}
use Rattle.view_deltas.specs.TableRows.{AreRows, changed, Fits}

-- the rows of a table of this number after a change, and after some
abbrev pub after_change : ℕ → TableDef → Change → List Row → List Row
after_change number table change rows = if is_of_table number change then changed table change.name.key change.after rows else rows

unfoldable pub after_changes : ℕ → TableDef → List Change → List Row → List Row
after_changes number table [] rows = rows
after_changes number table (change ∷ changes) rows = after_changes number table changes (after_change number table change rows)

-- each of the table fits when it comes
unfoldable pub AllFit : ℕ → TableDef → List Change → List Row → Type 0
AllFit number table [] rows = Unit {0}
AllFit number table (change ∷ changes) rows =
    (is_of_table number change ≡ true → Fits table rows change.name.key change.before change.after) × AllFit number table changes (after_change number table change rows)

-- What is kept of the rows of a table becomes what is kept of them after a change, which may be of another table.
abbrev pub FollowsOne : {S : Type 0} → (List Row → S → Type 0) → ℕ → TableDef → Change → S → S → Type 0
FollowsOne Keeps number table change old new =
    (rows : List Row) → AreRows table rows → (is_of_table number change ≡ true → Fits table rows change.name.key change.before change.after) → Keeps rows old
    → Keeps (after_change number table change rows) new

-- and after some
abbrev pub FollowsAll : {S : Type 0} → (List Row → S → Type 0) → ℕ → TableDef → List Change → S → S → Type 0
FollowsAll Keeps number table changes old new = (rows : List Row) → AreRows table rows → AllFit number table changes rows → Keeps rows old → Keeps (after_changes number table changes rows) new

-- on the way through them: what is kept is that of rows of which the changes that are left make the rows wanted
pub record Halfway {S : Type 0} (Keeps : List Row → S → Type 0) (number : ℕ) (table : TableDef) (left : List Change) (state : S) (wanted : List Row) : Type 0 where
  pub rows : List Row
  pub are : AreRows table rows
  pub fit : AllFit number table left rows
  pub kept : Keeps rows state
  pub same : after_changes number table left rows ≡ wanted
