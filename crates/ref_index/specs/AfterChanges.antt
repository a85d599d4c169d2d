-- The rows of a table, each under its key, after changes one after another.
use Rattle.std.specs.Prelude.{◌≡◌, ℕ, List, [], ◌∷◌, true, ◌&&◌, Option, if◌then◌else◌}
use Rattle.std.specs.Ordering.{is_eq}
use Rattle.own_base.specs.Key.{key_cmp}
use Rattle.own_base.specs.declared.change.Change.{Change}
use Rattle.own_base.specs.declared.value.Key.{Key}
use Rattle.own_model.specs.Db.{Row}
use Rattle.state_model.specs.Put.{is_of_table}

-- under the key of a change of the table stands the row that it puts, or none
abbrev pub after_change : ℕ → Change → (Key → Option Row) → Key → Option Row
after_change table change rows key = if is_of_table table change && is_eq (key_cmp change.name.key key) then change.after else rows key

unfoldable pub after_changes : ℕ → List Change → (Key → Option Row) → Key → Option Row
after_changes table [] rows = rows
after_changes table (change ∷ changes) rows = after_changes table changes (after_change table change rows)

-- each change of the table tells what stands under its key when it comes
unfoldable pub Fit : ℕ → List Change → (Key → Option Row) → Type 0
Fit table [] rows = Unit {0}
Fit table (change ∷ changes) rows = (is_of_table table change ≡ true → change.before ≡ rows change.name.key) × Fit table changes (after_change table change rows)
