-- Flags of rows by their names.
use Rattle.std.proofs.Common.{◌≡◌, ℕ, Bool, false, get_or, ap, ◌∙◌}
use Rattle.own_base.specs.declared.row_name.RowName.{RowName}
use Rattle.own_model.specs.Db.{Db}
use Rattle.owner_sets.proofs.Standing.{StandsAt, name_of-standing}
use Rattle.subject_erase.specs.Flags.{AreFlagsOfTable}

-- the flag at a row's place is what the test says of its name
pub flag-standing : (db : Db) (test : RowName → Bool) (name : RowName) (place : ℕ) (flags : _) → AreFlagsOfTable db test name.table.0 flags → StandsAt db name place
    → get_or flags place false ≡ test name
flag-standing db test name place flags are stands =
    are.at place stands.definition stands.row stands.table_is stands.row_is ∙ ap test (name_of-standing db name place stands)
