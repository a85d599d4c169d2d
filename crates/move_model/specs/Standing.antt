-- How a subject stands to a row.
use Rattle.std.specs.Prelude.{if◌then◌else◌}
use Rattle.own_base.specs.declared.row_name.RowName.{RowName}
use Rattle.own_model.specs.Db.{Db}
use Rattle.subject_model.specs.Owners.{owns, reaches}
use Rattle.move_model.specs.declared.owner_move.Standing.{Standing}
use Rattle.move_model.specs.declared.owner_move.Standing.TheVariants.{Nothing, Reaches, Owns}

-- it owns the row, or reaches it and doesn't own it, or neither
abbrev pub standing : Db → RowName → RowName → Standing
standing db subject name = if owns db subject name then Owns else if reaches db subject name then Reaches else Nothing
