-- The order of subjects.
use Rattle.std.specs.declared.cmp.Ordering.{Ordering}
use Rattle.own_base.specs.declared.row_name.Subject.{Subject}
use Rattle.subject_model.specs.NameOrder.{name_cmp}

-- that of their names
abbrev pub subject_cmp : Subject → Subject → Ordering
subject_cmp one other = name_cmp one.0 other.0
