-- A list of subjects as a set.
use Rattle.std.specs.Prelude.{List, Contains, ◌↔◌}
use Rattle.std.specs.List.Sorted.{IsStrictlySortedBy}
use Rattle.own_base.specs.declared.row_name.Subject.{Subject}
use Rattle.owner_sets.specs.SubjectOrder.{subject_cmp}

-- the same subjects, rising, each once
pub record IsSortedSet (given set : List Subject) : Type 0 where
  pub rising : IsStrictlySortedBy subject_cmp set
  pub same : (subject : Subject) → Contains set subject ↔ Contains given subject
