-- The subjects that a list holds.
use Rattle.std.specs.Prelude.{List, []}
use Rattle.std.specs.Arc.{arc_value}
use Rattle.own_base.specs.declared.row_name.Subject.{Subject}
use Rattle.owner_index.specs.declared.subject_list.SubjectPlaces.{SubjectPlaces}
use Rattle.owner_index.specs.declared.subject_list.SubjectPlaces.TheVariants.{Nowhere, One, Two, Shared}

-- the same, in the place itself or shared, in one piece or in two
abbrev pub subjects_in : SubjectPlaces → List Subject
subjects_in Nowhere = []
subjects_in (One one) = one
subjects_in (Two shared) = arc_value shared
subjects_in (Shared shared) = arc_value shared
