-- The order of what is filed, and bounds in it.
use Rattle.std.specs.Cmp.{IsTotalOrder, on_total}
use Rattle.std.specs.declared.cmp.Ordering.{Ordering}
use Rattle.own_base.specs.declared.row_name.RowName.{RowName}
use Rattle.own_base.specs.declared.row_name.Subject.{Subject}
use Rattle.ordered_pairs.specs.LeftBound.{before_monotone, is_before, is_upto, upto_monotone}
use Rattle.ordered_pairs.specs.PairOrder.{pair_cmp, pair_total}
use Rattle.owner_sets.specs.SubjectOrder.{subject_cmp}
use Rattle.page_model.specs.Bound.{IsMonotone}
use Rattle.subject_model.specs.NameOrder.{name_cmp}
use Rattle.subject_model.proofs.RisingNames.{name_order}

-- by subject, then by the row's name
abbrev pub place_cmp : Subject × RowName → Subject × RowName → Ordering
place_cmp = pair_cmp subject_cmp name_cmp

pub subject_order : IsTotalOrder subject_cmp
subject_order = on_total (λ (subject : Subject). subject.0) name_order

pub place_total : IsTotalOrder place_cmp
place_total = pair_total subject_cmp name_cmp subject_order name_order

module _ {T : Type 0} (name_of : T → RowName) (subject : Subject) where
  pub before_filed : IsMonotone (λ (filed : Subject × T). (filed.0, name_of filed.1)) place_cmp (is_before subject_cmp subject)
  before_filed one other less below = before_monotone subject_cmp name_cmp subject_order subject (one.0, name_of one.1) (other.0, name_of other.1) less below

  pub upto_filed : IsMonotone (λ (filed : Subject × T). (filed.0, name_of filed.1)) place_cmp (is_upto subject_cmp subject)
  upto_filed one other less below = upto_monotone subject_cmp name_cmp subject_order subject (one.0, name_of one.1) (other.0, name_of other.1) less below
