-- What a FORGET leaves of a database that a store may represent is one.
use Rattle.std.proofs.Common.{◌≡◌, []}
use Rattle.std.specs.Prelude.{IsTrue}
use Rattle.own_base.specs.declared.row_name.RowName.{RowName}
use Rattle.own_model.specs.Db.{Db}
use Rattle.schema_model.specs.Tables.{is_subject}
use Rattle.subject_model.specs.Forget.{forget}
use Rattle.state_model.specs.Fault.{limit_faults}
use Rattle.state_model.specs.Sound.{IsWellFormed, Sound}
use Rattle.state_model.proofs.CreatedSchema.{owner_schema-created}
use Rattle.state_model.proofs.Faultless.{faultless-from, from-faultless}
use Rattle.state_model.proofs.ForgetFaults.{owner_faults-forget, reference_faults-forget, unique_faults-forget}
use Rattle.state_model.proofs.ForgetKept.{kept-forget}
use Rattle.state_model.proofs.ForgetLimits.{limits-forget}
use Rattle.state_model.proofs.OwnersLeft.{owners-stay}

module _ (db : Db) (subject : RowName) (of_subjects : IsTrue (is_subject db.schema subject.table.0)) where
  -- no limit is passed
  pub limit_faults-forget : IsWellFormed db → limit_faults db ≡ [] → limit_faults (forget db subject) ≡ []
  limit_faults-forget kept none =
      let owner = owner_schema-created db kept.created in
      limits-forget db subject kept.ordered owner (owners-stay db subject kept.ordered owner of_subjects) none

  -- and nothing else is wrong
  pub sound-forget : Sound db → Sound (forget db subject)
  sound-forget sound =
      let owner = owner_schema-created db sound.well_formed.created in
      let before = faultless-from db sound.faultless in
      record {
        well_formed = kept-forget db subject sound.well_formed;
        faultless = from-faultless (forget db subject) (record {
          unique = unique_faults-forget db subject owner before.unique;
          reference = reference_faults-forget db subject owner before.reference;
          owner = owner_faults-forget db subject owner sound.well_formed.ordered of_subjects;
          limit = limit_faults-forget sound.well_formed before.limit;
        });
      }
