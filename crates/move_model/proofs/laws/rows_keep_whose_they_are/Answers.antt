use Rattle.std.proofs.Common.{subst}
use Rattle.schema_model.specs.OwnerSchema.{IsOwnerSchema}
use Rattle.subject_model.specs.LocalEquation.{counts_for_owners, counts_for_reach}
use Rattle.subject_model.specs.Owners.{owners, reach}
use Rattle.move_model.proofs.KeptLists.{kept_list}
use Rattle.move_model.proofs.Listing.{owners_are, reach_are}
use Rattle.move_model.proofs.laws.rows_keep_whose_they_are.Goals as goal

pub returns-clause-owners : goal.returns-clause-owners
returns-clause-owners c = λ before after name ordered also owner schema keeps above.
    kept_list before after name schema keeps (owners before) (owners after) above counts_for_owners (owners_are before ordered (subst IsOwnerSchema schema owner)) (owners_are after also owner)

pub returns-clause-reach : goal.returns-clause-reach
returns-clause-reach c = λ before after name ordered also owner schema keeps above.
    kept_list before after name schema keeps (reach before) (reach after) above counts_for_reach (reach_are before ordered (subst IsOwnerSchema schema owner)) (reach_are after also owner)
