use Rattle.subject_model.proofs.OwnerLists.{only_owners, only_reach}
use Rattle.subject_model.proofs.laws.rising_lists_that_meet_it_are_the_owners.Goals as goal

pub returns : goal.returns
returns c = record { owners = only_owners; reach = only_reach }
