use Rattle.shelf_model.proofs.ShelfLemmas.{shelf-members, shelf_rises}
use Rattle.shelf_model.proofs.laws.shelf_has_a_copy_of_each_row_owned.Goals as goal

pub returns : goal.returns
returns c = record {
  members = λ db subject copy ordered owner. shelf-members db subject ordered owner copy;
  in_order = λ db subject ordered. shelf_rises db subject ordered;
}
