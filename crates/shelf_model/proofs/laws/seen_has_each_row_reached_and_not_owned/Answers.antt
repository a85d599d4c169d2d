use Rattle.shelf_model.proofs.ShelfLemmas.{seen-members, seen-rise}
use Rattle.shelf_model.proofs.laws.seen_has_each_row_reached_and_not_owned.Goals as goal

pub returns : goal.returns
returns c = record {
  members = λ db subject name ordered owner. seen-members db subject ordered owner name;
  in_order = λ db subject ordered. seen-rise db subject ordered;
}
