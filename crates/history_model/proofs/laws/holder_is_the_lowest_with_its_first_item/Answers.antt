use Rattle.std.proofs.Common.{◌≡◌}
use Rattle.std.specs.Prelude.{Option, None, Some}
use Rattle.own_model.specs.declared.footprint.FootItem.{FootItem}
use Rattle.history_model.proofs.HolderLemmas.{holder-found, holder-none}
use Rattle.history_model.proofs.laws.holder_is_the_lowest_with_its_first_item.Goals as goal

never : (o : Option FootItem) (item : FootItem) → o ≡ None → o ≡ Some item → ⊥
never None item none some = cc
never (Some found) item none some = cc

pub returns : goal.returns
returns c = record {
  found = holder-found;
  none = λ world session footprint none other is item stands. never _ item (holder-none world session footprint none other is) stands;
}
