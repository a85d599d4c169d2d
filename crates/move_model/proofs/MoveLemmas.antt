-- The moves of two databases.
use Rattle.std.proofs.Common.{◌≡◌, List}
use Rattle.std.specs.Cmp.{IsTotalOrder}
use Rattle.std.proofs.lemmas.Cmp.{on_total, then_total}
use Rattle.own_model.specs.Db.{Db}
use Rattle.subject_model.proofs.RisingNames.{name_order, same_rising}
use Rattle.move_model.specs.declared.owner_move.OwnerMove.{OwnerMove}
use Rattle.move_model.specs.MoveOrder.{move_cmp}
use Rattle.move_model.specs.Moves.{AreMovesOf}

-- their order is total
pub move_order : IsTotalOrder move_cmp
move_order = then_total (on_total (λ move. move.name) name_order) (on_total (λ move. move.subject.0) name_order)

-- they are one list
pub one_list : (before after : Db) (one other : List OwnerMove) → AreMovesOf before after one → AreMovesOf before after other → one ≡ other
one_list before after one other are also =
    same_rising move_order one other are.rise also.rise (λ move. ((λ among. (also.told move).1 ((are.told move).0 among)), (λ among. (are.told move).1 ((also.told move).0 among))))
