use Rattle.std.proofs.Common.{List, map, ◌++◌, ◌∙◌, subst, sym}
use Rattle.std.specs.List.{filter}
use Rattle.std.specs.Option.{option_copied}
use Rattle.own_model.specs.Db.{Row}
use Rattle.query_model.specs.Truth.{keeps}
use Rattle.query_eval.specs.Enough.{IsEnough}
use Rattle.query_eval.proofs.EnoughLemmas.{enough_before}
use Rattle.query_eval.proofs.pairs.keep_pairs.Goals as goal

-- No more pairs are asked for.
pub returns-then-is_past : goal.returns-then-is_past
returns-then-is_past c =
    let passes = keeps (option_copied c.args.cond) in
    subst (λ (rights : List Row). IsEnough c.args.most (c.args.kept.now ++ filter passes (map (λ right. c.args.left.now ++ right) rights)) c.loop-right.kept) c.rows-right-items.ensures
    (enough_before c.args.most passes (λ right. c.args.left.now ++ right) (λ right. right.now) c.args.kept.now c.loop-right.kept c.rows-right-items.result.now c.loop-right.right-index c.loop-right.invariant
    (sym c.is_past.ensures ∙ c.if-is_past.true))
