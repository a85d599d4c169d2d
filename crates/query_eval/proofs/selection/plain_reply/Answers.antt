use Rattle.std.proofs.Common.{List, Some, ap, sym, ◌∙◌, map}
use Rattle.own_model.specs.declared.limit.TheConstants.{REPLY_ROWS}
use Rattle.own_model.specs.declared.reply.Reply.TheVariants.{Rows}
use Rattle.own_model.specs.Db.{Row}
use Rattle.query_model.specs.Query.{projected}
use Rattle.query_eval.proofs.EnoughLemmas.{all_enough}
use Rattle.query_eval.proofs.Replies.{few_kept, too_many_kept}
use Rattle.query_eval.proofs.selection.plain_reply.Goals as goal

-- too many rows are kept, and so there are too many
pub returns-then-is_past-clause-all : goal.returns-then-is_past-clause-all
returns-then-is_past-clause-all c = too_many_kept c.args.query.now.items c.args.query.now.order c.args.kept c.args.kept (all_enough (Some REPLY_ROWS) c.args.kept) (sym c.is_past.ensures ∙ c.if-is_past.true)

pub returns-then-is_past-clause-enough : goal.returns-then-is_past-clause-enough
returns-then-is_past-clause-enough c = λ rows enough. too_many_kept c.args.query.now.items c.args.query.now.order rows c.args.kept enough (sym c.is_past.ensures ∙ c.if-is_past.true)

-- what is kept is all there is
pub returns-clause-all : goal.returns-clause-all
returns-clause-all c =
    ap (λ (shown : List Row). Rows shown) ((rw c.items.ensures at c.in_ok-shown_rows.ensures) ∙ ap (map (projected c.args.query.now.items)) c.in_ok-put_in_order.ensures)
    ∙ few_kept c.args.query.now.items c.args.query.now.order c.args.kept c.args.kept (all_enough (Some REPLY_ROWS) c.args.kept) (sym c.is_past.ensures ∙ c.if-is_past.false)

pub returns-clause-enough : goal.returns-clause-enough
returns-clause-enough c = λ rows enough.
    ap (λ (shown : List Row). Rows shown) ((rw c.items.ensures at c.in_ok-shown_rows.ensures) ∙ ap (map (projected c.args.query.now.items)) c.in_ok-put_in_order.ensures)
    ∙ few_kept c.args.query.now.items c.args.query.now.order rows c.args.kept enough (sym c.is_past.ensures ∙ c.if-is_past.false)
