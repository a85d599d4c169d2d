use Rattle.std.proofs.Common.{◌||◌, arith, sym, ap, ◌∙◌}
use Rattle.std.specs.List.{list_any}
use Rattle.std.proofs.lemmas.Result.{on_err_weaker, on_ok_weaker}
use Rattle.run_model.specs.Agree.{overlaps}
use Rattle.row_locks.proofs.SessionItems.{items_got, items_other, items_own, items_same}
use Rattle.row_locks.proofs.sessions.grant.Goals as goal

pub returns-clause-more : goal.returns-clause-more
returns-clause-more c =
    on_ok_weaker c.grant.result (λ more asked.
    ap (list_any (overlaps asked)) (items_own c.grow.new.sessions.items c.args.session.0 c.grant.new.self (omega (arith, c.in_ok-grow.ensures.enough)))
    ∙ (more asked
    ∙ ap (λ items. list_any (overlaps asked) items || list_any (overlaps asked) c.args.items.now)
    (sym (items_got c.grow.new.sessions.items c.args.session.0 c.index_mut.result.now (omega (arith, c.in_ok-grow.ensures.enough)) c.index_mut.ensures.value) ∙ c.in_ok-grow.ensures.same c.args.session.0))) c.grant.ensures.more

pub returns-clause-others : goal.returns-clause-others
returns-clause-others c = λ other apart. items_other c.grow.new.sessions.items c.args.session.0 other c.grant.new.self apart ∙ c.in_ok-grow.ensures.same other

pub returns-clause-unchanged : goal.returns-clause-unchanged
returns-clause-unchanged c =
    on_err_weaker c.grant.result (λ unchanged number.
    items_same c.grow.new.sessions.items c.args.session.0 c.index_mut.result.now c.grant.new.self c.index_mut.ensures.value unchanged number ∙ c.in_ok-grow.ensures.same number) c.grant.ensures.unchanged
