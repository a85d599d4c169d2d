use Rattle.std.proofs.Common.{◌||◌, ap, ◌∙◌}
use Rattle.std.specs.List.{list_any}
use Rattle.std.proofs.lemmas.Result.{on_ok_weaker}
use Rattle.run_model.specs.Agree.{overlaps}
use Rattle.row_locks.specs.SessionItems.{all_items, items_by}
use Rattle.row_locks.proofs.Holders.{stand-more}
use Rattle.row_locks.proofs.lock_table.LockTable.grant.Goals as goal

pub returns-clause-held : goal.returns-clause-held
returns-clause-held c =
    on_ok_weaker c.grant.result (λ more items stands.
    stand-more (items_by c.args.self.now c.args.session.0) (items_by (all_items c.grant.new.sessions.items) c.args.session.0) items c.args.footprint (λ item.
    more item
    ∙ (ap (λ table. list_any (overlaps item) (items_by table c.args.session.0) || list_any (overlaps item) c.items.result.now) c.self.view_is
    ∙ ap (λ footprint. list_any (overlaps item) (items_by c.args.self.now c.args.session.0) || list_any (overlaps item) footprint) c.items.ensures)) stands) c.grant.ensures.more
