use Rattle.std.specs.Option.{option_copied}
use Rattle.query_model.specs.Truth.{keeps}
use Rattle.query_eval.proofs.EnoughLemmas.{enough_all}
use Rattle.query_eval.proofs.StoredRows.{kept-stored}
use Rattle.query_eval.proofs.grouping.group.Goals as goal

pub grouped_reply-requires : goal.grouped_reply-requires
grouped_reply-requires g c =
    kept-stored (keeps (option_copied c.as_ref.result)) (g.V.StoreView.db c.args.view.now).rows c.args.query.now.source c.in_ok-kept.kept c.requires.tables.stored (enough_all _ c.in_ok-kept.kept c.in_ok-kept.ensures)
