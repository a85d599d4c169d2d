use Rattle.std.specs.Option.{option_copied}
use Rattle.query_model.specs.Truth.{keeps}
use Rattle.query_eval.proofs.EnoughLemmas.{enough_all}
use Rattle.query_eval.proofs.StoredRows.{kept-stored}
use Rattle.query_eval.proofs.views.view_rows.Goals as goal

pub grouped_rows-requires : goal.grouped_rows-requires
grouped_rows-requires g c =
    kept-stored (keeps (option_copied c.as_ref.result)) (g.V.StoreView.db c.args.view.now).rows c.args.definition.now.query.source c.in_ok-kept.kept c.requires.tables.stored (enough_all _ c.in_ok-kept.kept c.in_ok-kept.ensures)
