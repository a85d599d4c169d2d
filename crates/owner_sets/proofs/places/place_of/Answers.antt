use Rattle.std.proofs.Common.{◌≡◌, Some, ap, ◌∙◌, length, refl}
use Rattle.std.specs.Prelude.{slice_get}
use Rattle.std.proofs.lemmas.Option.{slice_get_read}
use Rattle.owner_sets.proofs.Searched.{rising_at}
use Rattle.owner_sets.proofs.places.place_of.Goals as goal

pub searched-requires-clause-there : goal.searched-requires-clause-there
searched-requires-clause-there g c =
    let tables = (g.V.StoreView.db c.args.view.now).schema.tables in
    let same : c.items.result.now ≡ tables = c.items.ensures ∙ ap (λ schema. schema.tables) c.schema.ensures in
    slice_get_read tables (length tables) c.args.table.0 c.index-items-table.result refl c.requires.there (rw (← same) c.index-items-table.is)

pub searched-requires-clause-rising : goal.searched-requires-clause-rising
searched-requires-clause-rising g c =
    let tables = (g.V.StoreView.db c.args.view.now).schema.tables in
    let same : c.items.result.now ≡ tables = c.items.ensures ∙ ap (λ schema. schema.tables) c.schema.ensures in
    let found : slice_get tables c.args.table.0 ≡ Some c.index-items-table.result =
    slice_get_read tables (length tables) c.args.table.0 c.index-items-table.result refl c.requires.there (rw (← same) c.index-items-table.is) in
    rising_at tables (g.V.StoreView.db c.args.view.now).rows c.args.table.0 c.index-items-table.result (g.met.V.StoreView.ordered c.args.view.now).rising found
