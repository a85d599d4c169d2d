use Rattle.state_model.proofs.StoredRows.{all_stored}
use Rattle.store_snapshot.proofs.KeptViews.{views_there-created}
use Rattle.view_select.proofs.WholeRows.{whole_rows}
use Rattle.store_snapshot.proofs.reading.selected.Goals as goal

-- the keys of rows rise, and no sum stands in them
pub select_linked-requires-clause-tables : goal.select_linked-requires-clause-tables
select_linked-requires-clause-tables c =
    let db = c.args.version.now in
    let kept = c.requires.well_formed in
    record { rising = kept.ordered.rising; stored = all_stored db.schema.tables db.rows kept.rows }

pub select_linked-requires-clause-views : goal.select_linked-requires-clause-views
select_linked-requires-clause-views c = views_there-created c.args.version.now c.requires.well_formed.created

-- each row has all its values
pub select_linked-requires-clause-whole : goal.select_linked-requires-clause-whole
select_linked-requires-clause-whole c = whole_rows c.args.version.now.schema c.args.version.now.rows c.requires.well_formed.rows
