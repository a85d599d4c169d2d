use Rattle.view_select.proofs.WellFormedViews.{views_of-created}
use Rattle.state_tests.proofs.viewing_looks.looked.Goals as goal

-- what the version keeps is of its views
pub with_changes-requires-clause-count : goal.with_changes-requires-clause-count
with_changes-requires-clause-count g c = (c.views.ensures c.requires.sound.well_formed).count

pub with_changes-requires-clause-views : goal.with_changes-requires-clause-views
with_changes-requires-clause-views g c = views_of-created c.args.version.now c.requires.sound.well_formed.created
