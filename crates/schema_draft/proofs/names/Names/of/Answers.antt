use Rattle.schema_draft.proofs.NameLookups.{AreNamesOf-added}
use Rattle.schema_draft.proofs.names.Names.of.Goals as goal

pub returns : goal.returns
returns c = AreNamesOf-added c.args.schema.now _ _ c.items.ensures c.items-2.ensures c.new-names.ensures c.in_ok-add_tables.ensures c.in_ok-add_views.ensures
