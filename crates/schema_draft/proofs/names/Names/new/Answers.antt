use Rattle.schema_draft.proofs.NameLookups.{AreNamesOf-empty}
use Rattle.schema_draft.proofs.names.Names.new.Goals as goal

pub returns : goal.returns
returns c = AreNamesOf-empty c.new.result.entries c.new.ensures.empty
