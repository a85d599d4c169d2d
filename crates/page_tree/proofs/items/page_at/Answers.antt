use Rattle.std.proofs.Common.{sym}
use Rattle.page_tree.proofs.WalkLemmas.{items_from_page}
use Rattle.page_tree.proofs.items.page_at.Goals as goal

pub returns-clause-first : goal.returns-clause-first
returns-clause-first g c = items_from_page c.args.all.now.pages c.args.number c.in-Some.page.now (sym c.in-Some.ensures.lookup)
