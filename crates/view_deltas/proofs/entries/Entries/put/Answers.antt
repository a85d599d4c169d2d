use Rattle.std.proofs.lemmas.Result.{on_ok_weaker}
use Rattle.page_model.specs.Paged.{items}
use Rattle.view_deltas.proofs.EntryLemmas.{puts_kept}
use Rattle.view_deltas.proofs.entries.Entries.put.Goals as goal

pub returns : goal.returns
returns g c =
    on_ok_weaker c.change.result
    (puts_kept c.args.place c.args.item c.in_ok-entry.entry (items c.self.inside.pages) c.args.self.now (items c.change.new.self) c.in_ok-entry.ensures.given c.in_ok-entry.ensures.placed c.self.view_is)
    c.change.ensures.items
