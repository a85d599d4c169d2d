use Rattle.std.proofs.Common.{sym, ◌∙◌}
use Rattle.page_model.specs.Paged.{items}
use Rattle.txn_space.proofs.OverLemmas.{named_alone, named_entry, named_unchanged}
use Rattle.txn_space.proofs.space.Space.row.Goals as goal

pub returns-in-None : goal.returns-in-None
returns-in-None g c =
    c.row.ensures ∙ sym (named_alone (g.V.StoreView.db c.args.base.now).schema (g.V.StoreView.db c.args.base.now).rows c.args.self.now c.args.name.now c.requires.base c.requires.space c.requires.there c.in-None.ensures)

pub returns-in-None-get : goal.returns-in-None-get
returns-in-None-get g c =
    c.row-in-None-get.ensures
    ∙ sym (named_unchanged (g.V.StoreView.db c.args.base.now).schema (g.V.StoreView.db c.args.base.now).rows c.args.self.now c.args.name.now c.requires.base c.requires.space c.requires.there
    (items c.in-Some.entries.now) c.in-Some.ensures (sym c.in-None-get.ensures))

pub returns-in-Some-get : goal.returns-in-Some-get
returns-in-Some-get g c =
    c.as_ref.ensures.value
    ∙ sym (named_entry (g.V.StoreView.db c.args.base.now).schema (g.V.StoreView.db c.args.base.now).rows c.args.self.now c.args.name.now c.requires.base c.requires.space c.requires.there
    (items c.in-Some.entries.now) c.in-Some-get.entry.now c.in-Some.ensures (sym c.in-Some-get.ensures))
