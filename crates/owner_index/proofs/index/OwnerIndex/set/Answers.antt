use Rattle.std.proofs.Common.{◌∙◌, ap, subst, List}
use Rattle.std.proofs.lemmas.Result.{on_ok_weaker}
use Rattle.own_base.specs.declared.row_name.RowName.{RowName}
use Rattle.page_model.specs.Changed.{with_change}
use Rattle.page_model.specs.Page.{joined}
use Rattle.subject_model.specs.NameOrder.{name_cmp}
use Rattle.owner_index.specs.Entry.{Entry}
use Rattle.owner_index.specs.Held.{SetsAt}
use Rattle.owner_index.proofs.HeldLemmas.{sets_at}
use Rattle.owner_index.proofs.index.OwnerIndex.set.Goals as goal

pub returns : goal.returns
returns c =
    on_ok_weaker c.change.result (λ is.
    subst (λ (entries : List Entry). SetsAt c.args.name c.args.owners c.args.reach entries (joined c.change.new.self.pages)) c.self.view_is
    (sets_at c.args.name c.in_ok-entry.entry (joined c.self.inside.entries.pages) (joined c.change.new.self.pages) c.in_ok-entry.ensures.name
    (is ∙ ap (λ (key : RowName). with_change (λ (entry : Entry). entry.name) name_cmp key c.in_ok-entry.entry (joined c.self.inside.entries.pages)) c.in_ok-key.ensures)
    c.args.owners c.args.reach c.in_ok-entry.ensures.owners c.in_ok-entry.ensures.reach))
    c.change.ensures.items
