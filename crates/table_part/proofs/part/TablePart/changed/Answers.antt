use Rattle.std.proofs.Common.{◌∙◌, sym, ap, subst}
use Rattle.own_base.specs.Key.{key_cmp}
use Rattle.page_model.specs.Changed.{AreKeyed, with_changes}
use Rattle.page_model.specs.Kept.{KeepsPages}
use Rattle.page_model.specs.Page.{joined}
use Rattle.state_model.specs.Put.{changed_key, row_after}
use Rattle.table_part.specs.KeyIn.{key_in}
use Rattle.table_part.specs.Lent.{lent}
use Rattle.table_part.specs.Part.{Part}
use Rattle.table_part.proofs.AnyOrder.{kept-seen, keyed-seen, with_changes-seen}
use Rattle.table_part.proofs.part.TablePart.changed.Goals as goal

pub with_changes-requires-clause-keyed : goal.with_changes-requires-clause-keyed
with_changes-requires-clause-keyed c =
    subst (λ (part : Part). AreKeyed (key_in part.key) (λ one. changed_key (lent one)) (λ one. row_after (lent one)) c.args.sorted.now) (sym c.self.view_is)
    (keyed-seen (key_in c.args.self.now.key) key_cmp changed_key row_after lent c.args.sorted.now c.requires.keyed)

pub returns-clause-rows : goal.returns-clause-rows
returns-clause-rows c =
    c.in_ok-pages.ensures.items
    ∙ (ap (λ (part : Part). with_changes (key_in part.key) key_cmp (λ one. changed_key (lent one)) (λ one. row_after (lent one)) c.args.sorted.now (joined part.pages)) c.self.view_is
    ∙ with_changes-seen (key_in c.args.self.now.key) key_cmp changed_key row_after lent c.args.sorted.now (joined c.args.self.now.pages))

pub returns-clause-kept : goal.returns-clause-kept
returns-clause-kept c =
    kept-seen (key_in c.args.self.now.key) key_cmp changed_key row_after lent c.args.self.now.pages c.in_ok-pages.pages.pages c.args.sorted.now
    (subst (λ (part : Part). KeepsPages (key_in part.key) key_cmp (λ one. changed_key (lent one)) part.pages c.args.sorted.now c.in_ok-pages.pages.pages) c.self.view_is c.in_ok-pages.ensures.kept)
