use Rattle.std.proofs.Common.{[], ◌∷◌, ◌∙◌, ap, subst}
use Rattle.std.specs.List.Sorted.{IsStrictlySortedBy}
use Rattle.page_model.specs.Changed.{with_change, with_changes}
use Rattle.page_model.specs.Kept.{KeepsPages}
use Rattle.page_model.specs.Page.{joined}
use Rattle.page_tree.specs.declared.lent.Lent.{Lent}
use Rattle.page_tree.proofs.InPlaceLemmas.{items_changed, one_change}
use Rattle.page_tree.proofs.pages.Pages.change.Goals as goal

-- The change was made in place.
pub returns-then-change_in_place-clause-items : goal.returns-then-change_in_place-clause-items
returns-then-change_in_place-clause-items g c =
    items_changed (g.By.KeyOf.key_of c.args.self.now.by) g.met.By.KeyOf.total g.C.ChangeOf.changed g.C.ChangeOf.put c.args.self.now.pages c.change_in_place.new.self.pages c.args.change.now c.if-change_in_place.ensures.pages

-- One key rises.
pub with_changes-requires-clause-changes : goal.with_changes-requires-clause-changes
unfolding IsStrictlySortedBy
with_changes-requires-clause-changes g c = rw c.from_ref.ensures.value (tt, tt)

-- The sequence was as it was, and was made new.
pub returns-clause-items : goal.returns-clause-items
returns-clause-items g c =
    let cmp = g.By.KeyOf.key_cmp in
    let changed = λ (lent : Lent g.row.C.Denot). g.C.ChangeOf.changed lent.change.now in
    let put = λ (lent : Lent g.row.C.Denot). g.C.ChangeOf.put lent.change.now in
    let before = c.change_in_place.new.self in
    let same = c.if-change_in_place.ensures in
    let made = c.in_ok-self.ensures.items in
    made
    ∙ (ap (λ changes. with_changes (g.By.KeyOf.key_of before.by) cmp changed put changes (joined before.pages)) c.from_ref.ensures.value
    ∙ (one_change (g.By.KeyOf.key_of before.by) g.met.By.KeyOf.total changed put _ (joined before.pages)
    ∙ (ap (λ by. with_change (g.By.KeyOf.key_of by) cmp (g.C.ChangeOf.changed c.args.change.now) (g.C.ChangeOf.put c.args.change.now) (joined before.pages)) same.by
    ∙ ap (λ pages. with_change (g.By.KeyOf.key_of c.args.self.now.by) cmp (g.C.ChangeOf.changed c.args.change.now) (g.C.ChangeOf.put c.args.change.now) (joined pages)) same.pages)))

pub returns-clause-kept : goal.returns-clause-kept
returns-clause-kept g c =
    let cmp = g.By.KeyOf.key_cmp in
    let changed = λ (lent : Lent g.row.C.Denot). g.C.ChangeOf.changed lent.change.now in
    let before = c.change_in_place.new.self in
    let same = c.if-change_in_place.ensures in
    let after = c.in_ok-self.field-0.pages in
    let one = subst (λ changes. KeepsPages (g.By.KeyOf.key_of before.by) cmp changed before.pages changes after) c.from_ref.ensures.value c.in_ok-self.ensures.kept in
    let by = subst (λ how. KeepsPages (g.By.KeyOf.key_of how) cmp g.C.ChangeOf.changed before.pages (c.args.change.now ∷ []) after) same.by one in
    subst (λ old. KeepsPages (g.By.KeyOf.key_of c.args.self.now.by) cmp g.C.ChangeOf.changed old (c.args.change.now ∷ []) after) same.pages by
