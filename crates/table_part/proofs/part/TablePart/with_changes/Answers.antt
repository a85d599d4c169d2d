use Rattle.std.proofs.Common.{◌≡◌, ◌∙◌, ◌≤◌, ◌<◌, List, [], ◌∷◌, length, get_or, sym, ap, subst, map, arith}
use Rattle.std.proofs.lemmas.Result.{IfOk-weaker}
use Rattle.own_base.specs.Key.{key_cmp}
use Rattle.own_base.specs.declared.change.Change.{Change}
use Rattle.own_model.proofs.KeyOrder.{key_order}
use Rattle.page_model.specs.Changed.{AreKeyed, with_changes}
use Rattle.page_model.specs.Kept.{KeepsPages}
use Rattle.state_model.specs.Put.{changed_key, row_after}
use Rattle.table_part.specs.KeyIn.{key_in}
use Rattle.table_part.specs.Lent.{lent}
use Rattle.table_part.specs.Part.{Part, rows_of}
use Rattle.table_part.proofs.AnyOrder.{each_permuted, rising-seen, same_items, same_kept}
use Rattle.table_part.proofs.part.TablePart.with_changes.Goals as goal

-- the one change of a list
only : (changes : List Change) (change : Change) → 1 ≤ length changes → length changes < 2 → change ≡ get_or changes 0 change → change ∷ [] ≡ changes
only [] change some few is = absurd (omega arith)
only (first ∷ []) change some few is = ap (λ one. one ∷ []) is
only (first ∷ second ∷ rest) change some few is = absurd (omega arith)

pub returns-in-len1-clause-kept : goal.returns-in-len1-clause-kept
returns-in-len1-clause-kept c =
    let is = only c.args.changes.now c.change-item.result c.in-len1.len_at_least c.in-len1.len_below c.change-item.is in
    IfOk-weaker c.changed.result
    (λ (after : Part). KeepsPages (key_in c.args.self.now.key) key_cmp changed_key c.args.self.now.pages (c.change-item.result ∷ []) after.pages)
    (λ (after : Part). KeepsPages (key_in c.args.self.now.key) key_cmp changed_key c.args.self.now.pages c.args.changes.now after.pages)
    (λ after. subst (λ changes. KeepsPages (key_in c.args.self.now.key) key_cmp changed_key c.args.self.now.pages changes after.pages) is)
    c.changed.ensures.kept

pub changed-requires-2-clause-keyed : goal.changed-requires-2-clause-keyed
changed-requires-2-clause-keyed c =
    subst (λ keyed. AreKeyed (key_in c.args.self.now.key) changed_key row_after (map lent keyed)) (sym c.as_slice.ensures.value)
    (each_permuted _ c.args.changes.now (map lent c.in_ok-sorted.sorted.items) c.in_ok-sorted.ensures.same c.requires.keyed)

pub returns-clause-rows : goal.returns-clause-rows
returns-clause-rows c =
    let sorted = map lent c.in_ok-sorted.sorted.items in
    let rows = rows_of c.args.self.now in
    let same = same_items (key_in c.args.self.now.key) key_order changed_key row_after c.args.changes.now sorted rows c.requires.differ
    (rising-seen (key_in c.args.self.now.key) key_cmp changed_key row_after lent c.in_ok-sorted.sorted.items c.in_ok-sorted.ensures.rising) c.in_ok-sorted.ensures.same c.requires.keyed c.len-rows.ensures.rising in
    IfOk-weaker c.changed-2.result
    (λ (after : Part). rows_of after ≡ with_changes (key_in c.args.self.now.key) key_cmp changed_key row_after (map lent c.as_slice.result.now) rows)
    (λ (after : Part). rows_of after ≡ with_changes (key_in c.args.self.now.key) key_cmp changed_key row_after c.args.changes.now rows)
    (λ after is. is ∙ (ap (λ keyed. with_changes (key_in c.args.self.now.key) key_cmp changed_key row_after (map lent keyed) rows) c.as_slice.ensures.value ∙ same))
    c.changed-2.ensures.rows

pub returns-clause-kept : goal.returns-clause-kept
returns-clause-kept c =
    let keeps : List Change → Part → Type 0 = λ changes after. KeepsPages (key_in c.args.self.now.key) key_cmp changed_key c.args.self.now.pages changes after.pages in
    IfOk-weaker c.changed-2.result (keeps (map lent c.as_slice.result.now)) (keeps c.args.changes.now)
    (λ after kept. same_kept (key_in c.args.self.now.key) key_cmp changed_key c.args.self.now.pages after.pages c.args.changes.now (map lent c.in_ok-sorted.sorted.items) c.in_ok-sorted.ensures.same
    (subst (λ keyed. keeps (map lent keyed) after) c.as_slice.ensures.value kept))
    c.changed-2.ensures.kept
