use Rattle.std.proofs.Common.{◌≡◌, ◌++◌, drop}
use Rattle.page_model.specs.Changed.{with_changes}
use Rattle.page_model.specs.Rising.{IsRising}
use Rattle.page_tree.proofs.merge.merged.Given as goal

-- what is made, and what the changes that are left make of the items that are left
abbrev pub invariant-loop-change : goal.invariant-loop-change
invariant-loop-change g l =
    let key_of = g.By.KeyOf.key_of l.by in
    let cmp = g.By.KeyOf.key_cmp in
    let after = with_changes key_of cmp g.C.ChangeOf.changed g.C.ChangeOf.put in
    record {
      rising : IsRising key_of cmp l.left;
      items : l.made.items.items ++ after (drop l.change-index l.changes) l.left ≡ after l.changes l.fn.items;
    }
