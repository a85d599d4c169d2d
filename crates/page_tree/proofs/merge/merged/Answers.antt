use Rattle.std.proofs.Common.{◌++◌, arith, sym, ap, subst, ◌∙◌}
use Rattle.std.proofs.lemmas.List.{drop_all}
use Rattle.page_model.specs.Changed.{with_changes}
use Rattle.page_model.specs.Rising.{IsRising}
use Rattle.page_model.proofs.ChangedLemmas.{merged_next, rising_filter}
use Rattle.page_tree.proofs.merge.merged.Goals as goal

pub loop-change-preserved : goal.loop-change-preserved
loop-change-preserved g c =
    let key_of = g.By.KeyOf.key_of c.args.by in
    let order = g.met.By.KeyOf.total in
    let added = c.in_ok-left.ensures.added in
    let above = c.in_ok-left.ensures.left in
    record {
      rising = subst (IsRising key_of g.By.KeyOf.key_cmp) (sym above) (rising_filter key_of order g.C.ChangeOf.changed g.C.ChangeOf.put _ c.loop-change.left.now c.loop-change.invariant.rising);
      items = merged_next key_of order g.C.ChangeOf.changed g.C.ChangeOf.put c.args.changes.now c.loop-change.change-index c.change-item.result c.loop-change.made.items.items c.merge_change.new.made.items.items c.loop-change.left.now c.in_ok-left.left.now _
          c.loop-change-test.true c.change-item.is c.requires.changes c.requires.keyed added above c.loop-change.invariant.items;
    }

pub returns : goal.returns
unfolding with_changes
returns g c =
    let key_of = g.By.KeyOf.key_of c.args.by in
    let cmp = g.By.KeyOf.key_cmp in
    let after = with_changes key_of cmp g.C.ChangeOf.changed g.C.ChangeOf.put in
    let none = drop_all c.loop-change.change-index c.args.changes.now (omega arith) in
    c.in_ok-push_copies.ensures ∙ (ap (λ cs. c.loop-change.made.items.items ++ after cs c.loop-change.left.now) (sym none) ∙ c.loop-change.invariant.items)
