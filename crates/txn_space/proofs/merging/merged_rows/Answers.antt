use Rattle.std.proofs.Common.{subst, ◌∷◌, ◌≡◌}
use Rattle.own_base.specs.Key.{key_cmp}
use Rattle.own_model.specs.Db.{key_of}
use Rattle.own_model.specs.Stored.{rows_at}
use Rattle.page_model.specs.Changed.{AreKeyed}
use Rattle.page_model.specs.Paged.{items}
use Rattle.page_model.specs.Rising.{IsRising}
use Rattle.page_model.proofs.RisingLemmas.{rising_tail}
use Rattle.txn_space.specs.Changed.{rows_with}
use Rattle.txn_space.specs.Entries.{entry_key, entry_row}
use Rattle.txn_space.proofs.MergeLemmas.{merged_last, merged_more}
use Rattle.txn_space.proofs.merging.merged_rows.Goals as goal

-- An entry more is merged.
pub loop-entry-preserved : goal.loop-entry-preserved
loop-entry-preserved g c =
    let steps : c.loop-entry.entry-iterator ≡ c.in-Some.entry.now ∷ c.next.new.self = c.in-Some.ensures.steps in
    let rising = subst (IsRising entry_key key_cmp) steps c.loop-entry.invariant.entries in
    let keyed = subst (AreKeyed (key_of c.args.definition.now) entry_key entry_row) steps c.loop-entry.invariant.keyed in
    let whole = rows_with c.args.definition.now (items c.args.entries.now) (rows_at (g.V.StoreView.db c.args.base.now).rows c.args.table.0) in
    record {
      entries = rising_tail entry_key key_cmp c.in-Some.entry.now c.next.new.self rising;
      keyed = keyed.1;
      rising = c.in_ok-add_up_to.ensures.rising;
      whole = merged_more c.args.definition.now c.in-Some.entry.now c.next.new.self c.loop-entry.rows c.add_up_to.new.rows c.loop-entry.left c.add_up_to.new.left whole rising keyed
          c.in_ok-add_up_to.ensures.rows c.in_ok-add_up_to.ensures.left (rw (← steps) c.loop-entry.invariant.whole);
    }

-- The rows behind the last entry's key are left.
pub loop-row-init : goal.loop-row-init
loop-row-init g c =
    let whole = rows_with c.args.definition.now (items c.args.entries.now) (rows_at (g.V.StoreView.db c.args.base.now).rows c.args.table.0) in
    rw (c.into_iter-row-iterator.ensures.into_iter_gives) (merged_last c.args.definition.now c.loop-entry.entry-iterator c.loop-entry.rows c.loop-entry.left whole c.in-None.ensures.steps.0 c.loop-entry.invariant.whole)
