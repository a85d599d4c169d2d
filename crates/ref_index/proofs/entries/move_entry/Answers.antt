use Rattle.std.proofs.Common.{◌≡◌, sym, ◌∙◌}
use Rattle.std.proofs.lemmas.Result.{on_ok_weaker}
use Rattle.ref_index.specs.Entries.{held_in}
use Rattle.ref_index.proofs.EntryLemmas.{moved, same_moves}
use Rattle.ref_index.proofs.entries.move_entry.Goals as goal

-- Both rows hold the same.
pub returns-then-is_same : goal.returns-then-is_same
returns-then-is_same c =
    let same : held_in c.args.column.0 c.args.change.now.before ≡ held_in c.args.column.0 c.args.change.now.after =
    sym c.in_ok-before.ensures ∙ (c.is_same.ensures c.if-is_same.true ∙ c.in_ok-after.ensures) in
    same_moves c.args.column.0 c.args.change.now c.args.pairs.now same

-- The one entry has gone, and the other come.
pub returns : goal.returns
returns c =
    on_ok_weaker c.put_entry.result
    (λ put. moved c.args.column.0 c.args.change.now c.in_ok-before.before c.in_ok-after.after c.args.pairs.now c.take_entry.new.pairs c.put_entry.new.pairs c.in_ok-before.ensures c.in_ok-after.ensures c.in_ok-take_entry.ensures put)
    c.put_entry.ensures
