use Rattle.std.proofs.Common.{length, arith, sym, ap, ◌∙◌, subst, Ok, Err}
use Rattle.grammar_model.specs.Limits.{store_limits}
use Rattle.sql_reader.specs.reading.Reader.{then_read, Does}
use Rattle.sql_reader.specs.reading.Select as rules
use Rattle.sql_reader.proofs.Itemizing.{Itemizing, Itemizing-step, Itemizing-end, Itemizing-does}
use Rattle.sql_reader.proofs.select.listed.Goals as goal

pub returns-in-Err : goal.returns-in-Err
returns-in-Err c =
    Itemizing-does store_limits (rules.listed store_limits) c.args.cursor.now c.loop-alloc.items c.loop-alloc.cursor c.mark.new.self c.in-Err.fault c.item_after-in-loop-alloc.new.cursor c.loop-alloc.invariant.itemizing (sym c.next_is_mark.ensures ∙ c.loop-alloc-test.true) c.in_ok-mark.ensures.does.0
    (subst (λ l. Does (rules.item_after store_limits (length l)) c.mark.new.self (Err c.in-Err.fault) c.item_after-in-loop-alloc.new.cursor) c.items-count.ensures c.in-Err.ensures)

pub loop-alloc-preserved : goal.loop-alloc-preserved
loop-alloc-preserved c =
    let found = subst (λ l. Does (rules.item_after store_limits (length l)) c.mark.new.self (Ok c.in-Ok.next) c.item_after-in-loop-alloc.new.cursor) c.items-count.ensures c.in-Ok.ensures in
    let reads = ap (λ o. then_read o (λ _. rules.item_after store_limits (length c.loop-alloc.items))) c.in_ok-mark.ensures.does.0 ∙ found.0 in
    record {
      itemizing = subst (λ list. Itemizing store_limits (rules.listed store_limits c.args.cursor.now) list c.item_after-in-loop-alloc.new.cursor) (sym c.in_ok-add.ensures.added)
          (Itemizing-step store_limits _ c.loop-alloc.items c.loop-alloc.cursor c.in-Ok.next c.item_after-in-loop-alloc.new.cursor c.loop-alloc.invariant.itemizing (sym c.next_is_mark.ensures ∙ c.loop-alloc-test.true) reads (omega (arith, c.in_ok-mark.ensures.shorter, found.1)));
      shorter = omega (arith, c.in_ok-mark.ensures.shorter, found.1, c.loop-alloc.invariant.shorter);
    }

pub returns : goal.returns
returns c =
    (Itemizing-end store_limits _ c.loop-alloc.items c.loop-alloc.cursor c.loop-alloc.invariant.itemizing (sym c.next_is_mark.ensures ∙ c.loop-alloc-test.false), c.loop-alloc.invariant.shorter)
