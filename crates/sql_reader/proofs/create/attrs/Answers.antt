use Rattle.std.proofs.Common.{arith, sym, ◌∙◌, subst}
use Rattle.grammar_model.specs.Limits.{store_limits}
use Rattle.sql_reader.specs.reading.Create as rules
use Rattle.sql_reader.proofs.Listing.{Listing, Listing-step, Listing-end, Listing-does}
use Rattle.sql_reader.proofs.create.attrs.Goals as goal

pub returns-in-Err : goal.returns-in-Err
returns-in-Err c =
    Listing-does rules.begins_attr (rules.attr_rule store_limits) (rules.attrs store_limits) c.args.cursor.now c.loop-alloc.attrs c.loop-alloc.cursor c.in-Err.fault c.attr.new.cursor c.loop-alloc.invariant.listing (sym c.next_is_attr.ensures ∙ c.loop-alloc-test.true) c.in-Err.ensures.does

pub loop-alloc-preserved : goal.loop-alloc-preserved
loop-alloc-preserved c =
    record {
      listing = subst (λ list. Listing rules.begins_attr (rules.attr_rule store_limits) (rules.attrs store_limits c.args.cursor.now) list c.attr.new.cursor) (sym c.in_ok-add.ensures.added)
          (Listing-step _ _ _ c.loop-alloc.attrs c.loop-alloc.cursor c.in-Ok.attr c.attr.new.cursor c.loop-alloc.invariant.listing (sym c.next_is_attr.ensures ∙ c.loop-alloc-test.true) c.in-Ok.ensures.does.0 c.in-Ok.ensures.shorter);
      shorter = omega (arith, c.in-Ok.ensures.shorter, c.loop-alloc.invariant.shorter);
    }

pub returns : goal.returns
returns c =
    (Listing-end _ _ _ c.loop-alloc.attrs c.loop-alloc.cursor c.loop-alloc.invariant.listing (sym c.next_is_attr.ensures ∙ c.loop-alloc-test.false), c.loop-alloc.invariant.shorter)
