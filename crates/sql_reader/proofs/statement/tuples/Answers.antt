use Rattle.std.proofs.Common.{codes, arith, sym, ap, ◌∙◌, ◌≡◌, Ok, subst}
use Rattle.grammar_model.specs.Limits.{store_limits}
use Rattle.sql_reader.specs.reading.Reader.{◌>>◌}
use Rattle.sql_reader.specs.reading.Statements as rules
use Rattle.grammar_model.specs.Terminal.{is_mark}
use Rattle.sql_reader.specs.reading.Rules.{mark, tuple}
use Rattle.sql_reader.specs.reading.Reader.{then_read}
use Rattle.sql_reader.proofs.Listing.{Listing, Listing-step, Listing-end}
use Rattle.sql_reader.proofs.statement.tuples.Goals as goal

pub loop-alloc-preserved : goal.loop-alloc-preserved
loop-alloc-preserved c =
    let reads = ap (λ o. then_read o (λ _. tuple store_limits)) c.in_ok-mark.ensures.does.0 ∙ c.in_ok-row.ensures.0 in
    record {
      listing = subst (λ list. Listing (is_mark (codes ",")) (mark (codes ",") >> tuple store_limits) (rules.tuples store_limits c.args.cursor.now) list c.tuple-in-loop-alloc.new.cursor) (sym c.in_ok-add.ensures.added)
          (Listing-step _ _ _ c.loop-alloc.rows c.loop-alloc.cursor c.in_ok-row.row c.tuple-in-loop-alloc.new.cursor c.loop-alloc.invariant.listing (sym c.next_is_mark.ensures ∙ c.loop-alloc-test.true) reads (omega (arith, c.in_ok-mark.ensures.shorter, c.in_ok-row.ensures.1)));
      shorter = omega (arith, c.in_ok-mark.ensures.shorter, c.in_ok-row.ensures.1, c.loop-alloc.invariant.shorter);
    }

pub returns : goal.returns
returns c = (
  subst (λ tuples. rules.tuples store_limits c.args.cursor.now ≡ Ok (tuples, c.loop-alloc.cursor)) (sym c.shrink_to_fit.ensures)
      (Listing-end _ _ _ c.loop-alloc.rows c.loop-alloc.cursor c.loop-alloc.invariant.listing (sym c.next_is_mark.ensures ∙ c.loop-alloc-test.false)),
  c.loop-alloc.invariant.shorter,
)
