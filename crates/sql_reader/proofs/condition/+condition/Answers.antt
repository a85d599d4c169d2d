use Rattle.std.proofs.Common.{codes, arith, sym, ap, ◌∙◌, subst}
use Rattle.grammar_model.specs.Limits.{store_limits}
use Rattle.sql_reader.specs.reading.Condition as rules
use Rattle.sql_reader.specs.reading.Reader.{then_read, ◌>>◌}
use Rattle.sql_reader.specs.reading.Rules.{word}
use Rattle.grammar_model.specs.Terminal.{is_word}
use Rattle.sql_reader.proofs.SameReading.{neg-comparison, Does-same}
use Rattle.sql_reader.proofs.Listing.{Listing, Listing-step}
use Rattle.sql_reader.proofs.condition.+condition.Goals as goal

pub cond_parts-loop-alloc-preserved : goal.cond_parts-loop-alloc-preserved
cond_parts-loop-alloc-preserved t c =
    let reads = ap (λ o. then_read o (λ _. rules.conj_over (rules.neg store_limits c.args.levels))) c.in_ok-word.ensures.does.0 ∙ c.in_ok-part.ensures.0 in
    record {
      listing = subst (λ list. Listing (is_word (codes "OR")) (word (codes "OR") >> rules.conj_over (rules.neg store_limits c.args.levels)) (rules.cond_parts (rules.neg store_limits c.args.levels) c.args.cursor.now) list c.conj-in-loop-alloc.new.cursor) (sym c.in_ok-add.ensures.added)
          (Listing-step _ _ _ c.loop-alloc.parts c.loop-alloc.cursor c.in_ok-part.part c.conj-in-loop-alloc.new.cursor c.loop-alloc.invariant.listing (sym c.next_is_word.ensures ∙ c.loop-alloc-test.true) reads (omega (arith, c.in_ok-word.ensures.shorter, c.in_ok-part.ensures.1)));
      shorter = omega (arith, c.in_ok-word.ensures.shorter, c.in_ok-part.ensures.1, c.loop-alloc.invariant.shorter);
    }

pub conj_parts-loop-alloc-preserved : goal.conj_parts-loop-alloc-preserved
conj_parts-loop-alloc-preserved t c =
    let reads = ap (λ o. then_read o (λ _. rules.neg store_limits c.args.levels)) c.in_ok-word.ensures.does.0 ∙ c.in_ok-part.ensures.0 in
    record {
      listing = subst (λ list. Listing (is_word (codes "AND")) (word (codes "AND") >> rules.neg store_limits c.args.levels) (rules.conj_parts (rules.neg store_limits c.args.levels) c.args.cursor.now) list c.neg-in-loop-alloc.new.cursor) (sym c.in_ok-add.ensures.added)
          (Listing-step _ _ _ c.loop-alloc.parts c.loop-alloc.cursor c.in_ok-part.part c.neg-in-loop-alloc.new.cursor c.loop-alloc.invariant.listing (sym c.next_is_word.ensures ∙ c.loop-alloc-test.true) reads (omega (arith, c.in_ok-word.ensures.shorter, c.in_ok-part.ensures.1)));
      shorter = omega (arith, c.in_ok-word.ensures.shorter, c.in_ok-part.ensures.1, c.loop-alloc.invariant.shorter);
    }

pub neg-returns : goal.neg-returns
neg-returns t c =
    Does-same (rules.neg store_limits c.args.levels) (rules.comparison store_limits) c.args.cursor.now _ _
    (neg-comparison store_limits c.args.levels c.args.cursor.now (sym c.next_is_word.ensures ∙ c.if-next_is_word.false) (sym c.next_is_mark.ensures ∙ c.if-next_is_mark.false))
    c.comparison.ensures
