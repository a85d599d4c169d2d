use Rattle.std.proofs.Common.{length, arith, ap, subst}
use Rattle.std.proofs.lemmas.List.{length-drop}
use Rattle.sql_lex.specs.Filler.{FrontFiller}
use Rattle.sql_lex.proofs.Fillers.{FillsTo-more, range_from_is}
use Rattle.sql_lex.proofs.filler.skip.Goals as goal

pub loop-at-preserved : goal.loop-at-preserved
loop-at-preserved c =
    let bytes = c.args.bytes.now in
    let rest = range_from_is c.loop-at.at bytes in
    let front = c.filler_len-step.ensures in
    record {
      within = omega (arith, ap length rest, length-drop c.loop-at.at bytes, front.within);
      filled = FillsTo-more bytes c.loop-at.at c.filler_len-step.result c.loop-at.invariant.filled (subst (λ l. FrontFiller l c.filler_len-step.result) rest (front.some (omega arith)));
    }
