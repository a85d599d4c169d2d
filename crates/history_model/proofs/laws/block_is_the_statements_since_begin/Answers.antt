use Rattle.history_model.proofs.SinceLemmas.{block-told}
use Rattle.history_model.proofs.laws.block_is_the_statements_since_begin.Goals as goal

pub returns : goal.returns
returns c = record {
  statements = λ base history session begun block is. (block-told base history session begun block is).0;
  begins = λ base history session begun block is. (block-told base history session begun block is).1;
}
