use Rattle.query_eval.proofs.candidates.few_by_any.Given as goal

-- nothing is known of the columns so far
abbrev pub invariant-loop-number : goal.invariant-loop-number
invariant-loop-number g l = Unit {0}
