use Rattle.query_eval.proofs.wanted.wanted_by_each.Given as goal

-- nothing is known of the parts so far
abbrev pub invariant-loop-part : goal.invariant-loop-part
invariant-loop-part l = Unit {0}
