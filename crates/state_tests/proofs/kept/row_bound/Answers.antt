use Rattle.state_tests.proofs.kept.row_bound.Goals as goal

pub returns-clause-row : goal.returns-clause-row
returns-clause-row g c = c.if-takes_rows.ensures c.args.version.now.schema c.bound-bound.ensures.meant
