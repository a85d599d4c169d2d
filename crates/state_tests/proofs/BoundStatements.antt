-- A statement as binding lets it through.
use Rattle.std.proofs.Common.{◌≡◌, ap, subst, sym, ◌∙◌}
use Rattle.std.specs.Prelude.{None, Ok}
use Rattle.own_model.specs.declared.bound.Bound.{Bound}
use Rattle.own_model.specs.declared.schema.Schema.{Schema}
use Rattle.own_model.specs.declared.statement.Statement.{Statement}
use Rattle.own_model.specs.declared.statement.Statement.TheVariants as statement
use Rattle.query_model.specs.BoundStatement.{bound_statement, faults, meaning}
use Rattle.query_model.specs.Refused.{lowest}
use Rattle.readable_model.proofs.Sources.{source_is_there}
use Rattle.history_model.proofs.SubjectLemmas.{subject-bound}
use Rattle.run_model.proofs.Outcomes.{bound-ok}
use Rattle.write_eval.proofs.BoundWrites.{bound_write}
use Rattle.state_tests.specs.Asked.{IsBound, IsMeant}

-- it means a select whose source is there, a write, or a GDPR call on a table of data subjects
meant_there : (schema : Schema) (found : Statement) → IsBound found → bound_statement schema found ≡ Ok (meaning schema found) → lowest (faults schema found) ≡ None
    → IsMeant schema (meaning schema found)
unfolding meaning faults
meant_there schema (statement.Select select) bound is told = source_is_there schema select told
meant_there schema (statement.Insert name names tuples) bound is told = bound_write schema (statement.Insert name names tuples) _ is tt
meant_there schema (statement.Update name sets cond) bound is told = bound_write schema (statement.Update name sets cond) _ is tt
meant_there schema (statement.Delete name cond) bound is told = bound_write schema (statement.Delete name cond) _ is tt
meant_there schema (statement.GdprGet name key) bound is told = subject-bound schema name key told
meant_there schema (statement.GdprForget name key) bound is told = subject-bound schema name key told
meant_there schema _ bound is told = absurd bound

pub meant-bound : (schema : Schema) (found : Statement) (got : Bound) → IsBound found → bound_statement schema found ≡ Ok got → IsMeant schema got
meant-bound schema found got bound is =
    let by = bound-ok schema found got is in
    subst (IsMeant schema) by.1 (meant_there schema found bound (is ∙ ap (λ meant. Ok meant) (sym by.1)) by.0)
