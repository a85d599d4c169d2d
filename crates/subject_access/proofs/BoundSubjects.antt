-- What binding leaves of a GDPR GET names a table that is there.
use Rattle.std.proofs.Common.{◌≡◌, ◌<◌, length, subst}
use Rattle.std.specs.Prelude.{Ok}
use Rattle.own_base.specs.declared.row_name.Subject.{Subject}
use Rattle.own_base.specs.declared.value.Key.{Key}
use Rattle.own_model.specs.declared.bound.Bound.TheVariants.{Get}
use Rattle.own_model.specs.declared.schema.Schema.{Schema}
use Rattle.own_model.specs.declared.statement.Statement.TheVariants.{GdprGet}
use Rattle.query_model.specs.BoundStatement.{bound_statement, faults, meaning}
use Rattle.query_model.specs.Refused.{lowest}
use Rattle.query_model.specs.Scope.{NameBytes}
use Rattle.query_model.specs.SelectFaults.{no_table}
use Rattle.query_model.specs.SelectMeaning.{table_number}
use Rattle.query_model.specs.WriteFaults.{faults_in, gdpr_faults, subject_faults}
use Rattle.query_model.proofs.NoFaults.{none-first, none-lowest}
use Rattle.readable_model.proofs.Sources.{table-there}
use Rattle.run_model.proofs.Outcomes.{bound_unless-ok}

-- the subject's table is one of the schema's
pub bound_subject : (schema : Schema) (name : NameBytes) (key : Key) (subject : Subject) → bound_statement schema (GdprGet name key) ≡ Ok (Get subject)
    → subject.0.table.0 < length schema.tables
unfolding bound_statement faults meaning gdpr_faults
bound_subject schema name key subject is =
    let both = bound_unless-ok (lowest (gdpr_faults schema name key)) (Get (record { 0 = record { table = table_number schema name; key = key } })) (Get subject) is in
    let same : ◌≡◌ {A = Subject} (record { 0 = record { table = table_number schema name; key = key } }) subject = cc in
    subst (λ (s : Subject). s.0.table.0 < length schema.tables) same
    (table-there schema name (none-first (no_table schema name) (faults_in schema name (subject_faults name key)) (none-lowest _ both.0)))
