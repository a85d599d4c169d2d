-- What a look reads.
use Rattle.std.proofs.Common.{◌≡◌, arith, refl, subst}
use Rattle.std.specs.Prelude.{IsTrue, Some, Result, Ok, Err}
use Rattle.own_base.specs.declared.row_name.Subject.{Subject}
use Rattle.own_model.specs.declared.bound.Bound.{Bound}
use Rattle.own_model.specs.declared.bound.Bound.TheVariants as bound
use Rattle.own_model.specs.declared.refusal.Refusal.{Refusal}
use Rattle.own_model.specs.declared.schema.Schema.{Schema}
use Rattle.own_model.specs.declared.statement.Statement.{Statement}
use Rattle.own_model.specs.declared.statement.Statement.TheVariants as statement
use Rattle.query_model.specs.BoundStatement.{faults, meaning}
use Rattle.schema_model.specs.Tables.{is_subject}
use Rattle.readable_model.specs.Sources.{IsThere}
use Rattle.readable_model.proofs.Sources.{source_is_there}
use Rattle.run_model.proofs.Outcomes.{bound-ok}
use Rattle.history_model.proofs.SubjectLemmas.{subject-bound}
use Rattle.serve_model.specs.Look.{IsLook, if_bound, read_of}
use Rattle.store_snapshot.specs.Reads.{IsRead}

-- a SELECT whose source is there, a GET by a row of a table of data subjects, or EXPLAIN
abbrev Looked : Schema → Bound → Type 0
Looked schema (bound.Select query) = IsThere schema query
Looked schema (bound.Get subject) = IsTrue (is_subject schema subject.0.table.0)
Looked schema bound.Explain = Unit {0}
Looked schema _ = ⊥

-- what there is of a statement that is bound is what it is bound to
given : (result : Result Bound Refusal) (got : Bound) → if_bound result ≡ Some got → result ≡ Ok got
given (Ok found) got is = grind arith
given (Err why) got is = grind arith

explained : (got : Bound) → Some bound.Explain ≡ Some got → bound.Explain ≡ got
explained got is = grind arith

select-looked : (schema : Schema) (asked : Statement) (got : Bound) → read_of schema asked ≡ Some got → Looked schema got
unfolding meaning faults
select-looked schema (statement.Select select) got is =
    let by = bound-ok schema (statement.Select select) got (given _ got is) in
    subst (Looked schema) by.1 (source_is_there schema select by.0)
select-looked schema (statement.GdprGet name key) got is =
    let by = bound-ok schema (statement.GdprGet name key) got (given _ got is) in
    subst (Looked schema) by.1 (subject-bound schema name key by.0)
select-looked schema statement.Explain got is = subst (Looked schema) (explained got is) tt
select-looked schema (statement.CreateTable table) got is = absurd (cc)
select-looked schema (statement.CreateView view) got is = absurd (cc)
select-looked schema (statement.Insert table columns rows) got is = absurd (cc)
select-looked schema (statement.Update table sets cond) got is = absurd (cc)
select-looked schema (statement.Delete table cond) got is = absurd (cc)
select-looked schema statement.Begin got is = absurd (cc)
select-looked schema statement.Commit got is = absurd (cc)
select-looked schema statement.Rollback got is = absurd (cc)
select-looked schema (statement.GdprForget table key) got is = absurd (cc)
select-looked schema statement.Checkpoint got is = absurd (cc)

-- a look at a subject is at a row of a table of data subjects
pub get-looked : (schema : Schema) (got : Bound) (subject : Subject) → IsLook schema got → got ≡ bound.Get subject → IsTrue (is_subject schema subject.0.table.0)
get-looked schema got subject look is = subst (Looked schema) is (select-looked schema look.asked got look.reads)

other_step : (schema : Schema) (got : Bound) → Looked schema got → ((subject : Subject) → got ≡ bound.Get subject → ⊥) → IsRead schema got
other_step schema (bound.Select query) looked other = looked
other_step schema (bound.Get subject) looked other = absurd (other subject refl)
other_step schema bound.Explain looked other = tt
other_step schema _ looked other = absurd looked

-- and any other reads rows or the schema
pub other-looked : (schema : Schema) (got : Bound) → IsLook schema got → ((subject : Subject) → got ≡ bound.Get subject → ⊥) → IsRead schema got
other-looked schema got look other = other_step schema got (select-looked schema look.asked got look.reads) other
