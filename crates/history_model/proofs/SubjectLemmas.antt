-- A FORGET that binding lets through names a row of a table of subjects.
use Rattle.std.proofs.Common.{◌≡◌, ℕ, List, [], ◌∷◌, Bool, true, false, refl}
use Rattle.std.specs.Prelude.{Option, None, Some, is_none, slice_get, if◌then◌else◌}
use Rattle.std.specs.Option.{option_map_or}
use Rattle.own_base.specs.declared.value.Key.{Key}
use Rattle.own_model.specs.declared.refusal.Refusal.{Refusal}
use Rattle.own_model.specs.declared.refusal.Refusal.TheVariants.{NoTable, NotSubject}
use Rattle.own_model.specs.declared.schema.Schema.{Schema}
use Rattle.own_model.specs.declared.schema.TableDef.{TableDef}
use Rattle.schema_model.specs.Tables.{is_subject}
use Rattle.query_model.specs.Refused.{lowest}
use Rattle.query_model.specs.Scope.{NameBytes, table_named}
use Rattle.query_model.specs.SelectFaults.{no_table}
use Rattle.query_model.specs.SelectMeaning.{table_number}
use Rattle.query_model.specs.WriteFaults.{faults_in, gdpr_faults, subject_faults}
use Rattle.query_model.proofs.NoFaults.{none-first, none-last, none-lowest}
use Rattle.run_model.proofs.Numbered.{IfNumbered, numbered-found}

subject_step : (subject : Bool) (why : Refusal) → (if subject then [] else why ∷ []) ≡ [] → subject ≡ true
subject_step true why none = refl
subject_step false why none = absurd (cc)

named_step : (tables : List TableDef) (name : NameBytes) (key : Key) (found : Option (ℕ × TableDef)) → IfNumbered tables found
    → (if is_none found then NoTable name ∷ [] else []) ≡ [] → option_map_or (λ found. subject_faults name key found.1) found [] ≡ []
    → option_map_or (λ definition. definition.subject) (slice_get tables (option_map_or (λ found. found.0) found 0)) false ≡ true
named_step tables name key None there named none = absurd (cc)
named_step tables name key (Some found) there named none = rw there (subject_step found.1.subject (NotSubject name) (none-last _ _ none))

pub subject-bound : (schema : Schema) (name : NameBytes) (key : Key) → lowest (gdpr_faults schema name key) ≡ None
    → is_subject schema (table_number schema name).0 ≡ true
unfolding gdpr_faults
subject-bound schema name key told =
    let none = none-lowest _ told in
    named_step schema.tables name key (table_named schema name) (numbered-found schema.tables _)
    (none-first (no_table schema name) (faults_in schema name (subject_faults name key)) none)
    (none-last (no_table schema name) (faults_in schema name (subject_faults name key)) none)
