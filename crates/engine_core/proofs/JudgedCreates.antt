-- What is judged of the database that a CREATE leaves.
use Rattle.std.proofs.Common.{◌≡◌, ℕ, ◌+◌, refl, ap, ◌∙◌}
use Rattle.std.specs.Prelude.{Ok, None, Some, nat_lt, if◌then◌else◌}
use Rattle.own_model.specs.declared.create.CreateTable.{CreateTable as TableCreate}
use Rattle.own_model.specs.declared.create.CreateView.{CreateView as ViewCreate}
use Rattle.own_model.specs.declared.limit.LimitName.TheVariants as limit
use Rattle.own_model.specs.declared.limit.TheConstants.{STORE_WEIGHT}
use Rattle.own_model.specs.declared.refusal.Refusal.TheVariants.{Limit}
use Rattle.own_model.specs.declared.request.Request.TheVariants.{Run}
use Rattle.own_model.specs.declared.schema.ViewDef.{ViewDef}
use Rattle.own_model.specs.declared.statement.Statement.TheVariants.{CreateTable}
use Rattle.own_model.specs.Db.{Db}
use Rattle.own_model.specs.Stored.{holds_rows}
use Rattle.query_model.specs.BoundView.{bound_view, new_view}
use Rattle.schema_model.specs.Refusal.{refusal_of}
use Rattle.grammar_model.specs.Readable.{IsReadable}
use Rattle.state_model.specs.Create.{create, create_view}
use Rattle.state_model.specs.Fault.{fault}
use Rattle.state_model.specs.Sound.{Sound}
use Rattle.state_model.specs.Weight.{view_weight, weight}
use Rattle.state_model.proofs.TableSound.{sound-create, weighs-create}
use Rattle.state_model.proofs.ViewSound.{fault-create_view, weight-create_view}
use Rattle.commit_check.specs.Judged.{IsJudged, IsWeighed}
use Rattle.commit_check.specs.declared.judged.Judged.{Judged}
use Rattle.commit_check.specs.declared.judged.Judged.TheVariants.{Fault, Weighs}
use Rattle.query_model.proofs.ViewFaults.{view-given}

-- a table that is admitted breaks nothing and weighs nothing
pub judged-table : (db next : Db) (table : TableCreate) (weighs : ℕ) → Sound db → weight db ≡ weighs → IsReadable (Run (CreateTable table))
    → refusal_of db.schema (holds_rows db.rows) table ≡ None → next ≡ create db table → (fault next ≡ None) × (weight next ≡ weighs)
judged-table db next table weighs sound weight_is readable none next_is =
    let sound_next = sound-create db table sound readable none in
    (ap fault next_is ∙ sound_next.faultless, ap weight next_is ∙ (weighs-create db table sound.well_formed none ∙ weight_is))

-- a database in which only the weight may be wrong
judged-weighed : (db : Db) (whole : ℕ) (judged : Judged) → fault db ≡ (if nat_lt STORE_WEIGHT whole then Some (Limit limit.Weight) else None) → weight db ≡ whole → IsWeighed whole judged → IsJudged db judged
judged-weighed db whole (Fault why) only weight_is weighed = only ∙ (rw (weighed.0, weighed.1) refl)
judged-weighed db whole (Weighs size) only weight_is weighed = (only ∙ (rw weighed.0 refl), weight_is ∙ weighed.1)

-- a view that is bound adds what it weighs
pub judged-view : (db : Db) (view : ViewCreate) (definition : ViewDef) (weighs : ℕ) (judged : Judged) → Sound db → weight db ≡ weighs → bound_view db.schema view ≡ Ok definition
    → IsWeighed (weighs + view_weight db definition) judged → IsJudged (create_view db view) judged
judged-view db view definition weighs judged sound weight_is is weighed =
    let by = view-given db.schema view definition is in
    let whole : weight db + view_weight db (new_view db.schema view) ≡ weighs + view_weight db definition =
    ap (λ n. n + view_weight db (new_view db.schema view)) weight_is ∙ ap (λ view. weighs + view_weight db view) by.1 in
    judged-weighed (create_view db view) (weighs + view_weight db definition) judged
    (fault-create_view db view sound ∙ ap (λ n. if nat_lt STORE_WEIGHT n then Some (Limit limit.Weight) else None) whole)
    (weight-create_view db view sound.well_formed ∙ whole) weighed
