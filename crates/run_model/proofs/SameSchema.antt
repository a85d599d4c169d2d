-- Which statements leave the schema and the texts of the creates as they were: all but CREATE.
use Rattle.std.proofs.Common.{◌≡◌, refl}
use Rattle.own_base.specs.declared.row_name.RowName.{RowName}
use Rattle.own_model.specs.declared.bound.Bound.{Bound}
use Rattle.own_model.specs.declared.statement.Statement.{Statement}
use Rattle.own_model.specs.Db.{Db}
use Rattle.subject_model.specs.Forget.{forget}
use Rattle.run_model.specs.Run.{Outcome, run, run_bound}
use Rattle.run_model.proofs.Outcomes.{AddsNothing, of-adding_nothing, of-run_bound}

-- a database of the same creates and the same schema
pub record IsSameSchema (db other : Db) : Type 0 where
  pub schema : other.schema ≡ db.schema
  pub creates : other.creates ≡ db.creates

-- FORGET leaves both
pub same_schema-forget : (db : Db) (subject : RowName) → IsSameSchema db (forget db subject)
unfolding forget
same_schema-forget db subject = record { schema = refl; creates = refl }

-- so does what leaves them both, a bound statement, and any statement but a CREATE
module _ (db : Db) where
  abbrev Left : Outcome → Type 0
  Left outcome = IsSameSchema db outcome.db

  same : IsSameSchema db db
  same = record { schema = refl; creates = refl }

  pub same_schema-bound : (meant : Bound) → IsSameSchema db (run_bound db meant).db
  same_schema-bound =
      of-run_bound db Left (λ reply. same) (λ number tuples table rows is new. record { schema = refl; creates = refl })
      (λ number sets cond table is none. record { schema = refl; creates = refl }) (λ number cond. record { schema = refl; creates = refl })
      (λ subject there. same_schema-forget db subject)

  pub same_schema-run : (found : Statement) → AddsNothing found → IsSameSchema db (run db found).db
  same_schema-run =
      of-adding_nothing db Left (λ reply. same) (λ number tuples table rows is new. record { schema = refl; creates = refl })
      (λ number sets cond table is none. record { schema = refl; creates = refl }) (λ number cond. record { schema = refl; creates = refl })
      (λ subject there. same_schema-forget db subject)
