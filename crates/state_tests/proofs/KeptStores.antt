-- What a database as statements leave it gives the calls that look at it.
use Rattle.own_model.specs.Db.{Db}
use Rattle.schema_model.specs.OwnerSchema.{IsOwnerSchema}
use Rattle.schema_model.specs.WithinLimits.{IsWithinLimits}
use Rattle.state_model.specs.Sound.{IsWellFormed, Sound}
use Rattle.state_model.proofs.CreatedSchema.{owner_schema-created, within-created}
use Rattle.txn_core.specs.Runs.{IsStore}
use Rattle.query_eval.specs.Views.{AreViewsThere}
use Rattle.txn_core.proofs.SoundBases.{store-sound}
use Rattle.store_snapshot.proofs.KeptViews.{views_there-created}

-- its schema
pub within_limits : (db : Db) → IsWellFormed db → IsWithinLimits db.schema
within_limits db kept = within-created db kept.created

pub owner_schema : (db : Db) → IsWellFormed db → IsOwnerSchema db.schema
owner_schema db kept = owner_schema-created db kept.created

pub views_there : (db : Db) → IsWellFormed db → AreViewsThere db.schema
views_there db kept = views_there-created db kept.created

-- and its store
pub store : (db : Db) → Sound db → IsStore db
store db sound = store-sound db sound (views_there db sound.well_formed)
