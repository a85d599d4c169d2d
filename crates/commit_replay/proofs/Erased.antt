-- What an erasure leaves.
use Rattle.std.proofs.Common.{◌≡◌, subst, sym}
use Rattle.std.specs.Prelude.{IsTrue}
use Rattle.own_base.specs.declared.row_name.RowName.{RowName}
use Rattle.own_model.specs.Db.{Db}
use Rattle.schema_model.specs.Tables.{is_subject}
use Rattle.subject_model.specs.Forget.{forget}
use Rattle.state_model.specs.Sound.{Sound}
use Rattle.state_model.proofs.ForgetSound.{sound-forget}

-- an erasure leaves a sound database
pub erased-sound : (db next : Db) (subject : RowName) → IsTrue (is_subject db.schema subject.table.0) → Sound db → next ≡ forget db subject → Sound next
erased-sound db next subject of sound is = subst Sound (sym is) (sound-forget db subject of sound)
