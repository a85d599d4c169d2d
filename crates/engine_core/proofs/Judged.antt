-- Why a commit is refused.
use Rattle.std.proofs.Common.{◌≡◌, List, refl}
use Rattle.std.specs.Prelude.{None, Some}
use Rattle.own_base.specs.declared.change.Change.{Change}
use Rattle.own_model.specs.declared.refusal.Refusal.{Refusal}
use Rattle.own_model.specs.Db.{Db, empty}
use Rattle.state_model.specs.Fault.{fault}
use Rattle.state_model.specs.Net.{net}
use Rattle.state_model.specs.Payload.{payload_bytes}
use Rattle.state_model.specs.CommitRefusal.{commit_refusal, too_big}
use Rattle.state_model.specs.Weight.{weight}
use Rattle.subject_model.specs.Named.{rows_from}

-- one that has a fault, by it
pub commit_refusal-fault : (before after : Db) (why : Refusal) → fault after ≡ Some why → commit_refusal before after ≡ Some why
unfolding commit_refusal
commit_refusal-fault before after why is = rw is refl

-- and one that has none by its length
pub commit_refusal-length : (before after : Db) (changes : List Change) → fault after ≡ None → changes ≡ net before after → commit_refusal before after ≡ too_big (payload_bytes changes)
unfolding commit_refusal
commit_refusal-length before after changes none is = rw (none, is) refl

-- nothing weighs nothing
pub weight-empty : weight empty ≡ 0
unfolding weight rows_from
weight-empty = refl
