-- The state is sound at each commit, and its weight is known.
use Rattle.std.proofs.Common.{◌≡◌, ◌∙◌, ℕ, Bool, true, false, Result, Ok, Err, ap, refl, subst, sym}
use Rattle.std.specs.Prelude.{IfOk, OnErr, OnOk}
use Rattle.own_model.specs.Db.{Db, empty}
use Rattle.subject_model.specs.Named.{rows_from}
use Rattle.state_model.specs.Sound.{Sound}
use Rattle.state_model.specs.Weight.{weight}
use Rattle.state_model.proofs.WellFormedLemmas.{sound-empty}
use Rattle.disk_model.specs.declared.commit.Commit.{Commit}
use Rattle.disk_model.proofs.SoundAfter.{sound-after}
use Rattle.commit_replay.specs.Followed.{IsFollowed}

followed-sound : (before : Db) (commit : Commit) (after : Db) (went : Bool) → Sound before → IsFollowed before commit after went → Sound after
followed-sound before commit after true sound followed = sound-after before commit after sound followed
followed-sound before commit after false sound followed = subst Sound (sym followed.0) sound

pub kept : {E : Type 0} (result : Result Bool E) (before : Db) (commit : Commit) (after : Db) (weighed weighs : ℕ) → Sound before × (weight before ≡ weighed)
    → IfOk result (IsFollowed before commit after) → OnOk result (weight after ≡ weighs) → OnErr result (after ≡ before) → OnErr result (weighs ≡ weighed)
    → Sound after × (weight after ≡ weighs)
kept (Ok went) before commit after weighed weighs sound followed weight_is stays same = (followed-sound before commit after went sound.0 followed, weight_is)
kept (Err refused) before commit after weighed weighs sound followed weight_is stays same = (subst Sound (sym stays) sound.0, ap weight stays ∙ (sound.1 ∙ sym same))

-- nothing weighs nothing
weight-empty : weight empty ≡ 0
unfolding weight rows_from
weight-empty = refl

pub kept-empty : (db : Db) → db ≡ empty → Sound db × (weight db ≡ 0)
kept-empty db is = (subst Sound (sym is) sound-empty, ap weight is ∙ weight-empty)
