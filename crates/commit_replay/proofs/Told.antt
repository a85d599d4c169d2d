-- What changes lead to that tell what stands.
use Rattle.std.proofs.Common.{◌≡◌, List, [], ◌∷◌, refl}
use Rattle.own_base.specs.declared.change.Change.{Change}
use Rattle.own_model.specs.Db.{Db, IsOrdered}
use Rattle.state_model.specs.LeadTo.{LeadTo}
use Rattle.state_model.specs.Net.{net}
use Rattle.state_model.specs.Put.{put}
use Rattle.state_model.specs.Sound.{Sound}
use Rattle.store_version.proofs.PutLemmas.{ordered-put, tell_leads}
use Rattle.commit_replay.specs.Taken.{AreTold}
use Rattle.commit_replay.proofs.OneNet.{net-one}

module _ (db : Db) (sound : Sound db) where
  pub ordered-told : (changes : List Change) → AreTold db changes → IsOrdered (put db changes)
  ordered-told changes told = ordered-put db changes sound.well_formed.ordered told.tells.may

  pub leads-told : (changes : List Change) → AreTold db changes → LeadTo db (put db changes) changes
  leads-told changes told = tell_leads db changes sound.well_formed.ordered told.tells

  -- of a change alone that is the net
  pub net-told : (change : Change) → AreTold db (change ∷ []) → change ∷ [] ≡ net db (put db (change ∷ []))
  net-told change told =
      net-one db (put db (change ∷ [])) change sound.well_formed.ordered (ordered-told (change ∷ []) told) refl (leads-told (change ∷ []) told) told.differ.0
