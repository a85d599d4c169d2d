-- What lawful puts leave, where nothing is wrong with it.
use Rattle.std.proofs.Common.{◌≡◌, ◌∙◌, List, [], ◌∷◌, Bool, true, false, ap, sym, subst}
use Rattle.std.specs.Prelude.{◌≢◌, ℕ}
use Rattle.std.specs.List.{AllByRecursion as Each}
use Rattle.own_base.specs.declared.change.Change.{Change}
use Rattle.own_model.specs.Db.{Db}
use Rattle.owner_model.specs.Joins.{row_of}
use Rattle.state_model.specs.Fault.{fault}
use Rattle.state_model.specs.Put.{put}
use Rattle.state_model.specs.Sound.{Sound}
use Rattle.state_model.specs.Weight.{weight}
use Rattle.disk_model.specs.declared.commit.Commit.TheVariants.{Changes}
use Rattle.disk_model.specs.declared.commit.Put.{Put}
use Rattle.disk_model.specs.Follows.{with_puts}
use Rattle.disk_model.specs.Lawful.{IsLawfulPut}
use Rattle.disk_model.specs.Payload.{AreChanges}
use Rattle.disk_model.specs.PutOf.{puts_of}
use Rattle.commit_replay.specs.Followed.{IsFollowed}
use Rattle.commit_replay.specs.Taken.{AreTold, IsTaken}
use Rattle.commit_replay.proofs.PutsLemmas.{may-puts, rising-puts, stand-puts, with-puts}

-- changes of lawful puts differ from what stands
differ-puts : (db : Db) (changes : List Change) → Each (λ change. change.before ≡ row_of db change.name) changes → Each (IsLawfulPut db) (puts_of changes)
    → Each (λ change. change.before ≢ change.after) changes
differ-puts db [] was lawful = tt
differ-puts db (change ∷ changes) was lawful = ((λ same. lawful.0.differs (sym was.0 ∙ same)), differ-puts db changes was.1 lawful.1)

module _ (db : Db) (puts : List Put) (changes : List Change) (made : puts_of changes ≡ puts) (lawful : Each (IsLawfulPut db) puts) where
  own : Each (IsLawfulPut db) (puts_of changes)
  own = subst (Each (IsLawfulPut db)) (sym made) lawful

  -- they may be made
  pub told-puts : Sound db → Each (λ change. change.before ≡ row_of db change.name) changes → AreChanges puts → AreTold db changes
  told-puts sound was are = record {
    tells = record { was = was; may = may-puts db changes (rising-puts changes puts made are.rising) own };
    differ = differ-puts db changes was own;
    stand = stand-puts db changes sound.well_formed.rows own;
  }

  -- and what they leave, where nothing is wrong with it, is what follows
  pub taken-follows : (after : Db) (weighs : ℕ) (went : Bool) → IsTaken db (put db changes) after weighs went → IsFollowed db (Changes puts) after went × (weight after ≡ weighs)
  taken-follows after weighs true taken =
      let is : put db changes ≡ with_puts db puts = sym (with-puts db changes) ∙ ap (with_puts db) made in
      (record { lawful = lawful; after_is = taken.0 ∙ is; faultless = ap fault taken.0 ∙ taken.1 }, taken.2)
  taken-follows after weighs false taken =
      let is : put db changes ≡ with_puts db puts = sym (with-puts db changes) ∙ ap (with_puts db) made in
      ((taken.0, λ other follows. taken.1 (ap fault (is ∙ sym follows.after_is) ∙ follows.faultless)), taken.2)
