-- What the rows of an image leave of a database without rows.
use Rattle.std.proofs.Common.{◌≡◌, ◌∙◌, ℕ, suc, List, [], ◌∷◌, length, Bool, true, false, refl, ap, sym, subst}
use Rattle.std.specs.Prelude.{None}
use Rattle.own_base.specs.declared.change.Change.{Change}
use Rattle.own_model.specs.declared.schema.TableDef.{TableDef}
use Rattle.own_model.specs.Db.{AreRising, Db, IsOrdered, Row}
use Rattle.state_model.specs.Fault.{fault}
use Rattle.state_model.specs.Put.{put}
use Rattle.state_model.specs.Rows.{AreRowsOf}
use Rattle.state_model.specs.Sound.{Sound}
use Rattle.state_model.proofs.CreatedLemmas.{created-rows}
use Rattle.disk_model.specs.Lawful.{AreKeyedRows}
use Rattle.commit_replay.specs.RowChanges.{changes_from}
use Rattle.commit_replay.specs.Rows.{AreRowsPut, HasRows}
use Rattle.commit_replay.specs.Taken.{AreTold, IsTaken}
use Rattle.commit_replay.proofs.RowsLemmas.{AreBare, keyed-stand, rows-differ, rows-may, rows-put-left, rows-was}

rising-length : (tables : List TableDef) (rows : List (List Row)) → AreRising tables rows → length tables ≡ length rows
rising-length [] [] rising = refl
rising-length [] (one ∷ rest) rising = absurd rising
rising-length (table ∷ tables) [] rising = absurd rising
rising-length (table ∷ tables) (one ∷ rest) rising = ap suc (rising-length tables rest rising.1)

module _ (db : Db) (rows : List (List Row)) (sound : Sound db) (bare : AreBare db.rows) (changes : List Change) (is : changes ≡ changes_from 0 db.schema.tables rows)
    (keyed : AreKeyedRows db.schema.tables rows) (rising : AreRising db.schema.tables rows) where
  -- they are the rows that are left
  rows-after : (put db changes).rows ≡ rows
  rows-after =
      let long = rising-length db.schema.tables db.rows sound.well_formed.ordered.rising in
      let many = rising-length db.schema.tables rows rising in
      ap (λ (changes : List Change). (put db changes).rows) is ∙ rows-put-left db.schema.tables db.rows rows long many bare rising

  stand : AreRowsOf db.schema.tables (put db changes).rows
  stand = subst (AreRowsOf db.schema.tables) (sym rows-after) (keyed-stand db.schema.tables rows keyed)

  pub told-rows : AreTold db changes
  told-rows =
      subst (AreTold db) (sym is) (record {
        tells = record { was = rows-was db db.schema.tables rows bare; may = rows-may db.schema.tables rows rising };
        differ = rows-differ db.schema.tables rows;
        stand = subst (λ (changes : List Change). AreRowsOf db.schema.tables (put db changes).rows) is stand;
      })

  has-rows : HasRows db rows (put db changes)
  has-rows = record { schema = refl; creates = refl; rows_are = rows-after; keyed = subst (AreKeyedRows db.schema.tables) (sym rows-after) keyed }

  ordered : IsOrdered (put db changes)
  ordered = record { rising = subst (AreRising db.schema.tables) (sym rows-after) rising }

  -- each database with these rows is what they leave
  only : (other : Db) → HasRows db rows other → other ≡ put db changes
  only other has =
      let creates : other.creates ≡ db.creates = has.creates in
      let schema : other.schema ≡ db.schema = has.schema in
      let same : other.rows ≡ (put db changes).rows = has.rows_are ∙ sym rows-after in
      λ i. record { creates = creates i; schema = schema i; rows = same i }

  sound-left : fault (put db changes) ≡ None → Sound (put db changes)
  sound-left none = record {
    well_formed = record { created = created-rows db (put db changes).rows sound.well_formed.created; ordered = ordered; rows = stand };
    faultless = none;
  }

  pub rows-put : (after : Db) (weighs : ℕ) (went : Bool) → IsTaken db (put db changes) after weighs went → AreRowsPut db rows after weighs went
  rows-put after weighs true taken = (subst (HasRows db rows) (sym taken.0) has-rows, subst Sound (sym taken.0) (sound-left taken.1), taken.2)
  rows-put after weighs false taken = λ other sound_other has. taken.1 (ap fault (sym (only other has)) ∙ sound_other.faultless)
