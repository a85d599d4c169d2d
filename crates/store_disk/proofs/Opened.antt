-- What an opened store's journal keeps, and where it stands.
use Rattle.std.proofs.Common.{◌≡◌, ℕ, ◌+◌, ◌≤◌, List, [], length, inl, inr, refl, sym, subst}
use Rattle.own_base.specs.declared.number.Area.{Area}
use Rattle.own_base.specs.declared.number.Area.TheVariants.{A, B}
use Rattle.own_model.specs.declared.limit.TheConstants.{JOURNAL_ROOM}
use Rattle.own_model.specs.Db.{Db, empty}
use Rattle.state_model.proofs.WellFormedLemmas.{sound-empty}
use Rattle.crash_model.specs.StoreIn.{IsStoreIn}
use Rattle.commit_journal.specs.declared.journal.Journal.{Journal}
use Rattle.disk_model.specs.declared.commit.Commit.{Commit}
use Rattle.disk_model.specs.declared.image.Image.{Image}
use Rattle.disk_model.specs.Area.{RepresentNothing, Stored}
use Rattle.disk_model.specs.Judged.{IsDatabaseOf, IsJudged}
use Rattle.disk_model.specs.JudgedArea.{Damaged, IsAreaJudged, IsImageJudged, IsLengthJudged, Judged, Nothing, Store, judged_as}
use Rattle.disk_model.specs.JudgedRecords.{Broken, Closed, End}
use Rattle.disk_model.specs.StoreOf.{IsStoreOf}
use Rattle.disk_model.proofs.Spelled.{image-spelled}
use Rattle.crash_recover.specs.declared.judged.LaidCommit.{LaidCommit}
use Rattle.crash_recover.specs.declared.open.Opened.{Opened}
use Rattle.crash_recover.specs.Opening.{IsJournalOf, IsOpenedOf, empty_image}
use Rattle.crash_recover.specs.Recovered.{commits_of}
use Rattle.store_disk.specs.Kept.{IsKept}
use Rattle.store_disk.specs.OpensAt.{OpensAt}

-- the empty store is that of its image
empty_of : (db : Db) (number : ℕ) → db ≡ empty → number ≡ 0 → IsStoreOf empty_image [] db number
empty_of db number db_is number_is = subst (λ (db : Db). IsStoreOf empty_image [] db number) (sym db_is) (record {
  begin = empty;
  lawful = record { made_by = []; texts = tt; schema = refl; creates = refl; rows = refl; keyed = tt; sound = sound-empty };
  followed = refl;
  number_is = number_is;
})

-- what was judged is of the image and the commits that come with it
store_of : {D : Type 0} (a b : List ℕ) (judged : Judged) (journal : Journal D) (stored : Stored) (image : Image) (laid : List LaidCommit) (db : Db) (number : ℕ) → IsJournalOf a b judged journal stored image laid
    → IsDatabaseOf judged db number → IsStoreOf image (commits_of laid) db number
store_of a b Nothing journal stored image laid db number begins of =
    subst (λ image. IsStoreOf image (commits_of laid) db number) (sym begins.of_image) (subst (λ laid. IsStoreOf empty_image (commits_of laid) db number) (sym begins.none) (empty_of db number of.0 of.1))
store_of a b (Store found commits) journal stored image laid db number goes of =
    subst (λ image. IsStoreOf image (commits_of laid) db number) (sym goes.of_image) (subst (λ commits. IsStoreOf found commits db number) (sym goes.of_commits) of)
store_of a b (Damaged area offset) journal stored image laid db number never of = absurd never

-- an area that is opened isn't judged to be nothing: neither is a damaged one,
not_damaged : (area : Area) (offset : ℕ) → Nothing ≡ Damaged area offset → ⊥
not_damaged area offset is = cc

not_judged : (area : Area) (image : Image) (commits : List Commit) (end : End) → Nothing ≡ judged_as area image commits end → ⊥
not_judged area image commits Closed is = cc
not_judged area image commits (Broken offset) is = not_damaged area offset is

-- nor one with an image,
image_is_some : (area : Area) (content rest : List ℕ) → IsImageJudged area content rest Nothing → ⊥
image_is_some area content rest (inl is) = not_judged area is.0 is.2 is.3 is.6
image_is_some area content rest (inr is) = not_damaged area 17 is.1

-- of a length,
length_is_some : (area : Area) (bytes : List ℕ) → IsLengthJudged area bytes Nothing → ⊥
length_is_some area bytes (inl is) = image_is_some area is.0 is.1 is.3
length_is_some area bytes (inr is) = not_damaged area 9 is.1

-- of an epoch
area_is_some : (area : Area) (bytes : List ℕ) → IsAreaJudged area bytes Nothing → ⊥
area_is_some area bytes (inl is) = length_is_some area is.0 is.2
area_is_some area bytes (inr is) = not_damaged area 1 is.1

-- two areas that are judged to be nothing represent nothing
nothing_judged : (a b : List ℕ) → IsJudged a b Nothing → RepresentNothing a b
nothing_judged a b (inl none) = none.0
nothing_judged a b (inr (inl one)) = absurd (area_is_some A a one.2)
nothing_judged a b (inr (inr (inl one))) = absurd (area_is_some B b one.2)
nothing_judged a b (inr (inr (inr both))) = absurd (not_damaged B 1 both.3)

-- the journal of two areas that were judged stands where their store is opened
at_of : {D : Type 0} (a b : List ℕ) (judged : Judged) (journal : Journal D) (stored : Stored) (image : Image) (laid : List LaidCommit) → IsJudged a b judged → IsJournalOf a b judged journal stored image laid
    → OpensAt a b journal.area journal.epoch journal.end
at_of a b Nothing journal stored image laid is begins =
    inl (record { nothing = nothing_judged a b is; in_area = begins.at.in_area; of_epoch = begins.at.of_epoch; up_to = begins.at.up_to })
at_of a b (Store found commits) journal stored image laid is goes =
    inr (record { stored = stored; chosen = goes.chosen; of_epoch = goes.at.of_epoch; up_to = goes.at.up_to })
at_of a b (Damaged area offset) journal stored image laid is never = absurd never

module _ {D : Type 0} (holds : D → Area → List ℕ) (leaves : D → Area → List ℕ → Type 0) (disk : D) (opened : Opened D) (of : IsOpenedOf holds leaves disk opened) where
  pub few-commits : opened.image.commits ≤ JOURNAL_ROOM
  few-commits = (image-spelled opened.image of.stored.image of.stored_as.is_image).1.within.commits

  pub opened-kept : IsKept holds leaves opened.journal opened.state (opened.image.commits + length opened.commits)
  opened-kept = record {
    stored = of.stored;
    image = opened.image;
    behind = commits_of opened.commits;
    rests = of.rests;
    stored_as = of.stored_as;
    store = store_of (holds disk A) (holds disk B) of.judged opened.journal of.stored opened.image opened.commits opened.state _ of.journal of.database;
  }

  pub opened-store : IsStoreIn (holds disk A) (holds disk B) opened.state (opened.image.commits + length opened.commits)
  opened-store = record { judged = of.judged; is_judged = of.is_judged; is_of = of.database }

  pub opened-at : OpensAt (holds disk A) (holds disk B) opened.journal.area opened.journal.epoch opened.journal.end
  opened-at = at_of (holds disk A) (holds disk B) of.judged opened.journal of.stored opened.image opened.commits of.is_judged of.journal
