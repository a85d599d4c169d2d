-- What two areas hold into which a database was laid anew.
use Rattle.std.proofs.Common.{◌≡◌, ◌∙◌, ℕ, ◌≤◌, List, [], ◌∷◌, ◌++◌, ap, refl, subst, sym}
use Rattle.own_base.specs.declared.number.Area.{Area}
use Rattle.own_base.specs.declared.number.Area.TheVariants.{A, B}
use Rattle.own_model.specs.declared.limit.TheConstants.{JOURNAL_ROOM}
use Rattle.own_model.specs.Db.{Db}
use Rattle.outer_world.specs.OtherArea.{bytes_in, other_of}
use Rattle.commit_journal.specs.AreaCalls.{AreSynced}
use Rattle.disk_model.specs.Area.{Stored, image_of, in_front, laid}
use Rattle.disk_model.specs.Spelling.{image_spelling}
use Rattle.disk_model.proofs.Spelled.{image-spelled}
use Rattle.check_image.specs.Gated.{IsGatedImage, image_from}
use Rattle.crash_model.specs.Alone.{IsAlone, IsAloneOn, stored_alone}
use Rattle.crash_model.specs.Room.{image_after}
use Rattle.store_disk.proofs.Keeping.{image-between}

-- its image is in front of the gate
image-alone : (db : Db) (number : ℕ) (gated : List ℕ) → number ≤ JOURNAL_ROOM → IsGatedImage db number gated → image_of gated ≡ image_spelling (image_after db number)
image-alone db number gated few is = image-between is.image gated is.parts ∙ (image-spelled (image_from db number) is.image (is.is_image few)).0

stored-alone : (db : Db) (number epoch : ℕ) (gated : List ℕ) → number ≤ JOURNAL_ROOM → IsGatedImage db number gated → laid epoch gated ≡ stored_alone db number epoch
stored-alone db number epoch gated few is = λ i. record { epoch = epoch; image = image-alone db number gated few is i; payloads = [] }

module _ {D : Type 0} (holds : D → Area → List ℕ) (leaves : D → Area → List ℕ → Type 0) where
  in_area : (disk : D) (area : Area) → bytes_in area (holds disk A) (holds disk B) ≡ holds disk area
  in_area disk A = refl
  in_area disk B = refl

  -- nothing but the database, for what reads give and for every crash, since nothing can be lost
  pub laid-alone : (disk : D) (area : Area) (db : Db) (number epoch : ℕ) (gated : List ℕ) → number ≤ JOURNAL_ROOM → IsGatedImage db number gated → AreSynced holds leaves disk
      → holds disk area ≡ in_front (laid epoch gated) ++ 0 ∷ [] → holds disk (other_of area) ≡ 0 ∷ [] → IsAloneOn holds leaves disk db number epoch area
  laid-alone disk area db number epoch gated few is synced here beside =
      let reads : IsAlone db number epoch area (holds disk A) (holds disk B) = record {
        here = in_area disk area ∙ (here ∙ ap (λ (stored : Stored). in_front stored ++ 0 ∷ []) (stored-alone db number epoch gated few is));
        beside = in_area disk (other_of area) ∙ beside;
      } in
      record {
        reads = reads;
        crashes = λ a b in_a in_b.
            subst (λ a. IsAlone db number epoch area a b) (sym (synced.a.only a in_a))
            (subst (λ b. IsAlone db number epoch area (holds disk A) b) (sym (synced.b.only b in_b)) reads);
      }
