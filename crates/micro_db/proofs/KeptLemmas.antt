-- What is filed under a subject is its shelf, and what it sees.
use Rattle.std.proofs.Common.{◌≡◌, sym, ◌∙◌}
use Rattle.own_base.specs.declared.row_name.Subject.{Subject}
use Rattle.own_model.specs.Db.{Db, IsOrdered}
use Rattle.ordered_pairs.specs.RightsOf.{rights_of}
use Rattle.owner_sets.specs.SubjectOrder.{subject_cmp}
use Rattle.page_model.specs.Rising.{IsRising}
use Rattle.shelf_model.specs.Seen.{seen}
use Rattle.shelf_model.specs.Shelf.{shelf}
use Rattle.shelf_model.proofs.ShelfLemmas.{seen_found, seen_rises, shelf_found, shelf_rises}
use Rattle.micro_db.specs.declared.micro.MicroDb.{MicroDb}
use Rattle.micro_db.specs.Filed.{place_of}
use Rattle.micro_db.specs.FiledOrder.{place_cmp}
use Rattle.micro_db.specs.Kept.{StandsFor, itself, name_of_copy}
use Rattle.micro_db.proofs.UnderLemmas.{under_are}

module _ (micro : MicroDb) (subject : Subject) (db : Db) (ordered : IsOrdered db) (stands : StandsFor db micro) where
  pub under-shelf : IsRising (place_of name_of_copy) place_cmp micro.shelves → rights_of subject_cmp micro.shelves subject ≡ shelf db subject.0
  under-shelf rising =
      under_are name_of_copy subject micro.shelves (shelf db subject.0) rising (shelf_rises db subject.0 ordered) (λ name. shelf_found db subject.0 ordered name ∙ sym (stands.copies subject name))

  pub under-seen : IsRising (place_of itself) place_cmp micro.seen → rights_of subject_cmp micro.seen subject ≡ seen db subject.0
  under-seen rising =
      under_are itself subject micro.seen (seen db subject.0) rising (seen_rises db subject.0 ordered) (λ name. seen_found db subject.0 ordered name ∙ sym (stands.sights subject name))
