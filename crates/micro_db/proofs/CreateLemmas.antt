-- What is kept stands for a database without rows.
use Rattle.std.proofs.Common.{◌≡◌, [], sym, ◌∙◌, ap}
use Rattle.std.specs.Prelude.{None}
use Rattle.std.specs.Option.{option_and_then}
use Rattle.own_base.specs.declared.row_name.RowName.{RowName}
use Rattle.own_base.specs.declared.row_name.Subject.{Subject}
use Rattle.own_model.specs.Db.{Db}
use Rattle.owner_model.specs.Joins.{row_of}
use Rattle.page_model.specs.Found.{found}
use Rattle.micro_db.specs.declared.micro.MicroDb.{MicroDb}
use Rattle.micro_db.specs.Filed.{filed_at}
use Rattle.micro_db.specs.Kept.{StandsFor, copy_kept, itself, name_of_copy, seen_kept}

module _ (db : Db) (micro : MicroDb) (no_shelves : micro.shelves ≡ []) (no_seen : micro.seen ≡ []) (none : (name : RowName) → row_of db name ≡ None) where
  none_kept : (subject : Subject) (name : RowName) → copy_kept micro subject name ≡ None
  unfolding filed_at found
  none_kept subject name = ap (λ shelves. filed_at name_of_copy shelves subject name) no_shelves

  none_seen : (subject : Subject) (name : RowName) → seen_kept micro subject name ≡ None
  unfolding filed_at found
  none_seen subject name = ap (λ seen. filed_at itself seen subject name) no_seen

  pub none-stands : StandsFor db micro
  none-stands =
      record {
        copies = λ subject name. none_kept subject name ∙ sym (ap (option_and_then _) (none name));
        sights = λ subject name. none_seen subject name ∙ sym (ap (option_and_then _) (none name));
      }
