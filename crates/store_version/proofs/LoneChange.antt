-- A change of a row of a lone table leaves whose the rows are, and what is kept of each subject.
use Rattle.std.proofs.Common.{◌≡◌, List, [], ◌∷◌, true, refl, subst, sym}
use Rattle.std.specs.Prelude.{Err, IsTrue, Ok, OnErr, OnOk, Result}
use Rattle.std.proofs.lemmas.Bool.{and_from}
use Rattle.own_base.specs.declared.change.Change.{Change}
use Rattle.own_model.specs.Db.{Db, IsOrdered}
use Rattle.schema_model.specs.Lone.{is_lone}
use Rattle.schema_model.specs.OwnerSchema.{IsOwnerSchema}
use Rattle.state_model.specs.Put.{put}
use Rattle.owner_index.specs.Entry.{Entry}
use Rattle.owner_index.specs.Held.{StandsFor}
use Rattle.owner_index.proofs.LoneLemmas.{lone-stands}
use Rattle.micro_db.specs.declared.micro.MicroDb.{MicroDb}
use Rattle.micro_db.specs.Kept.{StandsFor as Keeps}
use Rattle.micro_db.proofs.LoneLemmas.{lone-stands as lone-keeps}
use Rattle.ref_index.specs.Tells.{Tell}
use Rattle.store_version.proofs.PutLemmas.{ordered-put, tell_leads}

module _ (db : Db) (change : Change) (entries : List Entry) (ordered : IsOrdered db) (owner : IsOwnerSchema db.schema) (lone : IsTrue (is_lone db.schema change.name.table.0))
    (tells : Tell db (change ∷ [])) (stands : StandsFor db entries) where
  stands-put : StandsFor (put db (change ∷ [])) entries
  stands-put =
      lone-stands db (put db (change ∷ [])) (change ∷ []) ordered (ordered-put db (change ∷ []) ordered tells.may) owner refl (tell_leads db (change ∷ []) ordered tells)
      (and_from (is_lone db.schema change.name.table.0) true lone refl) entries stands

  -- whether it is made or the database is left
  pub stands-lone : {T E : Type 0} (answer : Result T E) (after : Db) → OnOk answer (after ≡ put db (change ∷ [])) → OnErr answer (after ≡ db) → StandsFor after entries
  stands-lone (Ok made) after put_is left = subst (λ db. StandsFor db entries) (sym put_is) stands-put
  stands-lone (Err why) after put_is left = subst (λ db. StandsFor db entries) (sym left) stands

module _ (db : Db) (change : Change) (micro : MicroDb) (ordered : IsOrdered db) (owner : IsOwnerSchema db.schema) (lone : IsTrue (is_lone db.schema change.name.table.0))
    (tells : Tell db (change ∷ [])) (keeps : Keeps db micro) where
  kept-put : Keeps (put db (change ∷ [])) micro
  kept-put =
      lone-keeps db (put db (change ∷ [])) (change ∷ []) ordered (ordered-put db (change ∷ []) ordered tells.may) owner refl (tell_leads db (change ∷ []) ordered tells)
      (and_from (is_lone db.schema change.name.table.0) true lone refl) micro keeps

  pub kept-lone : {T E : Type 0} (answer : Result T E) (after : Db) → OnOk answer (after ≡ put db (change ∷ [])) → OnErr answer (after ≡ db) → Keeps after micro
  kept-lone (Ok made) after put_is left = subst (λ db. Keeps db micro) (sym put_is) kept-put
  kept-lone (Err why) after put_is left = subst (λ db. Keeps db micro) (sym left) keeps
