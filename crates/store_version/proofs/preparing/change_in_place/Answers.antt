use Rattle.std.proofs.Common.{◌≡◌, ◌∙◌, [], ◌∷◌, length, ap, subst, sym}
use Rattle.std.proofs.lemmas.List.{nil_from_length}
use Rattle.std.specs.Prelude.{IsTrue}
use Rattle.own_model.specs.Db.{Db, IsOrdered}
use Rattle.schema_model.specs.Lone.{is_lone}
use Rattle.schema_model.specs.OwnerSchema.{IsOwnerSchema}
use Rattle.state_model.specs.Sound.{IsWellFormed}
use Rattle.state_model.proofs.CreatedSchema.{owner_schema-created}
use Rattle.ref_index.specs.Tells.{Tell}
use Rattle.store_version.proofs.LoneChange.{kept-lone}
use Rattle.store_version.proofs.ViewsKept.{none-changed}
use Rattle.store_version.proofs.preparing.change_in_place.Goals as goal

pub change-requires-clause-ordered : goal.change-requires-clause-ordered
change-requires-clause-ordered c = subst IsOrdered (sym c.version.view_is) c.requires.well_formed.ordered

pub change-requires-clause-owner : goal.change-requires-clause-owner
change-requires-clause-owner c = subst (λ (db : Db). IsOwnerSchema db.schema) (sym c.version.view_is) (owner_schema-created c.args.version.now c.requires.well_formed.created)

-- what is kept of each subject stays, and of no view anything is kept
pub invariant_of-version : goal.invariant_of-version
invariant_of-version c =
    let same = sym c.version.view_is in
    let owned = c.version.inside.owned in
    let is = subst IsWellFormed same c.requires.well_formed in
    let none = subst (λ (db : Db). db.schema.views ≡ []) same c.requires.viewless in
    let kept = nil_from_length c.version.inside.views ((c.version.invariant.1 is).count ∙ ap length none) in (
      kept-lone owned c.args.change.now c.version.inside.micro is.ordered (owner_schema-created owned is.created)
          (subst (λ (db : Db). IsTrue (is_lone db.schema c.args.change.now.name.table.0)) same c.requires.lone)
          (subst (λ (db : Db). Tell db (c.args.change.now ∷ [])) same c.requires.tells)
          c.version.invariant.0 c.change.result c.change.new.self c.change.ensures.changed c.change.ensures.unchanged,
      λ _. none-changed owned (c.args.change.now ∷ []) c.version.inside.views c.change.result c.change.new.self none kept c.change.ensures.changed c.change.ensures.unchanged,
    )
