use Rattle.std.proofs.Common.{[], refl, subst, sym}
use Rattle.own_model.specs.Db.{Db, empty}
use Rattle.micro_db.specs.Kept.{StandsFor}
use Rattle.view_deltas.specs.declared.kept_view.KeptView.{KeptView}
use Rattle.std.specs.Prelude.{List}
use Rattle.view_select.specs.ShowsViews.{ShowsViews}
use Rattle.store_version.proofs.CreatedShelves.{kept-empty}
use Rattle.store_version.proofs.ViewsKept.{none-kept}
use Rattle.store_version.proofs.version.Version.new.Goals as goal

-- a store without tables has nobody's rows, and no view
pub invariant_of-result : goal.invariant_of-result
invariant_of-result c = (
  subst (λ (db : Db). StandsFor db c.new-2.result) (sym c.in_ok-owned.ensures) (kept-empty c.new-2.result c.new-2.ensures.shelves c.new-2.ensures.seen),
  subst (λ (kept : List KeptView). ShowsViews c.in_ok-owned.owned kept) (sym c.new-3.ensures) (subst (λ (db : Db). ShowsViews db []) (sym c.in_ok-owned.ensures) (λ _. none-kept empty refl)),
)
