-- The rows that are lent of a view, run by run, are those of its query.
use Rattle.std.proofs.Common.{◌≡◌, ℕ, List, length}
use Rattle.own_base.specs.declared.number.ViewNo.{ViewNo}
use Rattle.own_model.specs.declared.bound.Source1.TheVariants.{View}
use Rattle.own_model.specs.Db.{Db, IsOrdered, Row}
use Rattle.own_model.specs.Stored.{IsRunFrom as AreRows}
use Rattle.page_model.specs.Run.{IsRunFrom}
use Rattle.query_model.specs.Query.{source_rows}
use Rattle.state_model.specs.Sound.{IsWellFormed}
use Rattle.view_deltas.specs.Kept.{StandsFor}
use Rattle.view_deltas.specs.ViewOf.{AreViewsOf, HoldNoSums}
use Rattle.view_deltas.specs.declared.kept_view.KeptView.{KeptView}
use Rattle.view_select.specs.ShowsViews.{ShowsViews}
use Rattle.view_select.proofs.WellFormedViews.{no_sums, views_of-created}

abbrev pub rows_of : Db → ViewNo → List Row
rows_of db number = source_rows db.schema db.rows (View number)

module _ (db : Db) (kept : List KeptView) (number : ViewNo) (is : IsWellFormed db) (shows : ShowsViews db kept) where
  -- so many are counted
  pub counted : (count : ℕ) → ((db : Db) → IsOrdered db → HoldNoSums db.rows → AreViewsOf db.schema → StandsFor db kept → count ≡ length (rows_of db number)) → count ≡ length (rows_of db number)
  counted count told = told db is.ordered (no_sums db is) (views_of-created db is.created) (shows is)

  -- and they are lent one after another
  pub lent : (at : ℕ) (run : List Row) → ((db : Db) → IsOrdered db → HoldNoSums db.rows → AreViewsOf db.schema → StandsFor db kept → IsRunFrom (rows_of db number) at run)
      → AreRows (rows_of db number) at run
  lent at run told =
      let runs = told db is.ordered (no_sums db is) (views_of-created db is.created) (shows is) in
      record { rest = runs.rest; follow = runs.follow; some = runs.some }
