-- What is kept for views shows them with a table more, and beside changes of rows where there are none.
use Rattle.std.proofs.Common.{◌≡◌, ◌<◌, ℕ, List, [], ◌∷◌, ◌++◌, length, refl, sym, ap, subst, ◌∙◌}
use Rattle.std.specs.Prelude.{Option, None, Some, Result, Ok, Err, OnErr, OnOk, slice_get}
use Rattle.own_base.specs.declared.change.Change.{Change}
use Rattle.own_model.specs.declared.bound.BoundSelect.{BoundSelect}
use Rattle.own_model.specs.declared.bound.Source1.{Source1}
use Rattle.own_model.specs.declared.bound.Source1.TheVariants.{Pair, Table, View}
use Rattle.own_model.specs.declared.schema.TableDef.{TableDef}
use Rattle.own_model.specs.declared.schema.ViewDef.{ViewDef}
use Rattle.own_model.specs.Db.{Db, Row}
use Rattle.own_model.specs.Stored.{rows_at}
use Rattle.schema_model.proofs.Places.{all-at, slice_get-append_below}
use Rattle.state_model.specs.Put.{put}
use Rattle.state_model.proofs.TableRows.{rows_at-with}
use Rattle.annot_schema.specs.declared.admitted.Admitted.{Admitted}
use Rattle.view_deltas.specs.Groups.{KeepsGroups}
use Rattle.view_deltas.specs.Kept.{AreKept, from_left, IsKept, KeepsJoin, StandsFor}
use Rattle.view_deltas.specs.Plain.{KeepsPlain}
use Rattle.view_deltas.specs.ViewOf.{AreViewsOf, IsSourceOf, IsViewOf}
use Rattle.view_deltas.specs.declared.kept_view.KeptView.{KeptView}
use Rattle.view_deltas.specs.declared.kept_view.KeptView.TheVariants.{Grouped, Joined, Plain}
use Rattle.store_version.specs.Added.{db_with}

-- nothing, where there is no view
pub none-kept : (db : Db) → db.schema.views ≡ [] → StandsFor db []
none-kept db none = subst (λ (views : List ViewDef). AreKept db views []) (sym none) (record { count = refl; each = λ number view one at got. absurd (let never : ◌≡◌ {A = Option KeptView} None (Some one) = got in cc) })

-- so what is kept of no view stays through changes of rows
pub none-changed : {T E : Type 0} (db : Db) (changes : List Change) (kept : List KeptView) (answer : Result T E) (after : Db) → db.schema.views ≡ [] → kept ≡ []
    → OnOk answer (after ≡ put db changes) → OnErr answer (after ≡ db) → StandsFor after kept
none-changed db changes kept (Ok made) after none is put_is left = subst (StandsFor after) (sym is) (none-kept after (ap (λ (db : Db). db.schema.views) put_is ∙ none))
none-changed db changes kept (Err why) after none is put_is left = subst (StandsFor after) (sym is) (none-kept after (ap (λ (db : Db). db.schema.views) left ∙ none))

module _ (db : Db) (admitted : Admitted) (text : List ℕ) where
  after : Db
  after = db_with db admitted text

  -- a table that was there is found as it was, with its rows
  table_before : (number : ℕ) (table : TableDef) → number < length db.schema.tables → slice_get (db.schema.tables ++ admitted.table ∷ []) number ≡ Some table → slice_get db.schema.tables number ≡ Some table
  table_before number table within at = sym (slice_get-append_below db.schema.tables (admitted.table ∷ []) number within) ∙ at

  rows_before : (number : ℕ) → rows_at (db.rows ++ [] ∷ []) number ≡ rows_at db.rows number
  rows_before number = rows_at-with db.rows number

  kept_with : (query : BoundSelect) (source : Source1) (kept : KeptView) → IsSourceOf db.schema query.grouped source → IsKept db query source kept → IsKept (db_with db admitted text) query source kept
  kept_with query (Table number) (Plain entries) there is =
      (is.0, λ table at. subst (λ (rows : List Row). KeepsPlain table query rows entries) (sym (rows_before number.0)) (is.1 table (table_before number.0 table there at)))
  kept_with query (Table number) (Grouped groups) there is = (is.0, subst (λ (rows : List Row). KeepsGroups query rows groups) (sym (rows_before number.0)) is.1)
  kept_with query (Table number) (Joined joined) there is = absurd is
  kept_with query (View view) kept there is = absurd there
  kept_with query (Pair left right left_column right_column) (Plain entries) there is = absurd is
  kept_with query (Pair left right left_column right_column) (Grouped groups) there is = absurd is
  kept_with query (Pair left right left_column right_column) (Joined joined) there is = λ one two left_at right_at.
      subst (λ (rows : List Row). KeepsJoin one two query (from_left left right left_column right_column) (rows_at (db.rows ++ [] ∷ []) left.0) rows joined) (sym (rows_before right.0))
      (subst (λ (rows : List Row). KeepsJoin one two query (from_left left right left_column right_column) rows (rows_at db.rows right.0) joined) (sym (rows_before left.0))
      (is one two (table_before left.0 one there.0 left_at) (table_before right.0 two there.1 right_at)))

  -- what is kept of each view is what it was
  pub stands-with : AreViewsOf db.schema → (kept : List KeptView) → StandsFor db kept → StandsFor (db_with db admitted text) kept
  stands-with are kept stands = record {
    count = stands.count;
    each = λ number view one at got.
        kept_with view.query view.query.source one (all-at (IsViewOf db.schema) db.schema.views are number view at).source (stands.each number view one at got);
  }
