-- What is kept follows changes one after another.
use Rattle.std.proofs.Common.{◌≡◌, refl, sym, ◌∙◌, ap, subst, ℕ, ◌+◌, ◌<◌, ◌≤◌, List, [], ◌∷◌, length, drop, get_or}
use Rattle.std.proofs.lemmas.List.{drop_all, drop_more}
use Rattle.own_base.specs.declared.change.Change.{Change}
use Rattle.own_model.specs.declared.schema.TableDef.{TableDef}
use Rattle.own_model.specs.Db.{Row}
use Rattle.view_deltas.specs.Changes.{after_changes, AllFit, FollowsOne, Halfway}
use Rattle.view_deltas.specs.TableRows.{AreRows}
use Rattle.view_deltas.proofs.ChangeLemmas.{rows_after}

module _ {S : Type 0} (Keeps : List Row → S → Type 0) (number : ℕ) (table : TableDef) where
  -- at first all changes are left
  pub begins : (changes : List Change) (state : S) (rows : List Row) → AreRows table rows → AllFit number table changes rows → Keeps rows state
      → Halfway Keeps number table changes state (after_changes number table changes rows)
  begins changes state rows are fit kept = record { rows = rows; are = are; fit = fit; kept = kept; same = refl }

  -- one more is followed
  follow_next : (change : Change) (left : List Change) (before after : S) (wanted : List Row) → FollowsOne Keeps number table change before after
      → Halfway Keeps number table (change ∷ left) before wanted → Halfway Keeps number table left after wanted
  unfolding after_changes AllFit
  follow_next change left before after wanted follows half = record {
    rows = _;
    are = rows_after number table change half.rows half.are half.fit.0;
    fit = half.fit.1;
    kept = follows half.rows half.are half.fit.0 half.kept;
    same = half.same;
  }

  pub goes_on : (changes : List Change) (index : ℕ) (change : Change) (before after : S) (wanted : List Row) → index < length changes → change ≡ get_or changes index change
      → FollowsOne Keeps number table change before after → Halfway Keeps number table (drop index changes) before wanted → Halfway Keeps number table (drop (index + 1) changes) after wanted
  goes_on changes index change before after wanted within is follows half =
      let here : drop index changes ≡ change ∷ drop (index + 1) changes = drop_more changes index change within ∙ ap (λ first. first ∷ drop (index + 1) changes) (sym is) in
      follow_next change (drop (index + 1) changes) before after wanted follows (subst (λ left. Halfway Keeps number table left before wanted) here half)

  -- and in the end none is left
  none_left : (state : S) (wanted : List Row) → Halfway Keeps number table [] state wanted → Keeps wanted state
  unfolding after_changes
  none_left state wanted half = subst (λ rows. Keeps rows state) half.same half.kept

  pub ends : (changes : List Change) (index : ℕ) (state : S) (wanted : List Row) → length changes ≤ index → Halfway Keeps number table (drop index changes) state wanted → Keeps wanted state
  ends changes index state wanted all half = none_left state wanted (subst (λ left. Halfway Keeps number table left state wanted) (drop_all index changes all) half)
