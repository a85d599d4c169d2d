-- An index that follows changes one after another.
use Rattle.std.proofs.Common.{◌≡◌, refl, sym, ◌∙◌, ap, subst, ℕ, ◌+◌, ◌<◌, ◌≤◌, List, [], ◌∷◌, Option, length, drop, get_or}
use Rattle.std.proofs.lemmas.List.{drop_all, drop_more}
use Rattle.own_base.specs.declared.change.Change.{Change}
use Rattle.own_base.specs.declared.value.Key.{Key}
use Rattle.own_model.specs.Db.{Row}
use Rattle.ref_index.specs.AfterChanges.{after_changes, Fit}
use Rattle.ref_index.specs.Entries.{Follows}
use Rattle.ref_index.specs.Halfway.{Halfway}
use Rattle.ref_index.specs.IndexOf.{IsIndexOf}

module _ (table column : ℕ) where
  -- at first all changes are left
  pub begins : (changes : List Change) (pairs : List (Key × Key)) (rows : Key → Option Row) → Fit table changes rows → IsIndexOf column rows pairs → Halfway table column changes pairs (after_changes table changes rows)
  begins changes pairs rows fit index = record { rows = rows; index = index; fit = fit; same = refl }

  -- one more is followed
  follow_one : (change : Change) (left : List Change) (before after : List (Key × Key)) (wanted : Key → Option Row) → Follows table column change before after
      → Halfway table column (change ∷ left) before wanted → Halfway table column left after wanted
  unfolding after_changes Fit
  follow_one change left before after wanted follows half =
      record { rows = _; index = follows half.rows half.fit.0 half.index; fit = half.fit.1; same = half.same }

  pub goes_on : (changes : List Change) (index : ℕ) (change : Change) (before after : List (Key × Key)) (wanted : Key → Option Row) → index < length changes → change ≡ get_or changes index change
      → Follows table column change before after → Halfway table column (drop index changes) before wanted → Halfway table column (drop (index + 1) changes) after wanted
  goes_on changes index change before after wanted within is follows half =
      let here : drop index changes ≡ change ∷ drop (index + 1) changes = drop_more changes index change within ∙ ap (λ first. first ∷ drop (index + 1) changes) (sym is) in
      follow_one change (drop (index + 1) changes) before after wanted follows (subst (λ left. Halfway table column left before wanted) here half)

  -- and in the end none is left
  none_left : (pairs : List (Key × Key)) (wanted : Key → Option Row) → Halfway table column [] pairs wanted → IsIndexOf column wanted pairs
  unfolding after_changes
  none_left pairs wanted half = subst (λ rows. IsIndexOf column rows pairs) half.same half.index

  pub ends : (changes : List Change) (index : ℕ) (pairs : List (Key × Key)) (wanted : Key → Option Row) → length changes ≤ index → Halfway table column (drop index changes) pairs wanted → IsIndexOf column wanted pairs
  ends changes index pairs wanted all half = none_left pairs wanted (subst (λ left. Halfway table column left pairs wanted) (drop_all index changes all) half)
