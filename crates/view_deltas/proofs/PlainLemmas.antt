-- What is kept for a plain view follows a change.
use Rattle.std.proofs.Common.{◌≡◌, refl, sym, ◌∙◌, ap, subst, List, Option, Some, None}
use Rattle.std.specs.Prelude.{Bool, true, false, cond}
use Rattle.std.specs.Option.{option_and_then}
use Rattle.std.specs.Ordering.{is_eq, ordering_then}
use Rattle.std.specs.declared.cmp.Ordering.{Ordering}
use Rattle.std.specs.declared.cmp.Ordering.TheVariants.{Less, Equal, Greater}
use Rattle.own_base.specs.Key.{key_cmp}
use Rattle.own_base.specs.declared.value.Key.{Key}
use Rattle.own_model.specs.declared.bound.BoundSelect.{BoundSelect}
use Rattle.own_model.specs.declared.schema.TableDef.{TableDef}
use Rattle.own_model.specs.Db.{Row}
use Rattle.view_deltas.specs.Entries.{kept_at, PutsAt}
use Rattle.view_deltas.specs.Place.{Place}
use Rattle.view_deltas.specs.Plain.{KeepsPlain, plain_at}
use Rattle.view_deltas.specs.Shown.{shown_of}
use Rattle.view_deltas.specs.TableRows.{Follows, row_at}
use Rattle.view_deltas.proofs.ChangeLemmas.{row_changed}

-- an order that goes on with an equality is the first, and with another it isn't equal
pub then_equal : (o : Ordering) → is_eq (ordering_then o Equal) ≡ is_eq o
then_equal Less = refl
then_equal Equal = refl
then_equal Greater = refl

pub then_less : (o : Ordering) → is_eq (ordering_then o Less) ≡ false
then_less Less = refl
then_less Equal = refl
then_less Greater = refl

-- what is made of a choice
pub chosen : {X Y : Type 0} (f : X → Y) (b : Bool) (x y : X) → cond b (f x) (f y) ≡ f (cond b x y)
chosen f true x y = refl
chosen f false x y = refl

module _ (table : TableDef) (query : BoundSelect) (key : Key) (before after : Option Row) (old new : List (Place × Row)) where
  follows : PutsAt (Some key, None) (option_and_then (shown_of query) after) old new → Follows (KeepsPlain table query) table key before after old new
  unfolding plain_at
  follows put rows are fits kept (Some other, None) =
      put (Some other, None)
      ∙ (ap (λ b. cond b (option_and_then (shown_of query) after) (kept_at old (Some other, None))) (then_equal (key_cmp key other))
      ∙ (ap (cond (is_eq (key_cmp key other)) (option_and_then (shown_of query) after)) (kept (Some other, None))
      ∙ (chosen (option_and_then (shown_of query)) (is_eq (key_cmp key other)) after (row_at table rows other)
      ∙ ap (option_and_then (shown_of query)) (sym (row_changed table key before after rows fits other)))))
  follows put rows are fits kept (None, None) = put (None, None) ∙ kept (None, None)
  follows put rows are fits kept (None, Some other) = put (None, Some other) ∙ kept (None, Some other)
  follows put rows are fits kept (Some one, Some other) =
      put (Some one, Some other)
      ∙ (ap (λ b. cond b (option_and_then (shown_of query) after) (kept_at old (Some one, Some other))) (then_less (key_cmp key one))
      ∙ kept (Some one, Some other))

  -- what is shown of the row after the change is put under its key
  pub plain_follows : (own : Key) (shown : Option Row) → own ≡ key → shown ≡ option_and_then (shown_of query) after → PutsAt (Some own, None) shown old new → Follows (KeepsPlain table query) table key before after old new
  plain_follows own shown is are put =
      let at_key : PutsAt (Some key, None) shown old new = subst (λ (k : Key). PutsAt (Some k, None) shown old new) is put in
      follows (subst (λ (o : Option Row). PutsAt (Some key, None) o old new) are at_key)
