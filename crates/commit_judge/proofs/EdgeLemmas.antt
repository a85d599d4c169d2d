-- The tables of an edge aren't lone.
use Rattle.std.proofs.Common.{◌≡◌, ℕ, Bool, true, false, not, refl, eq-eqb}
use Rattle.std.specs.Prelude.{◌&&◌, Contains}
use Rattle.std.specs.List.{list_any}
use Rattle.std.proofs.lemmas.Bool.{or_left, or_right}
use Rattle.own_model.specs.declared.schema.Edge.{Edge}
use Rattle.own_model.specs.declared.schema.Schema.{Schema}
use Rattle.subject_model.proofs.Members.{any_contained}
use Rattle.schema_model.specs.Tables.{is_subject}
use Rattle.schema_model.specs.Lone.{is_lone, touches}

-- one edge is enough
joined : (subject edged : Bool) → edged ≡ true → (not subject && not edged) ≡ false
joined true edged is = refl
joined false edged is = rw is refl

module _ (schema : Schema) where
  touched : (number : ℕ) (edge : Edge) → Contains schema.edges edge → touches number edge ≡ true → is_lone schema number ≡ false
  unfolding is_lone
  touched number edge among is = joined (is_subject schema number) (list_any (touches number) schema.edges) (any_contained (touches number) schema.edges edge among is)

  -- the table that it goes out of
  pub lower-edged : (edge : Edge) → Contains schema.edges edge → is_lone schema edge.lower.0 ≡ false
  lower-edged edge among = touched edge.lower.0 edge among (or_left _ _ (eq-eqb edge.lower.0 edge.lower.0 refl))

  -- and the one that it leads up to
  pub upper-edged : (edge : Edge) → Contains schema.edges edge → is_lone schema edge.upper.0 ≡ false
  upper-edged edge among = touched edge.upper.0 edge among (or_right _ _ (eq-eqb edge.upper.0 edge.upper.0 refl))
