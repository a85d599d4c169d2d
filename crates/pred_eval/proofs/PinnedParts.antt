-- The key that a condition pins, by its variant.
use Rattle.std.proofs.Common.{◌≡◌, ℕ, List, [], ◌∷◌, Bool, None, map, refl, sym, ap, ◌∙◌}
use Rattle.std.specs.List.{filter_map}
use Rattle.own_base.specs.declared.number.ColNo.{ColNo}
use Rattle.own_model.specs.declared.bound.BoundCond.{BoundCond}
use Rattle.own_model.specs.declared.bound.BoundCond.TheFolds.{fold-BoundCond, fold-roll-BoundCond}
use Rattle.own_model.specs.declared.bound.BoundCond.TheOpen.{BoundCond-F}
use Rattle.own_model.specs.declared.bound.BoundCond.TheVariants.{Every, Some1, Not, Compare, IsNull, rolls-Every, rolls-Some1, rolls-Not, rolls-Compare, rolls-IsNull}
use Rattle.own_model.specs.declared.bound.BoundOperand.{BoundOperand}
use Rattle.own_model.specs.declared.condition.Cmp.{Cmp}
use Rattle.query_model.specs.Footprints.{Pinned, compared_key, first_key, pinned_by, pinned_step}
use Rattle.pred_eval.specs.Pinned.{pinned_alone}

module _ (key_column : ℕ) where
  -- what a condition pins by itself and as the whole
  pins : BoundCond → Pinned
  pins = fold-BoundCond Pinned (pinned_step key_column)

  -- an AND
  pins-Every : (parts : List BoundCond) → pins (Every parts) ≡ pinned_step key_column (BoundCond-F.Every (map pins parts))
  unfolding pins
  pins-Every parts = ap pins (sym (rolls-Every parts)) ∙ fold-roll-BoundCond Pinned (pinned_step key_column) (BoundCond-F.Every parts)

  -- an OR
  pins-Some1 : (parts : List BoundCond) → pins (Some1 parts) ≡ pinned_step key_column (BoundCond-F.Some1 (map pins parts))
  unfolding pins
  pins-Some1 parts = ap pins (sym (rolls-Some1 parts)) ∙ fold-roll-BoundCond Pinned (pinned_step key_column) (BoundCond-F.Some1 parts)

  -- NOT
  pins-Not : (part : BoundCond) → pins (Not part) ≡ pinned_step key_column (BoundCond-F.Not (pins part))
  unfolding pins
  pins-Not part = ap pins (sym (rolls-Not part)) ∙ fold-roll-BoundCond Pinned (pinned_step key_column) (BoundCond-F.Not part)

  -- a comparison
  pins-Compare : (column : ColNo) (sign : Cmp) (right : BoundOperand) → pins (Compare column sign right) ≡ pinned_step key_column (BoundCond-F.Compare column sign right)
  unfolding pins
  pins-Compare column sign right = ap pins (sym (rolls-Compare column sign right)) ∙ fold-roll-BoundCond Pinned (pinned_step key_column) (BoundCond-F.Compare column sign right)

  -- a test for NULL
  pins-IsNull : (column : ColNo) (negated : Bool) → pins (IsNull column negated) ≡ pinned_step key_column (BoundCond-F.IsNull column negated)
  unfolding pins
  pins-IsNull column negated = ap pins (sym (rolls-IsNull column negated)) ∙ fold-roll-BoundCond Pinned (pinned_step key_column) (BoundCond-F.IsNull column negated)

  -- what the parts pin by themselves
  alone-map : (parts : List BoundCond) → filter_map (λ part. part.alone) (map pins parts) ≡ filter_map (pinned_alone key_column) parts
  unfolding pins pinned_alone
  alone-map [] = refl
  alone-map (first ∷ rest) = rw (alone-map rest) refl

  -- an AND pins by its first part that pins
  pub pinned_by-Every : (parts : List BoundCond) → pinned_by key_column (Every parts) ≡ first_key (filter_map (pinned_alone key_column) parts)
  unfolding pins pinned_by
  pinned_by-Every parts = ap (λ p. p.whole) (pins-Every parts) ∙ ap first_key (alone-map parts)

  -- an OR pins nothing
  pub pinned_by-Some1 : (parts : List BoundCond) → pinned_by key_column (Some1 parts) ≡ None
  unfolding pins pinned_by
  pinned_by-Some1 parts = ap (λ p. p.whole) (pins-Some1 parts)

  -- nor does NOT
  pub pinned_by-Not : (part : BoundCond) → pinned_by key_column (Not part) ≡ None
  unfolding pins pinned_by
  pinned_by-Not part = ap (λ p. p.whole) (pins-Not part)

  -- a comparison pins by its form
  pub pinned_by-Compare : (column : ColNo) (sign : Cmp) (right : BoundOperand) → pinned_by key_column (Compare column sign right) ≡ compared_key key_column column.0 sign right
  unfolding pins pinned_by
  pinned_by-Compare column sign right = ap (λ p. p.whole) (pins-Compare column sign right)

  -- a test for NULL pins nothing
  pub pinned_by-IsNull : (column : ColNo) (negated : Bool) → pinned_by key_column (IsNull column negated) ≡ None
  unfolding pins pinned_by
  pinned_by-IsNull column negated = ap (λ p. p.whole) (pins-IsNull column negated)

  -- as a part, an AND pins nothing
  pub pinned_alone-Every : (parts : List BoundCond) → pinned_alone key_column (Every parts) ≡ None
  unfolding pins pinned_alone
  pinned_alone-Every parts = ap (λ p. p.alone) (pins-Every parts)

  -- nor does an OR
  pub pinned_alone-Some1 : (parts : List BoundCond) → pinned_alone key_column (Some1 parts) ≡ None
  unfolding pins pinned_alone
  pinned_alone-Some1 parts = ap (λ p. p.alone) (pins-Some1 parts)

  -- nor does NOT
  pub pinned_alone-Not : (part : BoundCond) → pinned_alone key_column (Not part) ≡ None
  unfolding pins pinned_alone
  pinned_alone-Not part = ap (λ p. p.alone) (pins-Not part)

  -- a comparison pins as a part what it pins as the whole
  pub pinned_alone-Compare : (column : ColNo) (sign : Cmp) (right : BoundOperand) → pinned_alone key_column (Compare column sign right) ≡ compared_key key_column column.0 sign right
  unfolding pins pinned_alone
  pinned_alone-Compare column sign right = ap (λ p. p.alone) (pins-Compare column sign right)

  -- a test for NULL pins nothing as a part
  pub pinned_alone-IsNull : (column : ColNo) (negated : Bool) → pinned_alone key_column (IsNull column negated) ≡ None
  unfolding pins pinned_alone
  pinned_alone-IsNull column negated = ap (λ p. p.alone) (pins-IsNull column negated)

-- what a condition pins, by its variant
pub ruleset pinned_parts = (
  pinned_by-Every,
  pinned_by-Some1,
  pinned_by-Not,
  pinned_by-Compare,
  pinned_by-IsNull,
  pinned_alone-Every,
  pinned_alone-Some1,
  pinned_alone-Not,
  pinned_alone-Compare,
  pinned_alone-IsNull,
)
