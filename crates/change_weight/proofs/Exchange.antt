-- What a database weighs after some of its rows changed or moved, by what it weighed before.
use Rattle.std.proofs.Common.{◌≡◌, ℕ, ◌+◌, ◌-◌, ◌<◌, ◌≤◌, ◌^◌, List, length, false, refl, sym, ap, ◌∙◌, arith}
use Rattle.std.specs.Prelude.{Option, None, Some, is_some, sum_by}
use Rattle.std.specs.Option.{option_map_or}
use Rattle.std.specs.List.Sorted.{IsStrictlySortedBy}
use Rattle.own_base.specs.declared.row_name.RowName.{RowName}
use Rattle.own_model.specs.declared.schema.Schema.{Schema}
use Rattle.own_model.specs.Db.{Db, IsOrdered, Row}
use Rattle.owner_model.specs.Joins.{row_of}
use Rattle.subject_model.specs.NameOrder.{name_cmp}
use Rattle.subject_model.specs.Owners.{owners, reach}
use Rattle.subject_model.proofs.RisingNames.{name_order, same_rising}
use Rattle.state_model.specs.Weight.{seers, weight}
use Rattle.state_model.proofs.OwnerCounts.{seers-owners}
use Rattle.move_model.proofs.StandingLemmas.{is_listed}
use Rattle.commit_check.specs.Saturated.{saturated}
use Rattle.change_weight.specs.Shown.{all_shown}
use Rattle.change_weight.specs.WeightAt.{names_weight, weight_at, whole_weight}
use Rattle.change_weight.proofs.Sums.{sum_by-same}
use Rattle.change_weight.proofs.WeightSums.{other_there, others_in, others_rise, split_weight, there_other}

-- A sum before and after: some of it is gone, some is kept, and some has come.
pub record Exchanged (before after gone come : ℕ) : Type 0 where
  pub kept : ℕ
  pub was : before ≡ kept + gone
  pub is : after ≡ kept + come

-- what is gone was there, as far as 64 bits tell it
pub told_within : (before after gone come told : ℕ) → Exchanged before after gone come → told ≡ saturated gone → told ≤ before
told_within before after gone come told sums is = let was = sums.was in omega arith

-- and with what has come it is the sum after
pub told_after : (weighs before after gone come taken added : ℕ) → weighs < 2 ^ 64 → before ≡ weighs → Exchanged before after gone come → taken ≡ saturated gone → added ≡ saturated come
    → saturated (weighs - taken + added) ≡ saturated after
told_after weighs before after gone come taken added fits has sums took adds = let was = sums.was in let is = sums.is in omega arith

-- The row of a name is the same in two databases, and so are those that own it and those that reach it.
pub record IsKept (before after : Db) (name : RowName) : Type 0 where
  pub row : row_of before name ≡ row_of after name
  pub owned : owners before name ≡ owners after name
  pub reached : reach before name ≡ reach after name

same_found : (f g : Row → ℕ) (found : Option Row) → ((row : Row) → f row ≡ g row) → option_map_or f found 0 ≡ option_map_or g found 0
same_found f g None same = refl
same_found f g (Some row) same = same row

module _ (before after : Db) (schema : after.schema ≡ before.schema) (name : RowName) (kept : IsKept before after name) where
  same_seers : seers before name ≡ seers after name
  unfolding reach
  same_seers =
      let here = seers-owners before name in
      let there = seers-owners after name in
      let owned = ap length kept.owned in
      let reached = ap length kept.reached in
      omega arith

  same_row : (row : Row) → whole_weight before (record { name = name; row = row }) ≡ whole_weight after (record { name = name; row = row })
  same_row row =
      let shown : all_shown before.schema name.table.0 row ≡ all_shown after.schema name.table.0 row = ap (λ (s : Schema). all_shown s name.table.0 row) (sym schema) in
      rw (kept.owned, same_seers, shown) refl

  -- so it weighs the same in both
  pub kept_weighs : weight_at before name ≡ weight_at after name
  unfolding weight_at
  kept_weighs =
      let weighs : Row → ℕ = λ row. whole_weight before (record { name = name; row = row }) in
      ap (λ (found : Option Row). option_map_or weighs found 0) kept.row ∙ same_found weighs (λ row. whole_weight after (record { name = name; row = row })) (row_of after name) same_row

module _ (before after : Db) (schema : after.schema ≡ before.schema) (ordered : IsOrdered before) (orders : IsOrdered after)
    (names : List RowName) (rise : IsStrictlySortedBy name_cmp names) (kept : (name : RowName) → is_listed name names ≡ false → IsKept before after name) where
  same_others : others_in before names ≡ others_in after names
  same_others =
      same_rising name_order _ _ (others_rise before ordered names) (others_rise after orders names) (λ name. (
        (λ among.
            let (there, other) = other_there before ordered names name among in
            there_other after orders names name (sym (ap is_some (kept name other).row) ∙ there) other),
        (λ among.
            let (there, other) = other_there after orders names name among in
            there_other before ordered names name (ap is_some (kept name other).row ∙ there) other),
      ))

  -- Where the rows of all names but some are kept, those of these names make the difference.
  pub exchanged : Exchanged (weight before) (weight after) (names_weight before names) (names_weight after names)
  exchanged =
      let was = split_weight before ordered names rise in
      let is = split_weight after orders names rise in
      let same : sum_by (weight_at before) (others_in before names) ≡ sum_by (weight_at after) (others_in before names) =
      sum_by-same (weight_at before) (weight_at after) (others_in before names)
      (λ name among. kept_weighs before after schema name (kept name (other_there before ordered names name among).1)) in
      let others = ap (sum_by (weight_at after)) same_others in
      record { kept = sum_by (weight_at before) (others_in before names); was = omega arith; is = omega arith }
