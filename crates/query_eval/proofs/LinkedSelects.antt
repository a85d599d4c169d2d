-- The rows of a select whose kept rows are known.
use Rattle.std.proofs.Common.{◌≡◌, List, Bool, true, false, map, sym, ap, ◌∙◌}
use Rattle.std.specs.Prelude.{if◌then◌else◌}
use Rattle.std.specs.List.{filter}
use Rattle.own_model.specs.declared.bound.BoundSelect.{BoundSelect}
use Rattle.own_model.specs.declared.schema.Schema.{Schema}
use Rattle.own_model.specs.Db.{Row}
use Rattle.query_model.specs.Query.{base_rows, grouped, in_order, projected, query_rows, selected, source_rows}
use Rattle.query_model.specs.Truth.{keeps}
use Rattle.query_eval.specs.Sources.{IsBaseOf}
use Rattle.query_eval.proofs.BaseRows.{source_rows-base}

module _ (schema : Schema) (rows : List (List Row)) (query : BoundSelect) (base : IsBaseOf schema query.source) where
  abbrev kept : List Row → List Row
  kept all = filter (keeps query.cond) all

  abbrev by_groups : List Row → List Row
  by_groups some = in_order query.order (grouped query.items query.group some)

  abbrev plainly : List Row → List Row
  plainly some = map (projected query.items) (in_order query.order some)

  -- they don't hang on the views
  of_base : kept (base_rows rows query.source) ≡ kept (source_rows schema rows query.source)
  of_base = ap kept (sym (source_rows-base schema rows query.source base))

  pub grouped_are : (some : List Row) → query.grouped ≡ true → some ≡ kept (base_rows rows query.source) → by_groups some ≡ query_rows schema rows query
  unfolding query_rows selected
  grouped_are some is are =
      ap by_groups (are ∙ of_base)
      ∙ sym (ap (λ (b : Bool). if b then by_groups (kept (source_rows schema rows query.source)) else plainly (kept (source_rows schema rows query.source))) is)

  pub plain_are : query.grouped ≡ false → plainly (kept (base_rows rows query.source)) ≡ query_rows schema rows query
  unfolding query_rows selected
  plain_are is =
      ap plainly of_base
      ∙ sym (ap (λ (b : Bool). if b then by_groups (kept (source_rows schema rows query.source)) else plainly (kept (source_rows schema rows query.source))) is)
