use Rattle.std.proofs.Common.{◌≡◌, [], ◌∷◌, ◌++◌, ◌∙◌, append_assoc, refl, subst, sym, unwrap_or}
use Rattle.std.specs.List.{filter}
use Rattle.std.specs.Option.{option_copied}
use Rattle.own_model.specs.Stored.{rows_at}
use Rattle.query_model.specs.Query.{joined}
use Rattle.query_model.specs.Truth.{keeps}
use Rattle.query_eval.specs.Enough.{IsEnough}
use Rattle.query_eval.proofs.EnoughLemmas.{few_all}
use Rattle.query_eval.proofs.JoinedRows.{kept-more}
use Rattle.query_eval.proofs.pairs.kept_by_value.Goals as goal

-- A row more is gone through, with the rows that it meets.
pub loop-left-preserved : goal.loop-left-preserved
loop-left-preserved g c =
    let gone = c.loop-left.invariant in
    let rights = rows_at (g.V.StoreView.db c.args.view.now).rows c.args.tables.right.0 in
    let index = c.in_ok-index.ensures in
    let passes = keeps (option_copied c.args.cond) in
    let few : c.loop-left.kept ≡ filter passes (joined c.args.tables.left_column.0 c.args.tables.right_column.0 gone.0 rights) =
    few_all c.args.most _ c.loop-left.kept gone.2 (sym c.is_past.ensures ∙ c.if-is_past.false) in
    let met = rw (c.cell.ensures, index.column) at (c.meeting-rights.ensures rights (rw (index.column) index.rows)) in (
      gone.0 ++ c.in-Some.left.now ∷ [],
      rw (append_assoc, ← c.in-Some.ensures.steps) gone.1,
      subst (λ pairs. IsEnough c.args.most pairs c.keep_found.new.kept)
          (kept-more passes c.args.tables.left_column.0 c.args.tables.right_column.0 gone.0 rights c.in-Some.left.now c.loop-left.kept
          (unwrap_or (option_copied c.meeting-rights.result) []) _ few met refl)
          c.in_ok-keep_found.ensures,
    )
