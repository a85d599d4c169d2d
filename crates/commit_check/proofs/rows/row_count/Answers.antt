use Rattle.std.proofs.Common.{◌≡◌, ◌+◌, ◌<◌, ◌≤◌, min, ◌-◌, ◌^◌, length, get_or, [], take, ap, ◌∙◌, arith}
use Rattle.std.specs.Prelude.{sum_by}
use Rattle.std.proofs.lemmas.List.Sums.{sum_by_more}
use Rattle.std.proofs.lemmas.List.{take_all}
use Rattle.own_model.specs.declared.schema.Schema.{Schema}
use Rattle.commit_check.proofs.RowCounts.{length-rising}
use Rattle.commit_check.proofs.rows.row_count.Goals as goal

pub loop-number-preserved : goal.loop-number-preserved
loop-number-preserved g c =
    let rows = (g.V.StoreView.db c.args.view.now).rows in
    let tables = (g.V.StoreView.db c.args.view.now).schema.tables in
    let listed : length rows ≡ length tables = length-rising tables rows (g.met.V.StoreView.ordered c.args.view.now).rising in
    let named : length c.items.result.now ≡ length tables = ap length (c.items.ensures ∙ ap (λ (s : Schema). s.tables) c.schema.ensures) in
    let within : c.loop-number.number < length rows = omega arith in
    let more = sum_by_more length rows c.loop-number.number [] within in
    let one : c.count.result ≡ length (get_or rows c.loop-number.number []) = c.count.ensures in
    let so_far : c.loop-number.count ≡ min (sum_by length (take c.loop-number.number rows)) (2 ^ 64 - 1) = c.loop-number.invariant in
    let result : c.saturating_add-count.result ≡ min (sum_by length (take (c.loop-number.number + 1) rows)) (2 ^ 64 - 1) = omega arith in
    result

pub returns : goal.returns
returns g c =
    let rows = (g.V.StoreView.db c.args.view.now).rows in
    let tables = (g.V.StoreView.db c.args.view.now).schema.tables in
    let listed : length rows ≡ length tables = length-rising tables rows (g.met.V.StoreView.ordered c.args.view.now).rising in
    let named : length c.items.result.now ≡ length tables = ap length (c.items.ensures ∙ ap (λ (s : Schema). s.tables) c.schema.ensures) in
    let past : length rows ≤ c.loop-number.number = omega arith in
    c.loop-number.invariant ∙ ap (λ list. min (sum_by length list) (2 ^ 64 - 1)) (take_all c.loop-number.number rows past)
