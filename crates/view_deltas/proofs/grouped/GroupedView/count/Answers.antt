use Rattle.std.proofs.Common.{sym, ◌∙◌, ap, Option, None}
use Rattle.own_base.specs.declared.value.Key.{Key}
use Rattle.own_model.specs.declared.bound.BoundCond.{BoundCond}
use Rattle.query_model.specs.Truth.{keeps}
use Rattle.view_deltas.specs.Entries.{kept_at}
use Rattle.view_deltas.specs.Groups.{counted_in}
use Rattle.view_deltas.specs.Tally.{with_row}
use Rattle.std.proofs.lemmas.Result.{on_ok_weaker}
use Rattle.view_deltas.proofs.GroupLemmas.{counted, passed_over}
use Rattle.view_deltas.proofs.grouped.GroupedView.count.Goals as goal

pub returns-then-not-keeps : goal.returns-then-not-keeps
returns-then-not-keeps c = passed_over c.args.query.now c.args.row.now c.args.self.now c.args.self.now c.args.way
    (sym (c.keeps.ensures ∙ ap (λ (cond : Option BoundCond). keeps cond c.args.row.now) c.as_ref.ensures.value) ∙ c.if-not-keeps.true)

pub returns : goal.returns
returns c = on_ok_weaker c.renew.result (λ renews. counted c.args.query.now c.args.row.now c.args.self.now c.renew.new.self c.args.way c.in_ok-side.side c.in_ok-tally.tally
    (sym (c.keeps.ensures ∙ ap (λ (cond : Option BoundCond). keeps cond c.args.row.now) c.as_ref.ensures.value) ∙ c.if-not-keeps.false) c.in_ok-side.ensures
    (c.in_ok-tally.ensures ∙ ap (λ (side : Option Key). with_row c.args.way c.args.row.now (counted_in c.args.query.now.items (kept_at c.args.self.now.groups (side, None)))) c.in_ok-copy.ensures) renews) c.renew.ensures
