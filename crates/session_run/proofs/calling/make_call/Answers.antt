use Rattle.std.proofs.Common.{◌≡◌, ap, ◌∙◌, sym, subst}
use Rattle.std.specs.Prelude.{IfSome}
use mathlib.Core.List.{IsPrefix}
use Rattle.serve_model.specs.Ahead.{IsBoundAhead}
use Rattle.serve_model.specs.Steps.{Steps, entry}
use Rattle.history_model.specs.Serial.{Serial}
use Rattle.turn_model.specs.Start.{Start}
use Rattle.commit_turn.specs.Passes.{seen, start_of, view_of}
use Rattle.commit_turn.specs.Steps.{counted, holding, released}
use Rattle.session_run.proofs.LearntLemmas.{ahead-grows}
use Rattle.session_run.proofs.PassLemmas.{may-count}
use Rattle.session_run.proofs.calling.make_call.Goals as goal

-- what was bound ahead is bound ahead of what was found, too
pub serve-step-requires-clause-ahead : goal.serve-step-requires-clause-ahead
serve-step-requires-clause-ahead g c =
    let held = c.take-held.ensures in
    let found = g.S.Keeps.history c.value.result.now in
    let start : g.S.Keeps.start c.value.result.now ≡ start_of c.args.pass.now = ap g.S.Keeps.start c.value.ensures.value ∙ held.start in
    subst (λ (start : Start). IfSome c.args.ahead (IsBoundAhead start.base found c.args.request)) (sym start)
    (ahead-grows (start_of c.args.pass.now).base (seen c.args.pass.now) found
    (subst (λ value. IsPrefix (seen c.args.pass.now) (g.S.Keeps.history value)) (sym c.value.ensures.value) held.begins)
    c.args.request c.args.ahead c.requires.ahead)

pub give-requires-clause-entries : goal.give-requires-clause-entries
give-requires-clause-entries g c =
    let held = c.take-held.ensures in
    may-count g.S.Snap.Looks.db _ _ _ (entry c.args.session c.args.call c.args.request) c.serve-step.result c.take-held.result.seat.me.0
    (ap (λ view. view.lead) held.view ∙ c.requires.worker.follows)
    (sym (ap (λ view. view.session) held.view ∙ c.requires.worker.session_is))
    (ap (λ view. view.seen) held.view ∙ sym (ap g.S.Keeps.history c.value.ensures.value)) c.serve-step.ensures.steps

-- what was found is what the value had that was lent, and what is left is what it has
pub returns-clause-made : goal.returns-clause-made
returns-clause-made g c =
    let held = c.take-held.ensures in
    let found = g.S.Keeps.history c.value.result.now in
    let left = g.S.Keeps.history c.serve-step.new.self in
    let start : g.S.Keeps.start c.value.result.now ≡ start_of c.args.pass.now = ap g.S.Keeps.start c.value.ensures.value ∙ held.start in
    record {
      found = found;
      left = left;
      begins = subst (λ value. IsPrefix (seen c.args.pass.now) (g.S.Keeps.history value)) (sym c.value.ensures.value) held.begins;
      steps = subst (λ (start : Start). Steps g.S.Snap.Looks.db start.base found left (entry c.args.session c.args.call c.args.request) c.serve-step.result) start c.serve-step.ensures.steps;
      serial = subst (λ (start : Start). Serial start.base left) (c.serve-step.ensures.start ∙ start) c.serve-step.ensures.serial;
      view = c.give.ensures.view
          ∙ ap (λ view. released (counted view left)) (held.view ∙ ap (λ value. holding (view_of c.args.pass.now) (g.S.Keeps.history value)) (sym c.value.ensures.value));
    }
