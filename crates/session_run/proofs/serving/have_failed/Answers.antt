use Rattle.std.proofs.Common.{rules, tests, ◌∙◌, ap}
use Rattle.std.specs.List.{list_any}
use Rattle.std.proofs.lemmas.Iterator.{YieldsList-from_slice}
use Rattle.std.proofs.lemmas.Iterator.Search.{any_from_yields_List}
use Rattle.session_run.specs.declared.replies.SessionReplies.{SessionReplies}
use Rattle.session_run.proofs.serving.have_failed.Goals as goal

pub returns : goal.returns
returns c =
    any_from_yields_List (λ (own : SessionReplies). list_any (λ told. told.failed) own.replies) _ _ _ c.any.ensures.ran (YieldsList-from_slice c.items.result.now cc) (λ x b q k. search (rules, tests))
    ∙ ap (list_any (λ (own : SessionReplies). list_any (λ told. told.failed) own.replies)) c.items.ensures
