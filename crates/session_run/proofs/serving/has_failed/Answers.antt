use Rattle.std.proofs.Common.{rules, tests, ◌∙◌, ap}
use Rattle.std.specs.List.{list_any}
use Rattle.std.proofs.lemmas.Iterator.{YieldsList-from_slice}
use Rattle.std.proofs.lemmas.Iterator.Search.{any_from_yields_List}
use Rattle.session_run.specs.declared.replies.Told.{Told}
use Rattle.session_run.proofs.serving.has_failed.Goals as goal

pub returns : goal.returns
returns c =
    any_from_yields_List (λ (told : Told). told.failed) _ _ _ c.any.ensures.ran (YieldsList-from_slice c.items.result.now cc) (λ x b q k. search (rules, tests))
    ∙ ap (list_any (λ (told : Told). told.failed)) c.items.ensures
