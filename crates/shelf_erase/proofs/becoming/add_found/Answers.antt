use Rattle.std.proofs.Common.{◌∙◌}
use Rattle.std.proofs.lemmas.Result.{on_ok_weaker}
use Rattle.shelf_erase.proofs.becoming.add_found.Goals as goal

pub returns : goal.returns
returns g c =
    on_ok_weaker c.add_row.result (λ tells. tells c.args.subject.now.0 c.requires.removals (c.items.ensures ∙ c.in_ok-by.ensures)) c.add_row.ensures
