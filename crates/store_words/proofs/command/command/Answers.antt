use Rattle.std.proofs.Common.{◌≡◌, ◌∙◌, ap, ap₂, codes}
use Rattle.std.proofs.lemmas.Result.{IfOk-weaker}
use Rattle.clap.specs.Words.{App, app_of, new_app, with_subcommand}
use Rattle.clap.specs.Simple.{on_top}
use Rattle.store_words.specs.Command.{as_modes}
use Rattle.store_words.proofs.command.command.Goals as goal

pub returns : goal.returns
returns c =
    let top_is : app_of c.subcommand_required.result ≡ on_top as_modes (new_app (codes "subjectdb")) =
    rw (c.subcommand_required.ensures, c.disable_version_flag.ensures, c.disable_help_subcommand.ensures, c.disable_help_flag.ensures, c.no_binary_name.ensures)
    (ap (on_top as_modes) c.new.ensures.app) in
    let step_is = c.in_ok-subcommand.ensures.shape c.new-2.ensures.local ∙ ap₂ with_subcommand top_is (ap (λ (a : App). a.top) c.new-2.ensures.app) in
    let serve_is = c.in_ok-subcommand-2.ensures.shape c.new-3.ensures.local ∙ ap₂ with_subcommand step_is (ap (λ (a : App). a.top) c.new-3.ensures.app) in
    IfOk-weaker c.subcommand-3.result _ _ (λ command added. added.shape c.in_ok-make.ensures.local ∙ ap₂ with_subcommand serve_is (ap (λ (a : App). a.top) c.in_ok-make.ensures.app))
    c.subcommand-3.ensures
