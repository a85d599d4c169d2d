use Rattle.std.proofs.Common.{rules, refl, arith}
use Rattle.commit_turn.specs.declared.view.Stage.TheVariants.{Out}
use Rattle.commit_turn.specs.Passes.{view_of}
use Rattle.commit_turn.specs.Steps.{lead_without, split_off}
use Rattle.commit_turn.proofs.Sitting.{flags_set, sits}
use Rattle.commit_turn.proofs.turn.Turn.split.Goals as goal

pub returns-clause-lead : goal.returns-clause-lead
returns-clause-lead g c = sits _ _ (lead_without c.args.session.0 (view_of c.args.lead.now)) (search rules) (grind arith) (search rules) (search rules) (search rules) (search rules)
    (flags_set (view_of c.args.lead.now).stages c.args.lead.now.out c.args.session.0 c.from.result Out c.requires.lead.0.out (search rules))

pub returns-clause-pass : goal.returns-clause-pass
returns-clause-pass g c = sits _ _ (split_off c.args.session.0 (view_of c.args.lead.now)) (search rules) (grind arith) (search rules) (search rules) refl c.requires.number refl
