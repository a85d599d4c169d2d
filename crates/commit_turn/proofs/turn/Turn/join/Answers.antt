use Rattle.std.proofs.Common.{rules, arith}
use Rattle.commit_turn.specs.declared.view.Stage.TheVariants.{Joined}
use Rattle.commit_turn.specs.Passes.{places, view_of}
use Rattle.commit_turn.specs.Steps.{lead_with}
use Rattle.commit_turn.proofs.Sitting.{flags_set, sits}
use Rattle.commit_turn.proofs.turn.Turn.join.Goals as goal

pub returns-clause-pass : goal.returns-clause-pass
returns-clause-pass g c = (sits _ _ (lead_with (view_of c.args.lead.now) (view_of c.args.done)) (search rules) (grind arith) (search rules) (search rules) (search rules) (search rules)
    (flags_set (view_of c.args.lead.now).stages c.args.lead.now.out (view_of c.args.done).session c.from.result (Joined (places c.args.done)) c.requires.lead.0.out (search rules))).0
