use Rattle.std.proofs.Common.{refl, ap, ◌+◌, ◌∙◌, length, rules, FitsSigned}
use Rattle.std.specs.Int.{w128}
use Rattle.std.proofs.lemmas.Int.{to_z-of_z}
use Rattle.made_model.specs.Summary.{sum_of}
use Rattle.made_script.specs.Tallied.{tallied}
use Rattle.made_script.proofs.Tallying.{tally-more}
use Rattle.made_script.proofs.tally.Tally.add.Goals as goal

pub returns : goal.returns
returns c = λ replies is.
    let fits : FitsSigned w128 c.sum_of-self-inside.result = search rules in
    tally-more (tallied c.self.inside) _ replies c.args.reply.now (c.self.view_is ∙ is)
    refl
    (ap (λ n. c.self.inside.refused + n) (c.from.ensures ∙ c.refused_of-refused.ensures.refused))
    (ap (λ n. c.self.inside.memory + n) (c.from-2.ensures ∙ c.refused_of-refused.ensures.memory))
    (ap (λ n. c.self.inside.got + n) c.got_of.ensures)
    (ap (λ n. c.self.inside.removed + n) (c.from-3.ensures ∙ c.forgot_of-removed.ensures.removed))
    (ap (λ n. c.self.inside.changed + n) (c.from-4.ensures ∙ c.forgot_of-removed.ensures.changed))
    (ap length c.rows_of-rows.ensures)
    (to_z-of_z w128 _ fits ∙ c.sum_of-self-inside.ensures ∙ ap sum_of c.rows_of-rows.ensures)
