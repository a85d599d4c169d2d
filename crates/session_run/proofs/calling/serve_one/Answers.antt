use Rattle.commit_turn.specs.Passes.{seen}
use Rattle.session_run.specs.Serving.{base_of}
use Rattle.session_run.proofs.LearntLemmas.{bound-over, learnt-by, learnt-within}
use Rattle.session_run.proofs.PassLemmas.{may-look, serves-one}
use Rattle.session_run.proofs.calling.serve_one.Goals as goal

pub tell_step-told-requires : goal.tell_step-told-requires
tell_step-told-requires g c =
    let made = c.make_call-step.ensures.made in
    may-look g.S.Snap.Looks.db _ made.found made.left _ c.make_call-step.result made.steps

pub returns-clause-served : goal.returns-clause-served
returns-clause-served g c =
    serves-one g.S.Snap.Looks.db c.args.pass.now c.make_call-step.new.pass c.args.session c.args.asked c.make_call-step.result c.tell_step-told.result c.make_call-step.ensures.made c.tell_step-told.ensures

-- what is known of the schema stays so
pub bound_ahead-ahead-requires-clause-within : goal.bound_ahead-ahead-requires-clause-within
bound_ahead-ahead-requires-clause-within g c = learnt-within (base_of c.args.pass.now) (seen c.args.pass.now) c.args.learnt.now c.requires.learnt

pub make_call-step-requires-clause-ahead : goal.make_call-step-requires-clause-ahead
make_call-step-requires-clause-ahead g c =
    bound-over (base_of c.args.pass.now) (seen c.args.pass.now) c.args.learnt.now _ c.bound_ahead-ahead.result c.requires.learnt c.bound_ahead-ahead.ensures

pub returns-clause-learnt : goal.returns-clause-learnt
returns-clause-learnt g c =
    learnt-by g.S.Snap.Looks.db c.args.pass.now c.make_call-step.new.pass _ c.make_call-step.result c.args.learnt.now c.learn_by.new.learnt c.make_call-step.ensures.made c.learn_by.ensures c.requires.learnt
