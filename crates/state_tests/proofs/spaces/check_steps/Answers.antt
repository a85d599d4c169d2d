use Rattle.state_tests.proofs.spaces.check_steps.Goals as goal

pub loop-step-init : goal.loop-step-init
loop-step-init g c = c.new-space.ensures.sound c.args.base.now.schema.tables
