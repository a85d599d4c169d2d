use Rattle.store_top.proofs.serving.serve_engine.Goals as goal

-- over the database that was opened
pub returns-clause-left : goal.returns-clause-left
returns-clause-left g c = rw (c.tell_calls-fault.ensures.base, c.tell_calls-fault.ensures.start) at c.end_of.ensures.left

-- from where its journal stood then
pub returns-clause-exact : goal.returns-clause-exact
returns-clause-exact g c = rw (c.tell_calls-fault.ensures.journal, c.tell_calls-fault.ensures.base, c.tell_calls-fault.ensures.start) at c.end_of.ensures.exact

-- and laid anew over it
pub returns-clause-alone : goal.returns-clause-alone
returns-clause-alone g c = rw (c.tell_calls-fault.ensures.journal, c.tell_calls-fault.ensures.base, c.tell_calls-fault.ensures.start) at c.end_of.ensures.alone
