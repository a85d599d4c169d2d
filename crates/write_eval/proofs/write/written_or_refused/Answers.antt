use Rattle.run_model.specs.Run.{run_bound}
use Rattle.write_eval.proofs.write.written_or_refused.Goals as goal

pub returns-in-Insert : goal.returns-in-Insert
unfolding run_bound
returns-in-Insert g c = rw (c.in-Insert.is, ← c.items.ensures) c.insert.ensures

pub returns-in-Update : goal.returns-in-Update
unfolding run_bound
returns-in-Update g c = rw (c.in-Update.is, ← c.items-in-Update.ensures, ← c.as_ref.ensures.value) c.update.ensures
