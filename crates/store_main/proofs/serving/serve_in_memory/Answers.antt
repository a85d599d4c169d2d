use Rattle.std.proofs.Common.{refl}
use Rattle.store_main.proofs.Ends.{fresh-served}
use Rattle.store_main.proofs.serving.serve_in_memory.Goals as goal

-- the disk holds nothing at first
pub returns-clause-ran : goal.returns-clause-ran
returns-clause-ran g c = rw c.ended.ensures (record {
  opened = c.run.result.opened;
  history = c.run.result.history;
  fresh = λ is. fresh-served _ _ _ _ _ _ _ _ _ _ _ _ c.run.ensures.on_disk refl (rw c.new-disk.ensures refl) (rw c.new-disk.ensures refl);
  ran = c.run.ensures.ran;
})
