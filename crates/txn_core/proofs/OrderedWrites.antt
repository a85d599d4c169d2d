-- What a write leaves is in order.
use Rattle.own_model.specs.declared.bound.Bound.{Bound}
use Rattle.own_model.specs.declared.bound.Bound.TheVariants.{Delete, Explain, Forget, Get, Insert, Select, Update}
use Rattle.own_model.specs.Db.{Db, IsOrdered}
use Rattle.run_model.specs.Run.{run_bound}
use Rattle.run_model.proofs.OrderedRuns.{ordered-delete, ordered-insert, ordered-update}
use Rattle.write_eval.specs.Write.{IsWrite}
use Rattle.write_eval.proofs.Replacements.{keyless_sets}

-- its keys rise still
pub ordered-write : (db : Db) (bound : Bound) → IsOrdered db → IsWrite db.schema bound → IsOrdered (run_bound db bound).db
unfolding run_bound
ordered-write db (Insert table tuples) ordered write = ordered-insert db ordered table.0 tuples
ordered-write db (Update table sets cond) ordered write =
    ordered-update db ordered table.0 sets cond (λ definition is. keyless_sets db.schema table definition sets is write.1)
ordered-write db (Delete table cond) ordered write = ordered-delete db ordered table.0 cond
ordered-write db (Select query) ordered write = absurd write
ordered-write db (Get subject) ordered write = absurd write
ordered-write db (Forget subject) ordered write = absurd write
ordered-write db Explain ordered write = absurd write
