use Rattle.std.proofs.Common.{◌≡◌, [], fold, take}
use Rattle.own_model.specs.Db.{key_of}
use Rattle.query_model.specs.Footprints.{with_key}
use Rattle.plan_bind.proofs.inserted_keys.keys_of.Given as goal

abbrev pub invariant-loop-row : goal.invariant-loop-row
invariant-loop-row l = l.keys.keys ≡ fold (λ keys row. with_key (key_of l.definition row) keys) [] (take l.row-index l.rows)
