use Rattle.std.proofs.Common.{◌≡◌, ◌++◌, true, map}
use Rattle.std.specs.declared.option.Option.TheVariants.{Some}
use Rattle.query_model.specs.Footprints.{item, keys_of}
use Rattle.plan_bind.proofs.inserted_keys.inserted_items.Given as goal

-- the items of the keys so far, and those of the keys that are left
abbrev pub invariant-loop-key : goal.invariant-loop-key
invariant-loop-key l = l.items ++ map (λ key. item l.table (Some key) true) l.key-iterator ≡ map (λ key. item l.table (Some key) true) (keys_of l.schema l.table l.rows)
