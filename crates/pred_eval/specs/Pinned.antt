-- The key that a part of a condition pins.
use Rattle.std.specs.Prelude.{ℕ, Option}
use Rattle.own_base.specs.declared.value.Key.{Key}
use Rattle.own_model.specs.declared.bound.BoundCond.{BoundCond}
use Rattle.own_model.specs.declared.bound.BoundCond.TheFolds.{fold-BoundCond}
use Rattle.query_model.specs.Footprints.{Pinned, pinned_step}

-- the key of a part that is `primary key = literal`
unfoldable pub pinned_alone : ℕ → BoundCond → Option Key
pinned_alone key_column part = (fold-BoundCond Pinned (pinned_step key_column) part).alone
