-- Which changes of a write are of its net.
use Rattle.std.specs.Prelude.{Bool, not}
use Rattle.own_base.specs.declared.change.Change.{Change}
use Rattle.state_model.specs.Same.{is_same_state}

-- a change that leaves another row than it met, or takes one away
abbrev pub differs : Change → Bool
differs change = not (is_same_state change.before change.after)
