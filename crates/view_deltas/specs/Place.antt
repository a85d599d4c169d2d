-- Where a row stands in its view.
use Rattle.std.specs.Prelude.{Option}
use Rattle.std.specs.Option.{option_cmp}
use Rattle.std.specs.declared.cmp.Ordering.{Ordering}
use Rattle.own_base.specs.Key.{key_cmp}
use Rattle.own_base.specs.declared.value.Key.{Key}
use Rattle.ordered_pairs.specs.PairOrder.{pair_cmp}

-- two keys, of which each may be missing
abbrev pub Place : Type 0
Place = Option Key × Option Key

-- a missing key before all others
abbrev pub side_cmp : Option Key → Option Key → Ordering
side_cmp = option_cmp key_cmp

-- by the first key, then by the second one
abbrev pub place_cmp : Place → Place → Ordering
place_cmp = pair_cmp side_cmp side_cmp
