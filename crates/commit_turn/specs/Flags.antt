-- How many flags are raised.
use Rattle.std.specs.Prelude.{ℕ, List, Bool, count_by}

abbrev pub raised : List Bool → ℕ
raised flags = count_by (λ flag. flag) flags
