-- What a crash makes of a cut.
use Rattle.std.specs.Prelude.{◌≡◌, ℕ, ◌≤◌, List, length, take}

-- a cut to this length, in part: the same bytes up to it, and any behind them, within the old length
pub record TornCut (len : ℕ) (old new : List ℕ) : Type 0 where
  pub front : take len new ≡ take len old
  pub no_longer : length new ≤ length old
