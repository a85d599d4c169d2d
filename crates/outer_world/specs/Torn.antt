-- What a crash makes of a write.
use Rattle.std.specs.Prelude.{◌≡◌, ℕ, ◌+◌, ◌≤◌, List, length, take, drop}

-- a write of so many bytes at this place, in part or with other bytes: the same bytes in front of the range and behind
-- it, and no fewer of them
pub record Torn (place count : ℕ) (old new : List ℕ) : Type 0 where
  pub front : take place new ≡ take place old
  pub behind : drop (place + count) new ≡ drop (place + count) old
  pub no_shorter : length old ≤ length new
