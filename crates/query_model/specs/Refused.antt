-- Which of several faults of a statement is told.
use Rattle.std.specs.Prelude.{ℕ, List, Option, None, Some, fold, nat_lt, if◌then◌else◌}
use Rattle.own_model.specs.declared.refusal.Refusal.{Refusal}
use Rattle.own_model.specs.declared.refusal.Refusal.TheVariants.{BadSchema, Count, KeyWrite, Limit, NameTaken, NoColumn, NoTable, NotSubject, NullValue, WrongKind}

-- the place of a fault of binding in the order of refusals
abbrev pub rank : Refusal → ℕ
rank (NoTable table) = 2
rank (NoColumn column) = 3
rank (WrongKind column) = 4
rank (Count got wanted) = 5
rank (NameTaken name) = 6
rank (BadSchema rule name) = 7
rank (KeyWrite column) = 10
rank (NotSubject table) = 11
rank (NullValue column) = 12
rank (Limit passed) = 25
rank _ = 28

-- the one of two that is told: the one of the lower rank, and of one rank the first
abbrev pub sooner : Option Refusal → Refusal → Option Refusal
sooner None fault = Some fault
sooner (Some first) fault = if nat_lt (rank fault) (rank first) then Some fault else Some first

-- the first fault of the lowest rank
unfoldable pub lowest : List Refusal → Option Refusal
lowest faults = fold sooner None faults
