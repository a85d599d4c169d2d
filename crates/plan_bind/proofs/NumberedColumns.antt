-- The column of a name, found as the columns are gone over.
use Rattle.bind_scope.proofs.Lookups.{find_here}

-- a loop that returns the first column that has the name
pub ruleset columns = (find_here)
