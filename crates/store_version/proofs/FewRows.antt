-- Tables whose parts have few rows have few.
use Rattle.std.proofs.Common.{◌<◌, ◌^◌, zero, suc, List, [], ◌∷◌, arith, length, map}
use Rattle.std.specs.List.{AllByRecursion}
use Rattle.table_part.specs.Part.{Part, rows_of}
use Rattle.store_version.specs.AreFew.{AreFew}

abbrev pub HasFew : Part → Type 0
HasFew part = length (rows_of part) < 2 ^ 63

pub few_of_parts : (parts : List Part) → AllByRecursion HasFew parts → AreFew (map rows_of parts)
few_of_parts [] few number = omega arith
few_of_parts (part ∷ parts) few zero = few.0
few_of_parts (part ∷ parts) few (suc number) = few_of_parts parts few.1 number
