-- What contracts see of an area in memory.
use Rattle.std.specs.Prelude.{ℕ, List, Option, Some, None, Vec}
use Rattle.std.specs.declared.alloc.Global.{Global}
use Rattle.own_base.specs.declared.number.Area.{Area}
use Rattle.own_base.specs.declared.number.Area.TheVariants.{A, B}

-- its bytes at the start, its bytes now, and what the last sync made durable
pub record AreaContents : Type 0 where
  pub start : List ℕ
  pub seen : List ℕ
  pub synced : List ℕ

-- these bytes from the start on, all of them durable
abbrev pub fresh_contents : List ℕ → AreaContents
fresh_contents bytes = record { start = bytes; seen = bytes; synced = bytes }

-- what was set apart as the start, or else what there is
abbrev pub apart_or : Option (Vec ℕ Global) → List ℕ → List ℕ
apart_or (Some apart) bytes = apart.items
apart_or None bytes = bytes

-- the one of the two that is this area
abbrev pub of_area : Area → AreaContents → AreaContents → AreaContents
of_area A a b = a
of_area B a b = b
