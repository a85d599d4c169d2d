-- What is read of rows and of the schema alone.
use Rattle.own_model.specs.declared.bound.Bound.{Bound}
use Rattle.own_model.specs.declared.bound.Bound.TheVariants.{Explain, Select}
use Rattle.own_model.specs.declared.schema.Schema.{Schema}
use Rattle.readable_model.specs.Sources.{IsThere}

-- a bound SELECT whose source is there, or EXPLAIN
abbrev pub IsRead : Schema → Bound → Type 0
IsRead schema (Select query) = IsThere schema query
IsRead schema Explain = Unit {0}
IsRead schema _ = ⊥
