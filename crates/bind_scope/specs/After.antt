-- The fault that is kept of several.
use Rattle.std.specs.Prelude.{List, Option, fold}
use Rattle.own_model.specs.declared.refusal.Refusal.{Refusal}
use Rattle.query_model.specs.Refused.{sooner}

-- the one that is kept after these, in the text's order
abbrev pub after : Option Refusal → List Refusal → Option Refusal
after kept faults = fold sooner kept faults
