-- The values that rules make of their parts.
use Rattle.std.specs.Prelude.{ℕ, Bool, true, false, List, [], ◌∷◌, Option, None, Some}
use Rattle.own_model.specs.declared.condition.Cond.{Cond}
use Rattle.own_model.specs.declared.select.ColRef.{ColRef}
use Rattle.own_model.specs.declared.select.Item.{Item}
use Rattle.own_model.specs.declared.select.What.TheVariants as what

-- an optional part is there
abbrev pub is_there : {A : Type 0} → Option A → Bool
is_there None = false
is_there (Some found) = true

-- a list of one is that one
abbrev pub list_of : (List Cond → Cond) → List Cond → Cond
list_of several [] = several []
list_of several (first ∷ []) = first
list_of several (first ∷ second ∷ others) = several (first ∷ second ∷ others)

-- a column, with its table where a second name comes
abbrev pub col_of : List ℕ → Option (List ℕ) → ColRef
col_of first None = record { table = None; column = first }
col_of first (Some second) = record { table = Some first; column = second }

-- what a slot counts as: a column without a name
abbrev pub slot_item : Item
slot_item = record { what = what.Column (record { table = None; column = [] }); alias = None }
