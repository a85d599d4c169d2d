-- Names that stand in lists.
use Rattle.std.proofs.Common.{◌≡◌, ℕ, ◌+◌, ◌<◌, List, [], ◌∷◌, ◌++◌, map, length, get_or, take, drop, bytes_eq, if◌then◌else◌, refl}
use Rattle.std.specs.List.{list_any}
use Rattle.std.proofs.lemmas.List.{take_more}
use Rattle.own_model.specs.declared.refusal.Refusal.TheVariants.{BadSchema}
use Rattle.query_model.specs.BoundView.{repeated_after}
use Rattle.query_model.specs.Scope.{NameBytes}
use Rattle.schema_model.specs.Columns.{is_named}
use Rattle.bind_scope.proofs.Lookups.{drop_here}

-- whether a name is that of one of these
pub is_named-map : {A : Type 0} (name_of : A → NameBytes) (items : List A) (name : NameBytes)
    → is_named (map name_of items) name ≡ list_any (λ item. bytes_eq (name_of item) name) items
is_named-map name_of [] name = refl
is_named-map name_of (item ∷ items) name = rw (is_named-map name_of items name)

-- the names from one number on that repeat one before them: this one, and those behind it
pub repeated_here : (names : List NameBytes) (i : ℕ) (name : NameBytes) → i < length names → name ≡ get_or names i name
    → repeated_after (take i names) (drop i names)
    ≡ (if list_any (λ other. bytes_eq other name) (take i names) then BadSchema 15 name ∷ [] else []) ++ repeated_after (take (i + 1) names) (drop (i + 1) names)
repeated_here names i name within is = rw (drop_here names i name within is, take_more names i name within, ← is)

-- names that are taken
pub ruleset named = (is_named-map)

-- names that repeat one before them
pub ruleset repeated = (repeated_here)
