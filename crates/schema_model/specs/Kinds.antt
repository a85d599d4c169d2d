-- What the kinds of columns and of references say.
use Rattle.std.specs.Prelude.{Bool, true, false}
use Rattle.own_model.specs.declared.schema.Kind.{Kind}
use Rattle.own_model.specs.declared.schema.Kind.TheVariants.{Int, Text, Sum}
use Rattle.own_model.specs.declared.schema.RefKind.{RefKind}
use Rattle.own_model.specs.declared.schema.RefKind.TheVariants.{Plain, OwnedBy, Owns, AccessedBy, Accesses}

-- whether two kinds are one
abbrev pub is_same_kind : Kind → Kind → Bool
is_same_kind Int Int = true
is_same_kind Text Text = true
is_same_kind Sum Sum = true
is_same_kind _ _ = false

-- all but REFERENCES give an edge
abbrev pub gives_edge : RefKind → Bool
gives_edge Plain = false
gives_edge OwnedBy = true
gives_edge Owns = true
gives_edge AccessedBy = true
gives_edge Accesses = true

-- OWNED_BY and OWNS give ownership
abbrev pub gives_ownership : RefKind → Bool
gives_ownership Plain = false
gives_ownership OwnedBy = true
gives_ownership Owns = true
gives_ownership AccessedBy = false
gives_ownership Accesses = false

-- OWNED_BY and ACCESSED_BY: the table that has the column is the lower one
abbrev pub is_upward : RefKind → Bool
is_upward Plain = false
is_upward OwnedBy = true
is_upward Owns = false
is_upward AccessedBy = true
is_upward Accesses = false

-- OWNS and ACCESSES: the table that has the column is the upper one
abbrev pub is_downward : RefKind → Bool
is_downward Plain = false
is_downward OwnedBy = false
is_downward Owns = true
is_downward AccessedBy = false
is_downward Accesses = true

abbrev pub is_owned_by : RefKind → Bool
is_owned_by OwnedBy = true
is_owned_by _ = false

abbrev pub is_owns : RefKind → Bool
is_owns Owns = true
is_owns _ = false
