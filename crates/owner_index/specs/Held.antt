-- The subjects that are held for each row.
use Rattle.std.specs.Prelude.{◌≡◌, List, [], Bool, Option, map, if◌then◌else◌}
use Rattle.std.specs.Option.{option_map_or}
use Rattle.std.specs.Ordering.{is_eq}
use Rattle.own_base.specs.declared.row_name.RowName.{RowName}
use Rattle.own_base.specs.declared.row_name.Subject.{Subject}
use Rattle.own_model.specs.declared.schema.Edge.{Edge}
use Rattle.own_model.specs.Db.{Db}
use Rattle.page_model.specs.Found.{found}
use Rattle.subject_model.specs.LocalEquation.{counts_for_owners, counts_for_reach}
use Rattle.subject_model.specs.NameOrder.{name_cmp}
use Rattle.subject_model.specs.Owners.{owners, reach}
use Rattle.link_model.specs.Whose.{as_subject, owners_at, reach_at}
use Rattle.owner_index.specs.Entry.{Entry}
use Rattle.owner_index.specs.declared.which.Which.{Which}
use Rattle.owner_index.specs.declared.which.Which.TheVariants.{Owners, Reach}

-- the entry of a row, where there is one
abbrev pub entry_of : List Entry → RowName → Option Entry
entry_of entries name = found (λ entry. entry.name) name_cmp name entries

-- the subjects that are held as those that own a row; a row without an entry has none
abbrev pub owners_of : List Entry → RowName → List Subject
owners_of entries name = option_map_or (λ entry. entry.owners) (entry_of entries name) []

-- and those that are held as those that reach it
abbrev pub reach_of : List Entry → RowName → List Subject
reach_of entries name = option_map_or (λ entry. entry.reach) (entry_of entries name) []

-- each of the two
abbrev pub held : Which → List Entry → RowName → List Subject
held Owners = owners_of
held Reach = reach_of

-- what they are to be
abbrev pub listed : Which → Db → RowName → List RowName
listed Owners = owners
listed Reach = reach

-- the edges that count for them
abbrev pub counts : Which → Edge → Bool
counts Owners = counts_for_owners
counts Reach = counts_for_reach

-- For each row they are the subjects that own it, and those that reach it.
pub record StandsFor (db : Db) (entries : List Entry) : Type 0 where
  pub owners : (name : RowName) → owners_of entries name ≡ owners_at db name
  pub reach : (name : RowName) → reach_of entries name ≡ reach_at db name

-- they are for one row
abbrev pub IsRight : Db → List Entry → RowName → Type 0
IsRight db entries name = (which : Which) → held which entries name ≡ map as_subject (listed which db name)

-- One row has these subjects, and each other row has those that it had.
pub record SetsAt (name : RowName) (owners reach : List Subject) (old new : List Entry) : Type 0 where
  pub owners_are : (other : RowName) → owners_of new other ≡ (if is_eq (name_cmp name other) then owners else owners_of old other)
  pub reach_is : (other : RowName) → reach_of new other ≡ (if is_eq (name_cmp name other) then reach else reach_of old other)
