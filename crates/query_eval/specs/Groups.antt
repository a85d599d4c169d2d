-- The groups of a grouped select, by the rows that they show.
use Rattle.std.specs.Prelude.{List, [], ◌∷◌, map}
use Rattle.std.specs.List.{All}
use Rattle.own_base.specs.declared.value.Value.TheVariants.{Null}
use Rattle.own_model.specs.Db.{Row}
use Rattle.query_eval.specs.declared.groups.Counted.{Counted}
use Rattle.query_eval.specs.declared.groups.Counted.TheVariants.{Whole, ByValue}
use Rattle.query_eval.specs.ShownEntry.{shown_entry}
use Rattle.query_eval.specs.Tally.{HasRoom}

-- one row for all rows, or one for each value
abbrev pub shown_groups : Counted → List Row
shown_groups (Whole group) = shown_entry (Null, group) ∷ []
shown_groups (ByValue groups) = map shown_entry groups.groups.entries

-- what is counted is less than 2 ^ 63
abbrev pub AreCounted : Counted → Type 0
AreCounted (Whole group) = All (HasRoom 0) group
AreCounted (ByValue groups) = All (λ entry. All (HasRoom 0) entry.1) groups.groups.entries
