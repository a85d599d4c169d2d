-- Which changes may be put into the rows of tables.
use Rattle.std.specs.Prelude.{◌≡◌, ℕ, List, IfSome, IsSomeAnd, filter, map, slice_get}
use Rattle.std.specs.List.{AllByRecursion, IsDistinct}
use Rattle.std.specs.Ordering.{is_eq}
use Rattle.own_base.specs.Key.{key_cmp}
use Rattle.own_base.specs.declared.change.Change.{Change}
use Rattle.own_model.specs.declared.schema.TableDef.{TableDef}
use Rattle.own_model.specs.Db.{key_of}
use Rattle.state_model.specs.Put.{changed_key, is_of_table}

-- a change of a table that is there, which puts no row but one of its key
abbrev pub IsPutIn : List TableDef → Change → Type 0
IsPutIn tables change = IsSomeAnd (slice_get tables change.name.table.0) (λ table. IfSome change.after (λ row. key_of table row ≡ change.name.key))

-- no key has two changes
abbrev pub KeysDiffer : List Change → Type 0
KeysDiffer changes = IsDistinct (λ left right. is_eq (key_cmp left right)) (map changed_key changes)

-- Each is such a change, and in no table a key has two.
pub record MayBePut (tables : List TableDef) (changes : List Change) : Type 0 where
  pub theirs : AllByRecursion (IsPutIn tables) changes
  pub once : (number : ℕ) → KeysDiffer (filter (is_of_table number) changes)
