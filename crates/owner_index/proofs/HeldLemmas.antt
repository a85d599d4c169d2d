-- What is held for each row after a change.
use Rattle.std.proofs.Common.{◌≡◌, List, [], Bool, true, false, cond, refl, ap, ◌∙◌}
use Rattle.std.specs.Prelude.{Option, IfSome, if◌then◌else◌}
use Rattle.std.specs.Option.{option_map_or}
use Rattle.std.specs.Ordering.{is_eq}
use Rattle.own_base.specs.declared.row_name.RowName.{RowName}
use Rattle.own_base.specs.declared.row_name.Subject.{Subject}
use Rattle.page_model.specs.Changed.{with_change}
use Rattle.page_model.proofs.FoundChanged.{found_changed}
use Rattle.subject_model.specs.NameOrder.{name_cmp}
use Rattle.subject_model.proofs.RisingNames.{name_order}
use Rattle.owner_index.specs.Entry.{Entry}
use Rattle.owner_index.specs.Held.{SetsAt, entry_of}

either : (f : Entry → List Subject) (b : Bool) (item other : Option Entry) → option_map_or f (cond b item other) [] ≡ cond b (option_map_or f item []) (option_map_or f other [])
either f true item other = refl
either f false item other = refl

module _ (name : RowName) (item : Option Entry) (old new : List Entry) (named : IfSome item (λ entry. entry.name ≡ name)) (is : new ≡ with_change (λ (entry : Entry). entry.name) name_cmp name item old) where
  held_at : (f : Entry → List Subject) (set : List Subject) → option_map_or f item [] ≡ set → (other : RowName)
      → option_map_or f (entry_of new other) [] ≡ (if is_eq (name_cmp name other) then set else option_map_or f (entry_of old other) [])
  held_at f set has other =
      ap (λ o. option_map_or f o []) (ap (λ entries. entry_of entries other) is ∙ found_changed (λ (entry : Entry). entry.name) name_order (λ (n : RowName). n) (λ n. item) other name item old named)
      ∙ (either f (is_eq (name_cmp name other)) item (entry_of old other)
      ∙ ap (λ s. cond (is_eq (name_cmp name other)) s (option_map_or f (entry_of old other) [])) has)

  -- a change of an entry sets the row's subjects
  pub sets_at : (owners reach : List Subject) → option_map_or (λ entry. entry.owners) item [] ≡ owners → option_map_or (λ entry. entry.reach) item [] ≡ reach → SetsAt name owners reach old new
  sets_at owners reach has_owners has_reach =
      record { owners_are = held_at (λ entry. entry.owners) owners has_owners; reach_is = held_at (λ entry. entry.reach) reach has_reach }
