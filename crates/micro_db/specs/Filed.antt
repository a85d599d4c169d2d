-- What is filed under subjects for rows.
use Rattle.std.specs.Prelude.{◌≡◌, List, Option, Some, if◌then◌else◌}
use Rattle.std.specs.Option.{option_and_then}
use Rattle.std.specs.Ordering.{is_eq}
use Rattle.own_base.specs.declared.row_name.RowName.{RowName}
use Rattle.own_base.specs.declared.row_name.Subject.{Subject}
use Rattle.page_model.specs.Found.{found}
use Rattle.micro_db.specs.FiledOrder.{place_cmp}

-- where something is filed
abbrev pub place_of : {T : Type 0} → (T → RowName) → Subject × T → Subject × RowName
place_of name_of filed = (filed.0, name_of filed.1)

-- what is filed, of an item behind its subject
abbrev pub item_of : {T : Type 0} → Option (Subject × T) → Option T
item_of filed = option_and_then (λ it. Some it.1) filed

-- what is filed under a subject for a row, where something is
unfoldable pub filed_at : {T : Type 0} → (T → RowName) → List (Subject × T) → Subject → RowName → Option T
filed_at name_of files subject name = option_and_then (λ filed. Some filed.1) (found (place_of name_of) place_cmp (subject, name) files)

-- something is filed at one place, or nothing is any more, and at each other place stands what stood there
abbrev pub PutsAt : {T : Type 0} → (T → RowName) → Subject → RowName → Option T → List (Subject × T) → List (Subject × T) → Type 0
PutsAt name_of subject name item old new =
    (other : Subject) (own : RowName) → filed_at name_of new other own ≡ (if is_eq (place_cmp (subject, name) (other, own)) then item else filed_at name_of old other own)
