-- What is read from all of a payload's bytes: a commit, or nothing.
use Rattle.std.specs.Prelude.{ℕ, zero, suc, List, [], ◌∷◌, Option, Some, None, Bool, true, false, ◌&&◌, if◌then◌else◌}
use Rattle.std.specs.Ordering.{is_lt}
use Rattle.own_base.specs.declared.row_name.RowName.{RowName}
use Rattle.disk_model.specs.declared.commit.Commit.{Commit}
use Rattle.disk_model.specs.declared.commit.Commit.TheVariants.{CreateTable, CreateView, Changes, Forget}
use Rattle.disk_model.specs.declared.commit.Put.{Put}
use Rattle.subject_model.specs.NameOrder.{name_cmp}
use Rattle.disk_fields.specs.Reading.{◌>>=◌, all_of, list_at, most_bytes, name_at, put_at, text_at}

-- each name is below the next
unfoldable pub rises_from : RowName → List Put → Bool
rises_from last [] = true
rises_from last (put ∷ puts) = is_lt (name_cmp last put.name) && rises_from put.name puts

unfoldable pub are_changes : List Put → Bool
are_changes [] = false
are_changes (put ∷ puts) = rises_from put.name puts

unfoldable pub changes_of : List ℕ → Option Commit
changes_of bytes = do
  puts ← all_of (list_at put_at bytes)
  if are_changes puts then Some (Changes puts) else None

unfoldable pub payload_of : List ℕ → Option Commit
payload_of [] = None
payload_of (zero ∷ bytes) = None
payload_of (suc zero ∷ bytes) = all_of (text_at most_bytes bytes) >>= λ text. Some (CreateTable text)
payload_of (suc (suc zero) ∷ bytes) = all_of (text_at most_bytes bytes) >>= λ text. Some (CreateView text)
payload_of (suc (suc (suc zero)) ∷ bytes) = changes_of bytes
payload_of (suc (suc (suc (suc zero))) ∷ bytes) = all_of (name_at bytes) >>= λ name. Some (Forget name)
payload_of (suc (suc (suc (suc (suc kind)))) ∷ bytes) = None
