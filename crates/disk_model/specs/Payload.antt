-- The payload of a commit: its bytes in a record of the journal.
use Rattle.std.specs.Prelude.{◌≡◌, ℕ, ◌≤◌, List, [], ◌∷◌, length, map, Option, None, Some}
use Rattle.std.specs.List.Sorted.{IsStrictlySortedBy}
use Rattle.own_base.specs.declared.row_name.RowName.{RowName}
use Rattle.own_model.specs.Db.{Row}
use Rattle.disk_model.specs.declared.commit.Commit.{Commit}
use Rattle.disk_model.specs.declared.commit.Commit.TheVariants.{CreateTable, CreateView, Changes, Forget}
use Rattle.disk_model.specs.declared.commit.Put.{Put}
use Rattle.subject_model.specs.NameOrder.{name_cmp}
use Rattle.disk_model.specs.Number.{Format, IsNumber}
use Rattle.disk_model.specs.Row.{IsList, IsRow}
use Rattle.disk_model.specs.Text.{IsText}
use Rattle.disk_model.specs.Value.{IsKey}

-- four bytes for the table, and the key
abbrev pub IsName : Format RowName
IsName name bytes rest = (middle : List ℕ) × IsNumber 4 name.table.0 bytes middle × IsKey name.key middle rest

-- a byte 1 and the row, or a byte 0 where there is none
abbrev pub IsState : Format (Option Row)
IsState state [] rest = ⊥
IsState None (kind ∷ bytes) rest = (kind ≡ 0) × (bytes ≡ rest)
IsState (Some row) (kind ∷ bytes) rest = (kind ≡ 1) × IsRow row bytes rest

-- which row, and what it is after the commit
abbrev pub IsPut : Format Put
IsPut put bytes rest = (middle : List ℕ) × IsName put.name bytes middle × IsState put.after middle rest

-- at least one, strictly rising by table and then by key
pub record AreChanges (puts : List Put) : Type 0 where
  pub some : 1 ≤ length puts
  pub rising : IsStrictlySortedBy name_cmp (map (λ put. put.name) puts)

-- a byte for the kind of the commit, and behind it all of the payload
abbrev pub IsPayload : Commit → List ℕ → Type 0
IsPayload commit [] = ⊥
IsPayload (CreateTable text) (kind ∷ bytes) = (kind ≡ 1) × IsText text bytes []
IsPayload (CreateView text) (kind ∷ bytes) = (kind ≡ 2) × IsText text bytes []
IsPayload (Changes puts) (kind ∷ bytes) = (kind ≡ 3) × AreChanges puts × IsList IsPut puts bytes []
IsPayload (Forget name) (kind ∷ bytes) = (kind ≡ 4) × IsName name bytes []
