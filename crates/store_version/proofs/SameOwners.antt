-- Whose the rows are is told by the tables, the edges and the rows alone.
use Rattle.std.proofs.Common.{◌≡◌, ◌∙◌, ℕ, zero, suc, List, [], ◌∷◌, ◌++◌, length, map, refl, sym, ap}
use Rattle.std.specs.Prelude.{◌&&◌, filter, flat_map, if◌then◌else◌}
use Rattle.std.specs.List.{list_any}
use Rattle.own_base.specs.declared.row_name.RowName.{RowName}
use Rattle.own_model.specs.Db.{Db}
use Rattle.own_model.specs.Stored.{row_named}
use Rattle.link_model.specs.Whose.{as_subject}
use Rattle.subject_model.specs.Owners.{is_owner_path, leads_to, owners, owns, reach, reaches, subjects}
use Rattle.subject_model.specs.Paths.{climbs, is_subject_row, joins, paths, steps_of}
use Rattle.owner_index.specs.Entry.{Entry}
use Rattle.owner_index.specs.Held.{StandsFor}

-- a database without its views and its texts
abbrev bare : Db → Db
bare db = record {
  creates = [];
  schema = record { tables = db.schema.tables; views = []; edges = db.schema.edges };
  rows = db.rows;
}

module _ (db : Db) where
  -- the same paths lead up in it
  climbs-bare : (most : ℕ) (from : RowName) → climbs most (bare db) from ≡ climbs most db from
  unfolding climbs steps_of joins is_subject_row row_named
  climbs-bare zero from = refl
  climbs-bare (suc most) from =
      λ i. flat_map (λ step. map (λ rest. step ∷ rest) (if is_subject_row db step.upper then [] ∷ [] else climbs-bare most step.upper i)) (steps_of db from)

  -- so each row has the same owners
  owners-bare : (name : RowName) → owners (bare db) name ≡ owners db name
  unfolding owners owns paths is_subject_row row_named
  owners-bare name =
      λ i. filter
      (λ subject. list_any (λ path. leads_to subject name path && is_owner_path path) ((if is_subject_row db name then [] ∷ [] else []) ++ climbs-bare (length db.schema.tables) name i))
      (subjects db)

  -- and the same subjects reach it
  reach-bare : (name : RowName) → reach (bare db) name ≡ reach db name
  unfolding reach reaches paths is_subject_row row_named
  reach-bare name =
      λ i. filter
      (λ subject. list_any (leads_to subject name) ((if is_subject_row db name then [] ∷ [] else []) ++ climbs-bare (length db.schema.tables) name i))
      (subjects db)

-- what is held for one database is so for each with the same tables, edges and rows
pub stands-bare : (one other : Db) (entries : List Entry) → one.schema.tables ≡ other.schema.tables → one.schema.edges ≡ other.schema.edges → one.rows ≡ other.rows
    → StandsFor one entries → StandsFor other entries
stands-bare one other entries tables edges rows stands =
    let same : bare one ≡ bare other =
    λ i. record { creates = []; schema = record { tables = tables i; views = []; edges = edges i }; rows = rows i } in
    record {
      owners = λ name. stands.owners name
          ∙ ap (map as_subject) (sym (owners-bare one name) ∙ (ap (λ (db : Db). owners db name) same ∙ owners-bare other name));
      reach = λ name. stands.reach name
          ∙ ap (map as_subject) (sym (reach-bare one name) ∙ (ap (λ (db : Db). reach db name) same ∙ reach-bare other name));
    }
