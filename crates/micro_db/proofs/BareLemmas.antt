-- What is to be kept is told by the tables, the edges and the rows alone.
use Rattle.std.proofs.Common.{◌≡◌, ℕ, zero, suc, [], ◌∷◌, ◌++◌, length, map, refl, sym, ap, ◌∙◌}
use Rattle.std.specs.Prelude.{◌&&◌, None, Some, filter, flat_map, not, if◌then◌else◌}
use Rattle.std.specs.List.{list_any}
use Rattle.std.specs.Option.{option_and_then}
use Rattle.own_base.specs.declared.row_name.RowName.{RowName}
use Rattle.own_model.specs.Db.{Db}
use Rattle.own_model.specs.Stored.{row_named}
use Rattle.owner_model.specs.Joins.{row_of}
use Rattle.shelf_model.specs.At.{copy_at, seen_at}
use Rattle.subject_model.specs.Owners.{begins_with, by, is_owner_path, leads_to, owns, reaches}
use Rattle.subject_model.specs.Paths.{climbs, is_subject_row, joins, paths, steps_of}
use Rattle.micro_db.specs.declared.micro.MicroDb.{MicroDb}
use Rattle.micro_db.specs.Kept.{StandsFor}

-- a database without its views and its texts
abbrev bare : Db → Db
bare db = record {
  creates = [];
  schema = record { tables = db.schema.tables; views = []; edges = db.schema.edges };
  rows = db.rows;
}

module _ (db : Db) where
  -- the same paths lead up in it
  climbs-bare : (most : ℕ) (from : RowName) → climbs most (bare db) from ≡ climbs most db from
  unfolding climbs steps_of joins is_subject_row row_named
  climbs-bare zero from = refl
  climbs-bare (suc most) from =
      λ i. flat_map (λ step. map (λ rest. step ∷ rest) (if is_subject_row db step.upper then [] ∷ [] else climbs-bare most step.upper i)) (steps_of db from)

  paths-bare : (name : RowName) → paths (bare db) name ≡ paths db name
  unfolding paths is_subject_row row_named
  paths-bare name = λ i. (if is_subject_row db name then [] ∷ [] else []) ++ climbs-bare (length db.schema.tables) name i

  module _ (subject name : RowName) where
    -- so a subject owns the same rows, reaches the same, and does so by the same edges
    owns-bare : owns (bare db) subject name ≡ owns db subject name
    unfolding owns
    owns-bare = λ i. list_any (λ path. leads_to subject name path && is_owner_path path) (paths-bare name i)

    reaches-bare : reaches (bare db) subject name ≡ reaches db subject name
    unfolding reaches
    reaches-bare = λ i. list_any (leads_to subject name) (paths-bare name i)

    by-bare : by (bare db) subject name ≡ by db subject name
    unfolding by
    by-bare = λ i. map (λ edge. edge.number) (filter (λ edge. list_any (λ path. leads_to subject name path && begins_with edge path) (paths-bare name i)) db.schema.edges)

    copy-bare : copy_at (bare db) subject name ≡ copy_at db subject name
    unfolding row_named
    copy-bare = λ i. option_and_then (λ row. if owns-bare i then Some (record { name = name; row = row; by = by-bare i }) else None) (row_of db name)

    sight-bare : seen_at (bare db) subject name ≡ seen_at db subject name
    unfolding row_named
    sight-bare = λ i. option_and_then (λ row. if reaches-bare i && not (owns-bare i) then Some name else None) (row_of db name)

-- what is kept for one database is so for each with the same tables, edges and rows
pub stands-bare : (one other : Db) (micro : MicroDb) → one.schema.tables ≡ other.schema.tables → one.schema.edges ≡ other.schema.edges → one.rows ≡ other.rows
    → StandsFor one micro → StandsFor other micro
stands-bare one other micro tables edges rows stands =
    let same : bare one ≡ bare other =
    λ i. record { creates = []; schema = record { tables = tables i; views = []; edges = edges i }; rows = rows i } in
    record {
      copies = λ subject name. stands.copies subject name
          ∙ (sym (copy-bare one subject.0 name) ∙ (ap (λ (db : Db). copy_at db subject.0 name) same ∙ copy-bare other subject.0 name));
      sights = λ subject name. stands.sights subject name
          ∙ (sym (sight-bare one subject.0 name) ∙ (ap (λ (db : Db). seen_at db subject.0 name) same ∙ sight-bare other subject.0 name));
    }
