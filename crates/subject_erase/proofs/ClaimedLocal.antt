-- Which rows another subject holds, by the rows that their own owner edges join them to.
use Rattle.std.proofs.Common.{[], ◌∷◌, inl, inr, refl, sym, ◌∙◌}
use Rattle.std.specs.Prelude.{◌≢◌, ◌⊎◌, IsFalse, IsTrue}
use Rattle.own_base.specs.declared.row_name.RowName.{RowName}
use Rattle.own_model.specs.declared.schema.Edge.{Edge}
use Rattle.own_model.specs.Db.{Db}
use Rattle.owner_model.specs.Joins.{Joins}
use Rattle.schema_model.specs.OwnerSchema.{IsOwnerSchema}
use Rattle.subject_model.specs.Owners.{IsOwnerPath}
use Rattle.subject_model.specs.Paths.{IsPath, Path, is_subject_row}
use Rattle.subject_model.specs.Staying.{Claimed, IsFree}
use Rattle.subject_model.specs.Stays.{struck}
use Rattle.subject_erase.proofs.SubjectRows.{owner_path-ends}

-- an owner edge joins the row to one that is claimed
pub record ClaimedAbove (db : Db) (subject name : RowName) : Type 0 where
  pub edge : Edge
  pub upper : RowName
  pub joined : Joins db name edge upper
  pub owner : IsTrue edge.owner
  pub claimed : Claimed db subject upper

-- A row is claimed where it isn't struck, and is another subject's own row or joined to a row that is claimed.
abbrev pub IsClaimedLocally : Db → RowName → RowName → Type 0
IsClaimedLocally db subject name = IsFalse (struck db subject name) × ((IsTrue (is_subject_row db name) × (name ≢ subject)) ⊎ ClaimedAbove db subject name)

module _ (db : Db) (subject name : RowName) where
  by_path : (other : RowName) (path : Path) → other ≢ subject → IsPath db name path other → IsOwnerPath path → IsFree db subject name path → IsClaimedLocally db subject name
  by_path other [] differs leads owner free = (free.0, inl (leads.0, λ same. differs (sym leads.1 ∙ same)))
  by_path other (step ∷ rest) differs leads owner free = (
    free.0,
    inr (record {
      edge = step.edge;
      upper = step.upper;
      joined = leads.0;
      owner = owner.0;
      claimed = record { other = other; differs = differs; path = rest; leads = leads.1.1; owner = owner.1; free = (free.1.0, free.1.1) };
    }),
  )

  -- a row that is claimed is claimed so
  pub locally_held : Claimed db subject name → IsClaimedLocally db subject name
  locally_held is = by_path is.other is.path is.differs is.leads is.owner is.free

  -- and one that is claimed so is claimed
  pub held_locally : IsOwnerSchema db.schema → IsClaimedLocally db subject name → Claimed db subject name
  held_locally schema (unstruck, inl own) =
      record { other = name; differs = own.1; path = []; leads = (own.0, refl); owner = tt; free = (unstruck, tt) }
  held_locally schema (unstruck, inr above) =
      let claimed = above.claimed in
      record {
        other = claimed.other;
        differs = claimed.differs;
        path = record { edge = above.edge; upper = above.upper } ∷ claimed.path;
        leads = (above.joined, ((λ is. owner_path-ends db schema above.upper claimed.path claimed.other is claimed.leads claimed.owner), claimed.leads));
        owner = (above.owner, claimed.owner);
        free = (unstruck, (claimed.free.0, claimed.free.1));
      }
