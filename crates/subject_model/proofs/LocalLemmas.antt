-- Owners and reach meet their local equations, and nothing else does.
use Rattle.std.proofs.Common.{◌≡◌, ℕ, zero, suc, ◌≤◌, [], ◌∷◌, Bool, true, false, inl, inr, refl, sym, ◌∙◌, subst, arith}
use Rattle.std.specs.Prelude.{◌⊎◌, ◌↔◌, IsFalse, IsTrue}
use Rattle.std.specs.List.{AllByRecursion}
use Rattle.own_base.specs.declared.row_name.RowName.{RowName}
use Rattle.own_model.specs.declared.schema.Edge.{Edge}
use Rattle.own_model.specs.Db.{Db}
use Rattle.owner_model.specs.Joins.{Joins}
use Rattle.schema_model.specs.OwnerSchema.{IsOwnerSchema}
use Rattle.subject_model.specs.LocalEquation.{HasByEdge, IsSubject, MeetsLocalEquation, counts_for_owners, counts_for_reach}
use Rattle.subject_model.specs.Named.{is_there}
use Rattle.subject_model.specs.Owners.{Owns, Reaches}
use Rattle.subject_model.specs.Paths.{IsPath, Path, is_subject_row}
use Rattle.subject_model.proofs.TableRank.{rank, rank-joins}

-- a path to a subject whose edges all count
pub record Led (db : Db) (counts : Edge → Bool) (subject name : RowName) : Type 0 where
  pub path : Path
  pub leads : IsPath db name path subject
  pub counted : AllByRecursion (λ step. IsTrue (counts step.edge)) path

-- whose a row is
abbrev Whose : Db → (Edge → Bool) → (RowName → RowName → Type 0) → RowName → RowName → Type 0
Whose db counts Has subject name = IsSubject db subject name ⊎ HasByEdge db counts Has subject name

module _ (db : Db) (counts : Edge → Bool) (subject : RowName) where
  above_step : (upper : RowName) (rest : Path) → IsPath db upper rest subject → (IsTrue (is_subject_row db upper) → rest ≡ []) → AllByRecursion (λ step. IsTrue (counts step.edge)) rest
      → (b : Bool) → is_subject_row db upper ≡ b → IsSubject db subject upper ⊎ (IsFalse (is_subject_row db upper) × Led db counts subject upper)
  above_step upper rest leads ends counted true is = inl (subst (λ path. IsPath db upper path subject) (ends is) leads)
  above_step upper rest leads ends counted false is = inr (is, record { path = rest; leads = leads; counted = counted })

  led_by : (name : RowName) (path : Path) → IsPath db name path subject → AllByRecursion (λ step. IsTrue (counts step.edge)) path → Whose db counts (Led db counts) subject name
  led_by name [] leads counted = inl leads
  led_by name (step ∷ rest) leads counted =
      inr (record {
        edge = step.edge;
        upper = step.upper;
        counted = counted.0;
        joined = leads.0;
        has = above_step step.upper rest leads.1.1 leads.1.0 counted.1 (is_subject_row db step.upper) refl;
      })

  by_led : (name : RowName) → Whose db counts (Led db counts) subject name → Led db counts subject name
  by_led name (inl is) = record { path = []; leads = is; counted = tt }
  by_led name (inr by) =
      elim by.has [
        | inl is ↦ record { path = record { edge = by.edge; upper = by.upper } ∷ []; leads = (by.joined, ((λ yes. refl), is)); counted = (by.counted, tt) }
        | inr led ↦ record {
          path = record { edge = by.edge; upper = by.upper } ∷ led.1.path;
          leads = (by.joined, ((λ yes. let never : true ≡ false = sym yes ∙ led.0 in cc), led.1.leads));
          counted = (by.counted, led.1.counted);
        }
      ]

-- paths whose edges count meet the local equation
led_meets : (db : Db) (counts : Edge → Bool) → MeetsLocalEquation db counts (Led db counts)
led_meets db counts = record { local = λ subject name there. ((λ led. led_by db counts subject name led.path led.leads led.counted), by_led db counts subject name) }

module _ (db : Db) (counts : Edge → Bool) (Has Had : RowName → RowName → Type 0) (subject : RowName) where
  -- what two relations say of a row is the same where they agree above it
  by_edge_same : (name : RowName) → ((edge : Edge) (upper : RowName) → Joins db name edge upper → Has subject upper → Had subject upper)
      → Whose db counts Has subject name → Whose db counts Had subject name
  by_edge_same name higher (inl is) = inl is
  by_edge_same name higher (inr by) =
      inr (record { edge = by.edge; upper = by.upper; counted = by.counted; joined = by.joined; has = along by.has })
    where
      along : IsSubject db subject by.upper ⊎ (IsFalse (is_subject_row db by.upper) × Has subject by.upper) → IsSubject db subject by.upper ⊎ (IsFalse (is_subject_row db by.upper) × Had subject by.upper)
      along (inl is) = inl is
      along (inr has) = inr (has.0, higher by.edge by.upper by.joined has.1)

  -- one solution lies within another
  within : (most : ℕ) (name : RowName) → IsOwnerSchema db.schema → MeetsLocalEquation db counts Has → MeetsLocalEquation db counts Had → rank db.schema name.table.0 ≤ most
      → IsTrue (is_there db name) → Has subject name → Had subject name
  within zero name owner meets also low there has =
      (also.local subject name there).1
      (by_edge_same name (λ edge upper join more. absurd (omega (arith, rank-joins db name edge upper owner join))) ((meets.local subject name there).0 has))
  within (suc most) name owner meets also low there has =
      (also.local subject name there).1
      (by_edge_same name (λ edge upper join more. within most upper owner meets also (omega (arith, rank-joins db name edge upper owner join)) join.upper_there more)
      ((meets.local subject name there).0 has))

-- two relations that meet one local equation are the same at each row that is there
pub one_solution : (db : Db) (counts : Edge → Bool) (Has Had : RowName → RowName → Type 0) → IsOwnerSchema db.schema → MeetsLocalEquation db counts Has → MeetsLocalEquation db counts Had
    → (subject name : RowName) → IsTrue (is_there db name) → Has subject name ↔ Had subject name
one_solution db counts Has Had owner meets also subject name there =
    let most = rank db.schema name.table.0 in
    (within db counts Has Had subject most name owner meets also (omega arith) there, within db counts Had Has subject most name owner also meets (omega arith) there)

-- what is the same as a solution at each row is one
pub meets_same : (db : Db) (counts : Edge → Bool) (Has Had : RowName → RowName → Type 0) → ((subject name : RowName) → Has subject name ↔ Had subject name)
    → MeetsLocalEquation db counts Has → MeetsLocalEquation db counts Had
meets_same db counts Has Had same meets =
    record {
      local = λ subject name there. (
        (λ had. by_edge_same db counts Has Had subject name (λ edge upper join. (same subject upper).0) ((meets.local subject name there).0 ((same subject name).1 had))),
        (λ whose. (same subject name).0 ((meets.local subject name there).1 (by_edge_same db counts Had Has subject name (λ edge upper join. (same subject upper).1) whose))),
      );
    }

each_step : (path : Path) → AllByRecursion (λ step. true ≡ true) path
each_step [] = tt
each_step (step ∷ rest) = (refl, each_step rest)

-- owners meet the local equation
pub owns_meets : (db : Db) → MeetsLocalEquation db counts_for_owners (Owns db)
owns_meets db =
    meets_same db counts_for_owners (Led db counts_for_owners) (Owns db)
    (λ subject name. ((λ led. record { path = led.path; leads = led.leads; owner = led.counted }), (λ owns. record { path = owns.path; leads = owns.leads; counted = owns.owner })))
    (led_meets db counts_for_owners)

-- and so does reach
pub reaches_meets : (db : Db) → MeetsLocalEquation db counts_for_reach (Reaches db)
reaches_meets db =
    meets_same db counts_for_reach (Led db counts_for_reach) (Reaches db)
    (λ subject name. ((λ led. record { path = led.path; leads = led.leads }), (λ reaches. record { path = reaches.path; leads = reaches.leads; counted = each_step reaches.path })))
    (led_meets db counts_for_reach)

-- what meets the local equation of owners is owning
pub only_owns : (db : Db) (Has : RowName → RowName → Type 0) → IsOwnerSchema db.schema → MeetsLocalEquation db counts_for_owners Has
    → (subject name : RowName) → IsTrue (is_there db name) → Has subject name ↔ Owns db subject name
only_owns db Has owner meets = one_solution db counts_for_owners Has (Owns db) owner meets (owns_meets db)

-- and what meets that of reach is reaching
pub only_reaches : (db : Db) (Has : RowName → RowName → Type 0) → IsOwnerSchema db.schema → MeetsLocalEquation db counts_for_reach Has
    → (subject name : RowName) → IsTrue (is_there db name) → Has subject name ↔ Reaches db subject name
only_reaches db Has owner meets = one_solution db counts_for_reach Has (Reaches db) owner meets (reaches_meets db)
