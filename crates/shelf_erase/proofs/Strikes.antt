-- DELETE_ROW stands on edges that give ownership alone.
use Rattle.std.proofs.Common.{◌≡◌, [], true, false, not, refl, ap, sym, ◌∙◌}
use Rattle.std.specs.Prelude.{◌&&◌, Option, Some, None, bytes_eq}
use Rattle.std.specs.List.{AllByRecursion}
use Rattle.std.specs.Option.{option_or}
use Rattle.std.proofs.lemmas.Bool.{and_parts, not-false}
use Rattle.own_model.specs.declared.create.CreateTable.{CreateTable}
use Rattle.own_model.specs.declared.schema.Edge.{Edge}
use Rattle.own_model.specs.declared.schema.Schema.{Schema}
use Rattle.own_model.specs.Db.{Db}
use Rattle.schema_model.specs.Kinds.{gives_edge, gives_ownership}
use Rattle.schema_model.specs.NewEdges.{new_edge, new_edges}
use Rattle.schema_model.specs.OnRules.{OnRule, edge_on, is_strike, rules_of}
use Rattle.schema_model.specs.References.{Reference, references_of}
use Rattle.schema_model.specs.Refusal.{broken, first_broken, refusal_of, taken}
use Rattle.schema_model.specs.WithTable.{with_table}
use Rattle.schema_model.specs.rules.RowsStruckByAccess.{rows_struck_by_access, strikes_by_access}
use Rattle.schema_model.proofs.Admitted.{unbroken}
use Rattle.schema_model.proofs.Found.{find-narrower}
use Rattle.schema_model.proofs.Names.{same_name}
use Rattle.schema_model.proofs.NewColumns.{IsReferring, referring}
use Rattle.schema_model.proofs.NewEdgeLemmas.{IsNewEdge, new_edge-made, new_owner}
use Rattle.schema_model.proofs.Places.{IsIn, all-append, all-at, all-from_places, any-place, filter-none, map-none}
use Rattle.state_model.specs.Create.{with_view}
use Rattle.state_model.specs.Created.{Create, IsAdmitted, IsCreated, IsReadableCreate, OfTable, OfView, with_create, without_rows}
use Rattle.state_model.proofs.CreatedLemmas.{kept-created}

-- an edge that strikes the row gives ownership
abbrev pub StrikesAsOwner : Edge → Type 0
StrikesAsOwner edge = edge.strike ≡ true → edge.owner ≡ true

abbrev pub StrikeAsOwners : Schema → Type 0
StrikeAsOwners schema = AllByRecursion StrikesAsOwner schema.edges

either_none : {T : Type 0} (one other : Option T) → option_or one other ≡ None → (one ≡ None) × (other ≡ None)
either_none None other none = (refl, none)
either_none (Some why) other none = let never : ⊥ = cc in absurd never

-- in a CREATE that is admitted no rule is DELETE_ROW on a column that gives access alone
none_struck : (schema : Schema) (create : CreateTable) → refusal_of schema without_rows create ≡ None → rows_struck_by_access create ≡ []
unfolding refusal_of broken
none_struck schema create none =
    let untaken = either_none (taken schema create) _ none in
    let rules = either_none (first_broken 1 (broken schema create)) _ untaken.1 in
    let each = unbroken 1 (broken schema create) rules.0 in
    each.1.1.1.1.1.1.1.1.1.1.1.1.1.0

strikes_none : (create : CreateTable) → rows_struck_by_access create ≡ [] → (rule : OnRule) → IsIn (rules_of create) rule → strikes_by_access create rule ≡ false
unfolding rows_struck_by_access
strikes_none create none rule among =
    all-at (λ rule. strikes_by_access create rule ≡ false) (rules_of create)
    (filter-none (strikes_by_access create) (rules_of create) (map-none (λ (rule : OnRule). rule.column) _ none)) among.0 rule among.1

-- a rule on a column of an edge that strikes gives ownership
by_owner : (create : CreateTable) (rule : OnRule) (reference : Reference) → is_strike rule.effect ≡ true → edge_on create rule.column ≡ Some reference → strikes_by_access create rule ≡ false
    → gives_ownership reference.refers.kind ≡ true
by_owner create rule reference strikes on none =
    let left : not (gives_ownership reference.refers.kind) ≡ false = rw (strikes, on) at none in
    not-false (gives_ownership reference.refers.kind) left

module _ (schema : Schema) (create : CreateTable) (admitted : refusal_of schema without_rows create ≡ None) (edge : Edge) (by : IsNewEdge schema create edge) where
  reference_is : IsReferring schema create by.from.column by.column (by.from.kind, by.from.target)
  reference_is = referring schema create by.from.column by.column (by.from.kind, by.from.target) by.column_is by.gives.refers

  kind_is : by.from.kind ≡ reference_is.reference.refers.kind
  kind_is = ap (λ link. link.0) reference_is.link_is

  stands_on : (rule : OnRule) → rule.column ≡ by.from.name → edge_on create rule.column ≡ Some reference_is.reference
  stands_on rule is =
      let own : gives_edge reference_is.reference.refers.kind ≡ true = rw (← kind_is) by.gives.gives in
      ap (edge_on create) (is ∙ by.gives.name)
      ∙ find-narrower (λ reference. bytes_eq reference.column by.column.name) (λ reference. gives_edge reference.refers.kind) (references_of create) reference_is.reference reference_is.found own

  -- a new edge that strikes gives ownership
  new_strikes : StrikesAsOwner edge
  unfolding new_edge
  new_strikes strike =
      let ruled = any-place (λ rule. is_strike rule.effect && bytes_eq rule.column by.from.name) (rules_of create) (sym (ap (λ e. e.strike) by.edge_is) ∙ strike) in
      let both = and_parts (is_strike ruled.0.effect) (bytes_eq ruled.0.column by.from.name) ruled.2 in
      let on = stands_on ruled.0 (same_name ruled.0.column by.from.name both.1) in
      new_owner schema create edge by
      ∙ (ap gives_ownership kind_is ∙ by_owner create ruled.0 reference_is.reference both.0 on (strikes_none create (none_struck schema create admitted) ruled.0 ruled.1))

strikes-kept : (schema : Schema) (create : Create) → StrikeAsOwners schema → IsReadableCreate create → IsAdmitted schema create → StrikeAsOwners (with_create schema create)
unfolding with_table with_view
strikes-kept schema (OfTable table) strikes readable admitted =
    all-append StrikesAsOwner schema.edges (new_edges schema table) strikes
    (all-from_places StrikesAsOwner (new_edges schema table) (λ place edge is. new_strikes schema table admitted edge (new_edge-made schema table edge (place, is))))
strikes-kept schema (OfView view) strikes readable admitted = strikes

-- so it is in the schema that creates give
pub strikes-created : (db : Db) → IsCreated db → StrikeAsOwners db.schema
strikes-created = kept-created StrikeAsOwners strikes-kept tt
