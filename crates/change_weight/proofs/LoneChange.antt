-- What a database weighs after one change of a lone table.
use Rattle.std.proofs.Common.{◌≡◌, ℕ, [], ◌∷◌, true, inl, inr, refl, sym, ap, ◌∙◌, subst, arith}
use Rattle.std.specs.Prelude.{◌&&◌, Contains, Option, None, Some, is_some}
use Rattle.std.specs.Option.{option_map_or}
use Rattle.std.specs.List.Sorted.{IsStrictlySortedBy}
use Rattle.std.proofs.lemmas.List.Sums.{sum_by-cons}
use Rattle.own_base.specs.declared.change.Change.{Change}
use Rattle.own_base.specs.declared.row_name.RowName.{RowName}
use Rattle.own_model.specs.declared.schema.Edge.{Edge}
use Rattle.own_model.specs.declared.schema.Schema.{Schema}
use Rattle.own_model.specs.Db.{Db, IsOrdered, Row}
use Rattle.owner_model.specs.Joins.{Joins, row_of}
use Rattle.schema_model.specs.Lone.{is_lone}
use Rattle.schema_model.specs.OwnerSchema.{IsOwnerSchema}
use Rattle.schema_model.specs.Tables.{is_subject}
use Rattle.subject_model.specs.Named.{is_there}
use Rattle.subject_model.specs.NameOrder.{name_cmp}
use Rattle.subject_model.specs.Owners.{Owns, Reaches, owners, reach}
use Rattle.subject_model.specs.Paths.{IsPath, Path, is_subject_row}
use Rattle.subject_model.proofs.Members.{contains_cases, contains_here, contains_none}
use Rattle.subject_model.proofs.OwnerLists.{owners-iff_Owns, owners_rise, reach-iff_Reaches, reach_rise}
use Rattle.subject_model.proofs.RisingNames.{name_order, same_rising}
use Rattle.state_model.specs.ChangeOf.{TellsRows}
use Rattle.state_model.specs.LeadTo.{LeadTo}
use Rattle.state_model.specs.Net.{net}
use Rattle.state_model.specs.Weight.{weight}
use Rattle.state_model.proofs.NetLeads.{net_leads}
use Rattle.move_model.specs.KeepsEdges.{KeepsEdges}
use Rattle.move_model.specs.Touches.{Touches}
use Rattle.move_model.proofs.StandingLemmas.{not_listed}
use Rattle.move_model.proofs.Untouched.{IsUntouched, untouched_keeps}
use Rattle.commit_check.specs.Saturated.{saturated}
use Rattle.change_weight.specs.Shown.{lone_weight}
use Rattle.change_weight.specs.WeightAt.{names_weight, weight_at, whole_weight}
use Rattle.change_weight.proofs.Exchange.{Exchanged, IsKept, exchanged}
use Rattle.change_weight.proofs.LoneTables.{lone_weighs, not_lower, not_upper}

-- Rows of all names but that of a lone table's change keep their edges in two databases of one schema.
record AreBeside (before after : Db) (own : RowName) : Type 0 where
  pub schema : after.schema ≡ before.schema
  pub lone : is_lone before.schema own.table.0 ≡ true
  pub keep : (name : RowName) → (own ≡ name → ⊥) → KeepsEdges before after name

module _ (before after : Db) (own : RowName) (beside : AreBeside before after own) where
  -- an edge leads to another row
  upper_other : (lower : RowName) (edge : Edge) (upper : RowName) → Joins before lower edge upper → own ≡ upper → ⊥
  upper_other lower edge upper joins is = not_upper before own beside.lone edge joins.among (ap (λ (n : RowName). n.table) is ∙ joins.of_upper)

  lower_other : (lower : RowName) (edge : Edge) (upper : RowName) → Joins before lower edge upper → own ≡ lower → ⊥
  lower_other lower edge upper joins is = not_lower before own beside.lone edge joins.among (ap (λ (n : RowName). n.table) is ∙ joins.of_lower)

  -- another row is as much a subject row
  same_subject : (name : RowName) → (own ≡ name → ⊥) → is_subject_row before name ≡ is_subject_row after name
  unfolding is_subject_row
  same_subject name other =
      let there : is_there before name ≡ is_there after name = ap is_some (beside.keep name other).row in
      λ i. is_subject (sym beside.schema i) name.table.0 && there i

  -- a path from it is one after too
  path_kept : (from : RowName) (path : Path) (subject : RowName) → (own ≡ from → ⊥) → IsPath before from path subject → IsPath after from path subject
  path_kept from [] subject other leads = (sym (same_subject from other) ∙ leads.0, leads.1)
  path_kept from (step ∷ rest) subject other leads =
      let above = upper_other from step.edge step.upper leads.0 in (
        (beside.keep from other).still step.edge step.upper leads.0,
        ((λ first. leads.1.0 (same_subject step.upper above ∙ first)), path_kept step.upper rest subject above leads.1.1),
      )

  owns_kept : (subject name : RowName) → (own ≡ name → ⊥) → Owns before subject name → Owns after subject name
  owns_kept subject name other owns = record { path = owns.path; leads = path_kept name owns.path subject other owns.leads; owner = owns.owner }

  reaches_kept : (subject name : RowName) → (own ≡ name → ⊥) → Reaches before subject name → Reaches after subject name
  reaches_kept subject name other reaches = record { path = reaches.path; leads = path_kept name reaches.path subject other reaches.leads }

-- the same seen from the state after
back_keeps : (before after : Db) (name : RowName) → KeepsEdges before after name → KeepsEdges after before name
back_keeps before after name keeps = record { row = sym keeps.row; still = keeps.already; already = keeps.still }

back : (before after : Db) (own : RowName) → AreBeside before after own → AreBeside after before own
back before after own beside =
    record {
      schema = sym beside.schema;
      lone = ap (λ s. is_lone s own.table.0) beside.schema ∙ beside.lone;
      keep = λ name other. back_keeps before after name (beside.keep name other);
    }

module _ (before after : Db) (own : RowName) (beside : AreBeside before after own) (owner : IsOwnerSchema before.schema) (ordered : IsOrdered before) (orders : IsOrdered after) where
  owner_after : IsOwnerSchema after.schema
  owner_after = subst IsOwnerSchema (sym beside.schema) owner

  behind : AreBeside after before own
  behind = back before after own beside

  beside_kept : (name : RowName) → (own ≡ name → ⊥) → IsKept before after name
  beside_kept name other =
      record {
        row = (beside.keep name other).row;
        owned = same_rising name_order (owners before name) (owners after name) (owners_rise before name ordered) (owners_rise after name orders)
            (λ subject.
            let here = owners-iff_Owns before name subject ordered owner in
            let there = owners-iff_Owns after name subject orders owner_after in
            ((λ among. there.1 (owns_kept before after own beside subject name other (here.0 among))), (λ among. here.1 (owns_kept after before own behind subject name other (there.0 among)))));
        reached = same_rising name_order (reach before name) (reach after name) (reach_rise before name ordered) (reach_rise after name orders)
            (λ subject.
            let here = reach-iff_Reaches before name subject ordered owner in
            let there = reach-iff_Reaches after name subject orders owner_after in
            ((λ among. there.1 (reaches_kept before after own beside subject name other (here.0 among))), (λ among. here.1 (reaches_kept after before own behind subject name other (there.0 among)))));
      }

-- what the row of a name of a lone table weighs, where it is there
lone_found : (db : Db) (name : RowName) (found : Option Row) → is_lone db.schema name.table.0 ≡ true
    → option_map_or (λ row. whole_weight db (record { name = name; row = row })) found 0 ≡ option_map_or (lone_weight db.schema name.table.0) found 0
lone_found db name None lone = refl
lone_found db name (Some row) lone = lone_weighs db name lone row

lone_at : (db : Db) (name : RowName) (found : Option Row) → is_lone db.schema name.table.0 ≡ true → found ≡ row_of db name → weight_at db name ≡ option_map_or (lone_weight db.schema name.table.0) found 0
unfolding weight_at
lone_at db name found lone is = ap (λ (own : Option Row). option_map_or (λ row. whole_weight db (record { name = name; row = row })) own 0) (sym is) ∙ lone_found db name found lone

one_name : (db : Db) (name : RowName) → names_weight db (name ∷ []) ≡ weight_at db name
one_name db name = let one = sum_by-cons (weight_at db) name [] in omega arith

module _ (before after : Db) (change : Change) (schema : after.schema ≡ before.schema) (lone : is_lone before.schema change.name.table.0 ≡ true) (lead : LeadTo before after (change ∷ [])) where
  one_change : (other : Change) → Contains (change ∷ []) other → change ≡ other
  one_change other among = elim (contains_cases change [] other among) [ inl same ↦ same | inr later ↦ absurd (contains_none other later) ]

  lone_after : is_lone after.schema change.name.table.0 ≡ true
  lone_after = ap (λ s. is_lone s change.name.table.0) schema ∙ lone

  -- the change touches no other row
  beside_untouched : (name : RowName) → (change.name ≡ name → ⊥) → IsUntouched after (change ∷ []) name
  beside_untouched name other = record { none = λ one among touches. by (subst (λ (c : Change). Touches after c name) (sym (one_change one among)) touches) }
    where
      by : Touches after change name → ⊥
      by (inl same) = other same
      by (inr (edge, inl lower)) = not_upper after change.name lone_after edge lower.leads.among lower.leads.of_upper
      by (inr (edge, inr upper)) = not_upper after change.name lone_after edge upper.leads.among upper.leads.of_upper

  are_beside : AreBeside before after change.name
  are_beside =
      record { schema = schema; lone = lone; keep = λ name other. untouched_keeps before after (change ∷ []) schema lead name (beside_untouched name other) }

  one_rises : IsStrictlySortedBy name_cmp (change.name ∷ [])
  unfolding IsStrictlySortedBy
  one_rises = (tt, tt)

  -- Its own row makes the difference of what the two databases weigh.
  lone_weight_by : IsOwnerSchema before.schema → IsOrdered before → IsOrdered after
      → Exchanged (weight before) (weight after) (option_map_or (lone_weight before.schema change.name.table.0) change.before 0) (option_map_or (lone_weight before.schema change.name.table.0) change.after 0)
  lone_weight_by owner ordered orders =
      let tells : TellsRows before after change = lead.each.0 in
      let sums = exchanged before after schema ordered orders (change.name ∷ []) one_rises
      (λ name other. beside_kept before after change.name are_beside owner ordered orders name
      (λ same. not_listed name (change.name ∷ []) other (subst (Contains (change.name ∷ [])) same (contains_here change.name [])))) in
      let gone = lone_at before change.name change.before lone tells.was in
      let come = lone_at after change.name change.after lone_after tells.is ∙ ap (λ s. option_map_or (lone_weight s change.name.table.0) change.after 0) schema in
      let one = one_name before change.name in
      let other = one_name after change.name in
      let was = sums.was in
      let is = sums.is in
      record { kept = sums.kept; was = omega arith; is = omega arith }

pub lone_change_weight : (before after : Db) (change : Change) → after.schema ≡ before.schema → is_lone before.schema change.name.table.0 ≡ true → change ∷ [] ≡ net before after
    → IsOwnerSchema before.schema → IsOrdered before → IsOrdered after
    → Exchanged (weight before) (weight after) (option_map_or (lone_weight before.schema change.name.table.0) change.before 0) (option_map_or (lone_weight before.schema change.name.table.0) change.after 0)
lone_change_weight before after change schema lone is owner ordered orders =
    lone_weight_by before after change schema lone (subst (LeadTo before after) (sym is) (net_leads before after ordered orders schema)) owner ordered orders

-- what the code finds that a row weighs is what the row of the change does
pub told_row : (own schema : Schema) (number : ℕ) (found row : Option Row) (told : ℕ) → own ≡ schema → found ≡ row → told ≡ saturated (option_map_or (lone_weight own number) found 0)
    → told ≡ saturated (option_map_or (lone_weight schema number) row 0)
told_row own schema number found row told alike same is =
    let by_schema : option_map_or (lone_weight own number) found 0 ≡ option_map_or (lone_weight schema number) found 0 = ap (λ (s : Schema). option_map_or (lone_weight s number) found 0) alike in
    let by_row : option_map_or (lone_weight schema number) found 0 ≡ option_map_or (lone_weight schema number) row 0 = ap (λ (o : Option Row). option_map_or (lone_weight schema number) o 0) same in
    is ∙ ap saturated (by_schema ∙ by_row)
