-- A row that no change touches keeps its edges.
use Rattle.std.proofs.Common.{◌≡◌, List, Bool, true, false, inl, inr, refl, ap, sym, ◌∙◌, subst}
use Rattle.std.specs.Prelude.{◌≢◌, ◌⊎◌, ◌==◌, Contains, Some, is_some}
use Rattle.std.specs.List.{list_any}
use Rattle.own_base.specs.declared.change.Change.{Change}
use Rattle.own_base.specs.declared.row_name.RowName.{RowName}
use Rattle.own_model.specs.declared.schema.Edge.{Edge}
use Rattle.own_model.specs.Db.{Db}
use Rattle.owner_model.specs.Joins.{Joins, holder_of, other_of, row_of, value_at, value_of}
use Rattle.subject_model.specs.Named.{is_name}
use Rattle.subject_model.proofs.Members.{all_contained, contains_any}
use Rattle.subject_model.proofs.NamedLemmas.{one_name}
use Rattle.state_model.specs.ChangeOf.{TellsRows}
use Rattle.state_model.specs.LeadTo.{LeadTo}
use Rattle.move_model.specs.KeepsEdges.{KeepsEdges}
use Rattle.move_model.specs.Touches.{LeadsUp, Touches, TouchesBy, cell_at}

-- no change touches a row
pub record IsUntouched (after : Db) (changes : List Change) (name : RowName) : Type 0 where
  pub none : (change : Change) → Contains changes change → Touches after change name → ⊥

-- the change of a row, where there is one
pub record HasChange (before after : Db) (changes : List Change) (name : RowName) : Type 0 where
  pub change : Change
  pub among : Contains changes change
  pub its : change.name ≡ name
  pub was : change.before ≡ row_of before name
  pub is : change.after ≡ row_of after name

module _ (before after : Db) (changes : List Change) (lead : LeadTo before after changes) where
  change_of : (name : RowName) → list_any (λ change. is_name change.name name) changes ≡ true → HasChange before after changes name
  change_of name some =
      let (change, among, passes) = contains_any (λ change. is_name change.name name) changes some in
      let its = one_name change.name name passes in
      let tells : TellsRows before after change = all_contained (TellsRows before after) changes change lead.each among in
      record {
        change = change;
        among = among;
        its = its;
        was = tells.was ∙ ap (row_of before) its;
        is = tells.is ∙ ap (row_of after) its;
      }

  -- a row has a change, or is the same in both
  pub changed_or_same : (name : RowName) → HasChange before after changes name ⊎ (row_of before name ≡ row_of after name)
  changed_or_same name = by (list_any (λ change. is_name change.name name) changes) refl
    where
      by : (b : Bool) → list_any (λ change. is_name change.name name) changes ≡ b → HasChange before after changes name ⊎ (row_of before name ≡ row_of after name)
      by true some = inl (change_of name some)
      by false none = inr (lead.others name none)

  -- an untouched row has no change of its own
  pub same_row : (name : RowName) → IsUntouched after changes name → row_of before name ≡ row_of after name
  same_row name untouched =
      elim (changed_or_same name) [
        | inl has ↦ absurd (untouched.none has.change has.among (inl has.its))
        | inr same ↦ same
      ]

-- an edge joins two rows in one database, and the lower one is the same in the other
record SameLower (one other : Db) (name : RowName) (edge : Edge) (upper : RowName) : Type 0 where
  pub schema : one.schema ≡ other.schema
  pub row : row_of one name ≡ row_of other name
  pub joined : Joins one name edge upper

-- where the upper one is too, it joins them there
same_upper : (one other : Db) (name : RowName) (edge : Edge) (upper : RowName) → SameLower one other name edge upper → row_of one upper ≡ row_of other upper → Joins other name edge upper
same_upper one other name edge upper lower same =
    let is = lower.joined in
    record {
      among = subst (λ schema. Contains schema.edges edge) lower.schema is.among;
      of_lower = is.of_lower;
      of_upper = is.of_upper;
      lower_there = sym (ap is_some lower.row) ∙ is.lower_there;
      upper_there = sym (ap is_some same) ∙ is.upper_there;
      names = by (edge.holder.0 == edge.lower.0) refl;
    }
  where
    by : (b : Bool) → (edge.holder.0 == edge.lower.0) ≡ b → value_at other (holder_of edge name upper) edge.column.0 ≡ Some (value_of (other_of edge name upper).key)
    by true held =
        let there : value_at one name edge.column.0 ≡ Some (value_of upper.key) = rw held at lower.joined.names in
        rw held (ap (λ row. cell_at row edge.column.0) (sym lower.row) ∙ there)
    by false held =
        let there : value_at one upper edge.column.0 ≡ Some (value_of name.key) = rw held at lower.joined.names in
        rw held (ap (λ row. cell_at row edge.column.0) (sym same) ∙ there)

differ_somes : (b c : Bool) → b ≡ true → c ≡ false → b ≢ c
differ_somes b c is not same = let never : true ≡ false = sym is ∙ (same ∙ not) in cc

differ_nones : (b c : Bool) → b ≡ false → c ≡ true → b ≢ c
differ_nones b c not is same = let never : true ≡ false = sym is ∙ (sym same ∙ not) in cc

-- An untouched row, an edge out of it, and the change of an upper row.
pub record Beside (before after : Db) (changes : List Change) (name : RowName) (edge : Edge) (upper : RowName) : Type 0 where
  pub untouched : IsUntouched after changes name
  pub row : row_of before name ≡ row_of after name
  pub among : Contains after.schema.edges edge
  pub of_lower : name.table ≡ edge.lower
  pub of_upper : upper.table ≡ edge.upper
  pub has : HasChange before after changes upper

module _ (before after : Db) (changes : List Change) (name : RowName) (edge : Edge) (upper : RowName) (beside : Beside before after changes name edge upper) where
  leads : LeadsUp after beside.has.change edge name
  leads = record { among = beside.among; of_lower = beside.of_lower; of_upper = ap (λ (n : RowName). n.table) beside.has.its ∙ beside.of_upper }

  untouched_by : TouchesBy after beside.has.change name edge → ⊥
  untouched_by touches = beside.untouched.none beside.has.change beside.has.among (inr (edge, touches))

  -- where the lower rows hold the column the upper row neither comes nor goes
  not_moved : (edge.holder.0 == edge.lower.0) ≡ true → value_at after name edge.column.0 ≡ Some (value_of upper.key) → is_some (row_of before upper) ≢ is_some (row_of after upper) → ⊥
  not_moved held names moves =
      untouched_by (inl (record {
        leads = leads;
        held = held;
        moves = λ same. moves (sym (ap is_some beside.has.was) ∙ (same ∙ ap is_some beside.has.is));
        names = names ∙ ap (λ (n : RowName). Some (value_of n.key)) (sym beside.has.its);
      }))

  -- and where the upper ones do, it named the row neither before nor after
  not_named : (edge.holder.0 == edge.lower.0) ≡ false → (value_at before upper edge.column.0 ≡ Some (value_of name.key)) ⊎ (value_at after upper edge.column.0 ≡ Some (value_of name.key)) → ⊥
  not_named held (inl names) =
      untouched_by (inr (record { leads = leads; held = held; names = inl (ap (λ row. cell_at row edge.column.0) beside.has.was ∙ names) }))
  not_named held (inr names) =
      untouched_by (inr (record { leads = leads; held = held; names = inr (ap (λ row. cell_at row edge.column.0) beside.has.is ∙ names) }))

  -- so an edge that joins the two before joins them after
  still_joined : Joins before name edge upper → Joins after name edge upper
  still_joined is =
      record {
        among = beside.among;
        of_lower = is.of_lower;
        of_upper = is.of_upper;
        lower_there = sym (ap is_some beside.row) ∙ is.lower_there;
        upper_there = there (edge.holder.0 == edge.lower.0) refl (is_some (row_of after upper)) refl;
        names = named (edge.holder.0 == edge.lower.0) refl;
      }
    where
      held_lower : (edge.holder.0 == edge.lower.0) ≡ true → value_at after name edge.column.0 ≡ Some (value_of upper.key)
      held_lower held =
          let names : value_at before name edge.column.0 ≡ Some (value_of upper.key) = rw held at is.names in
          ap (λ row. cell_at row edge.column.0) (sym beside.row) ∙ names

      held_upper : (edge.holder.0 == edge.lower.0) ≡ false → ⊥
      held_upper held = let names : value_at before upper edge.column.0 ≡ Some (value_of name.key) = rw held at is.names in not_named held (inl names)

      there : (b : Bool) → (edge.holder.0 == edge.lower.0) ≡ b → (c : Bool) → is_some (row_of after upper) ≡ c → is_some (row_of after upper) ≡ true
      there b held true some = some
      there true held false none = absurd (not_moved held (held_lower held) (differ_somes _ _ is.upper_there none))
      there false held false none = absurd (held_upper held)

      named : (b : Bool) → (edge.holder.0 == edge.lower.0) ≡ b → value_at after (holder_of edge name upper) edge.column.0 ≡ Some (value_of (other_of edge name upper).key)
      named true held = rw held (held_lower held)
      named false held = absurd (held_upper held)

  -- and one that joins them after joined them before
  already_joined : after.schema ≡ before.schema → Joins after name edge upper → Joins before name edge upper
  already_joined schema is =
      record {
        among = subst (λ s. Contains s.edges edge) schema beside.among;
        of_lower = is.of_lower;
        of_upper = is.of_upper;
        lower_there = ap is_some beside.row ∙ is.lower_there;
        upper_there = there (edge.holder.0 == edge.lower.0) refl (is_some (row_of before upper)) refl;
        names = named (edge.holder.0 == edge.lower.0) refl;
      }
    where
      held_lower : (edge.holder.0 == edge.lower.0) ≡ true → value_at after name edge.column.0 ≡ Some (value_of upper.key)
      held_lower held = let names : value_at after name edge.column.0 ≡ Some (value_of upper.key) = rw held at is.names in names

      held_upper : (edge.holder.0 == edge.lower.0) ≡ false → ⊥
      held_upper held = let names : value_at after upper edge.column.0 ≡ Some (value_of name.key) = rw held at is.names in not_named held (inr names)

      there : (b : Bool) → (edge.holder.0 == edge.lower.0) ≡ b → (c : Bool) → is_some (row_of before upper) ≡ c → is_some (row_of before upper) ≡ true
      there b held true some = some
      there true held false none = absurd (not_moved held (held_lower held) (differ_nones _ _ none is.upper_there))
      there false held false none = absurd (held_upper held)

      named : (b : Bool) → (edge.holder.0 == edge.lower.0) ≡ b → value_at before (holder_of edge name upper) edge.column.0 ≡ Some (value_of (other_of edge name upper).key)
      named true held = rw held (ap (λ row. cell_at row edge.column.0) beside.row ∙ held_lower held)
      named false held = absurd (held_upper held)

module _ (before after : Db) (changes : List Change) (schema : after.schema ≡ before.schema) (lead : LeadTo before after changes) (name : RowName) (untouched : IsUntouched after changes name) where
  still : (edge : Edge) (upper : RowName) → Joins before name edge upper → Joins after name edge upper
  still edge upper is =
      elim (changed_or_same before after changes lead upper) [
        | inl has ↦
            still_joined before after changes name edge upper
            (record {
              untouched = untouched;
              row = same_row before after changes lead name untouched;
              among = subst (λ s. Contains s.edges edge) (sym schema) is.among;
              of_lower = is.of_lower;
              of_upper = is.of_upper;
              has = has;
            })
            is
        | inr same ↦
            same_upper before after name edge upper (record { schema = sym schema; row = same_row before after changes lead name untouched; joined = is }) same
      ]

  already : (edge : Edge) (upper : RowName) → Joins after name edge upper → Joins before name edge upper
  already edge upper is =
      elim (changed_or_same before after changes lead upper) [
        | inl has ↦
            already_joined before after changes name edge upper
            (record {
              untouched = untouched;
              row = same_row before after changes lead name untouched;
              among = is.among;
              of_lower = is.of_lower;
              of_upper = is.of_upper;
              has = has;
            })
            schema is
        | inr same ↦
            same_upper after before name edge upper (record { schema = schema; row = sym (same_row before after changes lead name untouched); joined = is }) (sym same)
      ]

  -- a row that no change touches is the same, with the same edges
  pub untouched_keeps : KeepsEdges before after name
  untouched_keeps = record { row = same_row before after changes lead name untouched; still = still; already = already }
