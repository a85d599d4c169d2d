-- A change alone is the net of what it leads to.
use Rattle.std.proofs.Common.{◌≡◌, ◌∙◌, List, [], ◌∷◌, Bool, true, false, refl, ap, sym, subst, eq-eqb}
use Rattle.std.specs.Prelude.{◌≢◌, Contains, filter}
use Rattle.std.specs.List.{IsDistinct, list_any}
use Rattle.std.specs.Ordering.{is_eq}
use Rattle.std.proofs.lemmas.Cmp.{tied_itself}
use Rattle.own_base.specs.declared.change.Change.{Change}
use Rattle.own_model.specs.Db.{Db, IsOrdered}
use Rattle.own_model.proofs.KeyOrder.{key_order}
use Rattle.owner_model.specs.Joins.{row_of}
use Rattle.subject_model.specs.Named.{is_name}
use Rattle.subject_model.proofs.Members.{contains_here, contains_later, contains_none}
use Rattle.subject_model.proofs.NamedLemmas.{one_name}
use Rattle.state_model.specs.ChangeOf.{IsChangeOf}
use Rattle.state_model.specs.LeadTo.{LeadTo}
use Rattle.state_model.specs.MayBePut.{KeysDiffer}
use Rattle.state_model.specs.Net.{net}
use Rattle.state_model.specs.Put.{is_of_table}
use Rattle.state_model.proofs.NetLeads.{net_leads}
use Rattle.state_model.proofs.NetRows.{net-iff_change}

-- two changes of one key are in no list whose keys differ
not-twice : (change : Change) (rest : List Change) → KeysDiffer (filter (is_of_table change.name.table.0) (change ∷ change ∷ rest)) → ⊥
unfolding IsDistinct
not-twice change rest differ =
    let of : is_of_table change.name.table.0 change ≡ true = eq-eqb change.name.table.0 change.name.table.0 refl in
    let own : KeysDiffer (change ∷ change ∷ filter (is_of_table change.name.table.0) rest) = rw of at differ in
    let never : true ≡ false = sym (ap is_eq (tied_itself key_order change.name.key)) ∙ own.0.0 in
    cc

-- a list in which one stands and no other, once
alone : (change : Change) (list : List Change) → Contains list change → ((other : Change) → Contains list other → other ≡ change) → KeysDiffer (filter (is_of_table change.name.table.0) list)
    → change ∷ [] ≡ list
alone change [] among same differ = absurd (contains_none change among)
alone change (first ∷ []) among same differ = ap (λ (head : Change). head ∷ []) (sym (same first (contains_here first [])))
alone change (first ∷ next ∷ rest) among same differ =
    let one : first ≡ change = same first (contains_here first (next ∷ rest)) in
    let other : next ≡ change = same next (contains_later first (next ∷ rest) next (contains_here next rest)) in
    let twice : first ∷ next ∷ rest ≡ change ∷ change ∷ rest = cc in
    absurd (not-twice change rest (subst (λ (list : List Change). KeysDiffer (filter (is_of_table change.name.table.0) list)) twice differ))

module _ (db after : Db) (change : Change) (before_ordered : IsOrdered db) (after_ordered : IsOrdered after) (schema : after.schema ≡ db.schema)
    (lead : LeadTo db after (change ∷ [])) (differ : change.before ≢ change.after) where
  -- each that tells rows which differ is that change
  only : (other : Change) → IsChangeOf db after other → other ≡ change
  only other is = by (is_name change.name other.name) refl
    where
      by : (b : Bool) → is_name change.name other.name ≡ b → other ≡ change
      by true named =
          let name : change.name ≡ other.name = one_name change.name other.name named in
          let was : other.before ≡ change.before = is.tells.was ∙ (ap (row_of db) (sym name) ∙ sym lead.each.0.was) in
          let now : other.after ≡ change.after = is.tells.is ∙ (ap (row_of after) (sym name) ∙ sym lead.each.0.is) in
          λ i. record { name = sym name i; before = was i; after = now i }
      by false unnamed =
          let none : list_any (λ (change : Change). is_name change.name other.name) (change ∷ []) ≡ false = rw unnamed refl in
          absurd (is.differ (is.tells.was ∙ (lead.others other.name none ∙ sym is.tells.is)))

  pub net-one : change ∷ [] ≡ net db after
  net-one =
      alone change (net db after)
      ((net-iff_change db after before_ordered after_ordered schema change).1 (record { tells = lead.each.0; differ = differ }))
      (λ other among. only other ((net-iff_change db after before_ordered after_ordered schema other).0 among))
      ((net_leads db after before_ordered after_ordered schema).once change.name.table.0)
