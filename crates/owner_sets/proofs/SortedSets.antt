-- A list that is sorted and has no subject twice is a set.
use Rattle.std.proofs.Common.{◌≡◌, ℕ, zero, suc, List, [], ◌∷◌, ◌++◌, get_or, refl, ap, sym, ◌∙◌, subst, append-nil, append_assoc}
use Rattle.std.specs.Cmp.{IsTotalOrder}
use Rattle.std.specs.List.Sorted.{IsStrictlySortedBy}
use Rattle.std.proofs.lemmas.Cmp.{on_total}
use Rattle.own_base.specs.declared.row_name.Subject.{Subject}
use Rattle.subject_model.proofs.RisingNames.{name_order}
use Rattle.owner_sets.specs.IsSortedSet.{IsSortedSet}
use Rattle.owner_sets.specs.SubjectOrder.{subject_cmp}

-- the order of subjects is total
pub subject_order : IsTotalOrder subject_cmp
subject_order = on_total (λ subject. subject.0) name_order

-- no subjects are a set
pub IsSortedSet-nil : IsSortedSet [] []
unfolding IsStrictlySortedBy
IsSortedSet-nil = record { rising = tt; same = λ subject. ((λ among. among), (λ among. among)) }

-- each list is as_sorted
abbrev pub AreSortedSets : List (List Subject) → List (List Subject) → Type 0
AreSortedSets [] [] = Unit {0}
AreSortedSets [] (set ∷ sets) = ⊥
AreSortedSets (list ∷ lists) [] = ⊥
AreSortedSets (list ∷ lists) (set ∷ sets) = IsSortedSet list set × AreSortedSets lists sets

pub AreSortedSets-push : (lists sets : List (List Subject)) (list set : List Subject) → AreSortedSets lists sets → IsSortedSet list set → AreSortedSets (lists ++ list ∷ []) (sets ++ set ∷ [])
AreSortedSets-push [] [] list set are is = (is, tt)
AreSortedSets-push [] (other ∷ sets) list set are is = absurd are
AreSortedSets-push (other ∷ lists) [] list set are is = absurd are
AreSortedSets-push (one ∷ lists) (other ∷ sets) list set are is = (are.0, AreSortedSets-push lists sets list set are.1 is)

pub AreSortedSets-at : (lists sets : List (List Subject)) (place : ℕ) → AreSortedSets lists sets → IsSortedSet (get_or lists place []) (get_or sets place [])
AreSortedSets-at [] [] place are = IsSortedSet-nil
AreSortedSets-at [] (set ∷ sets) place are = absurd are
AreSortedSets-at (list ∷ lists) [] place are = absurd are
AreSortedSets-at (list ∷ lists) (set ∷ sets) zero are = are.0
AreSortedSets-at (list ∷ lists) (set ∷ sets) (suc place) are = AreSortedSets-at lists sets place are.1

-- Of all lists some are as_sorted and the others are left.
pub record Sorting (all left sets : List (List Subject)) : Type 0 where
  pub done : List (List Subject)
  pub parts : done ++ left ≡ all
  pub as_sorted : AreSortedSets done sets

pub Sorting-start : (all : List (List Subject)) → Sorting all all []
Sorting-start all = record { done = []; parts = refl; as_sorted = tt }

pub Sorting-more : (all left rest sets : List (List Subject)) (list set : List Subject) → Sorting all left sets → left ≡ list ∷ rest → IsSortedSet list set → Sorting all rest (sets ++ set ∷ [])
Sorting-more all left rest sets list set is first as_sorted =
    record {
      done = is.done ++ list ∷ [];
      parts = append_assoc is.done (list ∷ []) rest ∙ (ap (λ others. is.done ++ others) (sym first) ∙ is.parts);
      as_sorted = AreSortedSets-push is.done sets list set is.as_sorted as_sorted;
    }

pub Sorting-end : (all left sets : List (List Subject)) → Sorting all left sets → left ≡ [] → AreSortedSets all sets
Sorting-end all left sets is none =
    let whole : is.done ≡ all = sym (append-nil is.done) ∙ (ap (λ others. is.done ++ others) (sym none) ∙ is.parts) in
    subst (λ lists. AreSortedSets lists sets) whole is.as_sorted
