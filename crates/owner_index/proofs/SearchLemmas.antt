-- A subject that is looked for by halves among subjects that rise.
use Rattle.std.proofs.Common.{◌≡◌, ℕ, zero, suc, ◌<◌, ◌≤◌, List, [], ◌∷◌, length, get_or, Bool, true, false, inl, inr, refl, ap, sym, ◌∙◌, subst, arith}
use Rattle.std.specs.Prelude.{Result, Ok, Err}
use Rattle.std.specs.List.{HoldsAt}
use Rattle.std.specs.List.Sorted.{IsBinarySearchResult, IsNonDecreasingBy, IsPartitionPoint, IsSearchInRange, IsStrictlySortedBy}
use Rattle.std.specs.Ordering.{is_eq, ordering_index}
use Rattle.std.specs.Result.{is_ok}
use Rattle.std.specs.declared.cmp.Ordering.{Ordering}
use Rattle.std.specs.declared.cmp.Ordering.TheVariants.{Less, Equal, Greater}
use Rattle.std.proofs.lemmas.Bool.{cases_lt}
use Rattle.std.proofs.lemmas.Cmp.{tied_itself}
use Rattle.std.proofs.lemmas.List.Elements.{Contains-get_or}
use Rattle.own_base.specs.declared.row_name.RowName.{RowName}
use Rattle.own_base.specs.declared.row_name.Subject.{Subject}
use Rattle.subject_model.specs.Named.{is_name}
use Rattle.subject_model.proofs.Members.{all_contained, any_contained, contains_any}
use Rattle.subject_model.proofs.NamedLemmas.{name_is, one_name as named_one}
use Rattle.subject_model.proofs.RisingNames.{name_order}
use Rattle.owner_sets.specs.SubjectOrder.{subject_cmp}
use Rattle.owner_sets.proofs.DerivedOrder.{derived_cmp, same_order}
use Rattle.owner_index.specs.HeldMoves.{is_among}
use Rattle.owner_index.proofs.SettleLemmas.{one_name}

-- what ties with a subject is it
tied_subject : (one other : Subject) → derived_cmp one other ≡ Equal → one ≡ other
tied_subject one other tied =
    ap (λ (n : RowName). record { 0 = n }) (one_name one.0 other.0 (ap is_eq (sym (same_order one other) ∙ tied)))

not_tied : (subject : Subject) (o : Ordering) → derived_cmp subject subject ≡ o → (o ≡ Equal → ⊥) → ⊥
not_tied subject o is other = other (sym is ∙ (same_order subject subject ∙ tied_itself name_order subject.0))

at_most_two : (o : Ordering) → ordering_index o ≤ 2
at_most_two Less = omega arith
at_most_two Equal = omega arith
at_most_two Greater = omega arith

-- what is below another stands to each subject no later than the other does
index_below : (one other subject : Subject) → subject_cmp one other ≡ Less → ordering_index (derived_cmp one subject) ≤ ordering_index (derived_cmp other subject)
index_below one other subject below =
    rw (same_order one subject, same_order other subject) (by (subject_cmp other subject) refl)
  where
    by : (o : Ordering) → subject_cmp other subject ≡ o → ordering_index (subject_cmp one subject) ≤ ordering_index o
    by Less is = rw (name_order.trans one.0 other.0 subject.0 below is) (omega arith)
    by Equal is =
        let same : other ≡ subject = tied_subject other subject (same_order other subject ∙ is) in
        rw (subst (λ s. subject_cmp one s ≡ Less) same below) (omega arith)
    by Greater is = at_most_two (subject_cmp one subject)

-- so the answers of a search rise
answers_rise : (subject : Subject) (xs : List Subject) → IsStrictlySortedBy subject_cmp xs → IsNonDecreasingBy (λ y. ordering_index (derived_cmp y subject)) xs
unfolding IsStrictlySortedBy
answers_rise subject [] rising i j d before within = absurd (omega arith)
answers_rise subject (x ∷ xs) rising zero zero d before within = omega arith
answers_rise subject (x ∷ xs) rising zero (suc j) d before within =
    index_below x (get_or xs j d) subject (all_contained (λ y. subject_cmp x y ≡ Less) xs (get_or xs j d) rising.0 (Contains-get_or xs j d (omega arith)))
answers_rise subject (x ∷ xs) rising (suc i) zero d before within = absurd (omega arith)
answers_rise subject (x ∷ xs) rising (suc i) (suc j) d before within = answers_rise subject xs rising.1 i j d (omega arith) (omega arith)

found_among : (subject : Subject) (subjects : List Subject) (i : ℕ) → i < length subjects → HoldsAt (λ y. derived_cmp y subject ≡ Equal) subjects i → is_among subject subjects ≡ true
found_among subject subjects i within holds =
    let is : get_or subjects i subject ≡ subject = tied_subject (get_or subjects i subject) subject (holds subject) in
    any_contained (λ other. is_name other.0 subject.0) subjects (get_or subjects i subject) (Contains-get_or subjects i subject within) (name_is (get_or subjects i subject).0 subject.0 (ap (λ (s : Subject). s.0) is))

none_among : (subject : Subject) (subjects : List Subject) (i : ℕ) → IsPartitionPoint (λ y. derived_cmp y subject ≡ Less) (λ y. derived_cmp y subject ≡ Greater) subjects i → is_among subject subjects ≡ false
none_among subject subjects i parts = by (is_among subject subjects) refl
  where
    apart : (k : ℕ) → k < length subjects → get_or subjects k subject ≡ subject → ⊥
    apart k within is = elim (cases_lt k i) [
      | inl less ↦ not_tied subject Less (subst (λ y. derived_cmp y subject ≡ Less) is (parts.0 k subject (omega arith) less)) (λ same. cc)
      | inr not_less ↦ not_tied subject Greater (subst (λ y. derived_cmp y subject ≡ Greater) is (parts.1 k subject not_less within)) (λ same. cc)
    ]

    by : (b : Bool) → is_among subject subjects ≡ b → is_among subject subjects ≡ false
    by true some =
        let (other, (k, within, at), passes) = contains_any (λ (other : Subject). is_name other.0 subject.0) subjects some in
        let same : other ≡ subject = ap (λ (n : RowName). record { 0 = n }) (named_one other.0 subject.0 passes) in
        absurd (apart k within (subst (λ s. get_or subjects k s ≡ s) same at))
    by false none = none

-- what a search by halves finds
pub searched : (subject : Subject) (subjects : List Subject) (r : Result ℕ ℕ) → IsSearchInRange r (length subjects) → IsBinarySearchResult (λ y. derived_cmp y subject) subjects r → IsStrictlySortedBy subject_cmp subjects
    → is_ok r ≡ is_among subject subjects
searched subject subjects (Ok i) within found rising = sym (found_among subject subjects i within found)
searched subject subjects (Err i) within found rising = sym (none_among subject subjects i (found (answers_rise subject subjects rising)))
