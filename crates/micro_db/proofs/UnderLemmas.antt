-- What is filed under a subject is the one rising list of it.
use Rattle.std.proofs.Common.{◌≡◌, refl, sym, ◌∙◌, ap, subst, List, [], ◌∷◌, map, Some}
use Rattle.std.specs.Prelude.{Bool, true, false, cond, ◌&&◌, filter, find}
use Rattle.std.specs.List.Sorted.{IsStrictlySortedBy}
use Rattle.std.specs.Option.{option_and_then}
use Rattle.std.specs.Ordering.{is_eq, ordering_then}
use Rattle.std.specs.declared.cmp.Ordering.{Ordering}
use Rattle.std.specs.declared.cmp.Ordering.TheVariants.{Less, Equal, Greater}
use Rattle.own_base.specs.declared.row_name.RowName.{RowName}
use Rattle.own_base.specs.declared.row_name.Subject.{Subject}
use Rattle.ordered_pairs.specs.RightsOf.{rights_of}
use Rattle.ordered_pairs.proofs.RightsLemmas.{rights_rise}
use Rattle.owner_sets.specs.SubjectOrder.{subject_cmp}
use Rattle.page_model.specs.Found.{found}
use Rattle.page_model.specs.Rising.{IsRising}
use Rattle.page_model.proofs.SameFound.{same_found}
use Rattle.subject_model.specs.NameOrder.{name_cmp}
use Rattle.subject_model.proofs.RisingNames.{name_order}
use Rattle.micro_db.specs.Filed.{filed_at, place_of}
use Rattle.micro_db.specs.FiledOrder.{place_cmp, subject_order}

both_eq : (o p : Ordering) → is_eq (ordering_then o p) ≡ (is_eq o && is_eq p)
both_eq Less p = refl
both_eq Equal p = refl
both_eq Greater p = refl

map_itself : {X : Type 0} (xs : List X) → map (λ x. x) xs ≡ xs
map_itself [] = refl
map_itself (x ∷ xs) = ap (λ ys. x ∷ ys) (map_itself xs)

module _ {T : Type 0} (name_of : T → RowName) where
  -- the names of what is filed under a subject are those that stand under it
  names_under : (subject : Subject) (files : List (Subject × T)) → rights_of subject_cmp (map (place_of name_of) files) subject ≡ map name_of (rights_of subject_cmp files subject)
  unfolding rights_of
  names_under subject [] = refl
  names_under subject (filed ∷ files) = by (is_eq (subject_cmp filed.0 subject)) (names_under subject files)
    where
      by : (b : Bool) → map (λ (pair : Subject × RowName). pair.1) (filter (λ pair. is_eq (subject_cmp pair.0 subject)) (map (place_of name_of) files)) ≡ map name_of (map (λ (pair : Subject × T). pair.1) (filter (λ pair. is_eq (subject_cmp pair.0 subject)) files))
          → map (λ (pair : Subject × RowName). pair.1) (cond b (place_of name_of filed ∷ filter (λ pair. is_eq (subject_cmp pair.0 subject)) (map (place_of name_of) files)) (filter (λ pair. is_eq (subject_cmp pair.0 subject)) (map (place_of name_of) files)))
          ≡ map name_of (map (λ (pair : Subject × T). pair.1) (cond b (filed ∷ filter (λ pair. is_eq (subject_cmp pair.0 subject)) files) (filter (λ pair. is_eq (subject_cmp pair.0 subject)) files)))
      by true more = ap (λ names. name_of filed.1 ∷ names) more
      by false more = more

  -- so it rises
  under_rises : (subject : Subject) (files : List (Subject × T)) → IsRising (place_of name_of) place_cmp files → IsRising name_of name_cmp (rights_of subject_cmp files subject)
  under_rises subject files rising =
      let places : List (Subject × RowName) = map (place_of name_of) files in
      let rises = rights_rise {left = subject_cmp} name_cmp subject_order places subject (subst (IsStrictlySortedBy place_cmp) (sym (map_itself places)) rising) in
      subst (IsStrictlySortedBy name_cmp) (map_itself (rights_of subject_cmp places subject) ∙ names_under subject files) rises

  -- and is found by the name of its row
  under_found : (subject : Subject) (name : RowName) (files : List (Subject × T)) → found name_of name_cmp name (rights_of subject_cmp files subject) ≡ filed_at name_of files subject name
  unfolding rights_of found filed_at
  under_found subject name [] = refl
  under_found subject name (filed ∷ files) = by (is_eq (subject_cmp filed.0 subject)) (is_eq (name_cmp (name_of filed.1) name)) refl refl (under_found subject name files)
    where
      by : (b c : Bool) → is_eq (subject_cmp filed.0 subject) ≡ b → is_eq (name_cmp (name_of filed.1) name) ≡ c
          → find (λ each. is_eq (name_cmp (name_of each) name)) (map (λ (pair : Subject × T). pair.1) (filter (λ pair. is_eq (subject_cmp pair.0 subject)) files)) ≡ option_and_then (λ it. Some it.1) (find (λ pair. is_eq (place_cmp (place_of name_of pair) (subject, name))) files)
          → find (λ each. is_eq (name_cmp (name_of each) name)) (map (λ (pair : Subject × T). pair.1) (filter (λ pair. is_eq (subject_cmp pair.0 subject)) (filed ∷ files))) ≡ option_and_then (λ it. Some it.1) (find (λ pair. is_eq (place_cmp (place_of name_of pair) (subject, name))) (filed ∷ files))
      by true true here there more = rw (both_eq (subject_cmp filed.0 subject) (name_cmp (name_of filed.1) name), here, there) refl
      by true false here there more = rw (both_eq (subject_cmp filed.0 subject) (name_cmp (name_of filed.1) name), here, there) more
      by false c here there more = rw (both_eq (subject_cmp filed.0 subject) (name_cmp (name_of filed.1) name), here) more

  -- so what is filed under a subject is the rising list in which each name has what is filed for it
  pub under_are : (subject : Subject) (files : List (Subject × T)) (xs : List T) → IsRising (place_of name_of) place_cmp files → IsRising name_of name_cmp xs
      → ((name : RowName) → found name_of name_cmp name xs ≡ filed_at name_of files subject name) → rights_of subject_cmp files subject ≡ xs
  under_are subject files xs rising rises told =
      same_found name_of name_order (rights_of subject_cmp files subject) xs (under_rises subject files rising) rises
      (λ name. under_found subject name files ∙ sym (told name))
