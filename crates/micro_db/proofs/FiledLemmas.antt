-- What a change at one place does to what is filed.
use Rattle.std.proofs.Common.{◌≡◌, refl, sym, ◌∙◌, ap, subst, List, Option, Some, None}
use Rattle.std.specs.Prelude.{◌&&◌, Bool, true, false, cond, IfSome, is_some, if◌then◌else◌}
use Rattle.std.specs.Ordering.{is_eq, ordering_then}
use Rattle.std.specs.declared.cmp.Ordering.{Ordering}
use Rattle.std.specs.declared.cmp.Ordering.TheVariants.{Less, Equal, Greater}
use Rattle.std.proofs.lemmas.Bool.{and_parts}
use Rattle.own_base.specs.declared.row_name.RowName.{RowName}
use Rattle.own_base.specs.declared.row_name.Subject.{Subject}
use Rattle.subject_model.specs.NameOrder.{name_cmp}
use Rattle.owner_sets.specs.SubjectOrder.{subject_cmp}
use Rattle.shelf_model.proofs.KeptRows.{one_name}
use Rattle.page_model.specs.Changed.{with_change}
use Rattle.page_model.specs.Found.{found}
use Rattle.page_model.proofs.FoundChanged.{found_changed}
use Rattle.micro_db.specs.Filed.{PutsAt, filed_at, item_of, place_of}
use Rattle.micro_db.specs.FiledOrder.{place_cmp, place_total}

both_eq : (o p : Ordering) → is_eq (ordering_then o p) ≡ (is_eq o && is_eq p)
both_eq Less p = refl
both_eq Equal p = refl
both_eq Greater p = refl

-- places that tie are one
pub one_place : (subject other : Subject) (name own : RowName) → is_eq (place_cmp (subject, name) (other, own)) ≡ true → (subject ≡ other) × (name ≡ own)
one_place subject other name own tied =
    let both = and_parts (is_eq (subject_cmp subject other)) (is_eq (name_cmp name own)) (sym (both_eq (subject_cmp subject other) (name_cmp name own)) ∙ tied) in
    let made : RowName → Subject = λ n. record { 0 = n } in
    (ap made (one_name subject.0 other.0 both.0), one_name name own both.1)

-- what is none
pub none_is : {A : Type 0} (option : Option A) → is_some option ≡ false → option ≡ None
none_is None is = refl
none_is (Some x) is = cc

module _ {T : Type 0} (name_of : T → RowName) where
  chosen : (b : Bool) (put old : Option (Subject × T)) → item_of (cond b put old) ≡ cond b (item_of put) (item_of old)
  chosen true put old = refl
  chosen false put old = refl

  pub puts_changed : (subject : Subject) (name : RowName) (put : Option (Subject × T)) (before : List (Subject × T)) → IfSome put (λ filed. place_of name_of filed ≡ (subject, name))
      → PutsAt name_of subject name (item_of put) before (with_change (place_of name_of) place_cmp (subject, name) put before)
  unfolding filed_at
  puts_changed subject name put before keyed other own =
      let given : Option (Subject × T) → Option (Subject × T) = λ it. it in
      let place : Option (Subject × T) → Subject × RowName = λ it. (subject, name) in
      ap item_of (found_changed (place_of name_of) place_total place given (other, own) (subject, name) put before keyed)
      ∙ chosen (is_eq (place_cmp (subject, name) (other, own))) put (found (place_of name_of) place_cmp (other, own) before)

  -- what is filed under the subject with the name of the row is filed at their place
  pub keyed-filed : (subject : Subject) (name : RowName) (item : Option T) (owner : Subject) (own : RowName) (filed : Option (Subject × T)) → owner ≡ subject → own ≡ name → item_of filed ≡ item → IfSome filed (λ it. it.0 ≡ subject)
      → IfSome item (λ it. name_of it ≡ name) → IfSome filed (λ it. place_of name_of it ≡ (owner, own))
  keyed-filed subject name item owner own None same_owner same_own given under named = tt
  keyed-filed subject name item owner own (Some it) same_owner same_own given under named =
      let its : name_of it.1 ≡ name = subst (λ (o : Option T). IfSome o (λ one. name_of one ≡ name)) (sym given) named in
      let pair : Subject → RowName → Subject × RowName = λ s n. (s, n) in
      ap (λ s. pair s (name_of it.1)) (under ∙ sym same_owner) ∙ ap (pair owner) (its ∙ sym same_own)

  -- so what is put there is filed for the row
  pub puts_filed : (subject : Subject) (name : RowName) (item : Option T) (owner : Subject) (own : RowName) (filed : Option (Subject × T)) → owner ≡ subject → own ≡ name → item_of filed ≡ item → IfSome filed (λ it. it.0 ≡ subject)
      → IfSome item (λ it. name_of it ≡ name) → (inside before after : List (Subject × T)) → inside ≡ before → after ≡ with_change (place_of name_of) place_cmp (owner, own) filed inside → PutsAt name_of subject name item before after
  puts_filed subject name item owner own filed same_owner same_own given under named inside before after is changed =
      let keyed = keyed-filed subject name item owner own filed same_owner same_own given under named in
      let put : PutsAt name_of owner own (item_of filed) inside after = subst (λ (new : List (Subject × T)). PutsAt name_of owner own (item_of filed) inside new) (sym changed) (puts_changed owner own filed inside keyed) in
      let at_owner : PutsAt name_of subject own (item_of filed) inside after = subst (λ (s : Subject). PutsAt name_of s own (item_of filed) inside after) same_owner put in
      let at_own : PutsAt name_of subject name (item_of filed) inside after = subst (λ (n : RowName). PutsAt name_of subject n (item_of filed) inside after) same_own at_owner in
      let of_item : PutsAt name_of subject name item inside after = subst (λ (o : Option T). PutsAt name_of subject name o inside after) given at_own in
      subst (λ (old : List (Subject × T)). PutsAt name_of subject name item old after) is of_item

  -- where nothing is filed there, and nothing is put, it stays as it is
  pub puts_nothing : (subject : Subject) (name : RowName) (item : Option T) (owner : Subject) (own : RowName) (filed : Option (Subject × T)) → owner ≡ subject → own ≡ name → item_of filed ≡ item → is_some filed ≡ false
      → (inside before : List (Subject × T)) → inside ≡ before → found (place_of name_of) place_cmp (owner, own) inside ≡ None → PutsAt name_of subject name item before before
  unfolding filed_at
  puts_nothing subject name item owner own filed same_owner same_own given none inside before is absent other other_own =
      by (is_eq (place_cmp (subject, name) (other, other_own))) refl
    where
      empty : item ≡ None
      empty = sym given ∙ ap item_of (none_is filed none)

      here : filed_at name_of before subject name ≡ None
      here = ap item_of (subst (λ (list : List (Subject × T)). found (place_of name_of) place_cmp (subject, name) list ≡ None) is (subst (λ (n : RowName). found (place_of name_of) place_cmp (subject, n) inside ≡ None) same_own (subst (λ (s : Subject). found (place_of name_of) place_cmp (s, own) inside ≡ None) same_owner absent)))

      by : (b : Bool) → is_eq (place_cmp (subject, name) (other, other_own)) ≡ b
          → filed_at name_of before other other_own ≡ (if is_eq (place_cmp (subject, name) (other, other_own)) then item else filed_at name_of before other other_own)
      by true tied =
          let same = one_place subject other name other_own tied in
          rw tied (subst (λ (s : Subject). filed_at name_of before s other_own ≡ item) same.0 (subst (λ (n : RowName). filed_at name_of before subject n ≡ item) same.1 (here ∙ sym empty)))
      by false untied = rw untied refl
