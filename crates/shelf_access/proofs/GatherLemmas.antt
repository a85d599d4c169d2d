-- Copies that are gathered one after another.
use Rattle.std.proofs.Common.{◌≡◌, ℕ, ◌+◌, ◌<◌, List, [], ◌∷◌, ◌++◌, length, get_or, map, take, Bool, true, false, inl, inr, refl, ap, sym, ◌∙◌, subst}
use Rattle.std.specs.Prelude.{◌⊎◌, Contains, Option, Some, if◌then◌else◌}
use Rattle.std.specs.Ordering.{is_eq}
use Rattle.std.proofs.lemmas.Cmp.{tied_itself}
use Rattle.std.proofs.lemmas.List.{take_more}
use Rattle.std.proofs.lemmas.List.Elements.{Contains-append_cases, Contains-append_left, Contains-append_right}
use Rattle.own_base.specs.declared.row_name.RowName.{RowName}
use Rattle.page_model.specs.Changed.{with_change}
use Rattle.page_model.proofs.FoundChanged.{found_changed}
use Rattle.subject_model.specs.NameOrder.{name_cmp}
use Rattle.subject_model.proofs.Members.{contains_cases, contains_here, contains_none}
use Rattle.subject_model.proofs.RisingNames.{name_order}
use Rattle.shelf_model.specs.declared.shelved.Shelved.{Shelved}
use Rattle.shelf_model.proofs.KeptRows.{one_name}
use Rattle.shelf_access.specs.Gathered.{Gathers, GathersWanted, copy_in, name_of_copy}

-- none
pub gathers-none : (copies : List Shelved) → Gathers [] copies copies
gathers-none copies wanted are = record { has = λ copy among. absurd (contains_none copy among); rest = λ name. inr refl }

-- one
pub gathers-one : (copy : Shelved) (old new : List Shelved) → new ≡ with_change name_of_copy name_cmp copy.name (Some copy) old → Gathers (copy ∷ []) old new
gathers-one copy old new is wanted are =
    record {
      has = λ other among. elim (contains_cases copy [] other among) [
        | inl same ↦ subst (λ c. copy_in new c.name ≡ wanted c.name) same (there ∙ sym (are copy (contains_here copy [])))
        | inr none ↦ absurd (contains_none other none)
      ];
      rest = λ name. rest name (is_eq (name_cmp copy.name name)) refl;
    }
  where
    looked : (name : RowName) → copy_in new name ≡ (if is_eq (name_cmp copy.name name) then Some copy else copy_in old name)
    looked name =
        let put : Shelved → Option Shelved = λ c. Some c in
        ap (λ copies. copy_in copies name) is ∙ found_changed name_of_copy name_order name_of_copy put name copy.name (Some copy) old refl

    there : copy_in new copy.name ≡ Some copy
    there = looked copy.name ∙ rw (tied_itself name_order copy.name) refl

    rest : (name : RowName) (b : Bool) → is_eq (name_cmp copy.name name) ≡ b → (copy_in new name ≡ wanted name) ⊎ (copy_in new name ≡ copy_in old name)
    rest name true tied =
        let same : copy.name ≡ name = one_name copy.name name tied in
        inl (subst (λ n. copy_in new n ≡ wanted n) same (there ∙ sym (are copy (contains_here copy []))))
    rest name false apart = inr (looked name ∙ rw apart refl)

-- some and others
pub gathers-both : (given others old mid new : List Shelved) → Gathers given old mid → Gathers others mid new → Gathers (given ++ others) old new
gathers-both given others old mid new one other wanted are =
    record { has = has; rest = λ name. rest name (first.rest name) (second.rest name) }
  where
    first : GathersWanted wanted given old mid
    first = one wanted (λ copy among. are copy (Contains-append_left given others copy among))

    second : GathersWanted wanted others mid new
    second = other wanted (λ copy among. are copy (Contains-append_right given others copy among))

    stays : (name : RowName) → copy_in mid name ≡ wanted name → (copy_in new name ≡ wanted name) ⊎ (copy_in new name ≡ copy_in mid name) → copy_in new name ≡ wanted name
    stays name was (inl is) = is
    stays name was (inr same) = same ∙ was

    has : (copy : Shelved) → Contains (given ++ others) copy → copy_in new copy.name ≡ wanted copy.name
    has copy among = elim (Contains-append_cases given others copy among) [
      | inl before ↦ stays copy.name (first.has copy before) (second.rest copy.name)
      | inr behind ↦ second.has copy behind
    ]

    rest : (name : RowName) → (copy_in mid name ≡ wanted name) ⊎ (copy_in mid name ≡ copy_in old name) → (copy_in new name ≡ wanted name) ⊎ (copy_in new name ≡ copy_in mid name)
        → (copy_in new name ≡ wanted name) ⊎ (copy_in new name ≡ copy_in old name)
    rest name was (inl is) = inl is
    rest name (inl was) (inr same) = inl (same ∙ was)
    rest name (inr was) (inr same) = inr (same ∙ was)

module _ {X : Type 0} (copy_of : X → Shelved) (xs : List X) where
  mapped : (ys zs : List X) → map copy_of (ys ++ zs) ≡ map copy_of ys ++ map copy_of zs
  mapped [] zs = refl
  mapped (y ∷ ys) zs = ap (λ rest. copy_of y ∷ rest) (mapped ys zs)

  -- one more of a list
  pub gathers-more : (count : ℕ) (x : X) (start old new : List Shelved) → count < length xs → x ≡ get_or xs count x → Gathers (map copy_of (take count xs)) start old → Gathers (copy_of x ∷ []) old new
      → Gathers (map copy_of (take (count + 1) xs)) start new
  gathers-more count x start old new within next so_far one =
      subst (λ given. Gathers given start new) (sym longer) (gathers-both (map copy_of (take count xs)) (copy_of x ∷ []) start old new so_far one)
    where
      longer : map copy_of (take (count + 1) xs) ≡ map copy_of (take count xs) ++ copy_of x ∷ []
      longer = ap (map copy_of) (take_more xs count x within ∙ ap (λ y. take count xs ++ y ∷ []) (sym next)) ∙ mapped (take count xs) (x ∷ [])
