-- Changes that are told one after another.
use Rattle.std.proofs.Common.{◌≡◌, ℕ, ◌+◌, ◌<◌, List, [], Bool, true, false, cond, inl, inr, refl, ap, sym, ◌∙◌, subst, arith}
use Rattle.std.specs.Prelude.{◌⊎◌, Option, Some, None}
use Rattle.std.specs.Ordering.{is_eq}
use Rattle.std.proofs.lemmas.Bool.{cases_lt}
use Rattle.own_base.specs.declared.change.Change.{Change}
use Rattle.own_base.specs.declared.row_name.RowName.{RowName}
use Rattle.page_model.specs.Found.{found}
use Rattle.subject_model.specs.NameOrder.{name_cmp}
use Rattle.shelf_model.proofs.KeptRows.{name_tied, one_name}
use Rattle.shelf_erase.specs.Told.{AreTold, OfFirst, Puts, Tells, told}

module _ (wanted : RowName → Option Change) where
  -- nothing is to be told
  pub tells-none : (Is : RowName → Type 0) (changes : List Change) → ((name : RowName) → Is name → ⊥) → Tells wanted Is changes changes
  tells-none Is changes none = record { either = λ name. inl refl; these = λ name is. absurd (none name is) }

  -- nor where of a row there is nothing to be told
  pub tells-nothing : (name : RowName) (changes : List Change) → wanted name ≡ None → Tells wanted (λ other. other ≡ name) changes changes
  tells-nothing name changes none = record { either = λ other. inl refl; these = λ other same. inl (ap wanted same ∙ none) }

  -- some of the rows
  pub tells-weaker : (Is Those : RowName → Type 0) (old new : List Change) → ((name : RowName) → Those name → Is name) → Tells wanted Is old new → Tells wanted Those old new
  tells-weaker Is Those old new weaker tells = record { either = tells.either; these = λ name those. tells.these name (weaker name those) }

  -- some, and then others
  pub tells-then : (Is Those Any : RowName → Type 0) (old middle new : List Change) → ((name : RowName) → Any name → Is name ⊎ Those name)
      → Tells wanted Is old middle → Tells wanted Those middle new → Tells wanted Any old new
  tells-then Is Those Any old middle new cover first second = record {
    either = λ name. elim (second.either name) [
      | inl same ↦ elim (first.either name) [ inl as_before ↦ inl (same ∙ as_before) | inr is ↦ inr (same ∙ is) ]
      | inr is ↦ inr is
    ];
    these = λ name any. elim (cover name any) [
      | inl is ↦ elim (second.either name) [
        | inl same ↦ elim (first.these name is) [ inl none ↦ inl none | inr told_before ↦ inr (same ∙ told_before) ]
        | inr told_now ↦ inr told_now
      ]
      | inr those ↦ second.these name those
    ];
  }

  -- what is to be told of a row is put
  pub tells-put : (name : RowName) (change : Change) (old new : List Change) → wanted name ≡ Some change → change.name ≡ name → Puts change old new → Tells wanted (λ other. other ≡ name) old new
  tells-put name change old new is own puts = record {
    either = λ other. by other (is_eq (name_cmp change.name other)) refl;
    these = λ other same.
        let tied : is_eq (name_cmp change.name other) ≡ true = name_tied change.name other (own ∙ sym same) in
        inr (puts.found other ∙ (ap (λ b. cond b (Some change) (told old other)) tied ∙ (sym is ∙ ap wanted (sym same))));
  }
    where
      by : (other : RowName) (b : Bool) → is_eq (name_cmp change.name other) ≡ b → (told new other ≡ told old other) ⊎ (told new other ≡ wanted other)
      by other true tied =
          let same : name ≡ other = sym own ∙ one_name change.name other tied in
          inr (puts.found other ∙ (ap (λ b. cond b (Some change) (told old other)) tied ∙ (sym is ∙ ap wanted same)))
      by other false apart = inl (puts.found other ∙ ap (λ b. cond b (Some change) (told old other)) apart)

  module _ (IsOf : ℕ → RowName → Type 0) where
    pub first-start : (changes : List Change) → Tells wanted (OfFirst IsOf 0) changes changes
    first-start changes = tells-none (OfFirst IsOf 0) changes (λ name of. let before = of.first in absurd (omega arith))

    one_more : (count : ℕ) (name : RowName) → OfFirst IsOf (count + 1) name → OfFirst IsOf count name ⊎ IsOf count name
    one_more count name of =
        let first : of.number < count + 1 = of.first in
        elim (cases_lt of.number count) [
          | inl before ↦ inl (record { number = of.number; first = before; is = of.is })
          | inr from ↦ let here : of.number ≡ count = omega arith in inr (subst (λ n. IsOf n name) here of.is)
        ]

    -- with the rows of one more
    pub first-more : (count : ℕ) (start old new : List Change) → Tells wanted (OfFirst IsOf count) start old → Tells wanted (IsOf count) old new → Tells wanted (OfFirst IsOf (count + 1)) start new
    first-more count start old new so_far more = tells-then (OfFirst IsOf count) (IsOf count) (OfFirst IsOf (count + 1)) start old new (one_more count) so_far more

  -- nothing is told by no change
  pub told_none : (name : RowName) → told [] name ≡ None
  unfolding found
  told_none name = refl

  -- where of each other row nothing is to be told, all is told
  pub told-all : (Is : RowName → Type 0) (changes : List Change) → Tells wanted Is [] changes → ((name : RowName) → Is name ⊎ (wanted name ≡ None)) → AreTold wanted changes
  told-all Is changes tells cover = record {
    each = λ name. elim (cover name) [
      | inl is ↦ elim (tells.these name is) [ inl none ↦ nothing name none | inr told_now ↦ told_now ]
      | inr none ↦ nothing name none
    ];
  }
    where
      nothing : (name : RowName) → wanted name ≡ None → told changes name ≡ wanted name
      nothing name none = elim (tells.either name) [ inl same ↦ same ∙ (told_none name ∙ sym none) | inr is ↦ is ]
