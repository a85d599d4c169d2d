-- Moves by what is held.
use Rattle.std.proofs.Common.{◌≡◌, ℕ, ◌+◌, ◌<◌, List, [], ◌∷◌, ◌++◌, length, get_or, map, take, drop, Bool, true, false, inl, inr, refl, ap, sym, ◌∙◌, subst, drop-cons, suc}
use Rattle.std.specs.Prelude.{◌≢◌, not, Contains, filter}
use Rattle.std.specs.List.{AllByRecursion}
use Rattle.std.specs.List.Sorted.{IsStrictlySortedBy}
use Rattle.std.specs.Ordering.{ordering_then}
use Rattle.std.specs.declared.cmp.Ordering.TheVariants.{Less}
use Rattle.std.proofs.lemmas.Cmp.{tied_itself}
use Rattle.std.proofs.lemmas.List.{append-nil, take-append-drop, take_more}
use Rattle.std.proofs.lemmas.List.Elements.{Contains-append_cases, Contains-append_left, Contains-append_right}
use Rattle.std.proofs.lemmas.List.Kept.{IsStrictlySortedBy-filter}
use Rattle.own_base.specs.declared.row_name.RowName.{RowName}
use Rattle.own_base.specs.declared.row_name.Subject.{Subject}
use Rattle.subject_model.specs.NameOrder.{name_cmp}
use Rattle.subject_model.proofs.Members.{all_contained, contains_cases, contains_filter, contains_here, contains_map, contains_none, contains_of_filter, contains_of_map}
use Rattle.subject_model.proofs.NameOrderLemmas.{rising_append}
use Rattle.subject_model.proofs.RisingNames.{name_order}
use Rattle.owner_sets.specs.IsSortedSet.{IsSortedSet}
use Rattle.owner_sets.specs.SubjectOrder.{subject_cmp}
use Rattle.move_model.specs.declared.owner_move.OwnerMove.{OwnerMove}
use Rattle.move_model.specs.declared.owner_move.Standing.{Standing}
use Rattle.move_model.specs.declared.owner_move.Standing.TheVariants.{Nothing, Reaches, Owns}
use Rattle.move_model.specs.MoveOrder.{move_cmp}
use Rattle.owner_index.specs.Entry.{Entry}
use Rattle.owner_index.specs.Held.{owners_of, reach_of}
use Rattle.owner_index.specs.HeldMoves.{AddsMoves, AreHeldMoves, IsHeldMove, held_standing, is_move, is_same, move_at, reachers, standing_in}

same_itself : (s : Standing) → is_same s s ≡ true
same_itself Nothing = refl
same_itself Reaches = refl
same_itself Owns = refl

same_is : (one other : Standing) → is_same one other ≡ true → one ≡ other
same_is Nothing Nothing is = refl
same_is Nothing Reaches is = let never : false ≡ true = is in cc
same_is Nothing Owns is = let never : false ≡ true = is in cc
same_is Reaches Nothing is = let never : false ≡ true = is in cc
same_is Reaches Reaches is = refl
same_is Reaches Owns is = let never : false ≡ true = is in cc
same_is Owns Nothing is = let never : false ≡ true = is in cc
same_is Owns Reaches is = let never : false ≡ true = is in cc
same_is Owns Owns is = refl

-- a move is one exactly where the two standings differ
move_differs : (move : OwnerMove) → is_move move ≡ true → move.before ≢ move.after
move_differs move is same =
    let alike : is_same move.before move.after ≡ true = subst (λ s. is_same move.before s ≡ true) same (same_itself move.before) in
    let never : false ≡ true = sym (ap not alike) ∙ is in cc

differs_move : (move : OwnerMove) → move.before ≢ move.after → is_move move ≡ true
differs_move move differ = by (is_same move.before move.after) refl
  where
    by : (b : Bool) → is_same move.before move.after ≡ b → is_move move ≡ true
    by true is = absurd (differ (same_is move.before move.after is))
    by false is = ap not is

module _ (old new : List Entry) (name : RowName) where
  -- a move of the row is that of its subject
  own_move : (move : OwnerMove) → move.name ≡ name → IsHeldMove old new move → move_at old new name move.subject ≡ move
  own_move move own held =
      sym (ap (λ n. move_at old new n move.subject) own)
      ∙ (ap (λ s. record { name = move.name; subject = move.subject; before = s; after = held_standing new move.name move.subject }) (sym held.was)
      ∙ ap (λ s. record { name = move.name; subject = move.subject; before = move.before; after = s }) (sym held.is))

  below : (first : Subject) (set : List Subject) → AllByRecursion (λ subject. subject_cmp first subject ≡ Less) set
      → AllByRecursion (λ move. move_cmp (move_at old new name first) move ≡ Less) (map (move_at old new name) set)
  below first [] all = tt
  below first (subject ∷ set) all = (ap (λ o. ordering_then o (name_cmp first.0 subject.0)) (tied_itself name_order name) ∙ all.0, below first set all.1)

  moves_rise : (set : List Subject) → IsStrictlySortedBy subject_cmp set → IsStrictlySortedBy move_cmp (map (move_at old new name) set)
  unfolding IsStrictlySortedBy
  moves_rise [] rising = tt
  moves_rise (subject ∷ set) rising = (below subject set rising.0, moves_rise set rising.1)

  module _ (set : List Subject) (sorted : IsSortedSet (reachers old new name) set) where
    to_move : (move : OwnerMove) → Contains (filter is_move (map (move_at old new name) set)) move → (move.name ≡ name) × IsHeldMove old new move
    to_move move among =
        let kept = contains_of_filter is_move (map (move_at old new name) set) move among in
        let (subject, at, is) = contains_of_map (move_at old new name) set move kept.0 in
        let differ : (move_at old new name subject).before ≢ (move_at old new name subject).after =
        move_differs (move_at old new name subject) (subst (λ m. is_move m ≡ true) (sym is) kept.1) in
        subst (λ (m : OwnerMove). (m.name ≡ name) × IsHeldMove old new m) is
        (refl, record { was = refl; is = refl; differ = differ; reacher = (sorted.same subject).0 at })

    of_move : (move : OwnerMove) → (move.name ≡ name) × IsHeldMove old new move → Contains (filter is_move (map (move_at old new name) set)) move
    of_move move both =
        let at : Contains set move.subject = (sorted.same move.subject).1 (subst (λ n. Contains (reachers old new n) move.subject) both.0 both.1.reacher) in
        contains_filter is_move (map (move_at old new name) set) move
        (subst (Contains (map (move_at old new name) set)) (own_move move both.0 both.1) (contains_map (move_at old new name) set move.subject at))
        (differs_move move both.1.differ)

    -- the moves of the subjects that reached the row or reach it are those of the row
    pub adds-moves : (moves more : List OwnerMove) → more ≡ moves ++ filter is_move (map (move_at old new name) set) → AddsMoves old new name moves more
    adds-moves moves more added =
        record {
          own = filter is_move (map (move_at old new name) set);
          added = added;
          told = λ move. (to_move move, of_move move);
          rise = IsStrictlySortedBy-filter move_cmp is_move (map (move_at old new name) set) (moves_rise set sorted.rising);
        }

-- a row for which the same is held has none
pub adds-no-moves : (old new : List Entry) (name : RowName) (moves : List OwnerMove) → owners_of old name ≡ owners_of new name → reach_of old name ≡ reach_of new name → AddsMoves old new name moves moves
unfolding IsStrictlySortedBy
adds-no-moves old new name moves same also =
    record {
      own = [];
      added = sym (append-nil moves);
      told = λ move. ((λ among. absurd (contains_none move among)), (λ both. absurd (none move both.0 both.1)));
      rise = tt;
    }
  where
    none : (move : OwnerMove) → move.name ≡ name → IsHeldMove old new move → ⊥
    none move own held =
        let alike : held_standing old move.name move.subject ≡ held_standing new move.name move.subject =
        subst (λ n. held_standing old n move.subject ≡ held_standing new n move.subject) (sym own) (λ i. standing_in (same i) (also i) move.subject) in
        held.differ (held.was ∙ (alike ∙ sym held.is))

pub moves-start : (old new : List Entry) → AreHeldMoves old new [] []
unfolding IsStrictlySortedBy
moves-start old new = record { told = λ move. ((λ among. absurd (contains_none move among)), (λ both. absurd (contains_none move.name both.0))); rise = tt }

-- in a rising list each name before another is below it
before_below : (xs : List RowName) (y : RowName) (rest : List RowName) → IsStrictlySortedBy name_cmp (xs ++ y ∷ rest) → (z : RowName) → Contains xs z → name_cmp z y ≡ Less
unfolding IsStrictlySortedBy
before_below [] y rest rising z among = absurd (contains_none z among)
before_below (x ∷ xs) y rest rising z among =
    elim (contains_cases x xs z among) [
      | inl same ↦ subst (λ n. name_cmp n y ≡ Less) same
          (all_contained (λ other. name_cmp x other ≡ Less) (xs ++ y ∷ rest) y rising.0 (Contains-append_right xs (y ∷ rest) y (contains_here y rest)))
      | inr later ↦ before_below xs y rest rising.1 z later
    ]

module _ (old new : List Entry) (names : List RowName) (rising : IsStrictlySortedBy name_cmp names) (count : ℕ) (name : RowName) (within : count < length names) (next : name ≡ get_or names count name)
    (moves more : List OwnerMove) (so_far : AreHeldMoves old new (take count names) moves) (adds : AddsMoves old new name moves more) where
  longer : take (count + 1) names ≡ take count names ++ name ∷ []
  longer = take_more names count name within ∙ ap (λ n. take count names ++ n ∷ []) (sym next)

  apart : take count names ++ name ∷ drop (suc count) names ≡ names
  apart = ap (λ n. take count names ++ n ∷ drop (suc count) names) next ∙ (ap (λ tail. take count names ++ tail) (sym (drop-cons names count name within)) ∙ take-append-drop count names)

  rows_below : (z : RowName) → Contains (take count names) z → name_cmp z name ≡ Less
  rows_below z among = before_below (take count names) name (drop (suc count) names) (subst (IsStrictlySortedBy name_cmp) (sym apart) rising) z among

  to_rows : (move : OwnerMove) → Contains more move → Contains (take (count + 1) names) move.name × IsHeldMove old new move
  to_rows move among =
      elim (Contains-append_cases moves adds.own move (subst (λ list. Contains list move) adds.added among)) [
        | inl before ↦
            let both = (so_far.told move).0 before in
            (subst (λ list. Contains list move.name) (sym longer) (Contains-append_left (take count names) (name ∷ []) move.name both.0), both.1)
        | inr own ↦
            let both = (adds.told move).0 own in
            (subst (λ list. Contains list move.name) (sym longer) (Contains-append_right (take count names) (name ∷ []) move.name (subst (Contains (name ∷ [])) (sym both.0) (contains_here name []))), both.1)
      ]

  of_rows : (move : OwnerMove) → Contains (take (count + 1) names) move.name × IsHeldMove old new move → Contains more move
  of_rows move both =
      subst (λ list. Contains list move) (sym adds.added)
      (elim (Contains-append_cases (take count names) (name ∷ []) move.name (subst (λ list. Contains list move.name) longer both.0)) [
        | inl before ↦ Contains-append_left moves adds.own move ((so_far.told move).1 (before, both.1))
        | inr last ↦ elim (contains_cases name [] move.name last) [
          | inl same ↦ Contains-append_right moves adds.own move ((adds.told move).1 (sym same, both.1))
          | inr none ↦ absurd (contains_none move.name none)
        ]
      ])

  -- with those of the next row they are those of one row more
  pub moves-more : AreHeldMoves old new (take (count + 1) names) more
  moves-more =
      record {
        told = λ move. (to_rows move, of_rows move);
        rise = subst (IsStrictlySortedBy move_cmp) (sym adds.added) (rising_append move_cmp moves adds.own so_far.rise adds.rise
            (λ one other here there.
            let first = rows_below one.name ((so_far.told one).0 here).0 in
            let own = ((adds.told other).0 there).0 in
            let less : name_cmp one.name other.name ≡ Less = subst (λ n. name_cmp one.name n ≡ Less) (sym own) first in
            ap (λ o. ordering_then o (name_cmp one.subject.0 other.subject.0)) less));
      }
