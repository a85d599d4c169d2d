-- Tables that stand in a list, as it grows.
use Rattle.std.proofs.Common.{◌≡◌, ℕ, zero, suc, ◌<◌, List, [], ◌∷◌, ◌++◌, true, false, refl, sym, ap, ◌∙◌, inl, inr, arith, eq-eqb, get_or, length}
use Rattle.std.specs.Prelude.{◌⊎◌, ◌==◌, ◌||◌, Option, Some, None, slice_get}
use Rattle.std.proofs.lemmas.Bool.{eqb-true, or_cases, or_left, or_right}
use Rattle.std.proofs.lemmas.List.{append-nil, append_assoc}
use Rattle.std.proofs.lemmas.List.Folds.{list_any-append}
use Rattle.std.proofs.Math.Bool.{or-false}
use Rattle.own_base.specs.declared.number.TableNo.{TableNo}
use Rattle.owner_model.specs.GraphOrder.{StandsBefore}
use Rattle.owner_model.specs.Placed.{EachAtOnePlace, IsPlaced}
use Rattle.owner_graph.specs.TopologicalSort.{GoesOn, is_among}

module _ {X : Type 0} where
  -- what stands at a place stays there
  pub get-append : (xs ys : List X) (place : ℕ) (x : X) → slice_get xs place ≡ Some x → slice_get (xs ++ ys) place ≡ Some x
  get-append [] ys place x at = let never : ◌≡◌ {A = Option X} None (Some x) = at in cc
  get-append (y ∷ xs) ys zero x at = at
  get-append (y ∷ xs) ys (suc place) x at = get-append xs ys place x at

  -- only within the list something does
  pub get-within : (xs : List X) (place : ℕ) (x : X) → slice_get xs place ≡ Some x → place < length xs
  get-within [] place x at = let never : ◌≡◌ {A = Option X} None (Some x) = at in cc
  get-within (y ∷ xs) zero x at = omega arith
  get-within (y ∷ xs) (suc place) x at = omega (arith, get-within xs place x at)

  -- and before its end what stood there
  pub get-front : (xs ys : List X) (place : ℕ) (x : X) → place < length xs → slice_get (xs ++ ys) place ≡ Some x → slice_get xs place ≡ Some x
  get-front [] ys place x within at = absurd (omega arith)
  get-front (y ∷ xs) ys zero x within at = at
  get-front (y ∷ xs) ys (suc place) x within at = get-front xs ys place x (omega arith) at

  -- what was put last stands last
  pub get-last : (xs : List X) (x : X) → slice_get (xs ++ x ∷ []) (length xs) ≡ Some x
  get-last [] x = refl
  get-last (y ∷ xs) x = get-last xs x

  -- there is nothing else
  pub get-push_cases : (xs : List X) (y : X) (place : ℕ) (x : X) → slice_get (xs ++ y ∷ []) place ≡ Some x → (slice_get xs place ≡ Some x) ⊎ ((place ≡ length xs) × (y ≡ x))
  get-push_cases [] y zero x at = let same : y ≡ x = cc in inr (refl, same)
  get-push_cases [] y (suc place) x at = let never : ◌≡◌ {A = Option X} None (Some x) = at in cc
  get-push_cases (z ∷ xs) y zero x at = inl at
  get-push_cases (z ∷ xs) y (suc place) x at =
      elim (get-push_cases xs y place x at) [ inl before ↦ inl before | inr last ↦ inr (omega (arith, last.0), last.1) ]

  -- what is read at a place stands there
  pub get_from_read : (xs : List X) (place : ℕ) (x : X) → place < length xs → get_or xs place x ≡ x → slice_get xs place ≡ Some x
  get_from_read [] place x inside is = absurd (omega arith)
  get_from_read (y ∷ xs) zero x inside is = ap Some is
  get_from_read (y ∷ xs) (suc place) x inside is = get_from_read xs place x (omega arith) is

  -- and what stands there is read
  pub read_from_get : (xs : List X) (place : ℕ) (x d : X) → slice_get xs place ≡ Some x → get_or xs place d ≡ x
  read_from_get [] place x d at = let never : ◌≡◌ {A = Option X} None (Some x) = at in cc
  read_from_get (y ∷ xs) zero x d at = cc
  read_from_get (y ∷ xs) (suc place) x d at = read_from_get xs place x d at

-- a table that is placed stays placed
pub IsPlaced-append : (order more : List TableNo) (table : TableNo) → IsPlaced order table → IsPlaced (order ++ more) table
IsPlaced-append order more table placed = record { place = placed.place; at_place = get-append order more placed.place table placed.at_place }

-- the last one is placed
pub IsPlaced-last : (order : List TableNo) (table : TableNo) → IsPlaced (order ++ table ∷ []) table
IsPlaced-last order table = record { place = length order; at_place = get-last order table }

-- there is no other
pub IsPlaced-push_cases : (order : List TableNo) (last table : TableNo) → IsPlaced (order ++ last ∷ []) table → IsPlaced order table ⊎ (last ≡ table)
IsPlaced-push_cases order last table placed =
    elim (get-push_cases order last placed.place table placed.at_place) [ inl before ↦ inl (record { place = placed.place; at_place = before }) | inr here ↦ inr here.1 ]

-- a table that wasn't placed comes to one place
pub EachAtOnePlace-push : (order : List TableNo) (last : TableNo) → EachAtOnePlace order → (IsPlaced order last → ⊥) → EachAtOnePlace (order ++ last ∷ [])
EachAtOnePlace-push order last once new =
    record {
      same_place = λ table one two at_one at_two.
          elim (get-push_cases order last one table at_one) [
            | inl before ↦ elim (get-push_cases order last two table at_two) [
              | inl too ↦ once.same_place table one two before too
              | inr here ↦ absurd (new (record { place = one; at_place = before ∙ ap Some (sym here.1) }))
            ]
            | inr here ↦ elim (get-push_cases order last two table at_two) [
              | inl before ↦ absurd (new (record { place = two; at_place = before ∙ ap Some (sym here.1) }))
              | inr too ↦ here.0 ∙ sym too.0
            ]
          ];
    }

-- none is placed twice where none is placed
pub EachAtOnePlace-nil : EachAtOnePlace []
EachAtOnePlace-nil = record { same_place = λ table one two at_one at_two. let never : ◌≡◌ {A = Option TableNo} None (Some table) = at_one in cc }

-- what stands before another stays before it
pub StandsBefore-append : (order more : List TableNo) (first second : TableNo) → StandsBefore order first second → StandsBefore (order ++ more) first second
StandsBefore-append order more first second before =
    record {
      place = before.place;
      behind = before.behind;
      earlier = before.earlier;
      at_place = get-append order more before.place first before.at_place;
      at_behind = get-append order more before.behind second before.at_behind;
    }

-- the test finds the placed tables
pub is_among-placed : (order : List TableNo) (table : TableNo) → IsPlaced order table → is_among order table.0 ≡ true
is_among-placed order table placed = found order placed.place placed.at_place
  where
    found : (tables : List TableNo) (place : ℕ) → slice_get tables place ≡ Some table → is_among tables table.0 ≡ true
    found [] place at = let never : ◌≡◌ {A = Option TableNo} None (Some table) = at in cc
    found (first ∷ rest) zero at = let same : first ≡ table = cc in or_left _ _ (eq-eqb first.0 table.0 (ap (λ t. t.0) same))
    found (first ∷ rest) (suc place) at = or_right _ _ (found rest place at)

-- and no others
pub placed_from_is_among : (order : List TableNo) (table : TableNo) → is_among order table.0 ≡ true → IsPlaced order table
placed_from_is_among [] table is = let never : false ≡ true = is in cc
placed_from_is_among (first ∷ rest) table is =
    elim (or_cases (first.0 == table.0) (is_among rest table.0) is) [
      | inl here ↦ record { place = 0; at_place = ap (λ n. Some (record { 0 = n })) (eqb-true first.0 table.0 here) }
      | inr later ↦ let placed = placed_from_is_among rest table later in record { place = suc placed.place; at_place = placed.at_place }
    ]

-- a test of a list with one more
pub is_among-push : (tables : List TableNo) (table : TableNo) (number : ℕ) → is_among (tables ++ table ∷ []) number ≡ (is_among tables number || (table.0 == number))
is_among-push tables table number = list_any-append (λ t. t.0 == number) tables (table ∷ []) ∙ ap (λ b. is_among tables number || b) (or-false (table.0 == number))

-- a list goes on from itself
pub GoesOn-refl : (order : List TableNo) → GoesOn order order
GoesOn-refl order = record { more = []; is = sym (append-nil order) }

-- and on
pub GoesOn-trans : (one two three : List TableNo) → GoesOn one two → GoesOn two three → GoesOn one three
GoesOn-trans one two three first second =
    record { more = first.more ++ second.more; is = second.is ∙ ap (λ l. l ++ second.more) first.is ∙ append_assoc one first.more second.more }
