-- Ranges of places.
use Rattle.std.proofs.Common.{◌≡◌, ℕ, ◌+◌, ◌<◌, List, [], ◌∷◌, ◌++◌, inl, inr, ap, ◌∙◌, sym, arith}
use Rattle.std.specs.Prelude.{Contains, Option, Some, None, flat_map}
use Rattle.std.specs.List.{range_with_len}
use Rattle.std.specs.Option.{option_to_list}
use Rattle.std.proofs.lemmas.List.FromFn.{get_or-range_with_len, length-range_with_len, map-range_with_len_more}
use Rattle.std.proofs.lemmas.List.{flat_map_more, map-id}
use Rattle.subject_model.proofs.Members.{contains_cases, contains_here, contains_none}

-- one place more
pub range_more : (n : ℕ) → range_with_len 0 (n + 1) ≡ range_with_len 0 n ++ n ∷ []
range_more n =
    sym (map-id (range_with_len 0 (n + 1))) ∙ (map-range_with_len_more (λ place. place) 0 n n (omega arith) ∙ ap (λ range. range ++ n ∷ []) (map-id (range_with_len 0 n)))

-- a range has each place below its end
pub contains_range : (n place : ℕ) → place < n → Contains (range_with_len 0 n) place
contains_range n place below = (place, omega (arith, length-range_with_len 0 n), get_or-range_with_len 0 n place place below ∙ omega arith)

module _ {X Y : Type 0} (f : X → List Y) where
  -- what lists joined have for one element more
  pub flat_map_push : (xs : List X) (x : X) → flat_map f (xs ++ x ∷ []) ≡ flat_map f xs ++ f x
  flat_map_push xs x = sym (flat_map_more f [] xs x)

-- what a range gives with one place more
pub flat_map_range_more : {Y : Type 0} (f : ℕ → List Y) (n : ℕ) → flat_map f (range_with_len 0 (n + 1)) ≡ flat_map f (range_with_len 0 n) ++ f n
flat_map_range_more f n = ap (flat_map f) (range_more n) ∙ flat_map_push f (range_with_len 0 n) n

module _ {X : Type 0} where
  -- the one element of a list from an option
  pub contains_of_option : (o : Option X) (x : X) → Contains (option_to_list o) x → o ≡ Some x
  contains_of_option None x among = absurd (contains_none x among)
  contains_of_option (Some y) x among = elim (contains_cases y [] x among) [ inl same ↦ ap Some same | inr later ↦ absurd (contains_none x later) ]

  pub contains_option : (o : Option X) (x : X) → o ≡ Some x → Contains (option_to_list o) x
  contains_option o x is = rw is (contains_here x [])
