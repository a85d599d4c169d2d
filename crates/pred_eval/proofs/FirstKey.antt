-- The first key of a list's members.
use Rattle.std.proofs.Common.{◌≡◌, ℕ, ◌+◌, ◌<◌, List, [], ◌∷◌, ◌++◌, Option, Some, None, length, get_or, take, drop, refl, sym, ap, ◌∙◌}
use Rattle.std.specs.List.{filter_map}
use Rattle.std.proofs.lemmas.List.{drop_more, take-append-drop, take_more}
use Rattle.std.proofs.lemmas.List.Elements.{filter_map-append}
use Rattle.own_base.specs.declared.value.Key.{Key}
use Rattle.query_model.specs.Footprints.{first_key}

module _ {X : Type 0} (key : X → Option Key) (xs : List X) (i : ℕ) (x : X) (within : i < length xs) (is : x ≡ get_or xs i x) (before : filter_map key (take i xs) ≡ []) where
  -- a member without a key
  pub no_key_more : key x ≡ None → filter_map key (take (i + 1) xs) ≡ []
  no_key_more none =
      let here : key (get_or xs i x) ≡ None = ap key (sym is) ∙ none in
      rw (take_more xs i x within, filter_map-append key (take i xs) (get_or xs i x ∷ []), before, here) refl

  -- a member with one
  pub first_key_here : (found : Key) → key x ≡ Some found → first_key (filter_map key xs) ≡ Some found
  first_key_here found some =
      let here : key (get_or xs i x) ≡ Some found = ap key (sym is) ∙ some in
      let whole : filter_map key xs ≡ filter_map key (take i xs) ++ filter_map key (drop i xs) = ap (filter_map key) (sym (take-append-drop i xs)) ∙ filter_map-append key (take i xs) (drop i xs) in
      rw (whole, before, drop_more xs i x within, here) refl

-- no member with one
pub no_first_key : {X : Type 0} (key : X → Option Key) (xs : List X) → filter_map key xs ≡ [] → first_key (filter_map key xs) ≡ None
no_first_key key xs none = ap first_key none
