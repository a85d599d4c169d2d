-- What is made of one item more.
use Rattle.std.proofs.Common.{◌≡◌, refl, sym, ◌∙◌, ap, ℕ, ◌+◌, ◌<◌, List, [], ◌∷◌, ◌++◌, take, length, get_or, append_assoc, filter_map}
use Rattle.std.specs.Prelude.{Option, Some, None}
use Rattle.std.specs.List.{cons_option}
use Rattle.std.specs.Option.{option_to_list}
use Rattle.std.proofs.lemmas.List.{take_more}
use Rattle.std.proofs.lemmas.List.Elements.{filter_map-append}

-- what is made of one item more
pub made_more : {X Y : Type 0} (f : X → Option Y) (xs : List X) (index : ℕ) (x : X) (before : List Y) → index < length xs → x ≡ get_or xs index x
    → (before ++ filter_map f (take index xs)) ++ option_to_list (f x) ≡ before ++ filter_map f (take (index + 1) xs)
made_more f xs index x before within is =
    append_assoc before (filter_map f (take index xs)) (option_to_list (f x))
    ∙ ap (λ ys. before ++ ys)
    (ap (λ ys. filter_map f (take index xs) ++ ys) (sym (alone (f x)))
    ∙ (sym (filter_map-append f (take index xs) (x ∷ []))
    ∙ ap (filter_map f) (ap (λ y. take index xs ++ y ∷ []) is ∙ sym (take_more xs index x within))))
  where
    alone : {Y : Type 0} (o : Option Y) → cons_option o [] ≡ option_to_list o
    alone None = refl
    alone (Some y) = refl
