-- What the words after the store's name mean.
use Rattle.std.specs.Prelude.{ℕ, List, [], ◌∷◌, Option, None, Some, codes, if◌then◌else◌, option_and_then, option_map}
use Rattle.std.specs.Str.{bytes_eq}
use Rattle.store_words.specs.Numbers.{number_up_to}
use Rattle.made_model.specs.declared.limits.TheConstants.{PEOPLE, SEEDS}
use Rattle.store_words.specs.declared.words.Mode.{Mode}
use Rattle.store_words.specs.declared.words.Mode.TheVariants.{Make, Serve, Step}

-- the mode `make` of the two numbers that the words are, each within its range
abbrev pub make_of : List ℕ → List ℕ → Option Mode
make_of people_word seed_word =
    option_and_then (λ people. option_map (λ seed. Make people seed) (number_up_to SEEDS seed_word)) (number_up_to PEOPLE people_word)

-- the mode whose word and arguments the words are: `step`, `serve`, or `make` with a number of people and a seed
abbrev pub mode_of : List (List ℕ) → Option Mode
mode_of (word ∷ []) = if bytes_eq word (codes "step") then Some Step else (if bytes_eq word (codes "serve") then Some Serve else None)
mode_of (word ∷ people ∷ seed ∷ []) = if bytes_eq word (codes "make") then make_of people seed else None
mode_of _ = None
