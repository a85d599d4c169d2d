-- The words that the program is called with.
use Rattle.std.specs.Prelude.{ℕ, List, [], ◌∷◌, Bool, false, Option, None, codes, is_some}
use Rattle.std.specs.Str.{bytes_eq}
use Rattle.store_words.specs.declared.words.Mode.{Mode}
use Rattle.store_words.specs.Words.{mode_of}

-- the mode that stands behind the program's name and a store
abbrev pub served_mode : List (List ℕ) → Option Mode
served_mode [] = None
served_mode (name ∷ []) = None
served_mode (name ∷ store ∷ words) = mode_of words

-- the program's name, a store, and a mode with its arguments
abbrev pub is_served : List (List ℕ) → Bool
is_served words = is_some (served_mode words)

-- the store is `-`, the empty one in memory; any other is a folder
abbrev pub is_in_memory : List (List ℕ) → Bool
is_in_memory [] = false
is_in_memory (name ∷ []) = false
is_in_memory (name ∷ store ∷ words) = bytes_eq store (codes "-")
