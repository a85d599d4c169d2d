-- The bytes of lists in canonical texts, and of what may be there or not.
use Rattle.std.proofs.Common.{◌≤◌, ℕ, suc, ◌+◌, List, [], ◌∷◌, length, inl, inr, ap, ◌∙◌, arith}
use Rattle.std.specs.Prelude.{Option, codes, if◌then◌else◌}
use Rattle.std.specs.List.{flat_map}
use Rattle.std.proofs.lemmas.List.Concat.{flat_map-cons}
use Rattle.text_model.specs.Words.{Words, bracketed, others, separated, words_of}
use Rattle.grammar_model.specs.Language as languages
use Rattle.grammar_model.specs.Language.{Language, ◌>>=◌, ◌>>◌, pure, optional, many_from}
use Rattle.grammar_model.specs.Parts.{is_there}
use Rattle.grammar_model.specs.Terminal.{Terminals}
use Rattle.state_model.proofs.TokenBytes.{Covers, bytes-append, bytes-bracketed, bytes_in, bytes_of, keyword, mark}

-- a language whose value is written as these words
abbrev pub Spells : {A : Type 0} → (A → Words) → Language A → Type 0
Spells words language = Covers (λ found. bytes_of (words found)) language

module _ {A : Type 0} (words : A → Words) where
  -- one behind another
  pub many : (languages : ℕ → Language A) → ((before : ℕ) → Spells words (languages before)) → (found : List A) (before : ℕ) (terminals rest : Terminals) → many_from languages before found terminals rest
      → bytes_of (flat_map words found) + bytes_in rest ≤ bytes_in terminals
  many languages each [] before terminals rest by = rw by (omega arith)
  many languages each (first ∷ found) before terminals rest by =
      let own = each before first terminals by.0 by.1 in
      let later = many languages each found (before + 1) by.0 rest by.2 in
      let apart = ap bytes_of (flat_map-cons words first found) ∙ bytes-append (words first) (flat_map words found) in
      omega arith

  pub in_brackets : (language : Language A) → Spells words language → Spells (λ found. bracketed (words found)) (languages.bracketed language)
  in_brackets language spells found terminals rest (_, first, opens, (value, middle, by, (_, end, closes, last))) =
      let left = mark (codes "(") tt terminals first opens in
      let own = spells value first middle by in
      let right = mark (codes ")") tt middle end closes in
      let all = bytes-bracketed (words value) in
      rw (last.0, ← last.1) (omega arith)

  pub perhaps : (language : Language A) → Spells words language → Spells (words_of words) (optional language)
  perhaps language spells found terminals rest (inl (value, middle, by, last)) = rw (last.0, ← last.1) (spells value terminals middle by)
  perhaps language spells found terminals rest (inr none) = rw (none.0, ← none.1) (omega arith)

module _ {A : Type 0} (words : A → Words) (separator : List ℕ) (divides : Language (Unit {0})) (sign : Covers (λ _. suc (length separator)) divides) where
  -- behind a separator
  pub behind : (language : Language A) → Spells words language → Spells (λ found. separator ∷ words found) (divides >> language)
  behind language spells found terminals rest (_, middle, by, after) =
      let first = sign tt terminals middle by in
      let own = spells found middle rest after in
      omega arith

  -- x {separator x}
  pub divided : (language : Language A) → Spells words language → Spells (separated separator words) (languages.separated divides language)
  divided language spells found terminals rest (first, middle, by, (more, end, many_by, last)) =
      let own = spells first terminals middle by in
      let later = many (λ part. separator ∷ words part) (λ _. divides >> language) (λ _. behind language spells) more 0 middle end many_by in
      let apart = bytes-append (words first) (others separator words more) in
      rw (last.0, ← last.1) (omega arith)

-- a keyword that may be there
abbrev pub flagged : List ℕ → Option (Unit {0}) → Words
flagged wanted found = if is_there found then wanted ∷ [] else []

pub flag : (wanted : List ℕ) → Spells (flagged wanted) (optional (languages.word wanted))
flag wanted found terminals rest (inl (value, middle, by, last)) = let own = keyword wanted value terminals middle by in rw (last.0, ← last.1) (omega arith)
flag wanted found terminals rest (inr none) = rw (none.0, ← none.1) (omega arith)
