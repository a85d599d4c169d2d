-- Rules that come several times, and rules in brackets.
use Rattle.std.proofs.Common.{◌+◌, ℕ, List, [], ◌∷◌, refl, subst, codes}
use Rattle.std.specs.List.{flat_map}
use Rattle.sql_lex.specs.Tokens.{marks}
use Rattle.grammar_model.specs.Language.{Language, ◌>>=◌, ◌>>◌, many_from, many, mark}
use Rattle.grammar_model.specs.Language as language
use Rattle.grammar_model.specs.Terminal.{Terminals}
use Rattle.text_model.specs.Words.{Words, separated, listed, bracketed}
use Rattle.sql_print.proofs.Spelling.{Writes, AreSound, writes-both, writes-nothing}
use Rattle.sql_print.proofs.Rewriting.{Rewrites, whole, then_next, then_made, then_rule}
use Rattle.sql_print.proofs.WrittenTokens.{sign}

module _ {A : Type 0} (from to : ℕ → Language A) (words : A → Words) (each : (count : ℕ) → Rewrites (from count) (to count) words) where
  -- the words of each value, one after another
  many-writes : (values : List A) (count : ℕ) (terminals rest : Terminals) → AreSound terminals → many_from from count values terminals rest → Writes (flat_map words values) (many_from to count values)
  many-writes [] count terminals rest sound text = writes-nothing (many_from to count []) (λ out. refl)
  many-writes (value ∷ values) count terminals rest sound (middle, one, more) =
      writes-both (words value) (flat_map words values) (to count value) (many_from to (count + 1) values)
      ((each count).writes value terminals middle sound one)
      (many-writes values (count + 1) middle rest ((each count).sound value terminals middle sound one) more)

  -- after all of them the terminals are still those of a text
  many-sound : (values : List A) (count : ℕ) (terminals rest : Terminals) → AreSound terminals → many_from from count values terminals rest → AreSound rest
  many-sound [] count terminals rest sound text = subst AreSound text sound
  many-sound (value ∷ values) count terminals rest sound (middle, one, more) = many-sound values (count + 1) middle rest ((each count).sound value terminals middle sound one) more

  -- a rule several times, which may depend on how many came before
  pub as_often_from : (count : ℕ) → Rewrites (many_from from count) (many_from to count) (flat_map words)
  as_often_from count =
      record {
        writes = λ values terminals rest sound text. many-writes values count terminals rest sound text;
        sound = λ values terminals rest sound text. many-sound values count terminals rest sound text;
      }

-- a rule several times
pub as_often : {A : Type 0} {from to : Language A} {words : A → Words} → Rewrites from to words → Rewrites (many from) (many to) (flat_map words)
as_often {from = from} {to = to} {words = words} one = as_often_from (λ _. from) (λ _. to) words (λ _. one) 0

-- x {separator x}
pub in_list : {A : Type 0} {from to : Language A} {words : A → Words} {divides : Language (Unit {0})} {separator : List ℕ} → Rewrites divides divides (λ _. separator ∷ []) → Rewrites from to words → Rewrites (language.separated divides from) (language.separated divides to) (separated separator words)
in_list between one = whole (then_next one (λ first. then_made (as_often (then_rule between one)) (λ others. refl)))

-- x {, x}
pub with_commas : {A : Type 0} {from to : Language A} {words : A → Words} → Rewrites from to words → Rewrites (language.listed from) (language.listed to) (listed words)
unfolding marks
with_commas one = in_list (sign (codes ",") refl) one

-- ( x )
pub in_brackets : {A : Type 0} {from to : Language A} {words : A → Words} → Rewrites from to words → Rewrites (language.bracketed from) (language.bracketed to) (λ found. bracketed (words found))
unfolding marks
in_brackets one = whole (then_next (sign (codes "(") refl) (λ _. then_next one (λ found. then_made (sign (codes ")") refl) (λ _. refl))))
