-- The rules of conditions, level by level.
use Rattle.std.proofs.Common.{◌≡◌, ℕ, zero, suc, List, [], ◌∷◌, refl, sym, subst, inl, inr, codes}
use Rattle.own_model.specs.declared.condition.Cond.{Cond}
use Rattle.own_model.specs.declared.condition.Cond.TheVariants as Cond
use Rattle.sql_lex.specs.Keywords.{keywords}
use Rattle.grammar_model.specs.Grammar as grammar
use Rattle.grammar_model.specs.Language.{Language, ◌>>=◌, ◌>>◌, pure, word, mark, many_from}
use Rattle.grammar_model.specs.Language as language
use Rattle.grammar_model.specs.Limits.{Limits}
use Rattle.grammar_model.specs.Parts.{list_of}
use Rattle.grammar_model.specs.Terminal.{Terminals}
use Rattle.text_model.specs.Canonical.{where_words}
use Rattle.text_model.specs.Condition.{written, cond_words, in_and, in_or}
use Rattle.text_model.specs.Words.{Words, bracketed, separated}
use Rattle.sql_print.proofs.ConditionWords.{every-written, some-written, not-written}
use Rattle.sql_print.proofs.Spelling.{Writes, AreSound, writes-so}
use Rattle.sql_print.proofs.Rewriting.{Rewrites, then_rule, perhaps}
use Rattle.sql_print.proofs.WrittenLists.{in_list, in_brackets}
use Rattle.sql_print.proofs.WrittenTokens.{key}
use Rattle.sql_print.proofs.WrittenConditions.{IsAs, Tight, IsNeg, IsConj, alone, single-neg, neg-conj, bracketed-neg, comparison, comparison-single}

-- what is true of a rule's values; after them the terminals are still those of a text
pub record Makes (rule : Language Cond) (Is : Cond → Type 0) : Type 0 where
  pub is : (value : Cond) (terminals rest : Terminals) → AreSound terminals → rule value terminals rest → Is value
  pub sound : (value : Cond) (terminals rest : Terminals) → AreSound terminals → rule value terminals rest → AreSound rest

-- a rule that makes parts, each written so, as a rule that is rewritten
rewrites-of : (rule : Language Cond) (Is : Cond → Type 0) (words : Cond → Words) → Makes rule Is → ((value : Cond) → Is value → Writes (words value) (rule value)) → Rewrites rule rule words
rewrites-of rule Is words makes so =
    record { writes = λ value terminals rest sound text. so value (makes.is value terminals rest sound text); sound = makes.sound }

-- the first part of a list
first-of : (divides : Language (Unit {0})) (rule : Language Cond) (Is : Cond → Type 0) → Makes rule Is → (first : Cond) (others : List Cond) (terminals rest : Terminals) → AreSound terminals → language.separated divides rule (first ∷ others) terminals rest → Is first
first-of divides rule Is makes first others terminals rest sound (part, middle, text, (more, behind, many, (same, ends))) =
    let equal : first ≡ part = cc in
    subst Is (sym equal) (makes.is part terminals middle sound text)

-- a list has a part
no-parts : (divides : Language (Unit {0})) (rule : Language Cond) (terminals rest : Terminals) → language.separated divides rule [] terminals rest → ⊥
no-parts divides rule terminals rest (part, middle, text, (more, behind, many, (same, ends))) = cc

module _ (limits : Limits) (levels : ℕ) (negs : Makes (grammar.neg limits levels) (IsNeg limits levels)) where
  -- a member of an AND list at this level
  abbrev neg : Language Cond
  neg = grammar.neg limits levels

  -- neg {AND neg}
  members : Rewrites (language.separated (word (codes "AND")) neg) (language.separated (word (codes "AND")) neg) (separated (codes "AND") (λ part. in_and (written part)))
  unfolding keywords
  members = in_list (key (codes "AND") (refl, refl)) (rewrites-of neg (IsNeg limits levels) (λ part. in_and (written part)) negs (λ value is. is.within))

  -- an AND list needs no brackets in an OR list
  every-conj : (parts : List Cond) → Writes (separated (codes "AND") (λ part. in_and (written part)) parts) (grammar.conj neg (Cond.Every parts)) → IsConj limits levels (Cond.Every parts)
  every-conj parts writes =
      record {
        tight = subst (λ w. IsAs limits levels (Cond.Every parts) w.words w.shape) (sym (every-written parts)) writes;
        within = subst (λ w. Writes (in_or w) (grammar.conj neg (Cond.Every parts))) (sym (every-written parts)) writes;
      }

  -- members of an AND list make a member of an OR list
  parts-conj : (parts : List Cond) (terminals rest : Terminals) → AreSound terminals → language.separated (word (codes "AND")) neg parts terminals rest → IsConj limits levels (list_of Cond.Every parts)
  unfolding grammar.conj
  parts-conj [] terminals rest sound text = absurd (no-parts (word (codes "AND")) neg terminals rest text)
  parts-conj (first ∷ []) terminals rest sound text = neg-conj limits levels first (first-of (word (codes "AND")) neg (IsNeg limits levels) negs first [] terminals rest sound text)
  parts-conj (first ∷ second ∷ others) terminals rest sound text =
      let parts = first ∷ second ∷ others in
      every-conj parts
      (writes-so (separated (codes "AND") (λ part. in_and (written part)) parts) (language.separated (word (codes "AND")) neg parts) (grammar.conj neg (Cond.Every parts))
      (λ out behind list. (parts, behind, list, (refl, refl))) (members.writes parts terminals rest sound text))

  -- the rule of AND lists makes members of OR lists
  conjs : Makes (grammar.conj neg) (IsConj limits levels)
  unfolding grammar.conj
  conjs =
      record {
        is = λ value terminals rest sound (parts, middle, text, (is, ends)). subst (IsConj limits levels) (sym is) (parts-conj parts terminals middle sound text);
        sound = λ value terminals rest sound (parts, middle, text, (is, ends)). subst AreSound ends (members.sound parts terminals middle sound text);
      }

  -- conj {OR conj}
  choices : Rewrites (language.separated (word (codes "OR")) (grammar.conj neg)) (language.separated (word (codes "OR")) (grammar.conj neg)) (separated (codes "OR") (λ part. in_or (written part)))
  unfolding keywords
  choices = in_list (key (codes "OR") (refl, refl)) (rewrites-of (grammar.conj neg) (IsConj limits levels) (λ part. in_or (written part)) conjs (λ value is. is.within))

  -- members of an OR list make a condition, in the narrowest rule that there is
  parts-tight : (parts : List Cond) (terminals rest : Terminals) → AreSound terminals → language.separated (word (codes "OR")) (grammar.conj neg) parts terminals rest → Tight limits levels (list_of Cond.Some1 parts)
  unfolding grammar.cond
  parts-tight [] terminals rest sound text = absurd (no-parts (word (codes "OR")) (grammar.conj neg) terminals rest text)
  parts-tight (first ∷ []) terminals rest sound text = (first-of (word (codes "OR")) (grammar.conj neg) (IsConj limits levels) conjs first [] terminals rest sound text).tight
  parts-tight (first ∷ second ∷ others) terminals rest sound text =
      let parts = first ∷ second ∷ others in
      subst (λ w. IsAs limits levels (Cond.Some1 parts) w.words w.shape) (sym (some-written parts))
      (writes-so (separated (codes "OR") (λ part. in_or (written part)) parts) (language.separated (word (codes "OR")) (grammar.conj neg) parts) (grammar.cond neg (Cond.Some1 parts))
      (λ out behind list. (parts, behind, list, (refl, refl))) (choices.writes parts terminals rest sound text))

  -- a condition
  pub conds : Makes (grammar.cond neg) (Tight limits levels)
  unfolding grammar.cond
  conds =
      record {
        is = λ value terminals rest sound (parts, middle, text, (is, ends)). subst (Tight limits levels) (sym is) (parts-tight parts terminals middle sound text);
        sound = λ value terminals rest sound (parts, middle, text, (is, ends)). subst AreSound ends (choices.sound parts terminals middle sound text);
      }

  -- NOT neg
  negated : Rewrites (word (codes "NOT") >> neg) (word (codes "NOT") >> neg) (λ inner. codes "NOT" ∷ in_and (written inner))
  unfolding keywords
  negated = then_rule (key (codes "NOT") (refl, refl)) (rewrites-of neg (IsNeg limits levels) (λ part. in_and (written part)) negs (λ value is. is.within))

  -- ( cond )
  enclosed : Rewrites (language.bracketed (grammar.cond neg)) (language.bracketed (grammar.cond neg)) (λ value. bracketed (cond_words value))
  enclosed = in_brackets (rewrites-of (grammar.cond neg) (Tight limits levels) cond_words conds (λ value tight. alone limits levels value (written value).words (written value).shape tight))

  -- one level more makes members of AND lists
  deeper-is : (value : Cond) (terminals rest : Terminals) → AreSound terminals → grammar.neg limits (suc levels) value terminals rest → IsNeg limits (suc levels) value
  unfolding grammar.neg
  deeper-is value terminals rest sound (inl (inner, middle, text, (is, ends))) =
      subst (IsNeg limits (suc levels)) (sym is)
      (single-neg limits (suc levels) (Cond.Not inner) (codes "NOT" ∷ in_and (written inner)) (not-written inner)
      (writes-so (codes "NOT" ∷ in_and (written inner)) ((word (codes "NOT") >> neg) inner) (grammar.neg limits (suc levels) (Cond.Not inner)) (λ out behind not. inl (inner, behind, not, (refl, refl))) (negated.writes inner terminals middle sound text)))
  deeper-is value terminals rest sound (inr (inl text)) =
      single-neg limits (suc levels) value (cond_words value) (comparison-single limits value terminals rest text)
      (writes-so (cond_words value) (grammar.comparison limits value) (grammar.neg limits (suc levels) value) (λ out behind compares. inr (inl compares)) ((comparison limits).writes value terminals rest sound text))
  deeper-is value terminals rest sound (inr (inr (opens, after, stands, (inner, middle, text, (closes, behind, stops, (is, ends)))))) =
      subst (IsNeg limits (suc levels)) (sym is) (bracketed-neg limits levels inner (conds.is inner after middle (opened stands) text))
    where
      opened : mark (codes "(") opens terminals after → AreSound after
      opened (terminal, same, is) = (subst AreSound same sound).1

  -- after a member at one level more the terminals are still those of a text
  deeper-sound : (value : Cond) (terminals rest : Terminals) → AreSound terminals → grammar.neg limits (suc levels) value terminals rest → AreSound rest
  unfolding grammar.neg
  deeper-sound value terminals rest sound (inl (inner, middle, text, (is, ends))) = subst AreSound ends (negated.sound inner terminals middle sound text)
  deeper-sound value terminals rest sound (inr (inl text)) = (comparison limits).sound value terminals rest sound text
  deeper-sound value terminals rest sound (inr (inr text)) = enclosed.sound value terminals rest sound text

  -- one level more
  pub deeper : Makes (grammar.neg limits (suc levels)) (IsNeg limits (suc levels))
  deeper = record { is = deeper-is; sound = deeper-sound }

-- the deepest level
deepest : (limits : Limits) → Makes (grammar.neg limits zero) (IsNeg limits zero)
unfolding grammar.neg
deepest limits =
    record {
      is = λ value terminals rest sound text. single-neg limits zero value (cond_words value) (comparison-single limits value terminals rest text) ((comparison limits).writes value terminals rest sound text);
      sound = (comparison limits).sound;
    }

-- every level makes members of AND lists
negs_of : (limits : Limits) (levels : ℕ) → Makes (grammar.neg limits levels) (IsNeg limits levels)
negs_of limits zero = deepest limits
negs_of limits (suc levels) = deeper limits levels (negs_of limits levels)

-- [WHERE cond]
pub condition : (limits : Limits) (levels : ℕ) → Rewrites (grammar.condition limits levels) (grammar.condition limits levels) where_words
unfolding grammar.condition keywords
condition limits levels =
    perhaps (then_rule (key (codes "WHERE") (refl, refl))
    (rewrites-of (grammar.cond (grammar.neg limits levels)) (Tight limits levels) cond_words (conds limits levels (negs_of limits levels)) (λ value tight. alone limits levels value (written value).words (written value).shape tight)))
