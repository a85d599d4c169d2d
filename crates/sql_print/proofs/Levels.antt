-- What is a condition within some levels is one within more.
use Rattle.std.proofs.Common.{◌+◌, ℕ, zero, suc, List, [], ◌∷◌, inl, inr, codes, refl}
use Rattle.own_model.specs.declared.condition.Cond.{Cond}
use Rattle.own_model.specs.declared.condition.Cond.TheVariants as Cond
use Rattle.grammar_model.specs.Grammar as grammar
use Rattle.grammar_model.specs.Language.{Language, ◌>>=◌, ◌>>◌, many_from, word, pure, separated}
use Rattle.grammar_model.specs.Limits.{Limits}
use Rattle.grammar_model.specs.Parts.{list_of}
use Rattle.grammar_model.specs.Terminal.{Terminals}

-- what the one rule gives the other does too
abbrev pub Follows : {A : Type 0} → Language A → Language A → Type 0
Follows {A = A} one other = (value : A) (out rest : Terminals) → one value out rest → other value out rest

-- any number of parts after separators
many-follows : {A : Type 0} (divides : Language (Unit {0})) (one other : Language A) → Follows one other → (values : List A) (count : ℕ) (out rest : Terminals) → many_from (λ _. divides >> one) count values out rest → many_from (λ _. divides >> other) count values out rest
many-follows divides one other follows [] count out rest text = text
many-follows divides one other follows (value ∷ values) count out rest (middle, (between, after, stands, text), more) =
    (middle, (between, after, stands, follows value after middle text), many-follows divides one other follows values (count + 1) middle rest more)

-- parts with separators between
separated-follows : {A : Type 0} (divides : Language (Unit {0})) (one other : Language A) → Follows one other → Follows (separated divides one) (separated divides other)
separated-follows divides one other follows values out rest (first, after, text, (others, behind, more, ends)) =
    (first, after, follows first out after text, (others, behind, many-follows divides one other follows others 0 after behind more, ends))

-- members of an AND list
conj-follows : (one other : Language Cond) → Follows one other → Follows (grammar.conj one) (grammar.conj other)
unfolding grammar.conj
conj-follows one other follows value out rest (parts, after, text, ends) = (parts, after, separated-follows (word (codes "AND")) one other follows parts out after text, ends)

-- members of an OR list
cond-follows : (one other : Language Cond) → Follows one other → Follows (grammar.cond one) (grammar.cond other)
unfolding grammar.cond
cond-follows one other follows value out rest (parts, after, text, ends) = (parts, after, separated-follows (word (codes "OR")) (grammar.conj one) (grammar.conj other) (conj-follows one other follows) parts out after text, ends)

-- one part is a list of one
one-in-list : (several : List Cond → Cond) (divides : Language (Unit {0})) (part : Language Cond) → Follows part (separated divides part >>= λ parts. pure (list_of several parts))
one-in-list several divides part value out rest text = (value ∷ [], rest, (value, rest, text, ([], rest, refl, (refl, refl))), (refl, refl))

-- one member is an AND list
pub part-conj : (neg : Language Cond) → Follows neg (grammar.conj neg)
unfolding grammar.conj
part-conj neg = one-in-list Cond.Every (word (codes "AND")) neg

-- one AND list is a condition
pub conj-cond : (neg : Language Cond) → Follows (grammar.conj neg) (grammar.cond neg)
unfolding grammar.cond
conj-cond neg = one-in-list Cond.Some1 (word (codes "OR")) (grammar.conj neg)

module _ (limits : Limits) where
  -- one level more, for a member of an AND list
  pub neg-more : (levels : ℕ) → Follows (grammar.neg limits levels) (grammar.neg limits (suc levels))
  unfolding grammar.neg
  neg-more zero value out rest text = inr (inl text)
  neg-more (suc levels) value out rest (inl (inner, after, (negates, behind, stands, text), ends)) = inl (inner, after, (negates, behind, stands, neg-more levels inner behind after text), ends)
  neg-more (suc levels) value out rest (inr (inl text)) = inr (inl text)
  neg-more (suc levels) value out rest (inr (inr (opens, after, stands, (inner, behind, text, closes)))) =
      inr (inr (opens, after, stands, (inner, behind, cond-follows (grammar.neg limits levels) (grammar.neg limits (suc levels)) (neg-more levels) inner after behind text, closes)))

  -- one level more, for an AND list
  pub conj-more : (levels : ℕ) → Follows (grammar.conj (grammar.neg limits levels)) (grammar.conj (grammar.neg limits (suc levels)))
  conj-more levels = conj-follows (grammar.neg limits levels) (grammar.neg limits (suc levels)) (neg-more levels)

  -- one level more, for a condition
  pub cond-more : (levels : ℕ) → Follows (grammar.cond (grammar.neg limits levels)) (grammar.cond (grammar.neg limits (suc levels)))
  cond-more levels = cond-follows (grammar.neg limits levels) (grammar.neg limits (suc levels)) (neg-more levels)
