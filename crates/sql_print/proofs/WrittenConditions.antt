-- The rules of conditions: brackets stand where they are needed, and there a text has some too.
use Rattle.std.proofs.Common.{◌≡◌, ℕ, suc, [], ◌∷◌, ◌++◌, refl, sym, ap, ◌∙◌, subst, inl, inr, codes}
use Rattle.own_model.specs.declared.condition.Cond.{Cond}
use Rattle.sql_lex.specs.Keywords.{keywords}
use Rattle.sql_lex.specs.Tokens.{marks}
use Rattle.grammar_model.specs.Grammar as grammar
use Rattle.grammar_model.specs.Language.{Language, ◌>>=◌, ◌>>◌, ◌or◌, pure, optional, word, mark}
use Rattle.grammar_model.specs.Language as language
use Rattle.grammar_model.specs.Limits.{Limits}
use Rattle.grammar_model.specs.Parts.{is_there}
use Rattle.grammar_model.specs.Terminal.{Terminals}
use Rattle.text_model.specs.Condition.{written, cond_words, Shape, Single, AndList, OrList, in_and, in_or}
use Rattle.text_model.specs.Words.{Words, bracketed}
use Rattle.sql_print.proofs.ConditionWords.{compare-written, null-written}
use Rattle.sql_print.proofs.Levels.{part-conj, conj-cond, neg-more, conj-more, cond-more}
use Rattle.sql_print.proofs.Spelling.{Writes, writes-so, writes-then, writes-pure}
use Rattle.sql_print.proofs.Rewriting.{Rewrites, whole, either, then_next, then_made}
use Rattle.sql_print.proofs.WrittenTokens.{key, present, sign-writes}
use Rattle.sql_print.proofs.WrittenValues.{col, cmp, operand}

-- in brackets
brackets-write : {A : Type 0} (inner : Language A) (value : A) (words : Words) → Writes words (inner value) → Writes (bracketed words) (language.bracketed inner value)
unfolding marks
brackets-write inner value words writes =
    writes-then (mark (codes "(")) (λ _. inner >>= λ found. mark (codes ")") >>= λ _. pure found) tt value (codes "(" ∷ []) (words ++ codes ")" ∷ []) (sign-writes (codes "(") refl)
    (writes-then inner (λ found. mark (codes ")") >>= λ _. pure found) value value words (codes ")" ∷ []) writes
    (writes-then (mark (codes ")")) (λ _. pure value) tt value (codes ")" ∷ []) [] (sign-writes (codes ")") refl) (writes-pure value)))

module _ (limits : Limits) where
  -- col cmp (col | literal) | col IS [NOT] NULL
  pub comparison : Rewrites (grammar.comparison limits) (grammar.comparison limits) cond_words
  unfolding grammar.comparison keywords
  comparison =
      whole
      (either (then_next (col limits) (λ column. then_next cmp (λ compares. then_made (operand limits) (λ right. ap (λ w. w.words) (compare-written column compares right)))))
      (then_next (col limits) (λ column. then_next (key (codes "IS") (refl, refl)) (λ _. then_next (present (codes "NOT") (refl, refl)) (λ negated. then_made (key (codes "NULL") (refl, refl)) (λ _. ap (λ w. w.words) (null-written column (is_there negated))))))))

  -- a comparison stands alone
  pub comparison-single : (value : Cond) (terminals rest : Terminals) → grammar.comparison limits value terminals rest → written value ≡ record { words = cond_words value; shape = Single }
  unfolding grammar.comparison
  comparison-single value terminals rest (inl (column, a, left, (compares, b, stands, (right, c, text, (is, ends))))) =
      let shape : (written value).shape ≡ Single = ap (λ v. (written v).shape) is ∙ ap (λ w. w.shape) (compare-written column compares right) in
      ap (λ s. record { words = cond_words value; shape = s }) shape
  comparison-single value terminals rest (inr (column, a, left, (_, b, stands, (negated, c, text, (_, d, null, (is, ends)))))) =
      let shape : (written value).shape ≡ Single = ap (λ v. (written v).shape) is ∙ ap (λ w. w.shape) (null-written column (is_there negated)) in
      ap (λ s. record { words = cond_words value; shape = s }) shape

  -- what the words of a condition are, by what it is
  abbrev pub IsAs : ℕ → Cond → Words → Shape → Type 0
  IsAs levels value words Single = Writes words (grammar.neg limits levels value)
  IsAs levels value words AndList = Writes words (grammar.conj (grammar.neg limits levels) value)
  IsAs levels value words OrList = Writes words (grammar.cond (grammar.neg limits levels) value)

  -- the words without brackets are of the narrowest rule that there is
  abbrev pub Tight : ℕ → Cond → Type 0
  Tight levels value = IsAs levels value (written value).words (written value).shape

  -- within one level more
  tight-more : (levels : ℕ) (value : Cond) (words : Words) (shape : Shape) → IsAs levels value words shape → IsAs (suc levels) value words shape
  tight-more levels value words Single writes = writes-so words (grammar.neg limits levels value) (grammar.neg limits (suc levels) value) (neg-more limits levels value) writes
  tight-more levels value words AndList writes = writes-so words (grammar.conj (grammar.neg limits levels) value) (grammar.conj (grammar.neg limits (suc levels)) value) (conj-more limits levels value) writes
  tight-more levels value words OrList writes = writes-so words (grammar.cond (grammar.neg limits levels) value) (grammar.cond (grammar.neg limits (suc levels)) value) (cond-more limits levels value) writes

  -- a whole condition has no brackets
  pub alone : (levels : ℕ) (value : Cond) (words : Words) (shape : Shape) → IsAs levels value words shape → Writes words (grammar.cond (grammar.neg limits levels) value)
  alone levels value words Single writes =
      let neg = grammar.neg limits levels in
      writes-so words (neg value) (grammar.cond neg value) (λ out rest text. conj-cond neg value out rest (part-conj neg value out rest text)) writes
  alone levels value words AndList writes = let neg = grammar.neg limits levels in writes-so words (grammar.conj neg value) (grammar.cond neg value) (conj-cond neg value) writes
  alone levels value words OrList writes = writes

  -- a member of an AND list
  pub record IsNeg (levels : ℕ) (value : Cond) : Type 0 where
    pub tight : Tight levels value
    pub within : Writes (in_and (written value)) (grammar.neg limits levels value)

  -- a member of an OR list
  pub record IsConj (levels : ℕ) (value : Cond) : Type 0 where
    pub tight : Tight levels value
    pub within : Writes (in_or (written value)) (grammar.conj (grammar.neg limits levels) value)

  -- what needs no brackets
  pub single-neg : (levels : ℕ) (value : Cond) (words : Words) → written value ≡ record { words = words; shape = Single } → Writes words (grammar.neg limits levels value) → IsNeg levels value
  single-neg levels value words is writes =
      record {
        tight = subst (λ w. IsAs levels value w.words w.shape) (sym is) writes;
        within = subst (λ w. Writes (in_and w) (grammar.neg limits levels value)) (sym is) writes;
      }

  -- a member of an AND list is one of an OR list
  pub neg-conj : (levels : ℕ) (value : Cond) → IsNeg levels value → IsConj levels value
  neg-conj levels value is = record { tight = is.tight; within = by (written value).words (written value).shape is.tight is.within }
    where
      by : (words : Words) (shape : Shape) → IsAs levels value words shape → Writes (in_and (record { words = words; shape = shape })) (grammar.neg limits levels value) → Writes (in_or (record { words = words; shape = shape })) (grammar.conj (grammar.neg limits levels) value)
      by words Single tight within = writes-so words (grammar.neg limits levels value) (grammar.conj (grammar.neg limits levels) value) (part-conj (grammar.neg limits levels) value) within
      by words AndList tight within = tight
      by words OrList tight within = writes-so (bracketed words) (grammar.neg limits levels value) (grammar.conj (grammar.neg limits levels) value) (part-conj (grammar.neg limits levels) value) within

  -- a condition in brackets
  pub bracketed-neg : (levels : ℕ) (value : Cond) → Tight levels value → IsNeg (suc levels) value
  unfolding grammar.neg
  bracketed-neg levels value tight =
      record {
        tight = tight-more levels value (written value).words (written value).shape tight;
        within = by (written value).words (written value).shape tight;
      }
    where
      bracketed-writes : (words : Words) → Writes words (grammar.cond (grammar.neg limits levels) value) → Writes (bracketed words) (grammar.neg limits (suc levels) value)
      bracketed-writes words writes =
          let inner = grammar.cond (grammar.neg limits levels) in
          writes-so (bracketed words) (language.bracketed inner value) (grammar.neg limits (suc levels) value) (λ out rest text. inr (inr text)) (brackets-write inner value words writes)

      by : (words : Words) (shape : Shape) → IsAs levels value words shape → Writes (in_and (record { words = words; shape = shape })) (grammar.neg limits (suc levels) value)
      by words Single tight = tight-more levels value words Single tight
      by words AndList tight = bracketed-writes words (alone levels value words AndList tight)
      by words OrList tight = bracketed-writes words (alone levels value words OrList tight)
