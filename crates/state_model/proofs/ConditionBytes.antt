-- The bytes of a condition in a canonical text: brackets stand there only where a text has some too.
use Rattle.std.proofs.Common.{◌≡◌, ◌≤◌, ℕ, zero, suc, List, [], ◌∷◌, ◌++◌, length, inl, inr, refl, sym, ap, ◌∙◌, arith}
use Rattle.std.specs.Prelude.{Bool, map, codes}
use Rattle.std.proofs.lemmas.List.Folds.{flat_map-map}
use Rattle.own_model.specs.declared.condition.Cmp.{Cmp}
use Rattle.own_model.specs.declared.condition.Cond.{Cond}
use Rattle.own_model.specs.declared.condition.Cond.TheVariants as Cond
use Rattle.own_model.specs.declared.condition.Cond.TheOpen.{Cond-F}
use Rattle.own_model.specs.declared.condition.Cond.TheFolds.{fold-roll-Cond}
use Rattle.own_model.specs.declared.condition.Operand.{Operand}
use Rattle.own_model.specs.declared.select.ColRef.{ColRef}
use Rattle.text_model.specs.Canonical.{where_words}
use Rattle.text_model.specs.Condition.{AndList, OrList, Shape, Single, Written, cmp_word, cond_words, in_and, in_or, operand_words, written, written_step}
use Rattle.text_model.specs.Words.{Words, bracketed, column_words, separated}
use Rattle.grammar_model.specs.Grammar as rules
use Rattle.grammar_model.specs.Language as languages
use Rattle.grammar_model.specs.Language.{Language, ◌>>=◌, ◌>>◌, pure}
use Rattle.grammar_model.specs.Limits.{Limits}
use Rattle.grammar_model.specs.Parts.{is_there, list_of}
use Rattle.state_model.proofs.ListBytes.{Spells, behind, divided, flag, flagged, in_brackets, perhaps}
use Rattle.state_model.proofs.TokenBytes.{Covers, bytes-append, bytes-bracketed, bytes_of, col, keyword, literal, mark}

-- ---- a condition as it is written, by its variant

separated-map : {A B : Type 0} (separator : List ℕ) (words : B → Words) (by : A → B) (parts : List A) → separated separator words (map by parts) ≡ separated separator (λ part. words (by part)) parts
separated-map separator words by [] = refl
separated-map separator words by (first ∷ rest) = ap (λ l. words (by first) ++ l) (flat_map-map (λ part. separator ∷ words part) by rest)

every : (parts : List Cond) → written (Cond.Every parts) ≡ record { words = separated (codes "AND") (λ part. in_and (written part)) parts; shape = AndList }
unfolding written
every parts =
    ap written (sym (Cond.rolls-Every parts)) ∙ fold-roll-Cond Written written_step (Cond-F.Every parts)
    ∙ ap (λ w. record { words = w; shape = AndList }) (separated-map (codes "AND") in_and written parts)

some : (parts : List Cond) → written (Cond.Some1 parts) ≡ record { words = separated (codes "OR") (λ part. in_or (written part)) parts; shape = OrList }
unfolding written
some parts =
    ap written (sym (Cond.rolls-Some1 parts)) ∙ fold-roll-Cond Written written_step (Cond-F.Some1 parts)
    ∙ ap (λ w. record { words = w; shape = OrList }) (separated-map (codes "OR") in_or written parts)

negation : (part : Cond) → written (Cond.Not part) ≡ written_step (Cond-F.Not (written part))
unfolding written
negation part = ap written (sym (Cond.rolls-Not part)) ∙ fold-roll-Cond Written written_step (Cond-F.Not part)

compares : (left : ColRef) (sign : Cmp) (right : Operand) → written (Cond.Compare left sign right) ≡ written_step (Cond-F.Compare left sign right)
unfolding written
compares left sign right = ap written (sym (Cond.rolls-Compare left sign right)) ∙ fold-roll-Cond Written written_step (Cond-F.Compare left sign right)

tests : (column : ColRef) (negated : Bool) → written (Cond.IsNull column negated) ≡ written_step (Cond-F.IsNull column negated)
unfolding written
tests column negated = ap written (sym (Cond.rolls-IsNull column negated)) ∙ fold-roll-Cond Written written_step (Cond-F.IsNull column negated)

-- ---- brackets

abbrev made : Words → Shape → Written
made words shape = record { words = words; shape = shape }

-- in an OR list no more brackets stand than in an AND list, and by itself none
or_below_and : (words : Words) (shape : Shape) → bytes_of (in_or (made words shape)) ≤ bytes_of (in_and (made words shape))
or_below_and words Single = omega arith
or_below_and words AndList = let all = bytes-bracketed words in omega arith
or_below_and words OrList = omega arith

alone_below_or : (words : Words) (shape : Shape) → bytes_of words ≤ bytes_of (in_or (made words shape))
alone_below_or words Single = omega arith
alone_below_or words AndList = omega arith
alone_below_or words OrList = let all = bytes-bracketed words in omega arith

and_below_brackets : (words : Words) (shape : Shape) → bytes_of (in_and (made words shape)) ≤ bytes_of (bracketed words)
and_below_brackets words Single = let all = bytes-bracketed words in omega arith
and_below_brackets words AndList = omega arith
and_below_brackets words OrList = omega arith

-- ---- comparisons

cmp : Covers (λ found. suc (length (cmp_word found))) rules.cmp
unfolding rules.cmp cmp_word
cmp found terminals rest (inl (_, middle, by, last)) = let own = mark (codes "=") tt terminals middle by in rw (last.0, ← last.1) (omega arith)
cmp found terminals rest (inr (inl (_, middle, by, last))) = let own = mark (codes "<>") tt terminals middle by in rw (last.0, ← last.1) (omega arith)
cmp found terminals rest (inr (inr (inl (_, middle, by, last)))) = let own = mark (codes "!=") tt terminals middle by in rw (last.0, ← last.1) (omega arith)
cmp found terminals rest (inr (inr (inr (inl (_, middle, by, last))))) = let own = mark (codes "<") tt terminals middle by in rw (last.0, ← last.1) (omega arith)
cmp found terminals rest (inr (inr (inr (inr (inl (_, middle, by, last)))))) = let own = mark (codes "<=") tt terminals middle by in rw (last.0, ← last.1) (omega arith)
cmp found terminals rest (inr (inr (inr (inr (inr (inl (_, middle, by, last))))))) = let own = mark (codes ">") tt terminals middle by in rw (last.0, ← last.1) (omega arith)
cmp found terminals rest (inr (inr (inr (inr (inr (inr (_, middle, by, last))))))) = let own = mark (codes ">=") tt terminals middle by in rw (last.0, ← last.1) (omega arith)

operand : (limits : Limits) → Spells operand_words (rules.operand limits)
unfolding rules.operand operand_words
operand limits found terminals rest (inl (column, middle, by, last)) = rw (last.0, ← last.1) (col limits column terminals middle by)
operand limits found terminals rest (inr (value, middle, by, last)) = let own = literal limits value terminals middle by in rw (last.0, ← last.1) (omega arith)

comparison : (limits : Limits) → Spells (λ found. in_and (written found)) (rules.comparison limits)
unfolding rules.comparison
comparison limits found terminals rest (inl (column, a, left, (sign, b, cmp_by, (right, c, operand_by, last)))) =
    let first = col limits column terminals a left in
    let second = cmp sign a b cmp_by in
    let third = operand limits right b c operand_by in
    let apart = bytes-append (column_words column) (cmp_word sign ∷ operand_words right) in
    rw (last.0, ← last.1, compares column sign right) (omega arith)
comparison limits found terminals rest (inr (column, a, left, (_, b, is, (negated, c, not, (_, d, null, last))))) =
    let first = col limits column terminals a left in
    let second = keyword (codes "IS") tt a b is in
    let third = flag (codes "NOT") negated b c not in
    let fourth = keyword (codes "NULL") tt c d null in
    let apart = bytes-append (column_words column) (codes "IS" ∷ (flagged (codes "NOT") negated ++ codes "NULL" ∷ [])) in
    let more = bytes-append (flagged (codes "NOT") negated) (codes "NULL" ∷ []) in
    rw (last.0, ← last.1, tests column (is_there negated)) (omega arith)

-- ---- lists, level by level

-- an AND list takes no more in an OR list than its members, and an OR list none more by itself
every_list : (parts : List Cond) → bytes_of (in_or (written (list_of Cond.Every parts))) ≤ bytes_of (separated (codes "AND") (λ part. in_and (written part)) parts)
every_list [] = rw (every []) (omega arith)
every_list (part ∷ []) =
    let less = or_below_and (written part).words (written part).shape in
    let same = bytes-append (in_and (written part)) [] in
    omega arith
every_list (first ∷ second ∷ others) = rw (every (first ∷ second ∷ others)) (omega arith)

some_list : (parts : List Cond) → bytes_of (cond_words (list_of Cond.Some1 parts)) ≤ bytes_of (separated (codes "OR") (λ part. in_or (written part)) parts)
some_list [] = let same = ap (λ (w : Written). bytes_of w.words) (some []) in omega arith
some_list (part ∷ []) =
    let less = alone_below_or (written part).words (written part).shape in
    let same = bytes-append (in_or (written part)) [] in
    omega arith
some_list (first ∷ second ∷ others) = let same = ap (λ (w : Written). bytes_of w.words) (some (first ∷ second ∷ others)) in omega arith

module _ (neg : Language Cond) (spells : Spells (λ found. in_and (written found)) neg) where
  conj : Spells (λ found. in_or (written found)) (rules.conj neg)
  unfolding rules.conj
  conj found terminals rest (parts, middle, by, last) =
      let all = divided (λ part. in_and (written part)) (codes "AND") (languages.word (codes "AND")) (keyword (codes "AND")) neg spells parts terminals middle by in
      let less = every_list parts in
      rw (last.0, ← last.1) (omega arith)

  cond : Spells cond_words (rules.cond neg)
  unfolding rules.cond
  cond found terminals rest (parts, middle, by, last) =
      let all = divided (λ part. in_or (written part)) (codes "OR") (languages.word (codes "OR")) (keyword (codes "OR")) (rules.conj neg) conj parts terminals middle by in
      let less = some_list parts in
      rw (last.0, ← last.1) (omega arith)

negs : (limits : Limits) (levels : ℕ) → Spells (λ found. in_and (written found)) (rules.neg limits levels)
unfolding rules.neg
negs limits zero found terminals rest by = comparison limits found terminals rest by
negs limits (suc levels) found terminals rest (inl (inner, end, (_, middle, not, by), last)) =
    let first = keyword (codes "NOT") tt terminals middle not in
    let own = negs limits levels inner middle end by in
    rw (last.0, ← last.1, negation inner) (omega arith)
negs limits (suc levels) found terminals rest (inr (inl by)) = comparison limits found terminals rest by
negs limits (suc levels) found terminals rest (inr (inr by)) =
    let own = in_brackets cond_words (rules.cond (rules.neg limits levels)) (cond (rules.neg limits levels) (negs limits levels)) found terminals rest by in
    let less = and_below_brackets (written found).words (written found).shape in
    omega arith

-- [WHERE cond]
pub condition : (limits : Limits) (levels : ℕ) → Spells where_words (rules.condition limits levels)
unfolding rules.condition
condition limits levels =
    perhaps (λ found. codes "WHERE" ∷ cond_words found) (languages.word (codes "WHERE") >> rules.cond (rules.neg limits levels))
    (behind cond_words (codes "WHERE") (languages.word (codes "WHERE")) (keyword (codes "WHERE")) (rules.cond (rules.neg limits levels)) (cond (rules.neg limits levels) (negs limits levels)))
