-- The rule of NOT and brackets, level by level.
use Rattle.std.proofs.Common.{◌≡◌, ◌≤◌, ◌<◌, ◌+◌, ℕ, zero, suc, Bool, true, false, List, [], ◌∷◌, ◌++◌, length, Ok, Err, refl, sym, ap, ◌∙◌, subst, inl, inr, arith, codes}
use Rattle.std.specs.Prelude.{◌⊎◌, if◌then◌else◌}
use Rattle.std.proofs.lemmas.Bool.{false≢true}
use Rattle.own_model.specs.declared.condition.Cond.{Cond}
use Rattle.own_model.specs.declared.condition.Cond.TheVariants as Cond
use Rattle.own_model.specs.declared.limit.LimitName.{LimitName}
use Rattle.own_model.specs.declared.limit.LimitName.TheVariants as limit
use Rattle.sql_reader.specs.declared.fault.RuleFault.TheVariants.{Syntax, Limit}
use Rattle.sql_reader.specs.reading.Condition.{neg, cond_over, too_deep}
use Rattle.grammar_model.specs.Grammar as grammar
use Rattle.grammar_model.specs.Language.{Language, ◌>>=◌, ◌>>◌, ◌or◌}
use Rattle.grammar_model.specs.Language as language
use Rattle.grammar_model.specs.Limits.{Limits}
use Rattle.grammar_model.specs.Terminal.{Terminals}
use Rattle.sql_reader.specs.reading.Reader.{Reading, Reader, next_is, then_read, either, accept, passes, pure, judged}
use Rattle.sql_reader.specs.reading.Rules.{word, mark}
use Rattle.grammar_model.specs.Terminal.{Terminal, is_word, is_mark}
use Rattle.sql_reader.proofs.OtherWords.{with_more, in_words, Into}
use Rattle.sql_reader.proofs.Choices.{or_else, word_right, mark_right, pure_right, word_tests, mark_tests, next_is-tests, next_is-same, still_next}
use Rattle.sql_reader.proofs.Heads.{Head, AWord, AMark, AName, among, apart, OneNext, one-none}
use Rattle.sql_reader.proofs.Joins.{and_then}
use Rattle.sql_reader.proofs.ReaderRight.{next_of, stop_of, Goes, Lifted, Begins, Right, reads_both}
use Rattle.sql_reader.proofs.Rules.Conditions.{comparison_right}
use Rattle.sql_reader.proofs.Rules.Lists.{cond_over_right}
use Rattle.sql_reader.proofs.Lifts.{Fair, lift, fair-lift}

-- the terminals at which a condition begins, and what may follow one of its parts
abbrev pub begins_neg : List Head
begins_neg = AWord (codes "NOT") ∷ AMark (codes "(") ∷ AName ∷ []

abbrev pub after_neg : List Head
after_neg = AMark (codes ".") ∷ []

-- past the first terminal, or stopped there as one without the lifting
abbrev pub Opens : (LimitName → Bool) → (Terminal → Bool) → Reader Cond → Type 0
Opens lifts test opened = (terminals : Terminals) → next_is test terminals ≡ true → (lifts limit.Nesting ≡ true × length (stop_of (opened terminals)) < length terminals) ⊎ (lifts limit.Nesting ≡ false × opened terminals ≡ Err (Limit limit.Nesting, terminals))

-- a terminal that opens a level too many is the limit's
too_deep_right : {lifts : LimitName → Bool} {test : Terminal → Bool} {reader other opened : Reader Cond} {language : Language Cond} {first follow : List Head} (heads : List Head) → ((terminal : Terminal) → test terminal ≡ among heads terminal) → apart first heads ≡ true
    → Right lifts reader other language first false follow → Opens lifts test opened → ((terminals : Terminals) → length (stop_of (opened terminals)) ≤ length terminals) → Right lifts (either test too_deep reader) (either test opened other) language first false follow
too_deep_right {lifts = lifts} {test = test} {reader = reader} {other = other} {opened = opened} {language = language} {first = first} heads tests distinct right opens within =
    record {
      goes = λ terminals. goes_by terminals (next_is test terminals) refl;
      reads = λ value terminals rest text none. ap (λ b. if b then too_deep terminals else reader terminals) (unopened terminals (starts (right.begins value terminals rest text))) ∙ right.reads value terminals rest text none;
      begins = right.begins;
      some = right.some;
      lifted = λ terminals real. lifted_by terminals (right.lifted terminals real) (next_is test terminals) refl;
      within = λ terminals. within_by terminals (next_is test terminals);
    }
  where
    starts : {terminals rest : Terminals} → Begins first false terminals rest → OneNext first terminals
    starts (inl here) = absurd (false≢true here.0)
    starts (inr here) = here.0

    unopened : (terminals : Terminals) → OneNext first terminals → next_is test terminals ≡ false
    unopened terminals is = next_is-tests test heads tests terminals ∙ one-none first heads terminals distinct is

    goes_by : (terminals : Terminals) (answer : Bool) → next_is test terminals ≡ answer → Goes (either test too_deep reader) language terminals (if answer then too_deep terminals else reader terminals)
    goes_by terminals true is = went
      where
        went : Goes (either test too_deep reader) language terminals (Err (Limit limit.Nesting, terminals))
        went =
            record {
              front = [];
              is = refl;
              local = λ more same. ap (λ b. if b then too_deep more else reader more) (next_same more same ∙ is);
              means = right.some;
            }
          where
            next_same : (more : Terminals) → next_of terminals ≡ next_of more → next_is test more ≡ next_is test terminals
            next_same more same = next_is-same test more terminals (sym same)
    goes_by terminals false is =
        let went = right.goes terminals in
        record {
          front = went.front;
          is = went.is;
          local = λ more same. ap (λ b. if b then too_deep (went.front ++ more) else reader (went.front ++ more)) (still_next test went more same ∙ is) ∙ went.local more same;
          means = went.means;
        }

    lifted_by : (terminals : Terminals) → Lifted lifts (reader terminals) (other terminals) → (answer : Bool) → next_is test terminals ≡ answer → Lifted lifts (if answer then too_deep terminals else reader terminals) (if answer then opened terminals else other terminals)
    lifted_by terminals later true is = opened_by (opens terminals is)
      where
        opened_by : (lifts limit.Nesting ≡ true × length (stop_of (opened terminals)) < length terminals) ⊎ (lifts limit.Nesting ≡ false × opened terminals ≡ Err (Limit limit.Nesting, terminals)) → Lifted lifts (too_deep terminals) (opened terminals)
        opened_by (inl free) = inl (free.0, inl free.1)
        opened_by (inr kept) = inr kept
    lifted_by terminals later false is = later

    within_by : (terminals : Terminals) (answer : Bool) → length (stop_of (if answer then opened terminals else other terminals)) ≤ length terminals
    within_by terminals true = within terminals
    within_by terminals false = right.within terminals

-- what is made of the value takes no terminal
stop-pure : {A B : Type 0} (made : A → B) (outcome : Reading A) → stop_of (then_read outcome (λ value. pure (made value))) ≡ stop_of outcome
stop-pure made (Ok (value, rest)) = refl
stop-pure made (Err fault) = refl

-- after a terminal that is taken, what is left is shorter
opened-shorter : (test : Terminal → Bool) (next : Unit {0} → Reader Cond) → ((terminals : Terminals) → length (stop_of (next tt terminals)) ≤ length terminals) → (terminals : Terminals) → next_is test terminals ≡ true → length (stop_of (reads_both (accept (passes test)) next terminals)) < length terminals
opened-shorter test next within [] is = absurd (false≢true is)
opened-shorter test next within (terminal ∷ rest) is =
    let less = within rest in
    subst (λ b. length (stop_of (then_read (judged (if b then Ok tt else Err Syntax) terminal rest) next)) < length (terminal ∷ rest)) (sym is) (omega arith)

module _ (lifts : LimitName → Bool) (limits : Limits) (fair : Fair limits) where
  -- one level more on both sides
  neg_step : (levels deep : ℕ) → Right lifts (neg limits levels) (neg (lift lifts limits) deep) (grammar.neg limits levels) begins_neg false after_neg → Right lifts (neg limits (suc levels)) (neg (lift lifts limits) (suc deep)) (grammar.neg limits (suc levels)) begins_neg false after_neg
  unfolding neg grammar.neg
  neg_step levels deep right =
      in_words (grammar.neg limits (suc levels)) to from
      (with_more begins_neg false after_neg
      (or_else (word_tests (codes "NOT")) (and_then (and_then (word_right (codes "NOT")) (λ _. right) refl) (λ inner. pure_right (Cond.Not inner)) refl)
      (or_else (mark_tests (codes "("))
      (and_then (mark_right (codes "(")) (λ _. and_then (cond_over_right lifts (neg limits levels) (neg (lift lifts limits) deep) (grammar.neg limits levels) right) (λ inner. and_then (mark_right (codes ")")) (λ _. pure_right inner) refl) refl) refl)
      (comparison_right lifts limits fair) refl) refl)
      refl (λ is. is) refl)
    where
      read : Language Cond
      read = (language.word (codes "NOT") >> grammar.neg limits levels >>= λ inner. language.pure (Cond.Not inner)) or (language.bracketed (grammar.cond (grammar.neg limits levels)) or grammar.comparison limits)

      to : Into read (grammar.neg limits (suc levels))
      to value terminals rest (inl text) = inl text
      to value terminals rest (inr (inl text)) = inr (inr text)
      to value terminals rest (inr (inr text)) = inr (inl text)

      from : Into (grammar.neg limits (suc levels)) read
      from value terminals rest (inl text) = inl text
      from value terminals rest (inr (inl text)) = inr (inr text)
      from value terminals rest (inr (inr text)) = inr (inl text)

  -- the deepest level, where the limit of levels is kept
  last_kept : lifts limit.Nesting ≡ false → Right lifts (neg limits zero) (neg (lift lifts limits) zero) (grammar.neg limits zero) begins_neg false after_neg
  unfolding neg grammar.neg
  last_kept kept =
      with_more begins_neg false after_neg
      (too_deep_right (AWord (codes "NOT") ∷ []) (word_tests (codes "NOT")) refl
      (too_deep_right (AMark (codes "(") ∷ []) (mark_tests (codes "(")) refl (comparison_right lifts limits fair) (λ terminals is. inr (kept, refl)) (λ terminals. omega arith))
      (λ terminals is. inr (kept, refl)) (λ terminals. omega arith))
      refl (λ is. is) refl

  -- where the limit of levels is kept
  pub neg_kept : lifts limit.Nesting ≡ false → (levels : ℕ) → Right lifts (neg limits levels) (neg (lift lifts limits) levels) (grammar.neg limits levels) begins_neg false after_neg
  neg_kept kept zero = last_kept kept
  neg_kept kept (suc levels) = neg_step levels levels (neg_kept kept levels)

-- that many levels more, and one
abbrev pub deeper : ℕ → ℕ → ℕ
deeper extra zero = suc extra
deeper extra (suc levels) = suc (deeper extra levels)

pub deeper-sum : (extra levels : ℕ) → deeper extra levels ≡ suc (extra + levels)
deeper-sum extra zero = omega arith
deeper-sum extra (suc levels) = let more = deeper-sum extra levels in omega arith

-- no limit is lifted
abbrev pub none_lifted : LimitName → Bool
none_lifted which = false

module _ (lifts : LimitName → Bool) (limits : Limits) (fair : Fair limits) where
  -- the same rule with the lifted limits
  lifted_neg : (levels : ℕ) → Right none_lifted (neg (lift lifts limits) levels) (neg (lift lifts limits) levels) (grammar.neg (lift lifts limits) levels) begins_neg false after_neg
  lifted_neg levels = neg_kept none_lifted (lift lifts limits) (fair-lift lifts limits fair) refl levels

  -- the deepest level, where the limit of levels is lifted
  last_freed : lifts limit.Nesting ≡ true → (extra : ℕ) → Right lifts (neg limits zero) (neg (lift lifts limits) (suc extra)) (grammar.neg limits zero) begins_neg false after_neg
  unfolding neg grammar.neg
  last_freed freed extra =
      let negated = and_then (and_then (word_right {lifts = none_lifted} (codes "NOT")) (λ _. lifted_neg extra) refl) (λ inner. pure_right (Cond.Not inner)) refl in
      let inside = λ (value : Unit {0}). and_then (cond_over_right none_lifted (neg (lift lifts limits) extra) (neg (lift lifts limits) extra) (grammar.neg (lift lifts limits) extra) (lifted_neg extra)) (λ inner. and_then (mark_right (codes ")")) (λ _. pure_right inner) refl) refl in
      let bracketed = and_then (mark_right {lifts = none_lifted} (codes "(")) inside refl in
      with_more begins_neg false after_neg
      (too_deep_right (AWord (codes "NOT") ∷ []) (word_tests (codes "NOT")) refl
      (too_deep_right (AMark (codes "(") ∷ []) (mark_tests (codes "(")) refl (comparison_right lifts limits fair)
      (λ terminals is. inl (freed, opened-shorter (is_mark (codes "(")) (λ _. reads_both (cond_over (neg (lift lifts limits) extra)) (λ inner. reads_both (mark (codes ")")) (λ _. pure inner))) (inside tt).within terminals is)) bracketed.within)
      (λ terminals is. inl (
        freed,
        subst (λ l. length l < length terminals) (sym (stop-pure Cond.Not (reads_both (word (codes "NOT")) (λ _. neg (lift lifts limits) extra) terminals)))
            (opened-shorter (is_word (codes "NOT")) (λ _. neg (lift lifts limits) extra) (lifted_neg extra).within terminals is),
      )) negated.within)
      refl (λ is. is) refl

  -- where the limit of levels is lifted
  pub neg_freed : lifts limit.Nesting ≡ true → (extra levels : ℕ) → Right lifts (neg limits levels) (neg (lift lifts limits) (deeper extra levels)) (grammar.neg limits levels) begins_neg false after_neg
  neg_freed freed extra zero = last_freed freed extra
  neg_freed freed extra (suc levels) = neg_step lifts limits fair levels (deeper extra levels) (neg_freed freed extra levels)
