-- One terminal, no terminal, and one rule or another.
use Rattle.std.proofs.Common.{◌≡◌, ◌≤◌, ◌<◌, ℕ, Bool, true, false, List, [], ◌∷◌, ◌++◌, length, Result, Ok, Err, refl, sym, ap, ◌∙◌, subst, inl, inr, arith}
use Rattle.std.specs.Prelude.{◌⊎◌, ◌||◌, if◌then◌else◌, None, Some}
use Rattle.std.specs.Str.{str_to_ascii_lowercase}
use Rattle.std.proofs.lemmas.Bool.{false≢true}
use Rattle.std.proofs.lemmas.Slice.Eq.{bytes_eq-Decides}
use Rattle.own_model.specs.declared.limit.LimitName.{LimitName}
use Rattle.sql_lex.specs.declared.token.TokenKind.TheVariants.{Keyword, Mark}
use Rattle.sql_reader.specs.declared.fault.RuleFault.{RuleFault}
use Rattle.sql_reader.specs.declared.fault.RuleFault.TheVariants.{Syntax, Limit, Memory}
use Rattle.grammar_model.specs.Terminal.{Terminals}
use Rattle.sql_reader.specs.reading.Reader.{Reading, Reader, next_is, then_read, judged, accept, passes, either}
use Rattle.sql_reader.specs.reading.Reader as reading
use Rattle.sql_reader.specs.reading.Rules as rules
use Rattle.grammar_model.specs.Terminal.{Terminal, Written, is_word, is_mark}
use Rattle.sql_reader.specs.reading.Judges.{is_name, is_quoted}
use Rattle.grammar_model.specs.Language.{Language, one, ◌or◌, ◌>>=◌}
use Rattle.grammar_model.specs.Language as grammar
use Rattle.sql_reader.proofs.Exactly.{SaysExactly, none-some, some-same}
use Rattle.sql_reader.proofs.Heads.{Head, AWord, AMark, AName, AQuoted, among, apart, NoneNext, OneNext, none-append, one-append-left, one-append-right, one-none}
use Rattle.sql_reader.proofs.ReaderRight.{next_of, stop_of, Means, Goes, Lifted, Begins, Right, Real}
use Rattle.sql_reader.proofs.Joins.{and_then, joined, next-append}

-- what comes of a judgement where some limits are lifted
abbrev pub LiftedJudge : {A : Type 0} → (LimitName → Bool) → Result A RuleFault → Result A RuleFault → Type 0
LiftedJudge lifts (Ok value) other = other ≡ Ok value
LiftedJudge lifts (Err Syntax) other = other ≡ Err Syntax
LiftedJudge lifts (Err Memory) other = other ≡ Err Memory
LiftedJudge {A = A} lifts (Err (Limit which)) other = (lifts which ≡ true × ((value : A) × (other ≡ Ok value))) ⊎ (lifts which ≡ false × other ≡ Err (Limit which))

some-none : {A : Type 0} (value : A) → Some value ≡ None → ⊥
some-none value same = cc

-- the outcome where nothing is read
nothing_there : {A : Type 0} (means : A → Terminal → Type 0) (judge : Terminal → Result A RuleFault) (value : A) (terminal : Terminal) → means value terminal → Goes (accept judge) (one means) [] (Err (Syntax, []))
nothing_there means judge value terminal fits =
    record {
      front = [];
      is = refl;
      local = at_end;
      means = (value, terminal ∷ [], λ ending. (terminal, refl, fits));
    }
  where
    at_end : (other : Terminals) → None ≡ next_of other → accept judge other ≡ Err (Syntax, other)
    at_end [] same = refl
    at_end (next ∷ terminals) same = absurd (none-some next same)

judged_there : {A : Type 0} (means : A → Terminal → Type 0) (judge : Terminal → Result A RuleFault) → SaysExactly means judge → (value : A) (fitting : Terminal) → means value fitting → (terminal : Terminal) (rest : Terminals) (answer : Result A RuleFault) → judge terminal ≡ answer → Goes (accept judge) (one means) (terminal ∷ rest) (judged answer terminal rest)
judged_there means judge exact value fitting fits terminal rest (Ok found) is =
    record {
      front = terminal ∷ [];
      is = refl;
      local = λ other same. ap (λ a. judged a terminal other) is;
      means = λ ending. (terminal, refl, exact.right terminal found is);
    }
judged_there means judge exact value fitting fits terminal rest (Err fault) is =
    record {
      front = [];
      is = refl;
      local = there;
      means = (value, fitting ∷ [], λ ending. (fitting, refl, fits));
    }
  where
    there : (other : Terminals) → Some terminal ≡ next_of other → accept judge other ≡ Err (fault, other)
    there [] same = absurd (some-none terminal same)
    there (next ∷ terminals) same = ap (λ a. judged a next terminals) (ap judge (sym (some-same terminal next same)) ∙ is)

lifted_judge : {A : Type 0} (lifts : LimitName → Bool) (terminal : Terminal) (rest : Terminals) (answer other : Result A RuleFault) → LiftedJudge lifts answer other → Lifted lifts (judged answer terminal rest) (judged other terminal rest)
lifted_judge lifts terminal rest (Ok value) other same = ap (λ a. judged a terminal rest) same
lifted_judge lifts terminal rest (Err Syntax) other same = ap (λ a. judged a terminal rest) same
lifted_judge lifts terminal rest (Err Memory) other same = ap (λ a. judged a terminal rest) same
lifted_judge lifts terminal rest (Err (Limit which)) other (inl gone) = inl (gone.0, inl (subst (λ a. length (stop_of (judged a terminal rest)) < length (terminal ∷ rest)) (sym gone.1.1) (omega arith)))
lifted_judge lifts terminal rest (Err (Limit which)) other (inr kept) = inr (kept.0, ap (λ a. judged a terminal rest) kept.1)

judged-within : {A : Type 0} (answer : Result A RuleFault) (terminal : Terminal) (rest : Terminals) → length (stop_of (judged answer terminal rest)) ≤ length (terminal ∷ rest)
judged-within (Ok value) terminal rest = omega arith
judged-within (Err fault) terminal rest = omega arith

-- one terminal
pub one_terminal : {A : Type 0} {lifts : LimitName → Bool} (means : A → Terminal → Type 0) (judge other : Terminal → Result A RuleFault) → SaysExactly means judge → (heads : List Head) (value : A) (fitting : Terminal) → judge fitting ≡ Ok value
    → ((terminal : Terminal) (value : A) → judge terminal ≡ Ok value → among heads terminal ≡ true) → ((terminal : Terminal) → LiftedJudge lifts (judge terminal) (other terminal))
    → Right lifts (accept judge) (accept other) (one means) heads false []
one_terminal {A = A} {lifts = lifts} means judge other exact heads value fitting fits begins lifted =
    record {
      goes = goes;
      reads = λ found terminals rest word none. ap (accept judge) word.1 ∙ ap (λ a. judged a word.0 rest) (exact.whole word.0 found word.2);
      begins = λ found terminals rest word. inr (subst (OneNext heads) (sym word.1) (begins word.0 found (exact.whole word.0 found word.2)), subst (λ l. length rest < length l) (sym word.1) (omega arith));
      some = (value, fitting ∷ [], λ ending. (fitting, refl, exact.right fitting value fits));
      lifted = λ terminals real. lifts_one terminals;
      within = within;
    }
  where
    goes : (terminals : Terminals) → Goes (accept judge) (one means) terminals (accept judge terminals)
    goes [] = nothing_there means judge value fitting (exact.right fitting value fits)
    goes (terminal ∷ rest) = judged_there means judge exact value fitting (exact.right fitting value fits) terminal rest (judge terminal) refl

    lifts_one : (terminals : Terminals) → Lifted lifts (accept judge terminals) (accept other terminals)
    lifts_one [] = refl
    lifts_one (terminal ∷ rest) = lifted_judge lifts terminal rest (judge terminal) (other terminal) (lifted terminal)

    within : (terminals : Terminals) → length (stop_of (accept other terminals)) ≤ length terminals
    within [] = omega arith
    within (terminal ∷ rest) = judged-within (other terminal) terminal rest

passes-ok : (test : Terminal → Bool) (terminal : Terminal) (answer : Bool) → test terminal ≡ answer → (value : Unit {0}) → passes test terminal ≡ Ok value → test terminal ≡ true
passes-ok test terminal true is value passed = is
passes-ok test terminal false is value passed = absurd (wrong (sym (ap (λ b. if b then Ok tt else Err Syntax) is) ∙ passed))
  where
    wrong : Err Syntax ≡ Ok value → ⊥
    wrong same = cc

-- a terminal that passes
abbrev Passes : (Terminal → Bool) → Unit {0} → Terminal → Type 0
Passes test value terminal = test terminal ≡ true

-- a test judges by what passes it
passes_exactly : (test : Terminal → Bool) → SaysExactly (Passes test) (passes test)
passes_exactly test =
    record {
      right = λ terminal value passed. passes-ok test terminal (test terminal) refl value passed;
      whole = λ terminal value is. ap (λ b. if b then Ok tt else Err Syntax) is;
    }

-- a terminal that passes a test that is one head's
passing : {lifts : LimitName → Bool} (test : Terminal → Bool) (heads : List Head) (fitting : Terminal) → test fitting ≡ true → ((terminal : Terminal) → test terminal ≡ true → among heads terminal ≡ true) → Right lifts (accept (passes test)) (accept (passes test)) (one (Passes test)) heads false []
passing {lifts = lifts} test heads fitting fits begins =
    one_terminal (Passes test) (passes test) (passes test) (passes_exactly test) heads tt fitting (ap (λ b. if b then Ok tt else Err Syntax) fits) (λ terminal value passed. begins terminal (passes-ok test terminal (test terminal) refl value passed)) same
  where
    by : (answer : Bool) → LiftedJudge {A = Unit {0}} lifts (if answer then Ok tt else Err Syntax) (if answer then Ok tt else Err Syntax)
    by true = refl
    by false = refl

    same : (terminal : Terminal) → LiftedJudge lifts (passes test terminal) (passes test terminal)
    same terminal = by (test terminal)

pub or_none : (b : Bool) → b ≡ (b || false)
or_none true = refl
or_none false = refl

or-false : (b : Bool) → b ≡ true → (b || false) ≡ true
or-false b is = ap (λ b. b || false) is

-- a keyword
pub word_right : {lifts : LimitName → Bool} (word : List ℕ) → Right lifts (rules.word word) (rules.word word) (grammar.word word) (AWord word ∷ []) false []
word_right word = passing (is_word word) (AWord word ∷ []) (Written Keyword word 0) ((bytes_eq-Decides (str_to_ascii_lowercase word) (str_to_ascii_lowercase word)).1 refl) (λ terminal. or-false (is_word word terminal))

-- a mark
pub mark_right : {lifts : LimitName → Bool} (mark : List ℕ) → Right lifts (rules.mark mark) (rules.mark mark) (grammar.mark mark) (AMark mark ∷ []) false []
mark_right mark = passing (is_mark mark) (AMark mark ∷ []) (Written Mark mark 0) ((bytes_eq-Decides mark mark).1 refl) (λ terminal. or-false (is_mark mark terminal))

-- no terminal
pub pure_right : {A : Type 0} {lifts : LimitName → Bool} (value : A) → Right lifts (reading.pure value) (reading.pure value) (grammar.pure value) [] true []
pure_right value =
    record {
      goes = λ terminals. record { front = []; is = refl; local = λ other same. refl; means = λ ending. (refl, refl) };
      reads = λ found terminals rest word none. ap (λ l. Ok (value, l)) word.1 ∙ ap (λ v. Ok (v, rest)) (sym word.0);
      begins = λ found terminals rest word. inl (refl, word.1);
      some = (value, [], λ ending. (refl, refl));
      lifted = λ terminals real. refl;
      within = λ terminals. omega arith;
    }

pub next_is-same : (test : Terminal → Bool) (one other : Terminals) → next_of one ≡ next_of other → next_is test one ≡ next_is test other
next_is-same test [] [] same = refl
next_is-same test [] (next ∷ other) same = absurd (none-some next same)
next_is-same test (terminal ∷ one) [] same = absurd (some-none terminal same)
next_is-same test (terminal ∷ one) (next ∷ other) same = ap test (some-same terminal next same)

pub next_is-tests : (test : Terminal → Bool) (heads : List Head) → ((terminal : Terminal) → test terminal ≡ among heads terminal) → (terminals : Terminals) → next_is test terminals ≡ next_is (among heads) terminals
next_is-tests test heads tests [] = refl
next_is-tests test heads tests (terminal ∷ terminals) = tests terminal

-- where a reader stops and the same terminal comes next, the same comes first
pub still_next : {A : Type 0} {reader : Reader A} {language : Language A} {terminals : Terminals} {outcome : Reading A} (test : Terminal → Bool) (goes : Goes reader language terminals outcome) (other : Terminals) → next_of (stop_of outcome) ≡ next_of other → next_is test (goes.front ++ other) ≡ next_is test terminals
still_next {terminals = terminals} {outcome = outcome} test goes other same =
    next_is-same test (goes.front ++ other) terminals (sym (next-append goes.front (stop_of outcome) other same) ∙ ap next_of (sym goes.is))

chosen : {A : Type 0} (test : Terminal → Bool) (first second : Reader A) (terminals : Terminals) (answer : Bool) → next_is test terminals ≡ answer → either test first second terminals ≡ (if answer then first terminals else second terminals)
chosen test first second terminals answer is = ap (λ b. if b then first terminals else second terminals) is

means-left : {A : Type 0} (one other : Language A) (front : Terminals) (outcome : Reading A) → Means one front outcome → Means (one or other) front outcome
means-left one other front (Ok (value, rest)) means = λ ending. inl (means ending)
means-left one other front (Err fault) means = (means.0, means.1, λ ending. inl (means.2 ending))

means-right : {A : Type 0} (one other : Language A) (front : Terminals) (outcome : Reading A) → Means other front outcome → Means (one or other) front outcome
means-right one other front (Ok (value, rest)) means = λ ending. inr (means ending)
means-right one other front (Err fault) means = (means.0, means.1, λ ending. inr (means.2 ending))

-- one rule where a terminal of its own comes first, else the other
pub or_else : {A : Type 0} {lifts : LimitName → Bool} {test : Terminal → Bool} {reader other : Reader A} {language : Language A} {first follow : List Head} {second wider : Reader A} {behind : Language A} {heads : List Head} {blank : Bool} {after : List Head}
    → ((terminal : Terminal) → test terminal ≡ among first terminal) → Right lifts reader other language first false follow → Right lifts second wider behind heads blank after → apart heads first ≡ true
    → Right lifts (either test reader second) (either test other wider) (language or behind) (first ++ heads) blank (follow ++ joined blank after first)
or_else {A = A} {lifts = lifts} {test = test} {reader = reader} {other = other} {language = language} {first = first} {follow = follow} {second = second} {wider = wider} {behind = behind} {heads = heads} {blank = blank} {after = after} tests one two distinct =
    record {
      goes = λ terminals. goes_by terminals (next_is test terminals) refl;
      reads = reads;
      begins = begins;
      some = (one.some.0, one.some.1, λ ending. inl (one.some.2 ending));
      lifted = λ terminals real. lifted_by terminals real (next_is test terminals);
      within = λ terminals. within_by terminals (next_is test terminals);
    }
  where
    goes_by : (terminals : Terminals) (answer : Bool) → next_is test terminals ≡ answer → Goes (either test reader second) (language or behind) terminals (if answer then reader terminals else second terminals)
    goes_by terminals true is =
        let went = one.goes terminals in
        record {
          front = went.front;
          is = went.is;
          local = λ more same. chosen test reader second (went.front ++ more) true (still_next test went more same ∙ is) ∙ went.local more same;
          means = means-left language behind went.front (reader terminals) went.means;
        }
    goes_by terminals false is =
        let went = two.goes terminals in
        record {
          front = went.front;
          is = went.is;
          local = λ more same. chosen test reader second (went.front ++ more) false (still_next test went more same ∙ is) ∙ went.local more same;
          means = means-right language behind went.front (second terminals) went.means;
        }

    tested : (terminals : Terminals) (answer : Bool) → next_is (among first) terminals ≡ answer → next_is test terminals ≡ answer
    tested terminals answer is = next_is-tests test first tests terminals ∙ is

    before : (rest : Terminals) → NoneNext (follow ++ joined blank after first) rest → NoneNext follow rest × NoneNext (joined blank after first) rest
    before rest none = none-append follow (joined blank after first) rest none

    unread : (terminals rest : Terminals) (empty : Bool) → NoneNext (joined empty after first) rest → Begins heads empty terminals rest → NoneNext first terminals × NoneNext after rest
    unread terminals rest true none (inl here) = (subst (NoneNext first) (sym here.1) (none-append after first rest none).1, (none-append after first rest none).0)
    unread terminals rest true none (inr here) = (one-none heads first terminals distinct here.0, (none-append after first rest none).0)
    unread terminals rest false none (inl here) = absurd (false≢true here.0)
    unread terminals rest false none (inr here) = (one-none heads first terminals distinct here.0, none)

    reads : (value : A) (terminals rest : Terminals) → (language or behind) value terminals rest → NoneNext (follow ++ joined blank after first) rest → either test reader second terminals ≡ Ok (value, rest)
    reads value terminals rest (inl word) none = left (one.begins value terminals rest word)
      where
        left : Begins first false terminals rest → either test reader second terminals ≡ Ok (value, rest)
        left (inl here) = absurd (false≢true here.0)
        left (inr here) = chosen test reader second terminals true (tested terminals true here.0) ∙ one.reads value terminals rest word (before rest none).0
    reads value terminals rest (inr word) none =
        let fits = unread terminals rest blank (before rest none).1 (two.begins value terminals rest word) in
        chosen test reader second terminals false (tested terminals false fits.0) ∙ two.reads value terminals rest word fits.1

    begins : (value : A) (terminals rest : Terminals) → (language or behind) value terminals rest → Begins (first ++ heads) blank terminals rest
    begins value terminals rest (inl word) = left (one.begins value terminals rest word)
      where
        left : Begins first false terminals rest → Begins (first ++ heads) blank terminals rest
        left (inl here) = absurd (false≢true here.0)
        left (inr here) = inr (one-append-left first heads terminals here.0, here.1)
    begins value terminals rest (inr word) = right (two.begins value terminals rest word)
      where
        right : Begins heads blank terminals rest → Begins (first ++ heads) blank terminals rest
        right (inl here) = inl here
        right (inr here) = inr (one-append-right first heads terminals here.0, here.1)

    lifted_by : (terminals : Terminals) → Real lifts terminals → (answer : Bool) → Lifted lifts (if answer then reader terminals else second terminals) (if answer then other terminals else wider terminals)
    lifted_by terminals real true = one.lifted terminals real
    lifted_by terminals real false = two.lifted terminals real

    within_by : (terminals : Terminals) (answer : Bool) → length (stop_of (if answer then other terminals else wider terminals)) ≤ length terminals
    within_by terminals true = one.within terminals
    within_by terminals false = two.within terminals

-- a rule or no terminal
pub or_nothing : {A : Type 0} {lifts : LimitName → Bool} {test : Terminal → Bool} {reader other : Reader A} {language : Language A} {first follow : List Head} → ((terminal : Terminal) → test terminal ≡ among first terminal) → Right lifts reader other language first false follow
    → Right lifts (reading.optional test reader) (reading.optional test other) (grammar.optional language) (first ++ []) true (follow ++ first)
or_nothing tests one = or_else tests (and_then one (λ value. pure_right (Some value)) refl) (pure_right None) refl

-- what tests a keyword
pub word_tests : (word : List ℕ) (terminal : Terminal) → is_word word terminal ≡ among (AWord word ∷ []) terminal
word_tests word terminal = or_none (is_word word terminal)

-- what tests a mark
pub mark_tests : (mark : List ℕ) (terminal : Terminal) → is_mark mark terminal ≡ among (AMark mark ∷ []) terminal
mark_tests mark terminal = or_none (is_mark mark terminal)

pub name_tests : (terminal : Terminal) → is_name terminal ≡ among (AName ∷ []) terminal
name_tests terminal = or_none (is_name terminal)

pub quoted_tests : (terminal : Terminal) → is_quoted terminal ≡ among (AQuoted ∷ []) terminal
quoted_tests terminal = or_none (is_quoted terminal)
