-- A rule as often as it comes.
use Rattle.std.proofs.Common.{◌≡◌, ◌≤◌, ◌<◌, ◌+◌, ℕ, zero, suc, Bool, true, false, List, [], ◌∷◌, ◌++◌, length, Ok, Err, refl, sym, ap, ◌∙◌, subst, inl, inr, arith, append_assoc}
use Rattle.std.specs.Prelude.{if◌then◌else◌}
use Rattle.std.proofs.lemmas.Bool.{false≢true}
use Rattle.own_model.specs.declared.limit.LimitName.{LimitName}
use Rattle.sql_reader.specs.declared.fault.RuleFault.{RuleFault}
use Rattle.grammar_model.specs.Terminal.{Terminals}
use Rattle.sql_reader.specs.reading.Reader.{Reading, Reader, next_is, then_read, either, pure}
use Rattle.grammar_model.specs.Terminal.{Terminal}
use Rattle.grammar_model.specs.Language.{Language, many_from}
use Rattle.sql_reader.proofs.Heads.{Head, among, apart, NoneNext, OneNext, none-append, one-none}
use Rattle.sql_reader.proofs.ReaderRight.{next_of, stop_of, moved_to, Means, Goes, Lifted, Begins, Right, Spells, reads_both, Real, real_after}
use Rattle.sql_reader.proofs.Joins.{next-append, lifted_on, within_on}
use Rattle.sql_reader.proofs.Choices.{next_is-tests, next_is-same, still_next}

-- a fault is no answer
pub not_ok : {A : Type 0} (fault : RuleFault × Terminals) (value : A) (rest : Terminals) → ◌≡◌ {A = Reading A} (Err fault) (Ok (value, rest)) → ⊥
not_ok fault value rest same = cc

-- the rule as often as the terminal passes, no more often than that many times, after that many others
abbrev pub up_from : {A : Type 0} → (Terminal → Bool) → (ℕ → Reader A) → ℕ → ℕ → Reader (List A)
up_from test readers zero count = pure []
up_from test readers (suc times) count = either test (reads_both (readers count) (λ value. reads_both (up_from test readers times (count + 1)) (λ more. pure (value ∷ more)))) (pure [])

-- no more often than there are terminals
abbrev pub all_from : {A : Type 0} → (Terminal → Bool) → (ℕ → Reader A) → ℕ → Reader (List A)
all_from test readers count terminals = up_from test readers (length terminals) count terminals

module _ {A : Type 0} {lifts : LimitName → Bool} (test : Terminal → Bool) (readers others : ℕ → Reader A) (languages : ℕ → Language A) (first follow : List Head) (tests : (terminal : Terminal) → test terminal ≡ among first terminal) (each : (count : ℕ) → Right lifts (readers count) (others count) (languages count) first false follow) (distinct : apart first follow ≡ true) where
  consumes : (value : A) (count : ℕ) (terminals rest : Terminals) → languages count value terminals rest → length rest < length terminals
  consumes value count terminals rest word = by ((each count).begins value terminals rest word)
    where
      by : Begins first false terminals rest → length rest < length terminals
      by (inl here) = absurd (false≢true here.0)
      by (inr here) = here.1

  starts : (value : A) (count : ℕ) (terminals rest : Terminals) → languages count value terminals rest → OneNext first terminals
  starts value count terminals rest word = by ((each count).begins value terminals rest word)
    where
      by : Begins first false terminals rest → OneNext first terminals
      by (inl here) = absurd (false≢true here.0)
      by (inr here) = here.0

  -- what is read takes a terminal at least
  takes : (count : ℕ) (terminals : Terminals) (value : A) (rest : Terminals) → readers count terminals ≡ Ok (value, rest) → length rest < length terminals
  takes count terminals value rest is = by (readers count terminals) is ((each count).goes terminals)
    where
      by : (outcome : Reading A) → outcome ≡ Ok (value, rest) → Goes (readers count) (languages count) terminals outcome → length rest < length terminals
      by (Ok (found, middle)) same went =
          subst (λ l. length l < length terminals) (ap stop_of same) (consumes found count terminals middle (subst (λ l. languages count found l middle) (sym went.is) (went.means middle)))
      by (Err fault) same went = absurd (not_ok fault value rest same)

  none_there : (times count : ℕ) (terminals : Terminals) → next_is test terminals ≡ false → up_from test readers times count terminals ≡ Ok ([], terminals)
  none_there zero count terminals is = refl
  none_there (suc times) count terminals is = ap (λ b. if b then reads_both (readers count) (λ value. reads_both (up_from test readers times (count + 1)) (λ more. pure (value ∷ more))) terminals else Ok ([], terminals)) is

  one_there : (times count : ℕ) (terminals : Terminals) → next_is test terminals ≡ true → up_from test readers (suc times) count terminals ≡ then_read (readers count terminals) (λ value. reads_both (up_from test readers times (count + 1)) (λ more. pure (value ∷ more)))
  one_there times count terminals is = ap (λ b. if b then reads_both (readers count) (λ value. reads_both (up_from test readers times (count + 1)) (λ more. pure (value ∷ more))) terminals else Ok ([], terminals)) is

  -- more times than terminals make no difference
  enough_times : (times more count : ℕ) (terminals : Terminals) → length terminals ≤ times → length terminals ≤ more → up_from test readers times count terminals ≡ up_from test readers more count terminals
  enough_times zero more count [] enough plenty = sym (none_there more count [] refl)
  enough_times zero more count (terminal ∷ terminals) enough plenty = absurd (omega (arith, enough))
  enough_times (suc times) zero count [] enough plenty = none_there (suc times) count [] refl
  enough_times (suc times) zero count (terminal ∷ terminals) enough plenty = absurd (omega (arith, plenty))
  enough_times (suc times) (suc more) count terminals enough plenty = by (λ middle. enough_times times more (count + 1) middle) (next_is test terminals)
    where
      onward : ((middle : Terminals) → length middle ≤ times → length middle ≤ more → up_from test readers times (count + 1) middle ≡ up_from test readers more (count + 1) middle) → (outcome : Reading A) → readers count terminals ≡ outcome
          → then_read outcome (λ value. reads_both (up_from test readers times (count + 1)) (λ more. pure (value ∷ more))) ≡ then_read outcome (λ value. reads_both (up_from test readers more (count + 1)) (λ more. pure (value ∷ more)))
      onward later (Ok (value, middle)) is =
          let less = takes count terminals value middle is in
          ap (λ o. then_read o (λ more. pure (value ∷ more))) (later middle (omega arith) (omega arith))
      onward later (Err fault) is = refl

      by : ((middle : Terminals) → length middle ≤ times → length middle ≤ more → up_from test readers times (count + 1) middle ≡ up_from test readers more (count + 1) middle) → (answer : Bool)
          → (if answer then reads_both (readers count) (λ value. reads_both (up_from test readers times (count + 1)) (λ more. pure (value ∷ more))) terminals else Ok ([], terminals)) ≡ (if answer then reads_both (readers count) (λ value. reads_both (up_from test readers more (count + 1)) (λ more. pure (value ∷ more))) terminals else Ok ([], terminals))
      by later true = onward later (readers count terminals) refl
      by later false = refl

  -- one and then all after it
  one_and_all : (count : ℕ) (terminals : Terminals) (value : A) (middle : Terminals) → next_is test terminals ≡ true → readers count terminals ≡ Ok (value, middle) → all_from test readers count terminals ≡ then_read (all_from test readers (count + 1) middle) (λ more. pure (value ∷ more))
  one_and_all count [] value middle is read = absurd (false≢true is)
  one_and_all count (terminal ∷ terminals) value middle is read =
      let less = takes count (terminal ∷ terminals) value middle read in
      enough_times (length (terminal ∷ terminals)) (suc (length terminals)) count (terminal ∷ terminals) (omega arith) (omega arith)
      ∙ one_there (length terminals) count (terminal ∷ terminals) is
      ∙ ap (λ o. then_read o (λ value. reads_both (up_from test readers (length terminals) (count + 1)) (λ more. pure (value ∷ more)))) read
      ∙ ap (λ o. then_read o (λ more. pure (value ∷ more))) (enough_times (length terminals) (length middle) (count + 1) middle (omega arith) (omega arith))

  -- a fault of the one is a fault of all
  all_fail : (count : ℕ) (terminals : Terminals) (fault : RuleFault × Terminals) → next_is test terminals ≡ true → readers count terminals ≡ Err fault → all_from test readers count terminals ≡ Err fault
  all_fail count [] fault is read = absurd (false≢true is)
  all_fail count (terminal ∷ terminals) fault is read =
      enough_times (length (terminal ∷ terminals)) (suc (length terminals)) count (terminal ∷ terminals) (omega arith) (omega arith)
      ∙ one_there (length terminals) count (terminal ∷ terminals) is
      ∙ ap (λ o. then_read o (λ value. reads_both (up_from test readers (length terminals) (count + 1)) (λ more. pure (value ∷ more)))) read

  shorter : (values : List A) (count : ℕ) (terminals rest : Terminals) → many_from languages count values terminals rest → length rest ≤ length terminals
  shorter [] count terminals rest word = subst (λ l. length rest ≤ length l) (sym word) (omega arith)
  shorter (value ∷ values) count terminals rest word =
      let one = consumes value count terminals word.0 word.1 in
      let more = shorter values (count + 1) word.0 rest word.2 in
      omega arith

  -- what follows is none of the next, nor goes on with the last
  stops : (values : List A) (count : ℕ) (terminals rest : Terminals) → many_from languages count values terminals rest → NoneNext (first ++ follow) rest → NoneNext follow terminals
  stops [] count terminals rest word none = subst (NoneNext follow) (sym word) (none-append first follow rest none).1
  stops (value ∷ values) count terminals rest word none = one-none first follow terminals distinct (starts value count terminals word.0 word.1)

  reads_all : (values : List A) (count : ℕ) (terminals rest : Terminals) → many_from languages count values terminals rest → NoneNext (first ++ follow) rest → all_from test readers count terminals ≡ Ok (values, rest)
  reads_all [] count terminals rest word none =
      none_there (length terminals) count terminals (ap (next_is test) word ∙ next_is-tests test first tests rest ∙ (none-append first follow rest none).0) ∙ ap (λ l. Ok ([], l)) word
  reads_all (value ∷ values) count terminals rest word none =
      one_and_all count terminals value word.0 (next_is-tests test first tests terminals ∙ starts value count terminals word.0 word.1) ((each count).reads value terminals word.0 word.1 (stops values (count + 1) word.0 rest word.2 none))
      ∙ ap (λ o. then_read o (λ more. pure (value ∷ more))) (reads_all values (count + 1) word.0 rest word.2 none)

  begins_all : (values : List A) (count : ℕ) (terminals rest : Terminals) → many_from languages count values terminals rest → Begins first true terminals rest
  begins_all [] count terminals rest word = inl (refl, word)
  begins_all (value ∷ values) count terminals rest word =
      let one = consumes value count terminals word.0 word.1 in
      let more = shorter values (count + 1) word.0 rest word.2 in
      inr (starts value count terminals word.0 word.1, omega arith)

  within_all : (times count : ℕ) (terminals : Terminals) → length (stop_of (up_from test others times count terminals)) ≤ length terminals
  within_all zero count terminals = omega arith
  within_all (suc times) count terminals = by (λ middle. within_all times (count + 1) middle) (next_is test terminals)
    where
      by : ((middle : Terminals) → length (stop_of (up_from test others times (count + 1) middle)) ≤ length middle) → (answer : Bool) → length (stop_of (if answer then then_read (others count terminals) (λ value. reads_both (up_from test others times (count + 1)) (λ more. pure (value ∷ more))) else Ok ([], terminals))) ≤ length terminals
      by later true = within_on (λ value. reads_both (up_from test others times (count + 1)) (λ more. pure (value ∷ more))) (λ value middle. within_on (λ more. pure (value ∷ more)) (λ more rest. omega arith) middle (up_from test others times (count + 1) middle) (later middle)) terminals (others count terminals) ((each count).within terminals)
      by later false = omega arith

  lifted_all : (times count : ℕ) (terminals : Terminals) → Real lifts terminals → Lifted lifts (up_from test readers times count terminals) (up_from test others times count terminals)
  lifted_all zero count terminals real = refl
  lifted_all (suc times) count terminals real = by (λ middle real. lifted_all times (count + 1) middle real) (next_is test terminals)
    where
      by : ((middle : Terminals) → Real lifts middle → Lifted lifts (up_from test readers times (count + 1) middle) (up_from test others times (count + 1) middle)) → (answer : Bool)
          → Lifted lifts (if answer then then_read (readers count terminals) (λ value. reads_both (up_from test readers times (count + 1)) (λ more. pure (value ∷ more))) else Ok ([], terminals)) (if answer then then_read (others count terminals) (λ value. reads_both (up_from test others times (count + 1)) (λ more. pure (value ∷ more))) else Ok ([], terminals))
      by later true =
          lifted_on lifts (λ value. reads_both (up_from test readers times (count + 1)) (λ more. pure (value ∷ more))) (λ value. reads_both (up_from test others times (count + 1)) (λ more. pure (value ∷ more)))
          (λ value middle. within_on (λ more. pure (value ∷ more)) (λ more rest. omega arith) middle (up_from test others times (count + 1) middle) (within_all times (count + 1) middle))
          (readers count terminals) (others count terminals)
          (λ value middle is. lifted_on lifts (λ more. pure (value ∷ more)) (λ more. pure (value ∷ more)) (λ more rest. omega arith) (up_from test readers times (count + 1) middle) (up_from test others times (count + 1) middle) (λ more rest is. refl) (later middle (real_after lifts ((each count).goes terminals) real value middle is)))
          ((each count).lifted terminals real)
      by later false = refl

  -- the whole list's outcome, of the one's and of the others'
  goes_one : (count : ℕ) (terminals : Terminals) (value : A) (middle : Terminals) (outcome : Reading (List A)) → next_is test terminals ≡ true → readers count terminals ≡ Ok (value, middle) → Goes (readers count) (languages count) terminals (Ok (value, middle))
      → Goes (all_from test readers (count + 1)) (many_from languages (count + 1)) middle outcome → Goes (all_from test readers count) (many_from languages count) terminals (then_read outcome (λ more. pure (value ∷ more)))
  goes_one count terminals value middle outcome is read one rest =
      record {
        front = one.front ++ rest.front;
        is = one.is ∙ ap (λ l. one.front ++ l) rest.is ∙ sym (append_assoc one.front rest.front (stop_of outcome)) ∙ ap (λ l. (one.front ++ rest.front) ++ l) (sym (stop-prepended outcome));
        local = λ other same.
            let onward = next-append rest.front (stop_of outcome) other (ap next_of (sym (stop-prepended outcome)) ∙ same) in
            let there = ap next_of rest.is ∙ onward in
            ap (all_from test readers count) (append_assoc one.front rest.front other)
            ∙ one_and_all count (one.front ++ (rest.front ++ other)) value (rest.front ++ other) (still_next test one (rest.front ++ other) there ∙ is) (one.local (rest.front ++ other) there)
            ∙ ap (λ o. then_read o (λ more. pure (value ∷ more))) (rest.local other (ap next_of (sym (stop-prepended outcome)) ∙ same))
            ∙ moved-prepended outcome other;
        means = meant outcome rest.means;
      }
    where
      stop-prepended : (outcome : Reading (List A)) → stop_of (then_read outcome (λ more. pure (value ∷ more))) ≡ stop_of outcome
      stop-prepended (Ok (values, rest)) = refl
      stop-prepended (Err fault) = refl

      moved-prepended : (outcome : Reading (List A)) (other : Terminals) → then_read (moved_to outcome other) (λ more. pure (value ∷ more)) ≡ moved_to (then_read outcome (λ more. pure (value ∷ more))) other
      moved-prepended (Ok (values, rest)) other = refl
      moved-prepended (Err fault) other = refl

      spelled : (values : List A) (back : Terminals) → Spells (many_from languages (count + 1)) values back → Spells (many_from languages count) (value ∷ values) (one.front ++ back)
      spelled values back spells ending = (back ++ ending, subst (λ l. languages count value l (back ++ ending)) (sym (append_assoc one.front back ending)) (one.means (back ++ ending)), spells ending)

      meant : (outcome : Reading (List A)) → Means (many_from languages (count + 1)) rest.front outcome → Means (many_from languages count) (one.front ++ rest.front) (then_read outcome (λ more. pure (value ∷ more)))
      meant (Ok (values, behind)) means = spelled values rest.front means
      meant (Err fault) means = (value ∷ means.0, means.1, subst (Spells (many_from languages count) (value ∷ means.0)) (sym (append_assoc one.front rest.front means.1)) (spelled means.0 (rest.front ++ means.1) means.2))

  goes_fault : (count : ℕ) (terminals : Terminals) (fault : RuleFault × Terminals) → next_is test terminals ≡ true → Goes (readers count) (languages count) terminals (Err fault) → Goes (all_from test readers count) (many_from languages count) terminals (Err fault)
  goes_fault count terminals (fault, behind) is one =
      record {
        front = one.front;
        is = one.is;
        local = λ other same. all_fail count (one.front ++ other) (fault, other) (still_next test one other same ∙ is) (one.local other same);
        means = (one.means.0 ∷ [], one.means.1, λ ending. (ending, one.means.2 ending, refl));
      }

  goes_none : (count : ℕ) (terminals : Terminals) → next_is test terminals ≡ false → Goes (all_from test readers count) (many_from languages count) terminals (Ok ([], terminals))
  goes_none count terminals is =
      record {
        front = [];
        is = refl;
        local = λ other same. none_there (length other) count other (next_is-same test other terminals (sym same) ∙ is);
        means = λ ending. refl;
      }

  goes_all : (times count : ℕ) (terminals : Terminals) → length terminals ≤ times → Goes (all_from test readers count) (many_from languages count) terminals (up_from test readers times count terminals)
  goes_all zero count [] enough = goes_none count [] refl
  goes_all zero count (terminal ∷ terminals) enough = absurd (omega (arith, enough))
  goes_all (suc times) count terminals enough = by (λ middle. goes_all times (count + 1) middle) (next_is test terminals) refl
    where
      onward : ((middle : Terminals) → length middle ≤ times → Goes (all_from test readers (count + 1)) (many_from languages (count + 1)) middle (up_from test readers times (count + 1) middle)) → next_is test terminals ≡ true → (outcome : Reading A) → readers count terminals ≡ outcome → Goes (readers count) (languages count) terminals outcome
          → Goes (all_from test readers count) (many_from languages count) terminals (then_read outcome (λ value. reads_both (up_from test readers times (count + 1)) (λ more. pure (value ∷ more))))
      onward later is (Ok (value, middle)) read one =
          let less = takes count terminals value middle read in
          goes_one count terminals value middle (up_from test readers times (count + 1) middle) is read one (later middle (omega arith))
      onward later is (Err fault) read one = goes_fault count terminals fault is one

      by : ((middle : Terminals) → length middle ≤ times → Goes (all_from test readers (count + 1)) (many_from languages (count + 1)) middle (up_from test readers times (count + 1) middle)) → (answer : Bool) → next_is test terminals ≡ answer
          → Goes (all_from test readers count) (many_from languages count) terminals (if answer then then_read (readers count terminals) (λ value. reads_both (up_from test readers times (count + 1)) (λ more. pure (value ∷ more))) else Ok ([], terminals))
      by later true is = onward later is (readers count terminals) refl ((each count).goes terminals)
      by later false is = goes_none count terminals is

  -- the rule as often as it comes, where the rule may hang on how many came before
  pub as_often_from : (count : ℕ) → Right lifts (all_from test readers count) (all_from test others count) (many_from languages count) first true (first ++ follow)
  as_often_from count =
      record {
        goes = λ terminals. goes_all (length terminals) count terminals (omega arith);
        reads = λ values terminals rest word none. reads_all values count terminals rest word none;
        begins = λ values terminals rest word. begins_all values count terminals rest word;
        some = ([], [], λ ending. refl);
        lifted = λ terminals real. lifted_all (length terminals) count terminals real;
        within = λ terminals. within_all (length terminals) count terminals;
      }
