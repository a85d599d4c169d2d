-- A text has one answer.
use Rattle.std.proofs.Common.{◌≡◌, ◌≤◌, ◌+◌, ℕ, zero, suc, Bool, true, false, List, [], ◌∷◌, length, take, drop, Ok, Err, refl, sym, ap, ◌∙◌, subst, inl, inr, arith}
use Rattle.std.specs.Prelude.{◌==◌, not, nat_le}
use Rattle.std.proofs.lemmas.Bool.{false≢true}
use Rattle.std.proofs.lemmas.List.{length-append}
use Rattle.own_model.specs.declared.limit.LimitName.{LimitName}
use Rattle.own_model.specs.declared.limit.LimitName.TheVariants as limit
use Rattle.own_model.specs.declared.limit.TheConstants.{NESTING_LEVELS}
use Rattle.own_model.specs.declared.statement.Statement.{Statement}
use Rattle.sql_reader.specs.declared.fault.RuleFault.{RuleFault}
use Rattle.sql_reader.specs.declared.fault.RuleFault.TheVariants.{Syntax, Limit, Memory}
use Rattle.grammar_model.specs.Answer.{Answer, GivesStatement, StopsAt, PassesLimit, IsAnswerFor}
use Rattle.grammar_model.specs.Continues.{Continues, IsSyntaxAt, IsLimitAt, IsNone, only}
use Rattle.grammar_model.specs.Limits.{Limits, store_limits, no_limits}
use Rattle.grammar_model.specs.Terminal.{Terminals}
use Rattle.sql_reader.specs.reading.Reader.{Reading, then_read}
use Rattle.grammar_model.specs.Terminal.{byte_of}
use Rattle.sql_reader.specs.reading.Statements.{statement_rule}
use Rattle.sql_reader.specs.reading.Whole.{whole}
use Rattle.sql_reader.proofs.WholeEnds.{whole-ends}
use Rattle.sql_reader.proofs.Lifts.{lift, Fair}
use Rattle.sql_reader.proofs.ReaderRight.{stop_of, Beyond, Lifted, NoSlot}
use Rattle.sql_reader.proofs.WholeTexts.{statement_right, statement_goes, whole_at, Fails, fails, raised, finish, continues_to, means_whole, fault_of, ok_err}
use Rattle.sql_reader.proofs.FaultPlaces.{store_fair, free_fair, all_but, all_but-lift, all_but-self, number_of_limit, only_fair, fault_passed, all_lift, ends_there, ends_freely, syntax_limit, memory_limit, limit_at}

take-less : (count more : ℕ) (one other : Terminals) → count ≤ more → take more one ≡ take more other → take count one ≡ take count other
take-less zero more one other less same = refl
take-less (suc count) zero one other less same = absurd (omega (arith, less))
take-less (suc count) (suc more) [] [] less same = refl
take-less (suc count) (suc more) [] (terminal ∷ other) less same = absurd (wrong same)
  where
    wrong : ◌≡◌ {A = Terminals} [] (terminal ∷ take more other) → ⊥
    wrong same = cc
take-less (suc count) (suc more) (terminal ∷ one) [] less same = absurd (wrong same)
  where
    wrong : ◌≡◌ {A = Terminals} (terminal ∷ take more one) [] → ⊥
    wrong same = cc
take-less (suc count) (suc more) (terminal ∷ one) (next ∷ other) less same =
    let first : terminal ≡ next = cc in
    let rest : take more one ≡ take more other = cc in
    let later = take-less count more one other (omega arith) rest in
    (λ i. first i ∷ later i)

-- what continues so far continues less far
continues-less : (limits : Limits) (levels count more : ℕ) (terminals : Terminals) → count ≤ more → Continues limits levels terminals more → Continues limits levels terminals count
continues-less limits levels count more terminals less going = record { found = going.found; spelling = going.spelling; spells = going.spells; same = take-less count more going.spelling terminals less going.same }

-- a limit by its number
limit_by : ℕ → LimitName
limit_by zero = limit.Statement
limit_by (suc zero) = limit.Nesting
limit_by (suc (suc zero)) = limit.Text
limit_by (suc (suc (suc zero))) = limit.Items
limit_by (suc (suc (suc (suc zero)))) = limit.Name
limit_by (suc (suc (suc (suc (suc zero))))) = limit.Columns
limit_by (suc (suc (suc (suc (suc (suc zero)))))) = limit.Tables
limit_by (suc (suc (suc (suc (suc (suc (suc zero))))))) = limit.Views
limit_by (suc (suc (suc (suc (suc (suc (suc (suc zero)))))))) = limit.Reply
limit_by (suc (suc (suc (suc (suc (suc (suc (suc (suc zero))))))))) = limit.Rows
limit_by (suc (suc (suc (suc (suc (suc (suc (suc (suc (suc zero)))))))))) = limit.Weight
limit_by _ = limit.Room

limit_by-number : (name : LimitName) → limit_by (number_of_limit name) ≡ name
unfolding limit_by number_of_limit
limit_by-number limit.Statement = refl
limit_by-number limit.Nesting = refl
limit_by-number limit.Text = refl
limit_by-number limit.Items = refl
limit_by-number limit.Name = refl
limit_by-number limit.Columns = refl
limit_by-number limit.Tables = refl
limit_by-number limit.Views = refl
limit_by-number limit.Reply = refl
limit_by-number limit.Rows = refl
limit_by-number limit.Weight = refl
limit_by-number limit.Room = refl

-- the one limit that is kept
kept_alone : (name which : LimitName) → all_but name which ≡ false → name ≡ which
unfolding all_but
kept_alone name which kept = sym (limit_by-number name) ∙ ap limit_by (same (number_of_limit name) (number_of_limit which) kept) ∙ limit_by-number which
  where
    same : (one other : ℕ) → not (one == other) ≡ false → one ≡ other
    same one other is = grind arith

items_nesting : limit.Items ≡ limit.Nesting → ⊥
items_nesting same = cc

-- where some limits are lifted, reading stops no sooner
stops_further : (lifts : LimitName → Bool) (outcome other : Reading Statement) (fault : RuleFault × Terminals) → Lifted lifts outcome other → then_read outcome finish ≡ Err fault → length (stop_of other) ≤ length fault.1
stops_further lifts (Ok (value, [])) other fault same is = absurd (ok_err value [] fault is)
stops_further lifts (Ok (value, terminal ∷ rest)) other fault same is = let stop = ap (λ o. length (stop_of o)) same in let end = ap (λ o. length (fault_of o).1) is in omega arith
stops_further lifts (Err (Syntax, rest)) other fault same is = let stop = ap (λ o. length (stop_of o)) same in let end = ap (λ o. length (fault_of o).1) is in omega arith
stops_further lifts (Err (Memory, rest)) other fault same is = let stop = ap (λ o. length (stop_of o)) same in let end = ap (λ o. length (fault_of o).1) is in omega arith
stops_further lifts (Err (Limit which, rest)) other fault (inr kept) is = let stop = ap (λ o. length (stop_of o)) kept.1 in let end = ap (λ o. length (fault_of o).1) is in omega arith
stops_further lifts (Err (Limit which, rest)) other fault (inl (free, inl less)) is = let end = ap (λ o. length (fault_of o).1) is in omega arith
stops_further lifts (Err (Limit which, rest)) other fault (inl (free, inr named)) is = let stop = ap (λ o. length (stop_of o)) named.2 in let end = ap (λ o. length (fault_of o).1) is in omega arith

module _ (terminals : Terminals) (real : NoSlot terminals) (fault : RuleFault × Terminals) (is : whole_at store_limits NESTING_LEVELS terminals ≡ Err fault) where
  failed : Fails store_limits NESTING_LEVELS terminals fault
  failed = fails store_limits store_fair NESTING_LEVELS terminals fault is

  stands : (count : ℕ) (stop : Terminals) → count ≤ length failed.front → length stop ≤ length fault.1 → count + length stop ≤ length terminals
  stands count stop short less = let lengths = ap length failed.is ∙ length-append failed.front fault.1 in omega arith

  -- up to the fault a statement continues, whatever limits are lifted
  continues_there : (lifts : LimitName → Bool) → Fair (lift lifts store_limits) → (count : ℕ) → count ≤ length failed.front → Continues (lift lifts store_limits) (raised (lifts limit.Nesting) 0 NESTING_LEVELS) terminals count
  continues_there lifts fair count short =
      let outcome = statement_rule (lift lifts store_limits) (raised (lifts limit.Nesting) 0 NESTING_LEVELS) terminals in
      continues_to (lift lifts store_limits) (raised (lifts limit.Nesting) 0 NESTING_LEVELS) terminals outcome (statement_goes (lift lifts store_limits) fair (raised (lifts limit.Nesting) 0 NESTING_LEVELS) terminals) count
      (stands count (stop_of outcome) short (stops_further lifts (statement_rule store_limits NESTING_LEVELS terminals) outcome fault ((statement_right lifts store_limits store_fair 0 NESTING_LEVELS).lifted terminals (λ lifted. real)) is))

  -- with the limits no statement goes on after the fault
  not_past : (at : ℕ) → Continues store_limits NESTING_LEVELS terminals at → at ≤ length failed.front
  not_past at going = by (nat_le at (length failed.front)) refl
    where
      by : (answer : Bool) → nat_le at (length failed.front) ≡ answer → at ≤ length failed.front
      by true less = grind arith
      by false more = absurd (ends_there terminals real store_limits store_fair NESTING_LEVELS NESTING_LEVELS fault is failed.front failed.is (λ other found read. read) (continues-less store_limits NESTING_LEVELS (suc (length failed.front)) at terminals (grind arith) going))

  -- a fault of syntax stands there
  syntax_there : (at : ℕ) → IsSyntaxAt terminals at → at ≡ length failed.front
  unfolding all_lift
  syntax_there at stood = by (nat_le (length failed.front) at) refl
    where
      by : (answer : Bool) → nat_le (length failed.front) at ≡ answer → at ≡ length failed.front
      by true less = let short = not_past at stood.before in grind arith
      by false more = absurd (stood.ends (suc NESTING_LEVELS) (continues_there all_lift free_fair (suc at) (grind arith)))

  -- so does a limit
  limit_there : (name : LimitName) (at : ℕ) → IsLimitAt name terminals at → at ≡ length failed.front
  limit_there name at stood = by (nat_le (length failed.front) at) refl
    where
      levels : (free : Bool) → all_but name limit.Nesting ≡ free → name ≡ limit.Nesting → raised free 0 NESTING_LEVELS ≡ NESTING_LEVELS
      levels true free named = absurd (false≢true (sym (all_but-self limit.Nesting) ∙ ap (λ n. all_but n limit.Nesting) (sym named) ∙ free))
      levels false kept named = refl

      by : (answer : Bool) → nat_le (length failed.front) at ≡ answer → at ≡ length failed.front
      by true less = let short = not_past at stood.before in grind arith
      by false more =
          absurd (stood.ends (raised (all_but name limit.Nesting) 0 NESTING_LEVELS) (levels (all_but name limit.Nesting) refl)
          (subst (λ l. Continues l (raised (all_but name limit.Nesting) 0 NESTING_LEVELS) terminals (suc at)) (all_but-lift name) (continues_there (all_but name) (subst Fair (sym (all_but-lift name)) (only_fair name)) (suc at) (grind arith))))

  -- no statement goes on through the fault, where it is no limit's
  limits_only : ((which : LimitName) → fault.0 ≡ Limit which → ⊥) → (name : LimitName) (at : ℕ) → IsLimitAt name terminals at → ⊥
  limits_only free name at stood = ends_freely terminals real fault free is failed stood.goes_on.0 (subst (λ n. Continues no_limits stood.goes_on.0 terminals (suc n)) (limit_there name at stood) stood.goes_on.1)

  -- the limit is the fault's
  limit_named : (own : LimitName) (rest : Terminals) → (Limit own, rest) ≡ fault → (name : LimitName) (at : ℕ) → IsLimitAt name terminals at → name ≡ own
  limit_named own rest same name at stood = by (all_but name own) refl
    where
      here : at ≡ length failed.front
      here = limit_there name at stood

      levels : (free : Bool) → all_but name limit.Nesting ≡ free → name ≡ limit.Nesting → raised free 0 NESTING_LEVELS ≡ NESTING_LEVELS
      levels true free named = absurd (false≢true (sym (all_but-self limit.Nesting) ∙ ap (λ n. all_but n limit.Nesting) (sym named) ∙ free))
      levels false kept named = refl

      not_nesting : own ≡ limit.Items → own ≡ limit.Nesting → ⊥
      not_nesting items nesting = absurd (items_nesting (sym items ∙ nesting))

      outcome : Reading Statement
      outcome = statement_rule (lift (all_but name) store_limits) (raised (all_but name limit.Nesting) 0 NESTING_LEVELS) terminals

      is_limit : whole_at store_limits NESTING_LEVELS terminals ≡ Err (Limit own, rest)
      is_limit = is ∙ ap (λ f. Err f) (sym same)

      fair : Fair (lift (all_but name) store_limits)
      fair = subst Fair (sym (all_but-lift name)) (only_fair name)

      past : Beyond (all_but name) own rest outcome → ⊥
      past (inl less) =
          stood.ends (raised (all_but name limit.Nesting) 0 NESTING_LEVELS) (levels (all_but name limit.Nesting) refl)
          (subst (λ l. Continues l (raised (all_but name limit.Nesting) 0 NESTING_LEVELS) terminals (suc at)) (all_but-lift name)
          (continues_to (lift (all_but name) store_limits) (raised (all_but name limit.Nesting) 0 NESTING_LEVELS) terminals outcome (statement_goes (lift (all_but name) store_limits) fair (raised (all_but name limit.Nesting) 0 NESTING_LEVELS) terminals) (suc at)
          (let lengths = ap length failed.is ∙ length-append failed.front fault.1 in let rests = ap (λ f. length f.1) same in let there = here in omega arith)))
      past (inr named) =
          let theirs = limit_at terminals real own rest is_limit in
          let other = stood.not_items (kept_alone name limit.Name named.1) in
          theirs.1.ends other.0 (λ nesting. absurd (not_nesting named.0 nesting))
          (subst (λ n. Continues (only own) other.0 terminals (suc n)) (here ∙ sym (limit_there own theirs.0 theirs.1)) (subst (λ n. Continues (only n) other.0 terminals (suc at)) (sym named.0) other.1))

      by : (answer : Bool) → all_but name own ≡ answer → name ≡ own
      by false kept = kept_alone name own kept
      by true free = absurd (past (fault_passed (all_but name) (statement_rule store_limits NESTING_LEVELS terminals) outcome own rest ((statement_right (all_but name) store_limits store_fair 0 NESTING_LEVELS).lifted terminals (λ lifted. real)) free is_limit))

  -- two limits that are met are one
  limits_same : (one other : LimitName) (at place : ℕ) → IsLimitAt one terminals at → IsLimitAt other terminals place → one ≡ other
  limits_same one other at place stood stands = by fault refl
    where
      by : (met : RuleFault × Terminals) → met ≡ fault → one ≡ other
      by (Syntax, rest) same = absurd (limits_only (λ which met. syntax_limit which (ap (λ f. f.0) same ∙ met)) one at stood)
      by (Memory, rest) same = absurd (limits_only (λ which met. memory_limit which (ap (λ f. f.0) same ∙ met)) one at stood)
      by (Limit own, rest) same = limit_named own rest same one at stood ∙ sym (limit_named own rest same other place stands)

-- after what is read nothing stands
ended_there : (terminals : Terminals) (found : Statement) (rest : Terminals) → whole_at store_limits NESTING_LEVELS terminals ≡ Ok (found, rest) → rest ≡ []
unfolding whole
ended_there terminals found rest is = whole-ends terminals found rest is

-- where no statement has the terminals, reading meets a fault
read_fault : {A : Type 0} (terminals : Terminals) → NoSlot terminals → IsNone terminals → ((fault : RuleFault × Terminals) → whole_at store_limits NESTING_LEVELS terminals ≡ Err fault → A) → A
read_fault {A = A} terminals real none then_so = by (whole_at store_limits NESTING_LEVELS terminals) refl
  where
    by : (outcome : Reading Statement) → whole_at store_limits NESTING_LEVELS terminals ≡ outcome → A
    by (Err fault) is = then_so fault is
    by (Ok (found, rest)) is = absurd (none found (means_whole store_limits store_fair NESTING_LEVELS found terminals (is ∙ ap (λ l. Ok (found, l)) (ended_there terminals found rest is))))

-- two answers for the same terminals are one
pub answers_same : (text : List ℕ) (terminals : Terminals) → NoSlot terminals → (one other : Answer) → IsAnswerFor text terminals one → IsAnswerFor text terminals other → one ≡ other
answers_same text terminals real (GivesStatement found) (GivesStatement other) is same = ap GivesStatement (same.1 found is.0)
answers_same text terminals real (GivesStatement found) (StopsAt byte) is same = absurd (same.1.none found is.0)
answers_same text terminals real (GivesStatement found) (PassesLimit which) is same = absurd (same.1.none found is.0)
answers_same text terminals real (StopsAt byte) (GivesStatement found) is same = absurd (is.1.none found same.0)
answers_same text terminals real (StopsAt byte) (StopsAt place) is same =
    let at = read_fault terminals real is.1.none (λ fault failing. syntax_there terminals real fault failing is.0 is.1 ∙ sym (syntax_there terminals real fault failing same.0 same.1)) in
    ap StopsAt (is.2 ∙ ap (λ n. byte_of (length text) (drop n terminals)) at ∙ sym same.2)
answers_same text terminals real (StopsAt byte) (PassesLimit which) is same =
    let at = read_fault terminals real is.1.none (λ fault failing. syntax_there terminals real fault failing is.0 is.1 ∙ sym (limit_there terminals real fault failing which same.0 same.1)) in
    absurd (is.1.ends same.1.goes_on.0 (subst (λ n. Continues no_limits same.1.goes_on.0 terminals (suc n)) (sym at) same.1.goes_on.1))
answers_same text terminals real (PassesLimit which) (GivesStatement found) is same = absurd (is.1.none found same.0)
answers_same text terminals real (PassesLimit which) (StopsAt byte) is same =
    let at = read_fault terminals real is.1.none (λ fault failing. syntax_there terminals real fault failing same.0 same.1 ∙ sym (limit_there terminals real fault failing which is.0 is.1)) in
    absurd (same.1.ends is.1.goes_on.0 (subst (λ n. Continues no_limits is.1.goes_on.0 terminals (suc n)) (sym at) is.1.goes_on.1))
answers_same text terminals real (PassesLimit which) (PassesLimit other) is same =
    ap PassesLimit (read_fault terminals real is.1.none (λ fault failing. limits_same terminals real fault failing which other is.0 same.0 is.1 same.1))
