-- Where the fault of a text stands, in the grammar's terms.
use Rattle.std.proofs.Common.{◌≡◌, ◌≤◌, ◌<◌, ◌+◌, ℕ, suc, Bool, true, false, [], ◌∷◌, ◌++◌, length, take, drop, Ok, Err, refl, sym, ap, ◌∙◌, subst, inl, inr, arith}
use Rattle.std.specs.Prelude.{◌==◌, not}
use Rattle.std.proofs.lemmas.Bool.{false≢true}
use Rattle.std.proofs.lemmas.List.{length-append}
use Rattle.own_model.specs.declared.limit.LimitName.{LimitName}
use Rattle.own_model.specs.declared.limit.LimitName.TheVariants as limit
use Rattle.own_model.specs.declared.limit.TheConstants.{NESTING_LEVELS}
use Rattle.own_model.specs.declared.statement.Statement.{Statement}
use Rattle.sql_reader.specs.declared.fault.RuleFault.{RuleFault}
use Rattle.sql_reader.specs.declared.fault.RuleFault.TheVariants.{Syntax, Limit, Memory}
use Rattle.grammar_model.specs.Continues.{Continues, IsSyntaxAt, IsLimitAt, IsNone, only}
use Rattle.grammar_model.specs.Limits.{Limits, store_limits, no_limits}
use Rattle.grammar_model.specs.Terminal.{Terminals}
use Rattle.sql_reader.specs.reading.Reader.{Reading, then_read}
use Rattle.sql_reader.specs.reading.Statements.{statement_rule}
use Rattle.sql_reader.proofs.ReaderRight.{stop_of, Beyond, Lifted, NoSlot}
use Rattle.sql_reader.proofs.Rules.Levels.{deeper, deeper-sum}
use Rattle.sql_reader.proofs.WholeTexts.{statement_right, statement_goes, whole_at, Fails, fails, reads_whole, no_more, drop-front, continues_to, take-front, raised, finish, ok_err, fault_of}
use Rattle.sql_reader.proofs.Lifts.{lift, Fair, fair-lift}

-- an outcome's fault stays where its limit is kept
fault_kept : (lifts : LimitName → Bool) (outcome other : Reading Statement) (fault : RuleFault × Terminals) → Lifted lifts outcome other → ((which : LimitName) → fault.0 ≡ Limit which → lifts which ≡ false) → then_read outcome finish ≡ Err fault → then_read other finish ≡ Err fault
fault_kept lifts (Ok (value, rest)) other fault same kept is = ap (λ o. then_read o finish) same ∙ is
fault_kept lifts (Err (Syntax, rest)) other fault same kept is = ap (λ o. then_read o finish) same ∙ is
fault_kept lifts (Err (Memory, rest)) other fault same kept is = ap (λ o. then_read o finish) same ∙ is
fault_kept lifts (Err (Limit which, rest)) other fault (inr same) kept is = ap (λ o. then_read o finish) same.1 ∙ is
fault_kept lifts (Err (Limit which, rest)) other fault (inl gone) kept is = absurd (false≢true (sym (kept which (sym (ap (λ o. (fault_of o).0) is))) ∙ gone.0))

-- what is read is read with less limits too
ok_kept : (lifts : LimitName → Bool) (outcome other : Reading Statement) (found : Statement) → Lifted lifts outcome other → then_read outcome finish ≡ Ok (found, []) → then_read other finish ≡ Ok (found, [])
ok_kept lifts (Ok (value, rest)) other found same is = ap (λ o. then_read o finish) same ∙ is
ok_kept lifts (Err fault) other found same is = absurd (ok_err found [] fault (sym is))

-- the limit of a fault, or another
abbrev pub limit_of : RuleFault → LimitName → LimitName
limit_of (Limit which) other = which
limit_of Syntax other = other
limit_of Memory other = other

pub syntax_limit : (which : LimitName) → Syntax ≡ Limit which → ⊥
syntax_limit which same = cc

pub memory_limit : (which : LimitName) → Memory ≡ Limit which → ⊥
memory_limit which same = cc

-- where the limit is lifted, the outcome is past the fault
pub fault_passed : (lifts : LimitName → Bool) (outcome other : Reading Statement) (name : LimitName) (rest : Terminals) → Lifted lifts outcome other → lifts name ≡ true → then_read outcome finish ≡ Err (Limit name, rest) → Beyond lifts name rest other
fault_passed lifts (Ok (value, [])) other limited rest same free is = absurd (ok_err value [] (Limit limited, rest) is)
fault_passed lifts (Ok (value, terminal ∷ behind)) other limited rest same free is = absurd (syntax_limit limited (ap (λ o. (fault_of o).0) is))
fault_passed lifts (Err (Syntax, behind)) other limited rest same free is = absurd (syntax_limit limited (ap (λ o. (fault_of o).0) is))
fault_passed lifts (Err (Memory, behind)) other limited rest same free is = absurd (memory_limit limited (ap (λ o. (fault_of o).0) is))
fault_passed lifts (Err (Limit which, behind)) other limited rest (inr kept) free is = absurd (false≢true (sym kept.0 ∙ ap lifts (ap (λ o. limit_of (fault_of o).0 which) is) ∙ free))
fault_passed lifts (Err (Limit which, behind)) other limited rest (inl gone) free is =
    subst (λ r. Beyond lifts limited r other) (ap (λ o. (fault_of o).1) is) (subst (λ n. Beyond lifts n behind other) (ap (λ o. limit_of (fault_of o).0 which) is) gone.1)

pub store_fair : Fair store_limits
store_fair = record { name = refl; text = refl }

pub free_fair : Fair no_limits
free_fair = record { name = refl; text = refl }

-- the limit of levels alone is lifted
nesting_lifts : LimitName → Bool
nesting_lifts limit.Nesting = true
nesting_lifts _ = false

-- what is read with some levels is read with more
more_levels : (limits : Limits) → Fair limits → (extra levels : ℕ) (terminals : Terminals) (found : Statement) → whole_at limits levels terminals ≡ Ok (found, []) → whole_at limits (deeper extra levels) terminals ≡ Ok (found, [])
unfolding nesting_lifts
more_levels limits fair extra levels terminals found is =
    ok_kept nesting_lifts (statement_rule limits levels terminals) (statement_rule limits (deeper extra levels) terminals) found ((statement_right nesting_lifts limits fair extra levels).lifted terminals (λ lifted. absurd (false≢true lifted))) is

-- the number of a limit, by which two are told apart
unfoldable pub number_of_limit : LimitName → ℕ
number_of_limit limit.Statement = 0
number_of_limit limit.Nesting = 1
number_of_limit limit.Text = 2
number_of_limit limit.Items = 3
number_of_limit limit.Name = 4
number_of_limit limit.Columns = 5
number_of_limit limit.Tables = 6
number_of_limit limit.Views = 7
number_of_limit limit.Reply = 8
number_of_limit limit.Rows = 9
number_of_limit limit.Weight = 10
number_of_limit limit.Room = 11

-- all limits but this one are lifted
unfoldable pub all_but : LimitName → LimitName → Bool
all_but name which = not (number_of_limit name == number_of_limit which)

pub all_but-self : (name : LimitName) → all_but name name ≡ false
unfolding all_but number_of_limit
all_but-self limit.Statement = refl
all_but-self limit.Nesting = refl
all_but-self limit.Text = refl
all_but-self limit.Items = refl
all_but-self limit.Name = refl
all_but-self limit.Columns = refl
all_but-self limit.Tables = refl
all_but-self limit.Views = refl
all_but-self limit.Reply = refl
all_but-self limit.Rows = refl
all_but-self limit.Weight = refl
all_but-self limit.Room = refl

pub all_but-lift : (name : LimitName) → lift (all_but name) store_limits ≡ only name
unfolding all_but number_of_limit
all_but-lift limit.Statement = refl
all_but-lift limit.Nesting = refl
all_but-lift limit.Text = refl
all_but-lift limit.Items = refl
all_but-lift limit.Name = refl
all_but-lift limit.Columns = refl
all_but-lift limit.Tables = refl
all_but-lift limit.Views = refl
all_but-lift limit.Reply = refl
all_but-lift limit.Rows = refl
all_but-lift limit.Weight = refl
all_but-lift limit.Room = refl

pub only_fair : (name : LimitName) → Fair (only name)
only_fair name = subst Fair (all_but-lift name) (fair-lift (all_but name) store_limits store_fair)

-- where all but one are lifted and levels are not, that one is the limit of levels
nesting_alone : (name : LimitName) → all_but name limit.Nesting ≡ false → name ≡ limit.Nesting
unfolding all_but number_of_limit
nesting_alone limit.Nesting kept = refl
nesting_alone limit.Statement kept = absurd (false≢true (sym kept))
nesting_alone limit.Text kept = absurd (false≢true (sym kept))
nesting_alone limit.Items kept = absurd (false≢true (sym kept))
nesting_alone limit.Name kept = absurd (false≢true (sym kept))
nesting_alone limit.Columns kept = absurd (false≢true (sym kept))
nesting_alone limit.Tables kept = absurd (false≢true (sym kept))
nesting_alone limit.Views kept = absurd (false≢true (sym kept))
nesting_alone limit.Reply kept = absurd (false≢true (sym kept))
nesting_alone limit.Rows kept = absurd (false≢true (sym kept))
nesting_alone limit.Weight kept = absurd (false≢true (sym kept))
nesting_alone limit.Room kept = absurd (false≢true (sym kept))

-- all limits are lifted
unfoldable pub all_lift : LimitName → Bool
all_lift which = true

-- the same fault leaves the same front
front-length : (front other rest : Terminals) → front ++ rest ≡ other ++ rest → length front ≡ length other
front-length front other rest same = let lengths = sym (length-append front rest) ∙ ap length same ∙ length-append other rest in omega arith

module _ (terminals : Terminals) (real : NoSlot terminals) where
  pub none_is : (fault : RuleFault × Terminals) → whole_at store_limits NESTING_LEVELS terminals ≡ Err fault → IsNone terminals
  none_is fault is found text = ok_err found [] fault (sym (reads_whole store_limits store_fair NESTING_LEVELS found terminals text) ∙ is)

  before : (fault : RuleFault × Terminals) (failed : Fails store_limits NESTING_LEVELS terminals fault) → Continues store_limits NESTING_LEVELS terminals (length failed.front)
  before fault failed =
      record {
        found = failed.begins.0;
        spelling = failed.front ++ failed.begins.1;
        spells = failed.begins.2;
        same = take-front (length failed.front) failed.front failed.begins.1 fault.1 (omega arith) ∙ ap (take (length failed.front)) (sym failed.is);
      }

  -- with other limits the same fault ends all statements, for levels that are raised alike
  pub ends_there : (limits : Limits) → Fair limits → (deep levels : ℕ) (fault : RuleFault × Terminals) → whole_at limits deep terminals ≡ Err fault → (front : Terminals) → terminals ≡ front ++ fault.1 → ((other : Terminals) (found : Statement) → whole_at limits levels other ≡ Ok (found, []) → whole_at limits deep other ≡ Ok (found, []))
      → Continues limits levels terminals (suc (length front)) → ⊥
  ends_there limits fair deep levels fault is front stands raise going =
      let failed = fails limits fair deep terminals fault is in
      no_more limits fair deep levels terminals fault failed raise (subst (λ n. Continues limits levels terminals (suc n)) (front-length front failed.front fault.1 (sym stands ∙ failed.is)) going)

  -- without limits no statement goes on through a fault that is no limit's
  pub ends_freely : (fault : RuleFault × Terminals) → ((which : LimitName) → fault.0 ≡ Limit which → ⊥) → whole_at store_limits NESTING_LEVELS terminals ≡ Err fault → (failed : Fails store_limits NESTING_LEVELS terminals fault) (levels : ℕ) → Continues no_limits levels terminals (suc (length failed.front)) → ⊥
  unfolding all_lift
  ends_freely fault free is failed levels going =
      ends_there no_limits free_fair (deeper levels NESTING_LEVELS) levels fault kept failed.front failed.is
      (λ other found read. subst (λ n. whole_at no_limits n other ≡ Ok (found, [])) both_ways (more_levels no_limits free_fair NESTING_LEVELS levels other found read)) going
    where
      kept : whole_at no_limits (deeper levels NESTING_LEVELS) terminals ≡ Err fault
      kept = fault_kept all_lift (statement_rule store_limits NESTING_LEVELS terminals) (statement_rule no_limits (deeper levels NESTING_LEVELS) terminals) fault ((statement_right all_lift store_limits store_fair levels NESTING_LEVELS).lifted terminals (λ lifted. real)) (λ which same. absurd (free which same)) is

      both_ways : deeper NESTING_LEVELS levels ≡ deeper levels NESTING_LEVELS
      both_ways = let one = deeper-sum NESTING_LEVELS levels in let two = deeper-sum levels NESTING_LEVELS in omega arith

  -- a fault of syntax
  pub syntax_at : (rest : Terminals) → whole_at store_limits NESTING_LEVELS terminals ≡ Err (Syntax, rest) → (at : ℕ) × IsSyntaxAt terminals at × (drop at terminals ≡ rest)
  syntax_at rest is =
      let failed = fails store_limits store_fair NESTING_LEVELS terminals (Syntax, rest) is in (
        length failed.front,
        record { none = none_is (Syntax, rest) is; before = before (Syntax, rest) failed; ends = ends_freely (Syntax, rest) syntax_limit is failed },
        ap (drop (length failed.front)) failed.is ∙ drop-front failed.front rest,
      )

  -- with this limit alone the fault is the same
  only_this : (name : LimitName) (rest : Terminals) (extra : ℕ) → whole_at store_limits NESTING_LEVELS terminals ≡ Err (Limit name, rest) → whole_at (only name) (raised (all_but name limit.Nesting) extra NESTING_LEVELS) terminals ≡ Err (Limit name, rest)
  only_this name rest extra is =
      subst (λ l. whole_at l (raised (all_but name limit.Nesting) extra NESTING_LEVELS) terminals ≡ Err (Limit name, rest)) (all_but-lift name)
      (fault_kept (all_but name) (statement_rule store_limits NESTING_LEVELS terminals) (statement_rule (lift (all_but name) store_limits) (raised (all_but name limit.Nesting) extra NESTING_LEVELS) terminals) (Limit name, rest)
      ((statement_right (all_but name) store_limits store_fair extra NESTING_LEVELS).lifted terminals (λ lifted. real)) (λ which same. ap (all_but name) (sym (ap (λ f. limit_of f which) same)) ∙ all_but-self name) is)

  pub further : (name : LimitName) (rest : Terminals) (failed : Fails store_limits NESTING_LEVELS terminals (Limit name, rest)) (outcome : Reading Statement) → length (stop_of outcome) < length rest → suc (length failed.front) + length (stop_of outcome) ≤ length terminals
  further limited rest failed outcome less = let lengths = ap length failed.is ∙ length-append failed.front rest in omega arith

  -- without limits a statement goes on through the terminal
  goes_on : (name : LimitName) (rest : Terminals) → whole_at store_limits NESTING_LEVELS terminals ≡ Err (Limit name, rest) → (failed : Fails store_limits NESTING_LEVELS terminals (Limit name, rest)) → (levels : ℕ) × Continues no_limits levels terminals (suc (length failed.front))
  unfolding all_lift
  goes_on name rest is failed = (suc NESTING_LEVELS, by (fault_passed all_lift (statement_rule store_limits NESTING_LEVELS terminals) (statement_rule no_limits (suc NESTING_LEVELS) terminals) name rest ((statement_right all_lift store_limits store_fair 0 NESTING_LEVELS).lifted terminals (λ lifted. real)) refl is))
    where
      by : Beyond all_lift name rest (statement_rule no_limits (suc NESTING_LEVELS) terminals) → Continues no_limits (suc NESTING_LEVELS) terminals (suc (length failed.front))
      by (inl less) = continues_to no_limits (suc NESTING_LEVELS) terminals (statement_rule no_limits (suc NESTING_LEVELS) terminals) (statement_goes no_limits free_fair (suc NESTING_LEVELS) terminals) (suc (length failed.front)) (further name rest failed (statement_rule no_limits (suc NESTING_LEVELS) terminals) less)
      by (inr named) = absurd (false≢true (sym named.1))

  -- nor is a name's limit told where items are too many
  not_items : (name : LimitName) (rest : Terminals) → whole_at store_limits NESTING_LEVELS terminals ≡ Err (Limit name, rest) → (failed : Fails store_limits NESTING_LEVELS terminals (Limit name, rest)) → name ≡ limit.Name → (levels : ℕ) × Continues (only limit.Items) levels terminals (suc (length failed.front))
  unfolding all_but number_of_limit
  not_items name rest is failed named =
      (suc NESTING_LEVELS, by (fault_passed (all_but limit.Items) (statement_rule store_limits NESTING_LEVELS terminals) (statement_rule (only limit.Items) (suc NESTING_LEVELS) terminals) name rest ((statement_right (all_but limit.Items) store_limits store_fair 0 NESTING_LEVELS).lifted terminals (λ lifted. real)) (ap (all_but limit.Items) named) is))
    where
      by : Beyond (all_but limit.Items) name rest (statement_rule (only limit.Items) (suc NESTING_LEVELS) terminals) → Continues (only limit.Items) (suc NESTING_LEVELS) terminals (suc (length failed.front))
      by (inl less) = continues_to (only limit.Items) (suc NESTING_LEVELS) terminals (statement_rule (only limit.Items) (suc NESTING_LEVELS) terminals) (statement_goes (only limit.Items) (only_fair limit.Items) (suc NESTING_LEVELS) terminals) (suc (length failed.front)) (further name rest failed (statement_rule (only limit.Items) (suc NESTING_LEVELS) terminals) less)
      by (inr items) = absurd (false≢true (ap (all_but limit.Items) (sym items.0 ∙ named)))

  -- a fault of a limit
  pub limit_at : (name : LimitName) (rest : Terminals) → whole_at store_limits NESTING_LEVELS terminals ≡ Err (Limit name, rest) → (at : ℕ) × IsLimitAt name terminals at
  limit_at name rest is =
      let failed = fails store_limits store_fair NESTING_LEVELS terminals (Limit name, rest) is in (
        length failed.front,
        record { none = none_is (Limit name, rest) is; before = before (Limit name, rest) failed; ends = ends failed; goes_on = goes_on name rest is failed; not_items = not_items name rest is failed },
      )
    where
      ends : (failed : Fails store_limits NESTING_LEVELS terminals (Limit name, rest)) (levels : ℕ) → (name ≡ limit.Nesting → levels ≡ NESTING_LEVELS) → Continues (only name) levels terminals (suc (length failed.front)) → ⊥
      ends failed levels fixed going = by (all_but name limit.Nesting) refl
        where
          both_ways : deeper NESTING_LEVELS levels ≡ deeper levels NESTING_LEVELS
          both_ways = let one = deeper-sum NESTING_LEVELS levels in let two = deeper-sum levels NESTING_LEVELS in omega arith

          by : (freed : Bool) → all_but name limit.Nesting ≡ freed → ⊥
          by true free =
              ends_there (only name) (only_fair name) (deeper levels NESTING_LEVELS) levels (Limit name, rest) (subst (λ b. whole_at (only name) (raised b levels NESTING_LEVELS) terminals ≡ Err (Limit name, rest)) free (only_this name rest levels is)) failed.front failed.is
              (λ other found read. subst (λ n. whole_at (only name) n other ≡ Ok (found, [])) both_ways (more_levels (only name) (only_fair name) NESTING_LEVELS levels other found read)) going
          by false kept =
              ends_there (only name) (only_fair name) NESTING_LEVELS levels (Limit name, rest) (subst (λ b. whole_at (only name) (raised b levels NESTING_LEVELS) terminals ≡ Err (Limit name, rest)) kept (only_this name rest levels is)) failed.front failed.is
              (λ other found read. subst (λ n. whole_at (only name) n other ≡ Ok (found, [])) (fixed (nesting_alone name kept)) read) going
