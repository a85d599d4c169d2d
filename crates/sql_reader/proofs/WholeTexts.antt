-- What comes of a whole text.
use Rattle.std.proofs.Common.{◌≡◌, ◌≤◌, ◌+◌, ℕ, zero, suc, Bool, true, false, [], ◌∷◌, ◌++◌, length, take, drop, Ok, Err, refl, sym, ap, ◌∙◌, subst, arith, append_assoc}
use Rattle.std.specs.Prelude.{Some}
use Rattle.std.proofs.lemmas.List.{length-append}
use Rattle.own_model.specs.declared.limit.LimitName.{LimitName}
use Rattle.own_model.specs.declared.limit.LimitName.TheVariants as limit
use Rattle.own_model.specs.declared.statement.Statement.{Statement}
use Rattle.sql_reader.specs.declared.fault.RuleFault.{RuleFault}
use Rattle.sql_reader.specs.declared.fault.RuleFault.TheVariants.{Syntax, Memory}
use Rattle.grammar_model.specs.Continues.{Continues}
use Rattle.grammar_model.specs.Grammar as grammar
use Rattle.grammar_model.specs.Limits.{Limits}
use Rattle.sql_reader.specs.reading.Whole.{ended}
use Rattle.grammar_model.specs.Terminal.{Terminals}
use Rattle.sql_reader.specs.reading.Reader.{Reading, Reader, then_read, pure}
use Rattle.sql_reader.specs.reading.Statements.{statement_rule}
use Rattle.sql_reader.proofs.Exactly.{none-some}
use Rattle.sql_reader.proofs.ReaderRight.{next_of, stop_of, Means, Goes, Right, reads_both}
use Rattle.sql_reader.proofs.Rules.Levels.{neg_kept, neg_freed, deeper}
use Rattle.sql_reader.proofs.Rules.Statements.{statement_rule_right, begins_statement, after_statement}
use Rattle.sql_reader.proofs.Lifts.{lift, Fair}

-- that many levels more where their limit is lifted
abbrev pub raised : Bool → ℕ → ℕ → ℕ
raised true extra levels = deeper extra levels
raised false extra levels = levels

-- the rule of a statement, with some limits lifted in the other reader
pub statement_right : (lifts : LimitName → Bool) (limits : Limits) → Fair limits → (extra levels : ℕ) → Right lifts (statement_rule limits levels) (statement_rule (lift lifts limits) (raised (lifts limit.Nesting) extra levels)) (grammar.statement limits levels) begins_statement false after_statement
statement_right lifts limits fair extra levels = by (lifts limit.Nesting) refl
  where
    by : (freed : Bool) → lifts limit.Nesting ≡ freed → Right lifts (statement_rule limits levels) (statement_rule (lift lifts limits) (raised freed extra levels)) (grammar.statement limits levels) begins_statement false after_statement
    by true is = statement_rule_right lifts limits fair levels (deeper extra levels) (neg_freed lifts limits fair is extra levels)
    by false is = statement_rule_right lifts limits fair levels levels (neg_kept lifts limits fair is levels)

-- no limit is lifted
pub none_lifts : LimitName → Bool
none_lifts which = false

pub statement_goes : (limits : Limits) → Fair limits → (levels : ℕ) (terminals : Terminals) → Goes (statement_rule limits levels) (grammar.statement limits levels) terminals (statement_rule limits levels terminals)
statement_goes limits fair levels = (statement_right none_lifts limits fair 0 levels).goes

-- nothing after a statement
abbrev pub finish : Statement → Reader Statement
finish found = reads_both ended (λ _. pure found)

-- a statement and nothing after it
abbrev pub whole_at : Limits → ℕ → Reader Statement
whole_at limits levels = reads_both (statement_rule limits levels) finish

-- the fault of an outcome
abbrev pub fault_of : {A : Type 0} → Reading A → RuleFault × Terminals
fault_of (Ok (value, rest)) = (Memory, rest)
fault_of (Err fault) = fault

abbrev pub read_of : Reading Statement → Statement → Statement
read_of (Ok (value, rest)) other = value
read_of (Err fault) other = other

pub ok_err : (found : Statement) (rest : Terminals) (fault : RuleFault × Terminals) → ◌≡◌ {A = Reading Statement} (Ok (found, rest)) (Err fault) → ⊥
ok_err found rest fault same = cc

-- a text that is no statement: what stands before the fault begins one, and the fault comes where the terminal there is the same
pub record Fails (limits : Limits) (levels : ℕ) (terminals : Terminals) (fault : RuleFault × Terminals) : Type 0 where
  pub front : Terminals
  pub is : terminals ≡ front ++ fault.1
  pub local : (other : Terminals) → next_of fault.1 ≡ next_of other → whole_at limits levels (front ++ other) ≡ Err (fault.0, other)
  pub begins : (found : Statement) × (more : Terminals) × grammar.statement limits levels found (front ++ more) []

fails_at : (limits : Limits) (levels : ℕ) (terminals : Terminals) (outcome : Reading Statement) (fault : RuleFault × Terminals) → Goes (statement_rule limits levels) (grammar.statement limits levels) terminals outcome → then_read outcome finish ≡ Err fault → Fails limits levels terminals fault
fails_at limits levels terminals (Ok (found, [])) fault went is = absurd (ok_err found [] fault is)
fails_at limits levels terminals (Ok (found, terminal ∷ behind)) fault went is =
    subst (λ f. Fails limits levels terminals f) (ap fault_of is) (record { front = went.front; is = went.is; local = local; begins = (found, [], went.means []) })
  where
    stopped : (other : Terminals) → Some terminal ≡ next_of other → finish found other ≡ Err (Syntax, other)
    stopped [] same = absurd (none-some terminal (sym same))
    stopped (next ∷ other) same = refl

    local : (other : Terminals) → next_of (terminal ∷ behind) ≡ next_of other → whole_at limits levels (went.front ++ other) ≡ Err (Syntax, other)
    local other same = ap (λ o. then_read o finish) (went.local other same) ∙ stopped other same
fails_at limits levels terminals (Err other) fault went is =
    subst (λ f. Fails limits levels terminals f) (ap fault_of is)
    (record {
      front = went.front;
      is = went.is;
      local = λ more same. ap (λ o. then_read o finish) (went.local more same);
      begins = (went.means.0, went.means.1 ++ [], subst (λ l. grammar.statement limits levels went.means.0 l []) (append_assoc went.front went.means.1 []) (went.means.2 []));
    })

pub fails : (limits : Limits) → Fair limits → (levels : ℕ) (terminals : Terminals) (fault : RuleFault × Terminals) → whole_at limits levels terminals ≡ Err fault → Fails limits levels terminals fault
fails limits fair levels terminals fault is = fails_at limits levels terminals (statement_rule limits levels terminals) fault (statement_goes limits fair levels terminals) is

-- a statement of the terminals is what is read
pub reads_whole : (limits : Limits) → Fair limits → (levels : ℕ) (found : Statement) (terminals : Terminals) → grammar.statement limits levels found terminals [] → whole_at limits levels terminals ≡ Ok (found, [])
reads_whole limits fair levels found terminals text = ap (λ o. then_read o finish) ((statement_right none_lifts limits fair 0 levels).reads found terminals [] text refl)

-- what is read is a statement of the terminals
pub means_whole : (limits : Limits) → Fair limits → (levels : ℕ) (found : Statement) (terminals : Terminals) → whole_at limits levels terminals ≡ Ok (found, []) → grammar.statement limits levels found terminals []
means_whole limits fair levels found terminals is = by (statement_rule limits levels terminals) (statement_goes limits fair levels terminals) is
  where
    by : (outcome : Reading Statement) → Goes (statement_rule limits levels) (grammar.statement limits levels) terminals outcome → then_read outcome finish ≡ Ok (found, []) → grammar.statement limits levels found terminals []
    by (Ok (value, [])) went same = subst (λ v. grammar.statement limits levels v terminals []) (ap (λ o. read_of o found) same) (subst (λ l. grammar.statement limits levels value l []) (sym went.is) (went.means []))
    by (Ok (value, terminal ∷ behind)) went same = absurd (ok_err found [] (Syntax, terminal ∷ behind) (sym same))
    by (Err fault) went same = absurd (ok_err found [] fault (sym same))

-- with the same terminals up to the fault, and the one there, a text has the same front
same_front : (front rest other : Terminals) → take (suc (length front)) other ≡ take (suc (length front)) (front ++ rest) → (more : Terminals) × (other ≡ front ++ more) × (next_of rest ≡ next_of more)
same_front [] rest other same = (other, refl, first rest other same)
  where
    first : (rest other : Terminals) → take 1 other ≡ take 1 rest → next_of rest ≡ next_of other
    first [] [] same = refl
    first [] (terminal ∷ other) same = absurd (wrong same)
      where
        wrong : ◌≡◌ {A = Terminals} (terminal ∷ []) [] → ⊥
        wrong same = cc
    first (terminal ∷ rest) [] same = absurd (wrong same)
      where
        wrong : ◌≡◌ {A = Terminals} [] (terminal ∷ []) → ⊥
        wrong same = cc
    first (terminal ∷ rest) (next ∷ other) same = sym (ap next_of same)
same_front (terminal ∷ front) rest [] same = absurd (wrong same)
  where
    wrong : ◌≡◌ {A = Terminals} [] (terminal ∷ take (suc (length front)) (front ++ rest)) → ⊥
    wrong same = cc
same_front (terminal ∷ front) rest (next ∷ other) same =
    let first : next ≡ terminal = cc in
    let later : take (suc (length front)) other ≡ take (suc (length front)) (front ++ rest) = cc in
    let parts = same_front front rest other later in
    (parts.0, (λ i. first i ∷ parts.1 i), parts.2)

-- no statement goes on through the terminal of the fault
pub no_more : (limits : Limits) → Fair limits → (deep levels : ℕ) (terminals : Terminals) (fault : RuleFault × Terminals) (failed : Fails limits deep terminals fault) → ((other : Terminals) (found : Statement) → whole_at limits levels other ≡ Ok (found, []) → whole_at limits deep other ≡ Ok (found, []))
    → Continues limits levels terminals (suc (length failed.front)) → ⊥
no_more limits fair deep levels terminals fault failed raise going =
    let parts = same_front failed.front fault.1 going.spelling (going.same ∙ ap (take (suc (length failed.front))) failed.is) in
    ok_err going.found [] (fault.0, parts.0) (sym (raise going.spelling going.found (reads_whole limits fair levels going.found going.spelling going.spells)) ∙ ap (whole_at limits deep) parts.1 ∙ failed.local parts.0 parts.2)

pub take-front : (count : ℕ) (front one other : Terminals) → count ≤ length front → take count (front ++ one) ≡ take count (front ++ other)
take-front zero front one other short = refl
take-front (suc count) [] one other short = absurd (omega (arith, short))
take-front (suc count) (terminal ∷ front) one other short = ap (λ l. terminal ∷ l) (take-front count front one other (omega arith))

pub drop-front : (front rest : Terminals) → drop (length front) (front ++ rest) ≡ rest
drop-front [] rest = refl
drop-front (terminal ∷ front) rest = drop-front front rest

-- a reader goes on up to where it stops
pub continues_to : (limits : Limits) (levels : ℕ) (terminals : Terminals) (outcome : Reading Statement) → Goes (statement_rule limits levels) (grammar.statement limits levels) terminals outcome → (count : ℕ) → count + length (stop_of outcome) ≤ length terminals → Continues limits levels terminals count
continues_to limits levels terminals outcome went count short = by outcome went.means went.is
  where
    enough : (stop : Terminals) → terminals ≡ went.front ++ stop → stop ≡ stop_of outcome → count ≤ length went.front
    enough stop is same = let lengths = ap length is ∙ length-append went.front stop in let stops = ap length same in omega arith

    by : (other : Reading Statement) → Means (grammar.statement limits levels) went.front other → terminals ≡ went.front ++ stop_of outcome → Continues limits levels terminals count
    by (Ok (value, rest)) means is =
        record { found = value; spelling = went.front ++ []; spells = means []; same = take-front count went.front [] (stop_of outcome) (enough (stop_of outcome) is refl) ∙ ap (take count) (sym is) }
    by (Err fault) means is =
        record {
          found = means.0;
          spelling = went.front ++ (means.1 ++ []);
          spells = subst (λ l. grammar.statement limits levels means.0 l []) (append_assoc went.front means.1 []) (means.2 []);
          same = take-front count went.front (means.1 ++ []) (stop_of outcome) (enough (stop_of outcome) is refl) ∙ ap (take count) (sym is);
        }
