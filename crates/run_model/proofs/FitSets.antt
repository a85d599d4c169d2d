-- What an UPDATE that can be read sets columns to: its literals are such as a row can hold, and no sums.
use Rattle.std.proofs.Common.{ℕ, List, [], subst, sym}
use Rattle.std.specs.Prelude.{ℤ, Option, codes}
use Rattle.std.specs.List.{AllByRecursion}
use Rattle.own_base.specs.declared.value.Value.{Value}
use Rattle.own_model.specs.declared.condition.Cond.{Cond}
use Rattle.own_model.specs.declared.expression.Expr.{Expr}
use Rattle.own_model.specs.declared.limit.TheConstants.{NESTING_LEVELS}
use Rattle.own_model.specs.declared.statement.Statement.{Statement}
use Rattle.own_model.specs.declared.statement.Statement.TheVariants as statement
use Rattle.grammar_model.specs.Grammar as rules
use Rattle.grammar_model.specs.Language.{◌>>◌, mark, word}
use Rattle.grammar_model.specs.Limits.{store_limits}
use Rattle.grammar_model.specs.Readable.{IsWritten}
use Rattle.grammar_model.specs.Terminal.{Terminals}
use Rattle.grammar_model.proofs.OwnRule.{written-own}
use Rattle.grammar_model.proofs.Utf8Texts.{IsInUtf8, terminals-in_utf8}
use Rattle.query_model.specs.Scope.{NameBytes}
use Rattle.state_model.specs.Rows.{IsOf64Bits, IsStorable}
use Rattle.grammar_model.proofs.Languages.{Anything, of-any, of-bind, of-listed, of-or, of-own, of-pure}
use Rattle.run_model.proofs.KeylessSets.{Written}
use Rattle.run_model.proofs.PutRows.{IsNoSum}
use Rattle.run_model.proofs.RightSets.{AreFit, IsFit}
use Rattle.run_model.proofs.StorableValues.{GivesText, int-storable, name-any, text-storable}

-- an UPDATE to such values, or another statement
abbrev HasFitSets : Statement → Type 0
HasFitSets (statement.Update table sets cond) = AreFit sets
HasFitSets _ = Unit {0}

-- a value that a row can hold, and no sum
abbrev IsFitValue : Value → Type 0
IsFitValue value = IsStorable value × IsNoSum value

null_is_no_sum : IsNoSum Value.Null
null_is_no_sum number is = cc

text_is_no_sum : (bytes : List ℕ) → IsNoSum (Value.Text bytes)
text_is_no_sum bytes number is = cc

int_is_no_sum : (found : ℤ) → IsNoSum (Value.Int found)
int_is_no_sum found number is = cc

-- a literal is one
literal-fit : GivesText IsFitValue (rules.literal store_limits)
unfolding rules.literal
literal-fit =
    of-or IsInUtf8 IsFitValue _ _ (of-bind IsInUtf8 IsFitValue _ _ (of-any IsInUtf8 _) (λ _. of-pure IsInUtf8 IsFitValue Value.Null (tt, null_is_no_sum)))
    (of-or IsInUtf8 IsFitValue _ _ (of-own IsInUtf8 (λ bytes. IsStorable (Value.Text bytes)) IsFitValue _ _ text-storable (λ found has. of-pure IsInUtf8 IsFitValue (Value.Text found) (has, text_is_no_sum found)))
    (of-own IsInUtf8 IsOf64Bits IsFitValue _ _ int-storable (λ found has. of-pure IsInUtf8 IsFitValue (Value.Int found) (has, int_is_no_sum found))))

-- a number after a sign
signed-any : (sign : List ℕ) → GivesText Anything (mark sign >> rules.int)
signed-any sign = of-bind IsInUtf8 Anything _ _ (of-any IsInUtf8 _) (λ _. any)
  where
    any : GivesText Anything rules.int
    any value terminals rest are by = (tt, (int-storable value terminals rest are by).1)

-- so an expression is fit
expr-fit : GivesText IsFit (rules.expr store_limits)
unfolding rules.expr
expr-fit =
    of-or IsInUtf8 IsFit _ _ (of-own IsInUtf8 IsFitValue IsFit _ _ literal-fit (λ found has. of-pure IsInUtf8 IsFit (Expr.Literal found) has))
    (of-or IsInUtf8 IsFit _ _ (of-bind IsInUtf8 IsFit _ _ name-any (λ column. of-pure IsInUtf8 IsFit (Expr.Column column) tt))
    (of-or IsInUtf8 IsFit _ _ (of-bind IsInUtf8 IsFit _ _ name-any (λ column. of-bind IsInUtf8 IsFit _ _ (signed-any _) (λ more. of-pure IsInUtf8 IsFit (Expr.Plus column more) tt)))
    (of-bind IsInUtf8 IsFit _ _ name-any (λ column. of-bind IsInUtf8 IsFit _ _ (signed-any _) (λ fewer. of-pure IsInUtf8 IsFit (Expr.Minus column fewer) tt)))))

abbrev IsFitSet : NameBytes × Expr → Type 0
IsFitSet set = IsFit set.1

set-fit : GivesText IsFitSet (rules.set store_limits)
unfolding rules.set
set-fit =
    of-bind IsInUtf8 IsFitSet _ _ name-any (λ column. of-bind IsInUtf8 IsFitSet _ _ (of-any IsInUtf8 _) (λ _. of-own IsInUtf8 IsFit IsFitSet _ _ expr-fit
    (λ value has. of-pure IsInUtf8 IsFitSet (column, value) has)))

word-any : (wanted : List ℕ) → GivesText Anything (word wanted)
word-any wanted = of-any IsInUtf8 _

-- and those of an UPDATE are; of what stands behind them nothing is asked
update-fit : (value : Statement) (terminals rest : Terminals) → AllByRecursion IsInUtf8 terminals → rules.update store_limits NESTING_LEVELS value terminals rest → HasFitSets value
unfolding rules.update
update-fit value terminals rest are (_, _, update, (table, _, name, (_, _, set, (sets, _, listed, (cond, _, _, last))))) =
    let after_update = word-any (codes "UPDATE") tt terminals _ are update in
    let after_name = name-any table _ _ after_update.1 name in
    let after_set = word-any (codes "SET") tt _ _ after_name.1 set in
    let fit = (of-listed IsInUtf8 IsFitSet _ set-fit sets _ _ after_set.1 listed).0 in
    subst HasFitSets (sym last.0) fit

pub written-fit : (most : ℕ) (table : NameBytes) (sets : Written) (cond : Option Cond) → IsWritten most (statement.Update table sets cond) → AreFit sets
written-fit most table sets cond written =
    update-fit (statement.Update table sets cond) written.terminals [] (terminals-in_utf8 written.text written.terminals written.utf8 written.cut)
    (written-own store_limits NESTING_LEVELS (statement.Update table sets cond) written.terminals written.spells)
