-- The texts and numbers in the rows of an INSERT that can be read are such as a row can hold.
use Rattle.std.proofs.Common.{ℕ, zero, suc, ◌≤◌, ◌-◌, ◌^◌, List, [], Bool, true, false, length, sym, subst, arith}
use Rattle.std.specs.Prelude.{Option, if◌then◌else◌}
use Rattle.std.specs.List.{AllByRecursion}
use Rattle.std.proofs.lemmas.Bool.{leb-true}
use Rattle.std.proofs.lemmas.Int.{ints}
use Rattle.own_base.specs.declared.value.Value.{Value}
use Rattle.own_model.specs.declared.limit.TheConstants.{NESTING_LEVELS}
use Rattle.own_model.specs.declared.statement.Statement.{Statement}
use Rattle.own_model.specs.declared.statement.Statement.TheVariants as statement
use Rattle.grammar_model.specs.Grammar as rules
use Rattle.grammar_model.specs.Language.{Language, bracketed, listed}
use Rattle.grammar_model.specs.Limits.{store_limits}
use Rattle.grammar_model.specs.Readable.{IsWritten}
use Rattle.grammar_model.specs.Values.{NumberIs, TextIs, digits_after, signed}
use Rattle.grammar_model.proofs.OwnRule.{written-own}
use Rattle.grammar_model.proofs.Utf8Texts.{IsInUtf8, terminals-in_utf8}
use Rattle.state_model.specs.Rows.{IsOf64Bits, IsStorable}
use Rattle.grammar_model.proofs.Languages.{Anything, GivesOf, of-any, of-bind, of-bracketed, of-listed, of-one, of-optional, of-or, of-own, of-pure}

-- values that a row can hold alone stand in the rows of an INSERT
abbrev pub AreStorable : List (List Value) → Type 0
AreStorable rows = AllByRecursion (λ tuple. AllByRecursion IsStorable tuple) rows

-- an INSERT of such rows, or another statement
abbrev HasStorableValues : Statement → Type 0
HasStorableValues (statement.Insert table columns rows) = AreStorable rows
HasStorableValues _ = Unit {0}

-- what a language gives for a text in UTF-8
abbrev pub GivesText : {A : Type 0} → (A → Type 0) → Language A → Type 0
GivesText P language = GivesOf IsInUtf8 P language

-- a text is short, and UTF-8
pub text-storable : GivesText (λ bytes. IsStorable (Value.Text bytes)) (rules.text store_limits)
unfolding rules.text
text-storable =
    of-one IsInUtf8 (λ bytes. IsStorable (Value.Text bytes)) (TextIs store_limits) (λ value terminal utf8 is. record { short = leb-true (length value) _ is.short; utf8 = utf8 value is.start is.is })

-- of a name nothing is asked
pub name-any : GivesText Anything (rules.name store_limits)
unfolding rules.name
name-any = of-any IsInUtf8 _

-- a number with its sign takes 64 bits
signed-storable : (negative : Bool) (number : ℕ) → number ≤ (if negative then 2 ^ 63 else 2 ^ 63 - 1) → IsOf64Bits (signed negative number)
signed-storable false number within = record { least = omega (arith, ints); most = omega (arith, ints) }
signed-storable true zero within = record { least = omega (arith, ints); most = omega (arith, ints) }
signed-storable true (suc number) within = record { least = omega (arith, ints); most = omega (arith, ints) }

number-storable : (negative : Bool) → GivesText IsOf64Bits (rules.number negative)
unfolding rules.number
number-storable negative =
    of-one IsInUtf8 IsOf64Bits (NumberIs negative) (λ value terminal utf8 is. subst IsOf64Bits (sym is.value) (signed-storable negative (digits_after 0 is.digits) is.in_range))

pub int-storable : GivesText IsOf64Bits rules.int
unfolding rules.int
int-storable = of-or IsInUtf8 IsOf64Bits _ _ (of-bind IsInUtf8 IsOf64Bits _ _ (of-any IsInUtf8 _) (λ _. number-storable true)) (number-storable false)

-- so is what a literal says
literal-storable : GivesText IsStorable (rules.literal store_limits)
unfolding rules.literal
literal-storable =
    of-or IsInUtf8 IsStorable _ _ (of-bind IsInUtf8 IsStorable _ _ (of-any IsInUtf8 _) (λ _. of-pure IsInUtf8 IsStorable Value.Null tt))
    (of-or IsInUtf8 IsStorable _ _ (of-own IsInUtf8 (λ bytes. IsStorable (Value.Text bytes)) IsStorable _ _ text-storable (λ found has. of-pure IsInUtf8 IsStorable (Value.Text found) has))
    (of-own IsInUtf8 IsOf64Bits IsStorable _ _ int-storable (λ found has. of-pure IsInUtf8 IsStorable (Value.Int found) has)))

-- those of a tuple
tuple-storable : GivesText (AllByRecursion IsStorable) (rules.tuple store_limits)
unfolding rules.tuple
tuple-storable = of-bracketed IsInUtf8 (AllByRecursion IsStorable) _ (of-listed IsInUtf8 IsStorable _ literal-storable)

-- a list of names
names-any : GivesText Anything (bracketed (rules.names store_limits))
unfolding rules.names
names-any = of-bracketed IsInUtf8 Anything _ listed-any
  where
    listed-any : GivesText Anything (listed (rules.name store_limits))
    listed-any values terminals rest are by = (tt, (of-listed IsInUtf8 Anything _ name-any values terminals rest are by).1)

-- and those of an INSERT
insert-storable : GivesText HasStorableValues (rules.insert store_limits)
unfolding rules.insert
insert-storable =
    of-bind IsInUtf8 HasStorableValues _ _ (of-any IsInUtf8 _) (λ _. of-bind IsInUtf8 HasStorableValues _ _ (of-any IsInUtf8 _) (λ _. of-bind IsInUtf8 HasStorableValues _ _ name-any (λ table.
    of-bind IsInUtf8 HasStorableValues _ _ (of-optional IsInUtf8 _ names-any) (λ columns. of-bind IsInUtf8 HasStorableValues _ _ (of-any IsInUtf8 _) (λ _.
    of-own IsInUtf8 AreStorable HasStorableValues _ _ (of-listed IsInUtf8 (AllByRecursion IsStorable) _ tuple-storable)
    (λ rows storable. of-pure IsInUtf8 HasStorableValues (statement.Insert table columns rows) storable))))))

-- an INSERT that can be read has such values alone
pub written-storable : (most : ℕ) (table : List ℕ) (columns : Option (List (List ℕ))) (rows : List (List Value))
    → IsWritten most (statement.Insert table columns rows) → AreStorable rows
written-storable most table columns rows written =
    (insert-storable (statement.Insert table columns rows) written.terminals [] (terminals-in_utf8 written.text written.terminals written.utf8 written.cut)
    (written-own store_limits NESTING_LEVELS (statement.Insert table columns rows) written.terminals written.spells)).0
