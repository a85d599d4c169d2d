-- The values of an INSERT's tuples: there are no more of them than bytes in the text.
use Rattle.std.proofs.Common.{◌≡◌, ◌≤◌, ℕ, List, [], ◌∷◌, length, arith}
use Rattle.std.specs.Prelude.{Option, sum_by}
use Rattle.std.specs.List.{AllByRecursion}
use Rattle.std.proofs.lemmas.List.Sums.{sum_by-cons}
use Rattle.own_base.specs.declared.value.Value.{Value}
use Rattle.own_model.specs.declared.limit.TheConstants.{NESTING_LEVELS, STATEMENT_BYTES}
use Rattle.own_model.specs.declared.request.Request.TheVariants.{Run}
use Rattle.own_model.specs.declared.statement.Statement.{Statement}
use Rattle.grammar_model.specs.Grammar as rules
use Rattle.grammar_model.specs.Limits.{Limits, store_limits}
use Rattle.grammar_model.specs.Readable.{IsReadable}
use Rattle.grammar_model.specs.Terminal.{Terminals}
use Rattle.grammar_model.proofs.ListLengths.{list-takes}
use Rattle.grammar_model.proofs.OwnRule.{written-own}
use Rattle.grammar_model.proofs.Shrinking.{Shrinks}
use Rattle.grammar_model.proofs.TextBytes.{written, Takes, written-less, name-takes, literal-takes, listed-takes, columns-takes, written-short}

literal-shrinks : (limits : Limits) → Shrinks (rules.literal limits)
literal-shrinks limits value terminals rest by = let takes = literal-takes limits value terminals rest by in omega arith

-- a tuple has no more values than its terminals have bytes
tuple-takes : (limits : Limits) → Takes length (rules.tuple limits)
unfolding rules.tuple
tuple-takes limits = list-takes _ (literal-shrinks limits)

-- so together the tuples of an INSERT have no more either
insert-takes : (limits : Limits) (table : List ℕ) (columns : Option (List (List ℕ))) (rows : List (List Value)) (terminals rest : Terminals)
    → rules.insert limits (Statement.Insert table columns rows) terminals rest → sum_by length rows ≤ written terminals
unfolding rules.insert
insert-takes limits table columns rows terminals rest (_, a, insert, (_, b, into, (called, c, named, (listed, d, bracket, (_, e, values, (tuples, f, all, last)))))) =
    let first = written-less insert.1 in
    let second = written-less into.1 in
    let third = name-takes limits called b c named in
    let fourth = columns-takes limits listed c d bracket in
    let fifth = written-less values.1 in
    let sixth = listed-takes length _ (tuple-takes limits) tuples e f all in
    rw (same rows tuples last.0) (omega arith)
  where
    same : (one other : List (List Value)) → Statement.Insert table columns one ≡ Statement.Insert called listed other → one ≡ other
    same one other is = cc

-- what holds together holds of each
each-within : {A : Type 0} (count : A → ℕ) (most : ℕ) (values : List A) → sum_by count values ≤ most → AllByRecursion (λ value. count value ≤ most) values
each-within count most [] within = tt
each-within count most (value ∷ values) within =
    let all = sum_by-cons count value values in
    (omega arith, each-within count most values (omega arith))

-- no tuple of an INSERT that can stand in a history has more values than a statement may have bytes
pub few_values : (table : List ℕ) (columns : Option (List (List ℕ))) (rows : List (List Value)) → IsReadable (Run (Statement.Insert table columns rows))
    → AllByRecursion (λ tuple. length tuple ≤ STATEMENT_BYTES) rows
few_values table columns rows is =
    let own = written-own store_limits NESTING_LEVELS (Statement.Insert table columns rows) is.terminals is.spells in
    let all = insert-takes store_limits table columns rows is.terminals [] own in
    let short = written-short (Statement.Insert table columns rows) is in
    each-within length STATEMENT_BYTES rows (omega arith)
