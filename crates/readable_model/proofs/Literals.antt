-- The values of an INSERT's tuples: they are literals, and no literal is a sum.
use Rattle.std.proofs.Common.{◌≡◌, ℕ, ◌+◌, List, [], ◌∷◌, inl, inr, sym, subst}
use Rattle.std.specs.Prelude.{ℤ, Option, codes}
use Rattle.std.specs.List.{AllByRecursion}
use Rattle.own_base.specs.declared.value.Value.{Value}
use Rattle.own_base.specs.declared.value.Value.TheVariants.{Sum}
use Rattle.own_model.specs.declared.limit.TheConstants.{NESTING_LEVELS}
use Rattle.own_model.specs.declared.request.Request.TheVariants.{Run}
use Rattle.own_model.specs.declared.statement.Statement.{Statement}
use Rattle.grammar_model.specs.Grammar as rules
use Rattle.grammar_model.specs.Limits.{Limits, store_limits}
use Rattle.grammar_model.specs.Readable.{IsReadable}
use Rattle.grammar_model.specs.Terminal.{Terminals}
use Rattle.grammar_model.proofs.OwnRule.{written-own}
use Rattle.grammar_model.proofs.Languages.{Gives, gives-bracketed, gives-listed}

-- a value that is no sum
abbrev IsNoSum : Value → Type 0
IsNoSum value = (number : ℤ) → value ≡ Sum number → ⊥

literal-no_sum : (limits : Limits) → Gives IsNoSum (rules.literal limits)
unfolding rules.literal
literal-no_sum limits value terminals rest (inl by) number is = let null = by.3.0 in cc
literal-no_sum limits value terminals rest (inr (inl by)) number is = let text = by.3.0 in cc
literal-no_sum limits value terminals rest (inr (inr by)) number is = let int = by.3.0 in cc

tuple-no_sums : (limits : Limits) → Gives (AllByRecursion IsNoSum) (rules.tuple limits)
unfolding rules.tuple
tuple-no_sums limits = gives-bracketed (AllByRecursion IsNoSum) _ (gives-listed IsNoSum _ (literal-no_sum limits))

insert-no_sums : (limits : Limits) (table : List ℕ) (columns : Option (List (List ℕ))) (rows : List (List Value)) (terminals rest : Terminals)
    → rules.insert limits (Statement.Insert table columns rows) terminals rest → AllByRecursion (AllByRecursion IsNoSum) rows
unfolding rules.insert
insert-no_sums limits table columns rows terminals rest (_, _, _, (_, _, _, (called, _, _, (named, _, _, (_, start, _, (tuples, end, all, last)))))) =
    subst (AllByRecursion (AllByRecursion IsNoSum)) (sym (same rows tuples last.0)) (gives-listed (AllByRecursion IsNoSum) _ (tuple-no_sums limits) tuples start end all)
  where
    same : (one other : List (List Value)) → Statement.Insert table columns one ≡ Statement.Insert called named other → one ≡ other
    same one other is = cc

-- no value of an INSERT that can stand in a history is a sum
pub no_sums : (table : List ℕ) (columns : Option (List (List ℕ))) (rows : List (List Value)) → IsReadable (Run (Statement.Insert table columns rows))
    → AllByRecursion (AllByRecursion (λ value. (number : ℤ) → value ≡ Sum number → ⊥)) rows
no_sums table columns rows is = insert-no_sums store_limits table columns rows is.terminals [] (written-own store_limits NESTING_LEVELS (Statement.Insert table columns rows) is.terminals is.spells)
