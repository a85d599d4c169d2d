-- Readers that read the same at some terminals.
use Rattle.std.proofs.Common.{◌≡◌, ◌≤◌, ◌+◌, ℕ, zero, suc, Bool, false, Result, Ok, Err, ap, ◌∙◌, codes, arith}
use Rattle.std.specs.Prelude.{if◌then◌else◌, nat_le}
use Rattle.sql_reader.specs.declared.fault.RuleFault.{RuleFault}
use Rattle.sql_reader.specs.declared.fault.RuleFault.TheVariants.{Syntax, Limit, Memory}
use Rattle.own_model.specs.declared.condition.Cond.TheVariants as cond
use Rattle.own_model.specs.declared.limit.TheConstants.{SELECT_ITEMS}
use Rattle.sql_reader.specs.reading.Condition.{neg, comparison, too_deep, cond_over}
use Rattle.grammar_model.specs.Limits.{Limits, store_limits}
use Rattle.grammar_model.specs.Terminal.{Terminals}
use Rattle.sql_reader.specs.reading.Reader.{Reader, Does, either, next_is, accept, pure, ◌>>=◌, ◌>>◌}
use Rattle.sql_reader.specs.reading.Rules.{word, mark}
use Rattle.sql_reader.specs.reading.Select.{item, item_after}
use Rattle.sql_reader.specs.reading.Judges.{slot_of}
use Rattle.grammar_model.specs.Terminal.{Terminal, is_word, is_mark}

either-other : {A : Type 0} (test : Terminal → Bool) (first second : Reader A) (terminals : Terminals) → next_is test terminals ≡ false → either test first second terminals ≡ second terminals
either-other test first second terminals fails = ap (λ b. if b then first terminals else second terminals) fails

pub neg-comparison : (limits : Limits) (levels : ℕ) (terminals : Terminals) → next_is (is_word (codes "NOT")) terminals ≡ false → next_is (is_mark (codes "(")) terminals ≡ false → neg limits levels terminals ≡ comparison limits terminals
unfolding neg
neg-comparison limits zero terminals no_not no_bracket =
    either-other (is_word (codes "NOT")) too_deep (either (is_mark (codes "(")) too_deep (comparison limits)) terminals no_not
    ∙ either-other (is_mark (codes "(")) too_deep (comparison limits) terminals no_bracket
neg-comparison limits (suc levels) terminals no_not no_bracket =
    let negated = word (codes "NOT") >> neg limits levels >>= λ inner. pure (cond.Not inner) in
    let bracketed = mark (codes "(") >> (cond_over (neg limits levels) >>= λ inner. mark (codes ")") >> pure inner) in
    either-other (is_word (codes "NOT")) negated (either (is_mark (codes "(")) bracketed (comparison limits)) terminals no_not
    ∙ either-other (is_mark (codes "(")) bracketed (comparison limits) terminals no_bracket

-- what does as one reader does, does as another that reads the same there
pub Does-same : {A : Type 0} (reader other : Reader A) (before : Terminals) (result : Result A RuleFault) (after : Terminals) → reader before ≡ other before → Does other before result after → Does reader before result after
Does-same reader other before (Ok read) after same does = (same ∙ does.0, does.1)
Does-same reader other before (Err Memory) after same does = does
Does-same reader other before (Err Syntax) after same does = same ∙ does
Does-same reader other before (Err (Limit limit)) after same does = same ∙ does

-- a fault that is as the reader's
pub Does-fault : {A : Type 0} (reader : Reader A) (before : Terminals) (fault : RuleFault) (after : Terminals) → reader before ≡ Err (fault, after) → Does reader before (Err fault) after
Does-fault reader before Memory after same = tt
Does-fault reader before Syntax after same = same
Does-fault reader before (Limit limit) after same = same

-- above the limit no item is read
pub item_after-full : (count : ℕ) (terminals : Terminals) → SELECT_ITEMS ≤ count → item_after store_limits count terminals ≡ accept slot_of terminals
unfolding item_after
item_after-full count terminals above = ap (λ b. (if b then item store_limits else accept slot_of) terminals) (full count above)
  where
    full : (count : ℕ) → SELECT_ITEMS ≤ count → nat_le (count + 1) SELECT_ITEMS ≡ false
    full count above = grind arith
