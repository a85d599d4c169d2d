-- The items of a select, which a loop reads one by one.
use Rattle.std.proofs.Common.{◌≡◌, ◌<◌, ◌≤◌, ◌+◌, ℕ, zero, suc, true, false, List, [], ◌∷◌, ◌++◌, length, Ok, Err, refl, sym, ap, ◌∙◌, arith, codes}
use Rattle.std.proofs.lemmas.List.{length-append}
use Rattle.std.specs.Prelude.{if◌then◌else◌}
use Rattle.own_model.specs.declared.select.Item.{Item}
use Rattle.sql_reader.specs.declared.fault.RuleFault.{RuleFault}
use Rattle.sql_reader.specs.declared.fault.RuleFault.TheVariants.{Syntax, Limit, Memory}
use Rattle.grammar_model.specs.Limits.{Limits}
use Rattle.grammar_model.specs.Terminal.{Terminals}
use Rattle.sql_reader.specs.reading.Reader.{Reading, Reader, then_read, pure, ◌>>=◌, ◌>>◌, next_is, prepended, Does}
use Rattle.sql_reader.specs.reading.Rules.{mark}
use Rattle.sql_reader.specs.reading.Select.{item_after, items_after, all_items_after}
use Rattle.grammar_model.specs.Terminal.{is_mark}
use Rattle.sql_reader.proofs.Listing.{append-nil, first-prepended, prepended-more, some_terminal}

-- the outcome of all items: what was read so far, and what is still to be read
pub record Itemizing (limits : Limits) (whole : Reading (List Item)) (before : List Item) (terminals : Terminals) : Type 0 where
  pub times : ℕ
  pub enough : length terminals ≤ times
  pub same : whole ≡ prepended before (items_after times limits (length before) terminals)

-- the first item alone
pub Itemizing-start : (limits : Limits) (whole : Reading (List Item)) (first : Item) (terminals : Terminals) → whole ≡ then_read (all_items_after limits 1 terminals) (λ others. pure (first ∷ others)) → Itemizing limits whole (first ∷ []) terminals
Itemizing-start limits whole first terminals is =
    record { times = length terminals; enough = omega arith; same = is ∙ first-prepended first (all_items_after limits 1 terminals) }

-- a comma and an item after that many others
abbrev pub next_item : Limits → ℕ → Reader Item
next_item limits count = mark (codes ",") >> item_after limits count

one_more : (times : ℕ) (limits : Limits) (count : ℕ) (terminals : Terminals) (passes : next_is (is_mark (codes ",")) terminals ≡ true) → items_after (suc times) limits count terminals ≡ then_read (next_item limits count terminals) (λ read. items_after times limits (count + 1) >>= λ more. pure (read ∷ more))
unfolding items_after
one_more times limits count terminals passes =
    ap (λ b. if b then then_read (mark (codes ",") terminals) (λ _. item_after limits count >>= λ read. items_after times limits (count + 1) >>= λ more. pure (read ∷ more)) else Ok ([], terminals)) passes
    ∙ regroup (mark (codes ",") terminals)
  where
    regroup : (outcome : Reading (Unit {0})) → then_read outcome (λ _. item_after limits count >>= λ read. items_after times limits (count + 1) >>= λ more. pure (read ∷ more)) ≡ then_read (then_read outcome (λ _. item_after limits count)) (λ read. items_after times limits (count + 1) >>= λ more. pure (read ∷ more))
    regroup (Ok (read, rest)) = refl
    regroup (Err fault) = refl

none_more : (times : ℕ) (limits : Limits) (count : ℕ) (terminals : Terminals) → next_is (is_mark (codes ",")) terminals ≡ false → items_after times limits count terminals ≡ Ok ([], terminals)
unfolding items_after
none_more zero limits count terminals fails = refl
none_more (suc times) limits count terminals fails = ap (λ b. if b then then_read (mark (codes ",") terminals) (λ _. item_after limits count >>= λ read. items_after times limits (count + 1) >>= λ more. pure (read ∷ more)) else Ok ([], terminals)) fails

step_at : (limits : Limits) (whole : Reading (List Item)) (before : List Item) (terminals : Terminals) (times : ℕ) (read : Item) (rest : Terminals) → length terminals ≤ times → whole ≡ prepended before (items_after times limits (length before) terminals) → next_is (is_mark (codes ",")) terminals ≡ true → next_item limits (length before) terminals ≡ Ok (read, rest) → length rest < length terminals → Itemizing limits whole (before ++ read ∷ []) rest
step_at limits whole before terminals zero read rest enough same passes reads shorter = absurd (omega (arith, some_terminal (is_mark (codes ",")) terminals passes))
step_at limits whole before terminals (suc times) read rest enough same passes reads shorter =
    record {
      times = times;
      enough = omega arith;
      same = same ∙ ap (prepended before) (one_more times limits (length before) terminals passes ∙ ap (λ o. then_read o (λ read. items_after times limits (length before + 1) >>= λ more. pure (read ∷ more))) reads)
          ∙ prepended-more before read (items_after times limits (length before + 1) rest)
          ∙ ap (λ n. prepended (before ++ read ∷ []) (items_after times limits n rest)) (sym (length-append before (read ∷ [])));
    }

pub Itemizing-step : (limits : Limits) (whole : Reading (List Item)) (before : List Item) (terminals : Terminals) (read : Item) (rest : Terminals) → Itemizing limits whole before terminals → next_is (is_mark (codes ",")) terminals ≡ true → next_item limits (length before) terminals ≡ Ok (read, rest) → length rest < length terminals → Itemizing limits whole (before ++ read ∷ []) rest
Itemizing-step limits whole before terminals read rest itemizing = step_at limits whole before terminals itemizing.times read rest itemizing.enough itemizing.same

-- no item comes any more
pub Itemizing-end : (limits : Limits) (whole : Reading (List Item)) (before : List Item) (terminals : Terminals) → Itemizing limits whole before terminals → next_is (is_mark (codes ",")) terminals ≡ false → whole ≡ Ok (before, terminals)
Itemizing-end limits whole before terminals itemizing fails =
    itemizing.same ∙ ap (prepended before) (none_more itemizing.times limits (length before) terminals fails) ∙ ap (λ l. Ok (l, terminals)) (append-nil before)

fault_at : (limits : Limits) (whole : Reading (List Item)) (before : List Item) (terminals : Terminals) (times : ℕ) (fault : RuleFault × Terminals) → length terminals ≤ times → whole ≡ prepended before (items_after times limits (length before) terminals) → next_is (is_mark (codes ",")) terminals ≡ true → next_item limits (length before) terminals ≡ Err fault → whole ≡ Err fault
fault_at limits whole before terminals zero fault enough same passes fails = absurd (omega (arith, some_terminal (is_mark (codes ",")) terminals passes))
fault_at limits whole before terminals (suc times) fault enough same passes fails =
    same ∙ ap (prepended before) (one_more times limits (length before) terminals passes ∙ ap (λ o. then_read o (λ read. items_after times limits (length before + 1) >>= λ more. pure (read ∷ more))) fails)

-- an item has a fault
pub Itemizing-fault : (limits : Limits) (whole : Reading (List Item)) (before : List Item) (terminals : Terminals) (fault : RuleFault × Terminals) → Itemizing limits whole before terminals → next_is (is_mark (codes ",")) terminals ≡ true → next_item limits (length before) terminals ≡ Err fault → whole ≡ Err fault
Itemizing-fault limits whole before terminals fault itemizing = fault_at limits whole before terminals itemizing.times fault itemizing.enough itemizing.same

-- a loop that ends with an item's fault does as the reader does
pub Itemizing-does : (limits : Limits) (reader : Reader (List Item)) (start : Terminals) (before : List Item) (terminals middle : Terminals) (fault : RuleFault) (after : Terminals) → Itemizing limits (reader start) before terminals → next_is (is_mark (codes ",")) terminals ≡ true → mark (codes ",") terminals ≡ Ok (tt, middle) → Does (item_after limits (length before)) middle (Err fault) after → Does reader start (Err fault) after
Itemizing-does limits reader start before terminals middle Memory after itemizing passes comma does = tt
Itemizing-does limits reader start before terminals middle Syntax after itemizing passes comma does =
    Itemizing-fault limits (reader start) before terminals (Syntax, after) itemizing passes (ap (λ o. then_read o (λ _. item_after limits (length before))) comma ∙ does)
Itemizing-does limits reader start before terminals middle (Limit limit) after itemizing passes comma does =
    Itemizing-fault limits (reader start) before terminals (Limit limit, after) itemizing passes (ap (λ o. then_read o (λ _. item_after limits (length before))) comma ∙ does)
