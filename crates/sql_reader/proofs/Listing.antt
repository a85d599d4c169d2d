-- A list that a loop reads, item by item.
use Rattle.std.proofs.Common.{◌≡◌, ◌<◌, ◌≤◌, ℕ, zero, suc, Bool, true, false, List, [], ◌∷◌, ◌++◌, length, Ok, Err, refl, sym, ap, ◌∙◌, arith, append_assoc}
use Rattle.std.proofs.lemmas.Bool.{false≢true}
use Rattle.std.specs.Prelude.{if◌then◌else◌}
use Rattle.sql_reader.specs.declared.fault.RuleFault.{RuleFault}
use Rattle.sql_reader.specs.declared.fault.RuleFault.TheVariants.{Syntax, Limit, Memory}
use Rattle.grammar_model.specs.Terminal.{Terminals}
use Rattle.sql_reader.specs.reading.Reader.{Reading, Reader, then_read, pure, ◌>>=◌, next_is, up_to, many, prepended, Does}
use Rattle.grammar_model.specs.Terminal.{Terminal}

-- the outcome of the whole list: what was read so far, and what is still to be read
pub record Listing {A : Type 0} (test : Terminal → Bool) (reader : Reader A) (whole : Reading (List A)) (before : List A) (terminals : Terminals) : Type 0 where
  pub count : ℕ
  pub enough : length terminals ≤ count
  pub same : whole ≡ prepended before (up_to count test reader terminals)

pub append-nil : {A : Type 0} (xs : List A) → xs ++ [] ≡ xs
append-nil [] = refl
append-nil (x ∷ xs) = ap (λ l. x ∷ l) (append-nil xs)

-- the first item alone
pub first-prepended : {A : Type 0} (first : A) (outcome : Reading (List A)) → then_read outcome (λ others. pure (first ∷ others)) ≡ prepended (first ∷ []) outcome
first-prepended first (Ok (read, rest)) = refl
first-prepended first (Err fault) = refl

pub Listing-start : {A : Type 0} (test : Terminal → Bool) (reader : Reader A) (whole : Reading (List A)) (first : A) (terminals : Terminals) → whole ≡ then_read (many test reader terminals) (λ others. pure (first ∷ others)) → Listing test reader whole (first ∷ []) terminals
Listing-start test reader whole first terminals is =
    record { count = length terminals; enough = omega arith; same = is ∙ first-prepended first (many test reader terminals) }

-- no item, at the end of a list
pub Listing-none : {A : Type 0} (test : Terminal → Bool) (reader : Reader A) (whole : Reading (List A)) (terminals : Terminals) → whole ≡ many test reader terminals → Listing test reader whole [] terminals
Listing-none test reader whole terminals is =
    record { count = length terminals; enough = omega arith; same = is ∙ none (many test reader terminals) }
  where
    none : {A : Type 0} (outcome : Reading (List A)) → outcome ≡ prepended [] outcome
    none (Ok (read, rest)) = refl
    none (Err fault) = refl

-- one more item comes
up_to-more : {A : Type 0} (count : ℕ) (test : Terminal → Bool) (reader : Reader A) (terminals : Terminals) → next_is test terminals ≡ true → up_to (suc count) test reader terminals ≡ then_read (reader terminals) (λ read. up_to count test reader >>= λ more. pure (read ∷ more))
up_to-more count test reader terminals passes = ap (λ b. if b then then_read (reader terminals) (λ read. up_to count test reader >>= λ more. pure (read ∷ more)) else Ok ([], terminals)) passes

up_to-none : {A : Type 0} (count : ℕ) (test : Terminal → Bool) (reader : Reader A) (terminals : Terminals) → next_is test terminals ≡ false → up_to count test reader terminals ≡ Ok ([], terminals)
up_to-none zero test reader terminals fails = refl
up_to-none (suc count) test reader terminals fails = ap (λ b. if b then then_read (reader terminals) (λ read. up_to count test reader >>= λ more. pure (read ∷ more)) else Ok ([], terminals)) fails

pub prepended-more : {A : Type 0} (before : List A) (read : A) (outcome : Reading (List A)) → prepended before (then_read outcome (λ more. pure (read ∷ more))) ≡ prepended (before ++ read ∷ []) outcome
prepended-more before read (Ok (more, rest)) = ap (λ l. Ok (l, rest)) (sym (append_assoc before (read ∷ []) more))
prepended-more before read (Err fault) = refl

pub some_terminal : (test : Terminal → Bool) (terminals : Terminals) → next_is test terminals ≡ true → 0 < length terminals
some_terminal test [] passes = absurd (false≢true passes)
some_terminal test (terminal ∷ terminals) passes = omega arith

Listing-count : {A : Type 0} (test : Terminal → Bool) (reader : Reader A) (whole : Reading (List A)) (before : List A) (terminals : Terminals) (count : ℕ) (read : A) (rest : Terminals) → length terminals ≤ count → whole ≡ prepended before (up_to count test reader terminals) → next_is test terminals ≡ true → reader terminals ≡ Ok (read, rest) → length rest < length terminals → Listing test reader whole (before ++ read ∷ []) rest
Listing-count test reader whole before terminals zero read rest enough same passes reads shorter = absurd (omega (arith, some_terminal test terminals passes))
Listing-count test reader whole before terminals (suc count) read rest enough same passes reads shorter =
    record {
      count = count;
      enough = omega arith;
      same = same ∙ ap (prepended before) (up_to-more count test reader terminals passes ∙ ap (λ o. then_read o (λ read. up_to count test reader >>= λ more. pure (read ∷ more))) reads) ∙ prepended-more before read (up_to count test reader rest);
    }

pub Listing-step : {A : Type 0} (test : Terminal → Bool) (reader : Reader A) (whole : Reading (List A)) (before : List A) (terminals : Terminals) (read : A) (rest : Terminals) → Listing test reader whole before terminals → next_is test terminals ≡ true → reader terminals ≡ Ok (read, rest) → length rest < length terminals → Listing test reader whole (before ++ read ∷ []) rest
Listing-step test reader whole before terminals read rest listing = Listing-count test reader whole before terminals listing.count read rest listing.enough listing.same

-- no item comes any more
pub Listing-end : {A : Type 0} (test : Terminal → Bool) (reader : Reader A) (whole : Reading (List A)) (before : List A) (terminals : Terminals) → Listing test reader whole before terminals → next_is test terminals ≡ false → whole ≡ Ok (before, terminals)
Listing-end test reader whole before terminals listing fails =
    listing.same ∙ ap (prepended before) (up_to-none listing.count test reader terminals fails) ∙ ap (λ l. Ok (l, terminals)) (append-nil before)

fault-count : {A : Type 0} (test : Terminal → Bool) (reader : Reader A) (whole : Reading (List A)) (before : List A) (terminals : Terminals) (count : ℕ) (fault : RuleFault × Terminals) → length terminals ≤ count → whole ≡ prepended before (up_to count test reader terminals) → next_is test terminals ≡ true → reader terminals ≡ Err fault → whole ≡ Err fault
fault-count test reader whole before terminals zero fault enough same passes fails = absurd (omega (arith, some_terminal test terminals passes))
fault-count test reader whole before terminals (suc count) fault enough same passes fails =
    same ∙ ap (prepended before) (up_to-more count test reader terminals passes ∙ ap (λ o. then_read o (λ read. up_to count test reader >>= λ more. pure (read ∷ more))) fails)

-- an item has a fault
pub Listing-fault : {A : Type 0} (test : Terminal → Bool) (reader : Reader A) (whole : Reading (List A)) (before : List A) (terminals : Terminals) (fault : RuleFault × Terminals) → Listing test reader whole before terminals → next_is test terminals ≡ true → reader terminals ≡ Err fault → whole ≡ Err fault
Listing-fault test reader whole before terminals fault listing = fault-count test reader whole before terminals listing.count fault listing.enough listing.same

-- a loop that ends with an item's fault does as the reader does
pub Listing-does : {A : Type 0} (test : Terminal → Bool) (item : Reader A) (reader : Reader (List A)) (start : Terminals) (before : List A) (terminals : Terminals) (fault : RuleFault) (after : Terminals) → Listing test item (reader start) before terminals → next_is test terminals ≡ true → Does item terminals (Err fault) after → Does reader start (Err fault) after
Listing-does test item reader start before terminals Memory after listing passes does = tt
Listing-does test item reader start before terminals Syntax after listing passes does = Listing-fault test item (reader start) before terminals (Syntax, after) listing passes does
Listing-does test item reader start before terminals (Limit limit) after listing passes does = Listing-fault test item (reader start) before terminals (Limit limit, after) listing passes does
