-- The texts of a large script are short.
use Rattle.std.proofs.Common.{◌≡◌, ℕ, zero, suc, ◌+◌, ◌*◌, ◌<◌, ◌≤◌, List, [], ◌∷◌, ◌++◌, length, map, Bool, true, false, filter, refl, arith}
use Rattle.std.specs.Prelude.{codes}
use Rattle.std.specs.Fmt.{decimal}
use Rattle.std.specs.List.{AllByRecursion, flat_map, range_with_len}
use Rattle.std.proofs.lemmas.Fmt.{length-decimal-le}
use Rattle.std.proofs.lemmas.List.{length-append}
use Rattle.std.proofs.lemmas.Nat.{mod_below}
use Rattle.own_model.specs.declared.limit.TheConstants.{STATEMENT_BYTES}
use Rattle.made_model.specs.declared.limits.TheConstants.{PEOPLE}
use Rattle.made_model.specs.Draw.{draw}
use Rattle.made_model.specs.MadeTexts.{erased_people, erased_text, erasure_texts, given_text, made_texts, note_text, noted_text, schema_texts, shown_text, taken_text, transfer_texts, user_text}

abbrev IsShort : List ℕ → Type 0
IsShort text = length text ≤ STATEMENT_BYTES

-- two lists of at most so many, one behind the other
joined : (a b : ℕ) (xs ys : List ℕ) → length xs ≤ a → length ys ≤ b → length (xs ++ ys) ≤ a + b
joined a b xs ys fits more = let e = length-append xs ys in omega arith

-- a number of at most five digits
five : (n : ℕ) → n < 100000 → length (decimal n) ≤ 5
five n small = length-decimal-le 5 n (omega arith) small (omega arith)

pub short-user : (number : ℕ) → number < 100000 → IsShort (user_text number)
unfolding user_text
short-user number small =
    let part1 = joined 26 5 (codes "INSERT INTO users VALUES (") (decimal number) (omega arith) (five number small) in
    let part2 = joined 31 6 (codes "INSERT INTO users VALUES (" ++ decimal number) (codes ", 'u')") part1 (omega arith) in
    omega (arith, part2)

drawn-below : (seed before most : ℕ) → 0 < most → draw seed before most < most
drawn-below seed before most some = mod_below _ most some

pub short-noted : (number a b n : ℕ) → (number < 100000) × (a < 100000) × (b < 100000) × (n < 100000) → IsShort (noted_text number a b n)
unfolding noted_text
short-noted number a b n is =
    let part1 = joined 26 5 (codes "INSERT INTO notes VALUES (") (decimal number) (omega arith) (five number is.0) in
    let part2 = joined 31 2 (codes "INSERT INTO notes VALUES (" ++ decimal number) (codes ", ") part1 (omega arith) in
    let part3 = joined 33 5 (codes "INSERT INTO notes VALUES (" ++ decimal number ++ codes ", ") (decimal a) part2 (five a is.1) in
    let part4 = joined 38 2 (codes "INSERT INTO notes VALUES (" ++ decimal number ++ codes ", " ++ decimal a) (codes ", ") part3 (omega arith) in
    let part5 = joined 40 5 (codes "INSERT INTO notes VALUES (" ++ decimal number ++ codes ", " ++ decimal a ++ codes ", ") (decimal b) part4 (five b is.2) in
    let part6 = joined 45 2 (codes "INSERT INTO notes VALUES (" ++ decimal number ++ codes ", " ++ decimal a ++ codes ", " ++ decimal b) (codes ", ") part5 (omega arith) in
    let part7 = joined 47 5 (codes "INSERT INTO notes VALUES (" ++ decimal number ++ codes ", " ++ decimal a ++ codes ", " ++ decimal b ++ codes ", ") (decimal n) part6 (five n is.3) in
    let part8 = joined 52 1 (codes "INSERT INTO notes VALUES (" ++ decimal number ++ codes ", " ++ decimal a ++ codes ", " ++ decimal b ++ codes ", " ++ decimal n) (codes ")") part7 (omega arith) in
    omega (arith, part8)

short-note : (people seed before : ℕ) → 0 < people → people ≤ PEOPLE → before < people → IsShort (note_text people seed before)
unfolding note_text
short-note people seed before some most less =
    let x = drawn-below seed (3 * before) people some in
    let y = drawn-below seed (3 * before + 1) people some in
    let z = drawn-below seed (3 * before + 2) 1000 (omega arith) in
    short-noted (before + 1) (1 + draw seed (3 * before) people) (1 + draw seed (3 * before + 1) people) (draw seed (3 * before + 2) 1000)
    (omega arith, omega arith, omega arith, omega arith)

pub short-taken : (amount note : ℕ) → amount < 100000 → note < 100000 → IsShort (taken_text amount note)
unfolding taken_text
short-taken amount note small less =
    let part1 = joined 25 5 (codes "UPDATE notes SET n = n - ") (decimal amount) (omega arith) (five amount small) in
    let part2 = joined 30 12 (codes "UPDATE notes SET n = n - " ++ decimal amount) (codes " WHERE id = ") part1 (omega arith) in
    let part3 = joined 42 5 (codes "UPDATE notes SET n = n - " ++ decimal amount ++ codes " WHERE id = ") (decimal note) part2 (five note less) in
    omega (arith, part3)

pub short-given : (amount note : ℕ) → amount < 100000 → note < 100000 → IsShort (given_text amount note)
unfolding given_text
short-given amount note small less =
    let part1 = joined 25 5 (codes "UPDATE notes SET n = n + ") (decimal amount) (omega arith) (five amount small) in
    let part2 = joined 30 12 (codes "UPDATE notes SET n = n + " ++ decimal amount) (codes " WHERE id = ") part1 (omega arith) in
    let part3 = joined 42 5 (codes "UPDATE notes SET n = n + " ++ decimal amount ++ codes " WHERE id = ") (decimal note) part2 (five note less) in
    omega (arith, part3)

short-transfer : (people seed draws : ℕ) → 0 < people → people ≤ PEOPLE → AllByRecursion IsShort (transfer_texts people seed draws)
unfolding transfer_texts
short-transfer people seed draws some most =
    let x = drawn-below seed draws people some in
    let y = drawn-below seed (draws + 1) people some in
    let z = drawn-below seed (draws + 2) 100 (omega arith) in (
      omega arith,
      (
        short-taken (draw seed (draws + 2) 100) (1 + draw seed draws people) (omega arith) (omega arith),
        (short-given (draw seed (draws + 2) 100) (1 + draw seed (draws + 1) people) (omega arith) (omega arith), (omega arith, tt)),
      ),
    )

pub short-shown : (number : ℕ) → number < 100000 → IsShort (shown_text number)
unfolding shown_text
short-shown number small =
    let all = joined 15 5 (codes "GDPR GET users ") (decimal number) (omega arith) (five number small) in
    omega (arith, all)

pub short-erased : (number : ℕ) → number < 100000 → IsShort (erased_text number)
unfolding erased_text
short-erased number small =
    let all = joined 18 5 (codes "GDPR FORGET users ") (decimal number) (omega arith) (five number small) in
    omega (arith, all)

short-erasure : (number : ℕ) → number < 100000 → AllByRecursion IsShort (erasure_texts number)
unfolding erasure_texts
short-erasure number small = (short-shown number small, (short-erased number small, tt))

-- what holds of two lists holds of both together
both : {X : Type 0} (P : X → Type 0) (xs ys : List X) → AllByRecursion P xs → AllByRecursion P ys → AllByRecursion P (xs ++ ys)
both P [] ys all more = more
both P (x ∷ xs) ys all more = (all.0, both P xs ys all.1 more)

of-each : {X Y : Type 0} (Q : X → Type 0) (P : Y → Type 0) (f : X → Y) (xs : List X) → AllByRecursion Q xs → ((x : X) → Q x → P (f x)) → AllByRecursion P (map f xs)
of-each Q P f [] all gives = tt
of-each Q P f (x ∷ xs) all gives = (gives x all.0, of-each Q P f xs all.1 gives)

of-lists : {X Y : Type 0} (Q : X → Type 0) (P : Y → Type 0) (f : X → List Y) (xs : List X) → AllByRecursion Q xs → ((x : X) → Q x → AllByRecursion P (f x))
    → AllByRecursion P (flat_map f xs)
of-lists Q P f [] all gives = tt
of-lists Q P f (x ∷ xs) all gives = both P (f x) (flat_map f xs) (gives x all.0) (of-lists Q P f xs all.1 gives)

-- numbers of a range
below : (end first count : ℕ) → first + count ≤ end → AllByRecursion (λ number. number < end) (range_with_len first count)
below end first zero within = tt
below end first (suc count) within = (omega arith, below end (first + 1) count (omega arith))

kept-step : {X : Type 0} (P : X → Type 0) (test : X → Bool) (first : X) (rest : List X) → P first → AllByRecursion P (filter test rest)
    → (b : Bool) → test first ≡ b → AllByRecursion P (filter test (first ∷ rest))
kept-step P test first rest has later true is = rw is (has, later)
kept-step P test first rest has later false is = rw is later

kept : {X : Type 0} (P : X → Type 0) (test : X → Bool) (xs : List X) → AllByRecursion P xs → AllByRecursion P (filter test xs)
kept P test [] all = tt
kept P test (first ∷ rest) all = kept-step P test first rest all.0 (kept P test rest all.1) _ refl

short-schema : AllByRecursion IsShort schema_texts
short-schema = (omega arith, (omega arith, (omega arith, tt)))

pub made-short : (people seed : ℕ) → 0 < people → people ≤ PEOPLE → AllByRecursion IsShort (made_texts people seed)
made-short people seed some most =
    let users = of-each (λ number. number < 1 + people) IsShort user_text (range_with_len 1 people) (below (1 + people) 1 people (omega arith)) (λ number less. short-user number (omega arith)) in
    let notes = of-each (λ number. number < people) IsShort (note_text people seed) (range_with_len 0 people) (below people 0 people (omega arith))
    (λ number less. short-note people seed number some most less) in
    let moves = of-lists (λ number. number < people) IsShort (λ before. transfer_texts people seed (3 * people + 3 * before)) (range_with_len 0 people)
    (below people 0 people (omega arith)) (λ number less. short-transfer people seed (3 * people + 3 * number) some most) in
    let gone = of-lists (λ number. number < 1 + people) IsShort erasure_texts (erased_people people)
    (kept (λ number. number < 1 + people) _ (range_with_len 1 people) (below (1 + people) 1 people (omega arith))) (λ number less. short-erasure number (omega arith)) in
    let last : AllByRecursion IsShort (codes "SELECT * FROM held" ∷ []) = (omega arith, tt) in
    let first = map user_text (range_with_len 1 people) in
    let second = map (note_text people seed) (range_with_len 0 people) in
    let third = flat_map (λ before. transfer_texts people seed (3 * people + 3 * before)) (range_with_len 0 people) in
    let fourth = flat_map erasure_texts (erased_people people) in
    both IsShort (schema_texts ++ first ++ second ++ third ++ fourth) (codes "SELECT * FROM held" ∷ [])
    (both IsShort (schema_texts ++ first ++ second ++ third) fourth
    (both IsShort (schema_texts ++ first ++ second) third (both IsShort (schema_texts ++ first) second (both IsShort schema_texts first short-schema users) notes) moves) gone)
    last
