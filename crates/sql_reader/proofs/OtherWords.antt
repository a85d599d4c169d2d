-- The same rule in other words, and a rule that a value decides.
use Rattle.std.proofs.Common.{◌≡◌, ◌+◌, ℕ, zero, suc, Bool, true, false, List, [], ◌∷◌, ◌++◌, length, Ok, Err, refl, sym, ap, ◌∙◌, subst, inl, inr}
use Rattle.std.specs.Prelude.{◌⊎◌, ◌&&◌, ◌||◌, if◌then◌else◌}
use Rattle.std.specs.Str.{bytes_eq}
use Rattle.std.proofs.lemmas.Bool.{false≢true}
use Rattle.std.proofs.lemmas.Slice.Eq.{bytes_eq-Decides}
use Rattle.own_model.specs.declared.limit.LimitName.{LimitName}
use Rattle.grammar_model.specs.Terminal.{Terminals}
use Rattle.sql_reader.specs.reading.Reader.{Reading, Reader, next_is, then_read, pure, up_to, many}
use Rattle.grammar_model.specs.Terminal.{Terminal}
use Rattle.grammar_model.specs.Language.{Language, whether, many_from}
use Rattle.grammar_model.specs.Language as grammar
use Rattle.sql_reader.proofs.Heads.{Head, AWord, AMark, AName, ANumber, AQuoted, ASlot, is_head, among, apart, NoneNext, OneNext, both}
use Rattle.sql_reader.proofs.ReaderRight.{Means, Begins, Right, reads_both}
use Rattle.sql_reader.proofs.Repeats.{up_from, as_often_from}

-- one head is the other
abbrev pub same_head : Head → Head → Bool
same_head (AWord a) (AWord b) = bytes_eq a b
same_head (AMark a) (AMark b) = bytes_eq a b
same_head AName AName = true
same_head ANumber ANumber = true
same_head AQuoted AQuoted = true
same_head ASlot ASlot = true
same_head _ _ = false

abbrev pub is_in : Head → List Head → Bool
is_in head [] = false
is_in head (other ∷ others) = same_head head other || is_in head others

-- each of these is one of those
abbrev pub all_in : List Head → List Head → Bool
all_in [] others = true
all_in (head ∷ heads) others = is_in head others && all_in heads others

same-heads : (head other : Head) → same_head head other ≡ true → head ≡ other
same-heads (AWord a) (AWord b) same = ap AWord ((bytes_eq-Decides a b).0 same)
same-heads (AMark a) (AMark b) same = ap AMark ((bytes_eq-Decides a b).0 same)
same-heads AName AName same = refl
same-heads ANumber ANumber same = refl
same-heads AQuoted AQuoted same = refl
same-heads ASlot ASlot same = refl
same-heads _ _ same = absurd (false≢true same)

either_true : (a b : Bool) → (a || b) ≡ true → (a ≡ true) ⊎ (b ≡ true)
either_true true b is = inl refl
either_true false b is = inr is

is_in-among : (head : Head) (others : List Head) (terminal : Terminal) → is_in head others ≡ true → is_head head terminal ≡ true → among others terminal ≡ true
is_in-among head [] terminal inside is = absurd (false≢true inside)
is_in-among head (other ∷ others) terminal inside is = by (λ later. is_in-among head others terminal later is) (either_true (same_head head other) (is_in head others) inside)
  where
    or_right : (a b : Bool) → b ≡ true → (a || b) ≡ true
    or_right true b is = refl
    or_right false b is = is

    by : (is_in head others ≡ true → among others terminal ≡ true) → (same_head head other ≡ true) ⊎ (is_in head others ≡ true) → (is_head other terminal || among others terminal) ≡ true
    by later (inl same) = ap (λ b. b || among others terminal) (ap (λ h. is_head h terminal) (sym (same-heads head other same)) ∙ is)
    by later (inr more) = or_right (is_head other terminal) (among others terminal) (later more)

all_in-among : (heads others : List Head) (terminal : Terminal) → all_in heads others ≡ true → among heads terminal ≡ true → among others terminal ≡ true
all_in-among [] others terminal inside is = absurd (false≢true is)
all_in-among (head ∷ heads) others terminal inside is = by (λ later. all_in-among heads others terminal (both (is_in head others) (all_in heads others) inside).1 later) (either_true (is_head head terminal) (among heads terminal) is)
  where
    by : (among heads terminal ≡ true → among others terminal ≡ true) → (is_head head terminal ≡ true) ⊎ (among heads terminal ≡ true) → among others terminal ≡ true
    by later (inl here) = is_in-among head others terminal (both (is_in head others) (all_in heads others) inside).0 here
    by later (inr more) = later more

one-more : (heads others : List Head) (terminals : Terminals) → all_in heads others ≡ true → OneNext heads terminals → OneNext others terminals
one-more heads others [] inside is = absurd (false≢true is)
one-more heads others (terminal ∷ terminals) inside is = all_in-among heads others terminal inside is

none-less : (heads others : List Head) (terminals : Terminals) → all_in heads others ≡ true → NoneNext others terminals → NoneNext heads terminals
none-less heads others terminals inside none = by (next_is (among heads) terminals) refl
  where
    by : (answer : Bool) → next_is (among heads) terminals ≡ answer → next_is (among heads) terminals ≡ false
    by false is = is
    by true is = absurd (false≢true (sym none ∙ one-more heads others terminals inside is))

begins-more : (first heads : List Head) (empty blank : Bool) (terminals rest : Terminals) → all_in first heads ≡ true → (empty ≡ true → blank ≡ true) → Begins first empty terminals rest → Begins heads blank terminals rest
begins-more first heads empty blank terminals rest inside emptier (inl here) = inl (emptier here.0, here.1)
begins-more first heads empty blank terminals rest inside emptier (inr here) = inr (one-more first heads terminals inside here.0, here.1)

-- with more terminals at the front and after
pub with_more : {A : Type 0} {lifts : LimitName → Bool} {reader other : Reader A} {language : Language A} {first : List Head} {empty : Bool} {follow : List Head} (heads : List Head) (blank : Bool) (after : List Head)
    → Right lifts reader other language first empty follow → all_in first heads ≡ true → (empty ≡ true → blank ≡ true) → all_in follow after ≡ true → Right lifts reader other language heads blank after
with_more {first = first} {empty = empty} {follow = follow} heads blank after right inside emptier behind =
    record {
      goes = right.goes;
      reads = λ value terminals rest word none. right.reads value terminals rest word (none-less follow after rest behind none);
      begins = λ value terminals rest word. begins-more first heads empty blank terminals rest inside emptier (right.begins value terminals rest word);
      some = right.some;
      lifted = right.lifted;
      within = right.within;
    }

-- a rule that a value decides
pub decided : {A : Type 0} {lifts : LimitName → Bool} {reader other second wider : Reader A} {language behind : Language A} {first : List Head} {empty : Bool} {follow : List Head} (answer : Bool)
    → Right lifts reader other language first empty follow → Right lifts second wider behind first empty follow → Right lifts (if answer then reader else second) (if answer then other else wider) (whether answer language behind) first empty follow
decided true one two = one
decided false one two = two

means-same : {A : Type 0} (language same : Language A) → ((value : A) (terminals rest : Terminals) → language value terminals rest → same value terminals rest) → (front : Terminals) (outcome : Reading A) → Means language front outcome → Means same front outcome
means-same language same to front (Ok (value, rest)) means = λ ending. to value (front ++ ending) ending (means ending)
means-same language same to front (Err fault) means = (means.0, means.1, λ ending. to means.0 ((front ++ means.1) ++ ending) ending (means.2 ending))

-- what the one language says, the other says too
abbrev pub Into : {A : Type 0} → Language A → Language A → Type 0
Into {A = A} language same = (value : A) (terminals rest : Terminals) → language value terminals rest → same value terminals rest

-- the same language in other words
pub in_words : {A : Type 0} {lifts : LimitName → Bool} {reader other : Reader A} {language : Language A} {first : List Head} {empty : Bool} {follow : List Head} (same : Language A) → Into language same → Into same language
    → Right lifts reader other language first empty follow → Right lifts reader other same first empty follow
in_words {reader = reader} {language = language} same to from right =
    record {
      goes = λ terminals. let went = right.goes terminals in record { front = went.front; is = went.is; local = went.local; means = means-same language same to went.front (reader terminals) went.means };
      reads = λ value terminals rest word none. right.reads value terminals rest (from value terminals rest word) none;
      begins = λ value terminals rest word. right.begins value terminals rest (from value terminals rest word);
      some = (right.some.0, right.some.1, λ ending. to right.some.0 (right.some.1 ++ ending) ending (right.some.2 ending));
      lifted = right.lifted;
      within = right.within;
    }

-- the same readers in other words
pub same_readers : {A : Type 0} {lifts : LimitName → Bool} {reader other : Reader A} {language : Language A} {first : List Head} {empty : Bool} {follow : List Head} (second wider : Reader A)
    → ((terminals : Terminals) → reader terminals ≡ second terminals) → ((terminals : Terminals) → other terminals ≡ wider terminals) → Right lifts reader other language first empty follow → Right lifts second wider language first empty follow
same_readers {A = A} {lifts = lifts} {reader = reader} {other = other} {language = language} {first = first} {empty = empty} {follow = follow} second wider one two right =
    subst (λ r. Right lifts second r language first empty follow) (λ i terminals. two terminals i) (subst (λ r. Right lifts r other language first empty follow) (λ i terminals. one terminals i) right)

up_to-from : {A : Type 0} (test : Terminal → Bool) (reader : Reader A) (times count : ℕ) (terminals : Terminals) → up_from test (λ _. reader) times count terminals ≡ up_to times test reader terminals
up_to-from test reader zero count terminals = refl
up_to-from {A = A} test reader (suc times) count terminals = by (λ middle. up_to-from test reader times (count + 1) middle) (next_is test terminals)
  where
    onward : ((middle : Terminals) → up_from test (λ _. reader) times (count + 1) middle ≡ up_to times test reader middle) → (outcome : Reading A)
        → then_read outcome (λ value. reads_both (up_from test (λ _. reader) times (count + 1)) (λ more. pure (value ∷ more))) ≡ then_read outcome (λ value. reads_both (up_to times test reader) (λ more. pure (value ∷ more)))
    onward later (Ok (value, middle)) = ap (λ o. then_read o (λ more. pure (value ∷ more))) (later middle)
    onward later (Err fault) = refl

    by : ((middle : Terminals) → up_from test (λ _. reader) times (count + 1) middle ≡ up_to times test reader middle) → (answer : Bool)
        → (if answer then then_read (reader terminals) (λ value. reads_both (up_from test (λ _. reader) times (count + 1)) (λ more. pure (value ∷ more))) else Ok ([], terminals))
        ≡ (if answer then then_read (reader terminals) (λ value. reads_both (up_to times test reader) (λ more. pure (value ∷ more))) else Ok ([], terminals))
    by later true = onward later (reader terminals)
    by later false = refl

-- the rule as often as it comes
pub as_often : {A : Type 0} {lifts : LimitName → Bool} {test : Terminal → Bool} {reader other : Reader A} {language : Language A} {first follow : List Head}
    → ((terminal : Terminal) → test terminal ≡ among first terminal) → Right lifts reader other language first false follow → apart first follow ≡ true → Right lifts (many test reader) (many test other) (grammar.many language) first true (first ++ follow)
as_often {test = test} {reader = reader} {other = other} {language = language} {first = first} {follow = follow} tests right distinct =
    same_readers (many test reader) (many test other) (λ terminals. up_to-from test reader (length terminals) 0 terminals) (λ terminals. up_to-from test other (length terminals) 0 terminals)
    (as_often_from test (λ _. reader) (λ _. other) (λ _. language) first follow tests (λ _. right) distinct 0)
