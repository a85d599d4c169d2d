-- What a terminal may be at the front of a rule.
use Rattle.std.proofs.Common.{◌≡◌, ℕ, Bool, true, false, List, [], ◌∷◌, ◌++◌, refl, sym, ap, ◌∙◌}
use Rattle.std.specs.Prelude.{◌||◌, ◌&&◌, not}
use Rattle.std.specs.Str.{bytes_eq, str_eq_ignore_ascii_case, str_to_ascii_lowercase}
use Rattle.std.proofs.lemmas.Bool.{false≢true}
use Rattle.std.proofs.lemmas.Slice.Eq.{bytes_eq-Decides}
use Rattle.sql_lex.specs.declared.token.TokenKind.TheVariants.{Name, Keyword, Number, Quoted, Mark}
use Rattle.grammar_model.specs.Terminal.{Terminals}
use Rattle.sql_reader.specs.reading.Reader.{next_is}
use Rattle.grammar_model.specs.Terminal.{Terminal, Written, Slot, is_word, is_mark}
use Rattle.sql_reader.specs.reading.Judges.{is_name, is_quoted}

abbrev pub is_number : Terminal → Bool
is_number (Written Number bytes start) = true
is_number _ = false

abbrev pub is_slot : Terminal → Bool
is_slot Slot = true
is_slot _ = false

pub data Head : Type 0 where
  AWord : List ℕ → Head
  AMark : List ℕ → Head
  AName : Head
  ANumber : Head
  AQuoted : Head
  ASlot : Head

abbrev pub is_head : Head → Terminal → Bool
is_head (AWord word) = is_word word
is_head (AMark mark) = is_mark mark
is_head AName = is_name
is_head ANumber = is_number
is_head AQuoted = is_quoted
is_head ASlot = is_slot

-- the terminal is one of these
abbrev pub among : List Head → Terminal → Bool
among [] terminal = false
among (head ∷ heads) terminal = is_head head terminal || among heads terminal

-- no terminal is both
abbrev pub differ : Head → Head → Bool
differ (AWord a) (AWord b) = not (str_eq_ignore_ascii_case a b)
differ (AMark a) (AMark b) = not (bytes_eq a b)
differ AName AName = false
differ ANumber ANumber = false
differ AQuoted AQuoted = false
differ ASlot ASlot = false
differ _ _ = true

abbrev pub differs : Head → List Head → Bool
differs head [] = true
differs head (other ∷ others) = differ head other && differs head others

-- no terminal is one of these and one of those
abbrev pub apart : List Head → List Head → Bool
apart [] others = true
apart (head ∷ heads) others = differs head others && apart heads others

pub both : (a b : Bool) → (a && b) ≡ true → (a ≡ true) × (b ≡ true)
both true b holds = (refl, holds)
both false b holds = absurd (false≢true holds)

not_true : (a : Bool) → not a ≡ true → a ≡ false
not_true true h = absurd (false≢true h)
not_true false h = refl

-- neither of two
neither : (a b : Bool) → a ≡ false → b ≡ false → (a || b) ≡ false
neither true b one two = one
neither false b one two = two

pub neither_of : (a b : Bool) → (a || b) ≡ false → (a ≡ false) × (b ≡ false)
neither_of true b none = absurd (false≢true (sym none))
neither_of false b none = (refl, none)

unlike : (x a b : List ℕ) → bytes_eq x a ≡ true → bytes_eq a b ≡ false → bytes_eq x b ≡ false
unlike x a b same other = by (bytes_eq x b) refl
  where
    by : (answer : Bool) → bytes_eq x b ≡ answer → bytes_eq x b ≡ false
    by false is = is
    by true is = absurd (false≢true (sym other ∙ (bytes_eq-Decides a b).1 (sym ((bytes_eq-Decides x a).0 same) ∙ (bytes_eq-Decides x b).0 is)))

differ-heads : (head other : Head) (terminal : Terminal) → differ head other ≡ true → is_head head terminal ≡ true → is_head other terminal ≡ false
differ-heads head other Slot differs is = slot head other differs is
  where
    slot : (head other : Head) → differ head other ≡ true → is_head head Slot ≡ true → is_head other Slot ≡ false
    slot ASlot ASlot differs is = absurd (false≢true differs)
    slot ASlot (AWord word) differs is = refl
    slot ASlot (AMark mark) differs is = refl
    slot ASlot AName differs is = refl
    slot ASlot ANumber differs is = refl
    slot ASlot AQuoted differs is = refl
    slot (AWord word) other differs is = absurd (false≢true is)
    slot (AMark mark) other differs is = absurd (false≢true is)
    slot AName other differs is = absurd (false≢true is)
    slot ANumber other differs is = absurd (false≢true is)
    slot AQuoted other differs is = absurd (false≢true is)
differ-heads head other (Written Name text start) differs is = names head other differs is
  where
    names : (head other : Head) → differ head other ≡ true → is_head head (Written Name text start) ≡ true → is_head other (Written Name text start) ≡ false
    names AName AName differs is = absurd (false≢true differs)
    names AName ASlot differs is = refl
    names AName (AWord word) differs is = refl
    names AName (AMark mark) differs is = refl
    names AName ANumber differs is = refl
    names AName AQuoted differs is = refl
    names (AWord word) other differs is = absurd (false≢true is)
    names (AMark mark) other differs is = absurd (false≢true is)
    names ASlot other differs is = absurd (false≢true is)
    names ANumber other differs is = absurd (false≢true is)
    names AQuoted other differs is = absurd (false≢true is)
differ-heads head other (Written Number text start) differs is = numbers head other differs is
  where
    numbers : (head other : Head) → differ head other ≡ true → is_head head (Written Number text start) ≡ true → is_head other (Written Number text start) ≡ false
    numbers ANumber ANumber differs is = absurd (false≢true differs)
    numbers ANumber ASlot differs is = refl
    numbers ANumber (AWord word) differs is = refl
    numbers ANumber (AMark mark) differs is = refl
    numbers ANumber AName differs is = refl
    numbers ANumber AQuoted differs is = refl
    numbers (AWord word) other differs is = absurd (false≢true is)
    numbers (AMark mark) other differs is = absurd (false≢true is)
    numbers ASlot other differs is = absurd (false≢true is)
    numbers AName other differs is = absurd (false≢true is)
    numbers AQuoted other differs is = absurd (false≢true is)
differ-heads head other (Written Quoted text start) differs is = texts head other differs is
  where
    texts : (head other : Head) → differ head other ≡ true → is_head head (Written Quoted text start) ≡ true → is_head other (Written Quoted text start) ≡ false
    texts AQuoted AQuoted differs is = absurd (false≢true differs)
    texts AQuoted ASlot differs is = refl
    texts AQuoted (AWord word) differs is = refl
    texts AQuoted (AMark mark) differs is = refl
    texts AQuoted AName differs is = refl
    texts AQuoted ANumber differs is = refl
    texts (AWord word) other differs is = absurd (false≢true is)
    texts (AMark mark) other differs is = absurd (false≢true is)
    texts ASlot other differs is = absurd (false≢true is)
    texts AName other differs is = absurd (false≢true is)
    texts ANumber other differs is = absurd (false≢true is)
differ-heads head other (Written Keyword text start) differs is = words head other differs is
  where
    words : (head other : Head) → differ head other ≡ true → is_head head (Written Keyword text start) ≡ true → is_head other (Written Keyword text start) ≡ false
    words (AWord a) (AWord b) differs is =
        unlike (str_to_ascii_lowercase text) (str_to_ascii_lowercase a) (str_to_ascii_lowercase b) is (not_true (str_eq_ignore_ascii_case a b) differs)
    words (AWord a) ASlot differs is = refl
    words (AWord a) (AMark mark) differs is = refl
    words (AWord a) AName differs is = refl
    words (AWord a) ANumber differs is = refl
    words (AWord a) AQuoted differs is = refl
    words (AMark mark) other differs is = absurd (false≢true is)
    words ASlot other differs is = absurd (false≢true is)
    words AName other differs is = absurd (false≢true is)
    words ANumber other differs is = absurd (false≢true is)
    words AQuoted other differs is = absurd (false≢true is)
differ-heads head other (Written Mark text start) differs is = marks head other differs is
  where
    marks : (head other : Head) → differ head other ≡ true → is_head head (Written Mark text start) ≡ true → is_head other (Written Mark text start) ≡ false
    marks (AMark a) (AMark b) differs is = unlike text a b is (not_true (bytes_eq a b) differs)
    marks (AMark a) ASlot differs is = refl
    marks (AMark a) (AWord word) differs is = refl
    marks (AMark a) AName differs is = refl
    marks (AMark a) ANumber differs is = refl
    marks (AMark a) AQuoted differs is = refl
    marks (AWord word) other differs is = absurd (false≢true is)
    marks ASlot other differs is = absurd (false≢true is)
    marks AName other differs is = absurd (false≢true is)
    marks ANumber other differs is = absurd (false≢true is)
    marks AQuoted other differs is = absurd (false≢true is)

differs-heads : (head : Head) (others : List Head) (terminal : Terminal) → differs head others ≡ true → is_head head terminal ≡ true → among others terminal ≡ false
differs-heads head [] terminal distinct is = refl
differs-heads head (other ∷ others) terminal distinct is =
    let parts = both (differ head other) (differs head others) distinct in
    neither (is_head other terminal) (among others terminal) (differ-heads head other terminal parts.0 is) (differs-heads head others terminal parts.1 is)

-- a terminal that is one of these is none of those
pub apart-heads : (heads others : List Head) (terminal : Terminal) → apart heads others ≡ true → among heads terminal ≡ true → among others terminal ≡ false
apart-heads [] others terminal distinct is = absurd (false≢true is)
apart-heads (head ∷ heads) others terminal distinct is =
    let parts = both (differs head others) (apart heads others) distinct in
    by (is_head head terminal) refl (λ rest. apart-heads heads others terminal parts.1 rest)
  where
    by : (answer : Bool) → is_head head terminal ≡ answer → (among heads terminal ≡ true → among others terminal ≡ false) → among others terminal ≡ false
    by true met later = differs-heads head others terminal (both (differs head others) (apart heads others) distinct).0 met
    by false none later = later (ap (λ b. b || among heads terminal) (sym none) ∙ is)

-- what is one of two lists is one of the one or of the other
pub among-append : (heads others : List Head) (terminal : Terminal) → among (heads ++ others) terminal ≡ (among heads terminal || among others terminal)
among-append [] others terminal = refl
among-append (head ∷ heads) others terminal = ap (λ b. is_head head terminal || b) (among-append heads others terminal) ∙ grouped (is_head head terminal) (among heads terminal) (among others terminal)
  where
    grouped : (a b c : Bool) → (a || (b || c)) ≡ ((a || b) || c)
    grouped true b c = refl
    grouped false b c = refl

-- the first terminal is none of these
abbrev pub NoneNext : List Head → Terminals → Type 0
NoneNext heads terminals = next_is (among heads) terminals ≡ false

-- the first terminal is one of these
abbrev pub OneNext : List Head → Terminals → Type 0
OneNext heads terminals = next_is (among heads) terminals ≡ true

pub none-append : (heads others : List Head) (terminals : Terminals) → NoneNext (heads ++ others) terminals → NoneNext heads terminals × NoneNext others terminals
none-append heads others [] none = (refl, refl)
none-append heads others (terminal ∷ terminals) none = neither_of (among heads terminal) (among others terminal) (sym (among-append heads others terminal) ∙ none)

pub one-append-left : (heads others : List Head) (terminals : Terminals) → OneNext heads terminals → OneNext (heads ++ others) terminals
one-append-left heads others [] is = absurd (false≢true is)
one-append-left heads others (terminal ∷ terminals) is = among-append heads others terminal ∙ ap (λ b. b || among others terminal) is

pub one-append-right : (heads others : List Head) (terminals : Terminals) → OneNext others terminals → OneNext (heads ++ others) terminals
one-append-right heads others [] is = absurd (false≢true is)
one-append-right heads others (terminal ∷ terminals) is = among-append heads others terminal ∙ or_true (among heads terminal) (among others terminal) is
  where
    or_true : (a b : Bool) → b ≡ true → (a || b) ≡ true
    or_true true b is = refl
    or_true false b is = is

pub one-none : (heads others : List Head) (terminals : Terminals) → apart heads others ≡ true → OneNext heads terminals → NoneNext others terminals
one-none heads others [] distinct is = refl
one-none heads others (terminal ∷ terminals) distinct is = apart-heads heads others terminal distinct is
