-- What comes next in a text is one thing.
use Rattle.std.proofs.Common.{◌≡◌, ◌≢◌, ℕ, Bool, true, false, List, [], ◌∷◌, ◌++◌, length, drop, All, refl, sym, ap, ◌∙◌, subst, arith, suc, append_assoc}
use Rattle.std.specs.Prelude.{◌==◌, ◌||◌, ◌&&◌, nat_eq, not, IsTrue, Option, Some, None, Result, Ok, Err}
use Rattle.std.specs.Char.{is_ascii_digit}
use Rattle.std.specs.List.{list_all, starts_with}
use Rattle.std.proofs.lemmas.Bool.{false≢true}
use Rattle.std.proofs.lemmas.List.{length-append, length-drop}
use Rattle.sql_lex.specs.declared.token.TokenKind.{TokenKind}
use Rattle.sql_lex.specs.declared.token.TokenKind.TheVariants.{Name, Keyword, Number, Quoted, Mark}
use Rattle.sql_lex.specs.Bytes.{is_space, begins_word, continues_word, first_passes}
use Rattle.sql_lex.specs.declared.token.SyntaxAt.{SyntaxAt}
use Rattle.sql_lex.specs.declared.token.Token.{Token}
use Rattle.sql_lex.specs.Lexing.{Lexing, NextStandsAt, IsNext, IsAtEnd, IsFault, IsNextAnswer, IsSameToken, SameAnswer}
use Rattle.sql_lex.specs.Filler.{Filler, Space, Comment, bytes_of, IsFiller, Fills, EndsLine, begins_filler, Skips}
use Rattle.sql_lex.specs.Keywords.{is_keyword}
use Rattle.sql_lex.specs.Tokens.{doubled, quoted, is_word, is_number, is_mark, goes_on, Begins}
use Rattle.sql_lex.proofs.Marks.{both, begins_no_other, mark-length}
use Rattle.sql_lex.proofs.Quotes.{closed_once}
use Rattle.sql_lex.proofs.FirstByte.{begins_kind, begins-first}

-- the front of a line ends at one place
line_once : (line other after behind : List ℕ) → line ++ after ≡ other ++ behind → All (λ byte. byte ≢ 10) line → All (λ byte. byte ≢ 10) other → EndsLine after → EndsLine behind → after ≡ behind
line_once [] [] after behind same one two ends stops = same
line_once [] (byte ∷ other) after behind same one two ends stops = absurd (two 0 0 (omega arith) (subst EndsLine same ends))
line_once (byte ∷ line) [] after behind same one two ends stops = absurd (one 0 0 (omega arith) (subst EndsLine (sym same) stops))
line_once (byte ∷ line) (next ∷ other) after behind same one two ends stops =
    line_once line other after behind (cc) (λ k d within. one (suc k) d (omega arith)) (λ k d within. two (suc k) d (omega arith)) ends stops

-- one filler stands at the front
filler_once : (filler other : Filler) (after behind : List ℕ) → bytes_of filler ++ after ≡ bytes_of other ++ behind → IsFiller filler after → IsFiller other behind → after ≡ behind
filler_once (Space byte) (Space next) after behind same one two = cc
filler_once (Space byte) (Comment line) after behind same one two =
    let dash : byte ≡ 45 = cc in
    absurd (false≢true (subst (λ b. IsTrue (is_space b)) dash one))
filler_once (Comment line) (Space byte) after behind same one two =
    let dash : byte ≡ 45 = cc in
    absurd (false≢true (subst (λ b. IsTrue (is_space b)) dash two))
filler_once (Comment line) (Comment other) after behind same one two =
    line_once line other after behind (cc) one.0 two.0 one.1 two.1

filler_begins : (filler : Filler) (after : List ℕ) → IsFiller filler after → begins_filler (bytes_of filler ++ after) ≡ true
filler_begins (Space byte) after fits =
    let space : is_space byte ≡ true = fits in
    ap (λ b. b || starts_with nat_eq (byte ∷ after) (45 ∷ 45 ∷ [])) space
filler_begins (Comment line) after fits = refl

fills_once : (fillers others : List Filler) (bytes after behind : List ℕ) → Fills fillers bytes after → Fills others bytes behind → begins_filler after ≡ false → begins_filler behind ≡ false → after ≡ behind
fills_once [] [] bytes after behind one two ends stops = sym one ∙ two
fills_once [] (other ∷ others) bytes after behind one two ends stops =
    absurd (false≢true (sym ends ∙ ap begins_filler (sym one ∙ two.1) ∙ filler_begins other two.0 two.2))
fills_once (filler ∷ fillers) [] bytes after behind one two ends stops =
    absurd (false≢true (sym stops ∙ ap begins_filler (sym two ∙ one.1) ∙ filler_begins filler one.0 one.2))
fills_once (filler ∷ fillers) (other ∷ others) bytes after behind one two ends stops =
    let same = filler_once filler other one.0 two.0 (sym one.1 ∙ two.1) one.2 two.2 in
    fills_once fillers others one.0 after behind one.3 (subst (λ l. Fills others l behind) (sym same) two.3) ends stops

-- after white space and comments one thing follows
pub Skips-once : (bytes after behind : List ℕ) → Skips bytes after → Skips bytes behind → after ≡ behind
Skips-once bytes after behind one two = fills_once one.fillers two.fillers bytes after behind one.fills two.fills one.no_more two.no_more

-- a run of bytes that pass ends at one place
run_once : (test : ℕ → Bool) (token other after behind : List ℕ) → token ++ after ≡ other ++ behind → list_all test token ≡ true → list_all test other ≡ true → first_passes test after ≡ false → first_passes test behind ≡ false → token ≡ other
run_once test [] [] after behind same one two ends stops = refl
run_once test [] (byte ∷ other) after behind same one two ends stops =
    absurd (false≢true (sym ends ∙ ap (first_passes test) same ∙ (both _ _ two).0))
run_once test (byte ∷ token) [] after behind same one two ends stops =
    absurd (false≢true (sym stops ∙ ap (first_passes test) (sym same) ∙ (both _ _ one).0))
run_once test (byte ∷ token) (next ∷ other) after behind same one two ends stops =
    let first : byte ≡ next = cc in
    let rest = run_once test token other after behind (cc) (both _ _ one).1 (both _ _ two).1 ends stops in
    (λ i. first i ∷ rest i)

-- all bytes of a word may stand in one
word_all : (token : List ℕ) → is_word token ≡ true → list_all continues_word token ≡ true
word_all [] word = absurd (false≢true word)
word_all (byte ∷ token) word =
    let parts = both (begins_word byte) (list_all continues_word token) word in
    let first : continues_word byte ≡ true = begins_continues byte parts.0 in
    let rest : list_all continues_word token ≡ true = parts.1 in
    (λ i. first i && rest i)
  where
    begins_continues : (byte : ℕ) → begins_word byte ≡ true → continues_word byte ≡ true
    begins_continues byte begins = grind (arith, begins)

number_all : (token : List ℕ) → is_number token ≡ true → list_all is_ascii_digit token ≡ true
number_all [] number = absurd (false≢true number)
number_all (byte ∷ token) number = number

word_once : (token other after behind : List ℕ) → token ++ after ≡ other ++ behind → is_word token ≡ true → is_word other ≡ true → first_passes continues_word after ≡ false → first_passes continues_word behind ≡ false → token ≡ other
word_once token other after behind same one two ends stops = run_once continues_word token other after behind same (word_all token one) (word_all other two) ends stops

mark_once : (token other after behind : List ℕ) → token ++ after ≡ other ++ behind → is_mark token ≡ true → is_mark other ≡ true → first_passes (goes_on Mark token) after ≡ false → first_passes (goes_on Mark other) behind ≡ false → token ≡ other
mark_once [] other after behind same one two ends stops = absurd (omega (arith, (mark-length [] one).0))
mark_once (a ∷ b ∷ c ∷ token) other after behind same one two ends stops = absurd (omega (arith, (mark-length (a ∷ b ∷ c ∷ token) one).1))
mark_once (a ∷ []) [] after behind same one two ends stops = absurd (omega (arith, (mark-length [] two).0))
mark_once (a ∷ []) (x ∷ []) after behind same one two ends stops = let first : a ≡ x = cc in ap (λ b. b ∷ []) first
mark_once (a ∷ []) (x ∷ y ∷ []) after behind same one two ends stops =
    let first : a ≡ x = cc in
    let rest : after ≡ y ∷ behind = cc in
    absurd (false≢true (sym ends ∙ ap (first_passes (goes_on Mark (a ∷ []))) rest ∙ ap (λ b. is_mark (b ∷ y ∷ [])) first ∙ two))
mark_once (a ∷ []) (x ∷ y ∷ z ∷ other) after behind same one two ends stops = absurd (omega (arith, (mark-length (x ∷ y ∷ z ∷ other) two).1))
mark_once (a ∷ b ∷ []) [] after behind same one two ends stops = absurd (omega (arith, (mark-length [] two).0))
mark_once (a ∷ b ∷ []) (x ∷ []) after behind same one two ends stops =
    let first : x ≡ a = cc in
    let rest : behind ≡ b ∷ after = cc in
    absurd (false≢true (sym stops ∙ ap (first_passes (goes_on Mark (x ∷ []))) rest ∙ ap (λ c. is_mark (c ∷ b ∷ [])) first ∙ one))
mark_once (a ∷ b ∷ []) (x ∷ y ∷ []) after behind same one two ends stops =
    let first : a ≡ x = cc in
    let second : b ≡ y = cc in
    (λ i. first i ∷ second i ∷ [])
mark_once (a ∷ b ∷ []) (x ∷ y ∷ z ∷ other) after behind same one two ends stops = absurd (omega (arith, (mark-length (x ∷ y ∷ z ∷ other) two).1))

-- no two kinds begin with one byte, but for names and keywords
word_or_number : (byte : ℕ) → begins_word byte ≡ true → is_ascii_digit byte ≡ true → ⊥
word_or_number byte one two = grind (arith, one, two)

word_or_quote : (byte : ℕ) → begins_word byte ≡ true → (byte == 39) ≡ true → ⊥
word_or_quote byte one two = grind (arith, one, two)

number_or_quote : (byte : ℕ) → is_ascii_digit byte ≡ true → (byte == 39) ≡ true → ⊥
number_or_quote byte one two = grind (arith, one, two)

word_no_mark : (byte : ℕ) → begins_word byte ≡ true → begins_no_other byte ≡ false
word_no_mark byte word = ap (λ b. (not b && not (is_ascii_digit byte)) && not (byte == 39)) word

number_no_mark : (byte : ℕ) → is_ascii_digit byte ≡ true → begins_no_other byte ≡ false
number_no_mark byte number = ap (λ b. (not (begins_word byte) && not b) && not (byte == 39)) number ∙ ap (λ b. b && not (byte == 39)) (and_false (not (begins_word byte)))
  where
    and_false : (b : Bool) → (b && false) ≡ false
    and_false true = refl
    and_false false = refl

quote_no_mark : (byte : ℕ) → (byte == 39) ≡ true → begins_no_other byte ≡ false
quote_no_mark byte quote = ap (λ b. (not (begins_word byte) && not (is_ascii_digit byte)) && not b) quote ∙ and_false (not (begins_word byte) && not (is_ascii_digit byte))
  where
    and_false : (b : Bool) → (b && false) ≡ false
    and_false true = refl
    and_false false = refl

clash : (one two : TokenKind) (bytes : List ℕ) → first_passes (begins_kind one) bytes ≡ true → first_passes (begins_kind two) bytes ≡ true → ((byte : ℕ) → begins_kind one byte ≡ true → begins_kind two byte ≡ true → ⊥) → ⊥
clash one two [] first second never = false≢true first
clash one two (byte ∷ bytes) first second never = never byte first second

-- two tokens at the front are one
pub Begins-once : (one two : TokenKind) (bytes token other after behind : List ℕ) → Begins one bytes token after → Begins two bytes other behind → (one ≡ two) × (token ≡ other)
Begins-once Name Name bytes token other after behind first second =
    (refl, word_once token other after behind (sym first.split ∙ second.split) first.spelled.0 second.spelled.0 first.whole second.whole)
Begins-once Name Keyword bytes token other after behind first second =
    let same = word_once token other after behind (sym first.split ∙ second.split) first.spelled.0 second.spelled.0 first.whole second.whole in
    absurd (false≢true (sym first.spelled.1 ∙ ap is_keyword same ∙ second.spelled.1))
Begins-once Keyword Name bytes token other after behind first second =
    let same = word_once token other after behind (sym first.split ∙ second.split) first.spelled.0 second.spelled.0 first.whole second.whole in
    absurd (false≢true (sym second.spelled.1 ∙ ap is_keyword (sym same) ∙ first.spelled.1))
Begins-once Keyword Keyword bytes token other after behind first second =
    (refl, word_once token other after behind (sym first.split ∙ second.split) first.spelled.0 second.spelled.0 first.whole second.whole)
Begins-once Number Number bytes token other after behind first second =
    (refl, run_once is_ascii_digit token other after behind (sym first.split ∙ second.split) (number_all token first.spelled) (number_all other second.spelled) first.whole second.whole)
Begins-once Quoted Quoted bytes token other after behind first second =
    let v = first.spelled.0 in
    let w = second.spelled.0 in
    let whole : quoted v ++ after ≡ quoted w ++ behind = ap (λ l. l ++ after) (sym first.spelled.1) ∙ sym first.split ∙ second.split ∙ ap (λ l. l ++ behind) second.spelled.1 in
    let inside : (doubled v ++ 39 ∷ []) ++ after ≡ (doubled w ++ 39 ∷ []) ++ behind = ap (drop 1) whole in
    let same = closed_once v w after behind (sym (append_assoc (doubled v) (39 ∷ []) after) ∙ inside ∙ append_assoc (doubled w) (39 ∷ []) behind) first.whole second.whole in
    (refl, first.spelled.1 ∙ ap quoted same.0 ∙ sym second.spelled.1)
Begins-once Mark Mark bytes token other after behind first second =
    (refl, mark_once token other after behind (sym first.split ∙ second.split) first.spelled second.spelled first.whole second.whole)
Begins-once Name Number bytes token other after behind first second =
    absurd (clash Name Number bytes (begins-first Name bytes token after first) (begins-first Number bytes other behind second) word_or_number)
Begins-once Name Quoted bytes token other after behind first second =
    absurd (clash Name Quoted bytes (begins-first Name bytes token after first) (begins-first Quoted bytes other behind second) word_or_quote)
Begins-once Name Mark bytes token other after behind first second =
    absurd (clash Name Mark bytes (begins-first Name bytes token after first) (begins-first Mark bytes other behind second) (λ byte x y. false≢true (sym (word_no_mark byte x) ∙ y)))
Begins-once Keyword Number bytes token other after behind first second =
    absurd (clash Keyword Number bytes (begins-first Keyword bytes token after first) (begins-first Number bytes other behind second) word_or_number)
Begins-once Keyword Quoted bytes token other after behind first second =
    absurd (clash Keyword Quoted bytes (begins-first Keyword bytes token after first) (begins-first Quoted bytes other behind second) word_or_quote)
Begins-once Keyword Mark bytes token other after behind first second =
    absurd (clash Keyword Mark bytes (begins-first Keyword bytes token after first) (begins-first Mark bytes other behind second) (λ byte x y. false≢true (sym (word_no_mark byte x) ∙ y)))
Begins-once Number Name bytes token other after behind first second =
    absurd (clash Number Name bytes (begins-first Number bytes token after first) (begins-first Name bytes other behind second) (λ byte x y. word_or_number byte y x))
Begins-once Number Keyword bytes token other after behind first second =
    absurd (clash Number Keyword bytes (begins-first Number bytes token after first) (begins-first Keyword bytes other behind second) (λ byte x y. word_or_number byte y x))
Begins-once Number Quoted bytes token other after behind first second =
    absurd (clash Number Quoted bytes (begins-first Number bytes token after first) (begins-first Quoted bytes other behind second) number_or_quote)
Begins-once Number Mark bytes token other after behind first second =
    absurd (clash Number Mark bytes (begins-first Number bytes token after first) (begins-first Mark bytes other behind second) (λ byte x y. false≢true (sym (number_no_mark byte x) ∙ y)))
Begins-once Quoted Name bytes token other after behind first second =
    absurd (clash Quoted Name bytes (begins-first Quoted bytes token after first) (begins-first Name bytes other behind second) (λ byte x y. word_or_quote byte y x))
Begins-once Quoted Keyword bytes token other after behind first second =
    absurd (clash Quoted Keyword bytes (begins-first Quoted bytes token after first) (begins-first Keyword bytes other behind second) (λ byte x y. word_or_quote byte y x))
Begins-once Quoted Number bytes token other after behind first second =
    absurd (clash Quoted Number bytes (begins-first Quoted bytes token after first) (begins-first Number bytes other behind second) (λ byte x y. number_or_quote byte y x))
Begins-once Quoted Mark bytes token other after behind first second =
    absurd (clash Quoted Mark bytes (begins-first Quoted bytes token after first) (begins-first Mark bytes other behind second) (λ byte x y. false≢true (sym (quote_no_mark byte x) ∙ y)))
Begins-once Mark Name bytes token other after behind first second =
    absurd (clash Mark Name bytes (begins-first Mark bytes token after first) (begins-first Name bytes other behind second) (λ byte x y. false≢true (sym (word_no_mark byte y) ∙ x)))
Begins-once Mark Keyword bytes token other after behind first second =
    absurd (clash Mark Keyword bytes (begins-first Mark bytes token after first) (begins-first Keyword bytes other behind second) (λ byte x y. false≢true (sym (word_no_mark byte y) ∙ x)))
Begins-once Mark Number bytes token other after behind first second =
    absurd (clash Mark Number bytes (begins-first Mark bytes token after first) (begins-first Number bytes other behind second) (λ byte x y. false≢true (sym (number_no_mark byte y) ∙ x)))
Begins-once Mark Quoted bytes token other after behind first second =
    absurd (clash Mark Quoted bytes (begins-first Mark bytes token after first) (begins-first Quoted bytes other behind second) (λ byte x y. false≢true (sym (quote_no_mark byte y) ∙ x)))

-- one place follows
pub NextStandsAt-once : (lexing : Lexing) (place other : ℕ) → NextStandsAt lexing place → NextStandsAt lexing other → place ≡ other
NextStandsAt-once lexing place other one two =
    let same = Skips-once (drop lexing.at lexing.text) (drop place lexing.text) (drop other lexing.text) one.skips two.skips in
    omega (arith, ap length same, length-drop place lexing.text, length-drop other lexing.text, one.within, two.within)

end-no_token : (lexing : Lexing) (token : Token) → IsAtEnd lexing → IsNext lexing token → ⊥
end-no_token lexing token ends next =
    omega (arith, NextStandsAt-once lexing (length lexing.text) token.start ends next.stands, next.onward, next.within)

end-no_fault : (lexing : Lexing) (place : ℕ) → IsAtEnd lexing → IsFault lexing place → ⊥
end-no_fault lexing place ends fault = omega (arith, NextStandsAt-once lexing (length lexing.text) place ends fault.stands, fault.within)

token-no_fault : (lexing : Lexing) (token : Token) (place : ℕ) → IsNext lexing token → IsFault lexing place → ⊥
token-no_fault lexing token place next fault =
    let same = NextStandsAt-once lexing token.start place next.stands fault.stands in
    fault.none token.kind token.text.now (drop token.end lexing.text)
    (subst (λ n. Begins token.kind (drop n lexing.text) token.text.now (drop token.end lexing.text)) same next.begins)

token-once : (lexing : Lexing) (one other : Token) → IsNext lexing one → IsNext lexing other → IsSameToken one other
token-once lexing one other first second =
    let start = NextStandsAt-once lexing one.start other.start first.stands second.stands in
    let moved = subst (λ n. Begins other.kind (drop n lexing.text) other.text.now (drop other.end lexing.text)) (sym start) second.begins in
    let same = Begins-once one.kind other.kind (drop one.start lexing.text) one.text.now other.text.now (drop one.end lexing.text) (drop other.end lexing.text) first.begins moved in
    let first_len = ap length first.begins.split in
    let second_len = ap length moved.split in
    record {
      kind = same.0;
      start = start;
      end = omega (arith, ap length same.1, first_len, second_len, length-append one.text.now (drop one.end lexing.text), length-append other.text.now (drop other.end lexing.text), length-drop one.end lexing.text, length-drop other.end lexing.text, first.within, second.within);
    }

-- two answers that are right say the same
pub NextAnswer-once : (lexing : Lexing) (one other : Result (Option Token) SyntaxAt) → IsNextAnswer lexing one → IsNextAnswer lexing other → SameAnswer one other
NextAnswer-once lexing (Ok None) (Ok None) first second = tt
NextAnswer-once lexing (Ok None) (Ok (Some other)) first second = end-no_token lexing other first second
NextAnswer-once lexing (Ok None) (Err other) first second = end-no_fault lexing other.0 first second
NextAnswer-once lexing (Ok (Some one)) (Ok None) first second = end-no_token lexing one second first
NextAnswer-once lexing (Ok (Some one)) (Ok (Some other)) first second = token-once lexing one other first second
NextAnswer-once lexing (Ok (Some one)) (Err other) first second = token-no_fault lexing one other.0 first second
NextAnswer-once lexing (Err one) (Ok None) first second = end-no_fault lexing one.0 second first
NextAnswer-once lexing (Err one) (Ok (Some other)) first second = token-no_fault lexing other one.0 second first
NextAnswer-once lexing (Err one) (Err other) first second = NextStandsAt-once lexing one.0 other.0 first.stands second.stands
