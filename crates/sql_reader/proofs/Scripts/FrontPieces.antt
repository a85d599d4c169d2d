-- The pieces that stand at the front of bytes.
use Rattle.std.proofs.Common.{◌≡◌, ◌≢◌, ◌<◌, ◌≤◌, ◌+◌, ◌-◌, ℕ, zero, suc, Bool, true, false, not, List, [], ◌∷◌, ◌++◌, length, get_or, take, drop, reverse, map, All, inl, inr, refl, sym, ap, ◌∙◌, subst, arith, append_assoc}
use Rattle.std.specs.Prelude.{◌==◌, codes}
use Rattle.std.specs.List.{AllByRecursion, flat_map}
use Rattle.std.proofs.lemmas.Bool.{cases_Bool, both_ways, ne_eqb}
use Rattle.std.proofs.lemmas.Bool.Decides.{Decides-eqb, nat_tests}
use Rattle.std.proofs.lemmas.List.Elements.{All-cons, All-head, All-tail}
use Rattle.std.proofs.lemmas.List.{append-nil, reverse-append, length-append, length-take-le, take-append-drop, take_all, drop_all, take_more, map-append, length-map, get_or-take}
use Rattle.std.proofs.lemmas.Slice.Eq.{starts_is}
use Rattle.sql_lex.specs.Bytes.{is_space}
use Rattle.sql_lex.specs.Filler.{EndsLine}
use Rattle.script_model.specs.CallText.{Mark, mark_of, mark_in_comment, marks_of}
use Rattle.script_model.specs.Piece.{Piece, Byte, Quoted, Unclosed, Comment, SessionLine, Semicolon, bytes_of, ends_line, starts, IsPiece, ArePieces, IsWithoutQuote}
use Rattle.sql_reader.specs.scripts.Fronts.{AtFront, AreEmpty, Holds, begins_full, begins_after, is_inner, is_plain, IsEmptyFront, IsTextFront}

take_past : (xs ys : List ℕ) (count : ℕ) → take (length xs + count) (xs ++ ys) ≡ xs ++ take count ys
take_past [] ys count = let none : 0 + count ≡ count = omega arith in ap (λ n. take n ys) none
take_past (x ∷ xs) ys count = let more : suc (length xs) + count ≡ suc (length xs + count) = omega arith in rw more (ap (λ l. x ∷ l) (take_past xs ys count))

drop_past : (xs ys : List ℕ) (count : ℕ) → drop (length xs + count) (xs ++ ys) ≡ drop count ys
drop_past [] ys count = let none : 0 + count ≡ count = omega arith in ap (λ n. drop n ys) none
drop_past (x ∷ xs) ys count = let more : suc (length xs) + count ≡ suc (length xs + count) = omega arith in rw more (drop_past xs ys count)

-- the piece is these bytes, and that many of those after them
AtFront-parts : (begins : Bool) (piece : Piece) (bytes front rest : List ℕ) (len count : ℕ) → bytes ≡ front ++ rest → len ≡ length front + count → count ≤ length rest → bytes_of piece ≡ front ++ take count rest → IsPiece begins piece (drop count rest) → AtFront begins bytes piece len
AtFront-parts begins piece bytes front rest len count split long within is fits =
    record {
      within = omega (arith, ap length split, length-append front rest);
      is = (λ i. take (long i) (split i)) ∙ take_past front rest count ∙ sym is;
      fits = subst (IsPiece begins piece) (sym ((λ i. drop (long i) (split i)) ∙ drop_past front rest count)) fits;
    }

-- a byte that stands alone
alone : (begins : Bool) (byte : ℕ) (after : List ℕ) → byte ≢ 39 → byte ≢ 59 → starts (byte ∷ after) (codes "--") ≡ false → AtFront begins (byte ∷ after) (Byte byte) 1
alone begins byte after no_quote no_semicolon no_comment =
    record { within = omega arith; is = refl; fits = record { no_quote = no_quote; no_semicolon = no_semicolon; no_comment = no_comment } }

-- one piece that isn't a comment
one_piece : (begins : Bool) (bytes : List ℕ) (piece : Piece) (len held : ℕ) → AtFront begins bytes piece len → is_inner piece ≡ true → marks_of piece ≡ map mark_of (bytes_of piece) → ends_line piece ≡ false → Holds (map mark_of (bytes_of piece)) held → IsTextFront begins bytes len held
one_piece begins bytes piece len held front inner marks no_line holds =
    record {
      within = front.within;
      pieces = piece ∷ [];
      are = (drop len bytes, sym (take-append-drop len bytes) ∙ ap (λ l. l ++ drop len bytes) front.is, front.fits, refl);
      inner = (inner, tt);
      marks_are = append-nil (marks_of piece) ∙ marks ∙ ap (map mark_of) (sym front.is);
      no_line = no_line;
      holds = subst (λ l. Holds (map mark_of l) held) (sym front.is) holds;
    }

-- a dash that stands alone
pub dash_front : (begins : Bool) (bytes : List ℕ) → 0 < length bytes → get_or bytes 0 0 ≡ 45 → starts bytes (codes "--") ≡ false → IsTextFront begins bytes 1 1
dash_front begins [] some dash no_comment = absurd (omega arith)
dash_front begins (byte ∷ after) some dash no_comment =
    let plain : is_space byte ≡ false = ap is_space dash in
    one_piece begins (byte ∷ after) (Byte byte) 1 1 (alone begins byte after (omega arith) (omega arith) no_comment) refl refl (ap (λ b. b == 10) dash)
    (record { text = mark_of byte ∷ []; back = []; split = refl; tight = record { first = ap not plain; last = ap not plain }; back_empty = tt; held_is = refl })

-- a semicolon
pub semicolon_front : (begins : Bool) (bytes : List ℕ) → 0 < length bytes → get_or bytes 0 0 ≡ 59 → AtFront begins bytes Semicolon 1
semicolon_front begins [] some is = absurd (omega arith)
semicolon_front begins (byte ∷ after) some is = record { within = omega arith; is = ap (λ b. b ∷ []) is; fits = tt }

-- what begins the front of bytes begins the bytes
starts-longer : (bytes needle : List ℕ) (len : ℕ) → starts (take len bytes) needle ≡ true → starts bytes needle ≡ true
starts-longer bytes needle len is =
    let front : take len bytes ≡ needle ++ drop (length needle) (take len bytes) = (starts_is Decides-eqb (take len bytes) needle _ refl).0 is in
    (starts_is Decides-eqb bytes needle _ refl).1 (drop (length needle) (take len bytes) ++ drop len bytes)
    (sym (take-append-drop len bytes) ∙ ap (λ l. l ++ drop len bytes) front ∙ append_assoc needle (drop (length needle) (take len bytes)) (drop len bytes))

starts-split : (bytes needle : List ℕ) → starts bytes needle ≡ true → bytes ≡ needle ++ drop (length needle) bytes
starts-split bytes needle is = (starts_is Decides-eqb bytes needle _ refl).0 is

comment_empty : (line : List ℕ) → AreEmpty (map mark_in_comment line)
comment_empty [] = tt
comment_empty (byte ∷ line) = (refl, comment_empty line)

abbrev NoLine : ℕ → Type 0
NoLine byte = byte ≢ 10

-- the last of bytes without a line feed
last_no_line : (bytes own : List ℕ) (len : ℕ) → 0 < len → len ≤ length bytes → take len bytes ≡ own → All (λ byte. byte ≢ 10) own → (get_or bytes (len - 1) 0 == 10) ≡ false
last_no_line bytes own len some within is no_line =
    let there : get_or own (len - 1) 0 ≡ get_or bytes (len - 1) 0 = ap (λ l. get_or l (len - 1) 0) (sym is) ∙ get_or-take len bytes (len - 1) 0 (omega arith) in
    ne_eqb (get_or bytes (len - 1) 0) 10 (λ line. no_line (len - 1) 0 (omega (arith, ap length is, length-take-le len bytes within)) (there ∙ line))

-- a comment
pub comment_front : (begins : Bool) (bytes : List ℕ) (len : ℕ) → starts bytes (codes "--") ≡ true → (begins ≡ true → starts bytes (codes "-- session ") ≡ false) → len ≤ length (drop 2 bytes) → All (λ byte. byte ≢ 10) (take len (drop 2 bytes)) → EndsLine (drop len (drop 2 bytes)) → IsEmptyFront begins bytes (2 + len)
comment_front begins bytes len dashes no_session within line ends =
    record {
      some = omega arith;
      within = front.within;
      pieces = Comment own ∷ [];
      are = (drop (2 + len) bytes, sym (take-append-drop (2 + len) bytes) ∙ ap (λ l. l ++ drop (2 + len) bytes) front.is, front.fits, refl);
      inner = (refl, tt);
      all_empty = subst AreEmpty (sym (append-nil (map mark_in_comment (45 ∷ 45 ∷ own)))) (comment_empty (45 ∷ 45 ∷ own));
      line = sym (last_no_line bytes (45 ∷ 45 ∷ own) (2 + len) (omega arith) front.within front.is (All-cons NoLine 45 (45 ∷ own) (omega arith) (All-cons NoLine 45 own (omega arith) line)));
      first = let dash : get_or bytes 0 0 ≡ 45 = ap (λ l. get_or l 0 0) split in omega arith;
      cut = inr front.fits.0.1;
    }
  where
    own : List ℕ
    own = take len (drop 2 bytes)

    split : bytes ≡ 45 ∷ 45 ∷ drop 2 bytes
    split = starts-split bytes (codes "--") dashes

    whole : starts (drop 2 bytes) (codes " session ") ≡ true → starts bytes (codes "-- session ") ≡ true
    whole is = subst (λ l. starts l (codes "-- session ") ≡ true) (sym split) is

    no : begins ≡ true → starts own (codes " session ") ≡ false
    no here = elim (cases_Bool (starts own (codes " session "))) [
      | inl is ↦ absurd (both_ways _ (no_session here) (whole (starts-longer (drop 2 bytes) (codes " session ") len is)))
      | inr is ↦ is
    ]

    front : AtFront begins bytes (Comment own) (2 + len)
    front = AtFront-parts begins (Comment own) bytes (codes "--") (drop 2 bytes) (2 + len) len split refl within refl ((line, ends), no)

-- a session line
pub session_front : (begins : Bool) (bytes : List ℕ) (len : ℕ) → begins ≡ true → starts bytes (codes "-- session ") ≡ true → len ≤ length (drop 11 bytes) → All (λ byte. byte ≢ 10) (take len (drop 11 bytes)) → EndsLine (drop len (drop 11 bytes)) → (line : List ℕ) × AtFront begins bytes (SessionLine line) (11 + len)
session_front begins bytes len here is within line ends = (
  take len (drop 11 bytes),
  AtFront-parts begins (SessionLine (take len (drop 11 bytes))) bytes (codes "-- session ") (drop 11 bytes) (11 + len) len (starts-split bytes (codes "-- session ") is) refl within refl (here, (line, ends)),
)

-- a byte that isn't empty, last
full_last : (marks : List Mark) (mark : Mark) → mark.empty ≡ false → begins_full (reverse (marks ++ mark ∷ [])) ≡ true
full_last marks mark full = rw (reverse-append marks (mark ∷ [])) (ap not full)

-- a text in quotes
pub quoted_front : (begins : Bool) (after : List ℕ) (at : ℕ) → at < length after → get_or after at 0 ≡ 39 → IsWithoutQuote (take at after) → IsTextFront begins (39 ∷ after) (at + 2) (at + 2)
quoted_front begins after at within quote free =
    one_piece begins (39 ∷ after) (Quoted (take at after)) (at + 2) (at + 2)
    (AtFront-parts begins (Quoted (take at after)) (39 ∷ after) (39 ∷ []) after (at + 2) (at + 1) refl (omega arith) (omega arith) (ap (λ l. 39 ∷ l) closed) free)
    refl refl refl
    (record {
      text = marks_of (Quoted (take at after));
      back = [];
      split = sym (append-nil (marks_of (Quoted (take at after))));
      tight = record { first = refl; last = rw (map-append mark_of (39 ∷ take at after) (39 ∷ [])) (full_last (map mark_of (39 ∷ take at after)) (mark_of 39) refl) };
      back_empty = tt;
      held_is = omega (arith, length-map (39 ∷ (take at after ++ 39 ∷ [])) mark_of, length-append (take at after) (39 ∷ []), length-take-le at after (omega arith));
    })
  where
    closed : take at after ++ 39 ∷ [] ≡ take (at + 1) after
    closed = sym (take_more after at 0 within ∙ ap (λ b. take at after ++ b ∷ []) quote)

spaces_empty : (bytes : List ℕ) → All (λ byte. is_space byte ≡ true) bytes → AreEmpty (map mark_of bytes)
spaces_empty [] spaces = tt
spaces_empty (byte ∷ bytes) spaces = (All-head (λ byte. is_space byte ≡ true) byte bytes spaces, spaces_empty bytes (All-tail (λ byte. is_space byte ≡ true) byte bytes spaces))

-- bytes up to one that is no white space
full_up_to : (first : ℕ) (bytes : List ℕ) (held : ℕ) → is_space first ≡ false → held ≤ length bytes → (0 < held → is_space (get_or bytes (held - 1) 0) ≡ false) → begins_full (reverse (map mark_of (first ∷ take held bytes))) ≡ true
full_up_to first bytes zero plain within last = ap not plain
full_up_to first bytes (suc count) plain within last =
    let here : suc count - 1 ≡ count = omega arith in
    let more : suc count ≡ count + 1 = omega arith in
    let full : is_space (get_or bytes count 0) ≡ false = subst (λ n. is_space (get_or bytes n 0) ≡ false) here (last (omega arith)) in
    let split : first ∷ take (suc count) bytes ≡ (first ∷ take count bytes) ++ get_or bytes count 0 ∷ [] = ap (λ n. first ∷ take n bytes) more ∙ ap (λ l. first ∷ l) (take_more bytes count 0 (omega arith)) in
    subst (λ l. begins_full (reverse l) ≡ true) (sym (ap (map mark_of) split ∙ map-append mark_of (first ∷ take count bytes) (get_or bytes count 0 ∷ [])))
    (full_last (map mark_of (first ∷ take count bytes)) (mark_of (get_or bytes count 0)) full)

-- a byte that isn't empty, bytes up to the last that is no white space, and white space
holds_up_to : (first : ℕ) (after : List ℕ) (held : ℕ) → is_space first ≡ false → held ≤ length after → All (λ byte. is_space byte ≡ true) (drop held after) → (0 < held → is_space (get_or after (held - 1) 0) ≡ false) → Holds (map mark_of (first ∷ after)) (held + 1)
holds_up_to first after held plain within spaces last =
    record {
      text = map mark_of (first ∷ take held after);
      back = map mark_of (drop held after);
      split = ap (λ l. map mark_of (first ∷ l)) (sym (take-append-drop held after)) ∙ map-append mark_of (first ∷ take held after) (drop held after);
      tight = record { first = ap not plain; last = full_up_to first after held plain within last };
      back_empty = spaces_empty (drop held after) spaces;
      held_is = omega (arith, length-map (first ∷ take held after) mark_of, length-take-le held after within);
    }

-- a quote that no other follows
pub unclosed_front : (begins : Bool) (after : List ℕ) (held : ℕ) → IsWithoutQuote after → held ≤ length after → All (λ byte. is_space byte ≡ true) (drop held after) → (0 < held → is_space (get_or after (held - 1) 0) ≡ false) → IsTextFront begins (39 ∷ after) (length after + 1) (held + 1)
unclosed_front begins after held free within spaces last =
    one_piece begins (39 ∷ after) (Unclosed after) (length after + 1) (held + 1)
    (AtFront-parts begins (Unclosed after) (39 ∷ after) (39 ∷ []) after (length after + 1) (length after) refl (omega arith) (omega arith) (ap (λ l. 39 ∷ l) (sym (take_all (length after) after (omega arith)))) (free, drop_all (length after) after (omega arith)))
    refl refl refl (holds_up_to 39 after held refl within spaces last)

-- the first byte of `--` is a dash
pub no_dash : (bytes : List ℕ) → get_or bytes 0 0 ≢ 45 → starts bytes (codes "--") ≡ false
no_dash [] other = refl
no_dash (byte ∷ bytes) other =
    elim (cases_Bool (starts (byte ∷ bytes) (codes "--"))) [
      | inl is ↦ let split = starts-split (byte ∷ bytes) (codes "--") is in absurd (other (ap (λ l. get_or l 0 0) split))
      | inr is ↦ is
    ]

-- a byte and the bytes after it
pub first_and_rest : (bytes : List ℕ) (byte : ℕ) → 0 < length bytes → get_or bytes 0 0 ≡ byte → bytes ≡ byte ∷ drop 1 bytes
first_and_rest [] byte some is = absurd (omega arith)
first_and_rest (first ∷ bytes) byte some is = ap (λ b. b ∷ bytes) is

abbrev Plain : ℕ → Type 0
Plain byte = is_plain byte ≡ true

-- what a plain byte isn't
plain_is_no : (byte : ℕ) → Plain byte → (byte ≢ 39) × (byte ≢ 45) × (byte ≢ 59) × ((byte == 10) ≡ false)
plain_is_no byte plain = (grind (arith, nat_tests), grind (arith, nat_tests), grind (arith, nat_tests), grind (arith, nat_tests))

-- a byte that is no quote, dash, semicolon or white space is plain
pub plain_byte : (byte : ℕ) → byte ≢ 39 → byte ≢ 45 → byte ≢ 59 → is_space byte ≡ false → is_plain byte ≡ true
plain_byte byte no_quote no_dash no_semicolon no_space = grind (arith, nat_tests)

-- a byte that stands by itself whatever follows
abbrev Lone : ℕ → Type 0
Lone byte = (byte ≢ 39) × (byte ≢ 45) × (byte ≢ 59)

plain_lone : (byte : ℕ) → Plain byte → Lone byte
plain_lone byte plain = let is_no = plain_is_no byte plain in (is_no.0, is_no.1, is_no.2)

space_lone : (byte : ℕ) → is_space byte ≡ true → Lone byte
space_lone byte space = (grind (arith, nat_tests), grind (arith, nat_tests), grind (arith, nat_tests))

-- each is a piece of its own
run_pieces : (begins : Bool) (run after : List ℕ) → All Lone run → ArePieces begins (map Byte run) (run ++ after) after
run_pieces begins [] after lone = refl
run_pieces begins (byte ∷ run) after lone =
    let is_no = All-head Lone byte run lone in (
      run ++ after,
      refl,
      record { no_quote = is_no.0; no_semicolon = is_no.2; no_comment = no_dash (byte ∷ (run ++ after)) is_no.1 },
      run_pieces (byte == 10) run after (All-tail Lone byte run lone),
    )

-- those of a run at the front
front_pieces : (begins : Bool) (bytes : List ℕ) (len : ℕ) → All Lone (take len bytes) → ArePieces begins (map Byte (take len bytes)) bytes (drop len bytes)
front_pieces begins bytes len lone =
    subst (λ l. ArePieces begins (map Byte (take len bytes)) l (drop len bytes)) (take-append-drop len bytes) (run_pieces begins (take len bytes) (drop len bytes) lone)

run_inner : (run : List ℕ) → AllByRecursion (λ piece. is_inner piece ≡ true) (map Byte run)
run_inner [] = tt
run_inner (byte ∷ run) = (refl, run_inner run)

run_marks : (run : List ℕ) → flat_map marks_of (map Byte run) ≡ map mark_of run
run_marks [] = refl
run_marks (byte ∷ run) = ap (λ l. mark_of byte ∷ l) (run_marks run)

run_no_line : (begins : Bool) (run : List ℕ) → begins ≡ false → All Plain run → begins_after begins (map Byte run) ≡ false
run_no_line begins [] no_line plain = no_line
run_no_line begins (byte ∷ run) no_line plain =
    run_no_line (byte == 10) run (plain_is_no byte (All-head Plain byte run plain)).3 (All-tail Plain byte run plain)

-- whether a line begins after a run is told by its last byte
run_line : (begins : Bool) (first : ℕ) (run : List ℕ) → begins_after begins (map Byte (first ∷ run)) ≡ (get_or (first ∷ run) (length run) 0 == 10)
run_line begins first [] = refl
run_line begins first (second ∷ run) = run_line (first == 10) second run

-- the front of bytes, of which the first is given
take_next : (byte : ℕ) (after : List ℕ) (run : ℕ) → take (run + 1) (byte ∷ after) ≡ byte ∷ take run after
take_next byte after run = let next : run + 1 ≡ suc run = omega arith in ap (λ n. take n (byte ∷ after)) next

-- white space is ASCII
pub space_low : (byte : ℕ) → is_space byte ≡ true → byte < 128
space_low byte space = grind (arith, nat_tests)

-- white space
pub spaces_front : (begins : Bool) (byte : ℕ) (after : List ℕ) (run : ℕ) → is_space byte ≡ true → run ≤ length after → All (λ byte. is_space byte ≡ true) (take run after) → IsEmptyFront begins (byte ∷ after) (1 + run)
spaces_front begins byte after run space within spaces =
    record {
      some = omega arith;
      within = omega arith;
      pieces = map Byte (take (1 + run) (byte ∷ after));
      are = front_pieces begins (byte ∷ after) (1 + run) (subst (All Lone) (sym own_is) own_lone);
      inner = run_inner (take (1 + run) (byte ∷ after));
      all_empty = subst (λ l. AreEmpty (flat_map marks_of (map Byte l))) (sym own_is) (subst AreEmpty (sym (run_marks own)) (spaces_empty own own_spaces));
      line = ap (λ l. begins_after begins (map Byte l)) own_is ∙ run_line begins byte (take run after) ∙ ap (λ n. n == 10) last_is;
      first = space_low byte space;
      cut = inl (subst (λ n. n < 128) last_is (space_low (get_or own (length (take run after)) 0) (own_spaces (length (take run after)) 0 (omega arith))));
    }
  where
    own : List ℕ
    own = byte ∷ take run after

    long : length (take run after) ≡ run
    long = length-take-le run after within

    next : 1 + run ≡ run + 1
    next = omega arith

    own_is : take (1 + run) (byte ∷ after) ≡ own
    own_is = ap (λ n. take n (byte ∷ after)) next ∙ take_next byte after run

    own_spaces : All (λ byte. is_space byte ≡ true) own
    own_spaces = All-cons (λ byte. is_space byte ≡ true) byte (take run after) space spaces

    own_lone : All Lone own
    own_lone = λ k d here. space_lone (get_or own k d) (own_spaces k d here)

    last_place : length (take run after) ≡ 1 + run - 1
    last_place = omega (arith, long)

    last_is : get_or own (length (take run after)) 0 ≡ get_or (byte ∷ after) (1 + run - 1) 0
    last_is =
        ap (λ l. get_or l (length (take run after)) 0) (sym own_is) ∙ get_or-take (1 + run) (byte ∷ after) (length (take run after)) 0 (omega (arith, long))
        ∙ ap (λ n. get_or (byte ∷ after) n 0) last_place

-- a run of plain bytes, of which the first is no white space
pub run_front : (begins : Bool) (byte : ℕ) (after : List ℕ) (run held : ℕ) → is_plain byte ≡ true → is_space byte ≡ false → run ≤ length after → All (λ byte. is_plain byte ≡ true) (take run after)
    → held ≤ length (take run after) → All (λ byte. is_space byte ≡ true) (drop held (take run after)) → (0 < held → is_space (get_or (take run after) (held - 1) 0) ≡ false)
    → IsTextFront begins (byte ∷ after) (run + 1) (held + 1)
run_front begins byte after run held plain full within all_plain held_within spaces last =
    record {
      within = omega arith;
      pieces = map Byte (take (run + 1) (byte ∷ after));
      are = front_pieces begins (byte ∷ after) (run + 1) (subst (All Lone) (sym own_is) own_lone);
      inner = run_inner (take (run + 1) (byte ∷ after));
      marks_are = run_marks (take (run + 1) (byte ∷ after));
      no_line = ap (λ l. begins_after begins (map Byte l)) own_is ∙ run_no_line (byte == 10) (take run after) (plain_is_no byte plain).3 all_plain;
      holds = subst (λ l. Holds (map mark_of l) (held + 1)) (sym own_is) (holds_up_to byte (take run after) held full held_within spaces last);
    }
  where
    own : List ℕ
    own = byte ∷ take run after

    own_is : take (run + 1) (byte ∷ after) ≡ own
    own_is = take_next byte after run

    own_plain : All Plain own
    own_plain = All-cons Plain byte (take run after) plain all_plain

    own_lone : All Lone own
    own_lone = λ k d here. plain_lone (get_or own k d) (own_plain k d here)
