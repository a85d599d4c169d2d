-- A stream goes on after a stretch that is closed.
use Rattle.std.proofs.Common.{◌≡◌, ◌≢◌, ◌<◌, ◌≤◌, ◌+◌, ◌-◌, ℕ, Bool, true, false, List, [], ◌∷◌, ◌++◌, length, take, drop, map, refl, sym, ap, ◌∙◌, subst, arith, append_assoc}
use Rattle.std.specs.Prelude.{Option, None, Some, slice_range, slice_index, slice_set, nat_lt, if◌then◌else◌, is_some, ◌==◌, cond}
use Rattle.std.specs.List.{flat_map}
use Rattle.std.specs.Str.{IsUtf8}
use Rattle.std.proofs.lemmas.Str.{IsUtf8-append}
use Rattle.std.proofs.lemmas.List.{append-nil, length-append, length-take, length-drop, map-append, drop-drop, drop-take, take-take, take-append-drop}
use Rattle.std.proofs.lemmas.List.Concat.{flat_map-append}
use Rattle.std.proofs.lemmas.List.Sums.{sum_by-append}
use Rattle.std.proofs.Math.Seq.{take-append-add}
use Rattle.own_model.specs.declared.limit.TheConstants.{STATEMENT_BYTES}
use Rattle.own_model.specs.declared.script.ScriptCall.{ScriptCall}
use Rattle.script_model.specs.Asked.{IsAskedWhere}
use Rattle.script_model.specs.CallText.{CallText, Part, Call, call_in, marks_of, marks_in, is_closed, end_of, ending_len, session_after, or_before, bad_line, bad_unless, parts_from}
use Rattle.script_model.specs.Numbered.{call_after}
use Rattle.script_model.specs.Piece.{Piece, ArePieces}
use Rattle.script_model.specs.Script.{texts_in}
use Rattle.script_model.specs.Stretch.{Ending, AtSemicolon, AtSession, AtEnd, stretches}
use Rattle.script_model.proofs.InputCalls.{texts-append}
use Rattle.sql_reader.specs.scripts.Counts.{AreCounted, asking}
use Rattle.sql_reader.specs.scripts.Fronts.{begins_after}
use Rattle.sql_reader.specs.scripts.Stretches.{ending_pieces, call_with}
use Rattle.sql_reader.proofs.Scripts.Counting.{AreCounted-push}
use Rattle.sql_reader.proofs.Scripts.Marking.{byte_in, pieces_bytes, call_is}
use Rattle.sql_reader.proofs.Scripts.Scanning.{ArePieces-append}
use Rattle.call_stream.specs.Given.{AreFront, AreCallsOf, AreClosed, bad_lines}
use Rattle.call_stream.specs.Scans.{IsMet}
use Rattle.call_stream.specs.Stretches.{IsCallIn, IsClosed, IsEndingOf, IsRead, IsSessionAfter, closes, feeds, line_of, next_of}
use Rattle.call_stream.specs.Taken.{GivesUp, HasNext, HasPassed, HasTaken, IsShown, IsSound, pending, count_now}
use Rattle.call_stream.specs.declared.call.StreamCall.{StreamCall}
use Rattle.call_stream.specs.declared.scan.Closing.{Closing}
use Rattle.call_stream.specs.declared.scan.Closing.TheVariants as closing
use Rattle.call_stream.specs.declared.scan.Scan.{Scan}
use Rattle.call_stream.specs.declared.stream.CallStream.{CallStream}
use Rattle.call_stream.specs.declared.stretch.Read.{Read}
use Rattle.call_stream.proofs.Closing.{closed}
use Rattle.call_stream.proofs.Calling.{call_push}
use Rattle.call_stream.proofs.Parts.{after_is, begins_ending, closed_ending, stretch_length, parts_then, bad_lines-append, call_further}

-- what closes a stretch isn't the end of the input
pub goes_on : (bytes : List ℕ) (scan : Scan) (found : Closing) (ending : Ending) → IsEndingOf bytes scan found ending → ending ≢ AtEnd
goes_on bytes scan closing.Semicolon ending is = λ end. absurd (let wrong : AtSemicolon ≡ AtEnd = sym is ∙ end in cc)
goes_on bytes scan closing.Session ending is = λ end. absurd (let wrong : AtSession (line_of bytes scan) ≡ AtEnd = sym is ∙ end in cc)

closing_is : (bytes : List ℕ) (scan : Scan) (found : Closing) (ending : Ending) → IsEndingOf bytes scan found ending → is_closed ending ≡ closes found
closing_is bytes scan closing.Semicolon ending is = ap is_closed is
closing_is bytes scan closing.Session ending is = ap is_closed is

-- the session line, if one closes the stretch, names the session
no_bad_line : (bytes : List ℕ) (scan : Scan) (found : Closing) (ending : Ending) (before session at : ℕ) → IsEndingOf bytes scan found ending → IsSessionAfter bytes scan before found session → bad_line at ending ≡ []
no_bad_line bytes scan closing.Semicolon ending before session at is named = ap (bad_line at) is
no_bad_line bytes scan closing.Session ending before session at is named = ap (bad_line at) is ∙ ap (bad_unless at) named

session_then : (bytes : List ℕ) (scan : Scan) (found : Closing) (ending : Ending) (before session : ℕ) → IsEndingOf bytes scan found ending → IsSessionAfter bytes scan before found session → session_after before ending ≡ session
session_then bytes scan closing.Semicolon ending before session is named = ap (session_after before) is ∙ sym named
session_then bytes scan closing.Session ending before session is named = ap (session_after before) is ∙ ap (or_before before) named

pub feeds-append : (front rest : List ℕ) → feeds (front ++ rest) ≡ feeds front + feeds rest
feeds-append front rest = sum_by-append (λ byte. cond (byte == 10) 1 0) front rest

pub take_len : (bytes : List ℕ) (next : ℕ) → next ≤ length bytes → length (take next bytes) ≡ next
take_len bytes next within = omega (arith, length-take next bytes)

-- a part of the first bytes is one of all
pub slice_front : (bytes : List ℕ) (start end next : ℕ) → start ≤ end → end ≤ next → slice_range (take next bytes) start end ≡ slice_range bytes start end
slice_front bytes start end next order within =
    let place : start + (next - start) ≡ next = omega arith in
    ap (λ n. take (end - start) (drop start (take n bytes))) (sym place) ∙ ap (take (end - start)) (drop-take start (next - start) bytes) ∙ take-take (end - start) (next - start) (drop start bytes) (omega arith)

-- the call of a stretch that is closed, by where its text stands
pub call_at : (bytes : List ℕ) (scan : Scan) (found : Closing) (is : IsClosed bytes scan found) (session at : ℕ) → call_in session at is.stretch ≡ call_with session (at + scan.start) (closes found) (slice_range bytes scan.start scan.end)
call_at bytes scan found is session at =
    let stretch = is.stretch in
    let ends = flat_map marks_of (ending_pieces stretch.ending) in
    let rest = drop (next_of scan found) bytes in
    let split : bytes ≡ map byte_in (marks_in stretch) ++ (map byte_in ends ++ (rest ++ [])) =
    sym (append-nil bytes) ∙ pieces_bytes scan.begins (stretch.pieces ++ ending_pieces stretch.ending) (bytes ++ []) (rest ++ []) (is.settled [])
    ∙ ap (λ l. map byte_in l ++ (rest ++ [])) (flat_map-append marks_of stretch.pieces (ending_pieces stretch.ending)) ∙ ap (λ l. l ++ (rest ++ [])) (map-append byte_in (marks_in stretch) ends)
    ∙ append_assoc (map byte_in (marks_in stretch)) (map byte_in ends) (rest ++ []) in
    call_further session at scan.start (closes found) stretch (slice_range bytes scan.start scan.end)
    (call_is bytes 0 scan.start scan.end stretch (map byte_in ends ++ (rest ++ [])) is.spans split session ∙ ap (λ b. call_with session scan.start b (slice_range bytes scan.start scan.end)) (closing_is bytes scan found stretch.ending is.ends))

-- the call of a text of some bytes
pub text_call : (session at : ℕ) (closed : Bool) (bytes : List ℕ) → 0 < length bytes → call_with session at closed bytes ≡ Call (record { session = session; at = at; bytes = bytes; closed = closed }) ∷ []
text_call session at closed [] some = absurd (omega arith)
text_call session at closed (byte ∷ bytes) some = refl

module _ (old : CallStream) (bytes : List ℕ) (texts : List CallText) (calls : List ScriptCall) (taken : HasTaken old bytes texts calls) (sound : IsSound old) (found : Closing) (met : IsMet (pending old) old.scan found) where
  abbrev pend : List ℕ
  pend = pending old

  pub is : IsClosed (pending old) old.scan found
  is = closed (pending old) old.scan found sound.scanned met

  abbrev more_pieces : List Piece
  more_pieces = is.stretch.pieces ++ ending_pieces is.stretch.ending

  on : is.stretch.ending ≢ AtEnd
  on = goes_on (pending old) old.scan found is.stretch.ending is.ends

  -- the bytes up to what closes the stretch
  pub front_then : AreFront bytes (taken.front ++ take (next_of old.scan found) (pending old)) (drop (next_of old.scan found) (pending old)) (taken.pieces ++ (is.stretch.pieces ++ ending_pieces is.stretch.ending))
  front_then =
      let next = next_of old.scan found in
      record {
        split = taken.is_front.split ∙ ap (λ l. taken.front ++ l) (sym (take-append-drop next pend)) ∙ sym (append_assoc taken.front (take next pend) (drop next pend));
        settled = λ more. ArePieces-append true taken.pieces more_pieces (bytes ++ more) (pend ++ more) (drop next pend ++ more) (taken.is_front.settled more)
            (subst (λ b. ArePieces b more_pieces (pend ++ more) (drop next pend ++ more)) taken.begins_is (is.settled more));
        closed = subst AreClosed (append_assoc taken.pieces is.stretch.pieces (ending_pieces is.stretch.ending)) (closed_ending (taken.pieces ++ is.stretch.pieces) is.stretch.ending on);
      }

  -- where it ends
  pub place_is : end_of old.before is.stretch + ending_len is.stretch.ending ≡ old.before + next_of old.scan found
  place_is =
      let next = next_of old.scan found in
      omega (arith, stretch_length old.scan.begins is.stretch (pend ++ []) (drop next pend ++ []) (is.settled []), length-append pend [], length-append (drop next pend) [], length-drop next pend, is.within)

  module _ (new : CallStream) (read : Read) (reads : IsRead (pending old) old.scan old.lines old.session (count_now old) found read) (called : Bool) (gives : GivesUp old new read.next read.session called) where
    next_same : read.next ≡ next_of old.scan found
    next_same = reads.next_is

    rest_is : drop (next_of old.scan found) (pending old) ≡ pending new
    rest_is = ap (λ n. drop n (pending old)) (sym next_same) ∙ drop-drop read.next old.from old.held.items ∙ (λ i. drop (sym gives.from_is i) (sym gives.held_is i))

    -- the stream has taken what it had, where these are the texts and the calls
    taken_then : (more : List Part) → call_in old.session old.before is.stretch ≡ more → bad_lines more ≡ [] → (after : List CallText) → after ≡ texts ++ texts_in more → (all : List ScriptCall) → AreCallsOf after all → AreCounted new.counts all → HasTaken new bytes after all
    taken_then more call_same right after texts_more all of_texts counted =
        let next = next_of old.scan found in
        let good = no_bad_line pend old.scan found is.stretch.ending old.session read.session (end_of old.before is.stretch) is.ends reads.session_is in
        let named = session_then pend old.scan found is.stretch.ending old.session read.session is.ends reads.session_is ∙ sym gives.session_is in
        let place = place_is ∙ ap (λ n. old.before + n) (sym next_same) ∙ sym gives.before_is in
        record {
          front = taken.front ++ take next pend;
          pieces = taken.pieces ++ more_pieces;
          is_front = subst (λ l. AreFront bytes (taken.front ++ take next pend) l (taken.pieces ++ more_pieces)) rest_is front_then;
          valid = IsUtf8-append taken.front (take next pend) taken.valid (subst (λ n. IsUtf8 (take n pend)) next_same reads.valid);
          before_is = gives.before_is ∙ omega (arith, taken.before_is, next_same, length-append taken.front (take next pend), take_len pend next is.within);
          lines_are = gives.lines_are ∙ (λ i. taken.lines_are i + feeds (take (next_same i) pend)) ∙ sym (feeds-append taken.front (take next pend));
          begins_is = gives.begins_is ∙ sym (ap (begins_after true) (sym (append_assoc taken.pieces is.stretch.pieces (ending_pieces is.stretch.ending))) ∙ begins_ending true (taken.pieces ++ is.stretch.pieces) is.stretch.ending on);
          parts = taken.parts ++ more;
          parts_are = λ later.
              parts_then old.session old.before taken.pieces taken.parts is.stretch later taken.parts_are is.inner (λ end. absurd (on end))
              ∙ (λ i. taken.parts ++ (call_same i ++ (good i ++ parts_from (named i) (place i) (after_is is.stretch.ending later on i))))
              ∙ sym (append_assoc taken.parts more (parts_from new.session new.before (stretches later)));
          right = bad_lines-append taken.parts more ∙ (λ i. taken.right i ++ right i);
          texts_are = texts_more ∙ (λ i. taken.texts_are i ++ texts_in more) ∙ sym (texts-append taken.parts more);
          calls_of_texts = of_texts;
          counted = counted;
        }

    -- it has no call
    pub none_taken : called ≡ false → read.call ≡ None → HasTaken new bytes texts calls
    none_taken not_called none =
        let text = slice_range (pending old) old.scan.start old.scan.end in
        let same : old.scan.start ≡ old.scan.end = subst (IsCallIn (take read.next (pending old)) old.scan.start old.scan.end old.lines old.session (count_now old) (closes found)) none reads.call_is in
        let nothing : text ≡ [] = let no : old.scan.end - old.scan.start ≡ 0 = omega (arith, same) in ap (λ n. take n (drop old.scan.start (pending old))) no in
        taken_then [] (call_at (pending old) old.scan found is old.session old.before ∙ ap (call_with old.session (old.before + old.scan.start) (closes found)) nothing) refl texts (sym (append-nil texts)) calls taken.calls_of_texts
        (subst (λ l. AreCounted l calls) (sym (gives.counts_are ∙ ap (λ b. if b then slice_set old.counts (old.session - 1) (slice_index old.counts (old.session - 1) + 1) else old.counts) not_called)) taken.counted)

    -- it has one
    pub some_taken : (shown : StreamCall) → called ≡ true → read.call ≡ Some shown → (text : CallText) × HasTaken new bytes (texts ++ text ∷ []) (calls ++ shown.call ∷ []) × IsShown bytes text shown
    some_taken shown is_called some =
        let start = old.scan.start in
        let end = old.scan.end in
        let next = next_of old.scan found in
        let own = subst (IsCallIn (take read.next (pending old)) start end old.lines old.session (count_now old) (closes found)) some reads.call_is in
        let call = own.2 in
        let end_within : end ≤ next = omega (arith, sound.scanned.before, sound.scanned.order, at_within found) in
        let slice : slice_range (take read.next (pending old)) start end ≡ slice_range (pending old) start end = slice_front (pending old) start end read.next (omega (arith, own.0)) (omega (arith, end_within, next_same)) in
        let bytes_of_text = slice_range (pending old) start end in
        let long : 0 < length bytes_of_text = omega (arith, own.0, end_within, is.within, length-take (end - start) (drop start (pending old)), length-drop start (pending old)) in
        let text : CallText = record { session = old.session; at = old.before + start; bytes = bytes_of_text; closed = closes found } in
        let numbered : shown.call ≡ call_after calls (asking old.session call.request) =
        call.call_is ∙ ap (λ n. record { session = record { 0 = old.session }; call = n + 1; request = call.request }) (taken.counted.each old.session sound.some sound.within) in
        let asked = subst (λ l. IsAskedWhere (closes found) (nat_lt STATEMENT_BYTES (length l)) l call.request) slice call.asked in (
          text,
          taken_then (Call text ∷ []) (call_at (pending old) old.scan found is old.session old.before ∙ text_call old.session (old.before + start) (closes found) bytes_of_text long) refl (texts ++ text ∷ []) refl (calls ++ shown.call ∷ [])
              (call_push texts calls text call.request shown.call taken.calls_of_texts asked numbered)
              (subst (λ l. AreCounted new.counts (calls ++ l ∷ [])) (sym numbered) (subst (λ l. AreCounted l (calls ++ call_after calls (asking old.session call.request) ∷ [])) (sym (gives.counts_are ∙ ap (λ b. if b then slice_set old.counts (old.session - 1) (slice_index old.counts (old.session - 1) + 1) else old.counts) is_called))
              (AreCounted-push old.counts calls old.session call.request sound.some sound.within taken.counted))),
          record {
            text_is = call.text_is ∙ slice;
            line_is = call.line_is ∙ (λ i. taken.lines_are i + feeds (take-take start read.next (pending old) (omega (arith, own.0, end_within, next_same)) i) + 1)
                ∙ ap (λ n. n + 1) (sym (feeds-append taken.front (take start (pending old)))) ∙ ap (λ l. feeds l + 1) (sym (place_text start));
          },
        )
      where
        at_within : (found : Closing) → old.scan.at ≤ next_of old.scan found
        at_within closing.Semicolon = omega arith
        at_within closing.Session = omega arith

        place_text : (start : ℕ) → take (old.before + start) bytes ≡ taken.front ++ take start (pending old)
        place_text start = (λ i. take (taken.before_is i + start) (taken.is_front.split i)) ∙ take-append-add taken.front (pending old) start

-- what is read of a stretch is passed
pub passed : (old new : CallStream) (found : Closing) (read : Read) (called : Bool) → IsSound old → IsMet (pending old) old.scan found → IsRead (pending old) old.scan old.lines old.session (count_now old) found read → called ≡ is_some read.call → GivesUp old new read.next read.session called → (bytes : List ℕ) (texts : List CallText) (calls : List ScriptCall) → HasTaken old bytes texts calls → HasPassed new bytes texts calls read.call
passed old new found read called sound met reads called_is gives bytes texts calls taken = by read.call refl
  where
    by : (call : Option StreamCall) → read.call ≡ call → HasPassed new bytes texts calls call
    by None same = none_taken old bytes texts calls taken sound found met new read reads called gives (called_is ∙ ap is_some same) same
    by (Some shown) same = some_taken old bytes texts calls taken sound found met new read reads called gives shown (called_is ∙ ap is_some same) same

pub passed_some : (stream : CallStream) (bytes : List ℕ) (texts : List CallText) (calls : List ScriptCall) (found : Option StreamCall) → is_some found ≡ true → HasPassed stream bytes texts calls found → HasNext stream bytes texts calls found
passed_some stream bytes texts calls None some passed = absurd (let wrong : false ≡ true = some in cc)
passed_some stream bytes texts calls (Some shown) some passed = passed

pub passed_none : (stream : CallStream) (bytes : List ℕ) (texts : List CallText) (calls : List ScriptCall) (found : Option StreamCall) → is_some found ≡ false → HasPassed stream bytes texts calls found → HasTaken stream bytes texts calls
passed_none stream bytes texts calls None none passed = passed
passed_none stream bytes texts calls (Some shown) none passed = absurd (let wrong : true ≡ false = none in cc)
