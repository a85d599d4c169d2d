-- Why a stream gives no further call.
use Rattle.std.proofs.Common.{◌≡◌, ◌<◌, ◌≤◌, ◌+◌, ◌-◌, ℕ, zero, suc, Bool, true, false, List, [], ◌∷◌, ◌++◌, length, get_or, set, take, drop, inl, inr, refl, sym, ap, ◌∙◌, subst, arith}
use Rattle.std.specs.Prelude.{None, ◌&&◌, slice_range, codes, if◌then◌else◌}
use Rattle.std.specs.Str.{IsUtf8, IsValidUpTo}
use Rattle.std.proofs.lemmas.Bool.{cases_eq, cases_lt}
use Rattle.std.proofs.lemmas.List.{append-nil, length-append, length-take, length-drop, length-set, get_or-set_same, get_or-set_other}
use Rattle.std.proofs.lemmas.Str.{IsUtf8-append, IsUtf8-drop, IsCharBoundary-from_take, utf8_valid_len-IsValidUpTo}
use Rattle.std.proofs.Math.Seq.{take-append-add, take-append_seam, drop-append_seam}
use Rattle.own_model.specs.declared.script.ScriptCall.{ScriptCall}
use Rattle.script_model.specs.CallText.{CallText, Part, BadLine, bad_line, bad_unless, end_of, ending_len, session_after, parts_from}
use Rattle.script_model.specs.Piece.{ArePieces, starts}
use Rattle.script_model.specs.Script.{parts_of, texts_in}
use Rattle.script_model.specs.Session.{session_of}
use Rattle.script_model.specs.Stretch.{AtSession}
use Rattle.script_model.proofs.InputCalls.{texts-append}
use Rattle.sql_reader.specs.scripts.Stretches.{ending_pieces, call_with}
use Rattle.call_stream.specs.Given.{AreCallsOf, AreTexts, HasAllClosed, IsEndFault, IsFaultMet, bad_lines}
use Rattle.call_stream.specs.Scans.{IsMet}
use Rattle.call_stream.specs.Stretches.{IsClosed, IsLast, IsReadFault, is_line, line_of, next_of, session_open}
use Rattle.call_stream.specs.Taken.{HasTaken, IsEndsFault, IsLastFault, IsRead, IsSound, pending, count_now}
use Rattle.call_stream.specs.declared.fault.StreamFault.{StreamFault}
use Rattle.call_stream.specs.declared.fault.StreamFault.TheVariants as fault
use Rattle.call_stream.specs.declared.scan.Closing.{Closing}
use Rattle.call_stream.specs.declared.scan.Closing.TheVariants as closing
use Rattle.call_stream.specs.declared.scan.Place.{Place}
use Rattle.call_stream.specs.declared.scan.Place.TheVariants.{Between, Dash, Line, Quote}
use Rattle.call_stream.specs.declared.scan.Scan.{Scan}
use Rattle.call_stream.specs.declared.stream.CallStream.{CallStream}
use Rattle.call_stream.proofs.Ending.{open_pieces, session_then}
use Rattle.call_stream.proofs.Finishing.{whole_are, whole_parts, wrong_line}
use Rattle.call_stream.proofs.Lasting.{last_line}
use Rattle.call_stream.proofs.Parts.{parts_from-end, parts_then, after_is, bad_lines-append, no_bad_call, stretch_length}
use Rattle.call_stream.proofs.Scripts.{calls_len}
use Rattle.call_stream.proofs.Taking.{call_at, front_then, goes_on, is}

-- what comes after text that is text
text_rest : (front rest : List ℕ) → IsUtf8 front → IsUtf8 (front ++ rest) → IsUtf8 rest
text_rest front rest text whole =
    subst IsUtf8 (drop-append_seam front rest)
    (IsUtf8-drop (front ++ rest) (length front) whole (IsCharBoundary-from_take (front ++ rest) (length front) whole (omega (arith, length-append front rest)) (subst IsUtf8 (sym (take-append_seam front rest)) text)))

-- where bytes after text stop being text
pub valid_after : (front rest : List ℕ) (valid : ℕ) → IsUtf8 front → IsValidUpTo rest valid → IsValidUpTo (front ++ rest) (length front + valid)
valid_after front rest valid text is =
    record {
      short = omega (arith, is.short, length-append front rest);
      front = subst IsUtf8 (sym (take-append-add front rest valid)) (IsUtf8-append front (take valid rest) text is.front);
      longest = λ most more whole.
          let place : length front + (most - length front) ≡ most = omega (arith, more) in
          is.longest (most - length front) (omega (arith, more)) (text_rest front (take (most - length front) rest) text (subst IsUtf8 (take-append-add front rest (most - length front)) (subst (λ n. IsUtf8 (take n (front ++ rest))) (sym place) whole)));
    }

-- the parts of what is taken
pub taken_parts : (stream : CallStream) (bytes : List ℕ) (texts : List CallText) (calls : List ScriptCall) (taken : HasTaken stream bytes texts calls) → parts_of taken.pieces ≡ taken.parts
taken_parts stream bytes texts calls taken =
    ap parts_of (sym (append-nil taken.pieces)) ∙ taken.parts_are [] ∙ ap (λ l. taken.parts ++ l) (parts_from-end stream.session stream.before) ∙ append-nil taken.parts

-- the texts that are given are closed
pub taken_texts : (stream : CallStream) (bytes : List ℕ) (texts : List CallText) (calls : List ScriptCall) → HasTaken stream bytes texts calls → AreTexts bytes (pending stream) texts
taken_texts stream bytes texts calls taken =
    let parts = taken_parts stream bytes texts calls taken in
    record { front = taken.front; pieces = taken.pieces; is_front = taken.is_front; valid = taken.valid; right = ap bad_lines parts ∙ taken.right; texts_are = taken.texts_are ∙ ap texts_in (sym parts) }

-- and where all is gone over no other is
pub all_closed : (stream : CallStream) (bytes : List ℕ) (texts : List CallText) (calls : List ScriptCall) → HasTaken stream bytes texts calls → IsSound stream → IsRead stream → HasAllClosed bytes texts
unfolding taken_texts
all_closed stream bytes texts calls taken sound read =
    let opens = open_pieces (pending stream) stream.scan sound.scanned read in
    record {
      rest = pending stream;
      are_texts = taken_texts stream bytes texts calls taken;
      pieces = opens.pieces;
      are = subst (λ b. ArePieces b opens.pieces (pending stream) []) (taken.begins_is) opens.are;
      are_open = opens.are_open;
    }

-- a session line that names no session, where a stretch is closed
bad_found : (bytes : List ℕ) (scan : Scan) (at : ℕ) (closes : IsClosed bytes scan closing.Session) → session_of (line_of bytes scan) ≡ None → bad_line at closes.stretch.ending ≡ bad_line at (AtSession (line_of bytes scan))
bad_found bytes scan at closes none = ap (bad_line at) closes.ends

-- a call and a session line that isn't right hold one text at most
call_few : (session at : ℕ) (closed : Bool) (bytes : List ℕ) (byte : ℕ) → length (texts_in (call_with session at closed bytes ++ BadLine byte ∷ [])) ≤ 1
call_few session at closed [] byte = omega arith
call_few session at closed (first ∷ bytes) byte = omega arith

-- so there is at most one besides those that are given
one_more : (texts : List CallText) (calls : List ScriptCall) (parts all call : List Part) (byte : ℕ) → AreCallsOf texts calls → texts ≡ texts_in parts → length (texts_in (call ++ BadLine byte ∷ [])) ≤ 1 → all ≡ parts ++ (call ++ BadLine byte ∷ []) → length (texts_in all) ≤ length calls + 1
one_more texts calls parts all call byte is texts_are few whole =
    let last = call ++ BadLine byte ∷ [] in
    omega (arith, ap (λ l. length (texts_in l)) whole, ap length (texts-append parts last), length-append (texts_in parts) (texts_in last), ap length texts_are, calls_len texts calls is, few)

pub fault_met : (old : CallStream) (bytes : List ℕ) (texts : List CallText) (calls : List ScriptCall) → HasTaken old bytes texts calls → IsSound old → (found : Closing) → IsMet (pending old) old.scan found → (wrong : StreamFault) → IsReadFault (pending old) old.scan old.before (count_now old) found wrong → IsFaultMet bytes calls wrong
fault_met old bytes texts calls taken sound found met (fault.NotText byte) (valid, up_to, byte_is) =
    let own = take (next_of old.scan found) (pending old) in
    let whole = valid_after taken.front own valid taken.valid up_to in
    let place : byte ≡ length taken.front + valid = omega (arith, byte_is, taken.before_is) in
    (taken.front ++ own, drop (next_of old.scan found) (pending old), _, front_then old bytes texts calls taken sound found met, subst (λ n. n < length (taken.front ++ own)) (sym place) whole.short, place ∙ sym (utf8_valid_len-IsValidUpTo (taken.front ++ own) (length taken.front + valid) whole))
fault_met old bytes texts calls taken sound closing.Session met (fault.BadSession byte) (same, text, none, byte_is) =
    let closes = is old bytes texts calls taken sound closing.Session met in
    let own = take (next_of old.scan closing.Session) (pending old) in
    let at = end_of old.before closes.stretch in
    let on = goes_on (pending old) old.scan closing.Session closes.stretch.ending closes.ends in
    let number = session_after old.session closes.stretch.ending in
    let next = at + ending_len closes.stretch.ending in
    let place : at ≡ byte = omega (arith, byte_is, closes.place) in
    let call = call_with old.session (old.before + old.scan.start) false (slice_range (pending old) old.scan.start old.scan.end) in
    let parts : parts_of (taken.pieces ++ (closes.stretch.pieces ++ ending_pieces closes.stretch.ending)) ≡ taken.parts ++ (call ++ (BadLine byte ∷ [])) =
    ap parts_of (sym (append-nil (taken.pieces ++ (closes.stretch.pieces ++ ending_pieces closes.stretch.ending))))
    ∙ parts_then old.session old.before taken.pieces taken.parts closes.stretch [] taken.parts_are closes.inner (λ end. refl)
    ∙ (λ i. taken.parts ++ (call_at (pending old) old.scan closing.Session closes old.session old.before i ++ ((bad_found (pending old) old.scan at closes none ∙ ap (bad_unless at) none ∙ ap (λ n. BadLine n ∷ []) place) i ++ (ap (parts_from number next) (after_is closes.stretch.ending [] on) ∙ parts_from-end number next) i))) in (
      taken.front ++ own,
      drop (next_of old.scan closing.Session) (pending old),
      _,
      front_then old bytes texts calls taken sound closing.Session met,
      IsUtf8-append taken.front own taken.valid text,
      ap bad_lines parts ∙ bad_lines-append taken.parts (call ++ BadLine byte ∷ []) ∙ (λ i. taken.right i ++ bad_lines-append call (BadLine byte ∷ []) i)
          ∙ ap (λ l. l ++ byte ∷ []) (no_bad_call old.session (old.before + old.scan.start) false (slice_range (pending old) old.scan.start old.scan.end)),
      one_more texts calls taken.parts (parts_of (taken.pieces ++ (closes.stretch.pieces ++ ending_pieces closes.stretch.ending))) call byte taken.calls_of_texts taken.texts_are
          (call_few old.session (old.before + old.scan.start) false (slice_range (pending old) old.scan.start old.scan.end) byte) parts,
    )
fault_met old bytes texts calls taken sound closing.Semicolon met (fault.BadSession byte) (same, text, none, byte_is) = absurd (let wrong : closing.Semicolon ≡ closing.Session = same in cc)
fault_met old bytes texts calls taken sound found met (fault.TooManyCalls byte) (full, some, byte_is) = (old.session, sym (taken.counted.each old.session sound.some sound.within) ∙ full)
fault_met old bytes texts calls taken sound found met fault.TooLong wrong = absurd wrong
fault_met old bytes texts calls taken sound found met fault.Memory wrong = tt

-- where a session line is open
pub line_opens : (bytes : List ℕ) (scan : Scan) → session_open bytes scan ≡ true → (scan.place ≡ Line) × ((scan.line && starts (drop scan.piece bytes) (codes "-- session ")) ≡ true)
line_opens bytes scan is = by scan.place refl is
  where
    by : (place : Place) → scan.place ≡ place → (is_line place && (scan.line && starts (drop scan.piece bytes) (codes "-- session "))) ≡ true → (scan.place ≡ Line) × ((scan.line && starts (drop scan.piece bytes) (codes "-- session ")) ≡ true)
    by Line same is = (same, is)
    by Between same is = absurd (let wrong : false ≡ true = is in cc)
    by Dash same is = absurd (let wrong : false ≡ true = is in cc)
    by Quote same is = absurd (let wrong : false ≡ true = is in cc)

-- why nothing is read where the input ends
pub last_fault : (stream : CallStream) (bytes : List ℕ) (texts : List CallText) (calls : List ScriptCall) → HasTaken stream bytes texts calls → IsSound stream → IsRead stream → (wrong : StreamFault) → IsLastFault stream wrong → IsEndFault bytes calls wrong
last_fault stream bytes texts calls taken sound read (fault.NotText byte) (valid, up_to, byte_is) =
    let whole = subst (λ l. IsValidUpTo l (length taken.front + valid)) (sym taken.is_front.split) (valid_after taken.front (pending stream) valid taken.valid up_to) in
    let place : byte ≡ length taken.front + valid = omega (arith, byte_is, taken.before_is) in
    (subst (λ n. n < length bytes) (sym place) whole.short, place ∙ sym (utf8_valid_len-IsValidUpTo bytes (length taken.front + valid) whole))
last_fault stream bytes texts calls taken sound read (fault.BadSession byte) (text, is_open, none, byte_is) =
    let pend = pending stream in
    let line = line_opens pend stream.scan is_open in
    let last : IsLast pend stream.scan stream.scan true = subst (IsLast pend stream.scan stream.scan) line.1 (last_line pend stream.scan sound.scanned read line.0) in
    let long = (session_then pend stream.scan sound.scanned read line.0 line.1).0 in
    let at = end_of stream.before last.stretch in
    let rest_len : length (line_of pend stream.scan) ≡ stream.scan.at - (stream.scan.piece + 11) = omega (arith, sound.scanned.within, length-take (stream.scan.at - (stream.scan.piece + 11)) (drop (stream.scan.piece + 11) pend), length-drop (stream.scan.piece + 11) pend) in
    let place : at ≡ byte = omega (arith, byte_is, long, rest_len, read, stretch_length stream.scan.begins last.stretch pend [] last.are, ap ending_len last.ends, length-append (codes "-- session ") (line_of pend stream.scan)) in
    let call = call_with stream.session (stream.before + stream.scan.start) false (slice_range pend stream.scan.start stream.scan.end) in (
      subst IsUtf8 (sym taken.is_front.split) (IsUtf8-append taken.front pend taken.valid text),
      (
        taken.pieces ++ (last.stretch.pieces ++ ending_pieces last.stretch.ending),
        whole_are stream bytes texts calls taken sound stream.scan true last,
        ap bad_lines (whole_parts stream bytes texts calls taken sound stream.scan true last) ∙ bad_lines-append taken.parts (call ++ bad_line at (AtSession (line_of pend stream.scan)))
            ∙ (λ i. taken.right i ++ bad_lines-append call (bad_line at (AtSession (line_of pend stream.scan))) i)
            ∙ (λ i. no_bad_call stream.session (stream.before + stream.scan.start) false (slice_range pend stream.scan.start stream.scan.end) i ++ wrong_line true pend stream.scan at refl none i)
            ∙ ap (λ n. n ∷ []) place,
      ),
    )
last_fault stream bytes texts calls taken sound read (fault.TooManyCalls byte) full = (stream.session, omega (arith, taken.counted.each stream.session sound.some sound.within, full))
last_fault stream bytes texts calls taken sound read fault.TooLong wrong = absurd wrong
last_fault stream bytes texts calls taken sound read fault.Memory wrong = tt

-- a session has at most one call more
counts_le : (counts : List ℕ) (place session : ℕ) (called : Bool) → get_or (if called then set counts place (get_or counts place 0 + 1) else counts) session 0 ≤ get_or counts session 0 + 1
counts_le counts place session false = omega arith
counts_le counts place session true =
    elim (cases_eq place session) [
      | inl same ↦ elim (cases_lt place (length counts)) [
        | inl within ↦ omega (arith, get_or-set_same counts place (get_or counts place 0 + 1) 0 within, ap (λ n. get_or (set counts place (get_or counts place 0 + 1)) n 0) same, ap (λ n. get_or counts n 0) same)
        | inr past ↦ omega (arith, get_or-past (set counts place (get_or counts place 0 + 1)) session (omega (arith, same, length-set counts place (get_or counts place 0 + 1))))
      ]
      | inr differs ↦ omega (arith, get_or-set_other counts place session (get_or counts place 0 + 1) 0 (λ same. differs (sym same)))
    ]
  where
    get_or-past : (l : List ℕ) (n : ℕ) → length l ≤ n → get_or l n 0 ≡ 0
    get_or-past [] n past = refl
    get_or-past (x ∷ l) zero past = absurd (omega arith)
    get_or-past (x ∷ l) (suc n) past = get_or-past l n (omega arith)

-- why the Ends aren't given
pub ends_fault : (stream : CallStream) (bytes : List ℕ) (texts : List CallText) (calls : List ScriptCall) → HasTaken stream bytes texts calls → (called : Bool) (counts : List ℕ) → counts ≡ (if called then set stream.counts (stream.session - 1) (get_or stream.counts (stream.session - 1) 0 + 1) else stream.counts) → (wrong : StreamFault) → IsEndsFault counts wrong → IsEndFault bytes calls wrong
ends_fault stream bytes texts calls taken called counts counts_are (fault.TooManyCalls byte) (session, some, within, full) =
    (session, omega (arith, full, ap (λ l. get_or l (session - 1) 0) counts_are, counts_le stream.counts (stream.session - 1) (session - 1) called, taken.counted.each session some within))
ends_fault stream bytes texts calls taken called counts counts_are fault.Memory wrong = tt
ends_fault stream bytes texts calls taken called counts counts_are fault.TooLong wrong = absurd wrong
ends_fault stream bytes texts calls taken called counts counts_are (fault.NotText byte) wrong = absurd wrong
ends_fault stream bytes texts calls taken called counts counts_are (fault.BadSession byte) wrong = absurd wrong
