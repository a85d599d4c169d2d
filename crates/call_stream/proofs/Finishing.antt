-- A stream at the end of its input.
use Rattle.std.proofs.Common.{◌≡◌, ◌<◌, ◌+◌, ◌-◌, ℕ, Bool, true, false, List, [], ◌∷◌, ◌++◌, length, take, drop, map, refl, sym, ap, ◌∙◌, subst, arith, append_assoc}
use Rattle.std.specs.Prelude.{Option, None, Some, slice_range, slice_index, slice_set, if◌then◌else◌, is_some}
use Rattle.std.specs.List.{flat_map}
use Rattle.std.specs.Str.{IsUtf8}
use Rattle.std.proofs.lemmas.Str.{IsUtf8-append}
use Rattle.std.proofs.lemmas.List.{append-nil, length-take, length-drop, map-append}
use Rattle.std.proofs.lemmas.List.Concat.{flat_map-append}
use Rattle.std.proofs.Math.Seq.{take-append-add}
use Rattle.own_model.specs.declared.script.ScriptCall.{ScriptCall}
use Rattle.script_model.specs.Asked.{AreAskedBy}
use Rattle.script_model.specs.CallText.{CallText, call_in, marks_of, marks_in, is_closed, end_of, ending_len, session_after, bad_line, bad_unless, parts_from}
use Rattle.script_model.specs.Numbered.{call_after, numbered_after, calls_of}
use Rattle.script_model.specs.Piece.{Piece, ArePieces, AreAllPieces}
use Rattle.script_model.specs.Script.{parts_of, texts_in, askings_of}
use Rattle.script_model.specs.Session.{session_of}
use Rattle.script_model.specs.Stretch.{Ending, AtSession, AtEnd}
use Rattle.script_model.proofs.InputCalls.{texts-append}
use Rattle.sql_reader.specs.scripts.Counts.{AreCounted, asking}
use Rattle.sql_reader.specs.scripts.Stretches.{ending_pieces, call_with}
use Rattle.sql_reader.specs.scripts.TextCalls.{ends_after}
use Rattle.sql_reader.proofs.Scripts.Counting.{AreCounted-push}
use Rattle.sql_reader.proofs.Scripts.Ends.{calls_of-text}
use Rattle.sql_reader.proofs.Scripts.Marking.{byte_in, pieces_bytes, call_is}
use Rattle.sql_reader.proofs.Scripts.Scanning.{ArePieces-append}
use Rattle.call_stream.specs.Given.{AreCallsOf, HasWholeCalls, bad_lines}
use Rattle.call_stream.specs.Stretches.{IsCallIn, IsLast, feeds, line_of}
use Rattle.call_stream.specs.Taken.{HasEnd, HasTaken, IsSound, pending, count_now}
use Rattle.call_stream.specs.declared.call.StreamCall.{StreamCall}
use Rattle.call_stream.specs.declared.scan.Scan.{Scan}
use Rattle.call_stream.specs.declared.stream.CallStream.{CallStream}
use Rattle.call_stream.proofs.Calling.{call_push}
use Rattle.call_stream.proofs.Parts.{MayFollow, after_ending, parts_from-end, parts_from-none, parts_then, bad_lines-append, no_bad_call, call_further}
use Rattle.call_stream.proofs.Taking.{feeds-append, text_call}

-- the ending of the last stretch
abbrev pub ending_where : Bool → List ℕ → Scan → Ending
ending_where session bytes scan = if session then AtSession (line_of bytes scan) else AtEnd

follows : (session : Bool) (bytes : List ℕ) (scan : Scan) → MayFollow (ending_where session bytes scan) []
follows session bytes scan = λ end. refl

-- no semicolon closes it
not_closed : (session : Bool) (bytes : List ℕ) (scan : Scan) → is_closed (ending_where session bytes scan) ≡ false
not_closed true bytes scan = refl
not_closed false bytes scan = refl

-- and nothing comes after it
nothing_after : (session : Bool) (bytes : List ℕ) (scan : Scan) (number at : ℕ) → parts_from number at (after_ending (ending_where session bytes scan) []) ≡ []
nothing_after true bytes scan number at = parts_from-end number at
nothing_after false bytes scan number at = parts_from-none number at

-- its session line is the one that is bad, if one is
good_line : (session : Bool) (bytes : List ℕ) (scan : Scan) (at : ℕ) → (session ≡ true → (number : ℕ) × (session_of (line_of bytes scan) ≡ Some number)) → bad_line at (ending_where session bytes scan) ≡ []
good_line true bytes scan at named = ap (bad_unless at) (named refl).1
good_line false bytes scan at named = refl

pub wrong_line : (session : Bool) (bytes : List ℕ) (scan : Scan) (at : ℕ) → session ≡ true → session_of (line_of bytes scan) ≡ None → bad_lines (bad_line at (ending_where session bytes scan)) ≡ at ∷ []
wrong_line true bytes scan at is none = ap (λ n. bad_lines (bad_unless at n)) none
wrong_line false bytes scan at is none = absurd (let wrong : false ≡ true = is in cc)

module _ (stream : CallStream) (bytes : List ℕ) (texts : List CallText) (calls : List ScriptCall) (taken : HasTaken stream bytes texts calls) (sound : IsSound stream) (last : Scan) (session : Bool) (is : IsLast (pending stream) stream.scan last session) where
  abbrev pend : List ℕ
  pend = pending stream

  abbrev more_pieces : List Piece
  more_pieces = is.stretch.pieces ++ ending_pieces is.stretch.ending

  pub whole_are : AreAllPieces (taken.pieces ++ (is.stretch.pieces ++ ending_pieces is.stretch.ending)) bytes
  whole_are =
      let front : ArePieces true taken.pieces bytes pend = subst (λ l. ArePieces true taken.pieces l pend) (append-nil bytes) (subst (ArePieces true taken.pieces (bytes ++ [])) (append-nil pend) (taken.is_front.settled [])) in
      ArePieces-append true taken.pieces more_pieces bytes pend [] front (subst (λ b. ArePieces b more_pieces pend []) taken.begins_is is.are)

  last_call : call_in stream.session stream.before is.stretch ≡ call_with stream.session (stream.before + last.start) false (slice_range (pending stream) last.start last.end)
  last_call =
      let ends = flat_map marks_of (ending_pieces is.stretch.ending) in
      let split : pend ≡ map byte_in (marks_in is.stretch) ++ (map byte_in ends ++ []) =
      pieces_bytes stream.scan.begins more_pieces pend [] is.are
      ∙ ap (λ l. map byte_in l ++ []) (flat_map-append marks_of is.stretch.pieces (ending_pieces is.stretch.ending)) ∙ ap (λ l. l ++ []) (map-append byte_in (marks_in is.stretch) ends)
      ∙ append_assoc (map byte_in (marks_in is.stretch)) (map byte_in ends) [] in
      call_further stream.session stream.before last.start false is.stretch (slice_range pend last.start last.end)
      (call_is pend 0 last.start last.end is.stretch (map byte_in ends ++ []) is.spans split stream.session
      ∙ ap (λ b. call_with stream.session last.start b (slice_range pend last.start last.end)) (ap is_closed is.ends ∙ not_closed session pend stream.scan))

  -- the parts of the whole input
  pub whole_parts : parts_of (taken.pieces ++ (is.stretch.pieces ++ ending_pieces is.stretch.ending)) ≡ taken.parts ++ (call_with stream.session (stream.before + last.start) false (slice_range (pending stream) last.start last.end) ++ bad_line (end_of stream.before is.stretch) (ending_where session (pending stream) stream.scan))
  whole_parts =
      let at = end_of stream.before is.stretch in
      let number = session_after stream.session is.stretch.ending in
      let next = at + ending_len is.stretch.ending in
      ap parts_of (sym (append-nil (taken.pieces ++ more_pieces)))
      ∙ parts_then stream.session stream.before taken.pieces taken.parts is.stretch [] taken.parts_are is.inner (λ end. refl)
      ∙ (λ i. taken.parts ++ (last_call i ++ (bad_line at (is.ends i) ++ parts_from number next (after_ending (is.ends i) []))))
      ∙ ap (λ l. taken.parts ++ (call_with stream.session (stream.before + last.start) false (slice_range pend last.start last.end) ++ (bad_line at (ending_where session pend stream.scan) ++ l))) (nothing_after session pend stream.scan number next)
      ∙ ap (λ l. taken.parts ++ (call_with stream.session (stream.before + last.start) false (slice_range pend last.start last.end) ++ l)) (append-nil (bad_line at (ending_where session pend stream.scan)))

  whole_valid : IsUtf8 (pending stream) → IsUtf8 bytes
  whole_valid text = subst IsUtf8 (sym taken.is_front.split) (IsUtf8-append taken.front pend taken.valid text)

  -- with these texts and calls, and the Ends
  whole_calls : IsUtf8 (pending stream) → (session ≡ true → (number : ℕ) × (session_of (line_of (pending stream) stream.scan) ≡ Some number)) → (after : List CallText) → after ≡ texts ++ texts_in (call_with stream.session (stream.before + last.start) false (slice_range (pending stream) last.start last.end)) → (all : List ScriptCall) → AreCallsOf after all → (ends : List ScriptCall) → all ++ ends ≡ all ++ numbered_after all (ends_after all) → HasWholeCalls bytes (all ++ ends)
  whole_calls valid named after texts_more all of_texts ends ends_are =
      let own = call_with stream.session (stream.before + last.start) false (slice_range pend last.start last.end) in
      let good = good_line session pend stream.scan (end_of stream.before is.stretch) named in
      let parts : parts_of (taken.pieces ++ more_pieces) ≡ taken.parts ++ own = whole_parts ∙ (λ i. taken.parts ++ (own ++ good i)) ∙ ap (λ l. taken.parts ++ l) (append-nil own) in
      let all_texts : texts_in (parts_of (taken.pieces ++ more_pieces)) ≡ after = ap texts_in parts ∙ texts-append taken.parts own ∙ (λ i. sym taken.texts_are i ++ texts_in own) ∙ sym texts_more in
      record {
        valid = whole_valid valid;
        pieces = taken.pieces ++ more_pieces;
        are = whole_are;
        right = ap bad_lines parts ∙ bad_lines-append taken.parts own ∙ (λ i. taken.right i ++ no_bad_call stream.session (stream.before + last.start) false (slice_range pend last.start last.end) i);
        requests = of_texts.requests;
        asked = subst (λ l. AreAskedBy l of_texts.requests) (sym all_texts) of_texts.asked;
        calls_are = ends_are ∙ (λ i. of_texts.calls_are i ++ numbered_after (of_texts.calls_are i) (ends_after (of_texts.calls_are i))) ∙ sym (calls_of-text (askings_of after of_texts.requests)) ∙ (λ i. calls_of (askings_of (sym all_texts i) of_texts.requests));
      }

  -- what the end leaves
  pub ended : IsUtf8 (pending stream) → (session ≡ true → (number : ℕ) × (session_of (line_of (pending stream) stream.scan) ≡ Some number)) → (call : Option StreamCall) → IsCallIn (pending stream) last.start last.end stream.lines stream.session (count_now stream) false call
      → (counts : List ℕ) → counts ≡ (if is_some call then slice_set stream.counts (stream.session - 1) (slice_index stream.counts (stream.session - 1) + 1) else stream.counts)
      → (ends : List ScriptCall) → ((all : List ScriptCall) → AreCounted counts all → all ++ ends ≡ all ++ numbered_after all (ends_after all)) → HasEnd bytes calls (record { open_call = call; ends = ends })
  ended valid named None same counts counts_are ends ends_are =
      let nothing : slice_range pend last.start last.end ≡ [] = let no : last.end - last.start ≡ 0 = omega (arith, same) in ap (λ n. take n (drop last.start pend)) no in
      let none : texts ≡ texts ++ texts_in (call_with stream.session (stream.before + last.start) false (slice_range pend last.start last.end)) =
      sym (ap (λ l. texts ++ texts_in (call_with stream.session (stream.before + last.start) false l)) nothing ∙ append-nil texts) in
      record {
        whole = whole_calls valid named texts none calls taken.calls_of_texts ends (ends_are calls (subst (λ l. AreCounted l calls) (sym counts_are) taken.counted));
        shown = tt;
      }
  ended valid named (Some shown) (some, few, call) counts counts_are ends ends_are =
      let text_bytes = slice_range pend last.start last.end in
      let long : 0 < length text_bytes = omega (arith, some, is.within, length-take (last.end - last.start) (drop last.start pend), length-drop last.start pend) in
      let text : CallText = record { session = stream.session; at = stream.before + last.start; bytes = text_bytes; closed = false } in
      let numbered : shown.call ≡ call_after calls (asking stream.session call.request) =
      call.call_is ∙ ap (λ n. record { session = record { 0 = stream.session }; call = n + 1; request = call.request }) (taken.counted.each stream.session sound.some sound.within) in
      let all = calls ++ shown.call ∷ [] in
      let counted : AreCounted counts all =
      subst (λ l. AreCounted counts (calls ++ l ∷ [])) (sym numbered) (subst (λ l. AreCounted l (calls ++ call_after calls (asking stream.session call.request) ∷ [])) (sym counts_are)
      (AreCounted-push stream.counts calls stream.session call.request sound.some sound.within taken.counted)) in
      let more : texts ++ text ∷ [] ≡ texts ++ texts_in (call_with stream.session (stream.before + last.start) false text_bytes) =
      ap (λ l. texts ++ texts_in l) (sym (text_call stream.session (stream.before + last.start) false text_bytes long)) in
      record {
        whole = subst (HasWholeCalls bytes) (append_assoc calls (shown.call ∷ []) ends)
            (whole_calls valid named (texts ++ text ∷ []) more all (call_push texts calls text call.request shown.call taken.calls_of_texts call.asked numbered) ends (ends_are all counted));
        shown = (
          text,
          refl,
          record {
            text_is = call.text_is;
            line_is = call.line_is ∙ ap (λ n. n + feeds (take last.start pend) + 1) taken.lines_are ∙ ap (λ n. n + 1) (sym (feeds-append taken.front (take last.start pend)))
                ∙ ap (λ l. feeds l + 1) (sym ((λ i. take (taken.before_is i + last.start) (taken.is_front.split i)) ∙ take-append-add taken.front pend last.start));
          },
        );
      }
