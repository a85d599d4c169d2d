-- A stream that has begun, one that takes bytes in, and one that gives bytes up.
use Rattle.std.proofs.Common.{◌≡◌, ◌<◌, ◌≤◌, ◌+◌, ◌-◌, ℕ, Bool, true, List, [], ◌++◌, length, drop, refl, sym, ap, ◌∙◌, subst, arith, append_assoc}
use Rattle.std.proofs.lemmas.List.{append-nil, length-append, length-drop, length-take, drop-drop}
use Rattle.std.proofs.lemmas.List.Sums.{count_by-le-length}
use Rattle.std.proofs.lemmas.Str.{IsUtf8-nil}
use Rattle.std.specs.Prelude.{◌==◌, slice_range}
use Rattle.own_model.specs.declared.limit.TheConstants.{SESSIONS}
use Rattle.own_model.specs.declared.script.ScriptCall.{ScriptCall}
use Rattle.script_model.specs.CallText.{CallText, parts_from}
use Rattle.script_model.specs.Stretch.{stretches}
use Rattle.script_model.specs.Piece.{ArePieces}
use Rattle.sql_reader.specs.scripts.Counts.{AreCounted}
use Rattle.sql_reader.proofs.Scripts.Numbering.{numbered_after-nil}
use Rattle.call_stream.specs.Scans.{IsScanned}
use Rattle.call_stream.specs.Stretches.{feeds}
use Rattle.call_stream.specs.Taken.{GivesUp, HasTaken, IsSound, pending}
use Rattle.call_stream.specs.declared.scan.Scan.{Scan}
use Rattle.call_stream.specs.declared.stream.CallStream.{CallStream}
use Rattle.call_stream.specs.declared.stream.TheConstants.{STREAM_BYTES, HELD_BYTES}
use Rattle.call_stream.proofs.Scanning.{scanned_more}

-- a stream that has taken nothing in
pub record IsNew (stream : CallStream) : Type 0 where
  pub held_is : stream.held.items ≡ []
  pub from_is : stream.from ≡ 0
  pub scanned : (bytes : List ℕ) → IsScanned bytes stream.scan
  pub begins : stream.scan.begins ≡ true
  pub before_is : stream.before ≡ 0
  pub lines_are : stream.lines ≡ 0
  pub session_is : stream.session ≡ 1
  pub counted : AreCounted stream.counts []

pending_new : (stream : CallStream) → IsNew stream → pending stream ≡ []
pending_new stream new = (λ i. drop (new.from_is i) (new.held_is i))

pub sound_new : (stream : CallStream) → IsNew stream → IsSound stream
sound_new stream new =
    record {
      from_within = omega (arith, new.from_is);
      scanned = new.scanned (pending stream);
      some = omega (arith, new.session_is);
      within = omega (arith, new.session_is);
      short = omega (arith, new.before_is, ap length (pending_new stream new));
      few = omega (arith, ap length (pending_new stream new));
      lines_few = omega (arith, new.lines_are, new.before_is);
    }

pub taken_new : (stream : CallStream) → IsNew stream → HasTaken stream [] [] []
taken_new stream new =
    record {
      front = [];
      pieces = [];
      is_front = record { split = sym (pending_new stream new); settled = λ more. ap (λ l. l ++ more) (sym (pending_new stream new)); closed = tt };
      valid = IsUtf8-nil;
      before_is = new.before_is;
      lines_are = new.lines_are;
      begins_is = new.begins;
      parts = [];
      parts_are = λ more. (λ i. parts_from (sym new.session_is i) (sym new.before_is i) (stretches more));
      right = refl;
      texts_are = refl;
      calls_of_texts = record { requests = []; asked = tt; calls_are = sym (numbered_after-nil []) };
      counted = new.counted;
    }

-- a stream that took bytes in
pub record TakesIn (old new : CallStream) (more : List ℕ) : Type 0 where
  pub held_is : new.held.items ≡ pending old ++ more
  pub from_is : new.from ≡ 0
  pub scan_is : new.scan ≡ old.scan
  pub before_is : new.before ≡ old.before
  pub lines_are : new.lines ≡ old.lines
  pub session_is : new.session ≡ old.session
  pub counts_are : new.counts ≡ old.counts

pub pending_more : (old new : CallStream) (more : List ℕ) → TakesIn old new more → pending new ≡ pending old ++ more
pending_more old new more takes = (λ i. drop (takes.from_is i) (takes.held_is i))

pub sound_more : (old new : CallStream) (more : List ℕ) → IsSound old → TakesIn old new more → length (pending old) + length more ≤ HELD_BYTES → old.before + length (pending old) + length more ≤ STREAM_BYTES → IsSound new
sound_more old new more sound takes few short =
    let len : length (pending new) ≡ length (pending old) + length more = ap length (pending_more old new more takes) ∙ length-append (pending old) more in
    record {
      from_within = omega (arith, takes.from_is);
      scanned = (subst (λ l. IsScanned l new.scan) (sym (pending_more old new more takes)) (subst (IsScanned (pending old ++ more)) (sym takes.scan_is) (scanned_more (pending old) more old.scan sound.scanned)));
      some = omega (arith, takes.session_is, sound.some);
      within = omega (arith, takes.session_is, sound.within);
      short = omega (arith, takes.before_is, len, short);
      few = omega (arith, len, few);
      lines_few = omega (arith, takes.lines_are, takes.before_is, sound.lines_few);
    }

pub taken_more : (old new : CallStream) (more : List ℕ) → TakesIn old new more → (bytes : List ℕ) (texts : List CallText) (calls : List ScriptCall) → HasTaken old bytes texts calls → HasTaken new (bytes ++ more) texts calls
taken_more old new more takes bytes texts calls taken =
    let rest = pending_more old new more takes in
    record {
      front = taken.front;
      pieces = taken.pieces;
      is_front = record {
        split = ap (λ l. l ++ more) taken.is_front.split ∙ append_assoc taken.front (pending old) more ∙ ap (λ l. taken.front ++ l) (sym rest);
        settled = λ later.
            subst (λ l. ArePieces true taken.pieces ((bytes ++ more) ++ later) (l ++ later)) (sym rest)
            (subst (ArePieces true taken.pieces ((bytes ++ more) ++ later)) (sym (append_assoc (pending old) more later))
            (subst (λ l. ArePieces true taken.pieces l (pending old ++ (more ++ later))) (sym (append_assoc bytes more later)) (taken.is_front.settled (more ++ later))));
        closed = taken.is_front.closed;
      };
      valid = taken.valid;
      before_is = takes.before_is ∙ taken.before_is;
      lines_are = takes.lines_are ∙ taken.lines_are;
      begins_is = ap (λ scan. scan.begins) takes.scan_is ∙ taken.begins_is;
      parts = taken.parts;
      parts_are = λ later. taken.parts_are later ∙ (λ i. taken.parts ++ parts_from (sym takes.session_is i) (sym takes.before_is i) (stretches later));
      right = taken.right;
      texts_are = taken.texts_are;
      calls_of_texts = taken.calls_of_texts;
      counted = subst (λ l. AreCounted l calls) (sym takes.counts_are) taken.counted;
    }

-- nothing more came in
pub taken_same : (old new : CallStream) → TakesIn old new [] → (bytes : List ℕ) (texts : List CallText) (calls : List ScriptCall) → HasTaken old bytes texts calls → HasTaken new bytes texts calls
taken_same old new takes bytes texts calls taken = subst (λ l. HasTaken new l texts calls) (append-nil bytes) (taken_more old new [] takes bytes texts calls taken)

-- a stream that gave bytes up
pub sound_less : (old new : CallStream) (next : ℕ) → IsSound old → next ≤ length (pending old) → 1 ≤ new.session → new.session ≤ SESSIONS → new.held.items ≡ old.held.items → new.from ≡ old.from + next → new.before ≡ old.before + next → new.lines ≤ old.lines + next → ((bytes : List ℕ) → IsScanned bytes new.scan) → IsSound new
sound_less old new next sound less some within held_is from_is before_is lines_few scanned =
    let rest : pending new ≡ drop next (pending old) = (λ i. drop (from_is i) (held_is i)) ∙ sym (drop-drop next old.from old.held.items) in
    let len : length (pending new) ≡ length (pending old) - next = ap length rest ∙ length-drop next (pending old) in
    record {
      from_within = omega (arith, from_is, ap length held_is, length-drop old.from old.held.items, sound.from_within, less);
      scanned = scanned (pending new);
      some = some;
      within = within;
      short = omega (arith, before_is, len, less, sound.short);
      few = omega (arith, len, sound.few);
      lines_few = omega (arith, lines_few, before_is, sound.lines_few);
    }

-- no more lines end in bytes than these are
pub feeds_few : (held : List ℕ) (from next : ℕ) → feeds (slice_range held from (from + next)) ≤ next
feeds_few held from next = omega (arith, count_by-le-length (λ byte. byte == 10) (slice_range held from (from + next)), length-take (from + next - from) (drop from held))

-- a stream that went on over its bytes
abbrev pub with_scan : CallStream → Scan → CallStream
with_scan stream scan = record stream { scan = scan }

pub sound_scan : (stream : CallStream) (scan : Scan) → IsSound stream → IsScanned (pending stream) scan → IsSound (with_scan stream scan)
sound_scan stream scan sound scanned =
    record { from_within = sound.from_within; scanned = scanned; some = sound.some; within = sound.within; short = sound.short; few = sound.few; lines_few = sound.lines_few }

pub taken_scan : (stream : CallStream) (scan : Scan) (bytes : List ℕ) (texts : List CallText) (calls : List ScriptCall) → scan.begins ≡ stream.scan.begins → HasTaken stream bytes texts calls → HasTaken (with_scan stream scan) bytes texts calls
taken_scan stream scan bytes texts calls same taken =
    record {
      front = taken.front;
      pieces = taken.pieces;
      is_front = taken.is_front;
      valid = taken.valid;
      before_is = taken.before_is;
      lines_are = taken.lines_are;
      begins_is = same ∙ taken.begins_is;
      parts = taken.parts;
      parts_are = taken.parts_are;
      right = taken.right;
      texts_are = taken.texts_are;
      calls_of_texts = taken.calls_of_texts;
      counted = taken.counted;
    }

-- and holds fewer bytes
pub shorter_less : (old new : CallStream) (next session : ℕ) (called : Bool) → GivesUp old new next session called → 0 < next → next ≤ length (pending old) → length (pending new) < length (pending old)
shorter_less old new next session called gives some within =
    let rest : pending new ≡ drop next (pending old) = (λ i. drop (gives.from_is i) (gives.held_is i)) ∙ sym (drop-drop next old.from old.held.items) in
    omega (arith, ap length rest, length-drop next (pending old))
