-- Transcripts of calls that memory refused nothing, and of which the disk took what they wrote.
use Rattle.std.proofs.Common.{◌≡◌, ℕ, ◌+◌, ◌≤◌, List, [], ◌∷◌, ◌++◌, length, map, fold, refl, ap, sym, subst, ◌∙◌, arith, append-nil, append_assoc}
use Rattle.std.specs.Prelude.{Bool, true, false, ◌&&◌, Option, None, Some, if◌then◌else◌}
use Rattle.std.specs.List.{AllByRecursion}
use Rattle.std.specs.Option.{option_map_or}
use Rattle.std.proofs.lemmas.List.{length-append, length-map}
use Rattle.own_model.specs.declared.history.Entry.{Entry}
use Rattle.own_model.specs.declared.history.Verdict.{Verdict}
use Rattle.own_model.specs.declared.history.Verdict.TheVariants.{Took}
use Rattle.own_model.specs.declared.refusal.Refusal.TheVariants.{Memory}
use Rattle.own_model.specs.declared.reply.Reply.{Reply}
use Rattle.own_model.specs.declared.reply.Reply.TheVariants.{Refused}
use Rattle.own_model.specs.declared.script.ScriptCall.{ScriptCall}
use Rattle.own_model.specs.Db.{Db}
use Rattle.history_model.specs.History.{History, reply}
use Rattle.history_model.specs.Made.{Want, Spared, Unshown, Unmade, Called, added, after_call, entry_of, made}
use Rattle.text_model.specs.Lines.{reply_lines}
use Rattle.transcript_model.specs.Printed.{is_shown, lines_at, lines_of, looks, place_of, printed, told}
use Rattle.transcript_model.specs.TellsMemory.{TellsMemory}
use Rattle.transcript_model.specs.Transcript.{IsSpared, IsTranscript, spared}

-- calls that memory refused nothing, and the disk took, are these calls
spared-calls : (called : List Called) → IsSpared called → called ≡ spared (map (λ called. called.call) called)
spared-calls [] all = refl
spared-calls (called ∷ rest) all = λ i. record { call = called.call; want = all.0.0 i; verdict = all.0.1 i } ∷ spared-calls rest all.1 i

-- the history and the text of a run in which memory refused nothing, and the disk took all
pub run-spared : (base : Db) (calls : List ScriptCall) (history : History) (text : List ℕ) (run : IsTranscript base calls history text)
    → IsSpared run.called → (history ≡ made (spared calls)) × (text ≡ printed base (made (spared calls)) (spared calls))
run-spared base calls history text run all =
    let same = spared-calls run.called all ∙ ap spared run.calls_are in
    let history_is = run.history_is ∙ ap made same in
    (history_is, run.text_is ∙ (ap (λ h. printed base h run.called) history_is ∙ ap (printed base (made (spared calls))) same))

-- a text tells of memory where a part of it does
tells-front : (front rest : List ℕ) → TellsMemory front → TellsMemory (front ++ rest)
tells-front front rest tells =
    let line = reply_lines (Some tells.place) tells.session tells.call (Refused Memory) in
    record {
      before = tells.before;
      place = tells.place;
      session = tells.session;
      call = tells.call;
      after = tells.after ++ rest;
      is = ap (λ text. text ++ rest) tells.is
          ∙ (append_assoc tells.before (line ++ tells.after) rest ∙ ap (λ text. tells.before ++ text) (append_assoc line tells.after rest));
    }

tells-rest : (front rest : List ℕ) → TellsMemory rest → TellsMemory (front ++ rest)
tells-rest front rest tells = record {
  before = front ++ tells.before;
  place = tells.place;
  session = tells.session;
  call = tells.call;
  after = tells.after;
  is = ap (λ text. front ++ text) tells.is
      ∙ sym (append_assoc front tells.before (reply_lines (Some tells.place) tells.session tells.call (Refused Memory) ++ tells.after));
}

-- a call's line that tells it as memory tells of memory
tells-memory : (place session call : ℕ) → TellsMemory (reply_lines (Some place) session call (Refused Memory))
tells-memory place session call = record {
  before = [];
  place = place;
  session = session;
  call = call;
  after = [];
  is = sym (append-nil (reply_lines (Some place) session call (Refused Memory)));
}

-- what is told of a reply is the reply, where it isn't told as memory
told-step : (place session call : ℕ) (as_memory : Bool) (reply : Reply) → (TellsMemory (reply_lines (Some place) session call (if as_memory then Refused Memory else reply)) → ⊥)
    → reply_lines (Some place) session call (if as_memory then Refused Memory else reply) ≡ reply_lines (Some place) session call reply
told-step place session call true reply none = absurd (none (tells-memory place session call))
told-step place session call false reply none = refl

told-same : (place session call : ℕ) (looked : Bool) (want : Want) (reply : Reply) → (TellsMemory (reply_lines (Some place) session call (told looked want reply)) → ⊥)
    → reply_lines (Some place) session call (told looked want reply) ≡ reply_lines (Some place) session call reply
told-same place session call looked Spared reply none = refl
told-same place session call looked Unmade reply none = refl
told-same place session call looked Unshown reply none = told-step place session call (looked && is_shown reply) reply none

found-same : (place session call : ℕ) (looked : Bool) (want : Want) (found : Option Reply)
    → (TellsMemory (option_map_or (λ reply. reply_lines (Some place) session call (told looked want reply)) found []) → ⊥)
    → option_map_or (λ reply. reply_lines (Some place) session call (told looked want reply)) found []
    ≡ option_map_or (λ reply. reply_lines (Some place) session call (told looked Spared reply)) found []
found-same place session call looked want None none = refl
found-same place session call looked want (Some reply) none = told-same place session call looked want reply none

lines_at-same : (base : Db) (history : History) (call : ScriptCall) (want : Want) (verdict : Verdict) (place : Option ℕ)
    → (TellsMemory (lines_at base history (record { call = call; want = want; verdict = verdict }) place) → ⊥)
    → lines_at base history (record { call = call; want = want; verdict = verdict }) place
    ≡ lines_at base history (record { call = call; want = Spared; verdict = Took }) place
lines_at-same base history call want verdict None none = refl
lines_at-same base history call want verdict (Some place) none =
    found-same place call.session.0 call.call (looks base history place) want (reply base history place) none

lines_of-same : (base : Db) (history : History) (called : Called) → (TellsMemory (lines_of base history called) → ⊥)
    → lines_of base history called ≡ lines_of base history (record { call = called.call; want = Spared; verdict = Took })
unfolding lines_of
lines_of-same base history called none = lines_at-same base history called.call called.want called.verdict (place_of history called.call) none

-- a text that doesn't tell of memory is that of the same calls where memory refuses none
printed-same : (base : Db) (history : History) (called : List Called) → (TellsMemory (printed base history called) → ⊥)
    → printed base history called ≡ printed base history (spared (map (λ (c : Called). c.call) called))
unfolding printed
printed-same base history [] none = refl
printed-same base history (first ∷ rest) none =
    ap (λ lines. lines ++ printed base history rest)
    (lines_of-same base history first (λ tells. none (tells-front (lines_of base history first) (printed base history rest) tells)))
    ∙ ap (λ more. lines_of base history (record { call = first.call; want = Spared; verdict = Took }) ++ more)
    (printed-same base history rest (λ tells. none (tells-rest (lines_of base history first) (printed base history rest) tells)))

added_at_most : (history : History) (entry : Entry) (want : Want) → length (history ++ added entry want) ≤ length history + 1
added_at_most history entry Spared = omega (arith, length-append history (entry ∷ []))
added_at_most history entry Unshown = omega (arith, length-append history (entry ∷ []))
added_at_most history entry Unmade = omega (arith, length-append history [])

-- calls make an entry each at most
fold_at_most : (history : History) (called : List Called) → length (fold after_call history called) ≤ length history + length called
fold_at_most history [] = omega arith
fold_at_most history (first ∷ rest) =
    let step = added_at_most history (entry_of first.call first.verdict) first.want in
    let more = fold_at_most (after_call history first) rest in
    omega arith

-- of every entry the disk took what it wrote
abbrev AreTaken : History → Type 0
AreTaken history = AllByRecursion (λ entry. entry.verdict ≡ Took) history

-- so it did of what is before entries more, and of these
taken_last : (history : History) (entry : Entry) → AreTaken (history ++ entry ∷ []) → entry.verdict ≡ Took
taken_last [] entry taken = taken.0
taken_last (first ∷ history) entry taken = taken_last history entry taken.1

taken_front : (history : History) (entry : Entry) (want : Want) → AreTaken (history ++ added entry want) → AreTaken history
taken_front [] entry want taken = tt
taken_front (first ∷ history) entry want taken = (taken.0, taken_front history entry want taken.1)

taken_before : (history : History) (called : List Called) → AreTaken (fold after_call history called) → AreTaken history
taken_before history [] taken = taken
taken_before history (first ∷ rest) taken =
    taken_front history (entry_of first.call first.verdict) first.want (taken_before (after_call history first) rest taken)

-- where there is an entry for each call, every call was made
made_last : (history : History) (call : ScriptCall) (verdict : Verdict) (rest : List Called) → (verdict ≡ Took)
    → length (fold after_call (history ++ entry_of call verdict ∷ []) rest) ≡ length history + (length rest + 1)
    → (length (fold after_call (history ++ entry_of call verdict ∷ []) rest) ≡ length (history ++ entry_of call verdict ∷ []) + length rest
    → fold after_call (history ++ entry_of call verdict ∷ []) rest
    ≡ fold after_call (history ++ entry_of call verdict ∷ []) (spared (map (λ (c : Called). c.call) rest)))
    → fold after_call (history ++ entry_of call verdict ∷ []) rest
    ≡ fold after_call (history ++ entry_of call Took ∷ []) (spared (map (λ (c : Called). c.call) rest))
made_last history call verdict rest took long more =
    more (omega (arith, length-append history (entry_of call verdict ∷ [])))
    ∙ ap (λ verdict. fold after_call (history ++ entry_of call verdict ∷ []) (spared (map (λ (c : Called). c.call) rest))) took

made_step : (history : History) (call : ScriptCall) (want : Want) (verdict : Verdict) (rest : List Called)
    → length (fold after_call (history ++ added (entry_of call verdict) want) rest) ≡ length history + (length rest + 1)
    → AreTaken (history ++ added (entry_of call verdict) want)
    → ((history : History) → length (fold after_call history rest) ≡ length history + length rest → AreTaken (fold after_call history rest)
    → fold after_call history rest ≡ fold after_call history (spared (map (λ (c : Called). c.call) rest)))
    → AreTaken (fold after_call (history ++ added (entry_of call verdict) want) rest)
    → fold after_call (history ++ added (entry_of call verdict) want) rest
    ≡ fold after_call (history ++ entry_of call Took ∷ []) (spared (map (λ (c : Called). c.call) rest))
made_step history call Spared verdict rest long front more taken =
    made_last history call verdict rest (taken_last history (entry_of call verdict) front) long
    (λ long. more (history ++ entry_of call verdict ∷ []) long taken)
made_step history call Unshown verdict rest long front more taken =
    made_last history call verdict rest (taken_last history (entry_of call verdict) front) long
    (λ long. more (history ++ entry_of call verdict ∷ []) long taken)
made_step history call Unmade verdict rest long front more taken =
    let few = fold_at_most (history ++ []) rest in
    let same = length-append history [] in
    absurd (omega arith)

made_all : (history : History) (called : List Called) → length (fold after_call history called) ≡ length history + length called
    → AreTaken (fold after_call history called)
    → fold after_call history called ≡ fold after_call history (spared (map (λ (c : Called). c.call) called))
made_all history [] long taken = refl
made_all history (first ∷ rest) long taken =
    made_step history first.call first.want first.verdict rest (omega arith) (taken_before (after_call history first) rest taken)
    (λ history long taken. made_all history rest long taken) taken

made-same : (called : List Called) → length (made called) ≡ length called → AreTaken (made called)
    → made called ≡ made (spared (map (λ (c : Called). c.call) called))
unfolding made
made-same called long taken = made_all [] called (omega arith) taken

-- The history and the text of a transcript that has an entry for each call, of which the disk took each, and doesn't tell
-- of memory.
pub transcript-full : (base : Db) (calls : List ScriptCall) (history : History) (text : List ℕ) → IsTranscript base calls history text
    → length history ≡ length calls → AllByRecursion (λ entry. entry.verdict ≡ Took) history → (TellsMemory text → ⊥)
    → (history ≡ made (spared calls)) × (text ≡ printed base (made (spared calls)) (spared calls))
transcript-full base calls history text transcript long taken none =
    let called = transcript.called in
    let mapped = length-map called (λ (c : Called). c.call) in
    let counted : length (map (λ (c : Called). c.call) called) ≡ length calls = ap length transcript.calls_are in
    let own : length history ≡ length (made called) = ap length transcript.history_is in
    let full : length (made called) ≡ length called = omega arith in
    let history_is = transcript.history_is ∙ (made-same called full (subst AreTaken transcript.history_is taken) ∙ ap (λ calls. made (spared calls)) transcript.calls_are) in
    let silent : TellsMemory (printed base history called) → ⊥ = λ tells. none (subst TellsMemory (sym transcript.text_is) tells) in
    let text_is = transcript.text_is ∙ (printed-same base history called silent ∙ ap (λ calls. printed base history (spared calls)) transcript.calls_are) in
    (history_is, text_is ∙ ap (λ h. printed base h (spared calls)) history_is)
