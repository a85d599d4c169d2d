-- The calls of a whole input are its script, where the limits aren't passed.
use Rattle.std.proofs.Common.{◌≡◌, ◌<◌, ◌≤◌, ◌+◌, ℕ, List, [], ◌∷◌, ◌++◌, length, refl, sym, ap, ◌∙◌, arith}
use Rattle.std.specs.Prelude.{Ok, if◌then◌else◌}
use Rattle.std.proofs.lemmas.Bool.{lt-ltb}
use Rattle.std.proofs.lemmas.List.{length-append}
use Rattle.std.proofs.lemmas.Str.{utf8_valid_len-IsUtf8}
use Rattle.own_model.specs.declared.limit.TheConstants.{INPUT_BYTES, INPUT_CALLS}
use Rattle.own_model.specs.declared.request.Request.{Request}
use Rattle.own_model.specs.declared.script.InputFault.TheVariants.{TooManyCalls}
use Rattle.own_model.specs.declared.script.ScriptCall.{ScriptCall}
use Rattle.script_model.specs.Asked.{AreAskedBy}
use Rattle.script_model.specs.CallText.{CallText, Part, Call, BadLine}
use Rattle.script_model.specs.Numbered.{numbered_after}
use Rattle.script_model.specs.Script.{IsScript, askings_of, faults_after, first_of, parts_of, texts_in}
use Rattle.script_model.proofs.InputCalls.{length-numbered}
use Rattle.sql_reader.specs.scripts.TextCalls.{ends_after}
use Rattle.sql_reader.proofs.Scripts.Ends.{calls_of-text}
use Rattle.call_stream.specs.Given.{AreCallsOf, HasWholeCalls, bad_lines}

-- nothing is wrong with few parts without a bad session line
no_faults : (count : ℕ) (parts : List Part) → bad_lines parts ≡ [] → count + length (texts_in parts) ≤ INPUT_CALLS → faults_after count parts ≡ []
unfolding faults_after
no_faults count [] right few = refl
no_faults count (Call text ∷ parts) right few =
    let less : count < INPUT_CALLS = omega arith in
    let later : count + 1 + length (texts_in parts) ≤ INPUT_CALLS = omega arith in
    ap (λ b. (if b then [] else TooManyCalls text.at ∷ []) ++ faults_after (count + 1) parts) (lt-ltb count INPUT_CALLS less) ∙ no_faults (count + 1) parts right later
no_faults count (BadLine at ∷ parts) right few = absurd (let wrong : ◌≡◌ {A = List ℕ} (at ∷ bad_lines parts) [] = right in cc)

askings_len : (texts : List CallText) (requests : List Request) → AreAskedBy texts requests → length (askings_of texts requests) ≡ length texts
askings_len [] requests asked = refl
askings_len (text ∷ texts) [] asked = absurd asked
askings_len (text ∷ texts) (request ∷ requests) (here, asked) = omega (arith, askings_len texts requests asked)

-- each text is a call
pub calls_len : (texts : List CallText) (calls : List ScriptCall) → AreCallsOf texts calls → length calls ≡ length texts
calls_len texts calls is = ap length is.calls_are ∙ length-numbered [] (askings_of texts is.requests) ∙ askings_len texts is.requests is.asked

pub script_of : (bytes : List ℕ) (calls : List ScriptCall) → HasWholeCalls bytes calls → length bytes ≤ INPUT_BYTES → length calls ≤ INPUT_CALLS → IsScript bytes (Ok calls)
script_of bytes calls whole short few =
    let texts = texts_in (parts_of whole.pieces) in
    let askings = askings_of texts whole.requests in
    let first = numbered_after [] askings in
    let count : 0 + length texts ≤ INPUT_CALLS =
    omega (arith, few, ap length whole.calls_are, ap length (calls_of-text askings), length-append first (numbered_after first (ends_after first)), length-numbered [] askings, askings_len texts whole.requests whole.asked) in
    record {
      parts = parts_of whole.pieces;
      lawful = record {
        text = record { short = short; valid = utf8_valid_len-IsUtf8 bytes whole.valid };
        pieces = whole.pieces;
        are_pieces = whole.are;
        parts_are = refl;
        fault_is = sym (ap first_of (no_faults 0 (parts_of whole.pieces) whole.right count));
      };
      requests = whole.requests;
      asked = whole.asked;
      calls_are = whole.calls_are;
    }
