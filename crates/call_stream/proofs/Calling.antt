-- A call more.
use Rattle.std.proofs.Common.{◌≡◌, List, [], ◌∷◌, ◌++◌, refl, sym, ap, ◌∙◌}
use Rattle.own_model.specs.declared.request.Request.{Request}
use Rattle.own_model.specs.declared.script.ScriptCall.{ScriptCall}
use Rattle.script_model.specs.Asked.{IsAskedBy, AreAskedBy}
use Rattle.script_model.specs.CallText.{CallText}
use Rattle.script_model.specs.Numbered.{call_after, numbered_after}
use Rattle.script_model.specs.Script.{askings_of}
use Rattle.sql_reader.specs.scripts.Counts.{asking}
use Rattle.sql_reader.proofs.Scripts.Numbering.{numbered_after-nil, numbered_after-cons, numbered_after-append}
use Rattle.call_stream.specs.Given.{AreCallsOf}

pub asked-append : (texts more : List CallText) (requests others : List Request) → AreAskedBy texts requests → AreAskedBy more others → AreAskedBy (texts ++ more) (requests ++ others)
asked-append [] more [] others asked also = also
asked-append [] more (request ∷ requests) others asked also = absurd asked
asked-append (text ∷ texts) more [] others asked also = absurd asked
asked-append (text ∷ texts) more (request ∷ requests) others (here, asked) also = (here, asked-append texts more requests others asked also)

pub askings-append : (texts more : List CallText) (requests others : List Request) → AreAskedBy texts requests → askings_of (texts ++ more) (requests ++ others) ≡ askings_of texts requests ++ askings_of more others
askings-append [] more [] others asked = refl
askings-append [] more (request ∷ requests) others asked = absurd asked
askings-append (text ∷ texts) more [] others asked = absurd asked
askings-append (text ∷ texts) more (request ∷ requests) others (here, asked) = ap (λ l. asking text.session request ∷ l) (askings-append texts more requests others asked)

-- the call of a text more
pub call_push : (texts : List CallText) (calls : List ScriptCall) (text : CallText) (request : Request) (call : ScriptCall) → AreCallsOf texts calls → IsAskedBy text request → call ≡ call_after calls (asking text.session request) → AreCallsOf (texts ++ text ∷ []) (calls ++ call ∷ [])
call_push texts calls text request call of_texts asked is =
    let askings = askings_of texts of_texts.requests in
    let one : numbered_after calls (asking text.session request ∷ []) ≡ call ∷ [] =
    numbered_after-cons calls (asking text.session request) [] ∙ ap (λ l. call_after calls (asking text.session request) ∷ l) (numbered_after-nil (calls ++ call_after calls (asking text.session request) ∷ [])) ∙ ap (λ c. c ∷ []) (sym is) in
    record {
      requests = of_texts.requests ++ request ∷ [];
      asked = asked-append texts (text ∷ []) of_texts.requests (request ∷ []) of_texts.asked (asked, tt);
      calls_are = (λ i. of_texts.calls_are i ++ sym one i)
          ∙ (λ i. numbered_after [] askings ++ numbered_after (of_texts.calls_are i) (asking text.session request ∷ []))
          ∙ sym (numbered_after-append [] askings (asking text.session request ∷ []))
          ∙ ap (numbered_after []) (sym (askings-append texts (text ∷ []) of_texts.requests (request ∷ []) of_texts.asked));
    }
