-- An input has one script.
use Rattle.std.proofs.Common.{◌≡◌, ◌<◌, ◌≤◌, ◌⊎◌, ℕ, Bool, true, false, List, [], ◌∷◌, length, Option, Some, None, Result, Ok, Err, inl, inr, refl, sym, ap, ◌∙◌, subst, arith}
use Rattle.std.specs.Prelude.{nat_lt}
use Rattle.std.specs.Str.Lossy.{utf8_valid_len}
use Rattle.own_model.specs.declared.limit.TheConstants.{INPUT_BYTES, STATEMENT_BYTES}
use Rattle.own_model.specs.declared.request.Request.{Request}
use Rattle.own_model.specs.declared.script.InputFault.{InputFault}
use Rattle.own_model.specs.declared.script.InputFault.TheVariants.{TooLong, NotText, BadSession, TooManyCalls, Memory}
use Rattle.own_model.specs.declared.script.ScriptCall.{ScriptCall}
use Rattle.grammar_model.specs.Readable.{request_of}
use Rattle.script_model.specs.Asked.{IsAskedWhere, AreAskedBy}
use Rattle.script_model.specs.CallText.{CallText, Part}
use Rattle.script_model.specs.Numbered.{calls_of}
use Rattle.script_model.specs.Script.{IsText, HasParts, HasCalls, IsScript, parts_of, texts_in, faults_after, first_of, askings_of}
use Rattle.sql_reader.proofs.Answering.{one_answer}
use Rattle.sql_reader.proofs.Scripts.OnePiece.{one_list}

-- a text asks for one request
one_asked : (closed long : Bool) (bytes : List ℕ) (one other : Request) → IsAskedWhere closed long bytes one → IsAskedWhere closed long bytes other → one ≡ other
one_asked false long bytes one other is same = is ∙ sym same
one_asked true true bytes one other is same = is ∙ sym same
one_asked true false bytes one other is same = is.gives ∙ ap request_of (one_answer bytes is.answer same.answer is.answers same.answers) ∙ sym same.gives

one_requests : (texts : List CallText) (one other : List Request) → AreAskedBy texts one → AreAskedBy texts other → one ≡ other
one_requests [] [] [] is same = refl
one_requests [] [] (next ∷ other) is same = absurd same
one_requests [] (request ∷ one) other is same = absurd is
one_requests (text ∷ texts) [] other is same = absurd is
one_requests (text ∷ texts) (request ∷ one) [] is same = absurd same
one_requests (text ∷ texts) (request ∷ one) (next ∷ other) (here, is) (there, same) =
    let first = one_asked text.closed (nat_lt STATEMENT_BYTES (length text.bytes)) text.bytes request next here there in
    let rest = one_requests texts one other is same in
    (λ i. first i ∷ rest i)

-- an input has one list of parts
one_parts : (bytes : List ℕ) (one other : List Part) (fault wrong : Option InputFault) → HasParts bytes one fault → HasParts bytes other wrong → (one ≡ other) × (fault ≡ wrong)
one_parts bytes one other fault wrong is same =
    let parts : one ≡ other = is.parts_are ∙ ap parts_of (one_list true bytes is.pieces same.pieces is.are_pieces same.are_pieces) ∙ sym same.parts_are in
    (parts, is.fault_is ∙ ap (λ l. first_of (faults_after 0 l)) parts ∙ sym same.fault_is)

-- what a script is of an input that isn't too long, and is text
IsOfParts : List ℕ → Result (List ScriptCall) InputFault → Type 0
IsOfParts bytes result = ((calls : List ScriptCall) × HasCalls bytes calls × (result ≡ Ok calls)) ⊎ ((fault : InputFault) × (parts : List Part) × HasParts bytes parts (Some fault) × (result ≡ Err fault))

record IsOfNoText (bytes : List ℕ) (result : Result (List ScriptCall) InputFault) : Type 0 where
  short : length bytes ≤ INPUT_BYTES
  some : utf8_valid_len bytes < length bytes
  is : result ≡ Err (NotText (utf8_valid_len bytes))

IsOneOf : List ℕ → Result (List ScriptCall) InputFault → Type 0
IsOneOf bytes result = ((INPUT_BYTES < length bytes) × (result ≡ Err TooLong)) ⊎ (IsOfNoText bytes result ⊎ IsOfParts bytes result)

one_of : (bytes : List ℕ) (result : Result (List ScriptCall) InputFault) → IsScript bytes result → IsOneOf bytes result
unfolding IsOneOf IsOfParts
one_of bytes (Ok calls) is = inr (inr (inl (calls, is, refl)))
one_of bytes (Err TooLong) is = inl (is, refl)
one_of bytes (Err (NotText byte)) is = inr (inl (record { short = is.0; some = subst (λ n. n < length bytes) is.2 is.1; is = ap (λ n. Err (NotText n)) is.2 }))
one_of bytes (Err (BadSession byte)) is = inr (inr (inr (BadSession byte, is.0, is.1, refl)))
one_of bytes (Err (TooManyCalls byte)) is = inr (inr (inr (TooManyCalls byte, is.0, is.1, refl)))
one_of bytes (Err Memory) is = absurd is

text_of : (bytes : List ℕ) (result : Result (List ScriptCall) InputFault) → IsOfParts bytes result → IsText bytes
unfolding IsOfParts
text_of bytes result (inl (calls, has, is)) = has.lawful.text
text_of bytes result (inr (fault, parts, has, is)) = has.text

one_of_parts : (bytes : List ℕ) (one other : Result (List ScriptCall) InputFault) → IsOfParts bytes one → IsOfParts bytes other → one ≡ other
unfolding IsOfParts
one_of_parts bytes one other (inl (calls, has, is)) (inl (others, same, also)) =
    let parts = (one_parts bytes has.parts same.parts None None has.lawful same.lawful).0 in
    let requests = one_requests (texts_in has.parts) has.requests same.requests has.asked (subst (λ l. AreAskedBy (texts_in l) same.requests) (sym parts) same.asked) in
    is ∙ ap Ok (has.calls_are ∙ (λ i. calls_of (askings_of (texts_in (parts i)) (requests i))) ∙ sym same.calls_are) ∙ sym also
one_of_parts bytes one other (inl (calls, has, is)) (inr (fault, parts, same, also)) =
    absurd (let wrong : None ≡ Some fault = (one_parts bytes has.parts parts None (Some fault) has.lawful same).1 in cc)
one_of_parts bytes one other (inr (fault, parts, has, is)) (inl (calls, same, also)) =
    absurd (let wrong : Some fault ≡ None = (one_parts bytes parts same.parts (Some fault) None has same.lawful).1 in cc)
one_of_parts bytes one other (inr (fault, parts, has, is)) (inr (wrong, others, same, also)) =
    let faults : Some fault ≡ Some wrong = (one_parts bytes parts others (Some fault) (Some wrong) has same).1 in
    let equal : fault ≡ wrong = cc in
    is ∙ ap Err equal ∙ sym also

by : (bytes : List ℕ) (one other : Result (List ScriptCall) InputFault) → IsOneOf bytes one → IsOneOf bytes other → one ≡ other
unfolding IsOneOf
by bytes one other (inl (long, is)) (inl (also, same)) = is ∙ sym same
by bytes one other (inl (long, is)) (inr (inl none)) = absurd (omega (arith, none.short))
by bytes one other (inl (long, is)) (inr (inr parts)) = absurd (omega (arith, (text_of bytes other parts).short))
by bytes one other (inr (inl none)) (inl (long, is)) = absurd (omega (arith, none.short))
by bytes one other (inr (inl none)) (inr (inl also)) = none.is ∙ sym also.is
by bytes one other (inr (inl none)) (inr (inr parts)) = absurd (omega (arith, none.some, (text_of bytes other parts).valid))
by bytes one other (inr (inr parts)) (inl (long, is)) = absurd (omega (arith, (text_of bytes one parts).short))
by bytes one other (inr (inr parts)) (inr (inl none)) = absurd (omega (arith, none.some, (text_of bytes one parts).valid))
by bytes one other (inr (inr parts)) (inr (inr others)) = one_of_parts bytes one other parts others

-- two scripts of an input are one
pub one_script : (bytes : List ℕ) (one other : Result (List ScriptCall) InputFault) → IsScript bytes one → IsScript bytes other → one ≡ other
one_script bytes one other is same = by bytes one other (one_of bytes one is) (one_of bytes other same)
