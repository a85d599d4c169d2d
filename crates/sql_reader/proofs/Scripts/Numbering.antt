-- The calls of parts, numbered one after another.
use Rattle.std.proofs.Common.{◌≡◌, ◌<◌, ◌≤◌, ◌+◌, ℕ, suc, Bool, List, [], ◌∷◌, ◌++◌, length, Option, Some, None, refl, sym, ap, ◌∙◌, subst, arith, append_assoc}
use Rattle.std.specs.Prelude.{if◌then◌else◌}
use Rattle.std.proofs.lemmas.Bool.{lt-ltb, le-ltb}
use Rattle.std.proofs.lemmas.List.{append-nil, length-append}
use Rattle.own_model.specs.declared.limit.TheConstants.{INPUT_CALLS}
use Rattle.own_model.specs.declared.request.Request.{Request}
use Rattle.own_model.specs.declared.script.InputFault.{InputFault}
use Rattle.own_model.specs.declared.script.InputFault.TheVariants.{BadSession, TooManyCalls}
use Rattle.own_model.specs.declared.script.ScriptCall.{ScriptCall}
use Rattle.script_model.specs.Asked.{AreAskedBy}
use Rattle.script_model.specs.CallText.{CallText, Part, Call, BadLine}
use Rattle.script_model.specs.Numbered.{Asking, call_after, numbered_after}
use Rattle.script_model.specs.Script.{texts_in, too_many, faults_after, first_of, askings_of}
use Rattle.script_model.proofs.InputCalls.{length-numbered, texts-append}
use Rattle.sql_reader.specs.scripts.Counts.{asking, AddsText}
use Rattle.sql_reader.specs.scripts.Stretches.{call_with}
use Rattle.sql_reader.specs.scripts.TextCalls.{Takes}

pub numbered_after-nil : (before : List ScriptCall) → numbered_after before [] ≡ []
unfolding numbered_after
numbered_after-nil before = refl

pub numbered_after-cons : (before : List ScriptCall) (first : Asking) (askings : List Asking) → numbered_after before (first ∷ askings) ≡ call_after before first ∷ numbered_after (before ++ call_after before first ∷ []) askings
unfolding numbered_after
numbered_after-cons before first askings = refl

-- askings after askings
pub numbered_after-append : (before : List ScriptCall) (askings more : List Asking) → numbered_after before (askings ++ more) ≡ numbered_after before askings ++ numbered_after (before ++ numbered_after before askings) more
numbered_after-append before [] more =
    let none : before ++ numbered_after before [] ≡ before = ap (λ l. before ++ l) (numbered_after-nil before) ∙ append-nil before in
    sym ((λ i. numbered_after-nil before i ++ numbered_after (none i) more))
numbered_after-append before (first ∷ askings) more =
    let call = call_after before first in
    let next = before ++ call ∷ [] in
    let whole : next ++ numbered_after next askings ≡ before ++ numbered_after before (first ∷ askings) = append_assoc before (call ∷ []) (numbered_after next askings) ∙ ap (λ l. before ++ l) (sym (numbered_after-cons before first askings)) in
    numbered_after-cons before first (askings ++ more) ∙ ap (λ l. call ∷ l) (numbered_after-append next askings more) ∙ (λ i. sym (numbered_after-cons before first askings) i ++ numbered_after (whole i) more)

AreAskedBy-append : (texts more : List CallText) (requests others : List Request) → AreAskedBy texts requests → AreAskedBy more others → AreAskedBy (texts ++ more) (requests ++ others)
AreAskedBy-append [] more [] others asked also = also
AreAskedBy-append [] more (request ∷ requests) others asked also = absurd asked
AreAskedBy-append (text ∷ texts) more [] others asked also = absurd asked
AreAskedBy-append (text ∷ texts) more (request ∷ requests) others (here, asked) also = (here, AreAskedBy-append texts more requests others asked also)

askings_of-append : (texts more : List CallText) (requests others : List Request) → AreAskedBy texts requests → askings_of (texts ++ more) (requests ++ others) ≡ askings_of texts requests ++ askings_of more others
askings_of-append [] more [] others asked = refl
askings_of-append [] more (request ∷ requests) others asked = absurd asked
askings_of-append (text ∷ texts) more [] others asked = absurd asked
askings_of-append (text ∷ texts) more (request ∷ requests) others (here, asked) = ap (λ l. asking text.session request ∷ l) (askings_of-append texts more requests others asked)

length-askings_of : (texts : List CallText) (requests : List Request) → AreAskedBy texts requests → length (askings_of texts requests) ≡ length texts
length-askings_of [] requests asked = refl
length-askings_of (text ∷ texts) [] asked = absurd asked
length-askings_of (text ∷ texts) (request ∷ requests) (here, asked) = omega (arith, length-askings_of texts requests asked)

faults_after-nil : (count : ℕ) → faults_after count [] ≡ []
unfolding faults_after
faults_after-nil count = refl

faults_after-call : (count : ℕ) (text : CallText) (parts : List Part) → faults_after count (Call text ∷ parts) ≡ too_many count text ++ faults_after (count + 1) parts
unfolding faults_after
faults_after-call count text parts = refl

faults_after-line : (count at : ℕ) (parts : List Part) → faults_after count (BadLine at ∷ parts) ≡ BadSession at ∷ faults_after count parts
unfolding faults_after
faults_after-line count at parts = refl

-- what is wrong with parts after parts
pub faults_after-append : (count : ℕ) (parts more : List Part) → faults_after count (parts ++ more) ≡ faults_after count parts ++ faults_after (count + length (texts_in parts)) more
faults_after-append count [] more =
    let same : count ≡ count + 0 = omega arith in
    ap (λ n. faults_after n more) same ∙ ap (λ l. l ++ faults_after (count + 0) more) (sym (faults_after-nil count))
faults_after-append count (Call text ∷ parts) more =
    let next : count + 1 + length (texts_in parts) ≡ count + suc (length (texts_in parts)) = omega arith in
    faults_after-call count text (parts ++ more) ∙ ap (λ l. too_many count text ++ l) (faults_after-append (count + 1) parts more) ∙ sym (append_assoc (too_many count text) (faults_after (count + 1) parts) (faults_after (count + 1 + length (texts_in parts)) more))
    ∙ (λ i. sym (faults_after-call count text parts) i ++ faults_after (next i) more)
faults_after-append count (BadLine at ∷ parts) more =
    faults_after-line count at (parts ++ more) ∙ ap (λ l. BadSession at ∷ l) (faults_after-append count parts more) ∙ ap (λ l. l ++ faults_after (count + length (texts_in parts)) more) (sym (faults_after-line count at parts))

-- each text adds one call
pub Takes-length : (before : List ScriptCall) (parts : List Part) (after : List ScriptCall) → Takes before parts after → length after ≡ length before + length (texts_in parts)
Takes-length before parts after takes =
    let askings = askings_of (texts_in parts) takes.requests in
    ap length takes.added ∙ length-append before (numbered_after before askings) ∙ ap (λ n. length before + n) (length-numbered before askings ∙ length-askings_of (texts_in parts) takes.requests takes.asked)

-- no parts
pub Takes-none : (before : List ScriptCall) → Takes before [] before
Takes-none before = record { requests = []; asked = tt; right = faults_after-nil (length before); added = sym (ap (λ l. before ++ l) (numbered_after-nil before) ∙ append-nil before) }

-- parts after parts
pub Takes-append : (before : List ScriptCall) (parts : List Part) (middle : List ScriptCall) (more : List Part) (after : List ScriptCall) → Takes before parts middle → Takes middle more after → Takes before (parts ++ more) after
Takes-append before parts middle more after one other =
    let texts = texts-append parts more in
    let askings = askings_of (texts_in parts) one.requests in
    let others = askings_of (texts_in more) other.requests in
    let all : askings_of (texts_in (parts ++ more)) (one.requests ++ other.requests) ≡ askings ++ others = ap (λ l. askings_of l (one.requests ++ other.requests)) texts ∙ askings_of-append (texts_in parts) (texts_in more) one.requests other.requests one.asked in
    record {
      requests = one.requests ++ other.requests;
      asked = subst (λ l. AreAskedBy l (one.requests ++ other.requests)) (sym texts) (AreAskedBy-append (texts_in parts) (texts_in more) one.requests other.requests one.asked other.asked);
      right = faults_after-append (length before) parts more ∙ (λ i. one.right i ++ faults_after (sym (Takes-length before parts middle one) i) more) ∙ other.right;
      added = other.added ∙ (λ i. one.added i ++ numbered_after (one.added i) others) ∙ append_assoc before (numbered_after before askings) (numbered_after (before ++ numbered_after before askings) others)
          ∙ ap (λ l. before ++ l) (sym (numbered_after-append before askings others) ∙ ap (numbered_after before) (sym all));
    }

-- the call of a text
pub Takes-call : (before after : List ScriptCall) (session at : ℕ) (closed : Bool) (bytes : List ℕ) → 0 < length bytes → length before < INPUT_CALLS → AddsText session closed bytes before after → Takes before (call_with session at closed bytes) after
Takes-call before after session at closed [] some few adds = absurd (omega arith)
Takes-call before after session at closed (byte ∷ bytes) some few adds =
    let text : CallText = record { session = session; at = at; bytes = byte ∷ bytes; closed = closed } in
    let one : numbered_after before (asking session adds.request ∷ []) ≡ call_after before (asking session adds.request) ∷ [] = numbered_after-cons before (asking session adds.request) [] ∙ ap (λ l. call_after before (asking session adds.request) ∷ l) (numbered_after-nil (before ++ call_after before (asking session adds.request) ∷ [])) in
    record {
      requests = adds.request ∷ [];
      asked = (adds.asked, tt);
      right = faults_after-call (length before) text [] ∙ (λ i. (if lt-ltb (length before) INPUT_CALLS few i then [] else TooManyCalls at ∷ []) ++ faults_after-nil (length before + 1) i);
      added = adds.added ∙ ap (λ l. before ++ l) (sym one);
    }

-- a text of no bytes is no call
pub no_call : (session at : ℕ) (closed : Bool) (bytes : List ℕ) → length bytes ≡ 0 → call_with session at closed bytes ≡ []
no_call session at closed [] none = refl
no_call session at closed (byte ∷ bytes) none = absurd (omega arith)

first_here : (faults more : List InputFault) (fault : InputFault) → first_of faults ≡ Some fault → first_of (faults ++ more) ≡ Some fault
first_here [] more fault is = absurd (let wrong : ◌≡◌ {A = Option InputFault} None (Some fault) = is in cc)
first_here (first ∷ faults) more fault is = is

-- one call too many
pub too_many_calls : (count session at : ℕ) (closed : Bool) (bytes : List ℕ) → 0 < length bytes → INPUT_CALLS ≤ count → first_of (faults_after count (call_with session at closed bytes)) ≡ Some (TooManyCalls at)
too_many_calls count session at closed [] some many = absurd (omega arith)
too_many_calls count session at closed (byte ∷ bytes) some many =
    let text : CallText = record { session = session; at = at; bytes = byte ∷ bytes; closed = closed } in
    ap first_of (faults_after-call count text [] ∙ ap (λ b. (if b then [] else TooManyCalls at ∷ []) ++ faults_after (count + 1) []) (le-ltb count INPUT_CALLS many))

-- a fault of parts, or of those after them, is one of all
pub first_fault : (count : ℕ) (parts more : List Part) (fault : InputFault) → first_of (faults_after count parts) ≡ Some fault → first_of (faults_after count (parts ++ more)) ≡ Some fault
first_fault count parts more fault is = ap first_of (faults_after-append count parts more) ∙ first_here (faults_after count parts) (faults_after (count + length (texts_in parts)) more) fault is

pub later_fault : (before : List ScriptCall) (parts : List Part) (after : List ScriptCall) (more : List Part) (fault : InputFault) → Takes before parts after → first_of (faults_after (length after) more) ≡ Some fault → first_of (faults_after (length before) (parts ++ more)) ≡ Some fault
later_fault before parts after more fault takes is =
    ap first_of (faults_after-append (length before) parts more ∙ (λ i. takes.right i ++ faults_after (sym (Takes-length before parts after takes) i) more)) ∙ is

pub line_fault : (count at : ℕ) (more : List Part) → first_of (faults_after count (BadLine at ∷ more)) ≡ Some (BadSession at)
line_fault count at more = ap first_of (faults_after-line count at more)
