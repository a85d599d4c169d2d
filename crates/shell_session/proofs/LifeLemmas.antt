-- Parts of a life, one after another.
use Rattle.std.proofs.Common.{◌≡◌, ℕ, List, [], ◌∷◌, ◌++◌, true, is_ok, take, refl, sym, ap, subst, ◌∙◌, append_assoc, append-nil, inl, inr}
use Rattle.std.specs.Prelude.{◌≢◌, Option, None, Some, Result, Ok, Err}
use Rattle.std.specs.Io.KnownBytes.{Appends}
use Rattle.std.specs.List.{AllByRecursion}
use Rattle.std.proofs.KnownBytes.{Appends-nil, Appends-trans}
use Rattle.own_model.specs.declared.script.ScriptCall.{ScriptCall}
use Rattle.script_model.specs.CallText.{CallText}
use Rattle.grammar_model.specs.Readable.{IsReadable}
use Rattle.script_model.specs.Split.{IsOfASession}
use Rattle.call_stream.specs.Given.{HasWholeCalls, IsEndFault, IsFaultMet}
use Rattle.call_stream.specs.Taken.{HasEnd, HasTaken, IsPlainCall, open_calls}
use Rattle.call_stream.specs.declared.call.StreamEnd.{StreamEnd}
use Rattle.call_stream.specs.declared.fault.StreamFault.{StreamFault}
use Rattle.call_stream.specs.declared.fault.StreamFault.TheVariants as stream
use Rattle.call_stream.specs.declared.stream.CallStream.{CallStream}
use Rattle.crash_recover.specs.declared.open.OpenFault.{OpenFault}
use Rattle.crash_recover.specs.declared.open.OpenFault.TheVariants as opening
use Rattle.shell_session.specs.DiskView.{DiskView}
use Rattle.shell_session.specs.Life.{Called, Event, Happen, Laid, Renewed, calls_of, text_of, texts_of}
use Rattle.shell_session.specs.Opening.{Opening}
use Rattle.shell_session.specs.Served.{AreTold, IsToldBefore, IsToldInPart, ServesCall, ServesCalls, ServesClosed, ServesEnd, fault_of}
use Rattle.shell_session.specs.Status.{stop_of, unopened}
use Rattle.shell_session.specs.Told.{HasWritten}
use Rattle.shell_session.specs.declared.ending.ShellFault.{ShellFault}
use Rattle.shell_session.specs.declared.ending.ShellFault.TheVariants.{Read, Write, Disk, Damaged, Input, Memory, Refused}
use Rattle.shell_session.specs.declared.manner.Form.{Form}

-- what happened, and then more
pub happen-append : {D : Type 0} (view : DiskView D) (before mid after : Opening D) (first second : List Event) → Happen view before first mid → Happen view mid second after → Happen view before (first ++ second) after
happen-append view before mid after [] second one two = subst (λ opening. Happen view opening second after) one two
happen-append view before mid after (event ∷ first) second one two = (one.0, one.1, happen-append view one.0 mid after first second one.2 two)

-- the calls of both
pub calls-append : (first second : List Event) → calls_of (first ++ second) ≡ calls_of first ++ calls_of second
calls-append [] second = refl
calls-append (Called telling ∷ first) second = ap (λ calls. telling.call ∷ calls) (calls-append first second)
calls-append (Laid call place told ∷ first) second = calls-append first second
calls-append (Renewed ∷ first) second = calls-append first second

-- and their texts
pub texts-append : (form : Form) (first second : List Event) → texts_of form (first ++ second) ≡ texts_of form first ++ texts_of form second
texts-append form [] second = refl
texts-append form (Called telling ∷ first) second =
    ap (λ texts. text_of form telling ++ texts) (texts-append form first second) ∙ sym (append_assoc (text_of form telling) (texts_of form first) (texts_of form second))
texts-append form (Laid call place told ∷ first) second = texts-append form first second
texts-append form (Renewed ∷ first) second = texts-append form first second

-- all that was written of the one, and then of the other
whole-after : (form : Form) (first second : List Event) (old mid new : Option (List ℕ)) → Appends old mid (texts_of form first) → Appends mid new (texts_of form second)
    → Appends old new (texts_of form (first ++ second))
whole-after form first second old mid new one two = subst (Appends old new) (sym (texts-append form first second)) (Appends-trans old mid new (texts_of form first) (texts_of form second) one two)

part-after : (form : Form) (first second : List Event) (old mid new : Option (List ℕ)) → Appends old mid (texts_of form first) → IsToldInPart form second mid new
    → IsToldInPart form (first ++ second) old new
part-after form first second old mid new one two =
    let part = take two.count (text_of form two.last) in
    let joined : texts_of form (first ++ two.before) ++ part ≡ texts_of form first ++ (texts_of form two.before ++ part) =
    ap (λ texts. texts ++ part) (texts-append form first two.before) ∙ append_assoc (texts_of form first) (texts_of form two.before) part in
    record {
      before = first ++ two.before;
      last = two.last;
      events_are = ap (λ events. first ++ events) two.events_are ∙ sym (append_assoc first two.before (Called two.last ∷ []));
      count = two.count;
      written = subst (Appends old new) (sym joined) (Appends-trans old mid new (texts_of form first) (texts_of form two.before ++ part) one two.written);
    }

before-after : (form : Form) (first second : List Event) (old mid new : Option (List ℕ)) → Appends old mid (texts_of form first) → IsToldBefore form second mid new
    → IsToldBefore form (first ++ second) old new
before-after form first second old mid new one two = record {
  before = first ++ two.before;
  last = two.last;
  events_are = ap (λ events. first ++ events) two.events_are ∙ sym (append_assoc first two.before (Called two.last ∷ []));
  written = whole-after form first two.before old mid new one two.written;
}

-- what was written of events, after all of those before them was
pub told-after : (fault : Option ShellFault) (form : Form) (first second : List Event) (old mid new : Option (List ℕ)) → Appends old mid (texts_of form first)
    → AreTold fault form second mid new → AreTold fault form (first ++ second) old new
told-after None form first second old mid new one two = whole-after form first second old mid new one two
told-after (Some Read) form first second old mid new one two = whole-after form first second old mid new one two
told-after (Some Disk) form first second old mid new one two = whole-after form first second old mid new one two
told-after (Some (Damaged area offset)) form first second old mid new one two = whole-after form first second old mid new one two
told-after (Some (Input why)) form first second old mid new one two = whole-after form first second old mid new one two
told-after (Some Refused) form first second old mid new one two = whole-after form first second old mid new one two
told-after (Some Write) form first second old mid new one two = part-after form first second old mid new one two
told-after (Some Memory) form first second old mid new one (inl two) = inl (whole-after form first second old mid new one two)
told-after (Some Memory) form first second old mid new one (inr two) = inr (before-after form first second old mid new one two)

-- where all was written, that is so with any fault that isn't the sink's
pub told-whole : (fault : Option ShellFault) (form : Form) (events : List Event) (old new : Option (List ℕ)) → fault ≢ Some Write
    → Appends old new (texts_of form events) → AreTold fault form events old new
told-whole None form events old new other whole = whole
told-whole (Some Read) form events old new other whole = whole
told-whole (Some Disk) form events old new other whole = whole
told-whole (Some (Damaged area offset)) form events old new other whole = whole
told-whole (Some (Input why)) form events old new other whole = whole
told-whole (Some Refused) form events old new other whole = whole
told-whole (Some Write) form events old new other whole = absurd (other refl)
told-whole (Some Memory) form events old new other whole = inl whole

-- what was written of one call
pub told-call : {D : Type 0} (view : DiskView D) {T : Type 0} (form : Form) (before after : Opening D) (call : ScriptCall) (line : ℕ) (result : Result T ShellFault) (old new : Option (List ℕ))
    (one : ServesCall view form before after call line result old new) → AreTold (fault_of result) form (Called one.telling ∷ []) old new
told-call view form before after call line (Ok done) old new one = subst (Appends old new) (sym (append-nil (text_of form one.telling))) one.written
told-call view form before after call line (Err Refused) old new one = subst (Appends old new) (sym (append-nil (text_of form one.telling))) one.written
told-call view form before after call line (Err Write) old new one = record { before = []; last = one.telling; events_are = refl; count = one.written.0; written = one.written.1 }
told-call view form before after call line (Err Memory) old new one = inr (record { before = []; last = one.telling; events_are = refl; written = one.written })
told-call view form before after call line (Err Read) old new one = absurd one.written
told-call view form before after call line (Err Disk) old new one = absurd one.written
told-call view form before after call line (Err (Damaged area offset)) old new one = absurd one.written
told-call view form before after call line (Err (Input why)) old new one = absurd one.written

-- nor is a fault of the input met where a reply is written
pub written-input : {T : Type 0} (result : Result T ShellFault) (old new : Option (List ℕ)) (text : List ℕ) (why : StreamFault) → HasWritten result old new text
    → fault_of result ≢ Some (Input why)
written-input (Ok done) old new text why written is = cc
written-input (Err Read) old new text why written is = cc
written-input (Err Write) old new text why written is = cc
written-input (Err Disk) old new text why written is = cc
written-input (Err (Damaged area offset)) old new text why written is = cc
written-input (Err (Input met)) old new text why written is = absurd written
written-input (Err Memory) old new text why written is = cc
written-input (Err Refused) old new text why written is = cc

-- Calls of a stream: none so far;
pub closed-none : {D : Type 0} (view : DiskView D) (form : Form) (before : Opening D) (stream : CallStream) (old : Option (List ℕ)) → ServesClosed view form before before stream stream None old old
closed-none view form before stream old = record {
  events = [];
  happened = refl;
  told = Appends-nil old;
  given = λ bytes texts calls taken. (texts, subst (HasTaken stream bytes texts) (sym (append-nil calls)) taken);
  met = λ why is. cc;
}

-- the stream goes on without one, and all is written of those so far;
pub closed-same : {D : Type 0} (view : DiskView D) (form : Form) (before after : Opening D) (first mid last : CallStream) (fault : Option ShellFault) (old new : Option (List ℕ)) → fault ≢ Some Write
    → ServesClosed view form before after first mid None old new
    → ((bytes : List ℕ) (texts : List CallText) (calls : List ScriptCall) → HasTaken mid bytes texts calls → HasTaken last bytes texts calls)
    → ((why : StreamFault) → fault ≡ Some (Input why) → (bytes : List ℕ) (texts : List CallText) (calls : List ScriptCall) → HasTaken mid bytes texts calls → IsFaultMet bytes calls why)
    → ServesClosed view form before after first last fault old new
closed-same view form before after first mid last fault old new other so_far same met = record {
  events = so_far.events;
  happened = so_far.happened;
  told = told-whole fault form so_far.events old new other so_far.told;
  given = λ bytes texts calls taken. let here = so_far.given bytes texts calls taken in (here.0, same bytes here.0 (calls ++ calls_of so_far.events) here.1);
  met = λ why is bytes texts calls taken. let here = so_far.given bytes texts calls taken in met why is bytes here.0 (calls ++ calls_of so_far.events) here.1;
}

-- or it gives one more, which is made and told.
pub closed-more : {D : Type 0} (view : DiskView D) {T : Type 0} (form : Form) (before mid after : Opening D) (first middle last : CallStream) (call : ScriptCall) (line : ℕ) (result : Result T ShellFault) (old half new : Option (List ℕ))
    → ServesClosed view form before mid first middle None old half
    → ((bytes : List ℕ) (texts : List CallText) (calls : List ScriptCall) → HasTaken middle bytes texts calls → (texts_now : List CallText) × HasTaken last bytes texts_now (calls ++ call ∷ []))
    → ServesCall view form mid after call line result half new
    → ServesClosed view form before after first last (fault_of result) old new
closed-more view form before mid after first middle last call line result old half new so_far gives one = record {
  events = so_far.events ++ Called one.telling ∷ [];
  happened = happen-append view before mid after so_far.events (Called one.telling ∷ []) so_far.happened (after, one.happens, refl);
  told = told-after (fault_of result) form so_far.events (Called one.telling ∷ []) old half new so_far.told (told-call view form mid after call line result half new one);
  given = λ bytes texts calls taken.
      let here = so_far.given bytes texts calls taken in
      let more = gives bytes here.0 (calls ++ calls_of so_far.events) here.1 in
      let joined : (calls ++ calls_of so_far.events) ++ call ∷ [] ≡ calls ++ calls_of (so_far.events ++ Called one.telling ∷ []) =
      append_assoc calls (calls_of so_far.events) (call ∷ []) ∙ ap (λ last_call. calls ++ (calls_of so_far.events ++ last_call ∷ [])) (sym one.of_call)
      ∙ ap (λ all. calls ++ all) (sym (calls-append so_far.events (Called one.telling ∷ []))) in
      (more.0, subst (HasTaken last bytes more.0) joined more.1);
  met = λ why is. absurd (written-input result half new (text_of form one.telling) why one.written is);
}

-- these calls were made, one after another, and told
pub record HasServed {D : Type 0} (view : DiskView D) (form : Form) (before after : Opening D) (calls : List ScriptCall) (old new : Option (List ℕ)) : Type 0 where
  pub events : List Event
  pub happened : Happen view before events after
  pub told : Appends old new (texts_of form events)
  pub calls_are : calls ≡ calls_of events

-- none so far;
pub served-none : {D : Type 0} (view : DiskView D) (form : Form) (before : Opening D) (old : Option (List ℕ)) → HasServed view form before before [] old old
served-none view form before old = record { events = []; happened = refl; told = Appends-nil old; calls_are = refl }

-- one more, which may meet a fault;
pub served-more : {D : Type 0} (view : DiskView D) {T : Type 0} (form : Form) (before mid after : Opening D) (calls : List ScriptCall) (call : ScriptCall) (rest : List ScriptCall) (line : ℕ) (result : Result T ShellFault)
    (old half new : Option (List ℕ)) → HasServed view form before mid calls old half → ServesCall view form mid after call line result half new
    → (fault_of result ≡ None → rest ≡ []) → ServesCalls view form before after (calls ++ call ∷ rest) (fault_of result) old new
served-more view form before mid after calls call rest line result old half new so_far one last = record {
  events = so_far.events ++ Called one.telling ∷ [];
  happened = happen-append view before mid after so_far.events (Called one.telling ∷ []) so_far.happened (after, one.happens, refl);
  told = told-after (fault_of result) form so_far.events (Called one.telling ∷ []) old half new so_far.told (told-call view form mid after call line result half new one);
  unmade = rest;
  calls_are =
      let made : calls_of (so_far.events ++ Called one.telling ∷ []) ≡ calls ++ call ∷ [] =
      calls-append so_far.events (Called one.telling ∷ []) ∙ ap (λ all. all ++ one.telling.call ∷ []) (sym so_far.calls_are) ∙ ap (λ last_call. calls ++ last_call ∷ []) one.of_call in
      sym (append_assoc calls (call ∷ []) rest) ∙ ap (λ all. all ++ rest) (sym made);
  whole = last;
  no_input = λ why is. written-input result half new (text_of form one.telling) why one.written is;
}

-- one more, without a fault;
pub served-one : {D : Type 0} (view : DiskView D) (form : Form) (before mid after : Opening D) (calls : List ScriptCall) (call : ScriptCall) (line : ℕ) (done : Unit {0})
    (old half new : Option (List ℕ)) → HasServed view form before mid calls old half → ServesCall {T = Unit {0}} view form mid after call line (Ok done) half new
    → HasServed view form before after (calls ++ call ∷ []) old new
served-one view form before mid after calls call line done old half new so_far one = record {
  events = so_far.events ++ Called one.telling ∷ [];
  happened = happen-append view before mid after so_far.events (Called one.telling ∷ []) so_far.happened (after, one.happens, refl);
  told = told-after None form so_far.events (Called one.telling ∷ []) old half new so_far.told (told-call view form mid after call line (Ok done) half new one);
  calls_are = sym (calls-append so_far.events (Called one.telling ∷ []) ∙ ap (λ all. all ++ one.telling.call ∷ []) (sym so_far.calls_are) ∙ ap (λ last_call. calls ++ last_call ∷ []) one.of_call);
}

-- and all.
pub served-all : {D : Type 0} (view : DiskView D) (form : Form) (before after : Opening D) (calls : List ScriptCall) (old new : Option (List ℕ)) → HasServed view form before after calls old new
    → ServesCalls view form before after calls None old new
served-all view form before after calls old new so_far = record {
  events = so_far.events;
  happened = so_far.happened;
  told = so_far.told;
  unmade = [];
  calls_are = so_far.calls_are ∙ sym (append-nil (calls_of so_far.events));
  whole = λ none. refl;
  no_input = λ why is. cc;
}

-- a refusal that ends the shell was written whole
pub written-refused : (result : Result (Unit {0}) ShellFault) (old new : Option (List ℕ)) (text : List ℕ) → is_ok result ≡ true → HasWritten result old new text
    → HasWritten {T = Unit {0}} (Err Refused) old new text
written-refused (Ok done) old new text ok written = written
written-refused (Err why) old new text ok written = cc

-- a fault of the input isn't the sink's
pub stopped-other : (why : StreamFault) → Some (stop_of why) ≢ Some Write
stopped-other (stream.NotText byte) is = cc
stopped-other (stream.BadSession byte) is = cc
stopped-other (stream.TooManyCalls byte) is = cc
stopped-other stream.TooLong is = cc
stopped-other stream.Memory is = cc

-- it is that which the stream met
pub stopped-input : (fault why : StreamFault) → Some (stop_of fault) ≡ Some (Input why) → fault ≡ why
stopped-input (stream.NotText byte) why is = cc
stopped-input (stream.BadSession byte) why is = cc
stopped-input (stream.TooManyCalls byte) why is = cc
stopped-input stream.TooLong why is = cc
stopped-input stream.Memory why is = cc

-- calls without a fault, and then more
pub calls-both : {D : Type 0} (view : DiskView D) (form : Form) (before mid after : Opening D) (first second : List ScriptCall) (fault : Option ShellFault) (old half new : Option (List ℕ))
    → ServesCalls view form before mid first None old half → ServesCalls view form mid after second fault half new → ServesCalls view form before after (first ++ second) fault old new
calls-both view form before mid after first second fault old half new one two = record {
  events = one.events ++ two.events;
  happened = happen-append view before mid after one.events two.events one.happened two.happened;
  told = told-after fault form one.events two.events old half new one.told two.told;
  unmade = two.unmade;
  calls_are =
      let all : first ≡ calls_of one.events = one.calls_are ∙ ap (λ unmade. calls_of one.events ++ unmade) (one.whole refl) ∙ append-nil (calls_of one.events) in
      ap (λ calls. calls ++ second) all ∙ ap (λ calls. calls_of one.events ++ calls) two.calls_are ∙ sym (append_assoc (calls_of one.events) (calls_of two.events) two.unmade)
      ∙ ap (λ calls. calls ++ two.unmade) (sym (calls-append one.events two.events));
  whole = two.whole;
  no_input = two.no_input;
}

-- after a fault no more are made
pub calls-cut : {D : Type 0} (view : DiskView D) (form : Form) (before after : Opening D) (first second : List ScriptCall) (why : ShellFault) (old new : Option (List ℕ))
    → ServesCalls view form before after first (Some why) old new → ServesCalls view form before after (first ++ second) (Some why) old new
calls-cut view form before after first second why old new one = record {
  events = one.events;
  happened = one.happened;
  told = one.told;
  unmade = one.unmade ++ second;
  calls_are = ap (λ calls. calls ++ second) one.calls_are ∙ append_assoc (calls_of one.events) one.unmade second;
  whole = λ none. cc;
  no_input = one.no_input;
}

-- one call alone
pub calls-one : {D : Type 0} (view : DiskView D) {T : Type 0} (form : Form) (before after : Opening D) (call : ScriptCall) (line : ℕ) (result : Result T ShellFault) (old new : Option (List ℕ))
    → ServesCall view form before after call line result old new → ServesCalls view form before after (call ∷ []) (fault_of result) old new
calls-one view form before after call line result old new one =
    served-more view form before before after [] call [] line result old old new (served-none view form before old) one (λ none. refl)

-- with these, all calls of the input are given
pub end-of : {D : Type 0} (view : DiskView D) (form : Form) (before after : Opening D) (stream : CallStream) (end : StreamEnd) (fault : Option ShellFault) (old new : Option (List ℕ))
    → ServesCalls view form before after (open_calls end.open_call ++ end.ends) fault old new
    → ((bytes : List ℕ) (texts : List CallText) (calls : List ScriptCall) → HasTaken stream bytes texts calls → HasEnd bytes calls end)
    → ServesEnd view form before after stream fault old new
end-of view form before after stream end fault old new served ends = record {
  events = served.events;
  happened = served.happened;
  told = served.told;
  unmade = served.unmade;
  whole = served.whole;
  given = λ bytes texts calls taken. inl (subst (λ last. HasWholeCalls bytes (calls ++ last)) served.calls_are (ends bytes texts calls taken).whole);
  met = λ why is. absurd (served.no_input why is);
}

-- what the input ends with shows a fault
pub end-cut : {D : Type 0} (view : DiskView D) (form : Form) (before : Opening D) (stream : CallStream) (why : ShellFault) (old : Option (List ℕ)) → Some why ≢ Some Write
    → ((met : StreamFault) → Some why ≡ Some (Input met) → (bytes : List ℕ) (texts : List CallText) (calls : List ScriptCall) → HasTaken stream bytes texts calls → IsEndFault bytes calls met)
    → ServesEnd view form before before stream (Some why) old old
end-cut view form before stream why old other met = record {
  events = [];
  happened = refl;
  told = told-whole (Some why) form [] old old other (Appends-nil old);
  unmade = [];
  whole = λ none. refl;
  given = λ bytes texts calls taken. inr (refl, λ none. cc);
  met = λ fault is bytes texts calls taken. subst (λ made. IsEndFault bytes made fault) (sym (append-nil calls)) (met fault is bytes texts calls taken);
}

-- calls that may be made are readable,
pub plain-readable : (calls : List ScriptCall) → AllByRecursion IsPlainCall calls → AllByRecursion (λ call. IsReadable call.request) calls
plain-readable [] plain = tt
plain-readable (call ∷ calls) plain = (plain.0.0, plain-readable calls plain.1)

-- and of a session
pub plain-sessions : (calls : List ScriptCall) → AllByRecursion IsPlainCall calls → AllByRecursion IsOfASession calls
plain-sessions [] plain = tt
plain-sessions (call ∷ calls) plain = (plain.0.1, plain-sessions calls plain.1)

-- nor is why a store isn't opened
pub unopened-other : (why : OpenFault) → Some (unopened why) ≢ Some Write
unopened-other opening.DiskFault is = cc
unopened-other (opening.Damaged area offset) is = cc
unopened-other opening.Memory is = cc

-- nor one of the input
pub unopened-input : (fault : OpenFault) (why : StreamFault) → Some (unopened fault) ≢ Some (Input why)
unopened-input opening.DiskFault why is = cc
unopened-input (opening.Damaged area offset) why is = cc
unopened-input opening.Memory why is = cc
