-- What a shell reads, piece by piece, and the life that it is.
use Rattle.std.proofs.Common.{◌≡◌, ◌≤◌, ◌<◌, ℕ, zero, suc, ◌+◌, List, [], ◌∷◌, ◌++◌, Bool, true, false, length, take, arith, refl, sym, ap, subst, subst₂, ◌∙◌, append_assoc, append-nil, inl, inr}
use Rattle.std.proofs.lemmas.List.{length-append, length-take-le}
use Rattle.std.specs.Prelude.{◌≢◌, ◌⊎◌, Option, None, Some, Result, Ok, Err}
use Rattle.std.specs.Io.KnownBytes.{Appends, Consumes, IsAtEnd, Keeps}
use Rattle.std.proofs.KnownBytes.{Appends-nil, Consumes-kept, Consumes-nil, Consumes-trans}
use Rattle.own_base.specs.declared.number.Area.{Area}
use Rattle.own_model.specs.declared.reply.Reply.{Reply}
use Rattle.own_model.specs.declared.script.ScriptCall.{ScriptCall}
use Rattle.script_model.specs.CallText.{CallText}
use Rattle.script_model.specs.Piece.{ArePieces, Piece}
use Rattle.call_stream.specs.Given.{AreFront, HasGiven, HasWholeCalls, IsEndFault, IsFaultMet}
use Rattle.call_stream.specs.Taken.{HasTaken, IsPushFault, pending}
use Rattle.call_stream.specs.declared.fault.StreamFault.{StreamFault}
use Rattle.call_stream.specs.declared.fault.StreamFault.TheVariants.{BadSession, Memory, NotText, TooLong, TooManyCalls}
use Rattle.call_stream.specs.declared.stream.CallStream.{CallStream}
use Rattle.call_stream.specs.declared.stream.TheConstants.{STREAM_BYTES}
use Rattle.shell_session.specs.DiskView.{DiskView}
use Rattle.shell_session.specs.Life.{Event, Happen, IsCalled, IsRenewed, Laid, Renewed, calls_of, is_checkpoint, texts_of}
use Rattle.shell_session.specs.Kept.{Keeps as BookKeeps}
use Rattle.shell_session.specs.OnDisk.{IsCalm, IsClosedOver, IsEnded}
use Rattle.shell_session.specs.Opening.{Opening}
use Rattle.shell_session.specs.Served.{AreLast, AreMade, AreTold, IsInputFault, IsMetSoFar, IsSilent, Lives, ServesClosed, ServesEnd, ServesPiece, fault_of, is_last}
use Rattle.shell_session.specs.declared.book.Book.{Book}
use Rattle.shell_session.specs.declared.ending.ShellFault.{ShellFault}
use Rattle.shell_session.specs.declared.ending.ShellFault.TheVariants.{Damaged, Disk, Input, Refused, Write}
use Rattle.shell_session.specs.declared.manner.Form.{Form}
use Rattle.shell_session.proofs.LifeLemmas.{calls-append, happen-append, texts-append, told-after, told-whole}

-- a read that failed took nothing
pub read-nothing : (old new : Option (List ℕ)) → Keeps old new → Consumes old new []
read-nothing old new kept = Consumes-kept old old new [] (Consumes-nil old) kept

-- Bytes were read, and no call was made of them.
pub piece-unserved : {D : Type 0} (view : DiskView D) (form : Form) (here : Opening D) (first last : CallStream) (result : Result Bool ShellFault) (untaken : List ℕ) (remaining_old remaining_new written : Option (List ℕ))
    → fault_of result ≢ Some Write → (fault_of result ≡ None → untaken ≡ []) → Consumes remaining_old remaining_new untaken → (is_last result ≡ true → IsAtEnd remaining_new)
    → ((bytes : List ℕ) (texts : List CallText) (calls : List ScriptCall) → HasTaken first bytes texts calls → HasTaken last bytes texts calls)
    → ((why : StreamFault) → fault_of result ≡ Some (Input why) → (bytes : List ℕ) (texts : List CallText) (calls : List ScriptCall) → HasTaken first bytes texts calls
    → IsMetSoFar (bytes ++ untaken) calls why)
    → (is_last result ≡ false → fault_of result ≢ None)
    → ServesPiece view form here here first last result remaining_old remaining_new written written
piece-unserved view form here first last result untaken remaining_old remaining_new written other none read end same met ended = record {
  taken = [];
  untaken = untaken;
  read = read;
  all_taken = none;
  end = end;
  events = [];
  happened = refl;
  told = told-whole (fault_of result) form [] written written other (Appends-nil written);
  given = λ bytes texts calls taken.
      (texts, subst (λ all. HasTaken last all texts (calls ++ [])) (sym (append-nil bytes)) (subst (HasTaken last bytes texts) (sym (append-nil calls)) (same bytes texts calls taken)));
  met = λ why is bytes texts calls taken. subst (λ made. IsMetSoFar (bytes ++ untaken) made why) (sym (append-nil calls)) (met why is bytes texts calls taken);
  some = λ more is. absurd (ended more is);
}

-- They were, and so were the calls that they close.
pub piece-served : {D : Type 0} (view : DiskView D) (form : Form) (before after : Opening D) (first mid last : CallStream) (result : Result Bool ShellFault) (piece : List ℕ) (remaining_old remaining_new old new : Option (List ℕ))
    → Consumes remaining_old remaining_new piece → is_last result ≡ false → 0 < length piece
    → ((bytes : List ℕ) (texts : List CallText) (calls : List ScriptCall) → HasTaken first bytes texts calls → HasTaken mid (bytes ++ piece) texts calls)
    → ServesClosed view form before after mid last (fault_of result) old new
    → ServesPiece view form before after first last result remaining_old remaining_new old new
piece-served view form before after first mid last result piece remaining_old remaining_new old new read more some pushed served = record {
  taken = piece;
  untaken = [];
  read = subst (Consumes remaining_old remaining_new) (sym (append-nil piece)) read;
  all_taken = λ none. refl;
  end = λ is. cc;
  events = served.events;
  happened = served.happened;
  told = served.told;
  given = λ bytes texts calls taken. served.given (bytes ++ piece) texts calls (pushed bytes texts calls taken);
  met = λ why is bytes texts calls taken. inl (subst (λ all. IsFaultMet (bytes ++ all) (calls ++ calls_of served.events) why) (sym (append-nil piece))
      (served.met why is (bytes ++ piece) texts calls (pushed bytes texts calls taken)));
  some = λ more is. some;
}

-- some bytes were read
pub read-some : (count : ℕ) (into : List ℕ) → count ≤ length into → count ≢ 0 → 0 < length (take count into)
read-some count into within some = let long = length-take-le count into within in omega (arith, long, nat-some count some)
  where
    nat-some : (n : ℕ) → n ≢ 0 → 0 < n
    nat-some zero some = absurd (some refl)
    nat-some (suc n) some = omega arith

-- pieces at the front of bytes stay there
front_more : (bytes front rest more : List ℕ) (pieces : List Piece) → AreFront bytes front rest pieces → AreFront (bytes ++ more) front (rest ++ more) pieces
front_more bytes front rest more pieces is = record {
  split = ap (λ all. all ++ more) is.split ∙ append_assoc front rest more;
  settled = λ later. subst₂ (ArePieces true pieces) (sym (append_assoc bytes more later)) (sym (append_assoc rest more later)) (is.settled (more ++ later));
  closed = is.closed;
}

-- A stream that doesn't take bytes, for their number, was to take more than a stream does, or than it holds.
pub pushed-fault : (stream : CallStream) (bytes : List ℕ) (texts : List CallText) (calls : List ScriptCall) (piece : List ℕ) (why : StreamFault) → HasTaken stream bytes texts calls
    → IsPushFault stream piece why → IsMetSoFar (bytes ++ piece) calls why
pushed-fault stream bytes texts calls piece TooLong taken (inl held) =
    let long = length-append (pending stream) piece in
    inr (refl, inr (taken.front, pending stream ++ piece, taken.pieces, front_more bytes taken.front (pending stream) piece taken.pieces taken.is_front, omega (arith, long, held)))
pushed-fault stream bytes texts calls piece TooLong taken (inr past) =
    let long = length-append bytes piece in
    let split = ap length taken.is_front.split in
    let parts = length-append taken.front (pending stream) in
    let before = taken.before_is in
    inr (refl, inl (omega (arith, long, split, parts, before, past)))
pushed-fault stream bytes texts calls piece Memory taken refused = inl refused
pushed-fault stream bytes texts calls piece (NotText byte) taken refused = absurd refused
pushed-fault stream bytes texts calls piece (BadSession byte) taken refused = absurd refused
pushed-fault stream bytes texts calls piece (TooManyCalls byte) taken refused = absurd refused

-- what came to an end without a fault met none
pub ok-other : (more : Bool) (why : ShellFault) → Ok more ≢ Err why
ok-other more why is = cc

-- nothing happened;
pub silent-none : {D : Type 0} (view : DiskView D) (here : Opening D) → IsSilent view here here
silent-none view here = record { events = []; happened = refl; no_calls = refl; no_texts = λ form. refl }

-- a CHECKPOINT was made, of the shell's own;
pub silent-laid : {D : Type 0} (view : DiskView D) (before after : Opening D) (call : ScriptCall) (place : Option ℕ) (told : Reply) → IsCalled view before after call place told → is_checkpoint call.request ≡ true
    → IsSilent view before after
silent-laid view before after call place told called is = record {
  events = Laid call place told ∷ [];
  happened = (after, (called, is), refl);
  no_calls = refl;
  no_texts = λ form. refl;
}

-- and then the store was opened anew.
pub silent-renewed : {D : Type 0} (view : DiskView D) (before mid after : Opening D) → IsSilent view before mid → IsRenewed view mid after → IsSilent view before after
silent-renewed view before mid after silent renewed = record {
  events = silent.events ++ Renewed ∷ [];
  happened = happen-append view before mid after silent.events (Renewed ∷ []) silent.happened (after, renewed, refl);
  no_calls = calls-append silent.events (Renewed ∷ []) ∙ ap (λ calls. calls ++ []) silent.no_calls;
  no_texts = λ form. texts-append form silent.events (Renewed ∷ []) ∙ ap (λ texts. texts ++ []) (silent.no_texts form);
}

-- A life up to now, from the opening of the store on: what a stream has taken was read, and what it gave was made and told.
pub record LivesOn {D : Type 0} (view : DiskView D) (form : Form) (first here : Opening D) (pieces : ℕ) (stream : CallStream) (remaining_old remaining_new old new : Option (List ℕ)) : Type 0 where
  pub bytes : List ℕ
  pub read : Consumes remaining_old remaining_new bytes
  pub long : pieces ≤ length bytes
  pub events : List Event
  pub happened : Happen view first events here
  pub told : Appends old new (texts_of form events)
  pub texts : List CallText
  pub taken : HasTaken stream bytes texts (calls_of events)

-- nothing was read yet
pub on-none : {D : Type 0} (view : DiskView D) (form : Form) (first : Opening D) (stream : CallStream) (remaining old : Option (List ℕ)) → HasTaken stream [] [] [] → LivesOn view form first first 0 stream remaining remaining old old
on-none view form first stream remaining old taken = record {
  bytes = [];
  read = Consumes-nil remaining;
  long = omega arith;
  events = [];
  happened = refl;
  told = Appends-nil old;
  texts = [];
  taken = taken;
}

-- so many pieces more, each with a byte
longer : (pieces more : ℕ) (bytes taken : List ℕ) → pieces ≤ length bytes → (0 < more → (more ≡ 1) × (0 < length taken)) → pieces + more ≤ length (bytes ++ taken)
longer pieces zero bytes taken long some = let all = length-append bytes taken in omega (arith, long, all)
longer pieces (suc more) bytes taken long some = let all = length-append bytes taken in let both = some (omega arith) in omega (arith, long, all, both.0, both.1)

-- the next bytes
pub on-piece : {D : Type 0} (view : DiskView D) (form : Form) (first mid here : Opening D) (pieces more_pieces : ℕ) (before after : CallStream) (more : Bool) (remaining_old remaining_mid remaining_new old half new : Option (List ℕ))
    → LivesOn view form first mid pieces before remaining_old remaining_mid old half
    → ServesPiece view form mid here before after (Ok more) remaining_mid remaining_new half new
    → (0 < more_pieces → (more_pieces ≡ 1) × (is_last {E = ShellFault} (Ok more) ≡ false))
    → LivesOn view form first here (pieces + more_pieces) after remaining_old remaining_new old new
on-piece view form first mid here pieces more_pieces before after more remaining_old remaining_mid remaining_new old half new so_far piece counts =
    let next = piece.given so_far.bytes so_far.texts (calls_of so_far.events) so_far.taken in
    let all : piece.taken ++ piece.untaken ≡ piece.taken = ap (λ rest. piece.taken ++ rest) (piece.all_taken refl) ∙ append-nil piece.taken in
    record {
      bytes = so_far.bytes ++ piece.taken;
      long = longer pieces more_pieces so_far.bytes piece.taken so_far.long (λ some. let count = counts some in (count.0, piece.some count.1 refl));
      read = Consumes-trans remaining_old remaining_mid remaining_new so_far.bytes piece.taken so_far.read (subst (Consumes remaining_mid remaining_new) all piece.read);
      events = so_far.events ++ piece.events;
      happened = happen-append view first mid here so_far.events piece.events so_far.happened piece.happened;
      told = told-after None form so_far.events piece.events old half new so_far.told piece.told;
      texts = next.0;
      taken = subst (HasTaken after (so_far.bytes ++ piece.taken) next.0) (sym (calls-append so_far.events piece.events)) next.1;
    }

-- what nobody is told
pub on-silent : {D : Type 0} (view : DiskView D) (form : Form) (first mid here : Opening D) (pieces : ℕ) (stream : CallStream) (remaining_old remaining_new old new : Option (List ℕ))
    → LivesOn view form first mid pieces stream remaining_old remaining_new old new → IsSilent view mid here → LivesOn view form first here pieces stream remaining_old remaining_new old new
on-silent view form first mid here pieces stream remaining_old remaining_new old new so_far silent = record {
  bytes = so_far.bytes;
  read = so_far.read;
  long = so_far.long;
  events = so_far.events ++ silent.events;
  happened = happen-append view first mid here so_far.events silent.events so_far.happened silent.happened;
  told =
      let same : texts_of form so_far.events ≡ texts_of form (so_far.events ++ silent.events) =
      sym (texts-append form so_far.events silent.events ∙ ap (λ texts. texts_of form so_far.events ++ texts) (silent.no_texts form) ∙ append-nil (texts_of form so_far.events)) in
      subst (Appends old new) same so_far.told;
  texts = so_far.texts;
  taken =
      let same : calls_of so_far.events ≡ calls_of (so_far.events ++ silent.events) =
      sym (calls-append so_far.events silent.events ∙ ap (λ calls. calls_of so_far.events ++ calls) silent.no_calls ∙ append-nil (calls_of so_far.events)) in
      subst (HasTaken stream so_far.bytes so_far.texts) same so_far.taken;
}

-- what a stream has given are the calls of the first texts that its bytes close
abbrev pub AreGiven : Type 0
AreGiven = (stream : CallStream) (bytes : List ℕ) (texts : List CallText) (calls : List ScriptCall) → HasTaken stream bytes texts calls → HasGiven bytes texts calls

-- and stay so, whatever comes after them
abbrev pub StayGiven : Type 0
StayGiven = (bytes more : List ℕ) (texts : List CallText) (calls : List ScriptCall) → HasGiven bytes texts calls → HasGiven (bytes ++ more) texts calls

-- A life up to its end, by the fault.
pub record LivesTo {D : Type 0} (view : DiskView D) (form : Form) (first last : Opening D) (fault : Option ShellFault) (remaining_old remaining_new written_old written_new : Option (List ℕ)) : Type 0 where
  pub bytes : List ℕ
  pub read : Consumes remaining_old remaining_new bytes
  pub events : List Event
  pub happened : Happen view first events last
  pub made : AreMade fault bytes (calls_of events) remaining_new
  pub met : (why : StreamFault) → fault ≡ Some (Input why) → IsInputFault bytes (calls_of events) why remaining_new
  pub told : AreTold fault form events written_old written_new

-- The life ends with a fault between two calls;
pub lived-cut : {D : Type 0} (view : DiskView D) → AreGiven → (form : Form) (first here : Opening D) (pieces : ℕ) (stream : CallStream) (why : ShellFault) (remaining_old remaining_new old new : Option (List ℕ)) → Some why ≢ Some Write
    → (so_far : LivesOn view form first here pieces stream remaining_old remaining_new old new)
    → ((fault : StreamFault) → Some why ≡ Some (Input fault) → (fault ≡ TooLong) × (STREAM_BYTES < pieces))
    → LivesTo view form first here (Some why) remaining_old remaining_new old new
lived-cut view are_given form first here pieces stream why remaining_old remaining_new old new other so_far met = record {
  bytes = so_far.bytes;
  read = so_far.read;
  events = so_far.events;
  happened = so_far.happened;
  made = inl (so_far.texts, are_given stream so_far.bytes so_far.texts (calls_of so_far.events) so_far.taken);
  met = λ fault is. let many = met fault is in let long = so_far.long in inl (inr (many.0, inl (omega (arith, many.1, long))));
  told = told-whole (Some why) form so_far.events old new other so_far.told;
}

-- or with one of the next bytes, or of their calls;
pub lived-piece : {D : Type 0} (view : DiskView D) → AreGiven → StayGiven → (form : Form) (first mid here : Opening D) (pieces : ℕ) (before after : CallStream) (why : ShellFault) (remaining_old remaining_mid remaining_new old half new : Option (List ℕ))
    → LivesOn view form first mid pieces before remaining_old remaining_mid old half
    → ServesPiece view form mid here before after (Err why) remaining_mid remaining_new half new
    → LivesTo view form first here (Some why) remaining_old remaining_new old new
lived-piece view are_given stay form first mid here pieces before after why remaining_old remaining_mid remaining_new old half new so_far piece =
    let next = piece.given so_far.bytes so_far.texts (calls_of so_far.events) so_far.taken in
    let given = are_given after (so_far.bytes ++ piece.taken) next.0 (calls_of so_far.events ++ calls_of piece.events) next.1 in
    let events = so_far.events ++ piece.events in
    let bytes = so_far.bytes ++ (piece.taken ++ piece.untaken) in
    let here_given : HasGiven bytes next.0 (calls_of so_far.events ++ calls_of piece.events) =
    subst (λ all. HasGiven all next.0 (calls_of so_far.events ++ calls_of piece.events)) (append_assoc so_far.bytes piece.taken piece.untaken)
    (stay (so_far.bytes ++ piece.taken) piece.untaken next.0 (calls_of so_far.events ++ calls_of piece.events) given) in
    record {
      bytes = bytes;
      read = Consumes-trans remaining_old remaining_mid remaining_new so_far.bytes (piece.taken ++ piece.untaken) so_far.read piece.read;
      events = events;
      happened = happen-append view first mid here so_far.events piece.events so_far.happened piece.happened;
      made = inl (next.0, subst (HasGiven bytes next.0) (sym (calls-append so_far.events piece.events)) here_given);
      met = λ fault is. inl (subst (λ calls. IsMetSoFar bytes calls fault) (sym (calls-append so_far.events piece.events))
          (piece.met fault is so_far.bytes so_far.texts (calls_of so_far.events) so_far.taken));
      told = told-after (Some why) form so_far.events piece.events old half new so_far.told piece.told;
    }

-- or where the input does.
made-last : AreGiven → (fault : Option ShellFault) (stream : CallStream) (bytes : List ℕ) (texts : List CallText) (calls made unmade : List ScriptCall) (remaining : Option (List ℕ)) → IsAtEnd remaining
    → HasTaken stream bytes texts calls → (fault ≡ None → unmade ≡ []) → AreLast bytes calls made unmade fault → AreMade fault bytes (calls ++ made) remaining
made-last are_given None stream bytes texts calls made unmade remaining end taken whole (inl all) =
    (subst (λ last. HasWholeCalls bytes (calls ++ last)) (ap (λ rest. made ++ rest) (whole refl) ∙ append-nil made) all, end)
made-last are_given None stream bytes texts calls made unmade remaining end taken whole (inr cut) = absurd (cut.1 refl)
made-last are_given (Some why) stream bytes texts calls made unmade remaining end taken whole (inl all) =
    inr (unmade, subst (HasWholeCalls bytes) (sym (append_assoc calls made unmade)) all)
made-last are_given (Some why) stream bytes texts calls made unmade remaining end taken whole (inr cut) =
    inl (texts, subst (HasGiven bytes texts) (sym (ap (λ rest. calls ++ rest) cut.0 ∙ append-nil calls)) (are_given stream bytes texts calls taken))

pub lived-end : {D : Type 0} (view : DiskView D) → AreGiven → (form : Form) (first here last : Opening D) (pieces : ℕ) (stream : CallStream) (fault : Option ShellFault) (remaining_old remaining_new old half new : Option (List ℕ)) → IsAtEnd remaining_new
    → LivesOn view form first here pieces stream remaining_old remaining_new old half
    → ServesEnd view form here last stream fault half new
    → LivesTo view form first last fault remaining_old remaining_new old new
lived-end view are_given form first here last pieces stream fault remaining_old remaining_new old half new at_end so_far end = record {
  bytes = so_far.bytes;
  read = so_far.read;
  events = so_far.events ++ end.events;
  happened = happen-append view first here last so_far.events end.events so_far.happened end.happened;
  made = subst (λ calls. AreMade fault so_far.bytes calls remaining_new) (sym (calls-append so_far.events end.events))
      (made-last are_given fault stream so_far.bytes so_far.texts (calls_of so_far.events) (calls_of end.events) end.unmade remaining_new at_end so_far.taken end.whole
      (end.given so_far.bytes so_far.texts (calls_of so_far.events) so_far.taken));
  met = λ why is. inr (subst (λ calls. IsEndFault so_far.bytes calls why) (sym (calls-append so_far.events end.events)) (end.met why is so_far.bytes so_far.texts (calls_of so_far.events) so_far.taken), at_end);
  told = told-after fault form so_far.events end.events old half new so_far.told end.told;
}

-- a fault that stays as it was, or that of the disk in the place of none or of a refusal
abbrev pub IsClosed : Option ShellFault → Option ShellFault → Type 0
IsClosed fault told = (told ≡ fault) ⊎ ((told ≡ Some Disk) × ((fault ≡ None) ⊎ (fault ≡ Some Refused)))

-- a fault that isn't told wasn't met, unless it was a refusal
pub untold-unmet : {A : Type 0} (why other : ShellFault) (told : Option ShellFault) (result : Result A ShellFault) → IsClosed (Some why) told → other ≢ Refused → told ≢ Some other → result ≡ Err why → result ≢ Err other
untold-unmet why other told result (inl same) unrefused untold is met = untold cc
untold-unmet why other told result (inr (disk, inl none)) unrefused untold is met = let never : ⊥ = cc in never
untold-unmet why other told result (inr (disk, inr refused)) unrefused untold is met = unrefused cc

last-cut : (bytes : List ℕ) (calls made unmade : List ScriptCall) (fault : Option ShellFault) (why : ShellFault) → AreLast bytes calls made unmade fault → AreLast bytes calls made unmade (Some why)
last-cut bytes calls made unmade fault why (inl all) = inl all
last-cut bytes calls made unmade fault why (inr cut) = inr (cut.0, λ none. cc)

-- What the end of an input left is so with it.
pub end-closed : {D : Type 0} (view : DiskView D) (form : Form) (before after : Opening D) (stream : CallStream) (fault told : Option ShellFault) (old new : Option (List ℕ)) → IsClosed fault told
    → ServesEnd view form before after stream fault old new → ServesEnd view form before after stream told old new
end-closed view form before after stream fault told old new (inl same) end = subst (λ why. ServesEnd view form before after stream why old new) (sym same) end
end-closed view form before after stream fault told old new (inr (is, inl none)) end =
    let here = subst (λ why. ServesEnd view form before after stream why old new) none end in
    subst (λ why. ServesEnd view form before after stream why old new) (sym is)
    (record {
      events = here.events;
      happened = here.happened;
      told = here.told;
      unmade = here.unmade;
      whole = λ none. cc;
      given = λ bytes texts calls taken. last-cut bytes calls (calls_of here.events) here.unmade None Disk (here.given bytes texts calls taken);
      met = λ why is. cc;
    })
end-closed view form before after stream fault told old new (inr (is, inr refused)) end =
    let here = subst (λ why. ServesEnd view form before after stream why old new) refused end in
    subst (λ why. ServesEnd view form before after stream why old new) (sym is)
    (record {
      events = here.events;
      happened = here.happened;
      told = here.told;
      unmade = here.unmade;
      whole = λ none. cc;
      given = λ bytes texts calls taken. last-cut bytes calls (calls_of here.events) here.unmade (Some Refused) Disk (here.given bytes texts calls taken);
      met = λ why is. cc;
    })

-- and so is a life that ended with a fault.
pub lived-closed : {D : Type 0} (view : DiskView D) (form : Form) (first last : Opening D) (why : ShellFault) (told : Option ShellFault) (remaining_old remaining_new old new : Option (List ℕ)) → IsClosed (Some why) told
    → LivesTo view form first last (Some why) remaining_old remaining_new old new → LivesTo view form first last told remaining_old remaining_new old new
lived-closed view form first last why told remaining_old remaining_new old new (inl same) life = subst (λ fault. LivesTo view form first last fault remaining_old remaining_new old new) (sym same) life
lived-closed view form first last why told remaining_old remaining_new old new (inr (is, inl none)) life = cc
lived-closed view form first last why told remaining_old remaining_new old new (inr (is, inr refused)) life =
    let here = subst (λ fault. LivesTo view form first last fault remaining_old remaining_new old new) refused life in
    subst (λ fault. LivesTo view form first last fault remaining_old remaining_new old new) (sym is)
    (record { bytes = here.bytes; read = here.read; events = here.events; happened = here.happened; made = here.made; met = λ fault is. cc; told = here.told })

-- A life with its end.
pub lives-ended : {D : Type 0} (view : DiskView D) (form : Form) (first last : Opening D) (fault : Option ShellFault) (disk : D) (remaining_old remaining_new old new : Option (List ℕ))
    → LivesTo view form first last fault remaining_old remaining_new old new → IsEnded view last fault disk → Lives view form first fault disk remaining_old remaining_new old new
lives-ended view form first last fault disk remaining_old remaining_new old new life ended = record {
  bytes = life.bytes;
  read = life.read;
  events = life.events;
  last = last;
  happened = life.happened;
  made = life.made;
  met = life.met;
  told = life.told;
  ended = ended;
}

-- A shell was closed over an opening, as its book says.
pub closed-over : {D : Type 0} (book : Book) (last : Opening D) (told : Option ShellFault) (disk : D) → BookKeeps book last → (told ≡ Some Disk → book.failed ≡ true) → (IsCalm told → book.failed ≡ false)
    → ((area : Area) (offset : ℕ) → told ≢ Some (Damaged area offset)) → disk ≡ last.disk → IsClosedOver last told disk
closed-over book last told disk keeps failed calm undamaged same = record {
  disk = same;
  failed = λ is. keeps.failed (failed is);
  calm = λ is. keeps.whole (calm is);
  undamaged = undamaged;
}
