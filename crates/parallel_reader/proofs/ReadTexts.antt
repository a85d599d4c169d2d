-- Texts that are read, and what they ask for.
use Rattle.std.proofs.Common.{◌≡◌, ◌<◌, ◌≤◌, ℕ, suc, List, [], ◌∷◌, ◌++◌, length, map, get_or, refl, sym, ap, ◌∙◌, subst, arith, append_assoc}
use Rattle.std.specs.Prelude.{IfSome, nat_lt}
use Rattle.std.specs.List.{AllByRecursion}
use Rattle.std.proofs.lemmas.List.{append-nil, length-append}
use Rattle.own_base.specs.declared.number.SessionNo.{SessionNo}
use Rattle.own_model.specs.declared.limit.TheConstants.{SESSIONS, STATEMENT_BYTES}
use Rattle.own_model.specs.declared.request.Request.{Request}
use Rattle.own_model.specs.declared.script.ScriptCall.{ScriptCall}
use Rattle.script_model.specs.Asked.{AreAskedBy, IsAskedWhere}
use Rattle.script_model.specs.CallText.{CallText}
use Rattle.script_model.specs.Numbered.{calls_of}
use Rattle.script_model.specs.Script.{HasCalls, IsText, askings_of, first_of, parts_of, texts_in}
use Rattle.sql_reader.specs.scripts.Counts.{asking, asking_of, IsOfOne as IsOfSession}
use Rattle.sql_reader.specs.scripts.TextCalls.{TakesText}
use Rattle.parallel_reader.specs.declared.unread.Unread.{Unread}
use Rattle.parallel_reader.specs.Cut.{AreCut, Cuts}
use Rattle.parallel_reader.specs.Read.{AreAsked, AreReadFrom, IsAsked, IsOfOne, IsReadFrom, IsShort, NumbersTexts}

-- what is so of each text, by its place, is so of all
pub read-from_places : (unread read : List Unread) → length read ≡ length unread → ((i : ℕ) (d : Unread) → i < length unread → IsReadFrom (get_or unread i d) (get_or read i d)) → AreReadFrom unread read
read-from_places [] [] same each = tt
read-from_places [] (new ∷ read) same each = absurd (omega arith)
read-from_places (old ∷ unread) [] same each = absurd (omega arith)
read-from_places (old ∷ unread) (new ∷ read) same each = (each 0 old (omega arith), read-from_places unread read (omega arith) (λ i d inside. each (suc i) d (omega arith)))

-- texts that were cut are short, and of one of the sessions
pub cut-short : (texts : List CallText) (unread : List Unread) → AreCut texts unread → AllByRecursion IsShort unread
cut-short [] [] cut = tt
cut-short [] (one ∷ unread) cut = absurd cut
cut-short (text ∷ texts) [] cut = absurd cut
cut-short (text ∷ texts) (one ∷ unread) (here, cut) = ((let small = here.short in omega arith), cut-short texts unread cut)

pub read-sessions : (texts : List CallText) (unread read : List Unread) → AreCut texts unread → AreReadFrom unread read → AllByRecursion IsOfOne read
read-sessions [] [] [] cut from = tt
read-sessions [] [] (new ∷ read) cut from = absurd from
read-sessions [] (one ∷ unread) read cut from = absurd cut
read-sessions (text ∷ texts) [] read cut from = absurd cut
read-sessions (text ∷ texts) (one ∷ unread) [] cut from = absurd from
read-sessions (text ∷ texts) (one ∷ unread) (new ∷ read) (here, cut) (there, from) =
    (subst (λ session. (1 ≤ session.0) × (session.0 ≤ SESSIONS)) (sym there.session) (here.some, here.within), read-sessions texts unread read cut from)

pub read-length : (unread read : List Unread) → AreReadFrom unread read → length read ≡ length unread
read-length [] [] from = refl
read-length [] (new ∷ read) from = absurd from
read-length (old ∷ unread) [] from = absurd from
read-length (old ∷ unread) (new ∷ read) (here, from) = omega (arith, read-length unread read from)

-- one more is asked
pub asked-more : (read more : List Unread) (asked others : List (SessionNo × Request)) → AreAsked read asked → AreAsked more others → AreAsked (read ++ more) (asked ++ others)
asked-more [] more [] others are also = also
asked-more [] more (one ∷ asked) others are also = absurd are
asked-more (one ∷ read) more [] others are also = absurd are
asked-more (one ∷ read) more (next ∷ asked) others (here, are) also = (here, asked-more read more asked others are also)

pub asked-length : (read : List Unread) (asked : List (SessionNo × Request)) → AreAsked read asked → length asked ≡ length read
asked-length [] [] are = refl
asked-length [] (next ∷ asked) are = absurd are
asked-length (one ∷ read) [] are = absurd are
asked-length (one ∷ read) (next ∷ asked) (here, are) = omega (arith, asked-length read asked are)

pub asked-sessions : (read : List Unread) (asked : List (SessionNo × Request)) → AllByRecursion IsOfOne read → AreAsked read asked → AllByRecursion IsOfSession asked
asked-sessions [] [] own are = tt
asked-sessions [] (next ∷ asked) own are = absurd are
asked-sessions (one ∷ read) [] own are = absurd are
asked-sessions (one ∷ read) (next ∷ asked) (first, own) (here, are) = (subst (λ session. (1 ≤ session.0) × (session.0 ≤ SESSIONS)) (sym here.0) first, asked-sessions read asked own are)

abbrev requests : List (SessionNo × Request) → List Request
requests asked = map (λ one. one.1) asked

-- what texts were read as is what they ask for, and who asks
asked_by : (texts : List CallText) (unread read : List Unread) (asked : List (SessionNo × Request)) → AreCut texts unread → AreReadFrom unread read → AreAsked read asked
    → AreAskedBy texts (requests asked) × (askings_of texts (requests asked) ≡ map asking_of asked)
asked_by [] [] [] [] cut from are = (tt, refl)
asked_by [] [] [] (next ∷ asked) cut from are = absurd are
asked_by [] [] (new ∷ read) asked cut from are = absurd from
asked_by [] (old ∷ unread) read asked cut from are = absurd cut
asked_by (text ∷ texts) [] read asked cut from are = absurd cut
asked_by (text ∷ texts) (old ∷ unread) [] asked cut from are = absurd from
asked_by (text ∷ texts) (old ∷ unread) (new ∷ read) [] cut from are = absurd are
asked_by (text ∷ texts) (old ∷ unread) (new ∷ read) (next ∷ asked) (here, cut) (there, from) (this, are) =
    let more = asked_by texts unread read asked cut from are in
    let asks : IsAskedWhere old.closed (nat_lt STATEMENT_BYTES (length old.text.now)) old.text.now next.1 =
    subst (λ found. IfSome found (λ request. IsAskedWhere old.closed (nat_lt STATEMENT_BYTES (length old.text.now)) old.text.now request)) this.1 there.asks in
    let closed : IsAskedWhere text.closed (nat_lt STATEMENT_BYTES (length old.text.now)) old.text.now next.1 =
    subst (λ b. IsAskedWhere b (nat_lt STATEMENT_BYTES (length old.text.now)) old.text.now next.1) (sym here.closed) asks in
    let own : text.session ≡ next.0.0 = here.session ∙ ap (λ session. session.0) (sym there.session ∙ sym this.0) in (
      (subst (λ bytes. IsAskedWhere text.closed (nat_lt STATEMENT_BYTES (length bytes)) bytes next.1) (sym here.bytes) closed, more.0),
      (λ i. asking (own i) next.1 ∷ more.1 i),
    )

-- the calls are the input's
pub numbered-calls : (bytes : List ℕ) (unread read : List Unread) (calls : List ScriptCall) → IsText bytes → TakesText Cuts bytes unread → AreReadFrom unread read → NumbersTexts read calls → HasCalls bytes calls
numbered-calls bytes unread read calls text has from numbers =
    let cut : AreCut (texts_in (parts_of has.pieces)) unread = subst (AreCut (texts_in (parts_of has.pieces))) (sym has.takes.added) has.takes.cut in
    let all = asked_by (texts_in (parts_of has.pieces)) unread read numbers.asked cut from numbers.are_asked in
    record {
      parts = parts_of has.pieces;
      lawful = record { text = text; pieces = has.pieces; are_pieces = has.are; parts_are = refl; fault_is = sym (ap first_of has.takes.right) };
      requests = requests numbers.asked;
      asked = all.0;
      calls_are = numbers.numbered ∙ ap calls_of (sym all.1);
    }

-- what was cut can be read, and what was read can be numbered
pub cut-texts : (bytes : List ℕ) (unread : List Unread) (has : TakesText Cuts bytes unread) → AreCut (texts_in (parts_of has.pieces)) unread
cut-texts bytes unread has = subst (AreCut (texts_in (parts_of has.pieces))) (sym has.takes.added) has.takes.cut

-- The first of what was read is asked for.
pub record AskedTo (read asked_of rest : List Unread) (asked : List (SessionNo × Request)) : Type 0 where
  pub split : read ≡ asked_of ++ rest
  pub are : AreAsked asked_of asked

pub AskedTo-start : (read : List Unread) → AskedTo read [] read []
AskedTo-start read = record { split = refl; are = tt }

pub AskedTo-more : (read asked_of rest more : List Unread) (asked after : List (SessionNo × Request)) (one : Unread) (next : SessionNo × Request) → AskedTo read asked_of rest asked → rest ≡ one ∷ more → IsAsked one next
    → after ≡ asked ++ next ∷ [] → AskedTo read (asked_of ++ one ∷ []) more after
AskedTo-more read asked_of rest more asked after one next so_far is asks added =
    record {
      split = so_far.split ∙ ap (λ l. asked_of ++ l) is ∙ sym (append_assoc asked_of (one ∷ []) more);
      are = subst (AreAsked (asked_of ++ one ∷ [])) (sym added) (asked-more asked_of (one ∷ []) asked (next ∷ []) so_far.are (asks, tt));
    }

-- there is room for the next
pub AskedTo-room : (read asked_of rest more : List Unread) (asked : List (SessionNo × Request)) (one : Unread) → AskedTo read asked_of rest asked → rest ≡ one ∷ more → length asked < length read
AskedTo-room read asked_of rest more asked one so_far is =
    omega (arith, ap length (so_far.split ∙ ap (λ l. asked_of ++ l) is), length-append asked_of (one ∷ more), asked-length asked_of asked so_far.are)

pub AskedTo-all : (read asked_of rest : List Unread) (asked : List (SessionNo × Request)) → AskedTo read asked_of rest asked → rest ≡ [] → AreAsked read asked
AskedTo-all read asked_of rest asked so_far none = subst (λ l. AreAsked l asked) (sym (so_far.split ∙ ap (λ l. asked_of ++ l) none ∙ append-nil asked_of)) so_far.are
