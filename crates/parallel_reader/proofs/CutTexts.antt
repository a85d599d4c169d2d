-- The texts of parts, cut one after another.
use Rattle.std.proofs.Common.{◌≡◌, ◌<◌, ◌≤◌, ◌+◌, ℕ, Bool, List, [], ◌∷◌, ◌++◌, length, Some, refl, sym, ap, ◌∙◌, subst, arith, append_assoc}
use Rattle.std.specs.Prelude.{if◌then◌else◌}
use Rattle.std.proofs.lemmas.Bool.{lt-ltb}
use Rattle.std.proofs.lemmas.List.{append-nil, length-append}
use Rattle.own_model.specs.declared.limit.TheConstants.{INPUT_BYTES, INPUT_CALLS, SESSIONS}
use Rattle.own_model.specs.declared.script.InputFault.{InputFault}
use Rattle.own_model.specs.declared.script.InputFault.TheVariants.{TooManyCalls}
use Rattle.script_model.specs.CallText.{CallText, Part, Call}
use Rattle.script_model.specs.Script.{faults_after, first_of, texts_in, too_many}
use Rattle.script_model.proofs.InputCalls.{texts-append}
use Rattle.sql_reader.specs.scripts.Stretches.{call_with}
use Rattle.sql_reader.proofs.Scripts.Numbering.{faults_after-append}
use Rattle.parallel_reader.specs.declared.unread.Unread.{Unread}
use Rattle.parallel_reader.specs.Cut.{AreCut, Cuts}

cut-append : (texts more : List CallText) (unread others : List Unread) → AreCut texts unread → AreCut more others → AreCut (texts ++ more) (unread ++ others)
cut-append [] more [] others cut also = also
cut-append [] more (one ∷ unread) others cut also = absurd cut
cut-append (text ∷ texts) more [] others cut also = absurd cut
cut-append (text ∷ texts) more (one ∷ unread) others (here, cut) also = (here, cut-append texts more unread others cut also)

cut-length : (texts : List CallText) (unread : List Unread) → AreCut texts unread → length unread ≡ length texts
cut-length [] [] cut = refl
cut-length [] (one ∷ unread) cut = absurd cut
cut-length (text ∷ texts) [] cut = absurd cut
cut-length (text ∷ texts) (one ∷ unread) (here, cut) = omega (arith, cut-length texts unread cut)

faults-none : (count : ℕ) → faults_after count [] ≡ []
unfolding faults_after
faults-none count = refl

faults-call : (count : ℕ) (text : CallText) → faults_after count (Call text ∷ []) ≡ too_many count text ++ faults_after (count + 1) []
unfolding faults_after
faults-call count text = refl

-- each text adds one
Cuts-length : (before : List Unread) (parts : List Part) (after : List Unread) → Cuts before parts after → length after ≡ length before + length (texts_in parts)
Cuts-length before parts after cuts = omega (arith, ap length cuts.added, length-append before cuts.more, cut-length (texts_in parts) cuts.more cuts.cut)

-- no parts
pub Cuts-none : (before : List Unread) → Cuts before [] before
Cuts-none before = record { more = []; cut = tt; right = faults-none (length before); added = sym (append-nil before) }

-- parts after parts
pub Cuts-append : (before : List Unread) (parts : List Part) (middle : List Unread) (more : List Part) (after : List Unread) → Cuts before parts middle → Cuts middle more after → Cuts before (parts ++ more) after
Cuts-append before parts middle more after one other =
    record {
      more = one.more ++ other.more;
      cut = subst (λ l. AreCut l (one.more ++ other.more)) (sym (texts-append parts more)) (cut-append (texts_in parts) (texts_in more) one.more other.more one.cut other.cut);
      right = faults_after-append (length before) parts more ∙ (λ i. one.right i ++ faults_after (sym (Cuts-length before parts middle one) i) more) ∙ other.right;
      added = other.added ∙ ap (λ l. l ++ other.more) one.added ∙ append_assoc before one.more other.more;
    }

-- a fault of parts behind others with which nothing is wrong is one of all
pub Cuts-later : (before : List Unread) (parts : List Part) (after : List Unread) (more : List Part) (fault : InputFault) → Cuts before parts after → first_of (faults_after (length after) more) ≡ Some fault
    → first_of (faults_after (length before) (parts ++ more)) ≡ Some fault
Cuts-later before parts after more fault cuts is =
    ap first_of (faults_after-append (length before) parts more ∙ (λ i. cuts.right i ++ faults_after (sym (Cuts-length before parts after cuts) i) more)) ∙ is

-- the text of a call
pub Cuts-call : (before after : List Unread) (next : Unread) (session at : ℕ) (closed : Bool) (bytes : List ℕ) → 0 < length bytes → length bytes ≤ INPUT_BYTES → length before < INPUT_CALLS → 1 ≤ session → session ≤ SESSIONS
    → session ≡ next.session.0 → bytes ≡ next.text.now → closed ≡ next.closed → after ≡ before ++ next ∷ [] → Cuts before (call_with session at closed bytes) after
Cuts-call before after next session at closed [] some short few first last own same is added = absurd (omega arith)
Cuts-call before after next session at closed (byte ∷ bytes) some short few first last own same is added =
    let text : CallText = record { session = session; at = at; bytes = byte ∷ bytes; closed = closed } in
    record {
      more = next ∷ [];
      cut = (record { session = own; some = subst (λ n. 1 ≤ n) own first; within = subst (λ n. n ≤ SESSIONS) own last; bytes = same; short = subst (λ l. length l ≤ INPUT_BYTES) same short; closed = is }, tt);
      right = faults-call (length before) text ∙ (λ i. (if lt-ltb (length before) INPUT_CALLS few i then [] else TooManyCalls at ∷ []) ++ faults-none (length before + 1) i);
      added = added;
    }
