-- Calls that ask for texts, and more of them.
use Rattle.std.proofs.Common.{◌≡◌, ℕ, ◌+◌, ◌*◌, ◌%◌, List, [], ◌∷◌, ◌++◌, length, map, Bool, true, false, cond, filter, refl, ap, sym, subst, ◌∙◌, append_assoc, map-id}
use Rattle.std.specs.Prelude.{◌==◌, codes, if◌then◌else◌}
use Rattle.std.specs.List.{flat_map, range_with_len}
use Rattle.std.proofs.lemmas.Grind.{flat_map-append}
use Rattle.std.proofs.lemmas.List.{append-nil}
use Rattle.std.proofs.lemmas.List.Elements.{filter-append}
use Rattle.std.proofs.lemmas.List.FromFn.{map-range_with_len_more}
use Rattle.own_model.specs.declared.request.Request.{Request}
use Rattle.own_model.specs.declared.request.Request.TheVariants.{End}
use Rattle.own_model.specs.declared.script.ScriptCall.{ScriptCall}
use Rattle.script_model.specs.Asked.{IsRead}
use Rattle.script_model.specs.Numbered.{numbered_after}
use Rattle.made_model.specs.Made.{AreRead, IsMade}
use Rattle.made_model.specs.MadeTexts.{erased_people, erasure_texts, made_texts, note_text, schema_texts, transfer_texts, user_text}
use Rattle.made_script.specs.Asking.{AskFor, AskMore}
use Rattle.made_script.proofs.Numbering.{asking-more}

-- one text more asks for one request more
read-more : (texts : List (List ℕ)) (requests : List Request) (text : List ℕ) (request : Request) → AreRead texts requests → IsRead text request
    → AreRead (texts ++ text ∷ []) (requests ++ request ∷ [])
read-more [] [] text request read is = (is, tt)
read-more [] (other ∷ requests) text request read is = absurd read
read-more (first ∷ texts) [] text request read is = absurd read
read-more (first ∷ texts) (other ∷ requests) text request read is = (read.0, read-more texts requests text request read.1 is)

-- a call more asks for a text more
pub more-asked : (old new : List ScriptCall) (text : List ℕ) (request : Request) → IsRead text request
    → new ≡ old ++ record { session = record { 0 = 1 }; call = length old + 1; request = request } ∷ [] → AskMore old (text ∷ []) new
more-asked old new text request is put = record {
  behind = λ before asked. record {
    requests = asked.requests ++ request ∷ [];
    read = read-more before asked.requests text request asked.read is;
    calls_are = put ∙ asking-more old asked.requests request asked.calls_are;
  };
}

pub more-none : (calls : List ScriptCall) → AskMore calls [] calls
more-none calls = record {
  behind = λ before asked. subst (λ (texts : List (List ℕ)). AskFor texts calls) (sym (append-nil before)) asked;
}

-- texts and then others
pub more-both : {old mid new : List ScriptCall} {texts others : List (List ℕ)} → AskMore old texts mid → AskMore mid others new → AskMore old (texts ++ others) new
more-both {new = new} {texts = texts} {others = others} first second = record {
  behind = λ before asked. subst (λ (texts : List (List ℕ)). AskFor texts new) (append_assoc before texts others) (second.behind (before ++ texts) (first.behind before asked));
}

-- the text of a number more
pub more-mapped : (f : ℕ → List ℕ) (first count number : ℕ) {old mid new : List ScriptCall} → first + count ≡ number
    → AskMore old (map f (range_with_len first count)) mid → AskMore mid (f number ∷ []) new → AskMore old (map f (range_with_len first (count + 1))) new
more-mapped f first count number {old = old} {new = new} is before here =
    subst (λ (texts : List (List ℕ)). AskMore old texts new) (sym (map-range_with_len_more f first count number is)) (more-both before here)

-- a number more
range-more : (first count number : ℕ) → first + count ≡ number → range_with_len first (count + 1) ≡ range_with_len first count ++ number ∷ []
range-more first count number is =
    sym (map-id (range_with_len first (count + 1))) ∙ map-range_with_len_more (λ (n : ℕ). n) first count number is ∙ ap (λ (ns : List ℕ). ns ++ number ∷ []) (map-id (range_with_len first count))

-- the texts of a number more
pub more-listed : (f : ℕ → List (List ℕ)) (first count number : ℕ) {old mid new : List ScriptCall} → first + count ≡ number
    → AskMore old (flat_map f (range_with_len first count)) mid → AskMore mid (f number) new → AskMore old (flat_map f (range_with_len first (count + 1))) new
more-listed f first count number {old = old} {new = new} is before here =
    let listed : flat_map f (range_with_len first (count + 1)) ≡ flat_map f (range_with_len first count) ++ f number =
    ap (λ (ns : List ℕ). flat_map f ns) (range-more first count number is) ∙ flat_map-append f (range_with_len first count) (number ∷ []) ∙ ap (λ (texts : List (List ℕ)). flat_map f (range_with_len first count) ++ texts) (append-nil (f number)) in
    subst (λ (texts : List (List ℕ)). AskMore old texts new) (sym listed) (more-both before here)

-- the texts of one number, if there is one
one-erased : (number : ℕ) (b : Bool) → flat_map erasure_texts (cond b (number ∷ []) []) ≡ (if b then erasure_texts number else [])
one-erased number true = append-nil (erasure_texts number)
one-erased number false = refl

-- those of a number more, where it is one of every fourth
pub more-erased : (count number : ℕ) {old mid new : List ScriptCall} → 1 + count ≡ number → AskMore old (flat_map erasure_texts (erased_people count)) mid
    → AskMore mid (if number % 4 == 1 then erasure_texts number else []) new → AskMore old (flat_map erasure_texts (erased_people (count + 1))) new
more-erased count number {old = old} {new = new} is before here =
    let test = λ (number : ℕ). number % 4 == 1 in
    let kept : erased_people (count + 1) ≡ erased_people count ++ filter test (number ∷ []) =
    ap (λ (ns : List ℕ). filter test ns) (range-more 1 count number is) ∙ filter-append test (range_with_len 1 count) (number ∷ []) in
    let listed : flat_map erasure_texts (erased_people (count + 1)) ≡ flat_map erasure_texts (erased_people count) ++ (if number % 4 == 1 then erasure_texts number else []) =
    ap (λ (ns : List ℕ). flat_map erasure_texts ns) kept ∙ flat_map-append erasure_texts (erased_people count) (filter test (number ∷ []))
    ∙ ap (λ (texts : List (List ℕ)). flat_map erasure_texts (erased_people count) ++ texts) (one-erased number (number % 4 == 1)) in
    subst (λ (texts : List (List ℕ)). AskMore old texts new) (sym listed) (more-both before here)

-- calls that ask for nothing
ask-nothing : AskFor [] []
unfolding numbered_after
ask-nothing = record { requests = []; read = tt; calls_are = refl }

-- the parts of a large script, one behind the other
all-asked : (people seed : ℕ) {tables users notes moves gone all : List ScriptCall} → AskMore [] schema_texts tables
    → AskMore tables (map user_text (range_with_len 1 people)) users → AskMore users (map (note_text people seed) (range_with_len 0 people)) notes
    → AskMore notes (flat_map (λ before. transfer_texts people seed (3 * people + 3 * before)) (range_with_len 0 people)) moves
    → AskMore moves (flat_map erasure_texts (erased_people people)) gone → AskMore gone (codes "SELECT * FROM held" ∷ []) all → AskMore [] (made_texts people seed) all
all-asked people seed first second third fourth fifth last = more-both (more-both (more-both (more-both (more-both first second) third) fourth) fifth) last

-- the calls of a large script, and its End
pub made : (people seed noted_seed moved_seed : ℕ) {old tables users notes moves gone all new : List ScriptCall} → old ≡ [] → noted_seed ≡ seed → moved_seed ≡ noted_seed
    → AskMore old schema_texts tables
    → AskMore tables (map user_text (range_with_len 1 people)) users → AskMore users (map (note_text people noted_seed) (range_with_len 0 people)) notes
    → AskMore notes (flat_map (λ before. transfer_texts people moved_seed (3 * people + 3 * before)) (range_with_len 0 people)) moves
    → AskMore moves (flat_map erasure_texts (erased_people people)) gone → AskMore gone (codes "SELECT * FROM held" ∷ []) all
    → new ≡ all ++ record { session = record { 0 = 1 }; call = length all + 1; request = End } ∷ [] → IsMade people seed new
made people seed noted_seed moved_seed {tables = tables} {users = users} {notes = notes} {moves = moves} {all = all} none is same first second third fourth fifth last put =
    let notes_asked = subst (λ (seed : ℕ). AskMore users (map (note_text people seed) (range_with_len 0 people)) notes) is third in
    let moves_asked = subst (λ (seed : ℕ). AskMore notes (flat_map (λ before. transfer_texts people seed (3 * people + 3 * before)) (range_with_len 0 people)) moves) (same ∙ is) fourth in
    let tables_asked = subst (λ (old : List ScriptCall). AskMore old schema_texts tables) none first in
    let asked = (all-asked people seed tables_asked second notes_asked moves_asked fifth last).behind [] ask-nothing in
    record {
      requests = asked.requests;
      read = asked.read;
      calls_are = put ∙ asking-more all asked.requests End asked.calls_are;
    }
