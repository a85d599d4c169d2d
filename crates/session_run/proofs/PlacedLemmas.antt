-- Where the entries of a session's calls stand in a history that has no other of the session.
use Rattle.std.proofs.Common.{◌≡◌, ◌≢◌, ℕ, zero, suc, ◌+◌, List, [], ◌∷◌, ◌++◌, length, length-append, map, refl, ap, sym, subst, ◌∙◌, arith, inl, inr, append_assoc, append-nil, rules}
use Rattle.std.proofs.lemmas.Bool.{eqb-true}
use Rattle.std.specs.Prelude.{◌⊎◌, Bool, true, false, ◌==◌, Option, None, Some, slice_get, filter, filter_map, flat_map, fold}
use Rattle.own_model.specs.declared.history.Entry.{Entry}
use Rattle.own_model.specs.declared.script.ScriptCall.{ScriptCall}
use Rattle.schema_model.proofs.Places.{slice_get-append_after}
use Rattle.history_model.specs.History.{History}
use Rattle.history_model.specs.Made.{Called, Want, Spared, Unshown, Unmade, added, after_call, entry_of, made, place_by}
use Rattle.turn_model.specs.Places.{places_from}
use Rattle.transcript_model.specs.Printed.{is_of, place_from, place_of}
use Rattle.transcript_model.specs.Together.{is_entry_of}
use Rattle.session_run.specs.Sessions.{IsElsewhere, Pairwise, StandOnce}

-- what a call added to its history
abbrev pub added_of : Called → History
added_of called = added (entry_of called.call called.verdict) called.want

-- the entries at some places
abbrev pub entries_at : History → List ℕ → History
entries_at history places = filter_map (slice_get history) places

-- A call of a session was made, and its entry stands at its place; or it wasn't made, and has none.
pub record StandsAt (history : History) (session : ℕ) (called : Called) (place : Option ℕ) : Type 0 where
  pub own : called.call.session.0 ≡ session
  pub at : ℕ
  pub place_is : place ≡ place_by called.want at
  pub stands : called.want ≢ Unmade → slice_get history at ≡ Some (entry_of called.call called.verdict)

-- the two cases of it
abbrev StandsSo : History → Called → Option ℕ → Type 0
StandsSo history called place =
    ((place ≡ None) × (added_of called ≡ []))
    ⊎ ((at : ℕ) × (place ≡ Some at) × (slice_get history at ≡ Some (entry_of called.call called.verdict)) × (added_of called ≡ entry_of called.call called.verdict ∷ []))

so_by : (history : History) (session : ℕ) (called : Called) (place : Option ℕ) → StandsAt history session called place → (want : Want) → called.want ≡ want → StandsSo history called place
so_by history session called place is Spared want =
    inr (is.at, is.place_is ∙ ap (λ want. place_by want is.at) want, is.stands (λ unmade. cc), ap (added (entry_of called.call called.verdict)) want)
so_by history session called place is Unshown want =
    inr (is.at, is.place_is ∙ ap (λ want. place_by want is.at) want, is.stands (λ unmade. cc), ap (added (entry_of called.call called.verdict)) want)
so_by history session called place is Unmade want =
    inl (is.place_is ∙ ap (λ want. place_by want is.at) want, ap (added (entry_of called.call called.verdict)) want)

stands_so : (history : History) (session : ℕ) (called : Called) (place : Option ℕ) → StandsAt history session called place → StandsSo history called place
stands_so history session called place is = so_by history session called place is called.want refl

made_from : (before : History) (calls : List Called) → fold after_call before calls ≡ before ++ flat_map added_of calls
made_from before [] = sym (append-nil before)
made_from before (called ∷ calls) = made_from (before ++ added_of called) calls ∙ append_assoc before (added_of called) (flat_map added_of calls)

-- the history that calls make is what each of them added
pub made-added : (calls : List Called) → made calls ≡ flat_map added_of calls
unfolding made
made-added calls = made_from [] calls

entries_step : (session : ℕ) (before : History) (entry : Entry) (history : History)
    → filter_map (slice_get ((before ++ entry ∷ []) ++ history)) (places_from (length (before ++ entry ∷ [])) session history) ≡ filter (is_entry_of session) history
    → filter_map (slice_get (before ++ entry ∷ history)) (places_from (length before) session (entry ∷ history)) ≡ filter (is_entry_of session) (entry ∷ history)
unfolding places_from
entries_step session before entry history later = by (entry.session.0 == session) refl
  where
    longer : length (before ++ entry ∷ []) ≡ length before + 1
    longer = grind (arith, length-append before (entry ∷ []))

    at : slice_get (before ++ entry ∷ history) (length before) ≡ Some entry
    at = subst (λ n. slice_get (before ++ entry ∷ history) n ≡ Some entry) (omega arith) (slice_get-append_after before (entry ∷ history) 0 entry refl)

    rest : filter_map (slice_get (before ++ entry ∷ history)) (places_from (length before + 1) session history) ≡ filter (is_entry_of session) history
    rest = subst (λ n. filter_map (slice_get (before ++ entry ∷ history)) (places_from n session history) ≡ filter (is_entry_of session) history) longer
        (subst (λ all. filter_map (slice_get all) (places_from (length (before ++ entry ∷ [])) session history) ≡ filter (is_entry_of session) history) (append_assoc before (entry ∷ []) history) later)

    by : (b : Bool) → (entry.session.0 == session) ≡ b
        → filter_map (slice_get (before ++ entry ∷ history)) (places_from (length before) session (entry ∷ history)) ≡ filter (is_entry_of session) (entry ∷ history)
    by true is = rw (is, at) (ap (λ l. entry ∷ l) rest)
    by false is = rw is rest

entries_from : (session : ℕ) (before history : History) → filter_map (slice_get (before ++ history)) (places_from (length before) session history) ≡ filter (is_entry_of session) history
unfolding places_from
entries_from session before [] = refl
entries_from session before (entry ∷ history) = entries_step session before entry history (entries_from session (before ++ entry ∷ []) history)

-- the entries of a session are those at its places
pub entries-own : (session : ℕ) (history : History) → entries_at history (places_from 0 session history) ≡ filter (is_entry_of session) history
entries-own session history = entries_from session [] history

-- a number is one of these
abbrev pub IsAmong : ℕ → List ℕ → Type 0
IsAmong number [] = ⊥
IsAmong number (first ∷ numbers) = (number ≡ first) ⊎ IsAmong number numbers

among_from : (from session : ℕ) (history : History) (place : ℕ) (entry : Entry) → slice_get history place ≡ Some entry → entry.session.0 ≡ session
    → IsAmong (from + place) (places_from from session history)
unfolding places_from
among_from from session [] place entry is own = let never : ⊥ = cc in absurd never
among_from from session (first ∷ history) zero entry is own =
    let same : first ≡ entry = cc in
    let test : (first.session.0 == session) ≡ true = grind arith in
    rw test (inl (omega arith))
among_from from session (first ∷ history) (suc place) entry is own =
    by (subst (λ n. IsAmong n (places_from (from + 1) session history)) (omega arith) (among_from (from + 1) session history place entry is own)) (first.session.0 == session) refl
  where
    by : IsAmong (from + suc place) (places_from (from + 1) session history) → (b : Bool) → (first.session.0 == session) ≡ b
        → IsAmong (from + suc place) (places_from from session (first ∷ history))
    by later true test = rw test (inr later)
    by later false test = rw test later

-- an entry of a session that stands in a history
pub record Found (history : History) (session : ℕ) : Type 0 where
  pub place : ℕ
  pub entry : Entry
  pub at : slice_get history place ≡ Some entry
  pub own : entry.session.0 ≡ session

-- its place is one of the session's
pub found-among : (history : History) (session : ℕ) (found : Found history session) → IsAmong found.place (places_from 0 session history)
found-among history session found =
    subst (λ n. IsAmong n (places_from 0 session history)) (omega arith) (among_from 0 session history found.place found.entry found.at found.own)

-- no entry is of a call, and it has no place; or it has that of one that is
abbrev PlacedFrom : ℕ → ScriptCall → History → Type 0
PlacedFrom from call history =
    ((place_from from call history ≡ None) × ((place : ℕ) (entry : Entry) → slice_get history place ≡ Some entry → is_of call entry ≡ false))
    ⊎ ((place : ℕ) × (entry : Entry) × (place_from from call history ≡ Some (from + place)) × (slice_get history place ≡ Some entry) × (is_of call entry ≡ true))

placed_from : (from : ℕ) (call : ScriptCall) (history : History) → PlacedFrom from call history
unfolding place_from
placed_from from call [] = inl (refl, λ place entry is. let never : ⊥ = cc in absurd never)
placed_from from call (first ∷ history) = by (placed_from (from + 1) call history) (is_of call first) refl
  where
    none : (is_of call first ≡ false) → ((place : ℕ) (entry : Entry) → slice_get history place ≡ Some entry → is_of call entry ≡ false)
        → (place : ℕ) (entry : Entry) → slice_get (first ∷ history) place ≡ Some entry → is_of call entry ≡ false
    none test later zero entry is = let same : first ≡ entry = cc in rw (← same) test
    none test later (suc place) entry is = later place entry is

    by : PlacedFrom (from + 1) call history → (b : Bool) → is_of call first ≡ b → PlacedFrom from call (first ∷ history)
    by later true test = inr (0, first, rw test (ap (λ n. Some n) (omega arith)), refl, test)
    by (inl absent) false test = inl (rw test absent.0, none test absent.1)
    by (inr there) false test = inr (suc there.0, there.1, rw test (there.2 ∙ ap (λ n. Some n) (omega arith)), there.3, there.4)

-- what an entry is of
of_parts : (call : ScriptCall) (entry : Entry) → is_of call entry ≡ true → (entry.session.0 ≡ call.session.0) × (call.call ≡ entry.call)
of_parts call entry is = by (entry.session.0 == call.session.0) refl
  where
    by : (b : Bool) → (entry.session.0 == call.session.0) ≡ b → (entry.session.0 ≡ call.session.0) × (call.call ≡ entry.call)
    by true own = let number : (entry.call == call.call) ≡ true = rw own at is in (eqb-true _ _ own, sym (eqb-true _ _ number))
    by false own = let never : ⊥ = (let wrong : false ≡ true = rw own at is in cc) in absurd never

-- A call has its own place in a history, where each entry of its session that has its number is at that place.
pub place-own : (history : History) (session : ℕ) (called : Called) (place : Option ℕ) → StandsAt history session called place
    → ((found : Found history session) → called.call.call ≡ found.entry.call → place ≡ Some found.place) → place_of history called.call ≡ place
place-own history session called place is alone = by (placed_from 0 called.call history) (stands_so history session called place is)
  where
    by : PlacedFrom 0 called.call history → StandsSo history called place → place_of history called.call ≡ place
    by (inr there) so =
        let parts = of_parts called.call there.1 there.4 in
        there.2 ∙ sym (alone (record { place = there.0; entry = there.1; at = there.3; own = parts.0 ∙ is.own }) parts.1 ∙ ap (λ n. Some n) (omega arith))
    by (inl absent) (inl none) = absent.0 ∙ sym none.0
    by (inl absent) (inr at) = let never : ⊥ = (let other = absent.1 at.0 _ at.2 in let own : is_of called.call (entry_of called.call called.verdict) ≡ true = search rules in cc) in absurd never

-- what is so of two lists for each of these is so for each one by one
pairs_under : {I X Y : Type 0} (R : I → X → Y → Type 0) (M : X → Y → Type 0) (xs : List X) (ys : List Y) → Pairwise M xs ys → ((i : I) → Pairwise (R i) xs ys)
    → Pairwise (λ x y. (i : I) → R i x y) xs ys
pairs_under R M [] [] are each = tt
pairs_under R M [] (y ∷ ys) are each = absurd are
pairs_under R M (x ∷ xs) [] are each = absurd are
pairs_under R M (x ∷ xs) (y ∷ ys) are each = ((λ i. (each i).0), pairs_under R M xs ys are.1 (λ i. (each i).1))

-- and what follows from two
pub pairs-both : {X Y : Type 0} (R S T : X → Y → Type 0) → ((x : X) (y : Y) → R x y → S x y → T x y) → (xs : List X) (ys : List Y) → Pairwise R xs ys → Pairwise S xs ys → Pairwise T xs ys
pairs-both R S T follows [] [] are also = tt
pairs-both R S T follows [] (y ∷ ys) are also = absurd are
pairs-both R S T follows (x ∷ xs) [] are also = absurd are
pairs-both R S T follows (x ∷ xs) (y ∷ ys) are also = (follows x y are.0 also.0, pairs-both R S T follows xs ys are.1 also.1)

-- and of lists one behind the other
pub pairs-append : {X Y : Type 0} (R : X → Y → Type 0) (xs more : List X) (ys others : List Y) → Pairwise R xs ys → Pairwise R more others → Pairwise R (xs ++ more) (ys ++ others)
pairs-append R [] more [] others are also = also
pairs-append R [] more (y ∷ ys) others are also = absurd are
pairs-append R (x ∷ xs) more [] others are also = absurd are
pairs-append R (x ∷ xs) more (y ∷ ys) others are also = (are.0, pairs-append R xs more ys others are.1 also)

-- and what is so of what the second list has
pub pairs-map : {X Y Z : Type 0} (R : X → Z → Type 0) (f : Y → Z) (xs : List X) (ys : List Y) → Pairwise (λ x y. R x (f y)) xs ys → Pairwise R xs (map f ys)
pairs-map R f [] [] are = tt
pairs-map R f [] (y ∷ ys) are = absurd are
pairs-map R f (x ∷ xs) [] are = absurd are
pairs-map R f (x ∷ xs) (y ∷ ys) are = (are.0, pairs-map R f xs ys are.1)

-- the numbers of calls
abbrev pub numbers_called : List Called → List ℕ
numbers_called called = map (λ called. called.call.call) called

-- Calls of a session, and the places that are told of them.
module _ {X : Type 0} (place : X → Option ℕ) (history : History) (session : ℕ) where
  abbrev pub StandsTold : Called → X → Type 0
  StandsTold called told = StandsAt history session called (place told)

  -- what stands at their places is what they made
  pub entries-made : (called : List Called) (tolds : List X) → Pairwise StandsTold called tolds → entries_at history (filter_map place tolds) ≡ made called
  entries-made called tolds are = by called tolds are ∙ sym (made-added called)
    where
      one : (first : Called) (own : X) (calls : List Called) (others : List X) → entries_at history (filter_map place others) ≡ flat_map added_of calls → StandsSo history first (place own)
          → entries_at history (filter_map place (own ∷ others)) ≡ flat_map added_of (first ∷ calls)
      one first own calls others rest (inl none) = rw (none.0, none.1) rest
      one first own calls others rest (inr at) = rw (at.1, at.2, at.3) (ap (λ l. entry_of first.call first.verdict ∷ l) rest)

      by : (called : List Called) (tolds : List X) → Pairwise StandsTold called tolds → entries_at history (filter_map place tolds) ≡ flat_map added_of called
      by [] [] are = refl
      by [] (own ∷ tolds) are = absurd are
      by (first ∷ called) [] are = absurd are
      by (first ∷ called) (own ∷ tolds) are = one first own called tolds (by called tolds are.1) (stands_so history session first (place own) are.0)

  -- an entry at the place of a call has its number
  number_at : (found : Found history session) (called : Called) (at : ℕ) → slice_get history at ≡ Some (entry_of called.call called.verdict) → found.place ≡ at
      → found.entry.call ≡ called.call.call
  number_at found called at stands same =
      let there : slice_get history at ≡ Some found.entry = subst (λ n. slice_get history n ≡ Some found.entry) same found.at in
      let entry : found.entry ≡ entry_of called.call called.verdict = cc in
      ap (λ entry. entry.call) entry

  among_step : (found : Found history session) (first : Called) (own : X) (called : List Called) (tolds : List X) → StandsSo history first (place own)
      → (IsAmong found.place (filter_map place tolds) → IsElsewhere found.entry.call (numbers_called called) → ⊥)
      → IsAmong found.place (filter_map place (own ∷ tolds)) → IsElsewhere found.entry.call (numbers_called (first ∷ called)) → ⊥
  among_step found first own called tolds (inl none) later among other = later (rw none.0 at among) other.1
  among_step found first own called tolds (inr at) later among other = by (rw at.1 at among)
    where
      by : (found.place ≡ at.0) ⊎ IsAmong found.place (filter_map place tolds) → ⊥
      by (inl same) = other.0 (number_at found first at.0 at.2 same)
      by (inr among) = later among other.1

  -- an entry at one of their places has the number of one of them
  number_among : (found : Found history session) (called : List Called) (tolds : List X) → Pairwise StandsTold called tolds → IsAmong found.place (filter_map place tolds)
      → IsElsewhere found.entry.call (numbers_called called) → ⊥
  number_among found [] [] are among other = among
  number_among found [] (own ∷ tolds) are among other = are
  number_among found (first ∷ called) [] are among other = are
  number_among found (first ∷ called) (own ∷ tolds) are among other =
      among_step found first own called tolds (stands_so history session first (place own) are.0) (number_among found called tolds are.1) among other

  -- where the call of an entry has its number, the entry's place is the call's
  abbrev AtFound : Found history session → Called → X → Type 0
  AtFound found called told = called.call.call ≡ found.entry.call → place told ≡ Some found.place

  -- calls of other numbers
  found_nowhere : (found : Found history session) (number : ℕ) (called : List Called) (tolds : List X) → Pairwise StandsTold called tolds → number ≡ found.entry.call
      → IsElsewhere number (numbers_called called) → Pairwise (AtFound found) called tolds
  found_nowhere found number [] [] are is other = tt
  found_nowhere found number [] (own ∷ tolds) are is other = absurd are
  found_nowhere found number (first ∷ called) [] are is other = absurd are
  found_nowhere found number (first ∷ called) (own ∷ tolds) are is other =
      ((λ same. absurd (other.0 (is ∙ sym same))), found_nowhere found number called tolds are.1 is other.1)

  once_step : (found : Found history session) (first : Called) (own : X) (called : List Called) (tolds : List X) → Pairwise StandsTold called tolds
      → IsElsewhere first.call.call (numbers_called called) → (IsAmong found.place (filter_map place tolds) → Pairwise (AtFound found) called tolds)
      → StandsSo history first (place own) → IsAmong found.place (filter_map place (own ∷ tolds)) → Pairwise (AtFound found) (first ∷ called) (own ∷ tolds)
  once_step found first own called tolds are once rest so among = by so among
    where
      later : IsAmong found.place (filter_map place tolds) → Pairwise (AtFound found) (first ∷ called) (own ∷ tolds)
      later among = ((λ same. absurd (number_among found called tolds are among (subst (λ n. IsElsewhere n (numbers_called called)) same once))), rest among)

      at_own : (at : ℕ) → place own ≡ Some at → slice_get history at ≡ Some (entry_of first.call first.verdict) → (found.place ≡ at) ⊎ IsAmong found.place (filter_map place tolds)
          → Pairwise (AtFound found) (first ∷ called) (own ∷ tolds)
      at_own at is stands (inl same) =
          ((λ number. is ∙ ap (λ n. Some n) (sym same)), found_nowhere found first.call.call called tolds are (sym (number_at found first at stands same)) once)
      at_own at is stands (inr among) = later among

      by : StandsSo history first (place own) → IsAmong found.place (filter_map place (own ∷ tolds)) → Pairwise (AtFound found) (first ∷ called) (own ∷ tolds)
      by (inl none) among = later (rw none.0 at among)
      by (inr at) among = at_own at.0 at.1 at.2 (rw at.1 at among)

  found_once : (found : Found history session) (called : List Called) (tolds : List X) → Pairwise StandsTold called tolds → StandOnce (numbers_called called)
      → IsAmong found.place (filter_map place tolds) → Pairwise (AtFound found) called tolds
  found_once found [] [] are once among = tt
  found_once found [] (own ∷ tolds) are once among = absurd are
  found_once found (first ∷ called) [] are once among = absurd are
  found_once found (first ∷ called) (own ∷ tolds) are once among =
      once_step found first own called tolds are.1 once.0 (found_once found called tolds are.1 once.1) (stands_so history session first (place own) are.0) among

  -- Each call has in the history the place that is told of it, where the session's calls have a number each, and the history
  -- has its entries at the places told, and no others.
  pub places-own : (called : List Called) (tolds : List X) → Pairwise StandsTold called tolds → StandOnce (numbers_called called) → places_from 0 session history ≡ filter_map place tolds
      → Pairwise (λ called told. place_of history called.call ≡ place told) called tolds
  places-own called tolds are once places =
      pairs-both StandsTold (λ called told. (found : Found history session) → AtFound found called told) (λ called told. place_of history called.call ≡ place told)
      (λ called told is alone. place-own history session called (place told) is alone) called tolds are
      (pairs_under AtFound StandsTold called tolds are (λ found. found_once found called tolds are once (subst (λ l. IsAmong found.place l) places (found-among history session found))))
