-- The places of a session's entries, when entries are added.
use Rattle.std.proofs.Common.{◌≡◌, ℕ, zero, suc, ◌+◌, ◌≤◌, ◌≢◌, List, [], ◌∷◌, ◌++◌, length, drop, refl, ap, ◌∙◌, arith, ne_eqb, length-drop}
use Rattle.std.specs.Prelude.{Bool, true, false, ◌==◌}
use Rattle.own_model.specs.declared.history.Entry.{Entry}
use Rattle.turn_model.specs.Places.{places_from, places_beyond}

pub places-append : (place session : ℕ) (xs ys : List Entry) → places_from place session (xs ++ ys) ≡ places_from place session xs ++ places_from (place + length xs) session ys
unfolding places_from
places-append place session [] ys = ap (λ n. places_from n session ys) (omega arith)
places-append place session (x ∷ xs) ys =
    by (places-append (place + 1) session xs ys ∙ ap (λ n. places_from (place + 1) session xs ++ places_from n session ys) (omega arith)) (x.session.0 == session) refl
  where
    by : places_from (place + 1) session (xs ++ ys) ≡ places_from (place + 1) session xs ++ places_from (place + length (x ∷ xs)) session ys
        → (b : Bool) → (x.session.0 == session) ≡ b
        → places_from place session (x ∷ (xs ++ ys)) ≡ places_from place session (x ∷ xs) ++ places_from (place + length (x ∷ xs)) session ys
    by rest true is = rw is (ap (λ l. place ∷ l) rest)
    by rest false is = rw is rest

drop-append : {A : Type 0} → (n : ℕ) (xs ys : List A) → n ≤ length xs → drop n (xs ++ ys) ≡ drop n xs ++ ys
drop-append zero xs ys le = refl
drop-append (suc n) [] ys le = absurd (omega arith)
drop-append (suc n) (x ∷ xs) ys le = drop-append n xs ys (omega arith)

-- in a history that has at least so many entries, the places of those added stand behind the others
pub places-more : (base session : ℕ) (xs ys : List Entry) → base ≤ length xs → places_beyond base session (xs ++ ys) ≡ places_beyond base session xs ++ places_from (length xs) session ys
places-more base session xs ys le =
    let l : base + length (drop base xs) ≡ length xs = (let m = length-drop base xs in omega arith) in
    ap (places_from base session) (drop-append base xs ys le) ∙ (places-append base session (drop base xs) ys ∙ ap (λ n. places_beyond base session xs ++ places_from n session ys) l)

-- beyond its own length a history has none
pub places-none : (xs : List Entry) (session : ℕ) → places_beyond (length xs) session xs ≡ []
unfolding places_from
places-none xs session = ap (places_from (length xs) session) (all xs)
  where
    all : (l : List Entry) → drop (length l) l ≡ []
    all [] = refl
    all (x ∷ l) = all l

-- one entry stands at its place, if it is of the session
pub place-own : (place session : ℕ) (entry : Entry) → entry.session.0 ≡ session → places_from place session (entry ∷ []) ≡ place ∷ []
unfolding places_from
place-own place session entry is = let e : (entry.session.0 == session) ≡ true = grind arith in rw e refl

pub place-other : (place session : ℕ) (entry : Entry) → entry.session.0 ≢ session → places_from place session (entry ∷ []) ≡ []
unfolding places_from
place-other place session entry other = let e : (entry.session.0 == session) ≡ false = ne_eqb entry.session.0 session other in rw e refl

pub place-nothing : (place session : ℕ) → places_from place session [] ≡ []
unfolding places_from
place-nothing place session = refl
