-- What is kept is made right, step by step.
use Rattle.std.proofs.Common.{◌≡◌, ℕ, ◌+◌, ◌-◌, ◌<◌, ◌≤◌, List, [], ◌∷◌, ◌++◌, length, drop, get_or, take, Bool, true, false, inl, inr, refl, ap, sym, ◌∙◌, subst, arith}
use Rattle.std.specs.Prelude.{◌⊎◌, ◌≢◌, not, ◌&&◌, Contains, Option}
use Rattle.std.specs.Ordering.{is_eq}
use Rattle.std.proofs.lemmas.Cmp.{tied_itself}
use Rattle.std.proofs.lemmas.List.{drop_more, take_more}
use Rattle.std.proofs.Math.Seq.{drop-length}
use Rattle.std.proofs.lemmas.List.Elements.{Contains-append_cases}
use Rattle.own_base.specs.declared.change.Change.{Change}
use Rattle.own_base.specs.declared.row_name.RowName.{RowName}
use Rattle.own_base.specs.declared.row_name.Subject.{Subject}
use Rattle.own_model.specs.declared.schema.Edge.{Edge}
use Rattle.own_model.specs.Db.{Db, IsOrdered}
use Rattle.owner_model.specs.Joins.{Joins}
use Rattle.schema_model.specs.OwnerSchema.{IsOwnerSchema}
use Rattle.subject_model.specs.Named.{is_name}
use Rattle.subject_model.specs.Owners.{owns, reaches}
use Rattle.subject_model.proofs.Members.{contains_cases, contains_none}
use Rattle.subject_model.proofs.NamedLemmas.{one_name}
use Rattle.link_model.specs.Whose.{reach_at}
use Rattle.move_model.specs.declared.owner_move.OwnerMove.{OwnerMove}
use Rattle.move_model.specs.declared.owner_move.Standing.{Standing}
use Rattle.move_model.specs.declared.owner_move.Standing.TheVariants.{Nothing, Reaches, Owns}
use Rattle.move_model.specs.Moves.{AreMovesOf, IsMoveOf}
use Rattle.move_model.specs.Standing.{standing}
use Rattle.move_model.proofs.StandingLemmas.{is_listed, listed_contains, not_listed}
use Rattle.shelf_model.specs.declared.shelved.Shelved.{Shelved}
use Rattle.shelf_model.specs.At.{copy_at, seen_at}
use Rattle.micro_db.specs.declared.micro.MicroDb.{MicroDb}
use Rattle.micro_db.specs.Before.{IsBefore}
use Rattle.micro_db.specs.Filed.{PutsAt}
use Rattle.micro_db.specs.FiledOrder.{place_cmp, place_total}
use Rattle.micro_db.specs.Kept.{StandsFor, copy_kept, itself, name_of_copy, seen_kept}
use Rattle.micro_db.specs.Looked.{AreLookedAt}
use Rattle.micro_db.specs.Renewed.{AreRight, ForSomeOf, IsAsBefore, IsMoveAt, IsOf, IsReachedAt, IsRight, Renews}
use Rattle.micro_db.proofs.AmongLemmas.{reaches_contained}
use Rattle.micro_db.proofs.FiledLemmas.{one_place}
use Rattle.micro_db.proofs.StandingSame.{GoesOver, no_copy, no_sight, owning_reaches, same_by, same_copy, same_owns, same_reaches, same_sees, same_sight}

-- a place ties with itself
same_place : (subject other : Subject) (name own : RowName) → IsOf subject name other own → is_eq (place_cmp (subject, name) (other, own)) ≡ true
same_place subject other name own of =
    subst (λ (s : Subject). is_eq (place_cmp (subject, name) (s, own)) ≡ true) of.same_subject
    (subst (λ (n : RowName). is_eq (place_cmp (subject, name) (subject, n)) ≡ true) of.same_name (ap is_eq (tied_itself place_total (subject, name))))

module _ (db : Db) (subject : Subject) (name : RowName) (old new : MicroDb) where
  -- what is put at one place makes right what is kept there
  pub renews-put : (copy : Option Shelved) (sight : Option RowName) → copy ≡ copy_at db subject.0 name → sight ≡ seen_at db subject.0 name
      → PutsAt name_of_copy subject name copy old.shelves new.shelves → PutsAt itself subject name sight old.seen new.seen → Renews db (IsOf subject name) old new
  renews-put copy sight is_copy is_sight copies sights = record { right = right; rest = rest }
    where
      here : (other : Subject) (own : RowName) → is_eq (place_cmp (subject, name) (other, own)) ≡ true → IsRight db new other own
      here other own tied =
          let same = one_place subject other name own tied in
          let put : copy_kept new other own ≡ copy = copies other own ∙ rw tied refl in
          let saw : seen_kept new other own ≡ sight = sights other own ∙ rw tied refl in
          record {
            copy = put ∙ (is_copy ∙ (λ i. copy_at db (same.0 i).0 (same.1 i)));
            sight = saw ∙ (is_sight ∙ (λ i. seen_at db (same.0 i).0 (same.1 i)));
          }

      rest : (other : Subject) (own : RowName) → IsRight db new other own ⊎ IsAsBefore old new other own
      rest other own = by (is_eq (place_cmp (subject, name) (other, own))) refl
        where
          by : (b : Bool) → is_eq (place_cmp (subject, name) (other, own)) ≡ b → IsRight db new other own ⊎ IsAsBefore old new other own
          by true tied = inl (here other own tied)
          by false untied = inr (record { copy = copies other own ∙ rw untied refl; sight = sights other own ∙ rw untied refl })

      right : (other : Subject) (own : RowName) → IsOf subject name other own → IsRight db new other own
      right other own of = here other own (same_place subject other name own of)

-- what is right stays right
still_right : (db : Db) (old new : MicroDb) (subject : Subject) (name : RowName) → IsRight db old subject name → IsRight db new subject name ⊎ IsAsBefore old new subject name → IsRight db new subject name
still_right db old new subject name was (inl is) = is
still_right db old new subject name was (inr stays) = record { copy = stays.copy ∙ was.copy; sight = stays.sight ∙ was.sight }

-- one after the other
pub renews-both : (db : Db) (IsOne IsOther IsAsked : Subject → RowName → Type 0) (old mid new : MicroDb) → ((subject : Subject) (name : RowName) → IsAsked subject name → IsOne subject name ⊎ IsOther subject name)
    → Renews db IsOne old mid → Renews db IsOther mid new → Renews db IsAsked old new
renews-both db IsOne IsOther IsAsked old mid new either one other =
    record {
      right = λ subject name asked. elim (either subject name asked) [
        | inl is ↦ still_right db mid new subject name (one.right subject name is) (other.rest subject name)
        | inr is ↦ other.right subject name is
      ];
      rest = λ subject name. rest subject name (one.rest subject name) (other.rest subject name);
    }
  where
    rest : (subject : Subject) (name : RowName) → IsRight db mid subject name ⊎ IsAsBefore old mid subject name → IsRight db new subject name ⊎ IsAsBefore mid new subject name → IsRight db new subject name ⊎ IsAsBefore old new subject name
    rest subject name first (inl is) = inl is
    rest subject name (inl is) (inr stays) = inl (record { copy = stays.copy ∙ is.copy; sight = stays.sight ∙ is.sight })
    rest subject name (inr was) (inr stays) = inr (record { copy = stays.copy ∙ was.copy; sight = stays.sight ∙ was.sight })

module _ {X : Type 0} (db : Db) (IsAsked : X → Subject → RowName → Type 0) (xs : List X) where
  pub renews-start : (micro : MicroDb) → Renews db (ForSomeOf IsAsked (take 0 xs)) micro micro
  renews-start micro =
      record {
        right = λ subject name asked. absurd (contains_none asked.0 asked.1.0);
        rest = λ subject name. inr (record { copy = refl; sight = refl });
      }

  -- with what is asked for the next one
  pub renews-more : (count : ℕ) (x : X) (start old new : MicroDb) → count < length xs → x ≡ get_or xs count x → Renews db (ForSomeOf IsAsked (take count xs)) start old → Renews db (IsAsked x) old new
      → Renews db (ForSomeOf IsAsked (take (count + 1) xs)) start new
  renews-more count x start old new within next so_far renews =
      renews-both db (ForSomeOf IsAsked (take count xs)) (IsAsked x) (ForSomeOf IsAsked (take (count + 1) xs)) start old new
      (λ subject name asked. elim (Contains-append_cases (take count xs) (x ∷ []) asked.0 (subst (λ list. Contains list asked.0) longer asked.1.0)) [
        | inl before ↦ inl (asked.0, (before, asked.1.1))
        | inr last ↦ elim (contains_cases x [] asked.0 last) [
          | inl same ↦ inr (subst (λ y. IsAsked y subject name) (sym same) asked.1.1)
          | inr none ↦ absurd (contains_none asked.0 none)
        ]
      ])
      so_far renews
    where
      longer : take (count + 1) xs ≡ take count xs ++ x ∷ []
      longer = take_more xs count x within ∙ ap (λ y. take count xs ++ y ∷ []) (sym next)

  -- from the last on nothing is asked for at first
  pub renews-last : (micro : MicroDb) → Renews db (ForSomeOf IsAsked (drop (length xs) xs)) micro micro
  renews-last micro =
      record {
        right = λ subject name asked. absurd (contains_none asked.0 (subst (λ list. Contains list asked.0) (drop-length xs) asked.1.0));
        rest = λ subject name. inr (record { copy = refl; sight = refl });
      }

  -- with what is asked for the one before a place
  pub renews-before : (place : ℕ) (x : X) (start old new : MicroDb) → 0 < place → place ≤ length xs → x ≡ get_or xs (place - 1) x → Renews db (ForSomeOf IsAsked (drop place xs)) start old → Renews db (IsAsked x) old new
      → Renews db (ForSomeOf IsAsked (drop (place - 1) xs)) start new
  renews-before place x start old new some within next so_far renews =
      renews-both db (ForSomeOf IsAsked (drop place xs)) (IsAsked x) (ForSomeOf IsAsked (drop (place - 1) xs)) start old new
      (λ subject name asked. elim (contains_cases x (drop place xs) asked.0 (subst (λ list. Contains list asked.0) longer asked.1.0)) [
        | inl same ↦ inr (subst (λ y. IsAsked y subject name) (sym same) asked.1.1)
        | inr behind ↦ inl (asked.0, (behind, asked.1.1))
      ])
      so_far renews
    where
      back : place - 1 + 1 ≡ place
      back = omega (arith, some)

      before : place - 1 < length xs
      before = omega (arith, some, within)

      longer : drop (place - 1) xs ≡ x ∷ drop place xs
      longer = drop_more xs (place - 1) x before ∙ (ap (λ y. y ∷ drop (place - 1 + 1) xs) (sym next) ∙ ap (λ n. x ∷ drop n xs) back)

  -- at the first place all are asked for
  pub renews-first : (place : ℕ) (start new : MicroDb) → place ≤ 0 → Renews db (ForSomeOf IsAsked (drop place xs)) start new → Renews db (ForSomeOf IsAsked xs) start new
  renews-first place start new none renews = subst (λ n. Renews db (ForSomeOf IsAsked (drop n xs)) start new) (let first : place ≡ 0 = omega (arith, none) in first) renews

  -- with what is asked for the next one, where it is right for some that it is renewed alone for the others
  pub renews-more-right : (moves : List OwnerMove) (count : ℕ) (x : X) (start old new : MicroDb) → count < length xs → x ≡ get_or xs count x
      → (AreRight db moves start → Renews db (ForSomeOf IsAsked (take count xs)) start old) → (AreRight db moves old → Renews db (IsAsked x) old new)
      → AreRight db moves start → Renews db (ForSomeOf IsAsked (take (count + 1) xs)) start new
  renews-more-right moves count x start old new within next so_far renews are =
      let before = so_far are in
      renews-more count x start old new within next before (renews (λ subject name asked. still_right db start old subject name (are subject name asked) (before.rest subject name)))

-- where a subject moved at a row, and that is right already, nothing has to be renewed
pub renews-none : (db : Db) (moves : List OwnerMove) (subject : Subject) (name : RowName) (micro : MicroDb) → ForSomeOf IsMoveAt moves subject name → AreRight db moves micro → Renews db (IsOf subject name) micro micro
renews-none db moves subject name micro moved are =
    record {
      right = λ other own of. subst (λ (s : Subject). IsRight db micro s own) of.same_subject (subst (λ (n : RowName). IsRight db micro subject n) of.same_name (are subject name moved));
      rest = λ other own. inr (record { copy = refl; sight = refl });
    }

-- a move whose names are those of a subject and a row is at these
pub moved-at : (moves : List OwnerMove) (place : ℕ) (moved : OwnerMove) (subject : Subject) (name : RowName) → place < length moves → moved ≡ get_or moves place moved → is_name moved.name name ≡ true → is_name moved.subject.0 subject.0 ≡ true → ForSomeOf IsMoveAt moves subject name
moved-at moves place moved subject name within is same_name same_subject =
    let made : RowName → Subject = λ n. record { 0 = n } in
    let among : Contains moves moved = (place, within, sym is) in
    (moved, (among, record { same_subject = ap made (one_name moved.subject.0 subject.0 same_subject); same_name = one_name moved.name name same_name }))

-- whether two are the same
alike : Standing → Standing → Bool
alike Nothing Nothing = true
alike Reaches Reaches = true
alike Owns Owns = true
alike _ _ = false

alike_same : (one other : Standing) → alike one other ≡ true → one ≡ other
unfolding alike
alike_same Nothing Nothing is = refl
alike_same Nothing Reaches is = cc
alike_same Nothing Owns is = cc
alike_same Reaches Nothing is = cc
alike_same Reaches Reaches is = refl
alike_same Reaches Owns is = cc
alike_same Owns Nothing is = cc
alike_same Owns Reaches is = cc
alike_same Owns Owns is = refl

same_alike : (one : Standing) → alike one one ≡ true
unfolding alike
same_alike Nothing = refl
same_alike Reaches = refl
same_alike Owns = refl

alike_differ : (one other : Standing) → alike one other ≡ false → one ≢ other
alike_differ one other apart same = let never : true ≡ false = sym (same_alike one) ∙ (ap (alike one) same ∙ apart) in cc

-- where nothing moves each subject stands to each row as before
pub stands-still : (before after : Db) → AreMovesOf before after [] → (subject : Subject) (name : RowName) → standing before subject.0 name ≡ standing after subject.0 name
stands-still before after none subject name = by (alike (standing before subject.0 name) (standing after subject.0 name)) refl
  where
    by : (b : Bool) → alike (standing before subject.0 name) (standing after subject.0 name) ≡ b → standing before subject.0 name ≡ standing after subject.0 name
    by true same = alike_same _ _ same
    by false other =
        let moved : OwnerMove = record { name = name; subject = subject; before = standing before subject.0 name; after = standing after subject.0 name } in
        let its : IsMoveOf before after moved = record { was = refl; is = refl; differ = alike_differ _ _ other } in
        absurd (contains_none moved ((none.told moved).1 its))

module _ (before after : Db) (moves : List OwnerMove) (changes : List Change) (names : List RowName) (old new : MicroDb) (is : IsBefore before after moves changes old) (also : IsOrdered after) (owner : IsOwnerSchema after.schema) (looked : AreLookedAt after moves changes names) where
  owner_before : IsOwnerSchema before.schema
  owner_before = subst IsOwnerSchema is.schema owner

  -- a subject that stands otherwise has a move
  has_move : (subject : Subject) (name : RowName) → alike (standing before subject.0 name) (standing after subject.0 name) ≡ false
      → (moved : OwnerMove) × (Contains moves moved × ((moved.subject ≡ subject) × (moved.name ≡ name)))
  has_move subject name other =
      let moved : OwnerMove = record { name = name; subject = subject; before = standing before subject.0 name; after = standing after subject.0 name } in
      let its : IsMoveOf before after moved = record { was = refl; is = refl; differ = alike_differ _ _ other } in
      (moved, ((is.moved.told moved).1 its, (refl, refl)))

  -- right above a row that isn't looked at each subject stands stays before
  stays_above : (name : RowName) → ¬ (Contains names name) → (edge : Edge) (upper : RowName) → Joins after name edge upper → (subject : Subject) → standing before subject.0 upper ≡ standing after subject.0 upper
  stays_above name absent edge upper joined subject = by (alike (standing before subject.0 upper) (standing after subject.0 upper)) refl
    where
      by : (b : Bool) → alike (standing before subject.0 upper) (standing after subject.0 upper) ≡ b → standing before subject.0 upper ≡ standing after subject.0 upper
      by true same = alike_same _ _ same
      by false other =
          let (moved, (among, of)) = has_move subject upper other in
          absurd (looked.below name absent edge upper joined moved among of.1)

  goes_on : (subject : Subject) (name : RowName) → ¬ (Contains names name) → GoesOver before after subject.0 name
  goes_on subject name absent =
      let keeps = looked.touched before is.schema is.leads name absent in
      record {
        schema = sym is.schema;
        joins = keeps.still;
        reached = λ edge upper joined reached.
            sym (same_reaches before after subject.0 upper is.ordered also owner_before owner (stays_above name absent edge upper (keeps.still edge upper joined) subject)) ∙ reached;
      }

  goes_back : (subject : Subject) (name : RowName) → ¬ (Contains names name) → GoesOver after before subject.0 name
  goes_back subject name absent =
      let keeps = looked.touched before is.schema is.leads name absent in
      record {
        schema = is.schema;
        joins = keeps.already;
        reached = λ edge upper joined reached.
            same_reaches before after subject.0 upper is.ordered also owner_before owner (stays_above name absent edge upper joined subject) ∙ reached;
      }

  -- so what the database gives for a row that isn't looked at stays
  kept_right : (subject : Subject) (name : RowName) → ¬ (Contains names name) → standing before subject.0 name ≡ standing after subject.0 name → IsAsBefore old new subject name → IsRight after new subject name
  kept_right subject name absent same stays =
      let keeps = looked.touched before is.schema is.leads name absent in
      record {
        copy = stays.copy ∙ (is.stands.copies subject name ∙ same_copy before after subject.0 name keeps.row (same_owns before after subject.0 name same)
            (λ own. same_by before after subject.0 name is.ordered also owner_before owner (goes_on subject name absent) (goes_back subject name absent)));
        sight = stays.sight ∙ (is.stands.sights subject name ∙ same_sight before after subject.0 name keeps.row (same_sees before after subject.0 name same));
      }

  -- and for one that the subject reaches neither before nor after it is none
  none_right : (subject : Subject) (name : RowName) → reaches after subject.0 name ≡ false → standing before subject.0 name ≡ standing after subject.0 name → IsAsBefore old new subject name → IsRight after new subject name
  none_right subject name none same stays =
      let not_owned : owns after subject.0 name ≡ false = not_owning (owns after subject.0 name) refl in
      let not_seen : (reaches after subject.0 name && not (owns after subject.0 name)) ≡ false = rw none refl in
      record {
        copy = stays.copy ∙ (is.stands.copies subject name ∙ (no_copy before subject.0 name (same_owns before after subject.0 name same ∙ not_owned) ∙ sym (no_copy after subject.0 name not_owned)));
        sight = stays.sight ∙ (is.stands.sights subject name ∙ (no_sight before subject.0 name (same_sees before after subject.0 name same ∙ not_seen) ∙ sym (no_sight after subject.0 name not_seen)));
      }
    where
      not_owning : (b : Bool) → owns after subject.0 name ≡ b → owns after subject.0 name ≡ false
      not_owning true own = let never : true ≡ false = sym (owning_reaches after subject.0 name also owner own) ∙ none in cc
      not_owning false own = own

  -- All is right, where what moved is renewed and the rows that are looked at are.
  pub renews-end : (mid : MicroDb) → Renews after (ForSomeOf IsMoveAt moves) old mid → Renews after (ForSomeOf (IsReachedAt after) names) mid new → StandsFor after new
  renews-end mid moved rows = record { copies = λ subject name. (right subject name).copy; sights = λ subject name. (right subject name).sight }
    where
      all : Renews after (λ subject name. ForSomeOf IsMoveAt moves subject name ⊎ ForSomeOf (IsReachedAt after) names subject name) old new
      all = renews-both after (ForSomeOf IsMoveAt moves) (ForSomeOf (IsReachedAt after) names) (λ subject name. ForSomeOf IsMoveAt moves subject name ⊎ ForSomeOf (IsReachedAt after) names subject name) old mid new (λ subject name either. either) moved rows

      as_it_was : (subject : Subject) (name : RowName) → IsAsBefore old new subject name → (b c d : Bool) → alike (standing before subject.0 name) (standing after subject.0 name) ≡ b → reaches after subject.0 name ≡ c → is_listed name names ≡ d
          → IsRight after new subject name
      as_it_was subject name stays false c d other reached listed =
          let (move, (among, of)) = has_move subject name other in
          all.right subject name (inl (move, (among, record { same_subject = of.0; same_name = of.1 })))
      as_it_was subject name stays true false d same reached listed = none_right subject name reached (alike_same _ _ same) stays
      as_it_was subject name stays true true true same reached listed =
          all.right subject name (inr (name, (listed_contains name names listed, record { reached = reaches_contained after also owner subject name reached; same_name = refl })))
      as_it_was subject name stays true true false same reached listed = kept_right subject name (not_listed name names listed) (alike_same _ _ same) stays

      right : (subject : Subject) (name : RowName) → IsRight after new subject name
      right subject name = elim (all.rest subject name) [
        | inl is_right ↦ is_right
        | inr stays ↦ as_it_was subject name stays (alike (standing before subject.0 name) (standing after subject.0 name)) (reaches after subject.0 name) (is_listed name names) refl refl refl
      ]

-- what is asked for less
pub renews-weaker : (db : Db) (IsAsked IsLess : Subject → RowName → Type 0) (old new : MicroDb) → ((subject : Subject) (name : RowName) → IsLess subject name → IsAsked subject name) → Renews db IsAsked old new → Renews db IsLess old new
renews-weaker db IsAsked IsLess old new weaker renews = record { right = λ subject name less. renews.right subject name (weaker subject name less); rest = renews.rest }

-- a row is right for those that reach it, where it is for each of them
pub renews-row : (db : Db) (name : RowName) (subjects : List Subject) (old new : MicroDb) → subjects ≡ reach_at db name → Renews db (ForSomeOf (λ subject. IsOf subject name) subjects) old new → Renews db (IsReachedAt db name) old new
renews-row db name subjects old new is renews =
    renews-weaker db (ForSomeOf (λ subject. IsOf subject name) subjects) (IsReachedAt db name) old new
    (λ subject own asked. (subject, (subst (λ list. Contains list subject) (sym is) asked.reached, record { same_subject = refl; same_name = asked.same_name })))
    renews
