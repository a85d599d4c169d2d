-- The database that the first of several CREATEs made, on its way through all of them.
use Rattle.std.proofs.Common.{◌≡◌, ℕ, ◌+◌, ◌<◌, List, [], ◌∷◌, ◌++◌, Bool, true, false, fold, length, take, drop, get_or, refl, sym, ap, subst, ◌∙◌}
use Rattle.std.proofs.lemmas.List.{drop_more, take_more}
use Rattle.std.proofs.lemmas.List.Sums.{fold-append}
use Rattle.own_model.specs.declared.schema.CreateText.{CreateText}
use Rattle.own_model.specs.declared.schema.Schema.{Schema}
use Rattle.own_model.specs.Db.{Db, empty}
use Rattle.own_model.specs.Stored.{holds_rows}
use Rattle.state_model.specs.Create.{create, create_view}
use Rattle.state_model.specs.Created.{AreAdmitted, Create, IsAdmitted, OfTable, OfView, with_create}
use Rattle.state_model.specs.Sound.{Sound}
use Rattle.state_model.proofs.CreatedLemmas.{admitted-without_rows}
use Rattle.state_model.proofs.WellFormedLemmas.{sound-empty}
use Rattle.disk_model.specs.Follows.{Follows}
use Rattle.disk_model.proofs.SoundAfter.{sound-after}
use Rattle.disk_model.specs.TextOf.{AreTextsOf, IsTextOf}
use Rattle.commit_replay.specs.Created.{AreLawfulCreates, AreWithoutRows, IsEmptyStoreOf}
use Rattle.commit_replay.specs.Creates.{commit_of}
use Rattle.commit_replay.proofs.CreateFollows.{admitted-follows}
use Rattle.commit_replay.proofs.OneCreate.{one-create}
use Rattle.commit_replay.proofs.WithoutRows.{without-append}

-- ---- one CREATE more

-- what a CREATE that follows leaves
pub record Adds (db : Db) (text : CreateText) (next : Db) : Type 0 where
  pub made : Create
  pub text_of : IsTextOf made text
  pub admitted : IsAdmitted db.schema made
  pub schema : next.schema ≡ with_create db.schema made
  pub creates : next.creates ≡ db.creates ++ text ∷ []
  pub rows : AreWithoutRows db.rows → AreWithoutRows next.rows

-- a CREATE that follows adds itself
adds_by : (db next : Db) (view : Bool) (text : List ℕ) → Follows db (commit_of view text) next → Adds db (record { view = view; text = text }) next
unfolding create create_view
adds_by db next false text follows = record {
  made = OfTable follows.table;
  text_of = follows.text_of;
  admitted = admitted-without_rows db.schema (holds_rows db.rows) follows.table follows.admitted;
  schema = ap (λ (db : Db). db.schema) follows.after_is;
  creates = ap (λ (db : Db). db.creates) follows.after_is ∙ ap (λ (text : CreateText). db.creates ++ text ∷ []) (sym follows.text_of.canonical);
  rows = λ without. subst (λ (db : Db). AreWithoutRows db.rows) (sym follows.after_is) (without-append db.rows without);
}
adds_by db next true text follows = record {
  made = OfView follows.view;
  text_of = follows.text_of;
  admitted = follows.admitted;
  schema = ap (λ (db : Db). db.schema) follows.after_is;
  creates = ap (λ (db : Db). db.creates) follows.after_is ∙ ap (λ (text : CreateText). db.creates ++ text ∷ []) (sym follows.text_of.canonical);
  rows = λ without. subst (λ (db : Db). AreWithoutRows db.rows) (sym follows.after_is) without;
}

adds : (db next : Db) (text : CreateText) → Follows db (commit_of text.view text.text) next → Adds db text next
adds db next text follows = adds_by db next text.view text.text follows

-- ---- the CREATEs so far

-- a text more
texts-append : (made_by : List Create) (texts : List CreateText) (made : Create) (text : CreateText) → AreTextsOf made_by texts → IsTextOf made text
    → AreTextsOf (made_by ++ made ∷ []) (texts ++ text ∷ [])
texts-append [] [] made text are is = (is, tt)
texts-append [] (first ∷ texts) made text are is = absurd are
texts-append (first ∷ made_by) [] made text are is = absurd are
texts-append (first ∷ made_by) (one ∷ texts) made text are is = (are.0, texts-append made_by texts made text are.1 is)

-- a CREATE more, admitted after the others
admitted-append : (schema : Schema) (creates : List Create) (last : Create) → AreAdmitted schema creates → IsAdmitted (fold with_create schema creates) last
    → AreAdmitted schema (creates ++ last ∷ [])
admitted-append schema [] last all admitted = (admitted, tt)
admitted-append schema (first ∷ creates) last all admitted = (all.0, admitted-append (with_create schema first) creates last all.1 admitted)

-- a database made by one more
more-made : (db next : Db) (creates : List CreateText) (text : CreateText) → IsEmptyStoreOf creates db → Adds db text next → IsEmptyStoreOf (creates ++ text ∷ []) next
more-made db next creates text is more = record {
  made_by = is.made_by ++ more.made ∷ [];
  lawful = record {
    texts = texts-append is.made_by creates more.made text is.lawful.texts more.text_of;
    admitted = admitted-append empty.schema is.made_by more.made is.lawful.admitted (subst (λ (schema : Schema). IsAdmitted schema more.made) is.schema more.admitted);
  };
  schema = more.schema ∙ ap (λ (schema : Schema). with_create schema more.made) is.schema ∙ sym (fold-append with_create empty.schema is.made_by (more.made ∷ []));
  creates_are = more.creates ∙ ap (λ (creates : List CreateText). creates ++ text ∷ []) is.creates_are;
  rows = more.rows is.rows;
}

-- ---- the CREATEs to come

-- whoever made all may go on from here by these texts
pub record GoesOn (texts : List CreateText) (schema : Schema) : Type 0 where
  pub rest : List Create
  pub texts_of : AreTextsOf rest texts
  pub admitted : AreAdmitted schema rest

-- by the first of them
pub record BeginsBy (text : CreateText) (texts : List CreateText) (schema : Schema) : Type 0 where
  pub first : Create
  pub text_of : IsTextOf first text
  pub admitted : IsAdmitted schema first
  pub onward : GoesOn texts (with_create schema first)

-- who goes on begins by the first
begins_by : (text : CreateText) (texts : List CreateText) (schema : Schema) (rest : List Create) → AreTextsOf rest (text ∷ texts) → AreAdmitted schema rest → BeginsBy text texts schema
begins_by text texts schema [] are admitted = absurd are
begins_by text texts schema (first ∷ rest) are admitted =
    record { first = first; text_of = are.0; admitted = admitted.0; onward = record { rest = rest; texts_of = are.1; admitted = admitted.1 } }

begins : (text : CreateText) (texts : List CreateText) (schema : Schema) → GoesOn (text ∷ texts) schema → BeginsBy text texts schema
begins text texts schema is = begins_by text texts schema is.rest is.texts_of is.admitted

-- after it, who would go on by the first goes on by the others
goes-on : (db next : Db) (text : CreateText) (texts : List CreateText) → Adds db text next → GoesOn (text ∷ texts) db.schema → GoesOn texts next.schema
goes-on db next text texts more is =
    let first = begins text texts db.schema is in
    let same = one-create first.first more.made text first.text_of more.text_of in
    subst (GoesOn texts) (ap (with_create db.schema) same ∙ sym more.schema) first.onward

-- ---- all of them

-- some CREATEs made the database, and whoever made all goes on by the others
pub record IsMadeSoFar (creates done left : List CreateText) (db : Db) : Type 0 where
  pub so_far : IsEmptyStoreOf done db
  pub onward : (made_by : List Create) → AreLawfulCreates creates made_by → GoesOn left db.schema
  pub sound : Sound db

-- the empty database
pub made-nothing : (creates : List CreateText) → IsMadeSoFar creates [] creates empty
made-nothing creates = record {
  so_far = record { made_by = []; lawful = record { texts = tt; admitted = tt }; schema = refl; creates_are = refl; rows = tt };
  onward = λ made_by lawful. record { rest = made_by; texts_of = lawful.texts; admitted = lawful.admitted };
  sound = sound-empty;
}

-- one more
pub made-more : (creates done left : List CreateText) (text : CreateText) (db next : Db) → IsMadeSoFar creates done (text ∷ left) db → Follows db (commit_of text.view text.text) next → Sound next
    → IsMadeSoFar creates (done ++ text ∷ []) left next
made-more creates done left text db next is follows sound =
    let more = adds db next text follows in
    record {
      so_far = more-made db next done text is.so_far more;
      onward = λ made_by lawful. goes-on db next text left more (is.onward made_by lawful);
      sound = sound;
    }

-- where a CREATE can't follow, nobody made all
pub made-none : (creates done left : List CreateText) (text : CreateText) (db : Db) → IsMadeSoFar creates done (text ∷ left) db → ((after : Db) → ¬ Follows db (commit_of text.view text.text) after)
    → (made_by : List Create) → ¬ AreLawfulCreates creates made_by
made-none creates done left text db is none made_by lawful =
    let first = begins text left db.schema (is.onward made_by lawful) in
    let made = admitted-follows db first.first text is.sound is.so_far.rows first.text_of first.admitted in
    none made.0 made.1

-- ---- by the place of the next

-- the next stands there
at_place : (creates : List CreateText) (place : ℕ) (text : CreateText) (db : Db) → text ≡ get_or creates place text → place < length creates
    → IsMadeSoFar creates (take place creates) (drop place creates) db → IsMadeSoFar creates (take place creates) (text ∷ drop (place + 1) creates) db
at_place creates place text db is below =
    subst (λ (left : List CreateText). IsMadeSoFar creates (take place creates) left db)
    (drop_more creates place text below ∙ ap (λ (text : CreateText). text ∷ drop (place + 1) creates) (sym is))

-- one more that follows
pub more-at : (creates : List CreateText) (place : ℕ) (text : CreateText) (db next : Db) → text ≡ get_or creates place text → place < length creates
    → IsMadeSoFar creates (take place creates) (drop place creates) db → Follows db (commit_of text.view text.text) next
    → IsMadeSoFar creates (take (place + 1) creates) (drop (place + 1) creates) next
more-at creates place text db next is below made follows =
    let sound = sound-after db (commit_of text.view text.text) next made.sound follows in
    let more = made-more creates (take place creates) (drop (place + 1) creates) text db next (at_place creates place text db is below made) follows sound in
    subst (λ (done : List CreateText). IsMadeSoFar creates done (drop (place + 1) creates) next)
    (sym (take_more creates place text below ∙ ap (λ (text : CreateText). take place creates ++ text ∷ []) (sym is))) more

-- one that can't follow
pub none-at : (creates : List CreateText) (place : ℕ) (text : CreateText) (db : Db) → text ≡ get_or creates place text → place < length creates
    → IsMadeSoFar creates (take place creates) (drop place creates) db → ((after : Db) → ¬ Follows db (commit_of text.view text.text) after)
    → (made_by : List Create) → ¬ AreLawfulCreates creates made_by
none-at creates place text db is below made none = made-none creates (take place creates) (drop (place + 1) creates) text db (at_place creates place text db is below made) none
