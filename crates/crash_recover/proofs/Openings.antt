-- Stores that are opened, and what a crash on the way leaves of them.
use Rattle.std.proofs.Common.{◌≡◌, ℕ, ◌+◌, inl, inr, List, [], ◌∷◌, length, refl, sym, ap, subst, ◌∙◌, rules, arith}
use Rattle.std.specs.Prelude.{Result, Ok, Err, IfOk}
use Rattle.own_base.specs.declared.number.Area.{Area}
use Rattle.own_base.specs.declared.number.Area.TheVariants.{A, B}
use Rattle.own_model.specs.Db.{Db, empty}
use Rattle.outer_world.proofs.Moments.{then, weaker}
use Rattle.outer_world.specs.LeavesOnly.{LeavesOnly}
use Rattle.outer_world.specs.OtherArea.{bytes_in, other_of}
use Rattle.crash_model.specs.StoreIn.{IsStoreIn}
use Rattle.crash_model.proofs.StoreLemmas.{represented-store}
use Rattle.state_model.proofs.WellFormedLemmas.{sound-empty}
use Rattle.disk_model.specs.declared.image.Image.{Image}
use Rattle.disk_model.specs.Area.{IsChosen, Represent, Stored, laid}
use Rattle.disk_model.specs.Judged.{IsJudged}
use Rattle.disk_model.specs.JudgedArea.{Nothing, Store}
use Rattle.disk_model.specs.StoreOf.{IsStoreOf, IsStoredAs}
use Rattle.disk_model.proofs.JudgedStores.{represented-judged}
use Rattle.commit_journal.specs.AreaCalls.{AreSynced}
use Rattle.commit_journal.specs.JournalState.{CanResume, IsAt, RepresentAtMost, Rests}
use Rattle.crash_recover.specs.declared.judged.LaidCommit.{LaidCommit}
use Rattle.crash_recover.specs.declared.open.Opened.{Opened}
use Rattle.crash_recover.specs.Opening.{AreAlike, IsJournalOf, IsLeft, IsOpenedOf, empty_gated, empty_image}
use Rattle.crash_recover.specs.Recovered.{AreLaid, IsWhole, commits_of}
use Rattle.crash_recover.specs.Undisturbed.{IsUndisturbed}

-- two areas that are judged no store hold the empty one
nothing_of : (x y : List ℕ) → IsJudged x y Nothing → IsStoreIn x y empty 0
nothing_of x y nothing = record { judged = Nothing; is_judged = nothing; is_of = (refl, refl) }

empty_stored : IsStoredAs (laid 1 empty_gated) empty_image []
empty_stored = record {
  is_image = (
    refl,
    record { commits = omega arith; creates = omega arith; tables = refl },
    record {
      creates = 0 ∷ 0 ∷ 0 ∷ 0 ∷ [];
      tables = [];
      commits_are = search rules;
      creates_are = search rules;
      tables_are = search rules;
    },
  );
  are_payloads = tt;
}

empty_store : IsStoreOf empty_image [] empty 0
empty_store = record {
  begin = empty;
  lawful = record { made_by = []; texts = tt; schema = refl; creates = refl; rows = refl; keyed = tt; sound = sound-empty };
  followed = refl;
  number_is = refl;
}

-- ---- the journal of a store that is there

chosen_represents : (area : Area) (a b : List ℕ) (stored : Stored) → IsChosen stored (bytes_in area a b) (bytes_in (other_of area) a b) → Represent a b stored
chosen_represents A a b stored chosen = inl chosen
chosen_represents B a b stored chosen = inr chosen

-- a crash leaves what represents the same
while_going_on : (a b : List ℕ) (area : Area) (epoch : ℕ) (image : Image) (commits : List LaidCommit) (end : ℕ) (db : Db) (whole : IsWhole a b area epoch image commits end db) (x y : List ℕ) → Represent x y whole.stored → AreAlike a b x y
while_going_on a b area epoch image commits end db whole x y represent = record {
  db = db;
  number = image.commits + length commits;
  before = represented-store a b whole.stored image (commits_of commits) db _ (chosen_represents area a b whole.stored whole.chosen) whole.stored_as whole.store;
  after = represented-store x y whole.stored image (commits_of commits) db _ represent whole.stored_as whole.store;
}

in_area : (area : Area) (held : Area → List ℕ) → bytes_in area (held A) (held B) ≡ held area
in_area A held = refl
in_area B held = refl

module _ {D : Type 0} (holds : D → Area → List ℕ) (leaves : D → Area → List ℕ → Type 0) where
  -- the journal can go on with it
  can_resume : (disk : D) (area : Area) (epoch : ℕ) (image : Image) (commits : List LaidCommit) (end : ℕ) (db : Db) (whole : IsWhole (holds disk A) (holds disk B) area epoch image commits end db)
      → AreSynced holds leaves disk → CanResume holds leaves disk area epoch end whole.stored
  can_resume disk area epoch image commits end db whole synced =
      let chosen = subst (λ (other : List ℕ). IsChosen whole.stored (holds disk area) other) (in_area (other_of area) (holds disk))
      (subst (λ (one : List ℕ). IsChosen whole.stored one (bytes_in (other_of area) (holds disk A) (holds disk B))) (in_area area (holds disk)) whole.chosen) in
      record { says = chosen.says; below = chosen.below; of_epoch = whole.of_epoch; up_to = whole.up_to; synced = synced }

  -- and it is opened once the journal does
  pub opened_whole : (disk : D) (opened : Opened D) (area : Area) (epoch end : ℕ) → IsWhole (holds disk A) (holds disk B) area epoch opened.image opened.commits end opened.state → AreSynced holds leaves disk
      → IsAt opened.journal area epoch end → ((stored : Stored) → CanResume holds leaves disk area epoch end stored → Rests holds leaves opened.journal stored) → IsOpenedOf holds leaves disk opened
  opened_whole disk opened area epoch end whole synced at rests =
      let a = holds disk A in
      let b = holds disk B in
      record {
        judged = Store opened.image (commits_of opened.commits);
        is_judged = represented-judged a b whole.stored opened.image (commits_of opened.commits) opened.state _ (chosen_represents area a b whole.stored whole.chosen) whole.stored_as whole.store;
        database = whole.store;
        stored = whole.stored;
        journal = record {
          chosen = subst (λ (of : Area). IsChosen whole.stored (bytes_in of a b) (bytes_in (other_of of) a b)) (sym at.in_area) whole.chosen;
          at = record { in_area = refl; of_epoch = at.of_epoch ∙ whole.of_epoch; up_to = at.up_to ∙ whole.up_to; sound = at.sound };
          of_image = refl;
          of_commits = refl;
        };
        rests = rests whole.stored (can_resume disk area epoch opened.image opened.commits end opened.state whole synced);
        stored_as = whole.stored_as;
        offsets = whole.offsets;
      }

  -- ---- a store that begins

  pub opened_empty : (disk : D) (opened : Opened D) → IsJudged (holds disk A) (holds disk B) Nothing → IsAt opened.journal A 1 30 → Rests holds leaves opened.journal (laid 1 empty_gated)
      → opened.image ≡ empty_image → opened.commits ≡ [] → opened.state ≡ empty → IsOpenedOf holds leaves disk opened
  opened_empty disk opened nothing at rests of_image none state =
      let stored = laid 1 empty_gated in
      let no_commits : opened.image.commits ≡ 0 = ap (λ (image : Image). image.commits) of_image in
      let no_more : length opened.commits ≡ 0 = ap length none in
      record {
        judged = Nothing;
        is_judged = nothing;
        database = (state, omega arith);
        stored = stored;
        journal = record { at = at; says = refl; of_image = of_image; none = none };
        rests = rests;
        stored_as = subst (λ (image : Image). IsStoredAs stored image (commits_of opened.commits)) (sym of_image)
            (subst (λ (commits : List LaidCommit). IsStoredAs stored empty_image (commits_of commits)) (sym none) empty_stored);
        offsets = subst (λ (commits : List LaidCommit). AreLaid 30 commits []) (sym none) tt;
      }

-- a crash leaves what represents nothing, or the empty store
while_beginning : (a b : List ℕ) → IsJudged a b Nothing → (x y : List ℕ) → RepresentAtMost (laid 1 empty_gated) x y → AreAlike a b x y
while_beginning a b nothing x y (inl none) = record { db = empty; number = 0; before = nothing_of a b nothing; after = nothing_of x y (inl (none, refl)) }
while_beginning a b nothing x y (inr begun) =
    record { db = empty; number = 0; before = nothing_of a b nothing; after = represented-store x y (laid 1 empty_gated) empty_image [] empty 0 begun empty_stored empty_store }

-- ---- after what changed nothing

moved : (P : List ℕ → List ℕ → Type 0) (a b x y : List ℕ) → x ≡ a → y ≡ b → P x y → P a b
moved P a b x y first second holds = subst (λ (one : List ℕ). P one b) first (subst (λ (other : List ℕ). P x other) second holds)

module _ {D : Type 0} (holds : D → Area → List ℕ) (leaves : D → Area → List ℕ → Type 0) (moment : D → ℕ) (might : D → ℕ → List ℕ → List ℕ → Type 0) (only_now : (disk : D) (a b : List ℕ) → might disk (moment disk) a b → leaves disk A a × leaves disk B b) where
  -- while a journal goes on with what is there
  pub going_on : (old new : D) (area : Area) (epoch : ℕ) (image : Image) (commits : List LaidCommit) (end : ℕ) (db : Db) → IsWhole (holds old A) (holds old B) area epoch image commits end db → AreSynced holds leaves old
      → ((stored : Stored) → CanResume holds leaves old area epoch end stored → LeavesOnly moment might (λ x y. Represent x y stored) old new) → LeavesOnly moment might (IsLeft holds leaves old) old new
  going_on old new area epoch image commits end db whole synced represents =
      weaker leaves moment might only_now old new _ (IsLeft holds leaves old)
      (λ x y left. inr (while_going_on (holds old A) (holds old B) area epoch image commits end db whole x y left))
      (represents whole.stored (can_resume holds leaves old area epoch image commits end db whole synced))

  -- while one begins
  pub beginning : (old new : D) → IsJudged (holds old A) (holds old B) Nothing → LeavesOnly moment might (RepresentAtMost (laid 1 empty_gated)) old new → LeavesOnly moment might (IsLeft holds leaves old) old new
  beginning old new nothing at_most =
      weaker leaves moment might only_now old new _ (IsLeft holds leaves old) (λ x y left. inr (while_beginning (holds old A) (holds old B) nothing x y left)) at_most

  -- the store is that of the disk as it was before
  pub opened_before : (start mid : D) (opened : Opened D) → IsUndisturbed holds leaves moment might start mid → IsOpenedOf holds leaves mid opened → IsOpenedOf holds leaves start opened
  opened_before start mid opened kept of = record {
    judged = of.judged;
    is_judged = moved (λ a b. IsJudged a b of.judged) (holds start A) (holds start B) (holds mid A) (holds mid B) kept.a.same kept.b.same of.is_judged;
    journal = moved (λ a b. IsJournalOf a b of.judged opened.journal of.stored opened.image opened.commits) (holds start A) (holds start B) (holds mid A) (holds mid B) kept.a.same kept.b.same of.journal;
    database = of.database;
    stored = of.stored;
    rests = of.rests;
    stored_as = of.stored_as;
    offsets = of.offsets;
  }

  left_before : (start mid : D) → IsUndisturbed holds leaves moment might start mid → (x y : List ℕ) → IsLeft holds leaves mid x y → IsLeft holds leaves start x y
  left_before start mid kept x y (inl both) = inl (kept.a.no_more x both.0, kept.b.no_more y both.1)
  left_before start mid kept x y (inr alike) = inr (moved (λ a b. AreAlike a b x y) (holds start A) (holds start B) (holds mid A) (holds mid B) kept.a.same kept.b.same alike)

  -- a crash since then leaves no more
  pub moments_since : (start mid new : D) → IsUndisturbed holds leaves moment might start mid → LeavesOnly moment might (IsLeft holds leaves mid) mid new → LeavesOnly moment might (IsLeft holds leaves start) start new
  moments_since start mid new kept later =
      then leaves moment might only_now start mid new (IsLeft holds leaves start)
      (weaker leaves moment might only_now start mid _ (IsLeft holds leaves start) (λ x y both. inl both) kept.moments)
      (weaker leaves moment might only_now mid new _ (IsLeft holds leaves start) (left_before start mid kept) later)

  pub opened_since : {E : Type 0} (start mid : D) (Honest Still : Type 0) (result : Result (Opened D) E) → (Honest → Still) → (Honest → IsUndisturbed holds leaves moment might start mid)
      → IfOk result (λ opened. Still → LeavesOnly moment might (IsLeft holds leaves mid) mid opened.journal.disk) → IfOk result (λ opened. Honest → LeavesOnly moment might (IsLeft holds leaves start) start opened.journal.disk)
  opened_since start mid Honest Still (Ok opened) still kept later = λ honest. moments_since start mid opened.journal.disk (kept honest) (later (still honest))
  opened_since start mid Honest Still (Err e) still kept later = tt
