-- What a call does to a store's disk: nothing, where it isn't asked, and the same over databases that are the same.
use Rattle.std.proofs.Common.{◌≡◌, ℕ, ◌+◌, ◌≤◌, ◌∙◌, List, [], ◌∷◌, Bool, true, false, inl, inr, ap, arith, refl, subst, sym}
use Rattle.std.specs.Prelude.{◌≢◌, IsTrue, if◌then◌else◌}
use Rattle.own_base.specs.declared.number.Area.{Area}
use Rattle.own_base.specs.declared.number.Area.TheVariants.{A, B}
use Rattle.own_model.specs.declared.history.Verdict.{Verdict}
use Rattle.own_model.specs.declared.history.Verdict.TheVariants.{Took, DiskFault, NoRoom}
use Rattle.own_model.specs.Db.{Db}
use Rattle.outer_world.specs.FaultCount.{CountRose}
use Rattle.outer_world.specs.LeavesOnly.{LeavesOnly}
use Rattle.outer_world.specs.OtherArea.{other_of}
use Rattle.outer_world.proofs.Moments.{begun}
use Rattle.disk_model.specs.Area.{IsBelow, Represent, Says, Stored}
use Rattle.commit_journal.specs.declared.journal.Journal.{Journal}
use Rattle.crash_model.specs.StoreIn.{IsStoreIn}
use Rattle.crash_model.proofs.StoreLemmas.{represented-store}
use Rattle.commit_journal.specs.JournalState.{IsAt}
use Rattle.crash_model.specs.Alone.{IsAloneOn}
use Rattle.store_disk.specs.Kept.{HasRoomFor, IsEither, IsKept}
use Rattle.store_disk.specs.declared.store_disk.StoreDisk.{StoreDisk}
use Rattle.own_model.specs.declared.limit.TheConstants.{JOURNAL_ROOM}
use Rattle.engine_core.specs.Stored.{Carries, IsLaidAnew, IsUp, grown_by, is_fault, kept_by}

-- one closed gate is no area that is opened
unopened : (epoch : ℕ) → IsBelow (0 ∷ []) epoch
unopened epoch opened = let room = opened.room in absurd (omega arith)

module _ {D : Type 0} (holds : D → Area → List ℕ) (leaves : D → Area → List ℕ → Type 0) where
  -- of two areas that are those of a journal at rest, the one says what is stored, and the other is a closed gate
  represented_in : (disk : D) (area : Area) (stored : Stored) → Says (holds disk area) stored → holds disk (other_of area) ≡ 0 ∷ [] → (a b : List ℕ) → a ≡ holds disk A → b ≡ holds disk B
      → Represent a b stored
  represented_in disk A stored says beside a b in_a in_b = inl (record {
    says = subst (λ bytes. Says bytes stored) (sym in_a) says;
    below = subst (λ bytes. IsBelow bytes stored.epoch) (sym (in_b ∙ beside)) (unopened stored.epoch);
  })
  represented_in disk B stored says beside a b in_a in_b = inr (record {
    says = subst (λ bytes. Says bytes stored) (sym in_b) says;
    below = subst (λ bytes. IsBelow bytes stored.epoch) (sym (in_a ∙ beside)) (unopened stored.epoch);
  })

  -- a crash leaves the store of the database that a journal keeps
  pub kept-left : (journal : Journal D) (db : Db) (commits : ℕ) → IsKept holds leaves journal db commits → (a b : List ℕ) → leaves journal.disk A a → leaves journal.disk B b → IsStoreIn a b db commits
  kept-left journal db commits kept a b in_a in_b =
      represented-store a b kept.stored kept.image kept.behind db commits
      (represented_in journal.disk journal.area kept.stored kept.rests.says kept.rests.beside a b (kept.rests.synced.a.only a in_a) (kept.rests.synced.b.only b in_b)) kept.stored_as kept.store

  module _ (moment : D → ℕ) (might_have_left : D → ℕ → List ℕ → List ℕ → Type 0) (only_now : (disk : D) (a b : List ℕ) → might_have_left disk (moment disk) a b → leaves disk A a × leaves disk B b)
      (honest : D → Bool) (faults : D → ℕ) where
    -- where nothing is done to the disk
    pub carries-still : (store : StoreDisk D) (db next : Db) (asks counts lays : Bool) (size : ℕ) (verdict : Verdict) → IsUp holds leaves honest store db → is_fault verdict ≡ false → kept_by verdict db next ≡ db
        → grown_by verdict counts ≡ 0 → (asks ≡ false → verdict ≡ Took) → (verdict ≡ NoRoom → HasRoomFor store.journal store.commits size → ⊥) → (asks ≡ true → verdict ≢ NoRoom → ⊥)
        → Carries holds leaves moment might_have_left honest faults db next asks counts lays size store verdict store
    carries-still store db next asks counts lays size verdict up works keeps grown unasked room asked = record {
      failed = up.sound ∙ sym works;
      kept = λ other honestly. subst (λ db. IsKept holds leaves store.journal db store.commits) (sym keeps) (up.kept honestly);
      commits = omega (arith, grown);
      left = λ honestly. begun leaves moment might_have_left only_now store.journal.disk _ (λ a b in_a in_b. inl (kept-left store.journal db store.commits (up.kept honestly) a b in_a in_b));
      honesty = refl;
      time = omega arith;
      rose = λ is. let never : true ≡ false = sym (ap is_fault is) ∙ works in absurd (cc);
      steady = λ other. refl;
      risen = omega arith;
      unasked = λ none. (refl, unasked none, subst (λ verdict. kept_by verdict db next ≡ db) (unasked none) keeps);
      room = λ is. (refl, room is);
      roomy = λ asks_it other. absurd (asked asks_it other);
      added = λ asks_it laid took. absurd (asked asks_it (λ none. let never : ◌≡◌ {A = Verdict} Took NoRoom = sym took ∙ none in cc));
      anew = λ asks_it laid took. absurd (asked asks_it (λ none. let never : ◌≡◌ {A = Verdict} Took NoRoom = sym took ∙ none in cc));
    }

    -- a call that doesn't ask it leaves its disk and its database
    pub carries-same : {size : ℕ} {lays : Bool} (store : StoreDisk D) (db next : Db) (asks counts : Bool) → IsUp holds leaves honest store db → next ≡ db → asks ≡ false → counts ≡ false
        → Carries holds leaves moment might_have_left honest faults db next asks counts lays size store Took store
    carries-same {size} {lays} store db next asks counts up same unasked uncounted =
        carries-still store db next asks counts lays size Took up refl same (ap (λ (counts : Bool). if counts then 1 else 0) uncounted) (λ none. refl) (λ is. absurd (cc))
        (λ asked other. let never : true ≡ false = sym asked ∙ unasked in absurd (cc))

  -- whether it lays the store anew says something of what asks the disk alone
  pub carries-lays : (moment : D → ℕ) (might_have_left : D → ℕ → List ℕ → List ℕ → Type 0) (honest : D → Bool) (faults : D → ℕ) (db next : Db) (asks counts lays laid : Bool) (size : ℕ)
      (before after : StoreDisk D) (verdict : Verdict) → (asks ≡ true → lays ≡ laid) → Carries holds leaves moment might_have_left honest faults db next asks counts lays size before verdict after
      → Carries holds leaves moment might_have_left honest faults db next asks counts laid size before verdict after
  carries-lays moment might_have_left honest faults db next asks counts lays laid size before after verdict same carries = record {
    failed = carries.failed;
    kept = carries.kept;
    commits = carries.commits;
    left = carries.left;
    honesty = carries.honesty;
    time = carries.time;
    rose = carries.rose;
    steady = carries.steady;
    risen = carries.risen;
    unasked = carries.unasked;
    room = carries.room;
    roomy = carries.roomy;
    added = λ asked is took. carries.added asked (same asked ∙ is) took;
    anew = λ asked is took. carries.anew asked (same asked ∙ is) took;
  }

  -- the same of databases that are the same, and of answers
  pub carries-of : (moment : D → ℕ) (might_have_left : D → ℕ → List ℕ → List ℕ → Type 0) (honest : D → Bool) (faults : D → ℕ) (db other next behind : Db) (asks asked counts counted lays laid : Bool)
      (size written : ℕ) (before after : StoreDisk D) (verdict : Verdict) → db ≡ other → next ≡ behind → asks ≡ asked → counts ≡ counted → (asked ≡ true → lays ≡ laid) → size ≡ written
      → Carries holds leaves moment might_have_left honest faults db next asks counts lays size before verdict after
      → Carries holds leaves moment might_have_left honest faults other behind asked counted laid written before verdict after
  carries-of moment might_have_left honest faults db other next behind asks asked counts counted lays laid size written before after verdict same left is_asked is_counted is_laid is_size carries =
      carries-lays moment might_have_left honest faults other behind asked counted lays laid written before after verdict is_laid
      (subst (λ db. Carries holds leaves moment might_have_left honest faults db behind asked counted lays written before verdict after) same
      (subst (λ next. Carries holds leaves moment might_have_left honest faults db next asked counted lays written before verdict after) left
      (subst (λ asks. Carries holds leaves moment might_have_left honest faults db next asks counted lays written before verdict after) is_asked
      (subst (λ counts. Carries holds leaves moment might_have_left honest faults db next asks counts lays written before verdict after) is_counted
      (subst (λ size. Carries holds leaves moment might_have_left honest faults db next asks counts lays size before verdict after) is_size carries)))))

  -- and of two sizes that are the same where there is room for a commit more
  pub carries-sized : (moment : D → ℕ) (might_have_left : D → ℕ → List ℕ → List ℕ → Type 0) (honest : D → Bool) (faults : D → ℕ) (db next : Db) (asks counts lays : Bool) (size other : ℕ)
      (before after : StoreDisk D) (verdict : Verdict) → (before.commits + 1 ≤ JOURNAL_ROOM → size ≡ other)
      → Carries holds leaves moment might_have_left honest faults db next asks counts lays size before verdict after
      → Carries holds leaves moment might_have_left honest faults db next asks counts lays other before verdict after
  carries-sized moment might_have_left honest faults db next asks counts lays size other before after verdict same carries = record {
    failed = carries.failed;
    kept = carries.kept;
    commits = carries.commits;
    left = carries.left;
    honesty = carries.honesty;
    time = carries.time;
    rose = carries.rose;
    steady = carries.steady;
    risen = carries.risen;
    unasked = carries.unasked;
    room = λ is. ((carries.room is).0, λ has. (carries.room is).1 (subst (HasRoomFor before.journal before.commits) (sym (same has.one_more)) has));
    roomy = λ asked verdict_is. let has = carries.roomy asked verdict_is in subst (HasRoomFor before.journal before.commits) (same has.one_more) has;
    added = λ asked laid took.
        let has = carries.roomy asked (λ none. let never : ◌≡◌ {A = Verdict} Took NoRoom = sym took ∙ none in cc) in
        let was = carries.added asked laid took in
        (was.0, was.1 ∙ ap (λ n. before.journal.end + n) (same has.one_more));
    anew = λ asked laid took.
        let has = carries.roomy asked (λ none. let never : ◌≡◌ {A = Verdict} Took NoRoom = sym took ∙ none in cc) in
        subst (λ size. IsLaidAnew holds leaves honest next size before after) (same has.one_more) (carries.anew asked laid took);
  }

  -- ---- a store that is to be laid anew

  module _ (moment : D → ℕ) (might_have_left : D → ℕ → List ℕ → List ℕ → Type 0) (honest : D → Bool) (faults : D → ℕ) (before after : StoreDisk D) (db next : Db) (counts : Bool) (size : ℕ)
      (room : HasRoomFor before.journal before.commits size)
      (left : IsTrue (honest before.journal.disk) → LeavesOnly moment might_have_left (IsEither db before.commits next (before.commits + (if counts then 1 else 0))) before.journal.disk after.journal.disk)
      (honesty : honest after.journal.disk ≡ honest before.journal.disk) (time : moment before.journal.disk ≤ moment after.journal.disk) where
    -- the disk took its image
    pub carries-laid : IsAt after.journal (other_of before.journal.area) (before.journal.epoch + 1) (16 + size) → after.commits ≡ before.commits + (if counts then 1 else 0)
        → (IsTrue (honest before.journal.disk) → IsKept holds leaves after.journal next after.commits)
        → (IsTrue (honest before.journal.disk) → IsAloneOn holds leaves after.journal.disk next after.commits (before.journal.epoch + 1) (other_of before.journal.area))
        → faults after.journal.disk ≡ faults before.journal.disk → Carries holds leaves moment might_have_left honest faults db next true counts true size before Took after
    carries-laid at numbered kept alone steady = record {
      failed = at.sound;
      kept = λ other is. kept is;
      commits = numbered;
      left = left;
      honesty = honesty;
      time = time;
      rose = λ is. let never : ◌≡◌ {A = Verdict} Took DiskFault = is in absurd (cc);
      steady = λ other. steady;
      risen = omega (arith, steady);
      unasked = λ none. let never : true ≡ false = none in absurd (cc);
      room = λ is. let never : ◌≡◌ {A = Verdict} Took NoRoom = is in absurd (cc);
      roomy = λ asked other. room;
      added = λ asked plain took. let never : true ≡ false = plain in absurd (cc);
      anew = λ asked lays took. record { at = at; alone = alone };
    }

    -- or it failed
    pub carries-unlaid : after.journal.failed ≡ true → after.commits ≡ before.commits → CountRose (faults before.journal.disk) (faults after.journal.disk) → faults before.journal.disk ≤ faults after.journal.disk
        → Carries holds leaves moment might_have_left honest faults db next true counts true size before DiskFault after
    carries-unlaid failed numbered rose risen = record {
      failed = failed;
      kept = λ other is. absurd (other refl);
      commits = omega (arith, numbered);
      left = left;
      honesty = honesty;
      time = time;
      rose = λ is. rose;
      steady = λ other. absurd (other refl);
      risen = risen;
      unasked = λ none. let never : true ≡ false = none in absurd (cc);
      room = λ is. let never : ◌≡◌ {A = Verdict} DiskFault NoRoom = is in absurd (cc);
      roomy = λ asked other. room;
      added = λ asked plain took. let never : true ≡ false = plain in absurd (cc);
      anew = λ asked lays took. let never : ◌≡◌ {A = Verdict} DiskFault Took = took in absurd (cc);
    }
