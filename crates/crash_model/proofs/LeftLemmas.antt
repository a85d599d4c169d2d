-- The commits of a history that grows, the databases that they leave, and so what a crash leaves of it.
use Rattle.std.proofs.Common.{◌≡◌, ℕ, zero, suc, ◌+◌, ◌<◌, ◌≤◌, List, [], ◌∷◌, ◌++◌, Bool, true, false, length, take, fold, inl, inr, refl, ap, sym, subst, ◌∙◌, arith, append_assoc}
use Rattle.std.specs.Prelude.{Option, None, Some, if◌then◌else◌, slice_get}
use Rattle.std.specs.List.{AllByRecursion}
use Rattle.std.proofs.lemmas.List.{append-nil, length-append, take-append-le}
use Rattle.std.proofs.lemmas.Option.{slice_get_within}
use Rattle.std.proofs.Math.Seq.{take-append_seam, take-length}
use Rattle.own_model.specs.declared.history.Entry.{Entry}
use Rattle.own_model.specs.declared.history.Verdict.TheVariants.{DiskFault, Took}
use Rattle.own_model.specs.declared.refusal.Refusal.TheVariants.{Disk}
use Rattle.own_model.specs.declared.reply.Reply.TheVariants.{Refused}
use Rattle.own_model.specs.Db.{Db}
use Rattle.schema_model.proofs.Places.{all-at, slice_get-append_below, slice_get-push}
use Rattle.state_model.specs.Sound.{Sound}
use Rattle.history_model.specs.AsksDisk.{under}
use Rattle.history_model.specs.Commits.{after, after_commit, commits, commits_from, is_commit}
use Rattle.history_model.specs.History.{History, flat, flat_after, happens, world}
use Rattle.history_model.specs.Reply.{answer, is_refusal}
use Rattle.history_model.specs.Serial.{IsHistory}
use Rattle.history_model.specs.World.{World, start}
use Rattle.history_model.proofs.HistoryLemmas.{flat-append, flat-world, place-world, reply-append, reply-last}
use Rattle.history_model.proofs.RefusalLemmas.{answer-down}
use Rattle.crash_model.specs.LeftBy.{IsLate, IsLeftBy, IsLeftOf, IsWhole}
use Rattle.crash_model.specs.StoreIn.{IsStoreIn}
use Rattle.crash_model.proofs.FlatLemmas.{flat-same, history-front}

-- a place, where it is that of a commit
abbrev place_if : Bool → ℕ → List ℕ
place_if is place = if is then place ∷ [] else []

-- the commits of entries, and then those of the rest
commits_fold : (before : World) (history more : History)
    → commits_from before (history ++ more) ≡ commits_from before history ++ commits_from (fold happens before history) more
commits_fold before [] more = refl
commits_fold before (entry ∷ history) more =
    let own : List ℕ = place_if (is_commit before entry (answer before entry)) before.place in
    ap (λ places. own ++ places) (commits_fold (happens before entry) history more)
    ∙ sym (append_assoc own (commits_from (happens before entry) history) (commits_from (fold happens (happens before entry) history) more))

-- each is at a place of the history
abbrev AreBelow : ℕ → List ℕ → Type 0
AreBelow long places = AllByRecursion (λ place. place < long) places

below_if : (is : Bool) (place long : ℕ) (places : List ℕ) → place < long → AreBelow long places → AreBelow long (place_if is place ++ places)
below_if true place long places below all = (below, all)
below_if false place long places below all = all

below_from : (before : World) (history : History) (long : ℕ) → before.place + length history ≤ long → AreBelow long (commits_from before history)
below_from before [] long within = tt
below_from before (entry ∷ history) long within =
    below_if (is_commit before entry (answer before entry)) before.place long (commits_from (happens before entry) history) (omega arith)
    (below_from (happens before entry) history long (omega arith))

-- a history that comes to be entry by entry
module _ (P : History → Type 0) (step : (history : History) (entry : Entry) → IsHistory (history ++ entry ∷ []) → P history → P (history ++ entry ∷ [])) where
  by_entries : (before more : History) → P before → IsHistory (before ++ more) → P (before ++ more)
  by_entries before [] done entered = rw append-nil done
  by_entries before (entry ∷ more) done entered =
      let regrouped : (before ++ entry ∷ []) ++ more ≡ before ++ entry ∷ more = append_assoc before (entry ∷ []) more in
      let long : IsHistory ((before ++ entry ∷ []) ++ more) = subst IsHistory (sym regrouped) entered in
      subst P regrouped (by_entries (before ++ entry ∷ []) more (step before entry (history-front (before ++ entry ∷ []) more long) done) long)

module _ (base : Db) where
  -- whether an entry commits that comes after a history
  abbrev commits_then : History → Entry → Bool
  commits_then history entry = is_commit (world base history) entry (answer (world base history) entry)

  -- the commits of a history are the first of those of one that goes on
  pub commits-append : (history more : History) → commits base (history ++ more) ≡ commits base history ++ commits_from (world base history) more
  unfolding commits world
  commits-append history more = commits_fold (start base) history more

  -- an entry more is one commit more, where it commits
  pub commits-more : (history : History) (entry : Entry)
      → commits base (history ++ entry ∷ []) ≡ commits base history ++ (if commits_then history entry then length history ∷ [] else [])
  commits-more history entry =
      commits-append history (entry ∷ [])
      ∙ ap (λ places. commits base history ++ places)
      (append-nil (place_if (commits_then history entry) (world base history).place) ∙ ap (place_if (commits_then history entry)) (place-world base history))

  commits_same : (history : History) (entry : Entry) → commits_then history entry ≡ false → commits base (history ++ entry ∷ []) ≡ commits base history
  commits_same history entry none =
      commits-more history entry ∙ (ap (λ is. commits base history ++ place_if is (length history)) none ∙ append-nil (commits base history))

  commits_last : (history : History) (entry : Entry) → commits_then history entry ≡ true
      → commits base (history ++ entry ∷ []) ≡ commits base history ++ length history ∷ []
  commits_last history entry is = commits-more history entry ∙ ap (λ is. commits base history ++ place_if is (length history)) is

  below : (history : History) → AreBelow (length history) (commits base history)
  unfolding commits
  below history = below_from (start base) history (length history) (omega arith)

  -- the database after a commit of a history is the same after that history goes on
  after_place : (history more : History) (found : Option ℕ) → (place_below : (place : ℕ) → found ≡ Some place → place < length history)
      → after_commit base (history ++ more) found ≡ after_commit base history found
  after_place history more None below = refl
  after_place history more (Some place) below = let within = below place refl in ap (flat base) (take-append-le (place + 1) history more (omega arith))

  pub after-more : (history more : History) (count : ℕ) → count ≤ length (commits base history) → after base (history ++ more) count ≡ after base history count
  unfolding after
  after-more history more zero few = refl
  after-more history more (suc count) few =
      ap (after_commit base (history ++ more))
      (ap (λ places. slice_get places count) (commits-append history more)
      ∙ slice_get-append_below (commits base history) (commits_from (world base history) more) count (omega arith))
      ∙ after_place history more (slice_get (commits base history) count) (λ place is. all-at _ (commits base history) (below history) count place is)

  -- the database after the last of them, where it is that of the last entry
  after_last : (history : History) (entry : Entry) → commits base (history ++ entry ∷ []) ≡ commits base history ++ length history ∷ []
      → after base (history ++ entry ∷ []) (suc (length (commits base history))) ≡ flat base (history ++ entry ∷ [])
  unfolding after
  after_last history entry is =
      ap (after_commit base (history ++ entry ∷ []))
      (ap (λ places. slice_get places (length (commits base history))) is ∙ slice_get-push (commits base history) (length history))
      ∙ (let long : length history + 1 ≡ length (history ++ entry ∷ []) = omega (arith, length-append history (entry ∷ [])) in
      ap (λ n. flat base (take n (history ++ entry ∷ []))) long ∙ ap (flat base) (take-length (history ++ entry ∷ [])))

  abbrev IsAfterAll : History → Type 0
  IsAfterAll history = after base history (length (commits base history)) ≡ flat base history

  all_step : (sound : Sound base) (history : History) (entry : Entry) → IsHistory (history ++ entry ∷ []) → IsAfterAll history
      → (is : Bool) → commits_then history entry ≡ is → IsAfterAll (history ++ entry ∷ [])
  all_step sound history entry entered done true is =
      let places = commits_last history entry is in
      let long : length (commits base (history ++ entry ∷ [])) ≡ suc (length (commits base history)) =
      ap length places ∙ (length-append (commits base history) (length history ∷ []) ∙ omega arith) in
      ap (after base (history ++ entry ∷ [])) long ∙ after_last history entry places
  all_step sound history entry entered done false none =
      ap (λ places. after base (history ++ entry ∷ []) (length places)) (commits_same history entry none)
      ∙ (after-more history (entry ∷ []) (length (commits base history)) (omega arith) ∙ (done ∙ sym (flat-same base history entry sound entered none)))

  none_first : IsAfterAll []
  unfolding after commits flat world
  none_first = refl

  -- after all of its commits a history has its flat database
  pub after-all : (history : History) → Sound base → IsHistory history → after base history (length (commits base history)) ≡ flat base history
  after-all history sound entered =
      by_entries IsAfterAll (λ history entry entered done. all_step sound history entry entered done _ refl) [] history none_first entered

  -- before any entry
  pub whole-none : (number : ℕ) (a b : List ℕ) → IsStoreIn a b base number → IsWhole base number [] a b
  unfolding commits flat world
  whole-none number a b is = let same : number ≡ number + 0 = omega arith in subst (IsStoreIn a b base) same is

module _ (base : Db) (number : ℕ) (a b : List ℕ) where
  -- what is late stays so,
  pub late-more : (history more : History) → IsLate base number history a b → IsLate base number (history ++ more) a b
  late-more history more late =
      let within = slice_get_within history late.place late.late late.at in
      record {
        place = late.place;
        late = late.late;
        at = slice_get-append_below history more late.place within ∙ late.at;
        failed = reply-append base history more late.place within ∙ late.failed;
        is = subst (λ front. IsWhole base number (front ++ under Took late.late ∷ []) a b) (sym (take-append-le late.place history more (omega arith))) late.is;
      }

  -- what a crash leaves now is left of the history,
  pub left-now : (history : History) → Sound base → IsHistory history → IsLeftBy base number history a b → IsLeftOf base number history a b
  left-now history sound entered (inl whole) = inl (record {
    count = length (commits base history);
    few = omega arith;
    is = subst (λ db. IsStoreIn a b db (number + length (commits base history))) (sym (after-all base history sound entered)) whole;
  })
  left-now history sound entered (inr late) = inr late

  -- and stays so, however the history goes on
  pub left-more : (history more : History) → IsLeftOf base number history a b → IsLeftOf base number (history ++ more) a b
  left-more history more (inl first) =
      let grown = ap length (commits-append base history more) in
      let long = length-append (commits base history) (commits_from (world base history) more) in
      let few = first.few in
      inl (record {
        count = first.count;
        few = omega arith;
        is = subst (λ db. IsStoreIn a b db (number + first.count)) (sym (after-more base history more first.count first.few)) first.is;
      })
  left-more history more (inr late) = inr (late-more history more late)

  -- an entry that the disk failed, where the areas hold it as one that the disk took
  pub late-last : (history : History) (entry : Entry) → answer (world base history) (under DiskFault entry) ≡ Refused Disk
      → IsWhole base number (history ++ under Took entry ∷ []) a b → IsLate base number (history ++ under DiskFault entry ∷ []) a b
  late-last history entry failed whole = record {
    place = length history;
    late = under DiskFault entry;
    at = slice_get-push history (under DiskFault entry);
    failed = reply-last base history (under DiskFault entry) ∙ ap Some failed;
    is = subst (λ front. IsWhole base number (front ++ under Took entry ∷ []) a b) (sym (take-append_seam history (under DiskFault entry ∷ []))) whole;
  }

  -- an entry that is no commit and leaves the flat database leaves the store,
  pub whole-same : (history : History) (entry : Entry) → is_commit (world base history) entry (answer (world base history) entry) ≡ false
      → flat base (history ++ entry ∷ []) ≡ flat base history → IsWhole base number history a b → IsWhole base number (history ++ entry ∷ []) a b
  whole-same history entry none same whole =
      subst (λ db. IsStoreIn a b db (number + length (commits base (history ++ entry ∷ [])))) (sym same)
      (subst (λ places. IsStoreIn a b (flat base history) (number + length places)) (sym (commits_same base history entry none)) whole)

  -- so does one that is no commit, of a history over a sound database,
  pub whole-uncommitted : (history : History) (entry : Entry) → Sound base → IsHistory (history ++ entry ∷ [])
      → is_commit (world base history) entry (answer (world base history) entry) ≡ false → IsWhole base number history a b
      → IsWhole base number (history ++ entry ∷ []) a b
  whole-uncommitted history entry sound entered none = whole-same history entry none (flat-same base history entry sound entered none)

  -- and one that is answered with a refusal
  pub whole-refused : (history : History) (entry : Entry) → is_refusal (answer (world base history) entry) ≡ true → IsWhole base number history a b
      → IsWhole base number (history ++ entry ∷ []) a b
  whole-refused history entry refused =
      let none : is_commit (world base history) entry (answer (world base history) entry) ≡ false = rw refused refl in
      let same : flat_after (world base history) entry (answer (world base history) entry) ≡ (world base history).flat = rw refused refl in
      whole-same history entry none (flat-append base history entry ∙ (same ∙ sym (flat-world base history)))

  -- a commit is one more, and leaves its database
  pub whole-commit : (history : History) (entry : Entry) → is_commit (world base history) entry (answer (world base history) entry) ≡ true
      → IsStoreIn a b (flat base (history ++ entry ∷ [])) (number + length (commits base history) + 1) → IsWhole base number (history ++ entry ∷ []) a b
  whole-commit history entry is whole =
      let grown = ap length (commits_last base history entry is) in
      let long = length-append (commits base history) (length history ∷ []) in
      let same : number + length (commits base history) + 1 ≡ number + length (commits base (history ++ entry ∷ [])) = omega arith in
      subst (IsStoreIn a b (flat base (history ++ entry ∷ []))) same whole

-- Once the disk has failed nothing is a commit,
pub commits-down : (base : Db) (history : History) (entry : Entry) (place : ℕ) → (world base history).down ≡ Some place
    → commits base (history ++ entry ∷ []) ≡ commits base history
commits-down base history entry place down =
    let refused : is_refusal (answer (world base history) entry) ≡ true = ap is_refusal (answer-down (world base history) entry place down) in
    let none : is_commit (world base history) entry (answer (world base history) entry) ≡ false = rw refused refl in
    commits_same base history entry none

-- and what a crash leaves is the same
pub down-whole : (base : Db) (number : ℕ) (a b : List ℕ) (history : History) (entry : Entry) (place : ℕ) → (world base history).down ≡ Some place
    → IsLeftBy base number history a b → IsLeftBy base number (history ++ entry ∷ []) a b
down-whole base number a b history entry place down (inl whole) =
    inl (whole-refused base number a b history entry (ap is_refusal (answer-down (world base history) entry place down)) whole)
down-whole base number a b history entry place down (inr late) = inr (late-more base number a b history (entry ∷ []) late)
