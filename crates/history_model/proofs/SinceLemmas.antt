-- A transaction's statements are those of its session since its BEGIN.
use Rattle.std.proofs.Common.{◌≡◌, ℕ, zero, suc, ◌+◌, ◌<◌, ◌≤◌, List, [], ◌∷◌, ◌++◌, length, Bool, true, false, refl, ap, sym, ◌∙◌, subst, append_assoc, arith, ◌==◌}
use Rattle.std.specs.Prelude.{Option, None, Some, filter_map, nat_lt, slice_get, if◌then◌else◌}
use Rattle.std.specs.List.{enumerate_from}
use Rattle.std.proofs.lemmas.Bool.{eq-eqb, eqb-false, eqb-true, lt-leb, lt-ltb, ne_eqb}
use Rattle.std.proofs.lemmas.List.{append-nil, length-append}
use Rattle.own_model.specs.declared.history.Entry.{Entry}
use Rattle.own_model.specs.declared.reply.Reply.{Reply}
use Rattle.own_model.specs.declared.reply.Reply.TheVariants.{Done}
use Rattle.own_model.specs.declared.request.Request.{Request}
use Rattle.own_model.specs.declared.request.Request.TheVariants.{Run, Syntax, Limit, End}
use Rattle.own_model.specs.declared.statement.Statement.{Statement}
use Rattle.own_model.specs.declared.statement.Statement.TheVariants as statement
use Rattle.own_model.specs.Db.{Db}
use Rattle.schema_model.proofs.Places.{slice_get-append_below, slice_get-push}
use Rattle.run_model.specs.Run.{run}
use Rattle.history_model.specs.History.{History, after_request, doomed_at, after_stated, happens, is_conflict, is_failure, reply, standing, with_stated, world}
use Rattle.history_model.specs.Reply.{answer}
use Rattle.history_model.specs.Since.{IsBegun, is_left_out, is_of_block, row_statement, stated_at, stated_since}
use Rattle.history_model.specs.World.{Block, Stated, SessionStanding, Outside, Open, Doomed, World}
use Rattle.history_model.proofs.HistoryLemmas.{place-world, reply-append, reply-last, standing-append, standing-world}

-- numbered entries, one more
enumerate-last : {X : Type 0} (from : ℕ) (xs : List X) (x : X) → enumerate_from from (xs ++ x ∷ []) ≡ enumerate_from from xs ++ (from + length xs, x) ∷ []
enumerate-last from [] x = ap (λ n. (n, x) ∷ []) (omega arith)
enumerate-last from (first ∷ xs) x =
    ap (λ rest. (from, first) ∷ rest) (enumerate-last (from + 1) xs x ∙ ap (λ n. enumerate_from (from + 1) xs ++ (n, x) ∷ []) (omega arith))

abbrev listed : Option Stated → Block
listed None = []
listed (Some stated) = stated ∷ []

filter_map-last_step : {X : Type 0} (f : X → Option Stated) (first : X) (xs : List X) (x : X) (o : Option Stated) → f first ≡ o
    → filter_map f (xs ++ x ∷ []) ≡ filter_map f xs ++ listed (f x) → filter_map f (first ∷ xs ++ x ∷ []) ≡ filter_map f (first ∷ xs) ++ listed (f x)
filter_map-last_step f first xs x None is later = rw is later
filter_map-last_step f first xs x (Some stated) is later = rw is (ap (λ rest. stated ∷ rest) later)

filter_map-end : {X : Type 0} (f : X → Option Stated) (x : X) (o : Option Stated) → f x ≡ o → filter_map f (x ∷ []) ≡ listed o
filter_map-end f x None is = rw is refl
filter_map-end f x (Some stated) is = rw is refl

filter_map-last : {X : Type 0} (f : X → Option Stated) (xs : List X) (x : X) → filter_map f (xs ++ x ∷ []) ≡ filter_map f xs ++ listed (f x)
filter_map-last f [] x = filter_map-end f x _ refl
filter_map-last f (first ∷ xs) x = filter_map-last_step f first xs x _ refl (filter_map-last f xs x)

filter_map-same_step : {X : Type 0} (f : ℕ × X → Option Stated) (one : ℕ × X) (xs ys : List (ℕ × X)) (g : ℕ × X → Option Stated) (o : Option Stated)
    → f one ≡ o → g one ≡ o → filter_map f xs ≡ filter_map g ys → filter_map f (one ∷ xs) ≡ filter_map g (one ∷ ys)
filter_map-same_step f one xs ys g None f_is g_is later = rw f_is (rw g_is later)
filter_map-same_step f one xs ys g (Some stated) f_is g_is later = rw f_is (rw g_is (ap (λ rest. stated ∷ rest) later))

-- two tests that are the same at the places below a bound
filter_map-same : {X : Type 0} (f g : ℕ × X → Option Stated) (bound from : ℕ) (xs : List X) → from + length xs ≤ bound
    → ((place : ℕ) (x : X) → place < bound → f (place, x) ≡ g (place, x)) → filter_map f (enumerate_from from xs) ≡ filter_map g (enumerate_from from xs)
filter_map-same f g bound from [] within same = refl
filter_map-same f g bound from (x ∷ xs) within same =
    filter_map-same_step f (from, x) _ _ g _ refl (sym (same from x (omega arith))) (filter_map-same f g bound (from + 1) xs (omega arith) same)

-- the statements of a history with an entry more
since-append : (base : Db) (history : History) (entry : Entry) (session begun : ℕ)
    → stated_since base (history ++ entry ∷ []) session begun
    ≡ stated_since base history session begun ++ listed (stated_at session begun (length history) entry (Some (answer (world base history) entry)))
unfolding stated_since
since-append base history entry session begun =
    let longer = history ++ entry ∷ [] in
    let before = λ (numbered : ℕ × Entry). stated_at session begun numbered.0 numbered.1 (reply base history numbered.0) in
    let after = λ (numbered : ℕ × Entry). stated_at session begun numbered.0 numbered.1 (reply base longer numbered.0) in
    let same : filter_map after (enumerate_from 0 history) ≡ filter_map before (enumerate_from 0 history) =
    filter_map-same after before (length history) 0 history (omega arith)
    (λ place x lt. ap (stated_at session begun place x) (reply-append base history (entry ∷ []) place lt)) in
    let last : after (length history, entry) ≡ stated_at session begun (length history) entry (Some (answer (world base history) entry)) =
    ap (stated_at session begun (length history) entry) (reply-last base history entry) in
    let numbered : enumerate_from 0 longer ≡ enumerate_from 0 history ++ (length history, entry) ∷ [] =
    enumerate-last 0 history entry ∙ ap (λ n. enumerate_from 0 history ++ (n, entry) ∷ []) (omega arith) in
    ap (filter_map after) numbered
    ∙ (filter_map-last after (enumerate_from 0 history) (length history, entry) ∙ (ap (λ front. front ++ listed (after (length history, entry))) same
    ∙ ap (λ o. filter_map before (enumerate_from 0 history) ++ listed o) last))

-- an entry at or before the place isn't stated since
early_step : (session begun place : ℕ) (entry : Entry) (answered : Option Reply) (b : Bool) → (entry.session.0 == session) ≡ b
    → nat_lt begun place ≡ false → stated_at session begun place entry answered ≡ None
early_step session begun place entry answered true is early = rw (is, early) refl
early_step session begun place entry answered false is early = rw is refl

none_step : {X : Type 0} (f : X → Option Stated) (first : X) (rest : List X) → f first ≡ None → filter_map f rest ≡ [] → filter_map f (first ∷ rest) ≡ []
none_step f first rest is later = rw is later

none-early : (base : Db) (whole : History) (session begun from : ℕ) (history : History) → from + length history ≤ begun + 1
    → filter_map (λ (numbered : ℕ × Entry). stated_at session begun numbered.0 numbered.1 (reply base whole numbered.0)) (enumerate_from from history) ≡ []
none-early base whole session begun from [] within = refl
none-early base whole session begun from (entry ∷ history) within =
    none_step (λ (numbered : ℕ × Entry). stated_at session begun numbered.0 numbered.1 (reply base whole numbered.0)) (from, entry) (enumerate_from (from + 1) history)
    (early_step session begun from entry (reply base whole from) _ refl (lt-leb _ _ (omega arith)))
    (none-early base whole session begun (from + 1) history (omega arith))

-- so where it begins with the last entry it has stated nothing
none-last : (base : Db) (history : History) (session begun : ℕ) → length history ≤ begun + 1 → stated_since base history session begun ≡ []
unfolding stated_since
none-last base history session begun within = none-early base history session begun 0 history (omega arith)

-- what is none of the session's, takes no rows or is left out isn't stated
if-none : (b : Bool) (o : Option Stated) → o ≡ None → (if b then o else None) ≡ None
if-none true o is = is
if-none false o is = refl

module _ (session begun place : ℕ) (entry : Entry) (answered : Reply) where
  stated-other : (entry.session.0 == session) ≡ false → stated_at session begun place entry (Some answered) ≡ None
  stated-other is = rw is refl

  stated-none : row_statement entry.request ≡ None → stated_at session begun place entry (Some answered) ≡ None
  stated-none is = if-none (is_of_block session begun place entry (Some answered)) _ (rw is refl)

  stated-left_out : (entry.session.0 == session) ≡ true → is_left_out answered ≡ true → stated_at session begun place entry (Some answered) ≡ None
  stated-left_out own out = left_step _ refl
    where
      left_step : (b : Bool) → nat_lt begun place ≡ b → stated_at session begun place entry (Some answered) ≡ None
      left_step true is = rw (own, is, out) refl
      left_step false is = rw (own, is) refl

  stated-some : (asked : Statement) → row_statement entry.request ≡ Some asked → (entry.session.0 == session) ≡ true → begun < place
      → is_left_out answered ≡ false → stated_at session begun place entry (Some answered) ≡ Some (record { place = place; statement = asked })
  stated-some asked is own later kept = let after : nat_lt begun place ≡ true = lt-ltb _ _ later in rw (own, after, kept, is) refl

-- what a session's transaction is after a history: its statements since its BEGIN
record IsTold (base : Db) (history : History) (session begun : ℕ) (block : Block) : Type 0 where
  statements : block ≡ stated_since base history session begun
  begins : IsBegun base history session begun

abbrev Told : Db → History → ℕ → SessionStanding → Type 0
Told base history session Outside = Unit {0}
Told base history session (Open begun block) = IsTold base history session begun block
Told base history session (Doomed by) = Unit {0}

-- a place of a list is below its length
below-length : {X : Type 0} (xs : List X) (i : ℕ) (x : X) → slice_get xs i ≡ Some x → i < length xs
below-length [] i x is = cc
below-length (y ∷ xs) zero x is = omega arith
below-length (y ∷ xs) (suc i) x is = let more = below-length xs i x is in omega arith

module _ (base : Db) (history : History) (entry : Entry) (session : ℕ) where
  -- a BEGIN stays where it is
  begun-append : (begun : ℕ) → IsBegun base history session begun → IsBegun base (history ++ entry ∷ []) session begun
  begun-append begun is =
      let lt = below-length history begun is.entry is.at in
      record {
        entry = is.entry;
        at = slice_get-append_below history (entry ∷ []) begun lt ∙ is.at;
        own = is.own;
        request = is.request;
        done = reply-append base history (entry ∷ []) begun lt ∙ is.done;
      }

  -- an entry that isn't one of the transaction's
  told-same : (begun : ℕ) (block : Block) → IsTold base history session begun block
      → stated_at session begun (length history) entry (Some (answer (world base history) entry)) ≡ None → IsTold base (history ++ entry ∷ []) session begun block
  told-same begun block is none = record {
    statements = is.statements ∙ (sym (append-nil _) ∙ (ap (λ o. stated_since base history session begun ++ listed o) (sym none) ∙ sym (since-append base history entry session begun)));
    begins = begun-append begun is.begins;
  }

  -- and one that is
  told-more : (begun : ℕ) (block : Block) (asked : Statement) → IsTold base history session begun block
      → stated_at session begun (length history) entry (Some (answer (world base history) entry)) ≡ Some (record { place = length history; statement = asked })
      → IsTold base (history ++ entry ∷ []) session begun (block ++ record { place = length history; statement = asked } ∷ [])
  told-more begun block asked is some = record {
    statements = ap (λ front. front ++ record { place = length history; statement = asked } ∷ []) is.statements
        ∙ (ap (λ o. stated_since base history session begun ++ listed o) (sym some) ∙ sym (since-append base history entry session begun));
    begins = begun-append begun is.begins;
  }

-- a BEGIN that isn't failed is done
begin_done : (before : World) (entry : Entry) (down : Option ℕ) → before.down ≡ down → before.standing entry.session.0 ≡ Outside → entry.request ≡ Run statement.Begin
    → is_failure (answer before entry) ≡ false → answer before entry ≡ Done
unfolding answer run
begin_done before entry None up outside begin fine = rw (up, outside, begin) refl
begin_done before entry (Some failed) up outside begin fine = let never : true ≡ false = rw up at fine in cc

left_out-conflict : (answered : Reply) → is_conflict answered ≡ true → is_left_out answered ≡ true
left_out-conflict answered is = rw is refl

left_out-neither : (answered : Reply) → is_conflict answered ≡ false → is_failure answered ≡ false → is_left_out answered ≡ false
left_out-neither answered is fine = rw (is, fine) refl

left_out-failure : (answered : Reply) (b : Bool) → is_conflict answered ≡ b → is_failure answered ≡ true → is_left_out answered ≡ true
left_out-failure answered true is fails = rw is refl
left_out-failure answered false is fails = rw (is, fails) refl

module _ (base : Db) (history : History) (entry : Entry) (session : ℕ) (own : (entry.session.0 == session) ≡ true) where
  -- the session's transaction after an entry of its own that takes rows
  told_stated : (begun : ℕ) (block : Block) (asked : Statement) → row_statement entry.request ≡ Some asked → is_failure (answer (world base history) entry) ≡ false
      → IsTold base history session begun block → (b : Bool) → is_conflict (answer (world base history) entry) ≡ b
      → Told base (history ++ entry ∷ []) session (with_stated (length history) begun block asked b)
  told_stated begun block asked is fine told true conflicts =
      told-same base history entry session begun block told
      (stated-left_out session begun (length history) entry _ own (left_out-conflict (answer (world base history) entry) conflicts))
  told_stated begun block asked is fine told false conflicts =
      told-more base history entry session begun block asked told
      (stated-some session begun (length history) entry _ asked is own (below-length history begun told.begins.entry told.begins.at)
      (left_out-neither (answer (world base history) entry) conflicts fine))

  -- and after one that doesn't
  told_kept : (begun : ℕ) (block : Block) → row_statement entry.request ≡ None → IsTold base history session begun block → IsTold base (history ++ entry ∷ []) session begun block
  told_kept begun block is told = told-same base history entry session begun block told (stated-none session begun (length history) entry _ is)

  -- a transaction that begins
  told_begun : entry.request ≡ Run statement.Begin → answer (world base history) entry ≡ Done → IsTold base (history ++ entry ∷ []) session (length history) []
  told_begun is done = record {
    statements = sym (none-last base (history ++ entry ∷ []) session (length history) (let long = length-append history (entry ∷ []) in omega arith));
    begins = record {
      entry = entry;
      at = slice_get-push history entry;
      own = eqb-true _ _ own;
      request = is;
      done = reply-last base history entry ∙ ap Some done;
    };
  }

  told_within : (begun : ℕ) (block : Block) (asked : Statement) → entry.request ≡ Run asked → is_failure (answer (world base history) entry) ≡ false
      → IsTold base history session begun block
      → Told base (history ++ entry ∷ []) session (after_stated (length history) begun block asked (is_conflict (answer (world base history) entry)))
  told_within begun block (statement.Select select) is fine told = told_stated begun block (statement.Select select) (rw is refl) fine told _ refl
  told_within begun block (statement.Insert table columns rows) is fine told = told_stated begun block (statement.Insert table columns rows) (rw is refl) fine told _ refl
  told_within begun block (statement.Update table sets cond) is fine told = told_stated begun block (statement.Update table sets cond) (rw is refl) fine told _ refl
  told_within begun block (statement.Delete table cond) is fine told = told_stated begun block (statement.Delete table cond) (rw is refl) fine told _ refl
  told_within begun block statement.Commit is fine told = tt
  told_within begun block statement.Rollback is fine told = tt
  told_within begun block (statement.CreateTable table) is fine told = told_kept begun block (rw is refl) told
  told_within begun block (statement.CreateView view) is fine told = told_kept begun block (rw is refl) told
  told_within begun block statement.Begin is fine told = told_kept begun block (rw is refl) told
  told_within begun block (statement.GdprGet table key) is fine told = told_kept begun block (rw is refl) told
  told_within begun block (statement.GdprForget table key) is fine told = told_kept begun block (rw is refl) told
  told_within begun block statement.Explain is fine told = told_kept begun block (rw is refl) told
  told_within begun block statement.Checkpoint is fine told = told_kept begun block (rw is refl) told

  told_outside : (asked : Statement) → entry.request ≡ Run asked → (world base history).standing session ≡ Outside → is_failure (answer (world base history) entry) ≡ false
      → (conflicts : Bool) → Told base (history ++ entry ∷ []) session (after_request (length history) Outside (Run asked) conflicts)
  told_outside statement.Begin is outside fine conflicts =
      told_begun is (begin_done (world base history) entry _ refl (ap (world base history).standing (eqb-true _ _ own) ∙ outside) is fine)
  told_outside (statement.Select select) is outside fine conflicts = tt
  told_outside (statement.Insert table columns rows) is outside fine conflicts = tt
  told_outside (statement.Update table sets cond) is outside fine conflicts = tt
  told_outside (statement.Delete table cond) is outside fine conflicts = tt
  told_outside statement.Commit is outside fine conflicts = tt
  told_outside statement.Rollback is outside fine conflicts = tt
  told_outside (statement.CreateTable table) is outside fine conflicts = tt
  told_outside (statement.CreateView view) is outside fine conflicts = tt
  told_outside (statement.GdprGet table key) is outside fine conflicts = tt
  told_outside (statement.GdprForget table key) is outside fine conflicts = tt
  told_outside statement.Explain is outside fine conflicts = tt
  told_outside statement.Checkpoint is outside fine conflicts = tt

  told_request : (before : SessionStanding) (request : Request) → (world base history).standing session ≡ before → entry.request ≡ request
      → is_failure (answer (world base history) entry) ≡ false → Told base history session before
      → Told base (history ++ entry ∷ []) session (after_request (length history) before request (is_conflict (answer (world base history) entry)))
  told_request (Doomed by) request stands is fine told = tt
  told_request Outside (Run asked) stands is fine told = told_outside asked is stands fine _
  told_request Outside (Syntax byte) stands is fine told = tt
  told_request Outside (Limit passed) stands is fine told = tt
  told_request Outside End stands is fine told = tt
  told_request (Open begun block) (Run asked) stands is fine told = told_within begun block asked is fine told
  told_request (Open begun block) (Syntax byte) stands is fine told = told_kept begun block (rw is refl) told
  told_request (Open begun block) (Limit passed) stands is fine told = told_kept begun block (rw is refl) told
  told_request (Open begun block) End stands is fine told = tt

module _ (base : Db) (history : History) (entry : Entry) (session : ℕ) where
  -- after an entry of its own that failed
  told_failed : (before : SessionStanding) → (entry.session.0 == session) ≡ true → is_failure (answer (world base history) entry) ≡ true
      → Told base history session before → Told base (history ++ entry ∷ []) session before
  told_failed Outside own fails told = tt
  told_failed (Doomed by) own fails told = tt
  told_failed (Open begun block) own fails told = told-same base history entry session begun block told
      (stated-left_out session begun (length history) entry _ own (left_out-failure (answer (world base history) entry) _ refl fails))

  -- after an entry of another session
  told_other : (before : SessionStanding) (b : Bool) → (entry.session.0 == session) ≡ false → Told base history session before
      → Told base (history ++ entry ∷ []) session (if b then doomed_at (world base history).place before else before)
  told_other Outside true other told = tt
  told_other Outside false other told = tt
  told_other (Doomed by) true other told = tt
  told_other (Doomed by) false other told = tt
  told_other (Open begun block) true other told = tt
  told_other (Open begun block) false other told = told-same base history entry session begun block told (stated-other session begun (length history) entry _ other)

  told_own : (b : Bool) → (entry.session.0 == session) ≡ true → is_failure (answer (world base history) entry) ≡ b
      → Told base history session ((world base history).standing session)
      → Told base (history ++ entry ∷ []) session (if b then (world base history).standing session
      else after_request (length history) ((world base history).standing session) entry.request (is_conflict (answer (world base history) entry)))
  told_own true own is told = told_failed _ own is told
  told_own false own is told = told_request base history entry session own _ _ refl refl is told

  told_step : (b : Bool) → (entry.session.0 == session) ≡ b → Told base history session ((world base history).standing session)
      → Told base (history ++ entry ∷ []) session ((happens (world base history) entry).standing session)
  told_step true own told =
      let same : session ≡ entry.session.0 = sym (eqb-true _ _ own) in
      let here : (session == entry.session.0) ≡ true = eq-eqb session entry.session.0 same in
      let at : ℕ → ℕ → Type 0 = λ place s. Told base (history ++ entry ∷ []) session (if is_failure (answer (world base history) entry) then (world base history).standing s
      else after_request place ((world base history).standing s) entry.request (is_conflict (answer (world base history) entry))) in
      let own_told : at (length history) session = told_own _ own refl told in
      rw here (subst (λ place. at place entry.session.0) (sym (place-world base history)) (subst (at (length history)) same own_told))
  told_step false other told =
      let there : (session == entry.session.0) ≡ false = ne_eqb session entry.session.0 (λ same. eqb-false entry.session.0 session other (sym same)) in
      rw there (told_other _ _ other told)

  told_more_history : Told base history session (standing base history session) → Told base (history ++ entry ∷ []) session (standing base (history ++ entry ∷ []) session)
  told_more_history told =
      subst (Told base (history ++ entry ∷ []) session) (sym (standing-append base history entry session))
      (told_step _ refl (subst (Told base history session) (standing-world base history session) told))

told_fold : (base : Db) (session : ℕ) (done rest : History) → Told base done session (standing base done session) → Told base (done ++ rest) session (standing base (done ++ rest) session)
told_fold base session done [] told = subst (λ h. Told base h session (standing base h session)) (sym (append-nil done)) told
told_fold base session done (entry ∷ rest) told =
    subst (λ h. Told base h session (standing base h session)) (append_assoc done (entry ∷ []) rest)
    (told_fold base session (done ++ entry ∷ []) rest (told_more_history base done entry session told))

-- before any entry none is open
told_start : (base : Db) (session : ℕ) → Told base [] session (standing base [] session)
unfolding standing world
told_start base session = tt

-- what each session's transaction is after any history
told : (base : Db) (history : History) (session : ℕ) → Told base history session (standing base history session)
told base history session = told_fold base session [] history (told_start base session)

-- a transaction that is open began at a BEGIN, and its statements are those since
pub block-told : (base : Db) (history : History) (session begun : ℕ) (block : Block) → standing base history session ≡ Open begun block
    → (block ≡ stated_since base history session begun) × IsBegun base history session begun
block-told base history session begun block is =
    let has : IsTold base history session begun block = subst (Told base history session) is (told base history session) in
    (has.statements, has.begins)
