-- Entries that are no look, and statements that read alone, outside a transaction: neither the state nor the disk is changed by those.
use Rattle.std.proofs.Common.{◌≡◌, ◌∙◌, ℕ, List, Bool, true, false, ap, inr, refl, subst, sym}
use Rattle.std.specs.Prelude.{Option, None, Some, Result, Ok, Err, IfOk, if◌then◌else◌}
use Rattle.own_base.specs.declared.number.Area.{Area}
use Rattle.own_base.specs.declared.number.Area.TheVariants.{A, B}
use Rattle.own_base.specs.declared.number.Place.{Place}
use Rattle.own_base.specs.declared.row_name.RowName.{RowName}
use Rattle.own_model.specs.declared.bound.Bound.{Bound}
use Rattle.own_model.specs.declared.bound.Bound.TheVariants.{Explain}
use Rattle.own_model.specs.declared.history.Entry.{Entry}
use Rattle.own_model.specs.declared.history.Verdict.{Verdict}
use Rattle.own_model.specs.declared.history.Verdict.TheVariants.{Took, DiskFault}
use Rattle.own_model.specs.declared.refusal.Refusal.{Refusal}
use Rattle.own_model.specs.declared.reply.Reply.{Reply}
use Rattle.own_model.specs.declared.reply.Reply.TheVariants.{Got, Graph, Refused}
use Rattle.own_model.specs.declared.request.Request.{Request}
use Rattle.own_model.specs.declared.request.Request.TheVariants.{Run, Syntax, Limit, End}
use Rattle.own_model.specs.declared.schema.Schema.{Schema}
use Rattle.own_model.specs.declared.select.Select.{Select}
use Rattle.own_model.specs.declared.statement.Statement.{Statement}
use Rattle.own_model.specs.declared.statement.Statement.TheVariants as of
use Rattle.own_model.specs.Db.{Db}
use Rattle.query_model.specs.BoundStatement.{bound_statement, bound_unless, faults, meaning}
use Rattle.query_model.specs.Refused.{lowest}
use Rattle.schema_model.specs.Explained.{explained}
use Rattle.subject_model.specs.Get.{get}
use Rattle.subject_model.specs.Named.{is_there}
use Rattle.run_model.specs.Run.{answered, run, run_bound, run_unless, show_subject}
use Rattle.history_model.specs.AsksDisk.{asks_disk, under}
use Rattle.history_model.specs.Commits.{is_commit, is_create}
use Rattle.history_model.specs.Held.{held, items_held}
use Rattle.history_model.specs.History.{History, after_request, flat_after, forgotten, happens, is_conflict, is_disk, is_failure, left_by, own_after, world}
use Rattle.history_model.specs.Reply.{answer, is_refusal, reply_in, reply_outside}
use Rattle.history_model.specs.World.{SessionStanding, Outside, Open, Doomed, World}
use Rattle.history_model.proofs.DoomLemmas.{undoomed}
use Rattle.history_model.proofs.Working.{answer-works}
use Rattle.row_locks.specs.SessionItems.{items_by as held_by}
use Rattle.row_locks.specs.RepresentsItems.{RepresentsItems}
use Rattle.txn_core.specs.declared.session_state.SessionState.TheVariants as kept
use Rattle.txn_core.specs.SessionStates.{RepresentsSession, doom_of, is_open, state_by}
use Rattle.txn_core.proofs.Statements.{none_moved}
use Rattle.serve_model.specs.Look.{if_bound, look_of, looked_at, read_of, while_up}
use Rattle.serve_model.proofs.LookLemmas.{look-answered}
use Rattle.store_disk.specs.declared.store_disk.StoreDisk.{StoreDisk}
use Rattle.crash_model.specs.Room.{bytes_written, lays_anew}
use Rattle.engine_core.specs.Asked.{RunsByItself, reads_alone}
use Rattle.engine_core.specs.Came.{reply_by, told_of, verdict_by, ComesAs, ComesTo, IsReadAs, IsReadOf, IsReplied, MayBeRead}
use Rattle.engine_core.specs.RepresentsWorld.{IsEvent, RepresentsWorld, Serves, ServesAlone}
use Rattle.engine_core.specs.Stored.{Carries, IsUp, Stores}
use Rattle.engine_core.specs.declared.came.Came.{Came}
use Rattle.engine_core.specs.declared.came.Came.TheVariants.{Look, Replied}
use Rattle.engine_core.specs.declared.state.State.{State}
use Rattle.engine_core.proofs.CalmEvents.{others-same, stands-calm}
use Rattle.engine_core.proofs.Decided.{event-under, serves-alone, stores-alone, took-works}
use Rattle.engine_core.proofs.NextWorlds.{answer-in, own-in}
use Rattle.engine_core.proofs.Stood.{stood-doomed, stood-open, stood-outside}
use Rattle.engine_core.proofs.UnmadeEvents.{unmade-outside}

-- ---- entries that are no look

none_up : (down : Option ℕ) → while_up down None ≡ None
none_up None = refl
none_up (Some failed) = refl

-- a look's entry comes while the disk hasn't failed
up_step : (down : Option ℕ) (given : Option Bound) (bound : Bound) → while_up down given ≡ Some bound → down ≡ None
up_step None given bound is = refl
up_step (Some failed) given bound is = let never : ◌≡◌ {A = Option Bound} None (Some bound) = is in absurd (cc)

-- a request that is no statement
abbrev pub IsPrompt : Request → Type 0
IsPrompt (Run asked) = ⊥
IsPrompt (Syntax byte) = Unit {0}
IsPrompt (Limit passed) = Unit {0}
IsPrompt End = Unit {0}

prompt_step : (schema : Schema) (standing : SessionStanding) (request : Request) → IsPrompt request → looked_at schema standing request ≡ None
prompt_step schema Outside (Run asked) prompt = absurd prompt
prompt_step schema Outside (Syntax byte) prompt = refl
prompt_step schema Outside (Limit passed) prompt = refl
prompt_step schema Outside End prompt = refl
prompt_step schema (Open begun block) request prompt = refl
prompt_step schema (Doomed by) request prompt = refl

-- a session that isn't outside
abbrev pub IsWithin : SessionStanding → Type 0
IsWithin Outside = ⊥
IsWithin (Open begun block) = Unit {0}
IsWithin (Doomed by) = Unit {0}

within_step : (schema : Schema) (standing : SessionStanding) (request : Request) → IsWithin standing → looked_at schema standing request ≡ None
within_step schema Outside request within = absurd within
within_step schema (Open begun block) request within = refl
within_step schema (Doomed by) request within = refl

-- a statement that doesn't read alone
unread : (schema : Schema) (asked : Statement) → reads_alone asked ≡ false → read_of schema asked ≡ None
unread schema (of.Select select) changes = let never : true ≡ false = changes in absurd (cc)
unread schema (of.GdprGet table key) changes = let never : true ≡ false = changes in absurd (cc)
unread schema of.Explain changes = let never : true ≡ false = changes in absurd (cc)
unread schema (of.CreateTable table) changes = refl
unread schema (of.CreateView view) changes = refl
unread schema (of.Insert table columns rows) changes = refl
unread schema (of.Update table sets cond) changes = refl
unread schema (of.Delete table cond) changes = refl
unread schema of.Begin changes = refl
unread schema of.Commit changes = refl
unread schema of.Rollback changes = refl
unread schema (of.GdprForget table key) changes = refl
unread schema of.Checkpoint changes = refl

changes_step : (schema : Schema) (standing : SessionStanding) (asked : Statement) → reads_alone asked ≡ false → looked_at schema standing (Run asked) ≡ None
changes_step schema Outside asked changes = unread schema asked changes
changes_step schema (Open begun block) asked changes = refl
changes_step schema (Doomed by) asked changes = refl

module _ (now : World) (entry : Entry) where
  no_look : looked_at now.flat.schema (now.standing entry.session.0) entry.request ≡ None → look_of now entry ≡ None
  unfolding look_of
  no_look none = ap (while_up now.down) none ∙ none_up now.down

  pub no-look-down : (failed : ℕ) → now.down ≡ Some failed → look_of now entry ≡ None
  unfolding look_of
  no-look-down failed is = ap (λ down. while_up down (looked_at now.flat.schema (now.standing entry.session.0) entry.request)) is

  pub no-look-prompt : (request : Request) → entry.request ≡ request → IsPrompt request → look_of now entry ≡ None
  no-look-prompt request asks prompt =
      no_look
      (ap (looked_at now.flat.schema (now.standing entry.session.0)) asks ∙ prompt_step now.flat.schema (now.standing entry.session.0) request prompt)

  pub no-look-changing : (asked : Statement) → entry.request ≡ Run asked → reads_alone asked ≡ false → look_of now entry ≡ None
  no-look-changing asked asks changes =
      no_look
      (ap (looked_at now.flat.schema (now.standing entry.session.0)) asks ∙ changes_step now.flat.schema (now.standing entry.session.0) asked changes)

  no_look_within : (standing : SessionStanding) → now.standing entry.session.0 ≡ standing → IsWithin standing → look_of now entry ≡ None
  no_look_within standing stands within =
      no_look (ap (λ standing. looked_at now.flat.schema standing entry.request) stands ∙ within_step now.flat.schema standing entry.request within)

  -- a look doesn't ask the disk
  look_up : (bound : Bound) → look_of now entry ≡ Some bound → now.down ≡ None
  unfolding look_of
  look_up bound is = up_step now.down _ bound is

  pub look-unasked : (bound : Bound) → look_of now entry ≡ Some bound → asks_disk now entry ≡ false
  unfolding asks_disk
  look-unasked bound is =
      ap is_disk (look-answered now entry bound DiskFault is ∙ sym (look-answered now entry bound Took is)) ∙ took-works now (under Took entry) refl (look_up bound is)

module _ (history : History) (entry : Entry) (before : State) (event : IsEvent before history entry) where
  -- of a session that is doomed
  pub no-look-doomed : (place : Place) → doom_of (state_by before.txns.states entry.session.0) ≡ Some place → look_of (world before.opened history) entry ≡ None
  no-look-doomed place doom =
      let now = world before.opened history in
      no_look_within now entry (Doomed place.0)
      (stood-doomed now.flat (state_by before.txns.states entry.session.0) (now.standing entry.session.0) place (event.stands.states entry.session.0) doom) tt

  -- or in a transaction
  pub no-look-inside : is_open (state_by before.txns.states entry.session.0) ≡ true → look_of (world before.opened history) entry ≡ None
  no-look-inside opened =
      let now = world before.opened history in
      let is = stood-open now.flat (state_by before.txns.states entry.session.0) (now.standing entry.session.0) (event.stands.states entry.session.0) opened in
      no_look_within now entry (Open is.begun is.block) is.stands tt

-- ---- statements that read alone

-- such a statement runs by itself, creates nothing and forgets no one
reads_itself : (asked : Statement) → reads_alone asked ≡ true → RunsByItself asked
reads_itself (of.Select select) reads = tt
reads_itself (of.GdprGet table key) reads = tt
reads_itself of.Explain reads = tt
reads_itself _ reads = let never : false ≡ true = reads in absurd (cc)

creates_none : (asked : Statement) → reads_alone asked ≡ true → is_create (Run asked) ≡ false
creates_none (of.Select select) reads = refl
creates_none (of.GdprGet table key) reads = refl
creates_none of.Explain reads = refl
creates_none _ reads = let never : false ≡ true = reads in absurd (cc)

forgets_none : (schema : Schema) (asked : Statement) → reads_alone asked ≡ true → forgotten schema (Run asked) ≡ None
forgets_none schema (of.Select select) reads = refl
forgets_none schema (of.GdprGet table key) reads = refl
forgets_none schema of.Explain reads = refl
forgets_none schema _ reads = let never : false ≡ true = reads in absurd (cc)

-- it leaves its session outside, and is told what it shows, whatever the disk says
stays_outside : (place : ℕ) (asked : Statement) (conflicts : Bool) → reads_alone asked ≡ true → after_request place Outside (Run asked) conflicts ≡ Outside
stays_outside place (of.Select select) conflicts reads = refl
stays_outside place (of.GdprGet table key) conflicts reads = refl
stays_outside place of.Explain conflicts reads = refl
stays_outside place _ conflicts reads = let never : false ≡ true = reads in absurd (cc)

told_outside : (now : World) (session : ℕ) (verdict : Verdict) (asked : Statement) → reads_alone asked ≡ true → reply_outside now session verdict asked ≡ (run now.flat asked).reply
told_outside now session verdict (of.Select select) reads = refl
told_outside now session verdict (of.GdprGet table key) reads = refl
told_outside now session verdict of.Explain reads = refl
told_outside now session verdict _ reads = let never : false ≡ true = reads in absurd (cc)

-- it leaves the database
shown_step : (b : Bool) (db : Db) (reply why : Reply) → (if b then answered db reply else answered db why).db ≡ db
shown_step true db reply why = refl
shown_step false db reply why = refl

shown_left : (db : Db) (subject : RowName) → (show_subject db subject).db ≡ db
unfolding show_subject
shown_left db subject = shown_step (is_there db subject) db (Got (get db subject)) _

left_unless : (db : Db) (first : Option Refusal) (means : Bound) → (run_bound db means).db ≡ db → (run_unless db (bound_unless first means)).db ≡ db
left_unless db None means left = left
left_unless db (Some why) means left = refl

select_left : (db : Db) (select : Select) → (run_bound db (meaning db.schema (of.Select select))).db ≡ db
unfolding run_bound meaning
select_left db select = refl

get_left : (db : Db) (table : _) (key : _) → (run_bound db (meaning db.schema (of.GdprGet table key))).db ≡ db
unfolding run_bound meaning
get_left db table key = shown_left db _

left_alone : (db : Db) (asked : Statement) → reads_alone asked ≡ true → (run db asked).db ≡ db
unfolding run bound_statement
left_alone db (of.Select select) reads = left_unless db (lowest (faults db.schema (of.Select select))) (meaning db.schema (of.Select select)) (select_left db select)
left_alone db (of.GdprGet table key) reads = left_unless db (lowest (faults db.schema (of.GdprGet table key))) (meaning db.schema (of.GdprGet table key)) (get_left db table key)
left_alone db of.Explain reads = refl
left_alone db _ reads = let never : false ≡ true = reads in absurd (cc)

-- nothing is wrong with EXPLAIN, which shows the schema
never_refused : (schema : Schema) (why : Refusal) → bound_statement schema of.Explain ≡ Err why → ⊥
unfolding bound_statement faults meaning lowest
never_refused schema why is = let never : ◌≡◌ {A = Result Bound Refusal} (Ok Explain) (Err why) = is in cc

explain_read : (schema : Schema) (bound : Bound) → bound_statement schema of.Explain ≡ Ok bound → Some Explain ≡ Some bound
unfolding bound_statement faults meaning lowest
explain_read schema bound is = ap if_bound is

explain_shown : (db : Db) (bound : Bound) → bound_statement db.schema of.Explain ≡ Ok bound → (run_bound db bound).reply ≡ Graph (explained db.schema)
unfolding bound_statement faults meaning lowest run_bound
explain_shown db bound is = sym (ap (λ known. (run_unless db known).reply) is)

-- where binding lets it through it is a look at what it means, and runs as that
read_meant : (schema : Schema) (asked : Statement) (bound : Bound) → reads_alone asked ≡ true → bound_statement schema asked ≡ Ok bound → read_of schema asked ≡ Some bound
read_meant schema (of.Select select) bound reads is = ap if_bound is
read_meant schema (of.GdprGet table key) bound reads is = ap if_bound is
read_meant schema of.Explain bound reads is = explain_read schema bound is
read_meant schema _ bound reads is = let never : false ≡ true = reads in absurd (cc)

run_meant : (db : Db) (asked : Statement) (bound : Bound) → reads_alone asked ≡ true → bound_statement db.schema asked ≡ Ok bound → (run_bound db bound).reply ≡ (run db asked).reply
unfolding run
run_meant db (of.Select select) bound reads is = sym (ap (λ known. (run_unless db known).reply) is)
run_meant db (of.GdprGet table key) bound reads is = sym (ap (λ known. (run_unless db known).reply) is)
run_meant db of.Explain bound reads is = explain_shown db bound is
run_meant db _ bound reads is = let never : false ≡ true = reads in absurd (cc)

-- where it doesn't, it is none, and that is told
read_refused : (schema : Schema) (asked : Statement) (why : Refusal) → reads_alone asked ≡ true → bound_statement schema asked ≡ Err why → read_of schema asked ≡ None
read_refused schema (of.Select select) why reads is = ap if_bound is
read_refused schema (of.GdprGet table key) why reads is = ap if_bound is
read_refused schema of.Explain why reads is = absurd (never_refused schema why is)
read_refused schema _ why reads is = let never : false ≡ true = reads in absurd (cc)

run_refused : (db : Db) (asked : Statement) (why : Refusal) → reads_alone asked ≡ true → bound_statement db.schema asked ≡ Err why → Refused why ≡ (run db asked).reply
unfolding run
run_refused db (of.Select select) why reads is = sym (ap (λ known. (run_unless db known).reply) is)
run_refused db (of.GdprGet table key) why reads is = sym (ap (λ known. (run_unless db known).reply) is)
run_refused db of.Explain why reads is = absurd (never_refused db.schema why is)
run_refused db _ why reads is = let never : false ≡ true = reads in absurd (cc)

reply_read : (db : Db) (asked : Statement) → reads_alone asked ≡ true → (came : Came) → IsReadOf db asked came → reply_by came ≡ (run db asked).reply
reply_read db asked reads (Replied verdict reply) read = read.2 ∙ run_refused db asked read.0 reads read.3
reply_read db asked reads (Look shown bound) read = ap (λ db. (run_bound db bound).reply) read.0 ∙ run_meant db asked bound reads read.1

verdict_read : (db : Db) (asked : Statement) (came : Came) → IsReadOf db asked came → verdict_by came ≡ Took
verdict_read db asked (Replied verdict reply) read = read.1
verdict_read db asked (Look shown bound) read = refl

-- ---- over the state that is kept

module _ (history : History) (entry : Entry) (before : State) (event : IsEvent before history entry) (nothing : state_by before.txns.states entry.session.0 ≡ kept.Nothing)
    (asked : Statement) (asks : entry.request ≡ Run asked) (reads : reads_alone asked ≡ true) where
  abbrev now : World
  now = world before.opened history

  abbrev session : ℕ
  session = entry.session.0

  outside : now.standing session ≡ Outside
  outside = stood-outside now.flat (state_by before.txns.states session) (now.standing session) (event.stands.states session) nothing

  told_read : answer (world before.opened history) entry ≡ (run (world before.opened history).flat asked).reply
  told_read =
      answer-in history entry event.entries event.is_entry before event.begun event.stands event.up
      ∙ ((λ i. reply_in now session entry.verdict (outside i) (asks i)) ∙ told_outside now session entry.verdict asked reads)

  look_is : look_of (world before.opened history) entry ≡ read_of before.version.schema asked
  unfolding look_of
  look_is =
      (λ i. while_up (event.up i) (looked_at now.flat.schema (outside i) (asks i)))
      ∙ ap (λ (db : Db). read_of db.schema asked) (sym event.stands.flat)

  comes_read : (came : Came) → IsReadOf before.version asked came → ComesTo (world before.opened history) entry came
  comes_read (Replied verdict reply) read = look_is ∙ read_refused before.version.schema asked read.0 reads read.3
  comes_read (Look shown bound) read = (look_is ∙ read_meant before.version.schema asked bound reads read.1, read.0 ∙ event.stands.flat)

  calm : flat_after now entry (answer now entry) ≡ now.flat
  calm = by (is_refusal (answer now entry))
    where
      left : left_by now.flat (now.standing session) entry.request ≡ now.flat
      left = (λ i. left_by now.flat (outside i) (asks i)) ∙ left_alone now.flat asked reads

      by : (b : Bool) → (if b then now.flat else left_by now.flat (now.standing session) entry.request) ≡ now.flat
      by true = refl
      by false = left

  own_read : is_failure (answer now entry) ≡ false → own_after now entry (answer now entry) ≡ Outside
  own_read works =
      own-in history entry event.entries event.is_entry before event.begun event.stands event.up works
      ∙ ((λ i. after_request now.place (outside i) (asks i) (is_conflict (answer now entry))) ∙ stays_outside now.place asked (is_conflict (answer now entry)) reads)

  stands_read : is_failure (answer (world before.opened history) entry) ≡ false → RepresentsWorld before (happens (world before.opened history) entry)
  unfolding held
  stands_read works =
      stands-calm history entry before before event Outside refl refl (others-same session before.txns before.txns (none_moved before.txns)) calm
      (λ other. undoomed now entry (answer now entry) other (ap (forgotten now.flat.schema) asks ∙ forgets_none now.flat.schema asked reads)) (own_read works)
      (subst (λ one. RepresentsSession now.flat one Outside) (sym nothing) tt)
      (subst (λ stood. RepresentsItems (held_by before.txns.held session) (items_held now.flat.schema stood)) outside (event.stands.held session))

module _ (history : History) (entry : Entry) (before : State) (event : IsEvent before history entry) (nothing : state_by before.txns.states entry.session.0 ≡ kept.Nothing)
    (asked : Statement) (asks : entry.request ≡ Run asked) (reads : reads_alone asked ≡ true) where
  abbrev was : World
  was = world before.opened history

  abbrev shown : Reply
  shown = (run before.version asked).reply

  -- it is told what it shows, whatever the disk says of its entry
  told_under : (verdict : Verdict) → answer was (under verdict entry) ≡ (run was.flat asked).reply
  told_under verdict = told_read history (under verdict entry) before (event-under history entry before verdict event) nothing asked asks reads

  works_under : (verdict : Verdict) → is_failure (answer was (under verdict entry)) ≡ false
  works_under verdict = ap is_failure (told_under verdict ∙ sym (told_under Took)) ∙ answer-works was (under Took entry) refl event.up

  serves_under : (verdict : Verdict) → ServesAlone {E = ℕ} before.opened before history (under verdict entry) (Ok shown)
  serves_under verdict = (
    told_under verdict ∙ ap (λ (db : Db). (run db asked).reply) (sym event.stands.flat),
    stands_read history (under verdict entry) before (event-under history entry before verdict event) nothing asked asks reads (works_under verdict),
  )

  works : is_disk shown ≡ false
  works = sym (ap is_disk (serves_under Took).0) ∙ took-works was (under Took entry) refl event.up

  served_came : (came : Came) → IsReadOf before.version asked came → Serves {E = ℕ} before.opened before history entry (Ok (verdict_by came, reply_by came))
  served_came came read =
      subst (λ verdict. Serves {E = ℕ} before.opened before history entry (Ok (verdict, reply_by came))) (sym (verdict_read before.version asked came read))
      (subst (λ reply. Serves {E = ℕ} before.opened before history entry (Ok (Took, reply))) (sym (reply_read before.version asked reads came read))
      (serves-alone history entry before before event shown serves_under works))

  -- by what it came to: it is served, and comes to a look just where it is one
  pub served-read : {E : Type 0} (result : Result Came E) → IfOk result (IsReadOf before.version asked) → Serves before.opened before history entry (told_of result)
  served-read (Ok came) read = served_came came read
  served-read (Err refused) read = (event.stands, unmade-outside history entry before event nothing asked asks (reads_itself asked reads))

  pub come-read : {E : Type 0} (result : Result Came E) → IfOk result (IsReadOf before.version asked) → IfOk result (ComesTo (world before.opened history) entry)
  come-read (Ok came) read = comes_read history entry before event nothing asked asks reads came read
  come-read (Err refused) read = tt

  -- and the disk is left as it was
  pub stored-read : {D E : Type 0} (holds : D → Area → List ℕ) (leaves : D → Area → List ℕ → Type 0) (moment : D → ℕ) (might_have_left : D → ℕ → List ℕ → List ℕ → Type 0)
      → ((disk : D) (a b : List ℕ) → might_have_left disk (moment disk) a b → leaves disk A a × leaves disk B b) → (honest : D → Bool) (faults : D → ℕ) (store : StoreDisk D)
      → IsUp holds leaves honest store before.version → entry.verdict ≡ Took → (result : Result Came E) → IfOk result (IsReadOf before.version asked)
      → Stores holds leaves moment might_have_left honest faults (world before.opened history) entry store (told_of result) store
  stored-read holds leaves moment might_have_left only_now honest faults store up took (Ok came) read =
      subst (λ verdict. Carries holds leaves moment might_have_left honest faults was.flat (happens was entry).flat (asks_disk was entry) (is_commit was entry (answer was entry))
      (lays_anew entry.request) (bytes_written was entry store.commits) store verdict store) (sym (verdict_read before.version asked came read))
      (stores-alone history entry before before event shown serves_under works took refl (inr (ap is_create asks ∙ creates_none asked reads)) holds leaves moment might_have_left only_now honest faults store up)
  stored-read holds leaves moment might_have_left only_now honest faults store up took (Err refused) read = refl

  -- the same where a look may have been answered at once
  pub served-as : {E : Type 0} (at_once : Bool) (result : Result Came E) → IfOk result (IsReadAs at_once before.version asked) → Serves before.opened before history entry (told_of result)
  served-as at_once (Ok now) read =
      subst (λ verdict. Serves {E = ℕ} before.opened before history entry (Ok (verdict, reply_by now))) (sym read.answered.verdict)
      (subst (λ reply. Serves {E = ℕ} before.opened before history entry (Ok (verdict_by read.came, reply))) (sym read.answered.reply) (served_came read.came read.read))
  served-as at_once (Err refused) read = served-read (Err refused) tt

  pub come-as : {E : Type 0} (at_once : Bool) (result : Result Came E) → IfOk result (IsReadAs at_once before.version asked) → IfOk result (ComesAs at_once (world before.opened history) entry)
  come-as true (Ok now) read = read.answered.replied refl
  come-as false (Ok now) read =
      subst (ComesTo (world before.opened history) entry) (sym (read.answered.kept refl)) (comes_read history entry before event nothing asked asks reads read.came read.read)
  come-as true (Err refused) read = tt
  come-as false (Err refused) read = tt

  pub stored-as : {D E : Type 0} (holds : D → Area → List ℕ) (leaves : D → Area → List ℕ → Type 0) (moment : D → ℕ) (might_have_left : D → ℕ → List ℕ → List ℕ → Type 0)
      → ((disk : D) (a b : List ℕ) → might_have_left disk (moment disk) a b → leaves disk A a × leaves disk B b) → (honest : D → Bool) (faults : D → ℕ) (store : StoreDisk D)
      → IsUp holds leaves honest store before.version → entry.verdict ≡ Took → (at_once : Bool) (result : Result Came E) → IfOk result (IsReadAs at_once before.version asked)
      → Stores holds leaves moment might_have_left honest faults (world before.opened history) entry store (told_of result) store
  stored-as holds leaves moment might_have_left only_now honest faults store up took at_once (Ok now) read =
      subst (λ verdict. Carries holds leaves moment might_have_left honest faults was.flat (happens was entry).flat (asks_disk was entry) (is_commit was entry (answer was entry))
      (lays_anew entry.request) (bytes_written was entry store.commits) store verdict store) (sym read.answered.verdict)
      (stored-read {E = ℕ} holds leaves moment might_have_left only_now honest faults store up took (Ok read.came) read.read)
  stored-as holds leaves moment might_have_left only_now honest faults store up took at_once (Err refused) read = refl

-- a reply is what an entry comes to either way
pub comes-as : (at_once : Bool) (world : World) (entry : Entry) (came : Came) → IsReplied came → ComesTo world entry came → ComesAs at_once world entry came
comes-as true world entry came replied comes = replied
comes-as false world entry came replied comes = comes

pub comes-if : {E : Type 0} (at_once : Bool) (world : World) (entry : Entry) (result : Result Came E) → IfOk result IsReplied → IfOk result (ComesTo world entry)
    → IfOk result (ComesAs at_once world entry)
comes-if at_once world entry (Ok came) replied comes = comes-as at_once world entry came replied comes
comes-if at_once world entry (Err refused) replied comes = tt

-- what a statement comes to that reads alone may be asked of what it shows
pub may-read : (db : Db) (asked : Statement) → reads_alone asked ≡ true → (came : Came) → IsReadOf db asked came → MayBeRead came
may-read db asked reads (Replied verdict reply) read = tt
may-read db asked reads (Look shown bound) read =
    record { asked = asked; reads = subst (λ (db : Db). read_of db.schema asked ≡ Some bound) (sym read.0) (read_meant db.schema asked bound reads read.1) }
