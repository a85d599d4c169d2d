-- Which names a reply is told with: those of the flat database, which only a CREATE changes.
use Rattle.std.proofs.Common.{◌≡◌, ℕ, ◌-◌, List, [], ◌∷◌, ◌++◌, ◌+◌, Bool, true, false, length, arith, refl, sym, ap, subst, ◌∙◌}
use Rattle.std.specs.Prelude.{◌&&◌, ◌||◌, ◌==◌, Option, None, Some, filter_map, fold, map, nat_lt, not, option_map, slice_get, if◌then◌else◌}
use Rattle.std.specs.List.{AllByRecursion, cons_option, enumerate_from}
use Rattle.std.specs.Option.{option_map_or}
use Rattle.std.proofs.lemmas.Bool.{or_parts}
use Rattle.std.proofs.lemmas.List.{length-append}
use Rattle.schema_model.proofs.Places.{slice_get-push}
use Rattle.own_base.specs.declared.number.Place.{Place}
use Rattle.own_model.specs.declared.history.Entry.{Entry}
use Rattle.own_model.specs.declared.history.Verdict.{Verdict}
use Rattle.own_model.specs.declared.refusal.Refusal.TheVariants.{Memory}
use Rattle.own_model.specs.declared.reply.Reply.{Reply}
use Rattle.own_model.specs.declared.reply.Reply.TheVariants.{Done, Counted, Rows, Got, Forgot, Graph, Ended, Refused}
use Rattle.own_model.specs.declared.request.Request.{Request}
use Rattle.own_model.specs.declared.request.Request.TheVariants.{Run, Syntax, Limit, End}
use Rattle.own_model.specs.declared.schema.Schema.{Schema}
use Rattle.own_model.specs.declared.script.ScriptCall.{ScriptCall}
use Rattle.own_model.specs.declared.statement.Statement.{Statement}
use Rattle.own_model.specs.declared.statement.Statement.TheVariants as statement
use Rattle.own_model.specs.Db.{Db}
use Rattle.run_model.specs.Items.{TakesRows}
use Rattle.run_model.specs.Run.{run}
use Rattle.run_model.proofs.Outcomes.{AddsNothing}
use Rattle.run_model.proofs.SameSchema.{same_schema-run}
use Rattle.run_model.proofs.StatementFootprints.{same_schema-taking}
use Rattle.history_model.specs.History.{History, down_after, flat, flat_after, happens, is_disk, is_failure, left_by, reply, standing, world}
use Rattle.history_model.specs.Made.{entry_of}
use Rattle.history_model.specs.Reply.{answer, is_refusal, reply_in, unless_down}
use Rattle.history_model.specs.Since.{is_of_block, row_statement, stated_at, stated_since}
use Rattle.history_model.specs.World.{Block, SessionStanding, Stated, Outside, Open, Doomed, World, after_all, after_block, statements_of}
use Rattle.history_model.proofs.HistoryLemmas.{flat-append, flat-world, reply-last, standing-world, world-append}
use Rattle.history_model.proofs.SinceLemmas.{block-told}
use Rattle.reply_json.specs.Line.{reply_data}
use Rattle.reply_json.specs.declared.columns.TableNames.{TableNames}
use Rattle.shell_session.specs.Answered.{IsMadeAt}
use Rattle.shell_session.specs.DiskView.{DiskView}
use Rattle.shell_session.specs.Life.{IsCalled}
use Rattle.shell_session.specs.Names.{columns_by, is_create, last_request, reply_columns, shows_names, table_names}
use Rattle.shell_session.specs.Opening.{Opening}
use Rattle.shell_session.specs.Told.{told_text}
use Rattle.shell_session.specs.Kept.{Keeps}
use Rattle.shell_session.specs.declared.book.Book.{Book}
use Rattle.shell_session.specs.declared.manner.Form.{Form}
use Rattle.shell_session.specs.declared.manner.Form.TheVariants.{Lines, Json}

-- what isn't a CREATE adds no table and no view
adds_nothing : (asked : Statement) → is_create (Run asked) ≡ false → AddsNothing asked
adds_nothing (statement.CreateTable table) none = let never : true ≡ false = none in cc
adds_nothing (statement.CreateView view) none = let never : true ≡ false = none in cc
adds_nothing (statement.Select select) none = tt
adds_nothing (statement.Insert table columns rows) none = tt
adds_nothing (statement.Update table sets cond) none = tt
adds_nothing (statement.Delete table cond) none = tt
adds_nothing (statement.GdprGet table key) none = tt
adds_nothing (statement.GdprForget table key) none = tt
adds_nothing statement.Begin none = tt
adds_nothing statement.Commit none = tt
adds_nothing statement.Rollback none = tt
adds_nothing statement.Checkpoint none = tt
adds_nothing statement.Explain none = tt

-- the statements of a block take rows
abbrev Takes : Stated → Type 0
Takes stated = TakesRows stated.statement

row_takes : (request : Request) (asked : Statement) → row_statement request ≡ Some asked → TakesRows asked
row_takes (Run (statement.Select select)) asked is = let same : statement.Select select ≡ asked = cc in subst TakesRows same tt
row_takes (Run (statement.Insert table columns rows)) asked is = let same : statement.Insert table columns rows ≡ asked = cc in subst TakesRows same tt
row_takes (Run (statement.Update table sets cond)) asked is = let same : statement.Update table sets cond ≡ asked = cc in subst TakesRows same tt
row_takes (Run (statement.Delete table cond)) asked is = let same : statement.Delete table cond ≡ asked = cc in subst TakesRows same tt
row_takes _ asked is = let never : ◌≡◌ {A = Option Statement} None (Some asked) = is in cc

-- one that a place tells is a row statement
abbrev stated_of : ℕ → Option Statement → Option Stated
stated_of place found = option_map (λ asked. record { place = place; statement = asked }) found

found_takes : (place : ℕ) (found : Option Statement) → ((asked : Statement) → found ≡ Some asked → TakesRows asked) → (own : Bool)
    → (told : List Stated) → AllByRecursion Takes told → AllByRecursion Takes (cons_option (if own then stated_of place found else None) told)
found_takes place (Some asked) takes true told all = (takes asked refl, all)
found_takes place None takes true told all = all
found_takes place found takes false told all = all

since_takes : (base : Db) (whole : History) (session begun : ℕ) (numbered : List (ℕ × Entry))
    → AllByRecursion Takes (filter_map (λ numbered. stated_at session begun numbered.0 numbered.1 (reply base whole numbered.0)) numbered)
since_takes base whole session begun [] = tt
since_takes base whole session begun (first ∷ rest) =
    found_takes first.0 (row_statement first.1.request) (row_takes first.1.request) (is_of_block session begun first.0 first.1 (reply base whole first.0)) _ (since_takes base whole session begun rest)

stated_takes : (base : Db) (history : History) (session begun : ℕ) → AllByRecursion Takes (stated_since base history session begun)
unfolding stated_since
stated_takes base history session begun = since_takes base history session begun (enumerate_from 0 history)

-- so a transaction leaves the schema
all_still : (db : Db) (block : Block) → AllByRecursion Takes block → (after_all db (statements_of block)).schema ≡ db.schema
unfolding after_all
all_still db [] takes = refl
all_still db (stated ∷ block) takes =
    all_still (run db stated.statement).db block takes.1 ∙ (same_schema-taking db stated.statement takes.0).schema

-- and so does any request but a CREATE
left_still : (db : Db) (stands : SessionStanding) (request : Request) → is_create request ≡ false
    → ((begun : ℕ) (block : Block) → stands ≡ Open begun block → (after_block db block).schema ≡ db.schema) → (left_by db stands request).schema ≡ db.schema
left_still db Outside (Run asked) none blocks = (same_schema-run db asked (adds_nothing asked none)).schema
left_still db Outside (Syntax byte) none blocks = refl
left_still db Outside (Limit passed) none blocks = refl
left_still db Outside End none blocks = refl
left_still db (Doomed by) request none blocks = refl
left_still db (Open begun block) (Run statement.Commit) none blocks = blocks begun block refl
left_still db (Open begun block) (Run (statement.Select select)) none blocks = refl
left_still db (Open begun block) (Run (statement.Insert table columns rows)) none blocks = refl
left_still db (Open begun block) (Run (statement.Update table sets cond)) none blocks = refl
left_still db (Open begun block) (Run (statement.Delete table cond)) none blocks = refl
left_still db (Open begun block) (Run (statement.CreateTable table)) none blocks = refl
left_still db (Open begun block) (Run (statement.CreateView view)) none blocks = refl
left_still db (Open begun block) (Run (statement.GdprGet table key)) none blocks = refl
left_still db (Open begun block) (Run (statement.GdprForget table key)) none blocks = refl
left_still db (Open begun block) (Run statement.Begin) none blocks = refl
left_still db (Open begun block) (Run statement.Rollback) none blocks = refl
left_still db (Open begun block) (Run statement.Checkpoint) none blocks = refl
left_still db (Open begun block) (Run statement.Explain) none blocks = refl
left_still db (Open begun block) (Syntax byte) none blocks = refl
left_still db (Open begun block) (Limit passed) none blocks = refl
left_still db (Open begun block) End none blocks = refl

refused_still : (db left : Db) (refused : Bool) → left.schema ≡ db.schema → (if refused then db else left).schema ≡ db.schema
refused_still db left true same = refl
refused_still db left false same = same

module _ (base : Db) (before : History) (entry : Entry) where
  abbrev now : World
  now = world base before

  -- An entry that is no CREATE leaves the schema of the flat database.
  pub schema-still : is_create entry.request ≡ false → (flat base (before ++ entry ∷ [])).schema ≡ (flat base before).schema
  schema-still none =
      let blocks : (begun : ℕ) (block : Block) → now.standing entry.session.0 ≡ Open begun block → (after_block now.flat block).schema ≡ now.flat.schema =
      λ begun block stands.
      let told = (block-told base before entry.session.0 begun block (standing-world base before entry.session.0 ∙ stands)).0 in
      all_still now.flat block (subst (AllByRecursion Takes) (sym told) (stated_takes base before entry.session.0 begun)) in
      ap (λ (db : Db). db.schema) (flat-append base before entry)
      ∙ (refused_still now.flat (left_by now.flat (now.standing entry.session.0) entry.request) (is_refusal (answer now entry)) (left_still now.flat (now.standing entry.session.0) entry.request none blocks)
      ∙ ap (λ (db : Db). db.schema) (sym (flat-world base before)))

  up_step : (down : Option ℕ) (told : Reply) → is_failure (unless_down down told) ≡ false → down ≡ None
  up_step None told works = refl
  up_step (Some failed) told works = let never : true ≡ false = works in cc

  up_before : is_failure (answer now entry) ≡ false → now.down ≡ None
  unfolding answer
  up_before works = up_step now.down (reply_in now entry.session.0 entry.verdict (now.standing entry.session.0) entry.request) works

  -- Where the disk didn't keep it from being answered, the disk hasn't failed.
  pub up-made : is_failure (answer now entry) ≡ false → (world base (before ++ entry ∷ [])).down ≡ None
  up-made works =
      ap (λ (w : World). w.down) (world-append base before entry)
      ∙ (ap (λ down. down_after now.place down (is_disk (answer now entry))) (up_before works)
      ∙ ap (λ fails. down_after now.place None fails) (or_parts _ _ works).0)

-- what shows rows isn't a failure
shown_works : (form : Form) (told : Reply) → shows_names form told ≡ true → is_failure told ≡ false
shown_works Json (Rows rows) shows = refl
shown_works Json (Got rows) shows = refl
shown_works Json Done shows = cc
shown_works Json (Counted count) shows = cc
shown_works Json (Forgot removed changed) shows = cc
shown_works Json (Graph lines) shows = cc
shown_works Json Ended shows = cc
shown_works Json (Refused why) shows = cc
shown_works Lines told shows = let never : false ≡ true = shows in cc

-- the answer to a call that was made
pub made-answer : (base : Db) (before after : History) (call : ScriptCall) (place : ℕ) (told : Reply) → (made : IsMadeAt base before after call place told)
    → answer (world base before) (entry_of call made.verdict) ≡ told
made-answer base before after call place told made =
    let last = reply-last base before (entry_of call made.verdict) in
    let at = rw (made.history_is, made.place_is) at made.reply_is in
    let same : Some (answer (world base before) (entry_of call made.verdict)) ≡ Some told = sym last ∙ at in cc

module _ {D : Type 0} (view : DiskView D) (before after : Opening D) (call : ScriptCall) where
  -- a call that is no CREATE leaves the names,
  pub names-still : (place : Option ℕ) (told : Reply) → IsCalled view before after call place told → is_create call.request ≡ false
      → (flat after.base after.history).schema ≡ (flat before.base before.history).schema
  names-still (Some place) told called none =
      let made = called.answered in
      rw (called.base, made.history_is) (schema-still before.base before.history (entry_of call made.verdict) none)
  names-still None told called none = rw (called.base, called.answered.history_is) refl

  -- after one that is told with names the disk hasn't failed,
  pub up-shown : (form : Form) (place : Option ℕ) (told : Reply) → IsCalled view before after call place told → shows_names form told ≡ true → (world after.base after.history).down ≡ None
  up-shown form (Some place) told called shows =
      let made = called.answered in
      let works = ap is_failure (made-answer before.base before.history after.history call place told made) ∙ shown_works form told shows in
      rw (called.base, made.history_is) (up-made before.base before.history (entry_of call made.verdict) works)
  up-shown form None told called shows =
      let works = shown_works form told shows in
      let never = rw called.answered.told_is at works in shown_none form (rw called.answered.told_is at shows)
    where
      shown_none : (form : Form) → shows_names form (Refused Memory) ≡ true → (world after.base after.history).down ≡ None
      shown_none Json shows = cc
      shown_none Lines shows = cc

  -- and its columns are those of the reply to its own request.
  pub columns-own : (tables : List TableNames) (place : Option ℕ) (told : Reply) → IsCalled view before after call place told
      → columns_by tables (last_request after.history) told ≡ reply_columns tables call.request told
  columns-own tables (Some place) told called =
      let made = called.answered in
      rw made.history_is (ap (λ found. columns_by tables (option_map (λ (entry : Entry). entry.request) found) told) (last_made before.history (entry_of call made.verdict)))
    where
      last_made : (history : History) (entry : Entry) → slice_get (history ++ entry ∷ []) (length (history ++ entry ∷ []) - 1) ≡ Some entry
      last_made history entry =
          let long = length-append history (entry ∷ []) in
          let at : length (history ++ entry ∷ []) - 1 ≡ length history = omega (arith, long) in
          ap (slice_get (history ++ entry ∷ [])) at ∙ slice_get-push history entry
  columns-own tables None told called = rw called.answered.told_is (refused_none (last_request after.history))
    where
      refused_none : (request : Option Request) → columns_by tables request (Refused Memory) ≡ reply_columns tables call.request (Refused Memory)
      refused_none None = refl
      refused_none (Some request) = refl

-- the names that a book knows after a call, which are given up with a CREATE
pub named-after : {D : Type 0} (view : DiskView D) (before after : Opening D) (call : ScriptCall) (place : Option ℕ) (told : Reply) (old new : Book) → IsCalled view before after call place told → Keeps old before
    → new.tables ≡ (if is_create call.request then None else old.tables) → (tables : List TableNames) → new.tables ≡ Some tables → tables ≡ table_names (flat after.base after.history).schema
named-after view before after call place told old new called kept tables_are tables known = by (is_create call.request) refl (sym tables_are ∙ known)
  where
    by : (creates : Bool) → is_create call.request ≡ creates → (if creates then None else old.tables) ≡ Some tables → tables ≡ table_names (flat after.base after.history).schema
    by true is none = let never : ◌≡◌ {A = Option (List TableNames)} None (Some tables) = none in cc
    by false is same = kept.names tables same ∙ ap table_names (sym (names-still view before after call place told called is))

-- what is told without names is the same text whatever names there are
pub plain-text : (form : Form) (place : Option ℕ) (session number line : ℕ) (columns others : List (List ℕ)) (tables more : List TableNames) (told : Reply) → shows_names form told ≡ false
    → told_text form place session number line columns tables told ≡ told_text form place session number line others more told
unfolding reply_data
plain-text Lines place session number line columns others tables more told plain = refl
plain-text Json place session number line columns others tables more Done plain = refl
plain-text Json place session number line columns others tables more (Counted count) plain = refl
plain-text Json place session number line columns others tables more (Rows rows) plain = let never : true ≡ false = plain in cc
plain-text Json place session number line columns others tables more (Got rows) plain = let never : true ≡ false = plain in cc
plain-text Json place session number line columns others tables more (Forgot removed changed) plain = refl
plain-text Json place session number line columns others tables more (Graph lines) plain = refl
plain-text Json place session number line columns others tables more Ended plain = refl
plain-text Json place session number line columns others tables more (Refused why) plain = refl
