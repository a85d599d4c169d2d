-- An accepted request leaves a sound database, which agrees with the one before on what each other open transaction holds,
-- but for those that it dooms.
use Rattle.std.proofs.Common.{◌≡◌, ℕ, List, length, Bool, true, false, inl, inr, refl, ap, sym, subst, ◌∙◌}
use Rattle.std.specs.Prelude.{◌⊎◌, Option, None, Some, Err, not, ◌&&◌}
use Rattle.std.specs.Option.{option_map_or}
use Rattle.own_base.specs.declared.row_name.RowName.{RowName}
use Rattle.own_base.specs.declared.value.Key.{Key}
use Rattle.own_model.specs.declared.history.Entry.{Entry}
use Rattle.own_model.specs.declared.history.Verdict.{Verdict}
use Rattle.own_model.specs.declared.limit.TheConstants.{STATEMENT_BYTES}
use Rattle.own_model.specs.declared.refusal.Refusal.{Refusal}
use Rattle.own_model.specs.declared.reply.Reply.{Reply}
use Rattle.own_model.specs.declared.reply.Reply.TheVariants.{Done, Refused}
use Rattle.own_model.specs.declared.request.Request.{Request}
use Rattle.own_model.specs.declared.request.Request.TheVariants.{Run, Syntax, Limit, End}
use Rattle.own_model.specs.declared.statement.Statement.{Statement}
use Rattle.own_model.specs.declared.statement.Statement.TheVariants as statement
use Rattle.own_model.specs.Db.{Db}
use Rattle.schema_model.proofs.Places.{all-weaker}
use Rattle.grammar_model.specs.Readable.{IsReadable, IsWritten}
use Rattle.query_model.specs.BoundStatement.{bound_statement, faults, meaning}
use Rattle.query_model.specs.SelectMeaning.{table_number}
use Rattle.subject_model.specs.Forget.{forget}
use Rattle.state_model.specs.Fault.{fault}
use Rattle.state_model.specs.CommitRefusal.{commit_refusal}
use Rattle.state_model.specs.Sound.{Sound}
use Rattle.state_model.proofs.ForgetSound.{sound-forget}
use Rattle.run_model.specs.Agree.{Agree, AgreeOn}
use Rattle.run_model.specs.Items.{TakesRows, items_of, items_of_all}
use Rattle.run_model.specs.Run.{run}
use Rattle.run_model.proofs.KeptRuns.{kept-run}
use Rattle.run_model.proofs.Outcomes.{of-statement}
use Rattle.run_model.proofs.StatementFootprints.{same_schema-taking, still-run}
use Rattle.run_model.proofs.TableRows.{in_place}
use Rattle.history_model.specs.Held.{held, is_open, lowest_other}
use Rattle.history_model.specs.History.{History, dooms, is_doomed_by, left_by, forgotten}
use Rattle.history_model.specs.Reply.{changes, commit_reply, create_reply, forget_reply, is_refusal, reply_in, reply_inside, reply_outside, taking, unless_busy, write_reply}
use Rattle.history_model.specs.Sentences.{IsOther}
use Rattle.history_model.specs.World.{Block, SessionStanding, Outside, Open, Doomed, World, after_block, statements_of}
use Rattle.history_model.proofs.Accepted.{accepted-committing, no_conflict, commit_refusal-fault}
use Rattle.history_model.proofs.AgreeLemmas.{agree-same}
use Rattle.history_model.proofs.ApartLemmas.{AreApart, IsFree, apart-back, free-back}
use Rattle.history_model.proofs.BlockLemmas.{kept-block, schema-block, still-block}
use Rattle.history_model.proofs.DoomLemmas.{agree-undoomed}
use Rattle.history_model.proofs.GrantLemmas.{IsGranted, closed-lowest, granted-taking}
use Rattle.history_model.proofs.SubjectLemmas.{subject-bound}
use Rattle.history_model.proofs.Worlds.{IsSerialWorld, held-open, open-block}

-- what an accepted entry leaves of the flat database
pub record IsChange (world : World) (entry : Entry) (reply : Reply) (db : Db) : Type 0 where
  pub sound : Sound db
  pub others : (other : ℕ) → IsOther entry.session.0 other → is_open (world.standing other) ≡ true → dooms world entry reply other ≡ false
      → Agree (held world other) world.flat db

undoomed_step : (refused : Bool) (struck : RowName → Bool) (subject : RowName) (found : Option RowName) → found ≡ Some subject → refused ≡ false
    → (not refused && option_map_or struck found false) ≡ false → struck subject ≡ false
undoomed_step refused struck subject found is accepted none = rw (accepted, is) at none

-- a session that an accepted FORGET doesn't doom
undoomed : (world : World) (entry : Entry) (reply : Reply) (subject : RowName) (session : ℕ) → is_refusal reply ≡ false
    → forgotten world.flat.schema entry.request ≡ Some subject → dooms world entry reply session ≡ false → is_doomed_by world session subject ≡ false
unfolding dooms
undoomed world entry reply subject session accepted is none =
    undoomed_step (is_refusal reply) (is_doomed_by world session) subject (forgotten world.flat.schema entry.request) is accepted none

module _ (base : Db) (history : History) (world : World) (is : IsSerialWorld base history world) (entry : Entry) (reply : Reply) where
  abbrev session : ℕ
  session = entry.session.0

  abbrev Changes : Db → Type 0
  Changes db = IsChange world entry reply db

  -- nothing changes
  pub change-same : IsChange world entry reply world.flat
  change-same = record { sound = is.sound; others = λ other differs open' none. agree-same (held world other) world.flat }

  -- a write that is granted and granted_changes
  change-write : (verdict : Verdict) (asked : Statement) → TakesRows asked → IsWritten STATEMENT_BYTES asked
      → is_refusal (taking world session asked (write_reply verdict world.flat (run world.flat asked))) ≡ false → Changes (run world.flat asked).db
  change-write verdict asked takes readable accepted = by granted.goes
    where
      own : Reply
      own = write_reply verdict world.flat (run world.flat asked)

      granted : IsGranted world session asked own
      granted = granted-taking world session asked own (no_conflict _ accepted)

      granted_changes : is_refusal own ≡ false → Changes (run world.flat asked).db
      granted_changes accepted =
          let none = accepted-committing verdict (changes world.flat (run world.flat asked).db) (commit_refusal world.flat (run world.flat asked).db) (run world.flat asked).reply accepted in
          record {
            sound = record { well_formed = kept-run world.flat is.sound.well_formed asked readable; faultless = commit_refusal-fault world.flat (run world.flat asked).db none.1 };
            others = λ other differs open' none. record {
              schema = sym ((same_schema-taking world.flat asked takes).schema);
              on = all-weaker (IsFree (items_of world.flat.schema asked)) (AgreeOn world.flat (run world.flat asked).db)
                  (λ item free. still-run world.flat asked takes (in_place world.flat is.sound.well_formed) item (free-back item (items_of world.flat.schema asked) free)) (held world other)
                  (apart-back (items_of world.flat.schema asked) (held world other) (granted.apart other differs));
            };
          }

      by : (taking world session asked own ≡ own)
          ⊎ ((why : Refusal) × (bound_statement world.flat.schema asked ≡ Err why) × (taking world session asked own ≡ Refused why))
          → Changes (run world.flat asked).db
      by (inl goes) = granted_changes (ap is_refusal (sym goes) ∙ accepted)
      by (inr (why, refused, told)) = let never : true ≡ false = ap is_refusal (sym told) ∙ accepted in absurd (cc)

  -- a CREATE
  change-create : (verdict : Verdict) (asked : Statement) → IsWritten STATEMENT_BYTES asked
      → is_refusal (unless_busy (lowest_other world session) (create_reply verdict (run world.flat asked))) ≡ false → Changes (run world.flat asked).db
  change-create verdict asked readable accepted = by (lowest_other world session) refl accepted
    where
      by : (found : Option ℕ) → lowest_other world session ≡ found → is_refusal (unless_busy found (create_reply verdict (run world.flat asked))) ≡ false
          → Changes (run world.flat asked).db
      by (Some other) busy accepted = absurd (cc)
      by None free accepted =
          let none = accepted-committing verdict true (fault (run world.flat asked).db) (run world.flat asked).reply accepted in
          record {
            sound = record { well_formed = kept-run world.flat is.sound.well_formed asked readable; faultless = none.1 };
            others = λ other differs open' none. let never : true ≡ false = sym open' ∙ closed-lowest world session free other differs in absurd (cc);
          }

  module _ (accepted : is_refusal reply ≡ false) where
    -- a FORGET of a subject that is there
    change-forgotten : (subject : RowName) → forgotten world.flat.schema entry.request ≡ Some subject → Sound (forget world.flat subject)
        → Changes (forget world.flat subject)
    change-forgotten subject names sound = record {
      sound = sound;
      others = λ other differs open' none.
          agree-undoomed world.flat subject is.sound.well_formed sound.well_formed (held world other) (undoomed world entry reply subject other accepted names none);
    }

    -- a FORGET
    change-forget : (verdict : Verdict) (table : List ℕ) (key : Key) → entry.request ≡ Run (statement.GdprForget table key)
        → is_refusal (forget_reply verdict (run world.flat (statement.GdprForget table key))) ≡ false → Changes (run world.flat (statement.GdprForget table key)).db
    unfolding faults meaning
    change-forget verdict table key asks told =
        of-statement world.flat (λ outcome. is_refusal outcome.reply ≡ false → Changes outcome.db) (λ answer told. change-same) (statement.GdprForget table key)
        (λ none there told.
        change-forgotten (record { table = table_number world.flat.schema table; key = key }) (ap (forgotten world.flat.schema) asks)
        (sound-forget world.flat (record { table = table_number world.flat.schema table; key = key }) (subject-bound world.flat.schema table key none) is.sound))
        (accepted-committing verdict true None (run world.flat (statement.GdprForget table key)).reply told).0

    -- a statement outside a transaction
    change-outside : (verdict : Verdict) (asked : Statement) → entry.request ≡ Run asked → IsWritten STATEMENT_BYTES asked
        → is_refusal (reply_outside world session verdict asked) ≡ false → Changes (run world.flat asked).db
    change-outside verdict (statement.CreateTable table) asks readable told = change-create verdict (statement.CreateTable table) readable told
    change-outside verdict (statement.CreateView view) asks readable told = change-create verdict (statement.CreateView view) readable told
    change-outside verdict (statement.Insert table columns rows) asks readable told = change-write verdict (statement.Insert table columns rows) tt readable told
    change-outside verdict (statement.Update table sets cond) asks readable told = change-write verdict (statement.Update table sets cond) tt readable told
    change-outside verdict (statement.Delete table cond) asks readable told = change-write verdict (statement.Delete table cond) tt readable told
    change-outside verdict (statement.GdprForget table key) asks readable told = change-forget verdict table key asks told
    change-outside verdict asked asks readable told = of-statement world.flat (λ outcome. Changes outcome.db) (λ answer. change-same) asked tt

    -- a COMMIT
    change-commit : (verdict : Verdict) (begun : ℕ) (block : Block) → world.standing session ≡ Open begun block
        → is_refusal (commit_reply verdict world.flat (after_block world.flat block)) ≡ false → Changes (after_block world.flat block)
    change-commit verdict begun block opened told =
        let own = open-block base history world is session begun block opened in
        let none = accepted-committing verdict (changes world.flat (after_block world.flat block)) (commit_refusal world.flat (after_block world.flat block)) Done told in
        record {
          sound = record { well_formed = kept-block (length history) world.flat block is.sound.well_formed own.stated; faultless = commit_refusal-fault world.flat (after_block world.flat block) none.1 };
          others = λ other differs open' none. record {
            schema = sym (schema-block (length history) world.flat block own.stated);
            on = all-weaker (IsFree (items_of_all world.flat.schema (statements_of block))) (AgreeOn world.flat (after_block world.flat block))
                (λ item free. still-block (length history) world.flat block is.sound.well_formed own.stated item (free-back item (items_of_all world.flat.schema (statements_of block)) free)) (held world other)
                (subst (AreApart (held world other)) (held-open world session begun block opened) (is.apart other session differs.differs));
          };
        }

    -- a statement in one
    change-inside : (verdict : Verdict) (begun : ℕ) (block : Block) (asked : Statement) → world.standing session ≡ Open begun block
        → is_refusal (reply_inside world session verdict block asked) ≡ false → Changes (left_by world.flat (Open begun block) (Run asked))
    change-inside verdict begun block statement.Commit opened told = change-commit verdict begun block opened told
    change-inside verdict begun block _ opened told = change-same

    -- any request
    pub change-accepted : (verdict : Verdict) (standing : SessionStanding) (request : Request) → world.standing session ≡ standing → entry.request ≡ request → IsReadable request
        → is_refusal (reply_in world session verdict standing request) ≡ false → Changes (left_by world.flat standing request)
    change-accepted verdict (Doomed by) request stands asks readable told = change-same
    change-accepted verdict Outside (Run asked) stands asks readable told = change-outside verdict asked asks readable told
    change-accepted verdict (Open begun block) (Run asked) stands asks readable told = change-inside verdict begun block asked stands told
    change-accepted verdict standing (Syntax byte) stands asks readable told = change-same
    change-accepted verdict standing (Limit passed) stands asks readable told = change-same
    change-accepted verdict standing End stands asks readable told = change-same
