-- A SELECT, an INSERT, an UPDATE or a DELETE in an open transaction.
use Rattle.std.proofs.Common.{◌≡◌, ◌∙◌, ◌||◌, ℕ, List, [], ◌∷◌, ◌++◌, length, Bool, true, false, None, Some, ap, append-nil, inr, refl, subst, sym}
use Rattle.std.specs.Prelude.{Option, Ok, Err, not, if◌then◌else◌}
use Rattle.std.proofs.lemmas.List.Folds.{list_any-append}
use Rattle.std.proofs.Math.Bool.{or-true}
use Rattle.own_model.specs.declared.bound.Bound.{Bound}
use Rattle.own_model.specs.declared.bound.Bound.TheVariants as bound_as
use Rattle.own_model.specs.declared.history.Entry.{Entry}
use Rattle.own_model.specs.declared.history.Verdict.{Verdict}
use Rattle.own_model.specs.declared.history.Verdict.TheVariants.{DiskFault, Took}
use Rattle.own_model.specs.declared.refusal.Refusal.{Refusal}
use Rattle.own_model.specs.declared.reply.Reply.{Reply}
use Rattle.own_model.specs.declared.reply.Reply.TheVariants.{Refused}
use Rattle.own_model.specs.declared.request.Request.TheVariants.{Run}
use Rattle.own_model.specs.declared.schema.Schema.{Schema}
use Rattle.own_model.specs.declared.statement.Statement.{Statement}
use Rattle.own_model.specs.declared.statement.Statement.TheVariants.{Delete, Insert, Select, Update}
use Rattle.own_model.specs.Db.{Db}
use Rattle.query_model.specs.BoundStatement.{bound_statement}
use Rattle.query_model.specs.Footprints.{footprint_of}
use Rattle.run_model.specs.Items.{TakesRows, items_of, items_of_all}
use Rattle.run_model.proofs.StatementFootprints.{items_bound}
use Rattle.history_model.specs.AsksDisk.{asks_disk, under}
use Rattle.history_model.specs.Commits.{is_commit, is_create}
use Rattle.history_model.specs.HasWritten.{has_written, is_bound_write, is_write}
use Rattle.history_model.specs.Held.{Holding, held, holder, items_held}
use Rattle.history_model.specs.History.{History, after_request, flat, flat_after, forgotten, happens, is_conflict, is_disk, is_failure, left_by, own_after, standing, with_stated, world}
use Rattle.history_model.specs.Reply.{answer, is_refusal, reply_in, reply_within}
use Rattle.history_model.specs.World.{Block, Open, Stated as StatedAt, World, statements_of}
use Rattle.history_model.proofs.BlockLemmas.{items-push}
use Rattle.history_model.proofs.EveryHistory.{serial-world}
use Rattle.history_model.proofs.Working.{standing-works}
use Rattle.history_model.proofs.Within.{held-within, not_conflict-granted, refused-within}
use Rattle.history_model.proofs.Worlds.{IsOpenBlock, open-block}
use Rattle.row_locks.specs.SessionItems.{items_by as held_by}
use Rattle.row_locks.specs.RepresentsItems.{RepresentsItems, holder_among}
use Rattle.row_locks.proofs.Holders.{holder-alike, holder-of_world}
use Rattle.txn_space.specs.declared.entry.Entry.{Entry as Change}
use Rattle.txn_core.specs.declared.session_state.SessionState.{SessionState}
use Rattle.txn_core.specs.declared.session_state.SessionState.TheVariants as kept
use Rattle.txn_core.specs.declared.txn.Txn.{Txn}
use Rattle.txn_core.specs.SessionStates.{RepresentsSession, is_open, is_select, state_by}
use Rattle.txn_core.specs.Runs.{HasRun, IsRowStatement}
use Rattle.txn_core.specs.RepresentsBlock.{RepresentsBlock}
use Rattle.txn_core.specs.Transactions.{AreSame, HasStated, Stated, conflict_of, space_of, wrote_of}
use Rattle.txn_core.proofs.OpenBlocks.{represents_more}
use Rattle.txn_core.proofs.RepresentsLemmas.{represents_unbound}
use Rattle.engine_core.specs.RepresentsWorld.{IsEvent, ServesAlone}
use Rattle.engine_core.specs.declared.state.State.{State}
use Rattle.engine_core.proofs.BoundStatements.{row-bound}
use Rattle.engine_core.proofs.Decided.{asks-is, commit-none, event-under, took-works}
use Rattle.engine_core.proofs.CalmEvents.{others-same, stands-calm, stands-unmoved}
use Rattle.history_model.proofs.DoomLemmas.{undoomed}
use Rattle.engine_core.proofs.NextWorlds.{answer-in, own-in}
use Rattle.engine_core.proofs.Stood.{IsOpenTxn, stood-open}

-- what its statement does in a transaction, of those that take rows
within_told : (world : World) (session : ℕ) (verdict : Verdict) (begun : ℕ) (block : Block) (asked : Statement) → TakesRows asked
    → reply_in world session verdict (Open begun block) (Run asked) ≡ reply_within world session block asked
within_told world session verdict begun block (Select select) takes = refl
within_told world session verdict begun block (Insert table columns rows) takes = refl
within_told world session verdict begun block (Update table sets cond) takes = refl
within_told world session verdict begun block (Delete table cond) takes = refl
within_told world session verdict begun block _ takes = absurd takes

within_after : (place begun : ℕ) (block : Block) (asked : Statement) (conflicts : Bool) → TakesRows asked
    → after_request place (Open begun block) (Run asked) conflicts ≡ with_stated place begun block asked conflicts
within_after place begun block (Select select) conflicts takes = refl
within_after place begun block (Insert table columns rows) conflicts takes = refl
within_after place begun block (Update table sets cond) conflicts takes = refl
within_after place begun block (Delete table cond) conflicts takes = refl
within_after place begun block _ conflicts takes = absurd takes

within_left : (db : Db) (begun : ℕ) (block : Block) (asked : Statement) → TakesRows asked → left_by db (Open begun block) (Run asked) ≡ db
within_left db begun block (Select select) takes = refl
within_left db begun block (Insert table columns rows) takes = refl
within_left db begun block (Update table sets cond) takes = refl
within_left db begun block (Delete table cond) takes = refl
within_left db begun block _ takes = absurd takes

nobody_within : (schema : Schema) (asked : Statement) → TakesRows asked → forgotten schema (Run asked) ≡ None
nobody_within schema (Select select) takes = refl
nobody_within schema (Insert table columns rows) takes = refl
nobody_within schema (Update table sets cond) takes = refl
nobody_within schema (Delete table cond) takes = refl
nobody_within schema _ takes = absurd takes

items_unbound : (schema : Schema) (asked : Statement) (why : Refusal) → bound_statement schema asked ≡ Err why → items_of schema asked ≡ []
unfolding items_of
items_unbound schema asked why is = rw is refl

-- whether a transaction has run a write, with one statement more
written_more : (schema : Schema) (block : Block) (last : StatedAt)
    → has_written schema (block ++ last ∷ []) ≡ (has_written schema block || (is_bound_write (bound_statement schema last.statement) || false))
unfolding has_written
written_more schema block last = list_any-append (λ (stated : StatedAt). is_bound_write (bound_statement schema stated.statement)) block (last ∷ [])

-- a statement of rows that is no select is a write
write_of : (schema : Schema) (bound : Bound) → IsRowStatement schema bound → not (is_select bound) ≡ true → is_write bound ≡ true
write_of schema (bound_as.Select query) row other = let never : false ≡ true = other in absurd (cc)
write_of schema (bound_as.Insert table rows) row other = refl
write_of schema (bound_as.Update table sets cond) row other = refl
write_of schema (bound_as.Delete table cond) row other = refl
write_of schema (bound_as.Get subject) row other = absurd row
write_of schema (bound_as.Forget subject) row other = absurd row
write_of schema bound_as.Explain row other = absurd row

written_by : (schema : Schema) (block : Block) (last : StatedAt) (bound : Bound) → bound_statement schema last.statement ≡ Ok bound → IsRowStatement schema bound
    → (wrote : Bool) → (wrote ≡ true → has_written schema block ≡ true) → (wrote || not (is_select bound)) ≡ true → has_written schema (block ++ last ∷ []) ≡ true
written_by schema block last bound is row true before now = written_more schema block last ∙ rw (before refl) refl
written_by schema block last bound is row false before now =
    written_more schema block last ∙ rw (is, write_of schema bound row now) (or-true (has_written schema block))

written_still : (schema : Schema) (block : Block) (last : StatedAt) → has_written schema block ≡ true → has_written schema (block ++ last ∷ []) ≡ true
written_still schema block last before = written_more schema block last ∙ rw before refl

module _ (history : History) (entry : Entry) (before after : State) (event : IsEvent before history entry)
    (version : after.version ≡ before.version) (weighs : after.weighs ≡ before.weighs) (opened : is_open (state_by before.txns.states entry.session.0) ≡ true)
    (asked : Statement) (asks : entry.request ≡ Run asked) (takes : TakesRows asked) where
  abbrev now : World
  now = world before.opened history

  abbrev session : ℕ
  session = entry.session.0

  abbrev told : Reply
  told = answer now entry

  abbrev own : SessionState
  own = state_by before.txns.states session

  abbrev is : IsOpenTxn now.flat own (now.standing session)
  is = stood-open now.flat own (now.standing session) (event.stands.states session) opened

  abbrev block : Block
  block = is.block

  abbrev last : StatedAt
  last = record { place = now.place; statement = asked }

  abbrev longer : Block
  longer = block ++ last ∷ []

  told_within : told ≡ reply_within now session block asked
  told_within =
      answer-in history entry event.entries event.is_entry before event.begun event.stands event.up
      ∙ ((λ i. reply_in now session entry.verdict (is.stands i) (asks i)) ∙ within_told now session entry.verdict is.begun block asked takes)

  works_within : is_failure told ≡ false
  works_within =
      ap is_failure told_within
      ∙ (sym (ap is_failure (within_told now session Took is.begun block asked takes)) ∙ standing-works now session (Open is.begun block) (Run asked))

  own_within : own_after now entry told ≡ with_stated now.place is.begun block asked (is_conflict told)
  own_within =
      own-in history entry event.entries event.is_entry before event.begun event.stands event.up works_within
      ∙ ((λ i. after_request now.place (is.stands i) (asks i) (is_conflict told)) ∙ within_after now.place is.begun block asked (is_conflict told) takes)

  -- it leaves the flat database
  calm : flat_after now entry told ≡ now.flat
  calm = by (is_refusal told)
    where
      left : left_by now.flat (now.standing session) entry.request ≡ now.flat
      left = (λ i. left_by now.flat (is.stands i) (asks i)) ∙ within_left now.flat is.begun block asked takes

      by : (b : Bool) → (if b then now.flat else left_by now.flat (now.standing session) entry.request) ≡ now.flat
      by true = refl
      by false = left

  nobody : forgotten now.flat.schema entry.request ≡ None
  nobody = ap (forgotten now.flat.schema) asks ∙ nobody_within now.flat.schema asked takes

  held_open : RepresentsItems (held_by before.txns.held session) (items_of_all now.flat.schema (statements_of block))
  unfolding held
  held_open = subst (λ stood. RepresentsItems (held_by before.txns.held session) (items_held now.flat.schema stood)) is.stands (event.stands.held session)

  -- the session's transaction goes on, with one statement more
  more : is_conflict told ≡ false → own_after now entry told ≡ Open is.begun longer
  more free = own_within ∙ ap (with_stated now.place is.begun block asked) free

  -- another session stands in its way
  held_back : (bound : Bound) (holding : Holding) → bound_statement now.flat.schema asked ≡ Ok bound → holder now session (footprint_of now.flat.schema bound) ≡ Some holding
      → AreSame before.txns after.txns → ServesAlone {E = ℕ} before.opened after history entry (Ok (Refused (conflict_of now.flat.schema holding)))
  held_back bound holding meant found same =
      let within = held-within now session block asked bound holding meant found in
      let replies : told ≡ Refused (conflict_of now.flat.schema holding) = told_within ∙ within.0 in
      let conflicts : is_conflict told ≡ true = ap is_conflict replies in (
        replies,
        stands-unmoved history entry before after event (conflict_of now.flat.schema holding) replies version weighs same
            (own_within ∙ (ap (with_stated now.place is.begun block asked) conflicts ∙ sym is.stands)),
      )

  -- binding refuses it
  serves_unbound : (why : Refusal) → bound_statement now.flat.schema asked ≡ Err why → AreSame before.txns after.txns → ServesAlone {E = ℕ} before.opened after history entry (Ok (Refused why))
  serves_unbound why refused same =
      let within = refused-within now session block asked why refused in
      let replies : told ≡ Refused why = told_within ∙ within.0 in
      let free : is_conflict told ≡ false = ap is_conflict told_within ∙ within.1 in
      let opens : IsOpenBlock before.opened history now.flat session block =
      open-block before.opened history now (serial-world before.opened history event.begun event.entries) session is.begun block is.stands in
      let stands : RepresentsBlock now.flat longer is.txn.space =
      represents_unbound (length history) now.flat block is.txn.space opens.stated is.kept_as.0 last takes why refused in
      let keeps : state_by after.txns.states session ≡ kept.Open is.txn = same.states session ∙ is.is_kept in
      let items : items_of_all now.flat.schema (statements_of longer) ≡ items_of_all now.flat.schema (statements_of block) =
      items-push now.flat.schema block last
      ∙ (ap (λ more. items_of_all now.flat.schema (statements_of block) ++ more) (items_unbound now.flat.schema asked why refused) ∙ append-nil (items_of_all now.flat.schema (statements_of block))) in (
        replies,
        stands-calm history entry before after event (Open is.begun longer) version weighs (others-same session before.txns after.txns same) calm (λ other. undoomed now entry told other nobody)
            (more free)
            (subst (λ one. RepresentsSession now.flat one (Open is.begun longer)) (sym keeps) (stands, is.kept_as.1, λ wrote. written_still now.flat.schema block last (is.kept_as.2 wrote)))
            (subst (λ some. RepresentsItems some (items_of_all now.flat.schema (statements_of longer))) (sym (same.held session))
            (subst (λ some. RepresentsItems (held_by before.txns.held session) some) (sym items) held_open)),
      )

  -- it runs
  module _ (bound : Bound) (meant : bound_statement now.flat.schema asked ≡ Ok bound) (none : holder now session (footprint_of now.flat.schema bound) ≡ None) (reply : Reply)
      (stated : HasStated now.flat bound session before.txns after.txns reply) where
    abbrev txn : Txn
    txn = stated.txn

    space_is : space_of own ≡ is.txn.space
    space_is = ap space_of is.is_kept

    wrote_is : wrote_of own ≡ is.txn.wrote
    wrote_is = ap wrote_of is.is_kept

    ran : HasRun now.flat bound is.txn.space reply txn.space
    ran = subst (λ (changed : List (List Change)). HasRun now.flat bound changed reply stated.txn.space) space_is stated.ran

    -- its reply, and what is kept of the transaction with it
    both : (told ≡ reply) × RepresentsBlock now.flat longer txn.space
    unfolding flat standing
    both =
        let within = not_conflict-granted now session block asked bound meant none in
        let stands = represents_more before.opened history event.begun event.entries session is.begun block is.stands is.txn.space is.kept_as.0 last bound reply txn.space takes meant ran in
        (told_within ∙ (within.0 ∙ stands.0), stands.1)

    free : is_conflict told ≡ false
    free = ap is_conflict told_within ∙ (not_conflict-granted now session block asked bound meant none).1

    wrote : txn.wrote ≡ true → has_written now.flat.schema longer ≡ true
    wrote is_true =
        written_by now.flat.schema block last bound meant (row-bound now.flat.schema asked bound takes meant) is.txn.wrote is.kept_as.2
        (ap (λ wrote. wrote || not (is_select bound)) (sym wrote_is) ∙ (sym stated.wrote ∙ is_true))

    holds : RepresentsItems (held_by after.txns.held session) (items_of_all now.flat.schema (statements_of longer))
    holds =
        let items : items_of_all now.flat.schema (statements_of longer) ≡ items_of_all now.flat.schema (statements_of block) ++ footprint_of now.flat.schema bound =
        items-push now.flat.schema block last ∙ ap (λ more. items_of_all now.flat.schema (statements_of block) ++ more) (items_bound now.flat.schema asked bound meant) in
        subst (λ some. RepresentsItems (held_by after.txns.held session) some) (sym items) (stated.holds (items_of_all now.flat.schema (statements_of block)) held_open)

    serves_ran : ServesAlone {E = ℕ} before.opened after history entry (Ok reply)
    serves_ran = (
      both.0,
      stands-calm history entry before after event (Open is.begun longer) version weighs stated.others calm (λ other. undoomed now entry told other nobody) (more free)
          (subst (λ one. RepresentsSession now.flat one (Open is.begun longer)) (sym stated.open_then) (both.1, stated.quiet, wrote))
          holds,
    )

  -- a statement that was bound, by who stands in its way
  by_holder : (bound : Bound) → bound_statement now.flat.schema asked ≡ Ok bound → (reply : Reply) (found : Option Holding) → holder now session (footprint_of now.flat.schema bound) ≡ found
      → Stated found now.flat bound session before.txns after.txns reply
      → ServesAlone {E = ℕ} before.opened after history entry (Ok reply)
  by_holder bound meant reply None found stated = serves_ran bound meant found reply stated
  by_holder bound meant reply (Some holding) found stated =
      let back = held_back bound holding meant found stated.1 in
      subst (λ reply. ServesAlone {E = ℕ} before.opened after history entry (Ok reply)) (sym stated.0) back

  -- the same, as it is told over the state
  pub serves-stated : (bound : Bound) (reply : Reply) → bound_statement before.version.schema asked ≡ Ok bound
      → Stated (holder_among (held_by before.txns.held) entry.session.0 (footprint_of before.version.schema bound)) before.version bound entry.session.0 before.txns after.txns reply
      → ServesAlone {E = ℕ} before.opened after history entry (Ok reply)
  serves-stated bound reply meant stated =
      let same = event.stands.flat in
      let alike : holder_among (held_by before.txns.held) session (footprint_of now.flat.schema bound) ≡ holder now session (footprint_of now.flat.schema bound) =
      holder-alike before.txns.held (held now) event.stands.held (footprint_of now.flat.schema bound) session ∙ holder-of_world now session (footprint_of now.flat.schema bound) in
      by_holder bound (subst (λ (db : Db). bound_statement db.schema asked ≡ Ok bound) same meant) reply _ (sym alike)
      (subst (λ (db : Db). Stated (holder_among (held_by before.txns.held) session (footprint_of db.schema bound)) db bound session before.txns after.txns reply) same stated)

  pub serves-unbound : (why : Refusal) → bound_statement before.version.schema asked ≡ Err why → AreSame before.txns after.txns → ServesAlone {E = ℕ} before.opened after history entry (Ok (Refused why))
  serves-unbound why refused same = serves_unbound why (subst (λ (db : Db). bound_statement db.schema asked ≡ Err why) event.stands.flat refused) same

-- Such a statement doesn't ask the disk, and leaves the database.
module _ (history : History) (entry : Entry) (before : State) (event : IsEvent before history entry) (opened : is_open (state_by before.txns.states entry.session.0) ≡ true)
    (asked : Statement) (asks : entry.request ≡ Run asked) (takes : TakesRows asked) where
  abbrev was : World
  was = world before.opened history

  told_any : (verdict : Verdict) → answer was (under verdict entry) ≡ reply_within was entry.session.0 (is history entry before before event refl refl opened asked asks takes).block asked
  told_any verdict = told_within history (under verdict entry) before before (event-under history entry before verdict event) refl refl opened asked asks takes

  pub unasked-stated : asks_disk (world before.opened history) entry ≡ false
  unasked-stated = asks-is was entry _ (told_any DiskFault) ∙ (sym (ap is_disk (told_any Took)) ∙ took-works was (under Took entry) refl event.up)

  pub calm-stated : (happens (world before.opened history) entry).flat ≡ (world before.opened history).flat
  calm-stated = calm history entry before before event refl refl opened asked asks takes

  create_not : (asked : Statement) → TakesRows asked → is_create (Run asked) ≡ false
  create_not (Select select) takes = refl
  create_not (Insert table columns rows) takes = refl
  create_not (Update table sets cond) takes = refl
  create_not (Delete table cond) takes = refl
  create_not _ takes = absurd takes

  pub uncommitted-stated : is_commit (world before.opened history) entry (answer (world before.opened history) entry) ≡ false
  uncommitted-stated = commit-none was entry (answer was entry) calm-stated (inr (ap is_create asks ∙ create_not asked takes))
