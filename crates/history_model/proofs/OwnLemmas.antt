-- How a session stands after a request of its own: its open transaction's statements still give the replies that were given,
-- and what it holds is still apart from what each other session holds.
use Rattle.std.proofs.Common.{◌≡◌, ℕ, ◌≤◌, ◌<◌, [], ◌∷◌, ◌++◌, length, Bool, true, false, cond, inl, inr, refl, ap, sym, subst, ◌∙◌, arith}
use Rattle.std.specs.Prelude.{◌⊎◌, Some, Err, if◌then◌else◌}
use Rattle.std.proofs.lemmas.List.{length-append}
use Rattle.own_model.specs.declared.history.Entry.{Entry}
use Rattle.own_model.specs.declared.history.Verdict.{Verdict}
use Rattle.own_model.specs.declared.limit.TheConstants.{SESSIONS, STATEMENT_BYTES}
use Rattle.own_model.specs.declared.refusal.Refusal.{Refusal}
use Rattle.own_model.specs.declared.reply.Reply.{Reply}
use Rattle.own_model.specs.declared.reply.Reply.TheVariants.{Refused}
use Rattle.own_model.specs.declared.request.Request.{Request}
use Rattle.own_model.specs.declared.request.Request.TheVariants.{Run, Syntax, Limit, End}
use Rattle.own_model.specs.declared.statement.Statement.{Statement}
use Rattle.own_model.specs.declared.statement.Statement.TheVariants as statement
use Rattle.own_model.specs.Db.{Db}
use Rattle.grammar_model.specs.Readable.{IsReadable, IsWritten}
use Rattle.query_model.specs.BoundStatement.{bound_statement}
use Rattle.run_model.specs.Items.{TakesRows, items_of, items_of_all}
use Rattle.run_model.specs.Run.{Outcome, run, run_unless}
use Rattle.run_model.proofs.StatementFootprints.{run_bound_of}
use Rattle.schema_model.proofs.Places.{all-append}
use Rattle.history_model.specs.Held.{held, is_open, items_held}
use Rattle.history_model.specs.History.{History, after_request, flat_after, is_conflict, is_failure, left_by, own_after, reply, with_stated}
use Rattle.history_model.specs.Reply.{is_refusal, reply_in, reply_inside, reply_within, taking, unless_down}
use Rattle.history_model.specs.Sentences.{IsOther}
use Rattle.history_model.specs.World.{Block, Stated, SessionStanding, Outside, Open, Doomed, World, after_block, statements_of}
use Rattle.history_model.proofs.Accepted.{no_failure, working-down}
use Rattle.history_model.proofs.ApartLemmas.{AreApart, apart-append}
use Rattle.history_model.proofs.BlockLemmas.{IsOfBlock, given-later, given-push, items-push, later-of_block, schema-block}
use Rattle.history_model.proofs.GrantLemmas.{IsGranted, granted-taking}
use Rattle.history_model.proofs.Worlds.{HoldsNothing, IsOpenBlock, IsSerialWorld, IsStanding, held-open, items-nothing, open-block, stands-nothing}

-- a statement with a footprint that binding refuses is told why, whatever rows there are
pub refused-binding : (db : Db) (asked : Statement) (why : Refusal) → TakesRows asked → bound_statement db.schema asked ≡ Err why
    → (run db asked).reply ≡ Refused why
refused-binding db asked why takes is = ap (λ (outcome : Outcome). outcome.reply) (run_bound_of db asked takes ∙ ap (run_unless db) is)

-- A session outside, or whose transaction a FORGET ended, holds nothing after a request.
outside-nothing : (place : ℕ) (request : Request) (conflicts : Bool) → HoldsNothing (after_request place Outside request conflicts)
outside-nothing place (Run statement.Begin) conflicts = refl
outside-nothing place _ conflicts = tt

-- A session whose transaction is open after its own request left the flat database.
left-open : (db : Db) (place : ℕ) (standing : SessionStanding) (request : Request) (conflicts : Bool) → is_open (after_request place standing request conflicts) ≡ true
    → left_by db standing request ≡ db
unfolding run
left-open db place (Doomed by) request conflicts opened = refl
left-open db place Outside (Run statement.Begin) conflicts opened = refl
left-open db place Outside _ conflicts opened = absurd (cc)
left-open db place (Open begun block) (Run statement.Commit) conflicts opened = absurd (cc)
left-open db place (Open begun block) _ conflicts opened = refl

refused_or : (db left : Db) (refused : Bool) → left ≡ db → (if refused then db else left) ≡ db
refused_or db left true same = refl
refused_or db left false same = same

flat_by : (world : World) (entry : Entry) (given : Reply) (failed refused : Bool) → is_failure given ≡ failed → is_refusal given ≡ refused
    → is_open (if failed then world.standing entry.session.0 else after_request world.place (world.standing entry.session.0) entry.request (is_conflict given)) ≡ true
    → (if refused then world.flat else left_by world.flat (world.standing entry.session.0) entry.request) ≡ world.flat
flat_by world entry given true true is is_refused opened = refl
flat_by world entry given true false is accepted opened = let never : true ≡ false = sym is ∙ no_failure given accepted in absurd (cc)
flat_by world entry given false refused is is_refused opened =
    refused_or world.flat _ refused (left-open world.flat world.place (world.standing entry.session.0) entry.request (is_conflict given) opened)

pub flat-open : (world : World) (entry : Entry) (given : Reply) → is_open (own_after world entry given) ≡ true → flat_after world entry given ≡ world.flat
flat-open world entry given opened = flat_by world entry given _ _ refl refl opened

module _ (base : Db) (history : History) (world : World) (is : IsSerialWorld base history world) (entry : Entry)
    (first : 1 ≤ entry.session.0) (last : entry.session.0 ≤ SESSIONS) where
  abbrev session : ℕ
  session = entry.session.0

  abbrev more : History
  more = history ++ entry ∷ []

  -- how the session stands after the entry, over the database that the entry leaves
  pub record IsOwn (db : Db) (standing : SessionStanding) : Type 0 where
    pub stands : IsStanding base (history ++ entry ∷ []) db entry.session.0 standing
    pub apart : (other : ℕ) → IsOther entry.session.0 other → AreApart (items_held db.schema standing) (held world other)

  -- it holds nothing
  own-nothing : (db : Db) (standing : SessionStanding) → HoldsNothing standing → IsOwn db standing
  own-nothing db standing nothing = record {
    stands = stands-nothing base more db session standing first last nothing;
    apart = λ other differs. rw (items-nothing db.schema standing nothing) tt;
  }

  -- what it holds as its transaction's
  own_apart : (begun : ℕ) (block : Block) → world.standing session ≡ Open begun block → (other : ℕ) → IsOther session other
      → AreApart (items_of_all world.flat.schema (statements_of block)) (held world other)
  own_apart begun block opened other differs =
      subst (λ items. AreApart items (held world other)) (held-open world session begun block opened)
      (is.apart session other (λ same. differs.differs (sym same)))

  longer : length history ≤ length more
  longer = omega (arith, length-append history (entry ∷ []))

  -- its transaction is as it was, on the database as it was
  own-open : (begun : ℕ) (block : Block) → world.standing session ≡ Open begun block → IsOwn world.flat (Open begun block)
  own-open begun block opened =
      let own = open-block base history world is session begun block opened in
      record {
        stands = record {
          first = first;
          last = last;
          stated = later-of_block (length history) (length more) longer block own.stated;
          given = given-later base history (entry ∷ []) world.flat block own.stated own.given;
        };
        apart = own_apart begun block opened;
      }

  own_step : (standing : SessionStanding) → world.standing session ≡ standing → IsOwn world.flat standing
  own_step Outside stands = own-nothing world.flat Outside tt
  own_step (Open begun block) stands = own-open begun block stands
  own_step (Doomed by) stands = own-nothing world.flat (Doomed by) tt

  -- it stands as it did
  pub own-same : IsOwn world.flat (world.standing entry.session.0)
  own-same = own_step (world.standing session) refl

  module _ (begun : ℕ) (block : Block) (opened : world.standing entry.session.0 ≡ Open begun block) (asked : Statement) (readable : IsWritten STATEMENT_BYTES asked)
      (takes : TakesRows asked) where
    abbrev stated : Stated
    stated = record { place = world.place; statement = asked }

    own : IsOpenBlock base history world.flat session block
    own = open-block base history world is session begun block opened

    abbrev answered : Reply
    answered = (run (after_block world.flat block) asked).reply

    -- one statement more, without a conflict
    own-more : IsGranted world session asked answered → reply base more (length history) ≡ Some answered → IsOwn world.flat (Open begun (block ++ stated ∷ []))
    own-more granted told =
        let at : reply base more world.place ≡ Some answered = ap (reply base more) is.place ∙ told in
        let place = is.place in
        let before : world.place < length more = omega (arith, length-append history (entry ∷ [])) in
        record {
          stands = record {
            first = first;
            last = last;
            stated = all-append (IsOfBlock (length more)) block (stated ∷ []) (later-of_block (length history) (length more) longer block own.stated)
                (record { taking = record { readable = readable; takes = takes }; before = before }, tt);
            given = given-push base more world.flat block stated (given-later base history (entry ∷ []) world.flat block own.stated own.given) at;
          };
          apart = λ other differs. rw (items-push world.flat.schema block stated)
              (apart-append (items_of_all world.flat.schema (statements_of block)) (items_of world.flat.schema asked) (held world other)
              (own_apart begun block opened other differs) (granted.apart other differs));
        }

    -- what it is told is what its statement replies after those before
    told_step : IsGranted world session asked answered → reply_within world session block asked ≡ answered
    told_step granted = by granted.goes
      where
        by : (taking world session asked answered ≡ answered)
            ⊎ ((why : Refusal) × (bound_statement world.flat.schema asked ≡ Err why) × (taking world session asked answered ≡ Refused why))
            → taking world session asked answered ≡ answered
        by (inl goes) = goes
        by (inr (why, refused, told)) =
            let same : (after_block world.flat block).schema ≡ world.flat.schema = schema-block (length history) world.flat block own.stated in
            told ∙ sym (refused-binding (after_block world.flat block) asked why takes (ap (λ schema. bound_statement schema asked) same ∙ refused))

    -- a statement in the transaction
    own-stated : (conflicts : Bool) → is_conflict (reply_within world session block asked) ≡ conflicts
        → reply base more (length history) ≡ Some (reply_within world session block asked)
        → IsOwn world.flat (with_stated world.place begun block asked conflicts)
    own-stated true conflict told = own-open begun block opened
    own-stated false free told =
        let granted = granted-taking world session asked answered free in
        own-more granted (told ∙ ap Some (told_step granted))

  own-either : (standing : SessionStanding) → IsOwn world.flat standing → (refused : Bool) → IsOwn (if refused then world.flat else world.flat) standing
  own-either standing own true = own
  own-either standing own false = own

  -- a statement in a transaction, whether it is refused or not
  own-inside : (refused : Bool) (verdict : Verdict) (begun : ℕ) (block : Block) (asked : Statement) → world.standing session ≡ Open begun block
      → IsWritten STATEMENT_BYTES asked → reply base more (length history) ≡ Some (reply_inside world session verdict block asked)
      → IsOwn (if refused then world.flat else left_by world.flat (Open begun block) (Run asked))
      (after_request world.place (Open begun block) (Run asked) (is_conflict (reply_inside world session verdict block asked)))
  own-inside refused verdict begun block (statement.Select select) opened readable told =
      own-either _ (own-stated begun block opened (statement.Select select) readable tt _ refl told) refused
  own-inside refused verdict begun block (statement.Insert table columns rows) opened readable told =
      own-either _ (own-stated begun block opened (statement.Insert table columns rows) readable tt _ refl told) refused
  own-inside refused verdict begun block (statement.Update table sets cond) opened readable told =
      own-either _ (own-stated begun block opened (statement.Update table sets cond) readable tt _ refl told) refused
  own-inside refused verdict begun block (statement.Delete table cond) opened readable told =
      own-either _ (own-stated begun block opened (statement.Delete table cond) readable tt _ refl told) refused
  own-inside refused verdict begun block statement.Commit opened readable told = own-nothing _ Outside tt
  own-inside refused verdict begun block statement.Rollback opened readable told = own-nothing _ Outside tt
  own-inside refused verdict begun block _ opened readable told = own-either _ (own-open begun block opened) refused

  -- any request
  own-request : (refused : Bool) (verdict : Verdict) (standing : SessionStanding) (request : Request) → world.standing session ≡ standing → IsReadable request
      → reply base more (length history) ≡ Some (reply_in world session verdict standing request)
      → IsOwn (if refused then world.flat else left_by world.flat standing request)
      (after_request world.place standing request (is_conflict (reply_in world session verdict standing request)))
  own-request refused verdict (Doomed by) request stands readable told = own-nothing _ Outside tt
  own-request refused verdict Outside request stands readable told = own-nothing _ _ (outside-nothing world.place request _)
  own-request refused verdict (Open begun block) (Run asked) stands readable told = own-inside refused verdict begun block asked stands readable told
  own-request refused verdict (Open begun block) (Syntax byte) stands readable told = own-either _ (own-open begun block stands) refused
  own-request refused verdict (Open begun block) (Limit passed) stands readable told = own-either _ (own-open begun block stands) refused
  own-request refused verdict (Open begun block) End stands readable told = own-nothing _ Outside tt

  module _ (given : Reply) (told : reply base (history ++ entry ∷ []) (length history) ≡ Some given)
      (answered : given ≡ unless_down world.down (reply_in world entry.session.0 entry.verdict (world.standing entry.session.0) entry.request)) where
    abbrev answer_in : Reply
    answer_in = reply_in world session entry.verdict (world.standing session) entry.request

    -- an answer for want of the disk changes nothing
    own_failed : (refused : Bool) → is_refusal given ≡ refused → is_failure given ≡ true
        → IsOwn (if refused then world.flat else left_by world.flat (world.standing session) entry.request) (world.standing session)
    own_failed true is failed = own-same
    own_failed false is failed = let never : true ≡ false = sym failed ∙ no_failure given is in absurd (cc)

    own_by : (failed : Bool) → is_failure given ≡ failed → IsReadable entry.request
        → IsOwn (flat_after world entry given) (if failed then world.standing session else after_request world.place (world.standing session) entry.request (is_conflict given))
    own_by true is readable = own_failed _ refl is
    own_by false is readable =
        let same : given ≡ answer_in = answered ∙ working-down world.down answer_in (ap is_failure (sym answered) ∙ is) in
        let own = own-request (is_refusal given) entry.verdict (world.standing session) entry.request refl readable (told ∙ ap Some same) in
        subst (λ answer. IsOwn (flat_after world entry given) (after_request world.place (world.standing session) entry.request (is_conflict answer))) (sym same) own

    -- how the session stands after its entry
    pub own-after : IsReadable entry.request → IsOwn (flat_after world entry given) (own_after world entry given)
    own-after readable = own_by _ refl readable
