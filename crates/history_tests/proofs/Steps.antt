-- Histories step by step, where a reply doesn't compute by itself.
use Rattle.std.proofs.Common.{◌≡◌, ◌∙◌, ◌==◌, ◌&&◌, ℕ, List, [], ◌∷◌, ◌++◌, Bool, false, not, Option, None, Some, Ok, ap, filter_map}
use Rattle.std.specs.Prelude.{if◌then◌else◌}
use Rattle.std.specs.List.{cons_option, range_with_len}
use Rattle.std.specs.Option.{option_map, option_map_or}
use Rattle.own_model.specs.declared.bound.Bound.{Bound}
use Rattle.own_model.specs.declared.footprint.FootItem.{FootItem}
use Rattle.own_model.specs.declared.history.Entry.{Entry}
use Rattle.own_model.specs.declared.history.Verdict.TheVariants.{Took}
use Rattle.own_model.specs.declared.reply.Reply.{Reply}
use Rattle.own_model.specs.declared.request.Request.TheVariants.{Run}
use Rattle.own_model.specs.declared.select.Select.{Select}
use Rattle.own_model.specs.declared.statement.Statement.{Statement}
use Rattle.own_model.specs.declared.statement.Statement.TheVariants as statement
use Rattle.own_model.specs.Db.{Db}
use Rattle.query_model.specs.BoundStatement.{bound_statement}
use Rattle.query_model.specs.Footprints.{footprint_of}
use Rattle.text_model.specs.Lines.{reply_lines}
use Rattle.subject_model.specs.Forget.{changed, removed}
use Rattle.run_model.specs.Items.{items_of, items_of_all}
use Rattle.run_model.specs.Run.{run}
use Rattle.history_model.specs.Held.{Holding, first_holding, first_overlap, held, holder, holding, items_held}
use Rattle.history_model.specs.History.{History, after_reply, doomed_at, dooms, forgotten, lie_on, other_after, own_after}
use Rattle.history_model.specs.Reply.{answer, conflict, granted, is_refusal, reply_in, taking, unless_down, unless_held}
use Rattle.history_model.specs.World.{Block, Open, SessionStanding, World, after_block}
use Rattle.history_tests.specs.Told.{told_from}

-- one entry that is answered so, from a world to the next
pub step : (world : World) (entry : Entry) (reply : Reply) (rest : History) {more : List ℕ} → answer world entry ≡ reply
    → told_from (after_reply world entry reply) rest ≡ more
    → told_from world (entry ∷ rest) ≡ reply_lines (Some world.place) entry.session.0 entry.call reply ++ more
unfolding told_from
step world entry reply rest is goes_on =
    ap (λ found. reply_lines (Some world.place) entry.session.0 entry.call found ++ told_from (after_reply world entry found) rest) is
    ∙ ap (λ more. reply_lines (Some world.place) entry.session.0 entry.call reply ++ more) goes_on

-- the answer, where it is known how the session stands, and that the disk hasn't failed
pub answer_in : (world : World) (entry : Entry) (standing : SessionStanding) → world.down ≡ None → world.standing entry.session.0 ≡ standing
    → answer world entry ≡ reply_in world entry.session.0 entry.verdict standing entry.request
unfolding answer
answer_in world entry standing up stands =
    ap (λ down. unless_down down (reply_in world entry.session.0 entry.verdict (world.standing entry.session.0) entry.request)) up
    ∙ ap (λ standing. reply_in world entry.session.0 entry.verdict standing entry.request) stands

-- a statement whose rows nobody holds
pub taken : (world : World) (session : ℕ) (asked : Statement) (bound : Bound) (reply : Reply) → bound_statement world.flat.schema asked ≡ Ok bound
    → holder world session (footprint_of world.flat.schema bound) ≡ None → taking world session asked reply ≡ reply
taken world session asked bound reply means free =
    ap (λ found. granted world session found reply) means ∙ ap (λ found. unless_held world found reply) free

-- an entry that the disk takes
abbrev pub call_of : ℕ → ℕ → Statement → Entry
call_of session call asked = record { session = record { 0 = session }; call = call; request = Run asked; verdict = Took }

-- a SELECT in a transaction whose statements leave a database
pub read_inside : (world : World) (session call begun : ℕ) (block : Block) (asked : Select) (bound : Bound) (db : Db)
    → world.down ≡ None → world.standing session ≡ Open begun block → after_block world.flat block ≡ db
    → bound_statement world.flat.schema (statement.Select asked) ≡ Ok bound → holder world session (footprint_of world.flat.schema bound) ≡ None
    → answer world (call_of session call (statement.Select asked)) ≡ (run db (statement.Select asked)).reply
read_inside world session call begun block asked bound db up stands after means free =
    answer_in world (call_of session call (statement.Select asked)) (Open begun block) up stands
    ∙ taken world session (statement.Select asked) bound _ means free
    ∙ ap (λ db. (run db (statement.Select asked)).reply) after

-- what a session holds that has one statement in its transaction
pub held_one : (world : World) (session begun place : ℕ) (asked : Statement) (items : List FootItem)
    → world.standing session ≡ Open begun (record { place = place; statement = asked } ∷ []) → items_of world.flat.schema asked ≡ items
    → held world session ≡ items ++ []
unfolding held items_of_all
held_one world session begun place asked items stands are = ap (items_held world.flat.schema) stands ∙ ap (λ items. items ++ []) are

-- whether an entry ends the transaction of a session that holds these items
abbrev pub dooms_with : World → Entry → Reply → List FootItem → Bool
dooms_with world entry reply items = not (is_refusal reply)
    && option_map_or (λ subject. lie_on (removed world.flat subject ++ changed world.flat subject) items) (forgotten world.flat.schema entry.request) false

pub dooms_by : (world : World) (entry : Entry) (reply : Reply) (session : ℕ) (items : List FootItem) → held world session ≡ items
    → dooms world entry reply session ≡ dooms_with world entry reply items
unfolding dooms
dooms_by world entry reply session items holds = ap (dooms_with world entry reply) holds

-- how another session stands after an entry
pub stands_after : (world : World) (entry : Entry) (reply : Reply) (session : ℕ) (doomed : Bool) (standing : SessionStanding)
    → (session == entry.session.0) ≡ false → dooms world entry reply session ≡ doomed → world.standing session ≡ standing
    → (after_reply world entry reply).standing session ≡ (if doomed then doomed_at world.place standing else standing)
stands_after world entry reply session doomed standing other dooms stands =
    ap (λ own. if own then own_after world entry reply else other_after world entry reply session) other
    ∙ ap (λ doomed. if doomed then doomed_at world.place (world.standing session) else world.standing session) dooms
    ∙ ap (λ standing. if doomed then doomed_at world.place standing else standing) stands

-- lines that are told of a history which computes to these entries
pub told_of : (world : World) (history steps : History) (told lines : List ℕ) → history ≡ steps → told_from world steps ≡ told → told ≡ lines
    → told_from world history ≡ lines
told_of world history steps told lines are tells written = ap (told_from world) are ∙ tells ∙ written

-- the same, where the world after it is known otherwise
pub step_to : (world : World) (entry : Entry) (reply : Reply) (next : World) (rest : History) {more : List ℕ} → answer world entry ≡ reply
    → after_reply world entry reply ≡ next → told_from next rest ≡ more
    → told_from world (entry ∷ rest) ≡ reply_lines (Some world.place) entry.session.0 entry.call reply ++ more
step_to world entry reply next rest is leads goes_on = step world entry reply rest is (ap (λ world. told_from world rest) leads ∙ goes_on)

-- a statement of which another session holds a row
pub kept_out : (world : World) (session : ℕ) (asked : Statement) (bound : Bound) (reply : Reply) (holding : Holding)
    → bound_statement world.flat.schema asked ≡ Ok bound → holder world session (footprint_of world.flat.schema bound) ≡ Some holding
    → taking world session asked reply ≡ conflict world holding
kept_out world session asked bound reply holding means held =
    ap (λ found. granted world session found reply) means ∙ ap (λ found. unless_held world found reply) held

-- who holds a row of a footprint, where it is known what the lowest other session holds
abbrev pub holder_beside : World → List FootItem → List FootItem → List ℕ → Option Holding
holder_beside world footprint items rest =
    first_holding (cons_option (option_map (λ item. record { session = 1; item = item }) (first_overlap items footprint)) (filter_map (holding world footprint) rest))

-- for session 2 that is session 1
pub holder_beside_1 : (world : World) (footprint items : List FootItem) → held world 1 ≡ items
    → holder world 2 footprint ≡ holder_beside world footprint items (range_with_len 3 14)
unfolding holder
holder_beside_1 world footprint items holds = ap (λ items. holder_beside world footprint items (range_with_len 3 14)) holds
