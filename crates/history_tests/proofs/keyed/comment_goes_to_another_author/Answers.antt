use Rattle.std.proofs.Common.{◌≡◌, ◌∙◌, ap, ℕ, List, [], ◌∷◌, ◌++◌, None, Some, refl}
use Rattle.own_model.specs.declared.history.Entry.{Entry}
use Rattle.own_model.specs.declared.history.Verdict.TheVariants.{Took}
use Rattle.own_model.specs.declared.reply.Reply.TheVariants.{Counted}
use Rattle.own_model.specs.declared.statement.Statement.{Statement}
use Rattle.own_model.specs.Db.{Db, empty}
use Rattle.query_model.specs.Footprints.{footprint_of}
use Rattle.text_model.specs.Lines.{reply_lines}
use Rattle.history_model.specs.Held.{holder}
use Rattle.history_model.specs.History.{after_reply, world}
use Rattle.history_model.specs.Reply.{answer, write_reply}
use Rattle.history_model.specs.World.{Outside, World}
use Rattle.history_tests.specs.Stores.{after, social}
use Rattle.history_tests.specs.Told.{entries, told_from}
use Rattle.history_tests.specs.Written.{constant, get, int, update}
use Rattle.history_tests.proofs.Computing.{history}
use Rattle.history_tests.proofs.KeyedUpdate.{IsRightUpdate, bound_update_is, meant_update, update_left, update_runs, write_leaves}
use Rattle.history_tests.proofs.Steps.{answer_in, call_of, step, step_to, taken, told_of}
use Rattle.history_tests.proofs.keyed.comment_goes_to_another_author.Goals as goal

-- the calls, and the world before each
abbrev w18 : World
w18 = world empty (entries [] (after social))

abbrev e18 : Entry
e18 = call_of 1 19 (get "users" 3)

abbrev w19 : World
w19 = after_reply w18 e18 (answer w18 e18)

abbrev given : Statement
given = update "comments" "author" (constant (int 2)) 2

abbrev e19 : Entry
e19 = call_of 1 20 given

abbrev left : Db
left = (update_left w19.flat "comments" "author" (constant (int 2)) 2).db

abbrev w20 : World
w20 = record (after_reply w19 e19 (Counted 1)) { flat = left }

abbrev e20 : Entry
e20 = call_of 1 21 (get "users" 3)

abbrev e21 : Entry
e21 = call_of 1 22 (get "users" 2)

up : w19.down ≡ None
unfolding history
up = refl

outside : w19.standing 1 ≡ Outside
unfolding history
outside = refl

right : IsRightUpdate w19.flat.schema "comments" "author" (constant (int 2)) 2
unfolding history
right = refl

free : holder w19 1 (footprint_of w19.flat.schema (meant_update w19.flat.schema "comments" "author" (constant (int 2)) 2)) ≡ None
unfolding history
free = refl

one : write_reply Took w19.flat (update_left w19.flat "comments" "author" (constant (int 2)) 2) ≡ Counted 1
unfolding history
one = refl

updates : answer w19 e19 ≡ Counted 1
updates = answer_in w19 e19 Outside up outside
    ∙ taken w19 1 given _ _ (bound_update_is w19.flat.schema "comments" "author" (constant (int 2)) 2 right) free
    ∙ ap (write_reply Took w19.flat) (update_runs w19.flat "comments" "author" (constant (int 2)) 2 right) ∙ one

leaves : after_reply w19 e19 (Counted 1) ≡ w20
leaves = ap (λ db. record (after_reply w19 e19 (Counted 1)) { flat = db })
    (write_leaves w19 1 20 1 given _ outside (update_runs w19.flat "comments" "author" (constant (int 2)) 2 right))

abbrev replied : List ℕ
replied = reply_lines (Some w18.place) 1 19 (answer w18 e18) ++ (reply_lines (Some w19.place) 1 20 (Counted 1) ++ told_from w20 (e20 ∷ e21 ∷ []))

told_is : told_from w18 (e18 ∷ e19 ∷ e20 ∷ e21 ∷ []) ≡ replied
told_is = step w18 e18 (answer w18 e18) (e19 ∷ e20 ∷ e21 ∷ []) refl (step_to w19 e19 (Counted 1) w20 (e20 ∷ e21 ∷ []) updates leaves refl)

pub returns : goal.returns
returns c = told_of w18 _ (e18 ∷ e19 ∷ e20 ∷ e21 ∷ []) replied _ (unfold history in refl) told_is (unfold history in refl)
