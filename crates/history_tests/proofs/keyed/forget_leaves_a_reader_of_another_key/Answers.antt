use Rattle.std.proofs.Common.{◌≡◌, ◌∙◌, ℕ, List, [], ◌∷◌, ◌++◌, false, Some, refl}
use Rattle.own_model.specs.declared.history.Entry.{Entry}
use Rattle.own_model.specs.declared.history.Verdict.TheVariants.{Took}
use Rattle.own_model.specs.declared.reply.Reply.{Reply}
use Rattle.own_model.specs.declared.reply.Reply.TheVariants.{Done, Forgot, Rows}
use Rattle.own_model.specs.Db.{empty}
use Rattle.text_model.specs.Lines.{reply_lines}
use Rattle.history_model.specs.History.{after_reply, world}
use Rattle.history_model.specs.Reply.{answer, commit_reply}
use Rattle.history_model.specs.World.{World, Open}
use Rattle.history_tests.specs.Stores.{after, messages}
use Rattle.history_tests.specs.Told.{entries, told_from}
use Rattle.history_tests.specs.Written.{begin, commit, forget, int, select_key, text}
use Rattle.history_tests.proofs.Computing.{history}
use Rattle.history_tests.proofs.KeyedReads.{HasRead, Reads, commit_is, holds_read, one_read, read_is, read_item}
use Rattle.history_tests.proofs.Steps.{call_of, dooms_by, dooms_with, stands_after, step, told_of}
use Rattle.history_tests.proofs.keyed.forget_leaves_a_reader_of_another_key.Goals as goal

-- the calls and the replies, and the world before each
abbrev w4 : World
w4 = world empty (entries [] (after messages))

abbrev e4 : Entry
e4 = call_of 1 5 begin

abbrev w5 : World
w5 = after_reply w4 e4 Done

abbrev e5 : Entry
e5 = call_of 1 6 (select_key "users" 7)

abbrev r5 : Reply
r5 = Rows ((int 7 ∷ text "Bob" ∷ []) ∷ [])

abbrev w6 : World
w6 = after_reply w5 e5 r5

abbrev e6 : Entry
e6 = call_of 2 1 (forget "users" 5)

abbrev w7 : World
w7 = after_reply w6 e6 (Forgot 1 1)

abbrev e7 : Entry
e7 = call_of 1 7 commit

begins : answer w4 e4 ≡ Done
unfolding history
begins = refl

reads : Reads w5 1 4 "users" 7 ((int 7 ∷ text "Bob" ∷ []) ∷ [])
unfolding history
reads = record { up = refl; stands = refl; right = refl; free = refl; rows = refl }

forgets : answer w6 e6 ≡ Forgot 1 1
unfolding history
forgets = refl

-- the reader holds a row that stays as it is
has_read : HasRead w6 1 4 5 "users" 7 (record { 0 = 0 })
unfolding history
has_read = record { up = refl; stands = refl; right = refl; source = refl }

spares : dooms_with w6 e6 (Forgot 1 1) (read_item w6 "users" 7 (record { 0 = 0 })) ≡ false
unfolding history
spares = refl

stays_open : w7.standing 1 ≡ Open 4 (one_read 5 "users" 7)
stays_open = stands_after w6 e6 (Forgot 1 1) 1 false _ refl (dooms_by w6 e6 (Forgot 1 1) 1 _ (holds_read has_read) ∙ spares) has_read.stands

-- so it commits
has_read_still : HasRead w7 1 4 5 "users" 7 (record { 0 = 0 })
unfolding history
has_read_still = record { up = refl; stands = stays_open; right = refl; source = refl }

is_done : commit_reply Took w7.flat w7.flat ≡ Done
unfolding history
is_done = refl

abbrev replied : List ℕ
replied = reply_lines (Some w4.place) 1 5 Done ++ (reply_lines (Some w5.place) 1 6 r5 ++ (reply_lines (Some w6.place) 2 1 (Forgot 1 1)
    ++ (reply_lines (Some w7.place) 1 7 Done ++ told_from (after_reply w7 e7 Done) [])))

told_is : told_from w4 (e4 ∷ e5 ∷ e6 ∷ e7 ∷ []) ≡ replied
told_is =
    step w4 e4 Done (e5 ∷ e6 ∷ e7 ∷ []) begins (step w5 e5 r5 (e6 ∷ e7 ∷ []) (read_is 6 reads)
    (step w6 e6 (Forgot 1 1) (e7 ∷ []) forgets (step w7 e7 Done [] (commit_is 7 has_read_still ∙ is_done) refl)))

pub returns : goal.returns
returns c = told_of w4 _ (e4 ∷ e5 ∷ e6 ∷ e7 ∷ []) replied _ (unfold history in refl) told_is (unfold history in refl)
