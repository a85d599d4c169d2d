use Rattle.std.proofs.Common.{◌≡◌, ◌∙◌, ap, ℕ, List, [], ◌∷◌, ◌++◌, true, false, None, Some, refl}
use Rattle.own_model.specs.declared.history.Entry.{Entry}
use Rattle.own_model.specs.declared.refusal.Refusal.TheVariants.{Doomed as TellsDoom}
use Rattle.own_model.specs.declared.reply.Reply.{Reply}
use Rattle.own_model.specs.declared.reply.Reply.TheVariants.{Done, Forgot, Refused, Rows}
use Rattle.own_model.specs.declared.request.Request.TheVariants.{Run}
use Rattle.own_model.specs.Db.{empty}
use Rattle.text_model.specs.Lines.{reply_lines}
use Rattle.run_model.specs.Run.{run}
use Rattle.history_model.specs.History.{after_reply, after_request, dooms, world}
use Rattle.history_model.specs.Reply.{answer}
use Rattle.history_model.specs.World.{World, Outside, Doomed}
use Rattle.history_tests.specs.Stores.{after, messages}
use Rattle.history_tests.specs.Told.{entries, told_from}
use Rattle.history_tests.specs.Written.{begin, commit, forget, int, select_all, select_key, text}
use Rattle.history_tests.proofs.Computing.{history}
use Rattle.history_tests.proofs.KeyedReads.{HasRead, Reads, holds_read, read_is, read_item}
use Rattle.history_tests.proofs.Steps.{answer_in, call_of, dooms_by, dooms_with, stands_after, step, told_of}
use Rattle.history_tests.proofs.keyed.forget_dooms_a_reader_of_a_key_that_it_removes.Goals as goal

-- the calls and the replies, and the world before each
abbrev w4 : World
w4 = world empty (entries [] (after messages))

abbrev e4 : Entry
e4 = call_of 1 5 begin

abbrev w5 : World
w5 = after_reply w4 e4 Done

abbrev e5 : Entry
e5 = call_of 1 6 (select_key "users" 5)

abbrev r5 : Reply
r5 = Rows ((int 5 ∷ text "Ann" ∷ []) ∷ [])

abbrev w6 : World
w6 = after_reply w5 e5 r5

abbrev e6 : Entry
e6 = call_of 2 1 (forget "users" 5)

abbrev w7 : World
w7 = after_reply w6 e6 (Forgot 1 1)

abbrev e7 : Entry
e7 = call_of 1 7 commit

abbrev r7 : Reply
r7 = Refused (TellsDoom (record { 0 = 6 }))

abbrev w8 : World
w8 = after_reply w7 e7 r7

abbrev e8 : Entry
e8 = call_of 1 8 (select_all "users")

abbrev r8 : Reply
r8 = Rows ((int 7 ∷ text "Bob" ∷ []) ∷ [])

begins : answer w4 e4 ≡ Done
unfolding history
begins = refl

reads : Reads w5 1 4 "users" 5 ((int 5 ∷ text "Ann" ∷ []) ∷ [])
unfolding history
reads = record { up = refl; stands = refl; right = refl; free = refl; rows = refl }

forgets : answer w6 e6 ≡ Forgot 1 1
unfolding history
forgets = refl

-- the reader holds the row that is removed
has_read : HasRead w6 1 4 5 "users" 5 (record { 0 = 0 })
unfolding history
has_read = record { up = refl; stands = refl; right = refl; source = refl }

place_is : w6.place ≡ 6
unfolding history
place_is = refl

strikes : dooms_with w6 e6 (Forgot 1 1) (read_item w6 "users" 5 (record { 0 = 0 })) ≡ true
unfolding history
strikes = refl

dooms_reader : dooms w6 e6 (Forgot 1 1) 1 ≡ true
dooms_reader = dooms_by w6 e6 (Forgot 1 1) 1 _ (holds_read has_read) ∙ strikes

doomed : w7.standing 1 ≡ Doomed 6
doomed = stands_after w6 e6 (Forgot 1 1) 1 true _ refl dooms_reader has_read.stands ∙ ap Doomed place_is

up : w7.down ≡ None
unfolding history
up = refl

-- it is told so, and is outside of transactions then
tells : answer w7 e7 ≡ r7
tells = answer_in w7 e7 (Doomed 6) up doomed

outside : w8.standing 1 ≡ Outside
outside = ap (λ standing. after_request w7.place standing (Run commit) false) doomed

still_up : w8.down ≡ None
unfolding history
still_up = refl

shown : (run w8.flat (select_all "users")).reply ≡ r8
unfolding history
shown = refl

shows : answer w8 e8 ≡ r8
shows = answer_in w8 e8 Outside still_up outside ∙ shown

abbrev replied : List ℕ
replied = reply_lines (Some w4.place) 1 5 Done ++ (reply_lines (Some w5.place) 1 6 r5 ++ (reply_lines (Some w6.place) 2 1 (Forgot 1 1)
    ++ (reply_lines (Some w7.place) 1 7 r7 ++ (reply_lines (Some w8.place) 1 8 r8 ++ told_from (after_reply w8 e8 r8) []))))

told_is : told_from w4 (e4 ∷ e5 ∷ e6 ∷ e7 ∷ e8 ∷ []) ≡ replied
told_is =
    step w4 e4 Done (e5 ∷ e6 ∷ e7 ∷ e8 ∷ []) begins (step w5 e5 r5 (e6 ∷ e7 ∷ e8 ∷ []) (read_is 6 reads)
    (step w6 e6 (Forgot 1 1) (e7 ∷ e8 ∷ []) forgets (step w7 e7 r7 (e8 ∷ []) tells (step w8 e8 r8 [] shows refl))))

pub returns : goal.returns
returns c = told_of w4 _ (e4 ∷ e5 ∷ e6 ∷ e7 ∷ e8 ∷ []) replied _ (unfold history in refl) told_is (unfold history in refl)
