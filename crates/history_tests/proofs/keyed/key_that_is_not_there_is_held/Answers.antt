use Rattle.std.proofs.Common.{◌≡◌, ◌∙◌, ap, codes, pos, Ok, ℕ, List, [], ◌∷◌, ◌++◌, true, None, Some, refl}
use Rattle.std.specs.List.{range_with_len}
use Rattle.own_base.specs.declared.value.Key.TheVariants as key
use Rattle.own_model.specs.declared.bound.Bound.{Bound}
use Rattle.own_model.specs.declared.bound.Bound.TheVariants as bound
use Rattle.own_model.specs.declared.history.Entry.{Entry}
use Rattle.own_model.specs.declared.statement.Statement.{Statement}
use Rattle.query_model.specs.BoundStatement.{bound_statement}
use Rattle.query_model.specs.Footprints.{footprint_of, item}
use Rattle.history_tests.proofs.KeyedSelect.{footprint_is, meant}
use Rattle.own_model.specs.declared.history.Verdict.TheVariants.{Took}
use Rattle.own_model.specs.declared.refusal.Refusal.TheVariants.{Conflict, Busy}
use Rattle.own_model.specs.declared.reply.Reply.{Reply}
use Rattle.own_model.specs.declared.reply.Reply.TheVariants.{Done, Counted, Refused, Rows}
use Rattle.own_model.specs.Db.{empty}
use Rattle.text_model.specs.Lines.{reply_lines}
use Rattle.history_model.specs.History.{after_reply, world}
use Rattle.history_model.specs.Held.{holder}
use Rattle.history_model.specs.Reply.{answer, commit_reply, conflict}
use Rattle.history_model.specs.World.{World, Outside}
use Rattle.history_tests.specs.Told.{entries, told_from}
use Rattle.history_tests.specs.Written.{begin, commit, create, id, insert, int, int_column, select_key}
use Rattle.history_tests.proofs.Computing.{history}
use Rattle.history_tests.proofs.KeyedReads.{HasRead, Reads, commit_is, commit_leaves, holds_read, read_footprint, read_is, read_item}
use Rattle.history_tests.proofs.Steps.{answer_in, call_of, holder_beside, holder_beside_1, kept_out, step, step_to, told_of}
use Rattle.history_tests.proofs.keyed.key_that_is_not_there_is_held.Goals as goal

-- the calls and the replies, and the world before each
abbrev made : Statement
made = create "acc" (id ∷ int_column "n" [] ∷ [])

abbrev put : Statement
put = insert "acc" ((int 7 ∷ int 1 ∷ []) ∷ [])

abbrev w0 : World
w0 = world empty (entries [] [])

abbrev e0 : Entry
e0 = call_of 1 1 made

abbrev w1 : World
w1 = after_reply w0 e0 Done

abbrev e1 : Entry
e1 = call_of 1 2 begin

abbrev w2 : World
w2 = after_reply w1 e1 Done

abbrev e2 : Entry
e2 = call_of 1 3 (select_key "acc" 7)

abbrev w3 : World
w3 = after_reply w2 e2 (Rows [])

abbrev e3 : Entry
e3 = call_of 2 1 begin

abbrev w4 : World
w4 = after_reply w3 e3 Done

abbrev e4 : Entry
e4 = call_of 2 2 (select_key "acc" 7)

abbrev w5 : World
w5 = after_reply w4 e4 (Rows [])

abbrev e5 : Entry
e5 = call_of 2 3 commit

abbrev w6 : World
w6 = record (after_reply w5 e5 Done) { flat = w5.flat }

abbrev e6 : Entry
e6 = call_of 2 4 put

abbrev r6 : Reply
r6 = Refused (Conflict (record { 0 = 1 }) (codes "acc") (Some (key.Int (pos 7))))

abbrev w7 : World
w7 = after_reply w6 e6 r6

abbrev e7 : Entry
e7 = call_of 2 5 (create "z" (id ∷ []))

abbrev r7 : Reply
r7 = Refused (Busy (record { 0 = 1 }))

abbrev w8 : World
w8 = after_reply w7 e7 r7

abbrev e8 : Entry
e8 = call_of 1 4 commit

abbrev w9 : World
w9 = record (after_reply w8 e8 Done) { flat = w8.flat }

abbrev e9 : Entry
e9 = call_of 2 6 put

creates : answer w0 e0 ≡ Done
unfolding history
creates = refl

begins : answer w1 e1 ≡ Done
unfolding history
begins = refl

reads : Reads w2 1 1 "acc" 7 []
unfolding history
reads = record { up = refl; stands = refl; right = refl; free = refl; rows = refl }

begins_too : answer w3 e3 ≡ Done
unfolding history
begins_too = refl

-- what the first holds, is read by the second
has_read : HasRead w4 1 1 2 "acc" 7 (record { 0 = 0 })
unfolding history
has_read = record { up = refl; stands = refl; right = refl; source = refl }

footprint : footprint_of w4.flat.schema (bound.Select (meant w4.flat.schema "acc" 7)) ≡ read_footprint w4 "acc" 7 (record { 0 = 0 })
footprint = footprint_is w4.flat.schema "acc" 7 (record { 0 = 0 }) has_read.source

only_reads : holder_beside w4 (read_footprint w4 "acc" 7 (record { 0 = 0 })) (read_item w4 "acc" 7 (record { 0 = 0 })) (range_with_len 3 14) ≡ None
unfolding history
only_reads = refl

free : holder w4 2 (footprint_of w4.flat.schema (bound.Select (meant w4.flat.schema "acc" 7))) ≡ None
free = ap (holder w4 2) footprint ∙ holder_beside_1 w4 _ _ (holds_read has_read) ∙ only_reads

reads_too : Reads w4 2 3 "acc" 7 []
unfolding history
reads_too = record { up = refl; stands = refl; right = refl; free = free; rows = refl }

has_read_too : HasRead w5 2 3 4 "acc" 7 (record { 0 = 0 })
unfolding history
has_read_too = record { up = refl; stands = refl; right = refl; source = refl }

commits_too : commit_reply Took w5.flat w5.flat ≡ Done
unfolding history
commits_too = refl

-- what the first holds, isn't written by the second
holds_still : HasRead w6 1 1 2 "acc" 7 (record { 0 = 0 })
unfolding history
holds_still = record { up = refl; stands = refl; right = refl; source = refl }

abbrev put_bound : Bound
put_bound = bound.Insert (record { 0 = 0 }) ((int 7 ∷ int 1 ∷ []) ∷ [])

put_means : bound_statement w6.flat.schema put ≡ Ok put_bound
unfolding history
put_means = refl

meets : holder_beside w6 (footprint_of w6.flat.schema put_bound) (read_item w6 "acc" 7 (record { 0 = 0 })) (range_with_len 3 14)
    ≡ Some (record { session = 1; item = item (record { 0 = 0 }) (Some (key.Int (pos 7))) true })
unfolding history
meets = refl

outside : w6.standing 2 ≡ Outside
unfolding history
outside = refl

names : conflict w6 (record { session = 1; item = item (record { 0 = 0 }) (Some (key.Int (pos 7))) true }) ≡ r6
unfolding history
names = refl

conflicts : answer w6 e6 ≡ r6
conflicts = answer_in w6 e6 Outside holds_still.up outside
    ∙ kept_out w6 2 put put_bound _ _ put_means (holder_beside_1 w6 _ _ (holds_read holds_still) ∙ meets) ∙ names

is_busy : answer w7 e7 ≡ r7
unfolding history
is_busy = refl

holds_to_the_end : HasRead w8 1 1 2 "acc" 7 (record { 0 = 0 })
unfolding history
holds_to_the_end = record { up = refl; stands = refl; right = refl; source = refl }

commits : commit_reply Took w8.flat w8.flat ≡ Done
unfolding history
commits = refl

puts : answer w9 e9 ≡ Counted 1
unfolding history
puts = refl

abbrev replied : List ℕ
replied = reply_lines (Some w0.place) 1 1 Done ++ (reply_lines (Some w1.place) 1 2 Done ++ (reply_lines (Some w2.place) 1 3 (Rows [])
    ++ (reply_lines (Some w3.place) 2 1 Done ++ (reply_lines (Some w4.place) 2 2 (Rows []) ++ (reply_lines (Some w5.place) 2 3 Done
    ++ (reply_lines (Some w6.place) 2 4 r6 ++ (reply_lines (Some w7.place) 2 5 r7 ++ (reply_lines (Some w8.place) 1 4 Done
    ++ (reply_lines (Some w9.place) 2 6 (Counted 1) ++ told_from (after_reply w9 e9 (Counted 1)) [])))))))))

told_is : told_from w0 (e0 ∷ e1 ∷ e2 ∷ e3 ∷ e4 ∷ e5 ∷ e6 ∷ e7 ∷ e8 ∷ e9 ∷ []) ≡ replied
told_is =
    step w0 e0 Done (e1 ∷ e2 ∷ e3 ∷ e4 ∷ e5 ∷ e6 ∷ e7 ∷ e8 ∷ e9 ∷ []) creates
    (step w1 e1 Done (e2 ∷ e3 ∷ e4 ∷ e5 ∷ e6 ∷ e7 ∷ e8 ∷ e9 ∷ []) begins
    (step w2 e2 (Rows []) (e3 ∷ e4 ∷ e5 ∷ e6 ∷ e7 ∷ e8 ∷ e9 ∷ []) (read_is 3 reads)
    (step w3 e3 Done (e4 ∷ e5 ∷ e6 ∷ e7 ∷ e8 ∷ e9 ∷ []) begins_too
    (step w4 e4 (Rows []) (e5 ∷ e6 ∷ e7 ∷ e8 ∷ e9 ∷ []) (read_is 2 reads_too)
    (step_to w5 e5 Done w6 (e6 ∷ e7 ∷ e8 ∷ e9 ∷ []) (commit_is 3 has_read_too ∙ commits_too)
    (ap (λ db. record (after_reply w5 e5 Done) { flat = db }) (commit_leaves 3 has_read_too))
    (step w6 e6 r6 (e7 ∷ e8 ∷ e9 ∷ []) conflicts
    (step w7 e7 r7 (e8 ∷ e9 ∷ []) is_busy
    (step_to w8 e8 Done w9 (e9 ∷ []) (commit_is 4 holds_to_the_end ∙ commits)
    (ap (λ db. record (after_reply w8 e8 Done) { flat = db }) (commit_leaves 4 holds_to_the_end))
    (step w9 e9 (Counted 1) [] puts refl)))))))))

pub returns : goal.returns
returns c = told_of w0 _ (e0 ∷ e1 ∷ e2 ∷ e3 ∷ e4 ∷ e5 ∷ e6 ∷ e7 ∷ e8 ∷ e9 ∷ []) replied _ (unfold history in refl) told_is (unfold history in refl)
