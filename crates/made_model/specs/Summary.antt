-- What the calls of a run came to, in numbers.
use Rattle.std.specs.Prelude.{ℕ, ℤ, ◌+ℤ◌, pos, List, [], ◌∷◌, Bool, true, false, length, count_by, sum_by, fold, slice_get}
use Rattle.std.specs.Int.{w128, saturate_signed}
use Rattle.std.specs.Option.{option_map_or}
use Rattle.own_base.specs.declared.value.Value.{Value}
use Rattle.own_base.specs.declared.value.Value.TheVariants.{Int, Sum}
use Rattle.own_model.specs.declared.refusal.Refusal.TheVariants.{Memory}
use Rattle.own_model.specs.declared.reply.Reply.{Reply}
use Rattle.own_model.specs.declared.reply.Reply.TheVariants.{Rows, Got, Forgot, Refused}

-- how many calls there were, how many of them were refused, and how many for want of memory; how many rows were shown to
-- people, and how many rows erasures removed and changed; how many rows the last call shows, and the sum of their third values
pub record Summary : Type 0 where
  pub calls : ℕ
  pub refused : ℕ
  pub memory : ℕ
  pub got : ℕ
  pub removed : ℕ
  pub changed : ℕ
  pub held : ℕ
  pub sum : ℤ

abbrev pub is_memory : Reply → Bool
is_memory (Refused Memory) = true
is_memory reply = false

-- for another cause than memory
abbrev pub is_refused : Reply → Bool
is_refused (Refused Memory) = false
is_refused (Refused why) = true
is_refused reply = false

abbrev pub got_of : Reply → ℕ
got_of (Got rows) = length rows
got_of reply = 0

abbrev pub removed_of : Reply → ℕ
removed_of (Forgot removed changed) = removed
removed_of reply = 0

abbrev pub changed_of : Reply → ℕ
changed_of (Forgot removed changed) = changed
changed_of reply = 0

abbrev pub rows_of : Reply → List (List Value)
rows_of (Rows rows) = rows
rows_of reply = []

-- the rows of the last reply, if it has rows
abbrev pub last_rows : List Reply → List (List Value)
last_rows [] = []
last_rows (reply ∷ []) = rows_of reply
last_rows (reply ∷ next ∷ replies) = last_rows (next ∷ replies)

-- a number counts as itself, and what is none as 0
abbrev pub number_of : Value → ℤ
number_of (Int number) = number
number_of (Sum number) = number
number_of value = pos 0

-- the third value of a row, where it is a number
abbrev pub third_number : List Value → ℤ
third_number row = option_map_or number_of (slice_get row 2) (pos 0)

-- added up from the first row on, each time to the nearest number of 128 bits
abbrev pub sum_of : List (List Value) → ℤ
sum_of rows = fold (λ sum row. saturate_signed w128 (sum +ℤ third_number row)) (pos 0) rows

-- the summary of what the calls were answered, in their order
abbrev pub summary : List Reply → Summary
summary replies = record {
  calls = length replies;
  refused = count_by is_refused replies;
  memory = count_by is_memory replies;
  got = sum_by got_of replies;
  removed = sum_by removed_of replies;
  changed = sum_by changed_of replies;
  held = length (last_rows replies);
  sum = sum_of (last_rows replies);
}
