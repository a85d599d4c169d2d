-- Some numbers: how many, and their sum.
use Rattle.std.specs.Prelude.{ℕ, ◌+◌, ◌*◌, ◌^◌, ℤ, ◌+ℤ◌, ◌≤ℤ◌, neg_ℤ, pos, List, ◌==◌, fold, length, if◌then◌else◌}
use Rattle.own_base.specs.declared.value.Value.{Value}
use Rattle.own_base.specs.declared.value.Value.TheVariants.{Null, Sum}

pub record Numbers : Type 0 where
  pub count : ℕ
  pub sum : ℤ

abbrev pub numbers_of : List ℤ → Numbers
numbers_of numbers = record { count = length numbers; sum = fold (λ sum number. sum +ℤ number) (pos 0) numbers }

-- one number more
abbrev pub with_number : Numbers → ℤ → Numbers
with_number numbers number = record { count = numbers.count + 1; sum = numbers.sum +ℤ number }

-- so many numbers of 64 bits with a sign have no greater sum
abbrev pub AreWithin : Numbers → Type 0
AreWithin numbers = (neg_ℤ (pos (numbers.count * 2 ^ 63)) ≤ℤ numbers.sum) × (numbers.sum ≤ℤ pos (numbers.count * 2 ^ 63))

-- what SUM shows of them: NULL where there is none
abbrev pub shown_sum : Numbers → Value
shown_sum numbers = if numbers.count == 0 then Null else Sum numbers.sum
