-- What is granted to a session overlaps nothing that another session holds.
use Rattle.std.proofs.Common.{◌≡◌, ℕ, zero, suc, ◌+◌, ◌<◌, ◌≤◌, List, [], ◌∷◌, Bool, true, false, cond, inl, inr, refl, ap, subst, arith}
use Rattle.std.specs.Prelude.{◌⊎◌, ◌==◌, Option, None, Some, Result, Ok, Err, filter, find, not}
use Rattle.std.specs.List.{AllByRecursion, list_any, range_with_len}
use Rattle.std.proofs.lemmas.Bool.{cases_eq, ne_eqb}
use Rattle.own_model.specs.declared.bound.Bound.{Bound}
use Rattle.own_model.specs.declared.footprint.FootItem.{FootItem}
use Rattle.own_model.specs.declared.limit.TheConstants.{SESSIONS}
use Rattle.own_model.specs.declared.refusal.Refusal.{Refusal}
use Rattle.own_model.specs.declared.reply.Reply.{Reply}
use Rattle.own_model.specs.declared.reply.Reply.TheVariants.{Refused}
use Rattle.own_model.specs.declared.statement.Statement.{Statement}
use Rattle.query_model.specs.BoundStatement.{bound_statement}
use Rattle.query_model.specs.Footprints.{footprint_of}
use Rattle.run_model.specs.Agree.{overlaps}
use Rattle.run_model.specs.Items.{items_of}
use Rattle.history_model.specs.Held.{Holding, held, holder, holding, is_open, lowest_other, others}
use Rattle.history_model.specs.History.{is_conflict}
use Rattle.history_model.specs.Reply.{granted, taking, unless_held}
use Rattle.history_model.specs.Sentences.{IsOther}
use Rattle.history_model.specs.World.{World}
use Rattle.history_model.proofs.ApartLemmas.{AreApart}
use Rattle.history_model.proofs.HolderLemmas.{holder-none}

module _ {X : Type 0} where
  -- where none is found, none passes
  none_found : (test : X → Bool) (xs : List X) → find test xs ≡ None → AllByRecursion (λ x. test x ≡ false) xs
  none_found test [] none = tt
  none_found test (x ∷ xs) none = by (none_found test xs) (test x) refl none
    where
      by : (find test xs ≡ None → AllByRecursion (λ x. test x ≡ false) xs) → (b : Bool) → test x ≡ b → cond b (Some x) (find test xs) ≡ None
          → AllByRecursion (λ x. test x ≡ false) (x ∷ xs)
      by more true is none = let never : ◌≡◌ {A = Option X} (Some x) None = none in absurd (cc)
      by more false is none = (is, more none)

-- what holds of each number of a range that passes
each_in_range : (P : ℕ → Type 0) (test : ℕ → Bool) (from many : ℕ) → AllByRecursion P (filter test (range_with_len from many))
    → (number : ℕ) → from ≤ number → number < from + many → test number ≡ true → P number
each_in_range P test from zero all number above below passes = absurd (omega arith)
each_in_range P test from (suc many) all number above below passes = by (each_in_range P test (from + 1) many) (test from) refl all (cases_eq from number)
  where
    rest : List ℕ
    rest = filter test (range_with_len (from + 1) many)

    by : (AllByRecursion P rest → (number : ℕ) → from + 1 ≤ number → number < from + 1 + many → test number ≡ true → P number) → (b : Bool) → test from ≡ b
        → AllByRecursion P (cond b (from ∷ rest) rest) → (from ≡ number) ⊎ (from ≡ number → ⊥) → P number
    by more true is all (inl here) = subst P here all.0
    by more true is all (inr later) = more all.1 number (omega arith) (omega arith) passes
    by more false is all (inl here) = absurd (cc)
    by more false is all (inr later) = more all number (omega arith) (omega arith) passes

each_other : (P : ℕ → Type 0) (session : ℕ) → AllByRecursion P (others session) → (other : ℕ) → IsOther session other → P other
each_other P session all other is =
    let first = is.first in
    let last = is.last in
    each_in_range P (λ other. not (other == session)) 1 SESSIONS all other (omega arith) (omega arith) (ap not (ne_eqb other session is.differs))

-- where none stands in the way, a footprint is apart from what each other session holds
pub apart-holder : (world : World) (session : ℕ) (footprint : List FootItem) → holder world session footprint ≡ None
    → (other : ℕ) → IsOther session other → AreApart footprint (held world other)
apart-holder world session footprint none other is =
    none_found (λ item. list_any (overlaps item) (held world other)) footprint (holder-none world session footprint none other is)

-- where no other session has an open transaction, each has none
pub closed-lowest : (world : World) (session : ℕ) → lowest_other world session ≡ None → (other : ℕ) → IsOther session other
    → is_open (world.standing other) ≡ false
unfolding lowest_other
closed-lowest world session none other is =
    each_other (λ other. is_open (world.standing other) ≡ false) session (none_found _ (others session) none) other is

-- A statement without a conflict: what it may read or write is apart from what each other session holds; and it goes on, or
-- binding refuses it.
pub record IsGranted (world : World) (session : ℕ) (asked : Statement) (reply : Reply) : Type 0 where
  pub apart : (other : ℕ) → IsOther session other → AreApart (items_of world.flat.schema asked) (held world other)
  pub goes : (taking world session asked reply ≡ reply)
      ⊎ ((why : Refusal) × (bound_statement world.flat.schema asked ≡ Err why) × (taking world session asked reply ≡ Refused why))

held_step : (world : World) (session : ℕ) (asked : Statement) (reply : Reply) (bound : Bound) → bound_statement world.flat.schema asked ≡ Ok bound
    → (found : Option Holding) → holder world session (footprint_of world.flat.schema bound) ≡ found → is_conflict (unless_held world found reply) ≡ false
    → IsGranted world session asked reply
unfolding items_of
held_step world session asked reply bound is (Some holding) held free = let never : true ≡ false = free in absurd (cc)
held_step world session asked reply bound is None none free = record {
  apart = λ other differs. rw is (apart-holder world session (footprint_of world.flat.schema bound) none other differs);
  goes = inl (rw (is, none));
}

bound_step : (world : World) (session : ℕ) (asked : Statement) (reply : Reply) (answer : Result Bound Refusal) → bound_statement world.flat.schema asked ≡ answer
    → is_conflict (granted world session answer reply) ≡ false → IsGranted world session asked reply
unfolding items_of
bound_step world session asked reply (Err why) is free = record { apart = λ other differs. rw is tt; goes = inr (why, is, rw is) }
bound_step world session asked reply (Ok bound) is free = held_step world session asked reply bound is _ refl free

pub granted-taking : (world : World) (session : ℕ) (asked : Statement) (reply : Reply) → is_conflict (taking world session asked reply) ≡ false
    → IsGranted world session asked reply
granted-taking world session asked reply free = bound_step world session asked reply _ refl free
