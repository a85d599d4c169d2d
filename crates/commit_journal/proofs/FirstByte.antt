-- Two writes behind the first byte of an area.
use Rattle.std.proofs.Common.{◌≡◌, ℕ, ◌+◌, ◌≤◌, List, ◌++◌, length, take, drop, ap, ◌∙◌, sym, arith}
use Rattle.std.proofs.Math.Seq.{take-take}
use Rattle.std.proofs.lemmas.List.{take_all, drop_all, append-nil}
use Rattle.outer_world.specs.Overwritten.{overwritten}
use Rattle.outer_world.specs.Torn.{Torn}
use Rattle.commit_journal.specs.AreaCalls.{IsFront}

-- a write at the end
pub written_at_end : (old bytes : List ℕ) (place : ℕ) → length old ≡ place → overwritten old place bytes ≡ old ++ bytes
written_at_end old bytes place is =
    ap (λ (l : List ℕ). l ++ bytes ++ drop (place + length bytes) old) (take_all place old (omega arith))
    ∙ ap (λ (l : List ℕ). old ++ bytes ++ l) (drop_all (place + length bytes) old (omega arith))
    ∙ append-nil (old ++ bytes)

pub torn_front : (place count : ℕ) (old new : List ℕ) → 1 ≤ place → Torn place count old new → IsFront 1 old new
torn_front place count old new behind torn =
    sym (take-take 1 place new behind) ∙ ap (take 1) torn.front ∙ take-take 1 place old behind

pub front_then : (old middle new : List ℕ) → IsFront 1 old middle → IsFront 1 middle new → IsFront 1 old new
front_then old middle new first second = second ∙ first
