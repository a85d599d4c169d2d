-- A reply more in a summary.
use Rattle.std.proofs.Common.{◌≡◌, ℕ, ◌+◌, List, [], ◌∷◌, ◌++◌, Bool, cond, length, refl, ap, sym, zero-add, ◌∙◌, arith, count_by}
use Rattle.std.specs.Prelude.{sum_by, ℤ}
use Rattle.std.proofs.lemmas.List.{length-append}
use Rattle.std.proofs.lemmas.List.Sums.{fold-append, sum_by-append}
use Rattle.own_model.specs.declared.reply.Reply.{Reply}
use Rattle.made_model.specs.Summary.{Summary, changed_of, got_of, is_memory, is_refused, last_rows, removed_of, rows_of, sum_of, summary}

-- the last reply's rows
last-more : (replies : List Reply) (reply : Reply) → last_rows (replies ++ reply ∷ []) ≡ rows_of reply
last-more [] reply = refl
last-more (first ∷ []) reply = refl
last-more (first ∷ second ∷ replies) reply = last-more (second ∷ replies) reply

-- a reply more, counted
count-more : (test : Reply → Bool) (replies : List Reply) (reply : Reply) → count_by test (replies ++ reply ∷ []) ≡ count_by test replies + count_by test (reply ∷ [])
count-more test replies reply = fold-append (λ (count : ℕ) (reply : Reply). count + cond (test reply) 1 0) 0 replies (reply ∷ [])
    ∙ ap (λ (more : ℕ). count_by test replies + more) (sym (zero-add (cond (test reply) 1 0)))

one-more : (count : Reply → ℕ) (reply : Reply) → sum_by count (reply ∷ []) ≡ count reply
one-more count reply = omega arith

-- a reply more, added
sum-more : (count : Reply → ℕ) (replies : List Reply) (reply : Reply) → sum_by count (replies ++ reply ∷ []) ≡ sum_by count replies + count reply
sum-more count replies reply = sum_by-append count replies (reply ∷ []) ∙ ap (λ n. sum_by count replies + n) (one-more count reply)

-- a summary by its numbers
abbrev numbered : ℕ → ℕ → ℕ → ℕ → ℕ → ℕ → ℕ → ℤ → Summary
numbered calls refused memory got removed changed held sum =
    record { calls = calls; refused = refused; memory = memory; got = got; removed = removed; changed = changed; held = held; sum = sum }

parts : (a1 b1 a2 b2 a3 b3 a4 b4 a5 b5 a6 b6 a7 b7 : ℕ) (a8 b8 : ℤ) → a1 ≡ b1 → a2 ≡ b2 → a3 ≡ b3 → a4 ≡ b4 → a5 ≡ b5 → a6 ≡ b6 → a7 ≡ b7 → a8 ≡ b8
    → numbered a1 a2 a3 a4 a5 a6 a7 a8 ≡ numbered b1 b2 b3 b4 b5 b6 b7 b8
parts a1 b1 a2 b2 a3 b3 a4 b4 a5 b5 a6 b6 a7 b7 a8 b8 e1 e2 e3 e4 e5 e6 e7 e8 = cc

-- summaries with the same numbers
same-numbers : (a b : Summary) → a.calls ≡ b.calls → a.refused ≡ b.refused → a.memory ≡ b.memory → a.got ≡ b.got → a.removed ≡ b.removed → a.changed ≡ b.changed
    → a.held ≡ b.held → a.sum ≡ b.sum → a ≡ b
same-numbers a b calls refused memory got removed changed held sum = parts _ _ _ _ _ _ _ _ _ _ _ _ _ _ _ _ calls refused memory got removed changed held sum

-- the summary with a reply more
pub tally-more : (old new : Summary) (replies : List Reply) (reply : Reply) → old ≡ summary replies
    → new.calls ≡ old.calls + 1
    → new.refused ≡ old.refused + count_by is_refused (reply ∷ [])
    → new.memory ≡ old.memory + count_by is_memory (reply ∷ [])
    → new.got ≡ old.got + got_of reply
    → new.removed ≡ old.removed + removed_of reply
    → new.changed ≡ old.changed + changed_of reply
    → new.held ≡ length (rows_of reply)
    → new.sum ≡ sum_of (rows_of reply)
    → new ≡ summary (replies ++ reply ∷ [])
tally-more old new replies reply is calls refused memory got removed changed held sum =
    let calls2 : new.calls ≡ length (replies ++ reply ∷ []) = calls ∙ ap (λ (s : Summary). s.calls + 1) is ∙ sym (length-append replies (reply ∷ [])) in
    let refused2 : new.refused ≡ count_by is_refused (replies ++ reply ∷ []) =
    refused ∙ ap (λ (s : Summary). s.refused + count_by is_refused (reply ∷ [])) is ∙ sym (count-more is_refused replies reply) in
    let memory2 : new.memory ≡ count_by is_memory (replies ++ reply ∷ []) =
    memory ∙ ap (λ (s : Summary). s.memory + count_by is_memory (reply ∷ [])) is ∙ sym (count-more is_memory replies reply) in
    let got2 : new.got ≡ sum_by got_of (replies ++ reply ∷ []) =
    got ∙ ap (λ (s : Summary). s.got + got_of reply) is ∙ sym (sum-more got_of replies reply) in
    let removed2 : new.removed ≡ sum_by removed_of (replies ++ reply ∷ []) =
    removed ∙ ap (λ (s : Summary). s.removed + removed_of reply) is ∙ sym (sum-more removed_of replies reply) in
    let changed2 : new.changed ≡ sum_by changed_of (replies ++ reply ∷ []) =
    changed ∙ ap (λ (s : Summary). s.changed + changed_of reply) is ∙ sym (sum-more changed_of replies reply) in
    let held2 : new.held ≡ length (last_rows (replies ++ reply ∷ [])) = held ∙ ap length (sym (last-more replies reply)) in
    let sum2 : new.sum ≡ sum_of (last_rows (replies ++ reply ∷ [])) = sum ∙ ap sum_of (sym (last-more replies reply)) in
    same-numbers new (summary (replies ++ reply ∷ [])) calls2 refused2 memory2 got2 removed2 changed2 held2 sum2
