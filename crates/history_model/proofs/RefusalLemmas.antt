-- A call that is refused changes nothing, and after the disk failed every call is.
use Rattle.std.proofs.Common.{◌≡◌, ℕ, zero, suc, ◌+◌, ◌<◌, [], ◌∷◌, ◌++◌, ◌-◌, length, take, refl, ap, sym, ◌∙◌, arith}
use Rattle.std.specs.Prelude.{Option, Some, None, slice_get, slice_index_or}
use Rattle.std.specs.Option.{option_map}
use Rattle.std.proofs.lemmas.List.{length-take-le, take_more}
use Rattle.std.proofs.lemmas.Option.{get_or_from_slice_get, slice_get_within}
use Rattle.own_model.specs.declared.history.Entry.{Entry}
use Rattle.own_model.specs.declared.refusal.Refusal.{Refusal}
use Rattle.own_model.specs.declared.refusal.Refusal.TheVariants.{Disk, Down}
use Rattle.own_model.specs.declared.reply.Reply.{Reply}
use Rattle.own_model.specs.declared.reply.Reply.TheVariants.{Refused}
use Rattle.own_model.specs.Db.{Db}
use Rattle.history_model.specs.History.{History, flat, flat_after, happens, reply, world}
use Rattle.history_model.specs.Reply.{answer}
use Rattle.history_model.specs.World.{World}
use Rattle.history_model.proofs.HistoryLemmas.{flat-append, flat-world, place-world, world-append}

-- an entry of a history: what comes up to it, and then it
pub grown : (history : History) (place : ℕ) (entry : Entry) → slice_get history place ≡ Some entry → take (place + 1) history ≡ take place history ++ entry ∷ []
grown history place entry is =
    let within = slice_get_within history place entry is in
    let own : slice_index_or history place entry ≡ entry = get_or_from_slice_get history place entry entry is in
    take_more history place entry within ∙ ap (λ e. take place history ++ e ∷ []) own

module _ (base : Db) (history : History) (place : ℕ) where
  -- the entry at a place that has a reply
  pub record IsAnswered (answered : Reply) : Type 0 where
    pub entry : Entry
    pub at : slice_get history place ≡ Some entry
    pub is : answer (world base (take place history)) entry ≡ answered

  answered_step : (answered : Reply) (found : Option Entry) → slice_get history place ≡ found
      → option_map (answer (world base (take place history))) found ≡ Some answered → IsAnswered answered
  answered_step answered None at is = cc
  answered_step answered (Some entry) at is = record { entry = entry; at = at; is = cc }

  pub answered_at : (answered : Reply) → reply base history place ≡ Some answered → IsAnswered answered
  unfolding reply
  answered_at answered is = answered_step answered _ refl is

-- the flat database stays where the reply is a refusal
pub refused-flat : (base : Db) (history : History) (place : ℕ) (why : Refusal) → reply base history place ≡ Some (Refused why)
    → flat base (take (place + 1) history) ≡ flat base (take place history)
refused-flat base history place why refused =
    let at = answered_at base history place (Refused why) refused in
    let same : flat_after (world base (take place history)) at.entry (answer (world base (take place history)) at.entry) ≡ (world base (take place history)).flat =
    rw at.is refl in
    ap (flat base) (grown history place at.entry at.at) ∙ (flat-append base (take place history) at.entry ∙ (same ∙ sym (flat-world base (take place history))))

-- the disk fails once
up_before : (before : World) (entry : Entry) (down : Option ℕ) → before.down ≡ down → answer before entry ≡ Refused Disk → before.down ≡ None
unfolding answer
up_before before entry None up failed = up
up_before before entry (Some place) up failed = let never : ◌≡◌ {A = Reply} (Refused (Down (record { 0 = place }))) (Refused Disk) = rw up at failed in cc

down_step : (before : World) (entry : Entry) → answer before entry ≡ Refused Disk → (happens before entry).down ≡ Some before.place
down_step before entry failed = let up = up_before before entry _ refl failed in rw (failed, up) refl

-- and then it stays down
stays_down : (before : World) (entry : Entry) (place : ℕ) → before.down ≡ Some place → (happens before entry).down ≡ Some place
stays_down before entry place down = rw down refl

pub answer-down : (before : World) (entry : Entry) (place : ℕ) → before.down ≡ Some place → answer before entry ≡ Refused (Down (record { 0 = place }))
unfolding answer
answer-down before entry place down = rw down refl

module _ (base : Db) (history : History) (place : ℕ) (failed : reply base history place ≡ Some (Refused Disk)) where
  at_entry : IsAnswered base history place (Refused Disk)
  at_entry = answered_at base history place (Refused Disk) failed

  down_then : (world base (take (place + 1) history)).down ≡ Some place
  down_then =
      let within = slice_get_within history place at_entry.entry at_entry.at in
      let at : (world base (take place history)).place ≡ place = place-world base (take place history) ∙ length-take-le place history (omega arith) in
      ap (λ h. (world base h).down) (grown history place at_entry.entry at_entry.at)
      ∙ (ap (λ w. w.down) (world-append base (take place history) at_entry.entry) ∙ (down_step (world base (take place history)) at_entry.entry at_entry.is ∙ ap Some at))

  -- an entry later
  down_more : (later : ℕ) → later < length history → (world base (take later history)).down ≡ Some place → (world base (take (later + 1) history)).down ≡ Some place
  down_more later within down = more _ refl
    where
      more : (found : Option Entry) → slice_get history later ≡ found → (world base (take (later + 1) history)).down ≡ Some place
      more None none = absurd (past_end history later within none)
        where
          past_end : (h : History) (i : ℕ) → i < length h → slice_get h i ≡ None → ⊥
          past_end [] i lt is = absurd (omega arith)
          past_end (e ∷ h) zero lt is = cc
          past_end (e ∷ h) (suc i) lt is = past_end h i (omega arith) is
      more (Some entry) at =
          ap (λ h. (world base h).down) (grown history later entry at)
          ∙ (ap (λ w. w.down) (world-append base (take later history) entry) ∙ stays_down (world base (take later history)) entry place down)

  down_after_more : (more : ℕ) → place + 1 + more < length history → (world base (take (place + 1 + more) history)).down ≡ Some place
  down_after_more zero within = ap (λ n. (world base (take n history)).down) (omega arith) ∙ down_then
  down_after_more (suc more) within =
      ap (λ n. (world base (take n history)).down) (omega arith) ∙ down_more (place + 1 + more) (omega arith) (down_after_more more (omega arith))

-- after a call that the disk failed all is down
pub down-after : (base : Db) (history : History) (place later : ℕ) → reply base history place ≡ Some (Refused Disk) → place < later
    → later < length history → reply base history later ≡ Some (Refused (Down (record { 0 = place })))
unfolding reply
down-after base history place later failed after within = found _ refl
  where
    down : (world base (take later history)).down ≡ Some place
    down = ap (λ n. (world base (take n history)).down) (omega arith) ∙ down_after_more base history place failed (later - (place + 1)) (omega arith)

    found : (o : Option Entry) → slice_get history later ≡ o → option_map (answer (world base (take later history))) o ≡ Some (Refused (Down (record { 0 = place })))
    found None none = absurd (past_end history later within none)
      where
        past_end : (h : History) (i : ℕ) → i < length h → slice_get h i ≡ None → ⊥
        past_end [] i lt is = absurd (omega arith)
        past_end (e ∷ h) zero lt is = cc
        past_end (e ∷ h) (suc i) lt is = past_end h i (omega arith) is
    found (Some entry) at = ap Some (answer-down (world base (take later history)) entry place down)
