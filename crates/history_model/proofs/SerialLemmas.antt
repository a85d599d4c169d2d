-- What holds of the world that a history leaves holds after one entry more; so each history is serial.
use Rattle.std.proofs.Common.{◌≡◌, ℕ, ◌≤◌, List, [], ◌∷◌, ◌++◌, length, Bool, true, false, inl, inr, refl, ap, sym, subst, ◌∙◌, arith}
use Rattle.std.specs.Prelude.{◌⊎◌, ◌==◌, Some, if◌then◌else◌}
use Rattle.std.proofs.lemmas.Bool.{eqb-false, eqb-true}
use Rattle.std.proofs.lemmas.List.{length-append}
use Rattle.own_model.specs.declared.footprint.FootItem.{FootItem}
use Rattle.own_model.specs.declared.history.Entry.{Entry}
use Rattle.own_model.specs.declared.reply.Reply.{Reply}
use Rattle.own_model.specs.declared.schema.Schema.{Schema}
use Rattle.own_model.specs.Db.{Db}
use Rattle.run_model.specs.Agree.{Agree}
use Rattle.run_model.specs.Items.{items_of_all}
use Rattle.history_model.specs.Held.{held, is_open, items_held}
use Rattle.history_model.specs.History.{History, after_reply, doomed_at, dooms, flat_after, other_after, own_after, reply}
use Rattle.history_model.specs.Reply.{answer, is_refusal, reply_in, unless_down}
use Rattle.history_model.specs.Sentences.{IsOther}
use Rattle.history_model.specs.Serial.{IsEntry}
use Rattle.history_model.specs.World.{Block, SessionStanding, Outside, Open, Doomed, World, statements_of}
use Rattle.history_model.proofs.Accepted.{accepted-down}
use Rattle.history_model.proofs.AgreeLemmas.{agree-same}
use Rattle.history_model.proofs.ApartLemmas.{AreApart, apart-back, apart-none}
use Rattle.history_model.proofs.BlockLemmas.{given-agree, given-later, later-of_block}
use Rattle.history_model.proofs.ChangeLemmas.{IsChange, change-accepted, change-same}
use Rattle.history_model.proofs.OwnLemmas.{IsOwn, flat-open, own-after}
use Rattle.history_model.proofs.Worlds.{IsSerialWorld, IsStanding, held-open, open-block, other-open}

-- what an entry that was answered leaves of the flat database, whether it was refused or not
module _ (base : Db) (history : History) (world : World) (is : IsSerialWorld base history world) (entry : Entry) (entered : IsEntry entry)
    (given : Reply) (told : reply base (history ++ entry ∷ []) (length history) ≡ Some given) (answered : given ≡ answer world entry) where
  abbrev session : ℕ
  session = entry.session.0

  abbrev more : History
  more = history ++ entry ∷ []

  abbrev db : Db
  db = flat_after world entry given

  abbrev next : World
  next = after_reply world entry given

  in_world : given ≡ unless_down world.down (reply_in world session entry.verdict (world.standing session) entry.request)
  unfolding answer
  in_world = answered

  change_by : (refused : Bool) → is_refusal given ≡ refused → IsChange world entry given db
  change_by true is_refused = rw is_refused (change-same base history world is entry given)
  change_by false accepted = rw accepted
      (change-accepted base history world is entry given accepted entry.verdict (world.standing session) entry.request refl refl entered.readable
      (accepted-down world.down _ (ap is_refusal (sym in_world) ∙ accepted)))

  change : IsChange world entry given db
  change = change_by _ refl

  own : IsOwn base history world is entry entered.first entered.last db (own_after world entry given)
  own = own-after base history world is entry entered.first entered.last given told in_world entered.readable

  -- how another session stands
  module _ (other : ℕ) (differs : other ≡ entry.session.0 → ⊥) where
    -- its transaction is still open
    still_open : (begun : ℕ) (block : Block) → world.standing other ≡ Open begun block → dooms world entry given other ≡ false
        → Agree (items_of_all world.flat.schema (statements_of block)) world.flat db
    still_open begun block opened undoomed =
        let open' : is_open (world.standing other) ≡ true = ap is_open opened in
        subst (λ items. Agree items world.flat db) (held-open world other begun block opened)
        (change.others other (other-open base history world is session other differs open') open' undoomed)

    stands_so : (stands : SessionStanding) → world.standing other ≡ stands → dooms world entry given other ≡ false → IsStanding base more db other stands
    stands_so Outside so undoomed = tt
    stands_so (Doomed by) so undoomed = tt
    stands_so (Open begun block) so undoomed =
        let own = open-block base history world is other begun block so in
        let longer : length history ≤ length more = omega (arith, length-append history (entry ∷ [])) in
        record {
          first = own.first;
          last = own.last;
          stated = later-of_block (length history) (length more) longer block own.stated;
          given = given-later base history (entry ∷ []) db block own.stated
              (given-agree (length history) base history world.flat db block is.sound.well_formed change.sound.well_formed own.stated (still_open begun block so undoomed) own.given);
        }

    stands_doomed : (stands : SessionStanding) → IsStanding base more db other (doomed_at world.place stands)
    stands_doomed Outside = tt
    stands_doomed (Open begun block) = tt
    stands_doomed (Doomed by) = tt

    stands_by : (b : Bool) → dooms world entry given other ≡ b → IsStanding base more db other (if b then doomed_at world.place (world.standing other) else world.standing other)
    stands_by true doomed = stands_doomed (world.standing other)
    stands_by false undoomed = stands_so (world.standing other) refl undoomed

    -- it holds nothing, or is one of the sessions and holds what it held
    abbrev HoldsSo : SessionStanding → Type 0
    HoldsSo stands = (items_held db.schema stands ≡ []) ⊎ (IsOther entry.session.0 other × (items_held db.schema stands ≡ held world other))

    holds_so : (stands : SessionStanding) → world.standing other ≡ stands → dooms world entry given other ≡ false → HoldsSo stands
    holds_so Outside so undoomed = inl refl
    holds_so (Doomed by) so undoomed = inl refl
    holds_so (Open begun block) so undoomed =
        let same = (still_open begun block so undoomed).schema in
        inr (
          other-open base history world is session other differs (ap is_open so),
          ap (λ (schema : Schema). items_of_all schema (statements_of block)) (sym same) ∙ sym (held-open world other begun block so),
        )

    holds_doomed : (stands : SessionStanding) → HoldsSo (doomed_at world.place stands)
    holds_doomed Outside = inl refl
    holds_doomed (Open begun block) = inl refl
    holds_doomed (Doomed by) = inl refl

    holds_by : (b : Bool) → dooms world entry given other ≡ b → HoldsSo (if b then doomed_at world.place (world.standing other) else world.standing other)
    holds_by true doomed = holds_doomed (world.standing other)
    holds_by false undoomed = holds_so (world.standing other) refl undoomed

    holds : HoldsSo (other_after world entry given other)
    holds = holds_by _ refl

  stands : (other : ℕ) (b : Bool) → (other == session) ≡ b → IsStanding base more db other (if b then own_after world entry given else other_after world entry given other)
  stands other true is_own = subst (λ one. IsStanding base more db one (own_after world entry given)) (sym (eqb-true other session is_own)) own.stands
  stands other false differs = stands_by other (eqb-false other session differs) _ refl

  own_items : List FootItem
  own_items = items_held db.schema (own_after world entry given)

  items : ℕ → List FootItem
  items other = items_held db.schema (other_after world entry given other)

  -- what the session holds, and another
  apart_own : (other : ℕ) → (other ≡ session → ⊥) → AreApart own_items (items other)
  unfolding own_items items
  apart_own other differs = by (holds other differs)
    where
      by : HoldsSo other differs (other_after world entry given other) → AreApart own_items (items other)
      by (inl none) = rw none (apart-none own_items)
      by (inr (is_other, same)) = rw same (own.apart other is_other)

  -- what two others hold
  apart_others : (one other : ℕ) → (one ≡ session → ⊥) → (other ≡ session → ⊥) → (one ≡ other → ⊥) → AreApart (items one) (items other)
  unfolding items
  apart_others one other one_differs other_differs differs = by (holds one one_differs) (holds other other_differs)
    where
      by : HoldsSo one one_differs (other_after world entry given one) → HoldsSo other other_differs (other_after world entry given other) → AreApart (items one) (items other)
      by (inl none) second = rw none tt
      by (inr (is_one, same)) (inl none) = rw none (apart-none (items one))
      by (inr (is_one, same)) (inr (is_other, same_other)) = rw (same, same_other) (is.apart one other differs)

  items_by : ℕ → Bool → List FootItem
  items_by other b = items_held db.schema (if b then own_after world entry given else other_after world entry given other)

  apart_by : (one other : ℕ) → (one ≡ other → ⊥) → (b c : Bool) → (one == session) ≡ b → (other == session) ≡ c → AreApart (items_by one b) (items_by other c)
  unfolding items_by items own_items
  apart_by one other differs true true is_one is_other = absurd (differs (eqb-true one session is_one ∙ sym (eqb-true other session is_other)))
  apart_by one other differs true false is_one is_other = apart_own other (eqb-false other session is_other)
  apart_by one other differs false true is_one is_other = apart-back own_items (items one) (apart_own one (eqb-false one session is_one))
  apart_by one other differs false false is_one is_other = apart_others one other (eqb-false one session is_one) (eqb-false other session is_other) differs

  -- what holds of the world after the entry
  pub serial-step : IsSerialWorld base (history ++ entry ∷ []) (after_reply world entry given)
  unfolding held items_by
  serial-step = record {
    sound = change.sound;
    stands = λ other. stands other _ refl;
    apart = λ one other differs. apart_by one other differs _ _ refl refl;
    place = let place = is.place in omega (arith, length-append history (entry ∷ []));
  }

  -- the rows that an open transaction held before the entry are the same after it, if it is still open
  other_kept : (other : ℕ) → (other ≡ session → ⊥) → (b : Bool) → dooms world entry given other ≡ b
      → is_open (if b then doomed_at world.place (world.standing other) else world.standing other) ≡ true → Agree (held world other) world.flat db
  other_kept other differs true doomed opened = absurd (no_doomed (world.standing other) opened)
    where
      no_doomed : (stands : SessionStanding) → is_open (doomed_at world.place stands) ≡ true → ⊥
      no_doomed Outside opened = cc
      no_doomed (Open begun block) opened = cc
      no_doomed (Doomed by) opened = cc
  other_kept other differs false undoomed opened = change.others other (other-open base history world is session other differs opened) opened undoomed

  kept_by : (other : ℕ) (b : Bool) → (other == session) ≡ b → is_open (if b then own_after world entry given else other_after world entry given other) ≡ true
      → Agree (held world other) world.flat db
  kept_by other true is_own opened = subst (Agree (held world other) world.flat) (sym (flat-open world entry given opened)) (agree-same (held world other) world.flat)
  kept_by other false differs opened = other_kept other (eqb-false other session differs) _ refl opened

  pub held-kept : (other : ℕ) → is_open ((after_reply world entry given).standing other) ≡ true → Agree (held world other) world.flat (flat_after world entry given)
  held-kept other opened = kept_by other _ refl opened
