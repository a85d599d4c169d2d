-- Who holds what, and which session stands in a call's way.
use Rattle.std.proofs.Common.{◌≡◌, ℕ, zero, suc, ◌+◌, ◌<◌, ◌≤◌, List, [], ◌∷◌, Bool, true, false, refl, ap, sym, ◌∙◌, subst, arith, ◌==◌}
use Rattle.std.specs.Prelude.{Contains, Option, Some, None, filter, filter_map, find, not}
use Rattle.std.specs.List.{range_with_len}
use Rattle.std.proofs.lemmas.Bool.{eq-eqb, eqb-false, eqb-true, ne_eqb}
use Rattle.own_model.specs.declared.footprint.FootItem.{FootItem}
use Rattle.own_model.specs.declared.history.Entry.{Entry}
use Rattle.own_model.specs.declared.limit.TheConstants.{SESSIONS}
use Rattle.own_model.specs.declared.refusal.Refusal.TheVariants as refusal
use Rattle.own_model.specs.declared.reply.Reply.TheVariants.{Refused}
use Rattle.subject_model.proofs.Members.{contains_flat_map, contains_map, contains_of_flat_map, contains_of_map}
use Rattle.run_model.specs.Items.{items_of, items_of_all}
use Rattle.history_model.specs.Held.{Holding, first_holding, first_overlap, held, holder, holding, is_open, lowest_other, others}
use Rattle.history_model.specs.History.{happens}
use Rattle.history_model.specs.Reply.{answer}
use Rattle.history_model.specs.Sentences.{IsHeldBy, IsHolder, IsOther}
use Rattle.history_model.specs.World.{Block, Doomed, Open, Outside, Stated, World, statements_of}

-- what an open transaction holds is what its statements name
pub held-inside : (world : World) (session begun : ℕ) (block : Block) (item : FootItem) → world.standing session ≡ Open begun block
    → (Contains (held world session) item → IsHeldBy world.flat.schema block item) × (IsHeldBy world.flat.schema block item → Contains (held world session) item)
unfolding held items_of_all
held-inside world session begun block item stands = (
  λ among.
      let in_block : Contains (items_of_all world.flat.schema (statements_of block)) item = rw stands at among in
      let from = contains_of_flat_map (items_of world.flat.schema) (statements_of block) item in_block in
      let by = contains_of_map (λ (stated : Stated). stated.statement) block from.0 from.1 in
      record { stated = by.0; among = by.1; named = subst (λ asked. Contains (items_of world.flat.schema asked) item) (sym by.2) from.2 },
  λ by.
      rw stands (contains_flat_map (items_of world.flat.schema) (statements_of block) by.stated.statement item
      (contains_map (λ (stated : Stated). stated.statement) block by.stated by.among) by.named),
)

pub held-outside : (world : World) (session : ℕ) → world.standing session ≡ Outside → held world session ≡ []
unfolding held
held-outside world session stands = rw stands refl

pub held-doomed : (world : World) (session place : ℕ) → world.standing session ≡ Doomed place → held world session ≡ []
unfolding held
held-doomed world session place stands = rw stands refl

-- the first that a search over so many numbers finds, and that those below it aren't found
module _ (world : World) (footprint : List FootItem) (test : ℕ → Bool) where
  record IsFirst (from : ℕ) (found : Holding) : Type 0 where
    low : from ≤ found.session
    passes : test found.session ≡ true
    stands : first_overlap (held world found.session) footprint ≡ Some found.item
    lowest : (lower : ℕ) → from ≤ lower → lower < found.session → test lower ≡ true → first_overlap (held world lower) footprint ≡ None

  abbrev search : ℕ → ℕ → Option Holding
  search from many = first_holding (filter_map (holding world footprint) (filter test (range_with_len from many)))

  -- by what is so of the first number
  first_later : (from many : ℕ) (found : Holding) → (test from ≡ true → first_overlap (held world from) footprint ≡ None) → IsFirst (from + 1) found → IsFirst from found
  first_later from many found none is = record {
    low = (let low = is.low in omega arith);
    passes = is.passes;
    stands = is.stands;
    lowest = λ lower above below passes. by lower above below passes _ refl;
  }
    where
      by : (lower : ℕ) → from ≤ lower → lower < found.session → test lower ≡ true → (b : Bool) → (lower == from) ≡ b → first_overlap (held world lower) footprint ≡ None
      by lower above below passes true is_first =
          let same : lower ≡ from = eqb-true lower from is_first in
          subst (λ n. test n ≡ true → first_overlap (held world n) footprint ≡ None) (sym same) none passes
      by lower above below passes false not_first = let differs = eqb-false lower from not_first in is.lowest lower (omega arith) below passes

  first_step : (from many : ℕ) (found : Holding) (b : Bool) → test from ≡ b → (o : Option FootItem) → first_overlap (held world from) footprint ≡ o
      → (search (from + 1) many ≡ Some found → IsFirst (from + 1) found) → search from (suc many) ≡ Some found → IsFirst from found
  first_step from many found false out o stands later is = first_later from many found (λ passes. let never : false ≡ true = sym out ∙ passes in cc) (later (rw out at is))
  first_step from many found true passes None stands later is = first_later from many found (λ own. stands) (later (rw (passes, stands) at is))
  first_step from many found true passes (Some item) stands later is =
      let same : record { session = from; item = item } ≡ found = (let both : ◌≡◌ {A = Option Holding} (Some (record { session = from; item = item })) (Some found) = rw (passes, stands) at is in cc) in
      subst (IsFirst from) same (record { low = omega arith; passes = passes; stands = stands; lowest = λ lower above below own. absurd (omega arith) })

  high_step : (from many : ℕ) (found : Holding) (b : Bool) → test from ≡ b → (o : Option FootItem) → first_overlap (held world from) footprint ≡ o
      → search from (suc many) ≡ Some found → (search (from + 1) many ≡ Some found → found.session < from + suc many) → found.session < from + suc many
  high_step from many found false out o stands is later = later (rw out at is)
  high_step from many found true passes None stands is later = later (rw (passes, stands) at is)
  high_step from many found true passes (Some item) stands is later =
      let same : record { session = from; item = item } ≡ found = (let both : ◌≡◌ {A = Option Holding} (Some (record { session = from; item = item })) (Some found) = rw (passes, stands) at is in cc) in
      subst (λ (f : Holding). f.session < from + suc many) same (omega arith)

  first_found : (from many : ℕ) (found : Holding) → search from many ≡ Some found → IsFirst from found
  first_found from zero found is = cc
  first_found from (suc many) found is = first_step from many found _ refl _ refl (first_found (from + 1) many found) is

  -- what is found is one of these numbers
  high_found : (from many : ℕ) (found : Holding) → search from many ≡ Some found → found.session < from + many
  high_found from zero found is = cc
  high_found from (suc many) found is = high_step from many found _ refl _ refl is (λ rest. let high = high_found (from + 1) many found rest in omega arith)

  none_step : (from many other : ℕ) (b : Bool) → test from ≡ b → (o : Option FootItem) → first_overlap (held world from) footprint ≡ o → search from (suc many) ≡ None
      → (search (from + 1) many ≡ None → from + 1 ≤ other → first_overlap (held world other) footprint ≡ None) → test other ≡ true → from ≤ other
      → (c : Bool) → (other == from) ≡ c → first_overlap (held world other) footprint ≡ None
  none_step from many other false out o stands none later own low true same =
      let one : other ≡ from = eqb-true other from same in let never : true ≡ false = sym own ∙ (ap test one ∙ out) in cc
  none_step from many other false out o stands none later own low false differs = let far = eqb-false other from differs in later (rw out at none) (omega arith)
  none_step from many other true passes None stands none later own low true same =
      let one : other ≡ from = eqb-true other from same in subst (λ n. first_overlap (held world n) footprint ≡ None) (sym one) stands
  none_step from many other true passes None stands none later own low false differs =
      let far = eqb-false other from differs in later (rw (passes, stands) at none) (omega arith)
  none_step from many other true passes (Some item) stands none later own low c is =
      let never : ◌≡◌ {A = Option Holding} (Some (record { session = from; item = item })) None = rw (passes, stands) at none in cc

  none_found : (from many other : ℕ) → search from many ≡ None → test other ≡ true → from ≤ other → other < from + many → first_overlap (held world other) footprint ≡ None
  none_found from zero other none own low high = absurd (omega arith)
  none_found from (suc many) other none own low high =
      none_step from many other _ refl _ refl none (λ rest far. none_found (from + 1) many other rest own far (omega arith)) own low _ refl

-- another session is one that the test of others takes
other-passes : (session other : ℕ) → (other ≡ session → ⊥) → not (other == session) ≡ true
other-passes session other differs = let apart : (other == session) ≡ false = ne_eqb other session differs in rw apart refl

passes-other : (session other : ℕ) → not (other == session) ≡ true → other ≡ session → ⊥
passes-other session other passes same = let one : (other == session) ≡ true = eq-eqb other session same in let never : false ≡ true = rw one at passes in cc

-- the holder is the lowest other session that stands in the way
pub holder-found : (world : World) (session : ℕ) (footprint : List FootItem) (found : Holding) → holder world session footprint ≡ Some found → IsHolder world session footprint found
unfolding holder
holder-found world session footprint found is =
    let first = first_found world footprint (λ other. not (other == session)) 1 SESSIONS found is in
    record {
      other = record { first = first.low; last = within first.low is; differs = passes-other session found.session first.passes };
      stands = first.stands;
      lowest = λ lower other below. first.lowest lower other.first below (other-passes session lower other.differs);
    }
  where
    within : 1 ≤ found.session → holder world session footprint ≡ Some found → found.session ≤ SESSIONS
    within low has = let high = high_found world footprint (λ other. not (other == session)) 1 SESSIONS found has in omega arith

pub holder-none : (world : World) (session : ℕ) (footprint : List FootItem) → holder world session footprint ≡ None
    → (other : ℕ) → IsOther session other → first_overlap (held world other) footprint ≡ None
unfolding holder
holder-none world session footprint none other is =
    let last = is.last in
    none_found world footprint (λ other. not (other == session)) 1 SESSIONS other none (other-passes session other is.differs) is.first (omega arith)

-- what a search finds passes its test
passes_step : (test : ℕ → Bool) (first : ℕ) (rest : List ℕ) (x : ℕ) → (find test rest ≡ Some x → test x ≡ true) → find test (first ∷ rest) ≡ Some x
    → (b : Bool) → test first ≡ b → test x ≡ true
passes_step test first rest x later is true passes =
    let same : first ≡ x = (let both : ◌≡◌ {A = Option ℕ} (Some first) (Some x) = rw passes at is in cc) in subst (λ n. test n ≡ true) same passes
passes_step test first rest x later is false fails = later (rw fails at is)

found-passes : (test : ℕ → Bool) (xs : List ℕ) (x : ℕ) → find test xs ≡ Some x → test x ≡ true
found-passes test [] x is = cc
found-passes test (first ∷ rest) x is = passes_step test first rest x (found-passes test rest x) is _ refl

-- a doomed session keeps no CREATE waiting
pub doomed-not_busy : (world : World) (session other place : ℕ) → lowest_other world session ≡ Some other → world.standing other ≡ Doomed place → ⊥
unfolding lowest_other
doomed-not_busy world session other place is doomed =
    let open_there = found-passes (λ other. is_open (world.standing other)) (others session) other is in
    let never : false ≡ true = rw doomed at open_there in cc

-- it is told its doom
pub doomed-told : (world : World) (entry : Entry) (place : ℕ) → world.standing entry.session.0 ≡ Doomed place → world.down ≡ None
    → answer world entry ≡ Refused (refusal.Doomed (record { 0 = place }))
unfolding answer
doomed-told world entry place doomed up = rw (up, doomed) refl

-- and stands outside then
pub doomed-after : (world : World) (entry : Entry) (place : ℕ) → world.standing entry.session.0 ≡ Doomed place → world.down ≡ None
    → (happens world entry).standing entry.session.0 ≡ Outside
doomed-after world entry place doomed up =
    let own : (entry.session.0 == entry.session.0) ≡ true = eq-eqb entry.session.0 entry.session.0 refl in
    rw (own, doomed-told world entry place doomed up, doomed) refl
