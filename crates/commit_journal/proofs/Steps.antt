-- What a few calls of a disk leave, by what each of them says.
use Rattle.std.proofs.Common.{◌≡◌, ◌≢◌, ℕ, List, refl, sym, ◌∙◌, subst}
use Rattle.own_base.specs.declared.number.Area.{Area}
use Rattle.own_base.specs.declared.number.Area.TheVariants.{A, B}
use Rattle.outer_world.specs.Follows.{Follows}
use Rattle.outer_world.specs.IsSynced.{IsSynced}
use Rattle.outer_world.specs.OtherArea.{other_of, bytes_in}
use Rattle.outer_world.specs.Stays.{Stays, StaysBeside}
use Rattle.commit_journal.specs.AreaCalls.{AreSynced, IsMade, OnlyIn}

pub other-apart : (area : Area) → other_of area ≢ area
other-apart A same = cc
other-apart B same = cc

pub other-other : (area : Area) → other_of (other_of area) ≡ area
other-other A = refl
other-other B = refl

module _ {D : Type 0} (holds : D → Area → List ℕ) (leaves : D → Area → List ℕ → Type 0) where
  -- what is left in A and in B is left in each area
  pub left_in : (disk : D) (area : Area) (a b : List ℕ) → leaves disk A a → leaves disk B b → leaves disk area (bytes_in area a b)
  left_in disk A a b in_a in_b = in_a
  left_in disk B a b in_a in_b = in_b

  pub synced_in : (disk : D) (area : Area) → AreSynced holds leaves disk → IsSynced holds leaves area disk
  synced_in disk A synced = synced.a
  synced_in disk B synced = synced.b

  pub both_synced : (disk : D) (area : Area) → IsSynced holds leaves area disk → IsSynced holds leaves (other_of area) disk → AreSynced holds leaves disk
  both_synced disk A here beside = record { a = here; b = beside }
  both_synced disk B here beside = record { a = beside; b = here }

  pub stays_in : (old new : D) (area : Area) → Stays holds leaves A old new → Stays holds leaves B old new → Stays holds leaves area old new
  stays_in old new A in_a in_b = in_a
  stays_in old new B in_a in_b = in_b

  -- an area that stays is synced as before
  pub synced_stays : (old new : D) (area : Area) → IsSynced holds leaves area old → Stays holds leaves area old new → IsSynced holds leaves area new
  synced_stays old new area synced stays = record {
    only = λ bytes left. synced.only bytes (stays.no_more bytes left) ∙ sym stays.same;
  }

  pub stays_then : (old mid new : D) (area : Area) → Stays holds leaves area old mid → Stays holds leaves area mid new → Stays holds leaves area old new
  stays_then old mid new area first second = record {
    same = second.same ∙ first.same;
    no_more = λ bytes left. first.no_more bytes (second.no_more bytes left);
  }

  pub beside_stays : (old new : D) (area : Area) → StaysBeside holds leaves area old new → Stays holds leaves (other_of area) old new
  beside_stays old new area beside = beside.each (other_of area) (other-apart area)

  -- what is left where nothing changed
  pub left_same : (old new : D) (area : Area) → AreSynced holds leaves old → Stays holds leaves A old new → Stays holds leaves B old new
      → (a b : List ℕ) → leaves new A a → leaves new B b → OnlyIn area (◌≡◌ (holds old area)) (holds old (other_of area)) a b
  left_same old new area synced in_a in_b a b at_a at_b =
      let kept : (of : Area) → bytes_in of a b ≡ holds old of = λ of.
      (synced_in old of synced).only (bytes_in of a b) ((stays_in old new of in_a in_b).no_more (bytes_in of a b) (left_in new of a b at_a at_b)) in
      record { here = sym (kept area); stays = kept (other_of area) }

  -- what is left after a step in the area
  pub left_step : (old new : D) (area : Area) (step : List ℕ → List ℕ → Type 0) → AreSynced holds leaves old
      → Follows leaves area step old new → StaysBeside holds leaves area old new
      → (a b : List ℕ) → leaves new A a → leaves new B b → OnlyIn area (step (holds old area)) (holds old (other_of area)) a b
  left_step old new area step synced follows beside a b at_a at_b =
      let from = follows.each (bytes_in area a b) (left_in new area a b at_a at_b) in
      let apart = beside_stays old new area beside in
      record {
        here = subst (λ before. step before (bytes_in area a b)) ((synced_in old area synced).only from.0 from.1) from.2;
        stays = (synced_in old (other_of area) synced).only (bytes_in (other_of area) a b) (apart.no_more (bytes_in (other_of area) a b) (left_in new (other_of area) a b at_a at_b));
      }

  -- and after a second step
  pub left_steps : (old mid new : D) (area : Area) (first second both : List ℕ → List ℕ → Type 0) → AreSynced holds leaves old
      → ((before middle after : List ℕ) → first before middle → second middle after → both before after)
      → Follows leaves area first old mid → StaysBeside holds leaves area old mid
      → Follows leaves area second mid new → StaysBeside holds leaves area mid new
      → (a b : List ℕ) → leaves new A a → leaves new B b → OnlyIn area (both (holds old area)) (holds old (other_of area)) a b
  left_steps old mid new area first second both synced join follows_first beside_first follows_second beside_second a b at_a at_b =
      let after = bytes_in area a b in
      let from = follows_second.each after (left_in new area a b at_a at_b) in
      let from_first = follows_first.each from.0 from.1 in
      let apart = stays_then old mid new (other_of area) (beside_stays old mid area beside_first) (beside_stays mid new area beside_second) in
      record {
        here = subst (λ before. both before after) ((synced_in old area synced).only from_first.0 from_first.1) (join from_first.0 from.0 after from_first.2 from.2);
        stays = (synced_in old (other_of area) synced).only (bytes_in (other_of area) a b) (apart.no_more (bytes_in (other_of area) a b) (left_in new (other_of area) a b at_a at_b));
      }

  -- a sync that leaves both areas alone leaves no more than there was
  pub left_synced : (mid new : D) → Stays holds leaves A mid new → Stays holds leaves B mid new → (P : List ℕ → List ℕ → Type 0)
      → ((a b : List ℕ) → leaves mid A a → leaves mid B b → P a b) → (a b : List ℕ) → leaves new A a → leaves new B b → P a b
  left_synced mid new in_a in_b P before a b at_a at_b = before a b (in_a.no_more a at_a) (in_b.no_more b at_b)

  -- changed in one area, and then synced
  pub made : (old mid new : D) (area : Area) (bytes : List ℕ) → AreSynced holds leaves old → holds mid area ≡ bytes → Stays holds leaves (other_of area) old mid
      → Stays holds leaves A mid new → Stays holds leaves B mid new → IsSynced holds leaves area new → IsMade holds leaves area bytes old new
  made old mid new area bytes synced is apart in_a in_b durable =
      let here = stays_in mid new area in_a in_b in
      let beside = stays_then old mid new (other_of area) apart (stays_in mid new (other_of area) in_a in_b) in
      record {
        here = here.same ∙ is;
        beside = beside.same;
        synced = both_synced new area durable (synced_stays old new (other_of area) (synced_in old (other_of area) synced) beside);
      }

  -- nothing changed
  pub made_same : (old new : D) (area : Area) → AreSynced holds leaves old → Stays holds leaves A old new → Stays holds leaves B old new → IsMade holds leaves area (holds old area) old new
  made_same old new area synced in_a in_b = record {
    here = (stays_in old new area in_a in_b).same;
    beside = (stays_in old new (other_of area) in_a in_b).same;
    synced = record { a = synced_stays old new A synced.a in_a; b = synced_stays old new B synced.b in_b };
  }

-- of what is left in the area less is said
pub only_in_less : (area : Area) (P Q : List ℕ → Type 0) (beside a b : List ℕ) → ((bytes : List ℕ) → P bytes → Q bytes) → OnlyIn area P beside a b → OnlyIn area Q beside a b
only_in_less area P Q beside a b less only = record { here = less (bytes_in area a b) only.here; stays = only.stays }
