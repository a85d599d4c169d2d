-- What a change of a RAM disk, and a call that fails, do to what it tells.
use Rattle.std.proofs.Common.{◌≡◌, ◌≢◌, inl, inr, ℕ, ◌≤◌, List, ◌∷◌, length, take, refl, ◌∙◌, subst, sym, arith}
use Rattle.own_base.specs.declared.number.Area.{Area}
use Rattle.own_base.specs.declared.number.Area.TheVariants.{A, B}
use Rattle.outer_world.specs.AreaState.{synced_area}
use Rattle.outer_world.specs.Elapses.{Elapses}
use Rattle.outer_world.specs.Follows.{Follows}
use Rattle.outer_world.specs.Overwritten.{overwritten}
use Rattle.outer_world.specs.RamDisk.{RamState, held, with_area, HeldSince}
use Rattle.outer_world.specs.Stays.{Stays, StaysBeside}
use Rattle.outer_world.specs.Torn.{Torn}
use Rattle.outer_world.specs.TornCut.{TornCut}
use Rattle.outer_world.proofs.CrashSteps.{left_synced, torn_write, torn_cut}

abbrev pub leaves : RamState → Area → List ℕ → Type 0
leaves disk area bytes = bytes ≡ held disk area

abbrev pub moment : RamState → ℕ
moment disk = length disk.past

abbrev pub might_have_left : RamState → ℕ → List ℕ → List ℕ → Type 0
might_have_left disk since a b = HeldSince ((disk.a, disk.b) ∷ disk.past) since a b

-- the area holds what a change left there
pub held_there : (disk : RamState) (area : Area) (bytes : List ℕ) → held (with_area disk area bytes) area ≡ bytes
held_there disk A bytes = refl
held_there disk B bytes = refl

-- the areas before a change are one of the pairs after it
changed_elapses : (disk : RamState) (area : Area) (bytes : List ℕ) → Elapses leaves moment might_have_left disk (with_area disk area bytes)
changed_elapses disk A bytes = record {
  later = omega arith;
  nothing_else = λ since a b before might. elim might [ inl now ↦ inr (now.1, now.2) | inr earlier ↦ inl earlier ];
  none_forgotten = λ since a b before might. inr might;
}
changed_elapses disk B bytes = record {
  later = omega arith;
  nothing_else = λ since a b before might. elim might [ inl now ↦ inr (now.1, now.2) | inr earlier ↦ inl earlier ];
  none_forgotten = λ since a b before might. inr might;
}

failed_elapses : (disk : RamState) (faults : ℕ) → Elapses leaves moment might_have_left disk (record disk { faults = faults })
failed_elapses disk faults = record {
  later = omega arith;
  nothing_else = λ since a b before might. inl might;
  none_forgotten = λ since a b before might. might;
}

changed_beside : (disk : RamState) (area : Area) (bytes : List ℕ) (other : Area) → other ≢ area → Stays held leaves other disk (with_area disk area bytes)
changed_beside disk A bytes A apart = absurd (apart refl)
changed_beside disk A bytes B apart = record { same = refl; no_more = λ left stays. stays }
changed_beside disk B bytes A apart = record { same = refl; no_more = λ left stays. stays }
changed_beside disk B bytes B apart = absurd (apart refl)

-- after a change
pub elapses_changed : (old new : RamState) (area : Area) (bytes : List ℕ) → new ≡ with_area old area bytes → Elapses leaves moment might_have_left old new
elapses_changed old new area bytes is = subst (λ disk. Elapses leaves moment might_have_left old disk) (sym is) (changed_elapses old area bytes)

pub beside_changed : (old new : RamState) (area : Area) (bytes : List ℕ) → new ≡ with_area old area bytes → StaysBeside held leaves area old new
beside_changed old new area bytes is = subst (λ disk. StaysBeside held leaves area old disk) (sym is) (record { each = changed_beside old area bytes })

pub holds_changed : (old new : RamState) (area : Area) (bytes : List ℕ) → new ≡ with_area old area bytes → held new area ≡ bytes
holds_changed old new area bytes is = subst (λ (disk : RamState). held disk area ≡ bytes) (sym is) (held_there old area bytes)

pub follows_changed : (old new : RamState) (area : Area) (bytes : List ℕ) (step : List ℕ → List ℕ → Type 0) → step (held old area) bytes → new ≡ with_area old area bytes
    → Follows leaves area step old new
follows_changed old new area bytes step stepped is = record {
  each = λ left there. (held old area, refl, subst (λ (l : List ℕ). step (held old area) l) (sym (there ∙ holds_changed old new area bytes is)) stepped);
}

-- after a call that failed
pub elapses_failed : (old new : RamState) (faults : ℕ) → new ≡ record old { faults = faults } → Elapses leaves moment might_have_left old new
elapses_failed old new faults is = subst (λ disk. Elapses leaves moment might_have_left old disk) (sym is) (failed_elapses old faults)

stays_same : (disk : RamState) (faults : ℕ) (area : Area) → Stays held leaves area disk (record disk { faults = faults })
stays_same disk faults area = record { same = refl; no_more = λ left stays. stays }

pub stays_failed : (old new : RamState) (faults : ℕ) → new ≡ record old { faults = faults } → (area : Area) → Stays held leaves area old new
stays_failed old new faults is area = subst (λ disk. Stays held leaves area old disk) (sym is) (stays_same old faults area)

pub beside_failed : (old new : RamState) (faults : ℕ) (area : Area) → new ≡ record old { faults = faults } → StaysBeside held leaves area old new
beside_failed old new faults area is = record { each = λ other apart. stays_failed old new faults is other }

pub follows_failed : (old new : RamState) (faults : ℕ) (area : Area) (step : List ℕ → List ℕ → Type 0) → ((bytes : List ℕ) → step bytes bytes) → new ≡ record old { faults = faults }
    → Follows leaves area step old new
follows_failed old new faults area step alone is = record { each = λ left there. (left, (stays_failed old new faults is area).no_more left there, alone left) }

-- a whole write is one that a crash may leave of it
pub write_is_torn : (old : List ℕ) (place : ℕ) (piece : List ℕ) → place ≤ length old → Torn place (length piece) old (overwritten old place piece)
write_is_torn old place piece within =
    let state = synced_area old in
    let left = torn_write state (record { least = omega arith; greatest = omega arith }) place piece within (overwritten old place piece)
    (record { no_shorter = omega arith; no_longer = omega arith; stays = λ at below outside. refl }) in
    subst (λ (l : List ℕ). Torn place (length piece) l (overwritten old place piece)) (left_synced state left.0 left.1) left.2

-- so is a whole cut
pub cut_is_torn : (old : List ℕ) (len : ℕ) → len ≤ length old → TornCut len old (take len old)
cut_is_torn old len within =
    let state = synced_area old in
    let left = torn_cut state (record { least = omega arith; greatest = omega arith }) len within (take len old)
    (record { no_shorter = omega arith; no_longer = omega arith; stays = λ at below outside. refl }) in
    subst (λ (l : List ℕ). TornCut len l (take len old)) (left_synced state left.0 left.1) left.2
