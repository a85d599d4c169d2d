-- What the calls of a disk in memory do to what it tells.
use Rattle.std.proofs.Common.{◌≡◌, ◌≢◌, ◌⊎◌, inl, inr, ℕ, ◌+◌, ◌≤◌, List, [], ◌∷◌, ◌++◌, length, take, refl, sym, ◌∙◌, ap, subst, arith, length-append}
use Rattle.std.specs.Prelude.{Result, Ok, Err, OnOk, OnErr}
use Rattle.std.proofs.lemmas.Bool.{cases_lt}
use Rattle.std.proofs.lemmas.List.{take_all, take-append-le}
use Rattle.std.proofs.lemmas.List.Sums.{fold_push}
use Rattle.own_base.specs.declared.number.Area.{Area}
use Rattle.own_base.specs.declared.number.Area.TheVariants.{A, B}
use Rattle.outer_world.specs.declared.change.Change.{Change}
use Rattle.outer_world.specs.declared.change.Change.TheVariants.{Write, Cut, Sync}
use Rattle.outer_world.specs.declared.change.DiskCall.{DiskCall}
use Rattle.outer_world.specs.Overwritten.{overwritten}
use Rattle.outer_world.specs.Torn.{Torn}
use Rattle.outer_world.specs.TornCut.{TornCut}
use Rattle.outer_world.specs.Follows.{Follows}
use Rattle.outer_world.specs.Stays.{Stays, StaysBeside}
use Rattle.outer_world.specs.IsSynced.{IsSynced}
use Rattle.outer_world.specs.Elapses.{Elapses}
use Rattle.outer_world.specs.AreaState.{AreaState, synced_area}
use Rattle.outer_world.specs.MayLeave.{MayLeave}
use Rattle.outer_world.specs.AfterCall.{changed_area, after_change, after_call, after_calls}
use Rattle.outer_world.specs.FaultPlan.{Plan}
use Rattle.outer_world.specs.MemDisk.{DiskState, start_of, area_after, area_now, MightHaveLeft}
use Rattle.outer_world.specs.MemDiskLaws.{between_now}
use Rattle.outer_world.proofs.CrashSteps.{torn_write, torn_cut, left_synced}

abbrev pub holds : DiskState → Area → List ℕ
holds disk area = (area_now disk area).seen

abbrev pub leaves : DiskState → Area → List ℕ → Type 0
leaves disk area bytes = MayLeave (area_now disk area) bytes

abbrev pub moment : DiskState → ℕ
moment disk = length disk.calls

-- the new disk is the old one with the same calls, or with one more
pub record HasSameStart (old new : DiskState) : Type 0 where
  pub start_a : new.start_a ≡ old.start_a
  pub start_b : new.start_b ≡ old.start_b

pub record IsUnchanged (old new : DiskState) : Type 0 where
  pub start : HasSameStart old new
  pub calls : new.calls ≡ old.calls

pub record HasOneMore (area : Area) (change : Change) (old new : DiskState) : Type 0 where
  pub start : HasSameStart old new
  pub calls : new.calls ≡ old.calls ++ record { area = area; change = change } ∷ []

pub one_more_is : (old new : DiskState) (area : Area) (change : Change) (plan : Plan)
    → new ≡ record old { calls = old.calls ++ record { area = area; change = change } ∷ []; plan = plan } → HasOneMore area change old new
one_more_is old new area change plan is = record {
  start = record { start_a = ap (λ (disk : DiskState). disk.start_a) is; start_b = ap (λ (disk : DiskState). disk.start_b) is };
  calls = ap (λ (disk : DiskState). disk.calls) is;
}

pub unchanged_is : (old new : DiskState) (plan : Plan) → new ≡ record old { plan = plan } → IsUnchanged old new
unchanged_is old new plan is = record {
  start = record { start_a = ap (λ (disk : DiskState). disk.start_a) is; start_b = ap (λ (disk : DiskState). disk.start_b) is };
  calls = ap (λ (disk : DiskState). disk.calls) is;
}

-- what holds after either end of a call
pub either_end : {T E : Type 0} (result : Result T E) (P Q R : Type 0) → OnOk result P → OnErr result Q → (P → R) → (Q → R) → R
either_end (Ok x) P Q R ok err from_ok from_err = from_ok ok
either_end (Err e) P Q R ok err from_ok from_err = from_err err

pub ok_end : {T E : Type 0} (result : Result T E) (P R : Type 0) → OnOk result P → (P → R) → OnOk result R
ok_end (Ok x) P R ok from_ok = from_ok ok
ok_end (Err e) P R ok from_ok = tt

same_start : (old new : DiskState) → HasSameStart old new → (area : Area) → start_of new area ≡ start_of old area
same_start old new same A = same.start_a
same_start old new same B = same.start_b

after_same : (old new : DiskState) (area : Area) (calls : List DiskCall) → HasSameStart old new → (of : Area)
    → after_calls of (start_of new of) calls ≡ after_calls of (start_of old of) calls
after_same old new area calls same of = ap (λ bytes. after_calls of bytes calls) (same_start old new same of)

now_unchanged : (old new : DiskState) → IsUnchanged old new → (area : Area) → area_now new area ≡ area_now old area
now_unchanged old new unchanged area =
    after_same old new area new.calls unchanged.start area ∙ ap (λ calls. after_calls area (start_of old area) calls) unchanged.calls

now_one_more : (old new : DiskState) (area : Area) (change : Change) → HasOneMore area change old new
    → (of : Area) → area_now new of ≡ after_change of (area_now old of) area change
now_one_more old new area change more of =
    after_same old new area new.calls more.start of ∙ ap (λ calls. after_calls of (start_of old of) calls) more.calls
    ∙ fold_push (after_call of) (synced_area (start_of old of)) old.calls (record { area = area; change = change })

after_itself : (area : Area) (state : AreaState) (change : Change) → after_change area state area change ≡ changed_area state change
after_itself A state change = refl
after_itself B state change = refl

after_other : (of area : Area) (state : AreaState) (change : Change) → of ≢ area → after_change of state area change ≡ state
after_other A A state change other = absurd (other refl)
after_other A B state change other = refl
after_other B A state change other = refl
after_other B B state change other = absurd (other refl)

after_sync : (of area : Area) (state : AreaState) → (after_change of state area Sync ≡ state) ⊎ (after_change of state area Sync ≡ synced_area state.seen)
after_sync A A state = inr refl
after_sync A B state = inl refl
after_sync B A state = inl refl
after_sync B B state = inr refl

-- nothing changes
pub stays_unchanged : (old new : DiskState) → IsUnchanged old new → (area : Area) → Stays holds leaves area old new
stays_unchanged old new unchanged area = record {
  same = ap (λ (state : AreaState). state.seen) (now_unchanged old new unchanged area);
  no_more = λ bytes left. subst (λ state. MayLeave state bytes) (now_unchanged old new unchanged area) left;
}

pub beside_unchanged : (old new : DiskState) (area : Area) → IsUnchanged old new → StaysBeside holds leaves area old new
beside_unchanged old new area unchanged = record { each = λ other _. stays_unchanged old new unchanged other }

pub follows_unchanged : (old new : DiskState) (area : Area) (step : List ℕ → List ℕ → Type 0) → ((bytes : List ℕ) → step bytes bytes) → IsUnchanged old new → Follows leaves area step old new
follows_unchanged old new area step alone unchanged = record { each = λ bytes left. (bytes, (stays_unchanged old new unchanged area).no_more bytes left, alone bytes) }

pub torn_alone : (place count : ℕ) (bytes : List ℕ) → Torn place count bytes bytes
torn_alone place count bytes = record { front = refl; behind = refl; no_shorter = omega arith }

pub cut_alone : (len : ℕ) (bytes : List ℕ) → TornCut len bytes bytes
cut_alone len bytes = record { front = refl; no_longer = omega arith }

-- the first calls are those that they were
after_prefix : (old new : DiskState) (count : ℕ) (area : Area) → HasSameStart old new → take count new.calls ≡ take count old.calls
    → area_after new count area ≡ area_after old count area
after_prefix old new count area same prefix =
    after_same old new area (take count new.calls) same area ∙ ap (λ calls. after_calls area (start_of old area) calls) prefix

pub elapses_unchanged : (old new : DiskState) → IsUnchanged old new → Elapses leaves moment MightHaveLeft old new
elapses_unchanged old new unchanged =
    let long : length new.calls ≡ length old.calls = ap length unchanged.calls in
    let prefix : (count : ℕ) → take count new.calls ≡ take count old.calls = λ count. ap (take count) unchanged.calls in
    record {
      later = omega arith;
      nothing_else = λ since a b before might. inl (record {
        count = might.count;
        not_before = might.not_before;
        made = omega (arith, might.made);
        in_a = subst (λ state. MayLeave state a) (after_prefix old new might.count A unchanged.start (prefix might.count)) might.in_a;
        in_b = subst (λ state. MayLeave state b) (after_prefix old new might.count B unchanged.start (prefix might.count)) might.in_b;
      });
      none_forgotten = λ since a b before might. record {
        count = might.count;
        not_before = might.not_before;
        made = omega (arith, might.made);
        in_a = subst (λ state. MayLeave state a) (sym (after_prefix old new might.count A unchanged.start (prefix might.count))) might.in_a;
        in_b = subst (λ state. MayLeave state b) (sym (after_prefix old new might.count B unchanged.start (prefix might.count))) might.in_b;
      };
    }

-- one call more
pub elapses_one_more : (old new : DiskState) (area : Area) (change : Change) → HasOneMore area change old new → Elapses leaves moment MightHaveLeft old new
elapses_one_more old new area change more =
    let call : DiskCall = record { area = area; change = change } in
    let long : length new.calls ≡ length old.calls + 1 = ap length more.calls ∙ length-append old.calls (call ∷ []) in
    let prefix : (count : ℕ) → count ≤ length old.calls → take count new.calls ≡ take count old.calls =
    λ count within. ap (take count) more.calls ∙ take-append-le count old.calls (call ∷ []) within in
    record {
      later = omega arith;
      nothing_else = λ since a b before might. elim (cases_lt might.count (length new.calls)) [
        | inl earlier ↦
            let within : might.count ≤ length old.calls = omega arith in
            inl (record {
              count = might.count;
              not_before = might.not_before;
              made = within;
              in_a = subst (λ state. MayLeave state a) (after_prefix old new might.count A more.start (prefix might.count within)) might.in_a;
              in_b = subst (λ state. MayLeave state b) (after_prefix old new might.count B more.start (prefix might.count within)) might.in_b;
            })
        | inr all ↦ inr (
          subst (λ state. MayLeave state a) (ap (λ calls. after_calls A (start_of new A) calls) (take_all might.count new.calls all)) might.in_a,
          subst (λ state. MayLeave state b) (ap (λ calls. after_calls B (start_of new B) calls) (take_all might.count new.calls all)) might.in_b,
        )
      ];
      none_forgotten = λ since a b before might. record {
        count = might.count;
        not_before = might.not_before;
        made = omega (arith, might.made);
        in_a = subst (λ state. MayLeave state a) (sym (after_prefix old new might.count A more.start (prefix might.count might.made))) might.in_a;
        in_b = subst (λ state. MayLeave state b) (sym (after_prefix old new might.count B more.start (prefix might.count might.made))) might.in_b;
      };
    }

pub beside_one_more : (old new : DiskState) (area : Area) (change : Change) → HasOneMore area change old new → StaysBeside holds leaves area old new
beside_one_more old new area change more = record {
  each = λ other apart.
      let same : area_now new other ≡ area_now old other = now_one_more old new area change more other ∙ after_other other area (area_now old other) change apart in
      record {
        same = ap (λ (state : AreaState). state.seen) same;
        no_more = λ bytes left. subst (λ state. MayLeave state bytes) same left;
      };
}

-- a write
changed_now : (old new : DiskState) (area : Area) (change : Change) → HasOneMore area change old new → area_now new area ≡ changed_area (area_now old area) change
changed_now old new area change more = now_one_more old new area change more area ∙ after_itself area (area_now old area) change

pub holds_written : (old new : DiskState) (area : Area) (place : ℕ) (piece : List ℕ) → HasOneMore area (Write place piece) old new → holds new area ≡ overwritten (holds old area) place piece
holds_written old new area place piece more = ap (λ (state : AreaState). state.seen) (changed_now old new area (Write place piece) more)

pub follows_write : (old new : DiskState) (area : Area) (place : ℕ) (piece : List ℕ) → place ≤ length (holds old area) → HasOneMore area (Write place piece) old new
    → Follows leaves area (Torn place (length piece)) old new
follows_write old new area place piece within more = record {
  each = λ bytes left. torn_write (area_now old area) (between_now old area) place piece within bytes
      (subst (λ state. MayLeave state bytes) (changed_now old new area (Write place piece) more) left);
}

-- a cut
pub holds_cut : (old new : DiskState) (area : Area) (len : ℕ) → HasOneMore area (Cut len) old new → holds new area ≡ take len (holds old area)
holds_cut old new area len more = ap (λ (state : AreaState). state.seen) (changed_now old new area (Cut len) more)

pub follows_cut : (old new : DiskState) (area : Area) (len : ℕ) → len ≤ length (holds old area) → HasOneMore area (Cut len) old new
    → Follows leaves area (TornCut len) old new
follows_cut old new area len within more = record {
  each = λ bytes left. torn_cut (area_now old area) (between_now old area) len within bytes
      (subst (λ state. MayLeave state bytes) (changed_now old new area (Cut len) more) left);
}

-- a sync
pub synced_now : (old new : DiskState) (area : Area) → HasOneMore area Sync old new → IsSynced holds leaves area new
synced_now old new area more =
    let same : area_now new area ≡ synced_area (holds old area) = changed_now old new area Sync more in
    record {
      only = λ bytes left.
          left_synced (area_now old area) bytes (subst (λ state. MayLeave state bytes) same left) ∙ sym (ap (λ (state : AreaState). state.seen) same);
    }

pub stays_synced : (old new : DiskState) (area : Area) → HasOneMore area Sync old new → (of : Area) → Stays holds leaves of old new
stays_synced old new area more of = elim (after_sync of area (area_now old of)) [
  | inl alone ↦
      let same : area_now new of ≡ area_now old of = now_one_more old new area Sync more of ∙ alone in
      record {
        same = ap (λ (state : AreaState). state.seen) same;
        no_more = λ bytes left. subst (λ state. MayLeave state bytes) same left;
      }
  | inr synced ↦
      let same : area_now new of ≡ synced_area (holds old of) = now_one_more old new area Sync more of ∙ synced in
      let between = between_now old of in
      record {
        same = ap (λ (state : AreaState). state.seen) same;
        no_more = λ bytes left.
            let is_seen : bytes ≡ holds old of = left_synced (area_now old of) bytes (subst (λ state. MayLeave state bytes) same left) in
            subst (λ (l : List ℕ). MayLeave (area_now old of) l) (sym is_seen) (record { no_shorter = between.least; no_longer = between.greatest; stays = λ place within outside. refl });
      }
]
