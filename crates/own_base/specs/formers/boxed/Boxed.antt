-- How a `Boxed` holds its value, so that a type may hold itself in one.
use mathlib.Core.Path.{refl}
use mathlib.Core.Former.{Former, this, const, pair, via}
use base.Stored.{gnil}
use base.Fml.{ftrue}
use denote.RattleType.{RattleType}
use denote.Memory.{part_of}
use denote.RawPtr.{Ptr}
use denote.Sharing.{nothing}
use denote.HoleLaws.{Alike}
use denote.HolePlaces.{Recodes, struct_places, laid, one_value}
use denote.Hole.Fix.{over}
use denote.Param.Weighed.{Weighed}
use denote.Model.Placed.{view_places}
use Rattle.std.specs.declared.boxed.Box.{Box}
use Rattle.std.specs.contracts.boxed.Box as heap_box
use Rattle.std.specs.declared.alloc.Global.{Global}
use Rattle.std.specs.contracts.alloc.Global as global
use Rattle.std.specs.contracts.impls.GlobalAllocator.TheImpl.{ghosts}
use Rattle.own_base.specs.declared.boxed.Boxed.TheInside.{Inside}
use Rattle.own_base.specs.declared.boxed.Boxed.TheView.{view, invariant}
use Rattle.own_base.specs.contracts.boxed.Boxed as Here
use Rattle.own_base.specs.contracts.boxed.Boxed.TheInside as Within

-- the value itself
abbrev pub the_former : Former {0} → Former {0}
the_former value = value

abbrev pub the_weighed : {value : Former {0}} → Weighed value → Weighed (the_former value)
the_weighed weighed = weighed

-- the one field: where the value lies, its allocator, and the value
abbrev field : Former {0}
field = via (pair (const (Ptr × Global)) this) Inside (λ X inside. ((inside.inner.ptr, inside.inner.alloc), inside.inner.value))
    (λ X parts. record { inner = record { ptr = parts.0.0; alloc = parts.0.1; value = parts.1 } }) (λ X inside. refl) (λ X parts. refl)

-- the same box with another value
abbrev holding : {X Y : Type 0} → Box X Global → Y → Box Y Global
holding box value = record { ptr = box.ptr; alloc = box.alloc; value = value }

abbrev boxes : RattleType → RattleType
boxes Held = heap_box.the_row Held global.the_row ghosts

module _ (From To : RattleType) (along : From.Denot → To.Denot) where
  -- a box owns and lends what its value owns and lends
  inner_places : Alike From To along → Alike (boxes From) (boxes To) (λ box. holding box (along box.value))
  unfolding part_of
  inner_places alike = record {
    mir_same = λ i. (boxes (one_value From (alike.mir_same i) (λ _. ftrue) (λ _ _. nothing) gnil)).mir;
    own_same = λ box i. (boxes (one_value From (alike.mir_same i) (alike.own_same box.value i) (alike.shr_same box.value i) gnil)).own_val (holding box tt);
    shr_same = λ box i. (boxes (one_value From (alike.mir_same i) (alike.own_same box.value i) (alike.shr_same box.value i) gnil)).shr_at (holding box tt);
  }

  pub the_places : Alike From To along → Alike (Here.the_row From) (Here.the_row To) ((the_former this).map From.Denot To.Denot along)
  the_places alike = view_places field this view (λ X Y f inside. refl) (λ X inside. refl)
      From.Denot To.Denot along (Here.the_row From).coded (Here.the_row To).coded
      (invariant From.Denot) (invariant To.Denot) (λ inside p q. refl) (λ inside p q. refl) (λ inside p. tt) (λ inside p. tt)
      (over (Within.the_row From)) (over (Within.the_row To))
      (struct_places (Within.the_type From) (Within.the_type To) ((λ box. holding box (along box.value)), tt) _ (λ inside. refl) refl
      (laid _ _ _ (inner_places alike), tt))

  pub the_codes_placed : Recodes From To along → Recodes (Here.the_row From) (Here.the_row To) ((the_former this).map From.Denot To.Denot along)
  the_codes_placed recodes value = recodes value
