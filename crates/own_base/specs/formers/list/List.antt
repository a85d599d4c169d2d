-- How a `List` holds its items, so that a type may hold itself in one.
use mathlib.Core.Path.{◌≡◌, refl, sym}
use mathlib.Core.List.{List, []}
use mathlib.Core.Former.{Former, this, list, via, children}
use base.Stored.{code_map}
use denote.RattleType.{RattleType}
use denote.HoleLaws.{Alike}
use denote.HolePlaces.{Recodes, struct_places, laid}
use denote.Hole.Carrier.{listed, list-listed}
use denote.Hole.Fix.{over}
use denote.Param.Weighed.{Weighed, w_list}
use denote.Model.Placed.{view_places}
use Rattle.std.specs.formers.vec.Vec as vector
use Rattle.std.specs.declared.alloc.Global.{Global}
use Rattle.std.specs.contracts.alloc.Global as global
use Rattle.std.specs.contracts.impls.GlobalAllocator.TheImpl.{ghosts}
use Rattle.own_base.specs.declared.list.List.TheInside.{Inside}
use Rattle.own_base.specs.declared.list.List.TheView.{view, invariant}
use Rattle.own_base.specs.contracts.list.List as Here
use Rattle.own_base.specs.contracts.list.List.TheInside as Within

-- a list of what the items are made of
abbrev pub the_former : Former {0} → Former {0}
the_former item = list item

-- the largest measure among the items
abbrev pub the_weighed : {item : Former {0}} → Weighed item → Weighed (the_former item)
the_weighed weighed = w_list weighed

-- the list without items
pub the_empty : List ⊥
the_empty = []

abbrev pub the_items : (X : Type 0) → List X → List X
the_items X items = items

pub the_items_listed : (X : Type 0) (items : List X) → listed _ (children (the_former this) X items) ≡ the_items X items
the_items_listed X items = list-listed X items

-- the one field, whose items are the list's
abbrev field : Former {0}
field = via (vector.the_former this Global) Inside (λ X inside. inside.items) (λ X items. record { items = items }) (λ X inside. refl) (λ X items. refl)

module _ (From To : RattleType) (along : From.Denot → To.Denot) where
  -- a list owns and lends what its items own and lend, one by one
  pub the_places : Alike From To along → Alike (Here.the_row From) (Here.the_row To) ((the_former this).map From.Denot To.Denot along)
  the_places alike = view_places field (list this) view (λ X Y f inside. refl) (λ X inside. refl)
      From.Denot To.Denot along (Here.the_row From).coded (Here.the_row To).coded
      (invariant From.Denot) (invariant To.Denot) (λ inside p q. refl) (λ inside p q. refl) (λ inside p. tt) (λ inside p. tt)
      (over (Within.the_row From)) (over (Within.the_row To))
      (struct_places (Within.the_type From) (Within.the_type To) (vector.mapped along, tt) _ (λ inside. refl) refl
      (laid _ _ _ (vector.the_places global.the_row ghosts From To along alike), tt))

  -- a list's code is that of its items
  pub the_codes_placed : Recodes From To along → Recodes (Here.the_row From) (Here.the_row To) ((the_former this).map From.Denot To.Denot along)
  the_codes_placed recodes items = sym (code_map From.coded.code To.coded.code along (λ item. sym (recodes item)) items)
