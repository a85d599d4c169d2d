-- A CREATE VIEW that is bound has no fault, and one that is refused is refused for its first.
use Rattle.std.proofs.Common.{◌≡◌, ◌+◌, ◌<◌, List, [], ◌∷◌, ◌++◌, Bool, false, length, refl, arith}
use Rattle.std.specs.Prelude.{Option, None, Some, Ok, Err, nat_lt, if◌then◌else◌}
use Rattle.std.proofs.lemmas.Bool.{ltb-false}
use Rattle.own_model.specs.declared.create.CreateView.{CreateView}
use Rattle.own_model.specs.declared.limit.TheConstants.{VIEWS}
use Rattle.own_model.specs.declared.refusal.Refusal.{Refusal}
use Rattle.own_model.specs.declared.schema.Schema.{Schema}
use Rattle.own_model.specs.declared.schema.ViewDef.{ViewDef}
use Rattle.query_model.specs.BoundView.{bound_view, new_view, view_faults, view_unless}
use Rattle.query_model.specs.Refused.{lowest}
use Rattle.query_model.proofs.NoFaults.{none-if, none-last, none-lowest}

given : (told : Option Refusal) (meant got : ViewDef) → view_unless told meant ≡ Ok got → (told ≡ None) × (meant ≡ got)
given None meant got is = (refl, cc)
given (Some why) meant got is = absurd (cc)

refused : (told : Option Refusal) (meant : ViewDef) (why : Refusal) → view_unless told meant ≡ Err why → told ≡ Some why
refused None meant why is = absurd (cc)
refused (Some fault) meant why is = cc

-- a view that is bound has no fault
pub view-given : (schema : Schema) (create : CreateView) (view : ViewDef) → bound_view schema create ≡ Ok view → (lowest (view_faults schema create) ≡ None) × (new_view schema create ≡ view)
unfolding bound_view
view-given schema create view is = given (lowest (view_faults schema create)) (new_view schema create) view is

-- one that is refused has the fault that is told
pub view-told : (schema : Schema) (create : CreateView) (why : Refusal) → bound_view schema create ≡ Err why → lowest (view_faults schema create) ≡ Some why
unfolding bound_view
view-told schema create why is = refused (lowest (view_faults schema create)) (new_view schema create) why is

last-none : (parts : List Refusal) (test : Bool) (why : Refusal) → parts ++ (if test then why ∷ [] else []) ≡ [] → test ≡ false
last-none parts test why none = none-if test why (none-last parts (if test then why ∷ [] else []) none)

-- there is room for a view that is bound
pub view-room : (schema : Schema) (create : CreateView) (view : ViewDef) → bound_view schema create ≡ Ok view → length schema.views < VIEWS
unfolding view_faults
view-room schema create view is =
    let none = none-lowest (view_faults schema create) (view-given schema create view is).0 in
    let past = last-none _ (nat_lt VIEWS (length schema.views + 1)) _ none in
    let most = ltb-false VIEWS (length schema.views + 1) past in
    omega arith
