use Rattle.std.proofs.Common.{◌≡◌, refl, sym, ◌∙◌}
use Rattle.std.specs.Prelude.{Option, None, Some, option_map}
use Rattle.own_base.specs.declared.number.Place.{Place}
use Rattle.history_model.proofs.HistoryLemmas.{flat-world}
use Rattle.engine_core.proofs.engine.Engine.version.Goals as goal

-- where no place is told, there is none
none_told : (down : Option Place) → option_map (λ (place : Place). place.0) down ≡ None → down ≡ None
none_told None is = refl
none_told (Some place) is = let never : Some place.0 ≡ None = is in cc

-- the state is the world's flat database
pub returns : goal.returns
returns g c = rw (← c.self.view_is) (λ up.
    let inside = c.self.inside in
    (c.self.invariant.0.represents (none_told inside.down (sym c.self.invariant.0.down_is ∙ up))).flat ∙ sym (flat-world inside.state.opened inside.history.items))
