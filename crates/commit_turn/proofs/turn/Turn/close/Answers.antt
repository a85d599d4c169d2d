use Rattle.std.proofs.Common.{◌≡◌, ap, sym, List}
use Rattle.std.specs.Prelude.{slice_index_or}
use Rattle.commit_turn.specs.Passes.{view_of}
use Rattle.commit_turn.specs.Steps.{spent}
use Rattle.commit_turn.specs.declared.view.View.{View}
use Rattle.commit_turn.proofs.Closing.{closes, closes_with}
use Rattle.commit_turn.proofs.turn.Turn.close.Goals as goal

pub unreachable-requires : goal.unreachable-requires
unreachable-requires g c =
    let lead = c.requires.lead.0 in
    let is : view_of c.args.lead ≡ c.into_seat.result.me.0 = ap (λ (views : List View). slice_index_or views 0 spent) c.into_seat.ensures.2 in
    let left = rw (sym is) at c.close_with-closed.ensures.values.2 in
    let all = closes g.T.Keeps.history g.T.Keeps.start _ _ c.into_seat.result.id (view_of c.args.lead) _ _ c.take-slot.result lead.live c.requires.lead.1 lead.holds (rw (lead.out) at c.requires.joined) left c.take-slot.ensures.value in
    c.in_default.not-Some all.0 all.1

pub returns-clause-entries : goal.returns-clause-entries
returns-clause-entries g c =
    let lead = c.requires.lead.0 in
    let is : view_of c.args.lead ≡ c.into_seat.result.me.0 = ap (λ (views : List View). slice_index_or views 0 spent) c.into_seat.ensures.2 in
    let left = rw (sym is) at c.close_with-closed.ensures.values.2 in
    (closes_with g.T.Keeps.history g.T.Keeps.start _ _ c.into_seat.result.id (view_of c.args.lead) _ _ c.take-slot.result c.in-Some.value lead.live c.requires.lead.1 lead.holds (rw (lead.out) at c.requires.joined) left c.take-slot.ensures.value c.in-Some.is).0

pub returns-clause-start : goal.returns-clause-start
returns-clause-start g c =
    let lead = c.requires.lead.0 in
    let is : view_of c.args.lead ≡ c.into_seat.result.me.0 = ap (λ (views : List View). slice_index_or views 0 spent) c.into_seat.ensures.2 in
    let left = rw (sym is) at c.close_with-closed.ensures.values.2 in
    (closes_with g.T.Keeps.history g.T.Keeps.start _ _ c.into_seat.result.id (view_of c.args.lead) _ _ c.take-slot.result c.in-Some.value lead.live c.requires.lead.1 lead.holds (rw (lead.out) at c.requires.joined) left c.take-slot.ensures.value c.in-Some.is).1

pub returns-clause-places : goal.returns-clause-places
returns-clause-places g c =
    let lead = c.requires.lead.0 in
    let is : view_of c.args.lead ≡ c.into_seat.result.me.0 = ap (λ (views : List View). slice_index_or views 0 spent) c.into_seat.ensures.2 in
    let left = rw (sym is) at c.close_with-closed.ensures.values.2 in
    (closes_with g.T.Keeps.history g.T.Keeps.start _ _ c.into_seat.result.id (view_of c.args.lead) _ _ c.take-slot.result c.in-Some.value lead.live c.requires.lead.1 lead.holds (rw (lead.out) at c.requires.joined) left c.take-slot.ensures.value c.in-Some.is).2
