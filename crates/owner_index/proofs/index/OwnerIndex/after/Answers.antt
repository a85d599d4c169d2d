use Rattle.std.proofs.Common.{List, ap, sym, ◌∙◌, subst}
use Rattle.std.specs.Prelude.{IsTrue}
use Rattle.own_model.specs.declared.schema.Schema.{Schema}
use Rattle.schema_model.specs.Lone.{are_lone}
use Rattle.move_model.specs.declared.owner_move.OwnerMove.{OwnerMove}
use Rattle.move_model.specs.Moves.{AreMovesOf}
use Rattle.owner_index.specs.Entry.{Entry}
use Rattle.owner_index.specs.Held.{StandsFor}
use Rattle.owner_index.proofs.LoneLemmas.{lone_moves_after, lone_stands_after}
use Rattle.owner_index.proofs.index.OwnerIndex.after.Goals as goal

pub returns-then-are_lone-clause-stands : goal.returns-then-are_lone-clause-stands
returns-then-are_lone-clause-stands g c before is =
    let db = g.V.StoreView.db c.args.view.now in
    let lone : IsTrue (are_lone db.schema c.args.changes.now) =
    ap (λ (schema : Schema). are_lone schema c.args.changes.now) (sym c.schema.ensures) ∙ (sym c.are_lone.ensures ∙ c.if-are_lone.true) in
    subst (λ (entries : List Entry). StandsFor db entries) (sym c.in_ok-same.ensures)
    (lone_stands_after db (g.met.V.StoreView.ordered c.args.view.now) c.requires.owner c.args.changes.now lone c.args.self.now before is)

pub returns-then-are_lone-clause-moves : goal.returns-then-are_lone-clause-moves
returns-then-are_lone-clause-moves g c before is =
    let db = g.V.StoreView.db c.args.view.now in
    let lone : IsTrue (are_lone db.schema c.args.changes.now) =
    ap (λ (schema : Schema). are_lone schema c.args.changes.now) (sym c.schema.ensures) ∙ (sym c.are_lone.ensures ∙ c.if-are_lone.true) in
    subst (λ (moves : List OwnerMove). AreMovesOf before db moves) (sym c.new.ensures)
    (lone_moves_after db (g.met.V.StoreView.ordered c.args.view.now) c.requires.owner c.args.changes.now lone c.args.self.now before is)
