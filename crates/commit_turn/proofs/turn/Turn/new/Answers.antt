use Rattle.std.proofs.Common.{◌≡◌, rules, [], ◌∷◌}
use Rattle.std.specs.Prelude.{Some}
use Rattle.commit_turn.proofs.Opening.{opens}
use Rattle.commit_turn.proofs.turn.Turn.new.Goals as goal

pub new-requires : goal.new-requires
new-requires g c =
    let items : c.push_reserved.new.self.items ≡ Some c.args.value ∷ [] = search rules in
    rw (c.of-about.ensures, items, c.entries.ensures) (opens g.T.Keeps.history g.T.Keeps.start c.args.value)
