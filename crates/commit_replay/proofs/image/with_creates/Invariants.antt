use Rattle.std.proofs.Common.{◌≡◌, drop, take}
use Rattle.state_model.specs.Weight.{weight}
use Rattle.commit_replay.proofs.MadeSoFar.{IsMadeSoFar}
use Rattle.commit_replay.proofs.image.with_creates.Given as goal

-- what the CREATEs so far made, and how it goes on
abbrev pub invariant-loop-create : goal.invariant-loop-create
invariant-loop-create l = record {
  made : IsMadeSoFar l.creates (take l.create-index l.creates) (drop l.create-index l.creates) l.version;
  weighs : weight l.version ≡ l.weighs;
}
