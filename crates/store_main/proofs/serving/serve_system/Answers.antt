use Rattle.std.proofs.Common.{◌∙◌, sym, inl, inr}
use Rattle.store_main.proofs.Ends.{whole-over}
use Rattle.store_main.proofs.serving.serve_system.Goals as goal

-- without a fault the run came to its end
pub returns-clause-whole : goal.returns-clause-whole
returns-clause-whole g c none = elim c.serve.ensures.ran [
  | inl over ↦ (over.opened, over.history, c.new-source.result.reader, c.serve.new.source.reader, whole-over _ _ _ _ _ _ _ _ _ _ _ _ _ over none)
  | inr without ↦ let told = without.1.told in let never : ⊥ = cc in absurd never
]
