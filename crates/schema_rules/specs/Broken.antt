-- A broken rule, as the refusal that tells it.
use Rattle.own_model.specs.declared.refusal.Refusal.{Refusal}
use Rattle.own_model.specs.declared.refusal.Refusal.TheVariants.{BadSchema}
use Rattle.schema_rules.specs.declared.broken.Broken.{Broken}

abbrev pub broken_seen : Broken → Refusal
broken_seen broken = BadSchema broken.rule broken.name.now
