use Rattle.annot_schema.proofs.SoundSchemas.{sound-empty}
use Rattle.annot_schema.proofs.catalog.Catalog.new.Goals as goal

-- the schema of no create has no names
pub invariant_of-result : goal.invariant_of-result
invariant_of-result c = rw (c.new.ensures, c.new-2.ensures, c.new-3.ensures) (record { named = c.new-5.ensures; ordered = c.new-6.ensures; sound = sound-empty })
