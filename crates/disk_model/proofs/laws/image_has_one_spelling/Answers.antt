use Rattle.disk_model.proofs.Spelled.{image-of_spelling, image-spelled}
use Rattle.disk_model.proofs.laws.image_has_one_spelling.Goals as goal

pub returns-clause-spelled : goal.returns-clause-spelled
returns-clause-spelled c = λ image bytes is. (image-spelled image bytes is).0

pub returns-clause-bounded : goal.returns-clause-bounded
returns-clause-bounded c = λ image bytes is. let own = image-spelled image bytes is in (own.1, own.2)

pub returns-clause-written : goal.returns-clause-written
returns-clause-written c = image-of_spelling
