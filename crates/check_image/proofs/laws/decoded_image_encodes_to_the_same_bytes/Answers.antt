use Rattle.check_image.proofs.GatedImages.{same_bytes}
use Rattle.check_image.proofs.laws.decoded_image_encodes_to_the_same_bytes.Goals as goal

pub returns : goal.returns
returns c = same_bytes
