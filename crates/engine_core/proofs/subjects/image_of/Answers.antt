use Rattle.std.proofs.Common.{subst}
use Rattle.std.proofs.lemmas.Result.{IfOk-weaker}
use Rattle.check_image.specs.Gated.{IsGatedImage}
use Rattle.engine_core.proofs.Images.{gated-next}
use Rattle.engine_core.proofs.subjects.image_of.Goals as goal

-- 64 bits tell its number
pub returns : goal.returns
returns c =
    let db = c.args.version.now in
    IfOk-weaker c.encode.result _ _ (λ bytes is. gated-next db c.args.commits bytes (subst (λ number. IsGatedImage db number bytes) c.saturating_add-number.ensures is)) c.encode.ensures
