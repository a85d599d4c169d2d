use Rattle.std.proofs.Common.{◌≡◌, ◌-◌, take, drop, length, sym, ap, ◌∙◌, subst}
use Rattle.std.proofs.lemmas.List.{take_rest}
use Rattle.std.specs.Str.{IsUtf8, IsCharBoundary}
use Rattle.call_stream.specs.Stretches.{next_of}
use Rattle.call_stream.specs.Taken.{pending}
use Rattle.call_stream.proofs.Closing.{closed, start_boundary_any, end_boundary}
use Rattle.call_stream.proofs.stream.CallStream.read.Goals as goal

pub call_of-requires-clause-start_boundary : goal.call_of-requires-clause-start_boundary
call_of-requires-clause-start_boundary c =
    let stream = c.args.self.now in
    let bytes = pending stream in
    let met = c.requires.met in
    let scanned = c.requires.sound.scanned in
    let next = next_of stream.scan c.args.closing in
    let held = c.deref.result.now in
    let rest : take (length held - stream.from) (drop stream.from held) ≡ bytes = take_rest held stream.from ∙ ap (drop stream.from) c.deref.ensures.value in
    let text : IsUtf8 (take next bytes) = subst (λ n. IsUtf8 (take n bytes)) c.next-next.ensures (subst (λ l. IsUtf8 (take c.next-next.result l)) rest c.in-Ok.ensures.cases.1) in
    let boundary = start_boundary_any bytes stream.scan c.args.closing scanned met (closed bytes stream.scan c.args.closing scanned met).within text in
    let same : c.in-Ok.text.now ≡ take next bytes = c.in-Ok.ensures.cases.0 ∙ (λ i. take (c.next-next.ensures i) (rest i)) in
    subst (λ l. IsCharBoundary l c.start.result) (sym same) (subst (IsCharBoundary (take next bytes)) (sym c.start.ensures) boundary)

pub call_of-requires-clause-end_boundary : goal.call_of-requires-clause-end_boundary
call_of-requires-clause-end_boundary c =
    let stream = c.args.self.now in
    let bytes = pending stream in
    let met = c.requires.met in
    let scanned = c.requires.sound.scanned in
    let next = next_of stream.scan c.args.closing in
    let held = c.deref.result.now in
    let rest : take (length held - stream.from) (drop stream.from held) ≡ bytes = take_rest held stream.from ∙ ap (drop stream.from) c.deref.ensures.value in
    let text : IsUtf8 (take next bytes) = subst (λ n. IsUtf8 (take n bytes)) c.next-next.ensures (subst (λ l. IsUtf8 (take c.next-next.result l)) rest c.in-Ok.ensures.cases.1) in
    let boundary = end_boundary bytes stream.scan c.args.closing scanned met (closed bytes stream.scan c.args.closing scanned met).within text in
    let same : c.in-Ok.text.now ≡ take next bytes = c.in-Ok.ensures.cases.0 ∙ (λ i. take (c.next-next.ensures i) (rest i)) in
    subst (λ l. IsCharBoundary l c.end.result) (sym same) (subst (IsCharBoundary (take next bytes)) (sym c.end.ensures) boundary)
