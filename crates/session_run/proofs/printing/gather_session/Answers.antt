use Rattle.std.proofs.Common.{◌≡◌, ◌<◌, Ok, Err, length, map, take, refl, ap, subst, ◌∙◌, arith}
use Rattle.std.proofs.Math.Seq.{take-length}
use Rattle.std.proofs.lemmas.List.{map-append}
use Rattle.std.proofs.lemmas.Result.{err_from_is_err_and}
use Rattle.session_run.specs.declared.printing.RunFault.TheVariants.{Write}
use Rattle.session_run.specs.Gathered.{GathersAll, GathersUpTo}
use Rattle.session_run.proofs.GatheredLemmas.{gathers-none, item-more, item-stops}
use Rattle.session_run.proofs.printing.gather_session.Goals as goal

pub loop-told-init : goal.loop-told-init
loop-told-init g c = record { steady = refl; gathered = gathers-none (g.W.Sink.written c.args.sink.now) c.args.pending.now.items; same = c.items-told-items.ensures }

pub loop-told-preserved : goal.loop-told-preserved
loop-told-preserved g c =
    let own = c.in_ok-gather_call.ensures in
    let so_far = c.loop-told.invariant in
    let less : c.loop-told.told-index < length c.items-told-items.result.now = omega arith in
    record {
      steady = own.steady (λ failed. cc) ∙ so_far.steady;
      gathered = item-more (map (λ told. told.lines)) (map-append (λ told. told.lines)) (g.W.Sink.written c.args.sink.now) (g.W.Sink.written c.loop-told.sink) (g.W.Sink.written c.gather_call.new.sink)
          c.args.pending.now.items c.loop-told.pending.items c.gather_call.new.pending.items c.items-told-items.result.now c.loop-told.told-index c.told-item.result (Ok c.in_ok-gather_call.field-0) less
          c.told-item.is so_far.gathered own.gathered;
      same = c.items-told-items.ensures;
    }

-- the call met a fault, and no call after it is told
pub returns-in_err-gather_call-clause-gathered : goal.returns-in_err-gather_call-clause-gathered
returns-in_err-gather_call-clause-gathered g c =
    let failed = err_from_is_err_and c.from_residual.result c.from_residual.ensures.1 in
    let is : c.from_residual.result ≡ Err c.in_err-gather_call.field-0.0 = cc (failed.1, failed.2) in
    let less : c.loop-told.told-index < length c.items-told-items.result.now = omega arith in
    let fault = c.in_err-gather_call.field-0.0 in
    let start = g.W.Sink.written c.args.sink.now in
    let new = g.W.Sink.written c.gather_call.new.sink in
    let before = c.args.pending.now.items in
    let after = c.gather_call.new.pending.items in
    rw is (subst (λ tolds. GathersUpTo fault start new before after (map (λ told. told.lines) tolds)) c.items-told-items.ensures
    (item-stops (map (λ told. told.lines)) (map-append (λ told. told.lines)) fault start (g.W.Sink.written c.loop-told.sink) new before c.loop-told.pending.items after c.items-told-items.result.now
    c.loop-told.told-index c.told-item.result less c.told-item.is c.loop-told.invariant.gathered c.in_err-gather_call.ensures.gathered))

-- it met a fault of the sink, and no call before it did
pub returns-in_err-gather_call-clause-fault : goal.returns-in_err-gather_call-clause-fault
returns-in_err-gather_call-clause-fault g c is =
    let failed = err_from_is_err_and c.from_residual.result c.from_residual.ensures.1 in
    let own : Err c.in_err-gather_call.field-0.0 ≡ Err Write = cc (is, failed.1, failed.2) in
    rw (← c.loop-told.invariant.steady) (c.in_err-gather_call.ensures.fault own)

pub returns-clause-gathered : goal.returns-clause-gathered
returns-clause-gathered g c =
    let items = c.items-told-items.result.now in
    let end : c.loop-told.told-index ≡ length items = omega arith in
    let all : take c.loop-told.told-index items ≡ c.args.replies.now.replies = ap (λ n. take n items) end ∙ (take-length items ∙ c.items-told-items.ensures) in
    subst (λ tolds. GathersAll (g.W.Sink.written c.args.sink.now) (g.W.Sink.written c.loop-told.sink) c.args.pending.now.items c.loop-told.pending.items (map (λ told. told.lines) tolds)) all
    c.loop-told.invariant.gathered
