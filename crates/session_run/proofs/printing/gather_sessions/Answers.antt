use Rattle.std.proofs.Common.{◌≡◌, ◌<◌, Ok, Err, length, take, refl, ap, sym, subst, ◌∙◌, arith, append-nil}
use Rattle.std.proofs.Math.Seq.{take-length}
use Rattle.std.proofs.lemmas.Grind.{flat_map-append}
use Rattle.std.proofs.lemmas.Result.{err_from_is_err_and}
use Rattle.session_run.specs.declared.printing.RunFault.TheVariants.{Write}
use Rattle.session_run.specs.Gathered.{GathersAll, GathersUpTo}
use Rattle.session_run.specs.Written.{lines_by_session, lines_in}
use Rattle.session_run.proofs.GatheredLemmas.{gathers-none, item-more, item-stops}
use Rattle.session_run.proofs.printing.gather_sessions.Goals as goal

pub loop-own-init : goal.loop-own-init
loop-own-init g c = record { steady = refl; gathered = gathers-none (g.W.Sink.written c.args.sink.now) c.args.pending.now.items; same = c.items-own-items.ensures }

pub loop-own-preserved : goal.loop-own-preserved
loop-own-preserved g c =
    let own = c.in_ok-gather_session.ensures in
    let so_far = c.loop-own.invariant in
    let less : c.loop-own.own-index < length c.items-own-items.result.now = omega arith in
    let mid = g.W.Sink.written c.loop-own.sink in
    let new = g.W.Sink.written c.gather_session.new.sink in
    let between = c.loop-own.pending.items in
    let after = c.gather_session.new.pending.items in
    record {
      steady = own.steady (λ failed. cc) ∙ so_far.steady;
      gathered = item-more lines_by_session (flat_map-append lines_in) (g.W.Sink.written c.args.sink.now) mid new c.args.pending.now.items between after
          c.items-own-items.result.now c.loop-own.own-index c.own-item.result (Ok c.in_ok-gather_session.field-0) less c.own-item.is so_far.gathered
          (subst (GathersAll mid new between after) (sym (append-nil (lines_in c.own-item.result))) own.gathered);
      same = c.items-own-items.ensures;
    }

-- the session met a fault, and none after it is told
pub returns-in_err-gather_session-clause-gathered : goal.returns-in_err-gather_session-clause-gathered
returns-in_err-gather_session-clause-gathered g c =
    let failed = err_from_is_err_and c.from_residual.result c.from_residual.ensures.1 in
    let is : c.from_residual.result ≡ Err c.in_err-gather_session.field-0.0 = cc (failed.1, failed.2) in
    let less : c.loop-own.own-index < length c.items-own-items.result.now = omega arith in
    let fault = c.in_err-gather_session.field-0.0 in
    let start = g.W.Sink.written c.args.sink.now in
    let mid = g.W.Sink.written c.loop-own.sink in
    let new = g.W.Sink.written c.gather_session.new.sink in
    let before = c.args.pending.now.items in
    let between = c.loop-own.pending.items in
    let after = c.gather_session.new.pending.items in
    rw is (subst (λ own. GathersUpTo fault start new before after (lines_by_session own)) c.items-own-items.ensures
    (item-stops lines_by_session (flat_map-append lines_in) fault start mid new before between after c.items-own-items.result.now c.loop-own.own-index c.own-item.result less c.own-item.is
    c.loop-own.invariant.gathered (subst (GathersUpTo fault mid new between after) (sym (append-nil (lines_in c.own-item.result))) c.in_err-gather_session.ensures.gathered)))

-- it met a fault of the sink, and no session before it did
pub returns-in_err-gather_session-clause-fault : goal.returns-in_err-gather_session-clause-fault
returns-in_err-gather_session-clause-fault g c is =
    let failed = err_from_is_err_and c.from_residual.result c.from_residual.ensures.1 in
    let own : Err c.in_err-gather_session.field-0.0 ≡ Err Write = cc (is, failed.1, failed.2) in
    rw (← c.loop-own.invariant.steady) (c.in_err-gather_session.ensures.fault own)

pub returns-clause-gathered : goal.returns-clause-gathered
returns-clause-gathered g c =
    let items = c.items-own-items.result.now in
    let end : c.loop-own.own-index ≡ length items = omega arith in
    let all : take c.loop-own.own-index items ≡ c.args.replies.now = ap (λ n. take n items) end ∙ (take-length items ∙ c.items-own-items.ensures) in
    subst (λ own. GathersAll (g.W.Sink.written c.args.sink.now) (g.W.Sink.written c.loop-own.sink) c.args.pending.now.items c.loop-own.pending.items (lines_by_session own)) all
    c.loop-own.invariant.gathered
