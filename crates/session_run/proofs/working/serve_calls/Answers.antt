use Rattle.std.proofs.Common.{◌++◌, [], ◌∷◌, ap, ◌∙◌, sym, subst, arith, append_assoc, length}
use Rattle.session_run.specs.Serving.{ServesCalls}
use Rattle.session_run.proofs.PassLemmas.{serves-more, serves-none}
use Rattle.session_run.proofs.working.serve_calls.Goals as goal

pub loop-asked-init : goal.loop-asked-init
loop-asked-init g c =
    let gives = c.into_iter-asked-iterator.ensures.into_iter_gives.0 in
    record {
      pass = c.requires.pass;
      worker = c.requires.worker;
      whole = gives;
      readable = rw gives c.requires.readable;
      served = subst (λ tolds. ServesCalls c.args.pass.now c.args.pass.now c.args.session [] tolds) (sym c.requires.none) (serves-none c.args.pass.now c.args.session);
      learnt = tt;
      room = rw gives (omega (arith, c.requires.room, ap length c.requires.none));
    }

pub loop-asked-preserved : goal.loop-asked-preserved
loop-asked-preserved g c =
    let so_far = c.loop-asked.invariant in
    let items = c.in-Some.ensures.steps.0 in
    let own = c.serve_one-told.ensures in
    let room = rw items at so_far.room in
    record {
      pass = own.pass;
      worker = record {
        follows = own.served.stays.lead ∙ so_far.worker.follows;
        session_is = own.served.stays.session ∙ so_far.worker.session_is;
      };
      whole = append_assoc c.loop-asked.yielded (c.in-Some.asked ∷ []) _ ∙ (ap (λ rest. c.loop-asked.yielded ++ rest) (sym items) ∙ so_far.whole);
      readable = (rw items at so_far.readable).1;
      served = subst (λ tolds. ServesCalls c.args.pass.now c.serve_one-told.new.pass c.args.session (c.loop-asked.yielded ++ c.in-Some.asked ∷ []) tolds) (sym c.push_reserved.ensures.items)
          (serves-more c.args.pass.now c.loop-asked.pass c.serve_one-told.new.pass c.args.session c.loop-asked.yielded (c.in-Some.asked ∷ []) c.loop-asked.tolds.items (c.serve_one-told.result ∷ []) so_far.served own.served);
      learnt = own.learnt;
      room = omega (arith, c.push_reserved.ensures.len, c.push_reserved.ensures.capacity);
    }
