use Rattle.std.proofs.Common.{inl, inr, refl}
use Rattle.store_main.proofs.Ends.{over-memory}
use Rattle.store_main.proofs.serving.serve_in_folder.Goals as goal

-- the files could not be opened
pub returns-in-Err-clause-ran : goal.returns-in-Err-clause-ran
returns-in-Err-clause-ran g c =
    let source = g.R.Source in
    let sink = g.W.Sink in
    elim c.without_files.ensures.other [
      | inl memory ↦ rw memory (inl (over-memory source.remaining source.faults source.fails sink.written sink.faults sink.fails _ c.args.source.now c.args.sink.now _))
      | inr disk ↦ inr (record { told = disk; unread = refl; unwritten = refl })
    ]

-- a run was made over them
pub returns-in-Ok-clause-ran : goal.returns-in-Ok-clause-ran
returns-in-Ok-clause-ran g c = rw c.ended.ensures (inl (record {
  opened = c.run.result.opened;
  history = c.run.result.history;
  fresh = λ is. let never : ⊥ = cc in absurd never;
  ran = c.run.ensures.ran;
}))
