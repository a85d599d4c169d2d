use Rattle.std.proofs.Common.{IsTrue, List, ℕ, refl, sym, subst, ◌∙◌, ap}
use Rattle.std.specs.Prelude.{false, length, ◌≡◌}
use Rattle.std.specs.List.{list_any}
use Rattle.own_base.specs.declared.number.Area.TheVariants.{A, B}
use Rattle.engine_core.specs.Seen.{disk_of}
use Rattle.shell_session.specs.DiskView.{view_of}
use Rattle.shell_session.specs.Opening.{HasFailed, IsAtRest, IsLeftOver, opening_of}
use Rattle.shell_session.proofs.OpeningLemmas.{OpensNone, OpensStore, keeps-none, keeps-same, renewed-none, renewed-over}
use Rattle.shell_session.proofs.PieceLemmas.{silent-renewed}
use Rattle.shell_session.proofs.StandingLemmas.{unmarked}
use Rattle.shell_session.proofs.opening.renewed.Goals as goal

pub returns-in-Ok-clause-ok : goal.returns-in-Ok-clause-ok
returns-in-Ok-clause-ok g c = let view = view_of g.D.Disk.leaves g.D.Disk.moment g.D.Disk.might_have_left g.D.Disk.honest g.D.Disk.faults in
    let D = g.D.Disk in
    let mid = c.lay_anew.new.opened in
    let here = opening_of mid.engine in
    let works : mid.book.failed ≡ false = c.lay_anew.ensures.done c.if-not-lay_anew.false (c.begin_anew.ensures.failed ∙ c.if-not-is_due.ensures.failed refl) in
    let none : list_any (λ mark. mark) mid.book.marks ≡ false = rw (c.lay_anew.ensures.marks c.if-not-lay_anew.false, c.begin_anew.ensures.marks) (c.if-not-is_due.ensures.marks refl) in
    let at_rest : IsAtRest here = λ session begun block stood. unmarked mid.book.marks session c.lay_anew.ensures.keeps.long none (c.lay_anew.ensures.keeps.marks works session begun block stood) in
    silent-renewed view (opening_of c.args.opened.engine) here (opening_of c.in-Ok.engine) c.lay_anew.ensures.silent
    (renewed-over D.holds view g.met.D.Disk.only_now g.met.D.Disk.reads_may_stay here (c.lay_anew.ensures.laid c.if-not-lay_anew.false) (c.lay_anew.ensures.keeps.whole works) at_rest
    (subst (λ disk. IsTrue (D.honest disk) → (a b : List ℕ) → D.leaves disk A a → D.leaves disk B b → IsLeftOver here a b) c.disk_left.ensures.disk c.disk_left.ensures.left)
    c.in-Ok.engine (subst (λ disk. OpensStore D.holds view disk c.in-Ok.engine) c.disk_left.ensures.disk (record {
      base = c.in-Ok.ensures.base;
      history = c.in-Ok.ensures.history;
      left = c.in-Ok.ensures.left;
      moments = c.in-Ok.ensures.moments;
      honesty = c.in-Ok.ensures.honesty;
      time = c.in-Ok.ensures.time;
      steady = c.in-Ok.ensures.steady;
    })))

pub returns-in-Ok-clause-keeps : goal.returns-in-Ok-clause-keeps
returns-in-Ok-clause-keeps g c =
    let mid = c.lay_anew.new.opened in
    let works : mid.book.failed ≡ false = c.lay_anew.ensures.done c.if-not-lay_anew.false (c.begin_anew.ensures.failed ∙ c.if-not-is_due.ensures.failed refl) in
    let again = c.begin_anew-in-Ok in
    keeps-none again.new.self (opening_of c.in-Ok.engine) c.in-Ok.ensures.history (ap length again.ensures.marks ∙ c.lay_anew.ensures.keeps.long) (again.ensures.failed ∙ works) again.ensures.tables

pub returns-in-Err-clause-err : goal.returns-in-Err-clause-err
returns-in-Err-clause-err g c = let view = view_of g.D.Disk.leaves g.D.Disk.moment g.D.Disk.might_have_left g.D.Disk.honest g.D.Disk.faults in
    let D = g.D.Disk in
    let mid = c.lay_anew.new.opened in
    let here = opening_of mid.engine in
    let works : mid.book.failed ≡ false = c.lay_anew.ensures.done c.if-not-lay_anew.false (c.begin_anew.ensures.failed ∙ c.if-not-is_due.ensures.failed refl) in
    let none : list_any (λ mark. mark) mid.book.marks ≡ false = rw (c.lay_anew.ensures.marks c.if-not-lay_anew.false, c.begin_anew.ensures.marks) (c.if-not-is_due.ensures.marks refl) in
    let at_rest : IsAtRest here = λ session begun block stood. unmarked mid.book.marks session c.lay_anew.ensures.keeps.long none (c.lay_anew.ensures.keeps.marks works session begun block stood) in (
      here,
      c.lay_anew.ensures.silent,
      renewed-none D.holds view g.met.D.Disk.only_now g.met.D.Disk.reads_may_stay here (c.lay_anew.ensures.laid c.if-not-lay_anew.false) (c.lay_anew.ensures.keeps.whole works) at_rest
          (subst (λ disk. IsTrue (D.honest disk) → (a b : List ℕ) → D.leaves disk A a → D.leaves disk B b → IsLeftOver here a b) c.disk_left.ensures.disk c.disk_left.ensures.left)
          c.in-Err.fault c.in-Err.disk (subst (λ disk. OpensNone D.holds view disk c.in-Err.fault c.in-Err.disk) c.disk_left.ensures.disk (record {
            moments = c.in-Err.ensures.moments_err;
            honesty = c.in-Err.ensures.honesty_err;
            time = c.in-Err.ensures.time_err;
            damaged = c.in-Err.ensures.damaged;
            kept_a = c.in-Err.ensures.kept_a;
            kept_b = c.in-Err.ensures.kept_b;
            rose = c.in-Err.ensures.fault;
            steady = c.in-Err.ensures.steady_err;
            risen = c.in-Err.ensures.risen;
          })),
    )

pub lay_anew-requires : goal.lay_anew-requires
lay_anew-requires g c =
    keeps-same c.args.opened.book c.begin_anew.new.self (opening_of c.args.opened.engine) c.begin_anew.ensures.marks c.begin_anew.ensures.failed c.begin_anew.ensures.tables c.requires
