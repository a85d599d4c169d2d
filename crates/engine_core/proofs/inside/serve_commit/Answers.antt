use Rattle.std.proofs.Common.{◌+◌, refl, subst, sym}
use Rattle.own_model.specs.declared.history.Verdict.{Verdict}
use Rattle.own_model.specs.declared.reply.Reply.{Reply}
use Rattle.state_model.specs.Net.{net}
use Rattle.state_model.specs.Put.{put}
use Rattle.disk_model.specs.declared.commit.Commit.TheVariants.{Changes}
use Rattle.disk_model.specs.PutOf.{puts_of}
use Rattle.crash_model.specs.Room.{Appended}
use Rattle.history_model.specs.History.{world}
use Rattle.txn_core.specs.SessionStates.{state_by}
use Rattle.txn_core.specs.Transactions.{wrote_of}
use Rattle.engine_core.specs.RepresentsWorld.{RepresentsWorld}
use Rattle.engine_core.proofs.CommitEvents.{kept-committed, net-committed, serves-commit, serves-commit_fault, stores-commit}
use Rattle.engine_core.proofs.OpenStates.{base-event, sound-event}
use Rattle.engine_core.proofs.Sizes.{numbered-as}
use Rattle.engine_core.proofs.UnmadeEvents.{serves-refused, unmade-commit, wrote-some}
use Rattle.engine_core.proofs.inside.serve_commit.Goals as goal
use Rattle.engine_core.proofs.inside.serve_commit.Goals.{then-not-is_fault, else-not-is_fault}

-- the rows are in key order
pub invariant_of-shown : goal.invariant_of-shown
invariant_of-shown g c = record { ordered = (sound-event c.args.history.now c.args.entry.now c.args.state.now c.requires.event).well_formed.ordered }

pub changes-requires-clause-base : goal.changes-requires-clause-base
changes-requires-clause-base g c = base-event c.args.history.now c.args.entry.now c.args.state.now c.requires.event

pub commit-requires-clause-sound : goal.commit-requires-clause-sound
commit-requires-clause-sound g c = sound-event c.args.history.now c.args.entry.now c.args.state.now c.requires.event

pub commit-requires-clause-net : goal.commit-requires-clause-net
commit-requires-clause-net g c =
    (net-committed c.args.history.now c.args.entry.now c.args.state.now c.requires.event c.requires.open c.requires.asks c.in_ok-changes.changes c.in_ok-changes.ensures.net)

pub commit-requires-clause-well_formed : goal.commit-requires-clause-well_formed
commit-requires-clause-well_formed g c =
    (kept-committed c.args.history.now c.args.entry.now c.args.state.now c.requires.event c.requires.open c.requires.asks c.in_ok-changes.changes c.in_ok-changes.ensures.net)

-- a commit writes a record
pub install-requires : goal.install-requires
install-requires g c =
    let answer = c.in_ok-answer.answer in
    let tells = c.in_ok-answer.ensures.tells in
    let db = c.args.state.now.version in
    let written = Appended (Changes (puts_of (net db (put db c.in_ok-changes.changes)))) in
    record {
      sound = sound-event c.args.history.now c.args.entry.now c.args.state.now c.requires.event;
      weighs = c.requires.event.stands.weighs;
      may = tells.may;
      numbered = numbered-as (c.args.store.now.commits + 1) answer.next written tells.writes tt;
      store = c.requires.store;
    }

-- memory is refused where it has written alone, and all is as it was
pub returns-in_err-verdict-clause-served : goal.returns-in_err-verdict-clause-served
returns-in_err-verdict-clause-served g c =
    let state = c.args.state.now in
    let wrote = wrote-some (wrote_of (state_by state.txns.states c.args.entry.now.session.0)) c.in_ok-changes.changes c.in_ok-changes.ensures.spared
    (λ none. c.in_err-verdict.ensures.asked_err (c.in_ok-answer.ensures.stays none)) in
    serves-refused state.opened c.install.new.state c.args.history.now c.args.entry.now c.from_residual-in_err-verdict.result c.from_residual-in_err-verdict.ensures.0
    (subst (λ state. RepresentsWorld state (world c.args.state.now.opened c.args.history.now)) (sym c.in_err-verdict.ensures.state_kept) c.requires.event.stands)
    (unmade-commit c.args.history.now c.args.entry.now state c.requires.event c.requires.open c.requires.asks wrote)

-- its transaction ends, unless the disk failed
pub returns-clause-served : goal.returns-clause-served
returns-clause-served g c =
    let told : Verdict × Reply = (c.in_ok-verdict.verdict, c.in_ok-verdict.reply) in
    let installed = c.in_ok-verdict.ensures in
    elim c.if-not-is_fault.branch [
      | then-not-is_fault w ↦ rw w.state-is
          (serves-commit c.args.history.now c.args.entry.now c.args.state.now c.requires.event c.requires.open c.requires.asks c.in_ok-changes.changes c.in_ok-changes.ensures.net c.in_ok-answer.answer
          c.in_ok-answer.ensures.tells
          _ refl c.install.new.state (record (c.install.new.state) { txns = w.finish.new.self }) c.in_ok-answer.ensures.nothing refl refl
          w.finish.ensures.others w.finish.ensures.outside w.finish.ensures.free told (sym w.if-not-is_fault.ensures)
          installed.told installed.version installed.weighs installed.doomed installed.unchanged installed.asked)
      | else-not-is_fault w ↦ rw w.state-is
          (serves-commit_fault c.args.history.now c.args.entry.now c.args.state.now c.requires.event c.requires.open c.requires.asks c.in_ok-changes.changes c.in_ok-changes.ensures.net c.in_ok-answer.answer
          c.in_ok-answer.ensures.tells
          c.install.new.state told (sym w.if-not-is_fault.ensures) installed.told installed.asked)
    ]

pub returns-clause-stored : goal.returns-clause-stored
returns-clause-stored g c =
    let D = g.D.Disk in
    stores-commit c.args.history.now c.args.entry.now c.args.state.now c.requires.event c.requires.open c.requires.asks c.in_ok-changes.changes c.in_ok-changes.ensures.net c.in_ok-answer.answer
    c.in_ok-answer.ensures.tells
    c.requires.took D.holds D.leaves D.moment D.might_have_left D.honest D.faults c.args.store.now c.install.new.store c.in_ok-verdict.verdict c.in_ok-verdict.ensures.carried
