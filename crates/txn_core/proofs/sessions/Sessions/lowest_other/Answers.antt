use Rattle.std.proofs.Common.{◌∙◌, sym}
use Rattle.txn_core.specs.SessionStates.{is_open, state_by}
use Rattle.txn_core.proofs.Lowest.{search-all, search-found, search-next, search-past}
use Rattle.txn_core.proofs.sessions.Sessions.lowest_other.Goals as goal

pub loop-number-init : goal.loop-number-init
loop-number-init c = search-all (λ other. is_open (state_by c.args.self.now other)) c.args.session.0

pub loop-number-preserved : goal.loop-number-preserved
loop-number-preserved c =
    c.loop-number.invariant
    ∙ search-next (λ other. is_open (state_by c.args.self.now other)) c.args.session.0 c.loop-number.number c.loop-number-test.true (sym c.is_other_open.ensures ∙ c.if-is_other_open.false)

pub returns-then-is_other_open : goal.returns-then-is_other_open
returns-then-is_other_open c =
    sym (c.loop-number.invariant
    ∙ search-found (λ other. is_open (state_by c.args.self.now other)) c.args.session.0 c.loop-number.number c.loop-number-test.true (sym c.is_other_open.ensures ∙ c.if-is_other_open.true))

pub returns : goal.returns
returns c =
    sym (c.loop-number.invariant ∙ search-past (λ other. is_open (state_by c.args.self.now other)) c.args.session.0 c.loop-number.number c.loop-number-test.false)
