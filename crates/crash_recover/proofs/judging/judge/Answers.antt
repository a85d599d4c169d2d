use Rattle.std.proofs.lemmas.Cmp.{ranked}
use Rattle.std.proofs.lemmas.Result.{IfOk-weaker}
use Rattle.own_base.specs.declared.number.Area.TheVariants.{A, B}
use Rattle.std.specs.declared.cmp.Ordering.TheVariants.{Greater, Less}
use Rattle.disk_model.specs.Area.{epoch_of}
use Rattle.crash_recover.specs.AreaFound.{IsAreaFound}
use Rattle.crash_recover.specs.Recovered.{IsFound}
use Rattle.crash_recover.proofs.JudgedAreas.{found_in_a, found_in_b, lower_below, shut_below}
use Rattle.crash_recover.proofs.judging.judge.Goals as goal

pub returns-in-None-Some : goal.returns-in-None-Some
returns-in-None-Some c =
    let a = c.args.a.now in
    let b = c.args.b.now in
    let below = shut_below a (epoch_of b) (rw c.in-None-Some.is-0 at c.opened_epoch.ensures.none) in
    IfOk-weaker c.judge_area.result (IsAreaFound B b) (IsFound a b) (λ judged found. found_in_b a b judged c.in-None-Some.ensures.opened below found) c.judge_area.ensures

pub returns-in-Some-None : goal.returns-in-Some-None
returns-in-Some-None c =
    let a = c.args.a.now in
    let b = c.args.b.now in
    let below = shut_below b (epoch_of a) (rw c.in-Some-None.is-1 at c.opened_epoch-2.ensures.none) in
    IfOk-weaker c.judge_area-in-Some-None.result (IsAreaFound A a) (IsFound a b) (λ judged found. found_in_a a b judged c.in-Some-None.ensures.opened below found) c.judge_area-in-Some-None.ensures

pub returns-in-Greater : goal.returns-in-Greater
returns-in-Greater c =
    let a = c.args.a.now in
    let b = c.args.b.now in
    let both = c.in-Some-Some in
    let below = lower_below a b both.of_a both.of_b both.ensures.epoch both.ensures'.epoch (ranked both.of_a both.of_b Greater c.in-Greater.ensures) in
    IfOk-weaker c.judge_area-in-Greater.result (IsAreaFound A a) (IsFound a b) (λ judged found. found_in_a a b judged both.ensures.opened below found) c.judge_area-in-Greater.ensures

pub returns-in-Less : goal.returns-in-Less
returns-in-Less c =
    let a = c.args.a.now in
    let b = c.args.b.now in
    let both = c.in-Some-Some in
    let below = lower_below b a both.of_b both.of_a both.ensures'.epoch both.ensures.epoch (ranked both.of_a both.of_b Less c.in-Less.ensures) in
    IfOk-weaker c.judge_area-in-Less.result (IsAreaFound B b) (IsFound a b) (λ judged found. found_in_b a b judged both.ensures'.opened below found) c.judge_area-in-Less.ensures
