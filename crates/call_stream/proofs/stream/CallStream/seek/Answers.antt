use Rattle.std.proofs.Common.{◌≡◌, ◌-◌, take, drop, length, ap, ◌∙◌, subst}
use Rattle.std.proofs.lemmas.List.{take_rest}
use Rattle.call_stream.specs.Scans.{IsScanned, IsMet}
use Rattle.call_stream.specs.Taken.{pending}
use Rattle.call_stream.proofs.Faults.{all_closed}
use Rattle.call_stream.proofs.Starting.{with_scan, sound_scan, taken_scan}
use Rattle.call_stream.proofs.stream.CallStream.seek.Goals as goal

pub returns-in-Some-clause-sound : goal.returns-in-Some-clause-sound
returns-in-Some-clause-sound c =
    let stream = c.args.self.now in
    let scan = c.go_on.new.self in
    let held = c.deref.result.now in
    let rest : take (length held - stream.from) (drop stream.from held) ≡ pending stream = take_rest held stream.from ∙ ap (drop stream.from) c.deref.ensures.value in
    (sound_scan stream scan c.requires (subst (λ l. IsScanned l scan) rest c.in-Some.ensures.scanned))

pub returns-in-Some-clause-taken : goal.returns-in-Some-clause-taken
returns-in-Some-clause-taken c =
    let stream = c.args.self.now in
    let scan = c.go_on.new.self in
    let held = c.deref.result.now in
    let rest : take (length held - stream.from) (drop stream.from held) ≡ pending stream = take_rest held stream.from ∙ ap (drop stream.from) c.deref.ensures.value in
    λ bytes texts calls taken. taken_scan stream scan bytes texts calls c.in-Some.ensures.begins taken

pub returns-in-Some-clause-met : goal.returns-in-Some-clause-met
returns-in-Some-clause-met c =
    let stream = c.args.self.now in
    let scan = c.go_on.new.self in
    let held = c.deref.result.now in
    let rest : take (length held - stream.from) (drop stream.from held) ≡ pending stream = take_rest held stream.from ∙ ap (drop stream.from) c.deref.ensures.value in
    subst (λ l. IsMet l scan c.in-Some.closing) rest c.in-Some.ensures.met

pub returns-in-None-clause-sound : goal.returns-in-None-clause-sound
returns-in-None-clause-sound c =
    let stream = c.args.self.now in
    let scan = c.go_on.new.self in
    let held = c.deref.result.now in
    let rest : take (length held - stream.from) (drop stream.from held) ≡ pending stream = take_rest held stream.from ∙ ap (drop stream.from) c.deref.ensures.value in
    (sound_scan stream scan c.requires (subst (λ l. IsScanned l scan) rest c.in-None.ensures.scanned))

pub returns-in-None-clause-taken : goal.returns-in-None-clause-taken
returns-in-None-clause-taken c =
    let stream = c.args.self.now in
    let scan = c.go_on.new.self in
    let held = c.deref.result.now in
    let rest : take (length held - stream.from) (drop stream.from held) ≡ pending stream = take_rest held stream.from ∙ ap (drop stream.from) c.deref.ensures.value in
    λ bytes texts calls taken. taken_scan stream scan bytes texts calls c.in-None.ensures.begins taken

pub returns-in-None-clause-met : goal.returns-in-None-clause-met
returns-in-None-clause-met c =
    let stream = c.args.self.now in
    let scan = c.go_on.new.self in
    let held = c.deref.result.now in
    let rest : take (length held - stream.from) (drop stream.from held) ≡ pending stream = take_rest held stream.from ∙ ap (drop stream.from) c.deref.ensures.value in
    c.in-None.ensures.met ∙ ap length rest

pub returns-in-None-clause-all : goal.returns-in-None-clause-all
returns-in-None-clause-all c =
    let stream = c.args.self.now in
    let scan = c.go_on.new.self in
    let held = c.deref.result.now in
    let rest : take (length held - stream.from) (drop stream.from held) ≡ pending stream = take_rest held stream.from ∙ ap (drop stream.from) c.deref.ensures.value in
    λ bytes texts calls taken. all_closed (with_scan stream scan) bytes texts calls (taken_scan stream scan bytes texts calls c.in-None.ensures.begins taken) (sound_scan stream scan c.requires (subst (λ l. IsScanned l scan) rest c.in-None.ensures.scanned)) (c.in-None.ensures.met ∙ ap length rest)
