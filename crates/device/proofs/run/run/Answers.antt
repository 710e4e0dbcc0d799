use Rattle.std.proofs.Common.{length, vec_items, sym, ap}
use Rattle.std.proofs.lemmas.List.{nil_from_length}
use Rattle.std.proofs.lemmas.Bool.{eqb-true, eqb-false}
use Rattle.device.specs.Stream.{event_of}
use Rattle.device.proofs.Ran.{ran-more, ran-end, ran-stop}
use Rattle.device.proofs.run.run.Goals as goal

pub returns-in-Err : goal.returns-in-Err
returns-in-Err c =
    let left = c.loop-left.left.now in
    rw c.in_ok-push-in-Err.ensures.items
    (ran-stop c.args.bytes.now left (vec_items c.loop-left.answers) c.loop-left.calendar.today c.in-Err.fault c.loop-left.invariant
    (λ e. eqb-false (length left) 0 (sym c.loop-left-test.ensures) (ap length e)) c.in-Err.ensures)

pub loop-left-preserved : goal.loop-left-preserved
loop-left-preserved c =
    rw c.in_ok-push.ensures.items
    (ran-more c.args.bytes.now c.loop-left.left.now c.in-Ok.read.1.now (vec_items c.loop-left.answers) c.loop-left.calendar.today c.step-said.result.0.today
    (event_of c.in-Ok.read.0) c.step-said.result.1 c.loop-left.invariant c.in-Ok.ensures c.step-said.ensures)

pub returns : goal.returns
returns c =
    let left = c.loop-left.left.now in
    ran-end c.args.bytes.now left (vec_items c.loop-left.answers) c.loop-left.calendar.today c.loop-left.invariant
    (nil_from_length left (eqb-true (length left) 0 (sym c.loop-left-test.ensures)))
