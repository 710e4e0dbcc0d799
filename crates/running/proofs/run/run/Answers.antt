use Rattle.std.proofs.Common.{◌≡◌, length, Ok, Err, vec_items, sym, ap, ◌∙◌}
use Rattle.std.proofs.lemmas.List.{nil_from_length}
use Rattle.std.proofs.lemmas.Bool.{eqb-true, eqb-false}
use Rattle.model.specs.declared.fault.Fault.TheVariants.{Malformed}
use Rattle.stream.specs.Views.{item_of}
use Rattle.stream.specs.declared.Item.{Item}
use Rattle.device_next.specs.Holding.{Held, device_of}
use Rattle.device_next.specs.Views.{holding_of}
use Rattle.device_next.specs.Offers.{offered_bytes, outcome_of}
use Rattle.model.specs.Answers.{Answer}
use Rattle.running.specs.Runs.{ends, offers, begins, asks, stops}
use Rattle.running.proofs.Shrinks.{item-shorter}
use Rattle.running.proofs.Running.{told, question, so_far, at_last, at-end}
use Rattle.running.proofs.run.run.Goals as goal

pub returns-in-Err : goal.returns-in-Err
returns-in-Err g c =
    let accepts = g.V.Verifier.accepts in
    let d = device_of accepts (holding_of c.args.device.now) in
    let here = device_of accepts (holding_of c.loop-left.device) in
    let left = c.loop-left.left.now in
    let said = vec_items c.loop-left.answers in
    at_last accepts d c.args.bytes.now said here left c.loop-left.invariant (Err c.in-Err.fault) (vec_items c.push.new.self)
    (stops c.in-Err.fault (λ e. eqb-false (length left) 0 (sym c.loop-left-test.ensures) (ap length e)) c.in-Err.ensures) c.in_ok-push-in-Err.ensures.items

pub returns-in_default : goal.returns-in_default
returns-in_default g c =
    let accepts = g.V.Verifier.accepts in
    let d = device_of accepts (holding_of c.args.device.now) in
    let here = device_of accepts (holding_of c.loop-left.device) in
    let left = c.loop-left.left.now in
    let said = vec_items c.loop-left.answers in
    at_last accepts d c.args.bytes.now said here left c.loop-left.invariant (Err Malformed) (vec_items c.push-in_default.new.self)
    (asks (item_of c.in-Ok.read.0) c.in-Ok.ensures (question c.in-Ok.read.0 c.in_default.not-Offer c.in_default.not-Day)) c.in_ok-push-in_default.ensures.items

pub loop-left-smaller-in_ok-push-in-Offer : goal.loop-left-smaller-in_ok-push-in-Offer
loop-left-smaller-in_ok-push-in-Offer g c = item-shorter c.loop-left.left.now c.in-Ok.read.1.now (item_of c.in-Ok.read.0) c.in-Ok.ensures

pub loop-left-preserved-in_ok-push-in-Offer : goal.loop-left-preserved-in_ok-push-in-Offer
loop-left-preserved-in_ok-push-in-Offer g c =
    let accepts = g.V.Verifier.accepts in
    let d = device_of accepts (holding_of c.args.device.now) in
    let here = device_of accepts (holding_of c.loop-left.device) in
    let left = c.loop-left.left.now in
    let said = vec_items c.loop-left.answers in
    let h : Held = record { paper = c.in-Offer.offer.paper.now; signatures = c.in-Offer.offer.signatures.items.now } in
    let s = holding_of c.offer.new.self in
    so_far accepts d c.args.bytes.now said here left c.loop-left.invariant c.in_ok-answer-in-Offer.answer (vec_items c.push-in-Offer.new.self) (device_of accepts s) c.in-Ok.read.1.now
    (λ more e runs. offers h s (c.in-Ok.ensures ∙ ap (λ (i : Item). Ok (item_of i, c.in-Ok.read.1.now)) c.in-Offer.is) (told (λ (a : Answer). offered_bytes accepts h here ≡ outcome_of accepts a s) (device_of accepts s ≡ here) c.offer.result c.in_ok-answer-in-Offer.answer c.in_ok-answer-in-Offer.ensures c.offer.ensures.law) runs) c.in_ok-push-in-Offer.ensures.items

pub loop-left-preserved : goal.loop-left-preserved
loop-left-preserved g c =
    let accepts = g.V.Verifier.accepts in
    let d = device_of accepts (holding_of c.args.device.now) in
    let here = device_of accepts (holding_of c.loop-left.device) in
    let left = c.loop-left.left.now in
    let said = vec_items c.loop-left.answers in
    let s = holding_of c.begin.new.self in
    so_far accepts d c.args.bytes.now said here left c.loop-left.invariant c.begin.result (vec_items c.push-in-Day.new.self) (device_of accepts s) c.in-Ok.read.1.now
    (λ more e runs. begins c.in-Day.day s (c.in-Ok.ensures ∙ ap (λ (i : Item). Ok (item_of i, c.in-Ok.read.1.now)) c.in-Day.is) (c.begin.ensures.law accepts) runs) c.in_ok-push-in-Day.ensures.items

pub returns : goal.returns
returns g c =
    let accepts = g.V.Verifier.accepts in
    let d = device_of accepts (holding_of c.args.device.now) in
    let here = device_of accepts (holding_of c.loop-left.device) in
    let left = c.loop-left.left.now in
    let said = vec_items c.loop-left.answers in
    at-end accepts d c.args.bytes.now said here left c.loop-left.invariant (ends (nil_from_length left (eqb-true (length left) 0 (sym c.loop-left-test.ensures))))
