use Rattle.std.proofs.Common.{vec_items, ap}
use Rattle.journal.specs.Table.{rows_of}
use Rattle.journal.proofs.Clean.{clean}
use Rattle.device_next.specs.Holding.{Held, device_of}
use Rattle.device_next.specs.Views.{holding_of}
use Rattle.device_next.proofs.Stopping.{stop-weaker}
use Rattle.device_next.proofs.ModelledReach.{offer-modelled, promised-offer}
use Rattle.device_next.proofs.state.Device.offer.Goals as goal

pub returns : goal.returns
returns g c =
    let accepts = g.V.Verifier.accepts in
    let h : Held = record { paper = c.args.offer.paper.now; signatures = c.args.offer.signatures.items.now } in
    let j = c.args.self.now.journal in
    let s = holding_of c.args.self.now in
    let then = holding_of c.take.new.self in
    let bytes = c.take.ensures.octets in
    let law = stop-weaker c.take.result c.take.ensures.step (λ a k. offer-modelled accepts h s a then bytes (clean (rows_of (vec_items j.rows)) (vec_items j.entries)) k) (λ e. ap (device_of accepts) e) in
    record {
      bytes = c.take.ensures.step;
      law = law;
      promises = promised-offer accepts g.V.Verifier.signed g.met.V.Verifier.sound h bytes s then c.take.result law;
    }
