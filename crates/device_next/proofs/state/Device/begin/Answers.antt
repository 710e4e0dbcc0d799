use Rattle.device_next.specs.Views.{holding_of}
use Rattle.device_next.proofs.ModelledReach.{day-modelled, promised-day}
use Rattle.device_next.proofs.state.Device.begin.Goals as goal

pub returns : goal.returns
returns c =
    let s = holding_of c.args.self.now in
    let then = holding_of c.pass.new.self in
    record {
      bytes = c.pass.ensures;
      law = λ accepts. day-modelled accepts c.args.day s c.pass.result then c.pass.ensures;
      promises = λ accepts signed first. promised-day accepts signed c.args.day first s then c.pass.result (day-modelled accepts c.args.day s c.pass.result then c.pass.ensures);
    }
