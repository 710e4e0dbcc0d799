use Rattle.std.proofs.Common.{◌<◌, decimal, sym, subst}
use Rattle.line_reader.specs.Finds.{Found}
use Rattle.line_reader.proofs.Values.{narrowed}
use Rattle.line_reader.proofs.path.step_in.Goals as goal

pub returns : goal.returns
returns c =
    subst (λ o. Found (λ n. n) decimal (λ n. n < 65536) o c.args.digits.now) (sym c.ok.ensures.value)
    (narrowed c.args.digits.now c.in_ok-decimal_in.field-0 c.try_from.result c.in_ok-decimal_in.ensures.0 c.in_ok-decimal_in.ensures.1 c.try_from.ensures)
