use Rattle.std.proofs.Common.{◌<◌, sym, arith}
use Rattle.std.proofs.ByRecursion.{All-from_get_or}
use Rattle.std.proofs.lemmas.Result.{err_from_is_err_and}
use Rattle.wire.specs.Formats.{Bytes}
use Rattle.metadata.specs.Views.{metadata_of}
use Rattle.metadata.proofs.PaperLaws.{paper-fault, paper-more, paper-whole, paper-form}
use Rattle.metadata.proofs.paper.metadata_in.Goals as goal

pub returns-in_err-paper : goal.returns-in_err-paper
returns-in_err-paper c =
    let p = err_from_is_err_and c.from_residual.result c.from_residual.ensures.1 in
    rw (p.1, p.2) (record { answer = paper-fault c.args.bytes.now c.in_err-paper.field-0.0 c.in_err-paper.ensures; form = tt })

pub returns-then-not-is_empty : goal.returns-then-not-is_empty
returns-then-not-is_empty c =
    record { answer = paper-more c.args.bytes.now c.in_ok-paper.rest.now (metadata_of c.in_ok-paper.paper) c.in_ok-paper.ensures (sym c.if-not-is_empty.ensures); form = tt }

pub returns : goal.returns
returns c =
    let whole = paper-whole c.args.bytes.now c.in_ok-paper.rest.now (metadata_of c.in_ok-paper.paper) c.in_ok-paper.ensures (sym c.if-not-is_empty.ensures) in
    let bytes : Bytes c.args.bytes.now = All-from_get_or (λ b. b < 256) c.args.bytes.now 0 (λ i h. omega (arith, c.type_inv.bytes i)) in
    record { answer = whole; form = paper-form c.args.bytes.now (metadata_of c.in_ok-paper.paper) bytes whole }
