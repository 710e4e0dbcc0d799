use Rattle.metadata.proofs.PaperLaws.{one_form}
use Rattle.metadata.proofs.paper.one_form_stands.Goals as goal

pub returns : goal.returns
returns c = one_form
