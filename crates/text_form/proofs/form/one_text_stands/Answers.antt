use Rattle.text_form.proofs.Papers.{one-text}
use Rattle.text_form.proofs.form.one_text_stands.Goals as goal

pub returns : goal.returns
returns c = one-text
