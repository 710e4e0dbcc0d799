use Rattle.std.proofs.Common.{vec_items}
use Rattle.model.specs.Metadata.{Delegation}
use Rattle.metadata.specs.Papers as bytes
use Rattle.text_form.specs.Texts.{delegation}
use Rattle.draft_list.proofs.Unordered.{any_key}
use Rattle.draft_list.proofs.list.put_branches.Goals as goal

pub returns : goal.returns
returns c = any_key delegation (λ _. tt) (λ (d : Delegation). d) c.args.count (bytes.delegations c.args.count).write c.put_table.result c.args.text.now (vec_items c.args.out.now) (vec_items c.put_table.new.out) c.put_table.ensures
