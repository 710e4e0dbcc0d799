use Rattle.std.proofs.Common.{◌≡◌, length, None, append_assoc, rules}
use Rattle.model.specs.Metadata.{File, Delegation}
use Rattle.text_form.specs.Texts.{file, delegation}
use Rattle.text_form.proofs.Chains.{chain_length}
use Rattle.draft_list.proofs.list.put_contents.Goals as goal

pub returns : goal.returns
returns c =
    let files = c.in_ok-rest.ensures.value in
    let branches = c.in_ok-rest-2.ensures.value in
    let many : length files ≡ c.in_ok-files.files = chain_length file (λ (f : File). f.path) c.in_ok-files.files None c.in_ok-files.rest.now (files, c.in_ok-rest.rest.now) c.in_ok-rest.ensures.is_read in
    let more : length branches ≡ c.in_ok-branches.branches = chain_length (λ _. delegation) (λ (d : Delegation). d) c.in_ok-branches.branches None c.in_ok-branches.rest.now (branches, c.in_ok-rest-2.rest.now) c.in_ok-rest-2.ensures.is_read in
    record {
      value = (files, branches);
      is_read = search rules;
      is-written = search (rules, append_assoc, many, more);
    }
