use Rattle.std.proofs.Common.{◌≡◌, ℕ, List, length, None, append_assoc, rules}
use Rattle.text_form.specs.Texts.{key_line}
use Rattle.text_form.proofs.Chains.{chain_length}
use Rattle.draft_parts.proofs.quorum.put_quorum.Goals as goal

pub returns : goal.returns
returns c =
    let keys = c.in_ok-rest.ensures.value in
    let many : length keys ≡ c.in_ok-count.count = chain_length key_line (λ (k : List ℕ). k) c.in_ok-count.count None c.in_ok-asked.rest.now (keys, c.in_ok-rest.rest.now) c.in_ok-rest.ensures.is_read in
    record {
      value = record { keys = keys; threshold = c.in_ok-asked.asked };
      is_read = search rules;
      is-written = search (rules, append_assoc, many);
    }
