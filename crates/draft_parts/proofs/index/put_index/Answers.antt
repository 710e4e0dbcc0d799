use Rattle.std.proofs.Common.{◌≡◌, length, None, append_assoc, rules}
use Rattle.model.specs.Metadata.{Meta}
use Rattle.text_form.specs.Texts.{meta}
use Rattle.text_form.proofs.Chains.{chain_length}
use Rattle.draft_parts.proofs.index.put_index.Goals as goal

pub returns : goal.returns
returns c =
    let metas = c.in_ok-rest.ensures.value in
    let many : length metas ≡ c.in_ok-count.count = chain_length meta (λ (m : Meta). m.role) c.in_ok-count.count None c.in_ok-count.rest.now (metas, c.in_ok-rest.rest.now) c.in_ok-rest.ensures.is_read in
    record {
      value = record { version = c.in_ok-number.number; expires = c.in_ok-last_day.last_day; metas = metas };
      is_read = search rules;
      is-written = search (rules, append_assoc, many);
    }
