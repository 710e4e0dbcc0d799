use Rattle.std.proofs.Common.{append_assoc, rules}
use Rattle.draft.proofs.paper.put_root.Goals as goal

pub returns : goal.returns
returns c = record {
  value = record {
    version = c.in_ok-number.number;
    expires = c.in_ok-last_day.last_day;
    root = c.in_ok-rest.ensures.value;
    timestamp = c.in_ok-rest-2.ensures.value;
    snapshot = c.in_ok-rest-3.ensures.value;
    top = c.in_ok-rest-4.ensures.value;
  };
  is_read = search rules;
  is-written = search (rules, append_assoc);
}
