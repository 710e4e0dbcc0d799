use Rattle.std.proofs.Common.{append_assoc, rules}
use Rattle.draft.proofs.paper.put_clock.Goals as goal

pub returns : goal.returns
returns c = record {
  value = record { version = c.in_ok-number.number; expires = c.in_ok-last_day.last_day; snapshot = c.in_ok-index.index; digest = c.in_ok-digest.digest };
  is_read = search rules;
  is-written = search (rules, append_assoc);
}
