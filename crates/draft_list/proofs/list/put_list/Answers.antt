use Rattle.std.proofs.Common.{append_assoc, rules}
use Rattle.draft_list.proofs.list.put_list.Goals as goal

pub returns : goal.returns
returns c =
    let contents = c.in_ok-rest.ensures.value in
    record {
      value = record { role = c.in_ok-role.role; version = c.in_ok-number.number; expires = c.in_ok-last_day.last_day; files = contents.0; delegations = contents.1 };
      is_read = search rules;
      is-written = search (rules, append_assoc);
    }
