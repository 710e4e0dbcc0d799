use Rattle.std.proofs.Common.{refl, append_assoc, rules}
use Rattle.draft_parts.proofs.index.MetasPart.put.Goals as goal

pub returns : goal.returns
returns c = record {
  value = record { role = c.in_ok-role.role; version = c.in_ok-number.number };
  is_read = search rules;
  is-written = search (rules, append_assoc);
  keyed = refl;
}
