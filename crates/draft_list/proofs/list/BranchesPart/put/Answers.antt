use Rattle.std.proofs.Common.{refl, append_assoc, rules}
use Rattle.line_reader.specs.Paths.{path_of}
use Rattle.draft_list.proofs.list.BranchesPart.put.Goals as goal

pub returns : goal.returns
returns c = record {
  value = record { role = c.in_ok-role.role; quorum = c.in_ok-rest.ensures.value; prefix = path_of c.in_ok-start.start; terminating = c.in_ok-last.last };
  is_read = search rules;
  is-written = search (rules, append_assoc);
  keyed = refl;
}
