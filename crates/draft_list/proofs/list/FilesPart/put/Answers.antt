use Rattle.std.proofs.Common.{refl, append_assoc, rules}
use Rattle.line_reader.specs.Paths.{path_of}
use Rattle.draft_list.proofs.list.FilesPart.put.Goals as goal

pub returns : goal.returns
returns c = record {
  value = record { path = path_of c.in_ok-path.path; size = c.in_ok-size.size; digest = c.in_ok-digest.digest };
  is_read = search rules;
  is-written = search (rules, append_assoc);
  keyed = refl;
}
