-- The bytes of a list behind its last day. Assumes nothing.
use Rattle.std.specs.Prelude.{ℕ, List, ◌++◌, length}
use Rattle.std.specs.List.{flat_map}
use Rattle.model.specs.Metadata.{File, Delegation}
use Rattle.wire.specs.Numbers.{bytes_of}
use Rattle.metadata.specs.Papers as bytes

abbrev pub contents_bytes : List File × List Delegation → List ℕ
contents_bytes x = bytes_of 2 (length x.0) ++ (flat_map (bytes.file).write x.0 ++ (bytes_of 1 (length x.1) ++ flat_map (bytes.delegation).write x.1))
