-- The words that lines begin with, as users read them. Assumes nothing.
use Rattle.std.specs.Prelude.{ℕ, List, codes}
use Rattle.line.specs.declared.kind.Kind.{Kind}
use Rattle.line.specs.declared.kind.Kind.TheVariants as kind
use Rattle.line.specs.declared.expected.Word.{Word}
use Rattle.line.specs.declared.expected.Word.TheVariants.{RootKeys, ClockKeys, IndexKeys, TopKeys, Keys, Asked, Key, Number, LastDay, Index, Digest, Roles, Role, Files, File, Path, Size, Branches, Branch, Start}

abbrev pub word_of : Word → List ℕ
word_of RootKeys = codes "root keys"
word_of ClockKeys = codes "clock keys"
word_of IndexKeys = codes "index keys"
word_of TopKeys = codes "top keys"
word_of Keys = codes "keys"
word_of Asked = codes "asked"
word_of Key = codes "key"
word_of Number = codes "number"
word_of LastDay = codes "last day"
word_of Index = codes "index"
word_of Digest = codes "digest"
word_of Roles = codes "roles"
word_of Role = codes "role"
word_of Files = codes "files"
word_of File = codes "file"
word_of Path = codes "path"
word_of Size = codes "size"
word_of Branches = codes "branches"
word_of Branch = codes "branch"
word_of Start = codes "start"

abbrev pub kind_word : Kind → List ℕ
kind_word kind.Root = codes "root"
kind_word kind.Clock = codes "clock"
kind_word kind.Index = codes "index"
kind_word kind.List = codes "list"
