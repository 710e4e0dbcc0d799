-- Lines as formats. A line is good if it is the line of a value that is allowed there, and else it is bad where it begins. Assumes nothing.
use Rattle.std.specs.Prelude.{◌≡◌, ℕ, ◌+◌, ◌-◌, ◌*◌, Bool, true, false, cond, ◌&&◌, List, [], ◌∷◌, ◌++◌, length, drop, Ok, Err, codes, Result, ◌==◌, nat_lt}
use Rattle.std.specs.Str.Parse.{digits_value}
use Rattle.std.specs.Char.{digit_value}
use Rattle.std.specs.List.{AllByRecursion}
use Rattle.model.specs.Metadata.{Key, Steps}
use Rattle.model.specs.Same.{same_list}
use Rattle.wire.specs.Formats.{FormatOf, and_then}
use Rattle.wire.specs.Leaves.{within}
use Rattle.line.specs.Lines.{bare, numbered, hexed, stepped}
use Rattle.line.specs.Words.{word_of, kind_word}
use Rattle.line.specs.declared.expected.Bad.{Bad}
use Rattle.line.specs.declared.expected.Word.{Word}
use Rattle.line.specs.declared.expected.Expected.{Expected}
use Rattle.line.specs.declared.expected.Expected.TheVariants as expected
use Rattle.line.specs.declared.kind.Kind.{Kind}
use Rattle.line.specs.declared.kind.Kind.TheVariants as kind

abbrev pub bad_at : List ℕ → Expected → Bad
bad_at bs e = record { left = length bs; expected = e }

-- what stands on the first line
abbrev pub line_in : List ℕ → List ℕ
line_in [] = []
line_in (b ∷ bs) = cond (b == 10) [] (b ∷ line_in bs)

-- what is behind its end
abbrev pub behind_line : List ℕ → List ℕ
behind_line [] = []
behind_line (b ∷ bs) = cond (b == 10) bs (behind_line bs)

-- the text begins with the line of x, which is allowed
abbrev pub judged : {A : Type 0} → (A → List ℕ) → (A → Bool) → Expected → List ℕ → A → Result (A × List ℕ) Bad
judged write allowed e bs x = cond (allowed x && same_list (write x ++ behind_line bs) bs) (Ok (x, behind_line bs)) (Err (bad_at bs e))

-- a word and a number from low to high; e: what is expected of such a line
unfoldable pub read_number_or : Expected → Word → ℕ → ℕ → List ℕ → Result (ℕ × List ℕ) Bad
read_number_or e word low high bs =
    judged (numbered (word_of word)) (within low high) e bs (digits_value 10 (drop (length (word_of word) + 1) (line_in bs)))

abbrev pub number_or : Expected → Word → ℕ → ℕ → FormatOf Bad ℕ
number_or e word low high = record { read = read_number_or e word low high; write = numbered (word_of word); Wf = λ n. within low high n ≡ true }

-- a word and a number from low to high, as is expected
abbrev pub line_of_number : Word → ℕ → ℕ → FormatOf Bad ℕ
line_of_number word low high = number_or (expected.Number word low high) word low high

abbrev pub all_below : ℕ → List ℕ → Bool
all_below m [] = true
all_below m (x ∷ xs) = nat_lt x m && all_below m xs

-- the number of a hexadecimal digit
abbrev pub digit_in : ℕ → ℕ
digit_in c = cond (nat_lt c 97) (c - 48) (c - 87)

-- the bytes that pairs of digits stand for
abbrev pub bytes_in : List ℕ → List ℕ
bytes_in [] = []
bytes_in (a ∷ []) = []
bytes_in (a ∷ b ∷ cs) = (digit_in a * 16 + digit_in b) ∷ bytes_in cs

abbrev pub allowed_bytes : List ℕ → Bool
allowed_bytes bs = length bs == 32 && all_below 256 bs

-- a word and 32 bytes
unfoldable pub read_bytes : Word → List ℕ → Result (Key × List ℕ) Bad
read_bytes word bs = judged (hexed (word_of word)) allowed_bytes (expected.Bytes word) bs (bytes_in (drop (length (word_of word) + 1) (line_in bs)))

abbrev pub line_of_bytes : Word → FormatOf Bad Key
line_of_bytes word = record { read = read_bytes word; write = hexed (word_of word); Wf = λ bs. allowed_bytes bs ≡ true }

-- the numbers between slashes, the first of them n and the digits behind it
abbrev pub steps_after : ℕ → List ℕ → Steps
steps_after n [] = n ∷ []
steps_after n (c ∷ cs) = cond (c == 47) (n ∷ steps_after 0 cs) (steps_after (n * 10 + digit_value c) cs)

-- the steps behind a space
abbrev pub steps_in : List ℕ → Steps
steps_in [] = []
steps_in (c ∷ cs) = steps_after 0 cs

abbrev pub allowed_steps : ℕ → Steps → Bool
allowed_steps low ss = within low 8 (length ss) && all_below 65536 ss

-- a word and low to 8 steps
unfoldable pub read_steps : Word → ℕ → List ℕ → Result (Steps × List ℕ) Bad
read_steps word low bs = judged (stepped (word_of word)) (allowed_steps low) (expected.Steps word low) bs (steps_in (drop (length (word_of word)) (line_in bs)))

abbrev pub line_of_steps : Word → ℕ → FormatOf Bad Steps
line_of_steps word low = record { read = read_steps word low; write = stepped (word_of word); Wf = λ ss. allowed_steps low ss ≡ true }

abbrev pub flag_write : Bool → List ℕ
flag_write b = cond b (bare (codes "last yes")) (bare (codes "last no"))

-- whether a delegation is the last one to be asked
unfoldable pub read_flag : List ℕ → Result (Bool × List ℕ) Bad
read_flag bs = judged flag_write (λ _. true) expected.Flag bs (same_list (line_in bs) (codes "last yes"))

abbrev pub line_of_flag : FormatOf Bad Bool
line_of_flag = record { read = read_flag; write = flag_write; Wf = λ _. Unit {0} }

abbrev pub kind_in : List ℕ → Kind
kind_in l = cond (same_list l (codes "root")) kind.Root (cond (same_list l (codes "clock")) kind.Clock (cond (same_list l (codes "index")) kind.Index kind.List))

-- the word for a kind
unfoldable pub read_kind : List ℕ → Result (Kind × List ℕ) Bad
read_kind bs = judged (λ k. bare (kind_word k)) (λ _. true) expected.Kind bs (kind_in (line_in bs))

abbrev pub line_of_kind : FormatOf Bad Kind
line_of_kind = record { read = read_kind; write = λ k. bare (kind_word k); Wf = λ _. Unit {0} }

-- a line whose value has to pass a test, and else is bad for another reason
abbrev pub ruled : {A : Type 0} → FormatOf Bad A → (A → Bool) → Expected → FormatOf Bad A
ruled f test e = record {
  read = λ bs. and_then (f.read bs) (λ p. cond (test p.0) (Ok p) (Err (bad_at bs e)));
  write = f.write;
  Wf = λ x. f.Wf x × (test x ≡ true);
}

-- no line ends here
abbrev pub Unended : List ℕ → Type 0
Unended bs = AllByRecursion (λ b. (b == 10) ≡ false) bs

-- a text begins with a line on which a word stands and then v; behind it comes the rest
pub record Begins (word text v rest : List ℕ) : Type 0 where
  pub whole : text ≡ bare (word ++ v) ++ rest
  pub one : Unended v
