-- The laws of lines with numbers, bytes, steps, flags and kinds. Assumes nothing.
use Rattle.std.proofs.Common.{◌≡◌, ℕ, ◌+◌, ◌*◌, ◌/◌, ◌%◌, ◌^◌, ◌<◌, ◌≤◌, Bool, true, false, cond, eqb, ltb, leb, List, [], ◌∷◌, ◌++◌, length, drop, Some, None, Ok, Err, codes, decimal, sym, refl, ap, ◌∙◌, subst, true≢false, append_assoc, arith}
use Rattle.std.specs.Str.Parse.{AllDigits, digits_value, digits_value_after}
use Rattle.std.specs.Char.{digit_value}
use Rattle.std.specs.Prelude.{nat_eq}
use Rattle.std.specs.Cmp.Lexicographic.{pointwise}
use Rattle.std.specs.List.{AllByRecursion, find}
use Rattle.std.specs.Option.{is_some}
use Rattle.std.proofs.lemmas.Fmt.{decimal_is_IsNumeral}
use Rattle.std.proofs.lemmas.Str.Parse.{digit_from_value}
use Rattle.std.proofs.ByRecursion.{All-append}
use Rattle.std.proofs.lemmas.List.{length-append, drop_at}
use Rattle.std.proofs.lemmas.Bool.{and_parts, and_from, leb-true, ltb-true, ne_eqb, lt-ltb}
use Rattle.std.proofs.lemmas.Bool.Decides.{nat_tests}
use Rattle.model.specs.Metadata.{Steps}
use Rattle.model.specs.Same.{same_list}
use Rattle.wire.specs.Formats.{Lawful}
use Rattle.wire.specs.Leaves.{within}
use Rattle.wire.proofs.Comparing.{bytes_same}
use Rattle.line.specs.Lines.{bare, numbered, digit_of, hex_of, hexed, steps_from, stepped}
use Rattle.line.specs.Words.{word_of, kind_word}
use Rattle.line.specs.Forms.{read_number_or, number_or, line_of_number, all_below, digit_in, bytes_in, allowed_bytes, read_bytes, line_of_bytes, steps_after, steps_in, allowed_steps, read_steps, line_of_steps, flag_write, read_flag, line_of_flag, kind_in, read_kind, line_of_kind, Unended}
use Rattle.line.specs.declared.expected.Word.{Word}
use Rattle.line.specs.declared.expected.Word.TheVariants as word
use Rattle.line.specs.declared.expected.Expected.{Expected}
use Rattle.line.specs.declared.expected.Expected.TheVariants as expected
use Rattle.line.specs.declared.kind.Kind.{Kind}
use Rattle.line.specs.declared.kind.Kind.TheVariants as kind
use Rattle.line.specs.Forms.{bad_at, Begins}
use Rattle.line.proofs.Forms.{list_same, same-list, Content, Tailed, line-back, line-once, word-bad, tail-bad, tail-good}

-- TESTS

pub from-within : (low high n : ℕ) → within low high n ≡ true → (low ≤ n) × (n ≤ high)
from-within low high n h = let t = and_parts (leb low n) (leb n high) h in (leb-true low n t.0, leb-true n high t.1)

pub all-below : (m : ℕ) (xs : List ℕ) → all_below m xs ≡ true → AllByRecursion (λ x. x < m) xs
all-below m [] h = tt
all-below m (x ∷ xs) h = let t = and_parts (ltb x m) (all_below m xs) h in (ltb-true x m t.0, all-below m xs t.1)

pub below_all : (m : ℕ) (xs : List ℕ) → AllByRecursion (λ x. x < m) xs → all_below m xs ≡ true
below_all m [] h = refl
below_all m (x ∷ xs) h = and_from (ltb x m) (all_below m xs) (lt-ltb x m h.0) (below_all m xs h.1)

-- NO END OF A LINE

pub unended-word : (w : Word) → Unended (word_of w)
unended-word word.RootKeys = search
unended-word word.ClockKeys = search
unended-word word.IndexKeys = search
unended-word word.TopKeys = search
unended-word word.Keys = search
unended-word word.Asked = search
unended-word word.Key = search
unended-word word.Number = search
unended-word word.LastDay = search
unended-word word.Index = search
unended-word word.Digest = search
unended-word word.Roles = search
unended-word word.Role = search
unended-word word.Files = search
unended-word word.File = search
unended-word word.Path = search
unended-word word.Size = search
unended-word word.Branches = search
unended-word word.Branch = search
unended-word word.Start = search

unended-digits : (ds : List ℕ) → AllDigits 10 ds → Unended ds
unended-digits [] d = tt
unended-digits (c ∷ cs) d = let k = digit_from_value c d.0 in (ne_eqb c 10 (λ e. omega arith), unended-digits cs d.1)

pub unended-decimal : (n : ℕ) → n < 2 ^ 64 → Unended (decimal n)
unended-decimal n h = unended-digits (decimal n) (decimal_is_IsNumeral n h).0.1

digit_of-least : (n : ℕ) → 48 ≤ digit_of n
digit_of-least n = grind (arith, nat_tests)

pub unended-hex : (bs : List ℕ) → Unended (hex_of bs)
unended-hex [] = tt
unended-hex (b ∷ bs) =
    let h = digit_of-least (b / 16) in
    let l = digit_of-least (b % 16) in
    (ne_eqb (digit_of (b / 16)) 10 (λ e. omega (arith, h, e)), (ne_eqb (digit_of (b % 16)) 10 (λ e. omega (arith, l, e)), unended-hex bs))

pub unended-steps : (mark : ℕ) (ss : Steps) → eqb mark 10 ≡ false → AllByRecursion (λ s. s < 65536) ss → Unended (steps_from mark ss)
unended-steps mark [] m a = tt
unended-steps mark (s ∷ ss) m a = (m, All-append (λ b. eqb b 10 ≡ false) (decimal s) (steps_from 47 ss) (unended-decimal s (omega (arith, a.0))) (unended-steps 47 ss refl a.1))

-- behind a word
behind-word : (w v : List ℕ) → drop (length w) (w ++ v) ≡ v
behind-word w v = drop_at w v (length w) refl

behind-space : (w : List ℕ) (c : ℕ) (v : List ℕ) → drop (length w + 1) (w ++ (c ∷ v)) ≡ v
behind-space w c v = sym (ap (λ l. drop (length w + 1) l) (append_assoc w (c ∷ []) v)) ∙ drop_at (w ++ (c ∷ [])) v (length w + 1) (length-append w (c ∷ []))

-- NUMBERS

pub number-content : (w : Word) (low high : ℕ) → high < 2 ^ 64 → (n : ℕ) → within low high n ≡ true → Content (numbered (word_of w) n) (λ l. digits_value 10 (drop (length (word_of w) + 1) l)) n
unfolding numbered
number-content w low high small n h =
    let fits : n < 2 ^ 64 = omega (arith, (from-within low high n h).1, small) in
    record {
      content = word_of w ++ (32 ∷ decimal n);
      ends = refl;
      one = All-append (λ b. eqb b 10 ≡ false) (word_of w) (32 ∷ decimal n) (unended-word w) (refl, unended-decimal n fits);
      again = ap (digits_value 10) (behind-space (word_of w) 32 (decimal n)) ∙ (decimal_is_IsNumeral n fits).1;
    }

pub lawful-number-or : (e : Expected) (w : Word) (low high : ℕ) → high < 2 ^ 64 → Lawful (number_or e w low high)
unfolding read_number_or
lawful-number-or e w low high small = record {
  back = line-back (numbered (word_of w)) (λ l. digits_value 10 (drop (length (word_of w) + 1) l)) (within low high) e (number-content w low high small);
  once = line-once (numbered (word_of w)) (λ l. digits_value 10 (drop (length (word_of w) + 1) l)) (within low high) e;
}

pub lawful-number-line : (w : Word) (low high : ℕ) → high < 2 ^ 64 → Lawful (line_of_number w low high)
lawful-number-line w low high = lawful-number-or (expected.Number w low high) w low high

-- what the reader of such a line has to find
module _ (e : Expected) (w : Word) (low high : ℕ) (small : high < 2 ^ 64) (text : List ℕ) where
  number-tailed : Tailed (numbered (word_of w)) (λ n. 32 ∷ decimal n) (word_of w) (within low high)
  unfolding numbered
  number-tailed = record { is = λ n. refl; one = λ n h. (refl, unended-decimal n (omega (arith, (from-within low high n h).1, small))) }

  pub no-number-word : ((v rest : List ℕ) → Unended v → text ≡ bare (word_of w ++ v) ++ rest → ⊥) → (number_or e w low high).read text ≡ Err (bad_at text e)
  unfolding read_number_or
  no-number-word = word-bad (numbered (word_of w)) (λ l. digits_value 10 (drop (length (word_of w) + 1) l)) (within low high) e (λ n. 32 ∷ decimal n) (word_of w) (unended-word w) number-tailed text

  module _ (v rest : List ℕ) (b : Begins (word_of w) text v rest) where
    pub no_number : ((n : ℕ) → within low high n ≡ true → v ≡ 32 ∷ decimal n → ⊥) → (number_or e w low high).read text ≡ Err (bad_at text e)
    unfolding read_number_or
    no_number = tail-bad (numbered (word_of w)) (λ l. digits_value 10 (drop (length (word_of w) + 1) l)) (within low high) e (λ n. 32 ∷ decimal n) (word_of w) (unended-word w) number-tailed text v rest b

    pub one_number : (n : ℕ) → within low high n ≡ true → v ≡ 32 ∷ decimal n → (number_or e w low high).read text ≡ Ok (n, rest)
    unfolding read_number_or
    one_number = tail-good (numbered (word_of w)) (λ l. digits_value 10 (drop (length (word_of w) + 1) l)) (within low high) e (λ n. 32 ∷ decimal n) (word_of w) (unended-word w) number-tailed text v rest b (number-content w low high small)

-- BYTES

digit-again : (n : ℕ) → digit_in (digit_of n) ≡ n
digit-again n = grind (arith, nat_tests)

bytes-again : (bs : List ℕ) → bytes_in (hex_of bs) ≡ bs
bytes-again [] = refl
bytes-again (b ∷ bs) =
    let one : digit_in (digit_of (b / 16)) * 16 + digit_in (digit_of (b % 16)) ≡ b = omega (arith, digit-again (b / 16), digit-again (b % 16)) in
    λ i. one i ∷ bytes-again bs i

pub bytes-content : (w : Word) (bs : List ℕ) → Content (hexed (word_of w) bs) (λ l. bytes_in (drop (length (word_of w) + 1) l)) bs
unfolding hexed
bytes-content w bs = record {
  content = word_of w ++ (32 ∷ hex_of bs);
  ends = refl;
  one = All-append (λ b. eqb b 10 ≡ false) (word_of w) (32 ∷ hex_of bs) (unended-word w) (refl, unended-hex bs);
  again = ap bytes_in (behind-space (word_of w) 32 (hex_of bs)) ∙ bytes-again bs;
}

pub lawful-bytes-line : (w : Word) → Lawful (line_of_bytes w)
unfolding read_bytes
lawful-bytes-line w = record {
  back = line-back (hexed (word_of w)) (λ l. bytes_in (drop (length (word_of w) + 1) l)) allowed_bytes (expected.Bytes w) (λ bs _. bytes-content w bs);
  once = line-once (hexed (word_of w)) (λ l. bytes_in (drop (length (word_of w) + 1) l)) allowed_bytes (expected.Bytes w);
}

module _ (w : Word) (text : List ℕ) where
  bytes-tailed : Tailed (hexed (word_of w)) (λ bs. 32 ∷ hex_of bs) (word_of w) allowed_bytes
  unfolding hexed
  bytes-tailed = record { is = λ n. refl; one = λ bs h. (refl, unended-hex bs) }

  pub no-bytes-word : ((v rest : List ℕ) → Unended v → text ≡ bare (word_of w ++ v) ++ rest → ⊥) → (line_of_bytes w).read text ≡ Err (bad_at text (expected.Bytes w))
  unfolding read_bytes
  no-bytes-word = word-bad (hexed (word_of w)) (λ l. bytes_in (drop (length (word_of w) + 1) l)) allowed_bytes (expected.Bytes w) (λ bs. 32 ∷ hex_of bs) (word_of w) (unended-word w) bytes-tailed text

  module _ (v rest : List ℕ) (b : Begins (word_of w) text v rest) where
    pub no_bytes : ((bs : List ℕ) → allowed_bytes bs ≡ true → v ≡ 32 ∷ hex_of bs → ⊥) → (line_of_bytes w).read text ≡ Err (bad_at text (expected.Bytes w))
    unfolding read_bytes
    no_bytes = tail-bad (hexed (word_of w)) (λ l. bytes_in (drop (length (word_of w) + 1) l)) allowed_bytes (expected.Bytes w) (λ bs. 32 ∷ hex_of bs) (word_of w) (unended-word w) bytes-tailed text v rest b

    pub one-bytes : (bs : List ℕ) → allowed_bytes bs ≡ true → v ≡ 32 ∷ hex_of bs → (line_of_bytes w).read text ≡ Ok (bs, rest)
    unfolding read_bytes
    one-bytes = tail-good (hexed (word_of w)) (λ l. bytes_in (drop (length (word_of w) + 1) l)) allowed_bytes (expected.Bytes w) (λ bs. 32 ∷ hex_of bs) (word_of w) (unended-word w) bytes-tailed text v rest b (λ bs _. bytes-content w bs)

-- STEPS

past-digits : (n : ℕ) (ds rest : List ℕ) → AllDigits 10 ds → steps_after n (ds ++ rest) ≡ steps_after (digits_value_after 10 n ds) rest
past-digits n [] rest d = refl
past-digits n (c ∷ cs) rest d =
    let k = digit_from_value c d.0 in
    ap (λ t. cond t (n ∷ steps_after 0 (cs ++ rest)) (steps_after (n * 10 + digit_value c) (cs ++ rest))) (ne_eqb c 47 (λ e. omega arith)) ∙ past-digits (n * 10 + digit_value c) cs rest d.1

past-step : (s : ℕ) (rest : List ℕ) → s < 65536 → steps_after 0 (decimal s ++ rest) ≡ steps_after s rest
past-step s rest h = let r = decimal_is_IsNumeral s (omega (arith, h)) in past-digits 0 (decimal s) rest r.0.1 ∙ ap (λ n. steps_after n rest) r.1

steps-after : (s : ℕ) (ss : Steps) → AllByRecursion (λ x. x < 65536) ss → steps_after s (steps_from 47 ss) ≡ s ∷ ss
steps-after s [] a = refl
steps-after s (t ∷ ss) a = ap (λ l. s ∷ l) (past-step t (steps_from 47 ss) a.0 ∙ steps-after t ss a.1)

pub steps-again : (ss : Steps) → AllByRecursion (λ x. x < 65536) ss → steps_in (steps_from 32 ss) ≡ ss
steps-again [] a = refl
steps-again (s ∷ ss) a = past-step s (steps_from 47 ss) a.0 ∙ steps-after s ss a.1

pub steps-content : (w : Word) (low : ℕ) (ss : Steps) → allowed_steps low ss ≡ true → Content (stepped (word_of w) ss) (λ l. steps_in (drop (length (word_of w)) l)) ss
unfolding stepped
steps-content w low ss h =
    let small = all-below 65536 ss (and_parts (within low 8 (length ss)) (all_below 65536 ss) h).1 in
    record {
      content = word_of w ++ steps_from 32 ss;
      ends = refl;
      one = All-append (λ b. eqb b 10 ≡ false) (word_of w) (steps_from 32 ss) (unended-word w) (unended-steps 32 ss refl small);
      again = ap steps_in (behind-word (word_of w) (steps_from 32 ss)) ∙ steps-again ss small;
    }

pub lawful-steps-line : (w : Word) (low : ℕ) → Lawful (line_of_steps w low)
unfolding read_steps
lawful-steps-line w low = record {
  back = line-back (stepped (word_of w)) (λ l. steps_in (drop (length (word_of w)) l)) (allowed_steps low) (expected.Steps w low) (steps-content w low);
  once = line-once (stepped (word_of w)) (λ l. steps_in (drop (length (word_of w)) l)) (allowed_steps low) (expected.Steps w low);
}

module _ (w : Word) (low : ℕ) (text : List ℕ) where
  steps-tailed : Tailed (stepped (word_of w)) (steps_from 32) (word_of w) (allowed_steps low)
  unfolding stepped
  steps-tailed = record { is = λ n. refl; one = λ ss h. unended-steps 32 ss refl (all-below 65536 ss (and_parts (within low 8 (length ss)) (all_below 65536 ss) h).1) }

  pub no-steps-word : ((v rest : List ℕ) → Unended v → text ≡ bare (word_of w ++ v) ++ rest → ⊥) → (line_of_steps w low).read text ≡ Err (bad_at text (expected.Steps w low))
  unfolding read_steps
  no-steps-word = word-bad (stepped (word_of w)) (λ l. steps_in (drop (length (word_of w)) l)) (allowed_steps low) (expected.Steps w low) (steps_from 32) (word_of w) (unended-word w) steps-tailed text

  module _ (v rest : List ℕ) (b : Begins (word_of w) text v rest) where
    pub no_steps : ((ss : Steps) → allowed_steps low ss ≡ true → v ≡ steps_from 32 ss → ⊥) → (line_of_steps w low).read text ≡ Err (bad_at text (expected.Steps w low))
    unfolding read_steps
    no_steps = tail-bad (stepped (word_of w)) (λ l. steps_in (drop (length (word_of w)) l)) (allowed_steps low) (expected.Steps w low) (steps_from 32) (word_of w) (unended-word w) steps-tailed text v rest b

    pub one-steps : (ss : Steps) → allowed_steps low ss ≡ true → v ≡ steps_from 32 ss → (line_of_steps w low).read text ≡ Ok (ss, rest)
    unfolding read_steps
    one-steps = tail-good (stepped (word_of w)) (λ l. steps_in (drop (length (word_of w)) l)) (allowed_steps low) (expected.Steps w low) (steps_from 32) (word_of w) (unended-word w) steps-tailed text v rest b (steps-content w low)

-- FLAGS AND KINDS

flag-content : (b : Bool) → Content (flag_write b) (λ l. same_list l (codes "last yes")) b
flag-content true = record { content = codes "last yes"; ends = refl; one = search; again = refl }
flag-content false = record { content = codes "last no"; ends = refl; one = search; again = refl }

pub lawful-flag-line : Lawful line_of_flag
unfolding read_flag
lawful-flag-line = record {
  back = λ b rest w. line-back flag_write (λ l. same_list l (codes "last yes")) (λ _. true) expected.Flag (λ b _. flag-content b) b rest refl;
  once = λ bs b rest t h. let k = line-once flag_write (λ l. same_list l (codes "last yes")) (λ _. true) expected.Flag bs b rest t h in (k.0, tt, k.2);
}

abbrev flag_tail : Bool → List ℕ
flag_tail b = cond b (codes "last yes") (codes "last no")

flag_is : (b : Bool) → flag_write b ≡ bare (flag_tail b)
flag_is true = refl
flag_is false = refl

module _ (text : List ℕ) where
  flag-tailed : Tailed flag_write flag_tail [] (λ _. true)
  flag-tailed = record { is = flag_is; one = λ b h. at b }
    where
      at : (b : Bool) → Unended (flag_tail b)
      at true = search
      at false = search

  pub no-flag-line : ((v rest : List ℕ) → Unended v → text ≡ bare v ++ rest → ⊥) → line_of_flag.read text ≡ Err (bad_at text expected.Flag)
  unfolding read_flag
  no-flag-line = word-bad flag_write (λ l. same_list l (codes "last yes")) (λ _. true) expected.Flag flag_tail [] tt flag-tailed text

  module _ (v rest : List ℕ) (b : Begins [] text v rest) where
    pub no_flag : same_list v (codes "last yes") ≡ false → same_list v (codes "last no") ≡ false → line_of_flag.read text ≡ Err (bad_at text expected.Flag)
    unfolding read_flag
    no_flag p q = tail-bad flag_write (λ l. same_list l (codes "last yes")) (λ _. true) expected.Flag flag_tail [] tt flag-tailed text v rest b (λ x _ e. at x e)
      where
        at : (x : Bool) → v ≡ flag_tail x → ⊥
        at true e = true≢false (sym (same-list v (codes "last yes") e) ∙ p)
        at false e = true≢false (sym (same-list v (codes "last no") e) ∙ q)

    pub one-flag : (x : Bool) → same_list v (flag_tail x) ≡ true → line_of_flag.read text ≡ Ok (x, rest)
    unfolding read_flag
    one-flag x e = tail-good flag_write (λ l. same_list l (codes "last yes")) (λ _. true) expected.Flag flag_tail [] tt flag-tailed text v rest b (λ y _. flag-content y) x refl (list_same v (flag_tail x) e)

kind-content : (k : Kind) → Content (bare (kind_word k)) kind_in k
kind-content kind.Root = record { content = codes "root"; ends = refl; one = search; again = refl }
kind-content kind.Clock = record { content = codes "clock"; ends = refl; one = search; again = refl }
kind-content kind.Index = record { content = codes "index"; ends = refl; one = search; again = refl }
kind-content kind.List = record { content = codes "list"; ends = refl; one = search; again = refl }

pub lawful-kind-line : Lawful line_of_kind
unfolding read_kind
lawful-kind-line = record {
  back = λ k rest w. line-back (λ (j : Kind). bare (kind_word j)) kind_in (λ _. true) expected.Kind (λ j _. kind-content j) k rest refl;
  once = λ bs k rest t h. let o = line-once (λ (j : Kind). bare (kind_word j)) kind_in (λ _. true) expected.Kind bs k rest t h in (o.0, tt, o.2);
}

module _ (text : List ℕ) where
  kind-tailed : Tailed (λ (k : Kind). bare (kind_word k)) kind_word [] (λ _. true)
  kind-tailed = record { is = λ k. refl; one = λ k h. at k }
    where
      at : (k : Kind) → Unended (kind_word k)
      at kind.Root = search
      at kind.Clock = search
      at kind.Index = search
      at kind.List = search

  pub no-kind-line : ((v rest : List ℕ) → Unended v → text ≡ bare v ++ rest → ⊥) → line_of_kind.read text ≡ Err (bad_at text expected.Kind)
  unfolding read_kind
  no-kind-line = word-bad (λ (k : Kind). bare (kind_word k)) kind_in (λ _. true) expected.Kind kind_word [] tt kind-tailed text

  module _ (v rest : List ℕ) (b : Begins [] text v rest) where
    pub no_kind : ((k : Kind) → same_list v (kind_word k) ≡ false) → line_of_kind.read text ≡ Err (bad_at text expected.Kind)
    unfolding read_kind
    no_kind none =
        tail-bad (λ (k : Kind). bare (kind_word k)) kind_in (λ _. true) expected.Kind kind_word [] tt kind-tailed text v rest b (λ k _ e. true≢false (sym (same-list v (kind_word k) e) ∙ none k))

    pub one-kind : (k : Kind) → same_list v (kind_word k) ≡ true → line_of_kind.read text ≡ Ok (k, rest)
    unfolding read_kind
    one-kind k e = tail-good (λ (j : Kind). bare (kind_word j)) kind_in (λ _. true) expected.Kind kind_word [] tt kind-tailed text v rest b (λ j _. kind-content j) k refl (list_same v (kind_word k) e)

-- THE KIND WITH A WORD

abbrev has_word : List ℕ → Kind → Bool
has_word v k = pointwise nat_eq (kind_word k) v

abbrev every : List Kind
every = kind.Root ∷ kind.Clock ∷ kind.Index ∷ kind.List ∷ []

find-passes : {X : Type 0} (p : X → Bool) (xs : List X) (x : X) → find p xs ≡ Some x → p x ≡ true
find-passes p [] x e = absurd (true≢false (sym (ap is_some e)))
find-passes p (y ∷ ys) x e = at (p y) refl e (find-passes p ys x)
  where
    at : (t : Bool) → p y ≡ t → cond t (Some y) (find p ys) ≡ Some x → (find p ys ≡ Some x → p x ≡ true) → p x ≡ true
    at true h e k = let same : y ≡ x = cc in subst (λ z. p z ≡ true) same h
    at false h e k = k e

find-fails : {X : Type 0} (p : X → Bool) (xs : List X) → find p xs ≡ None → AllByRecursion (λ x. p x ≡ false) xs
find-fails p [] e = tt
find-fails p (y ∷ ys) e = at (p y) refl e (find-fails p ys)
  where
    at : (t : Bool) → p y ≡ t → cond t (Some y) (find p ys) ≡ None → (find p ys ≡ None → AllByRecursion (λ x. p x ≡ false) ys) → (p y ≡ false) × AllByRecursion (λ x. p x ≡ false) ys
    at true h e k = absurd (true≢false (ap is_some e))
    at false h e k = (h, k e)

module _ (v : List ℕ) where
  pub named-is : (k : Kind) → find (has_word v) every ≡ Some k → same_list v (kind_word k) ≡ true
  named-is k e = same-list v (kind_word k) (sym (list_same (kind_word k) v (sym (bytes_same (kind_word k) v true (sym (find-passes (has_word v) every k e))))))

  other : (w : List ℕ) → pointwise nat_eq w v ≡ false → same_list v w ≡ false
  other w h = at (same_list v w) refl
    where
      at : (t : Bool) → same_list v w ≡ t → same_list v w ≡ false
      at true e = absurd (true≢false (sym (same-list w v (sym (list_same v w e))) ∙ sym (bytes_same w v false (sym h))))
      at false e = e

  pub named-none : find (has_word v) every ≡ None → (k : Kind) → same_list v (kind_word k) ≡ false
  named-none e kind.Root = other (codes "root") (find-fails (has_word v) every e).0
  named-none e kind.Clock = other (codes "clock") (find-fails (has_word v) every e).1.0
  named-none e kind.Index = other (codes "index") (find-fails (has_word v) every e).1.1.0
  named-none e kind.List = other (codes "list") (find-fails (has_word v) every e).1.1.1.0
