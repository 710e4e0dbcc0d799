use Rattle.std.proofs.Common.{◌≡◌, ℕ, None, rules, ◌/◌, ◌<◌, true, eqb, List, map, length, sym, ap, ◌∙◌, arith, length-set}
use Rattle.std.specs.Simd.{first_chunks}
use Rattle.std.proofs.ByRecursion.{All-set}
use Rattle.std.proofs.lemmas.List.{take_all}
use Rattle.std.proofs.lemmas.Bool.{and_parts, and_from, eqb-true, eq-eqb}
use Rattle.line.specs.Lines.{hex_of_byte, hex_of}
use Rattle.line.specs.Forms.{all_below, allowed_bytes}
use Rattle.line.proofs.Leaves.{all-below, below_all}
use Rattle.line_reader.specs.Finds.{Found}
use Rattle.line_reader.proofs.Values.{length-hex, hex-pairs, hex-more, hex-none}
use Rattle.line_reader.proofs.value.hex_bytes.Goals as goal

long : (x : List ℕ) → allowed_bytes x ≡ true → length x ≡ 32
long x a = eqb-true (length x) 32 (and_parts (eqb (length x) 32) (all_below 256 x) a).0

pub returns-then-digits-ne64 : goal.returns-then-digits-ne64
returns-then-digits-ne64 c = λ x a e. c.if-digits-ne64.true (ap length e ∙ omega (arith, length-hex x, long x a))

pub returns-in_err-bytes : goal.returns-in_err-bytes
returns-in_err-bytes c =
    let none : Found {V = List ℕ} {A = List ℕ} (λ b. b) hex_of (λ b. allowed_bytes b ≡ true) None c.args.digits.now = λ x a e.
    let n = long x a in
    let half : length c.args.digits.now / 2 ≡ length x = omega (arith, ap length e, length-hex x) in
    hex-none x c.args.digits.now c.as_chunks.result.0.now c.loop-i.i e (c.as_chunks.ensures.front ∙ ap (λ m. first_chunks 2 m c.args.digits.now) half) (omega (arith, n, c.loop-i-test.true)) (all-below 256 x (and_parts (eqb (length x) 32) (all_below 256 x) a).1)
    c.in_err-bytes.ensures in
    search (rules, none)

pub loop-i-preserved : goal.loop-i-preserved
loop-i-preserved c = (
  hex-more c.loop-i.bytes c.as_chunks.result.0.now c.loop-i.i c.in_ok-bytes.field-0 (omega (arith, c.loop-i.invariant.1, c.loop-i-test.true)) (omega (arith, c.as_chunks.ensures.front_len, c.if-digits-ne64.false, c.loop-i-test.true)) c.loop-i.invariant.0 c.in_ok-bytes.ensures.0,
  length-set c.loop-i.bytes c.loop-i.i c.in_ok-bytes.field-0 ∙ c.loop-i.invariant.1,
  All-set (λ b. b < 256) c.loop-i.bytes c.loop-i.i c.in_ok-bytes.field-0 c.in_ok-bytes.ensures.1 c.loop-i.invariant.2,
)

pub returns : goal.returns
returns c =
    let bytes = c.loop-i.bytes in
    let n : length bytes ≡ 32 = c.loop-i.invariant.1 in
    let half : length c.args.digits.now / 2 ≡ length bytes = omega (arith, c.if-digits-ne64.false, n) in
    let all : map hex_of_byte bytes ≡ first_chunks 2 (length bytes) c.args.digits.now =
    sym (ap (map hex_of_byte) (take_all c.loop-i.i bytes (omega (arith, n, c.loop-i-test.false)))) ∙ c.loop-i.invariant.0 ∙ take_all c.loop-i.i c.as_chunks.result.0.now (omega (arith, c.as_chunks.ensures.front_len, half, n, c.loop-i-test.false))
    ∙ c.as_chunks.ensures.front ∙ ap (λ m. first_chunks 2 m c.args.digits.now) half in
    (hex-pairs bytes c.args.digits.now (omega (arith, c.if-digits-ne64.false, n)) all, and_from (eqb (length bytes) 32) (all_below 256 bytes) (eq-eqb (length bytes) 32 n) (below_all 256 bytes c.loop-i.invariant.2))
