use Rattle.std.proofs.Common.{◌≡◌, length, arith, rules}
use Rattle.digest.specs.Running.{hash_of}
use Rattle.digest.proofs.Windows.{turned-none, turned-more, turned-all}
use Rattle.digest.proofs.block.turn.Goals as goal

pub returns : goal.returns
returns c =
    let lw : length c.args.words.now ≡ 16 = search rules in
    let lk : length c.args.k.now ≡ 16 = search rules in
    let t0 = turned-none c.args.words.now (hash_of c.args.s) c.args.k.now lw in
    let t1 = turned-more 0 lw lk (omega arith) c.step-s.ensures.next c.step-s.ensures.round t0 in
    let t2 = turned-more 1 lw lk (omega arith) c.step-s-2.ensures.next c.step-s-2.ensures.round t1 in
    let t3 = turned-more 2 lw lk (omega arith) c.step-s-3.ensures.next c.step-s-3.ensures.round t2 in
    let t4 = turned-more 3 lw lk (omega arith) c.step-s-4.ensures.next c.step-s-4.ensures.round t3 in
    let t5 = turned-more 4 lw lk (omega arith) c.step-s-5.ensures.next c.step-s-5.ensures.round t4 in
    let t6 = turned-more 5 lw lk (omega arith) c.step-s-6.ensures.next c.step-s-6.ensures.round t5 in
    let t7 = turned-more 6 lw lk (omega arith) c.step-s-7.ensures.next c.step-s-7.ensures.round t6 in
    let t8 = turned-more 7 lw lk (omega arith) c.step-s-8.ensures.next c.step-s-8.ensures.round t7 in
    let t9 = turned-more 8 lw lk (omega arith) c.step-s-9.ensures.next c.step-s-9.ensures.round t8 in
    let t10 = turned-more 9 lw lk (omega arith) c.step-s-10.ensures.next c.step-s-10.ensures.round t9 in
    let t11 = turned-more 10 lw lk (omega arith) c.step-s-11.ensures.next c.step-s-11.ensures.round t10 in
    let t12 = turned-more 11 lw lk (omega arith) c.step-s-12.ensures.next c.step-s-12.ensures.round t11 in
    let t13 = turned-more 12 lw lk (omega arith) c.step-s-13.ensures.next c.step-s-13.ensures.round t12 in
    let t14 = turned-more 13 lw lk (omega arith) c.step-s-14.ensures.next c.step-s-14.ensures.round t13 in
    let t15 = turned-more 14 lw lk (omega arith) c.step-s-15.ensures.next c.step-s-15.ensures.round t14 in
    let t16 = turned-more 15 lw lk (omega arith) c.step.ensures.next c.step.ensures.round t15 in
    let all = turned-all lk t16 in
    record { next = all.0; rounds = all.1 }
