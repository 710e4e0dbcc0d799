-- A signature written in two halves. Assumes nothing.
use Rattle.std.proofs.Common.{◌≡◌, ℕ, List, ◌++◌, length, drop, ap, ◌∙◌, append-nil, arith, length-append, length-drop}
use borrow.Rule.Slice.PartMut.{put_mid}
use Rattle.std.proofs.lemmas.List.{take_at, drop_all}

pub halves : (front back zeros : List ℕ) → length front ≡ 32 → length zeros ≡ 32 → put_mid 32 32 (front ++ zeros) back ≡ front ++ back
halves front back zeros f z =
    (λ i. take_at front zeros 32 f i ++ (back ++ drop_all 32 (drop 32 (front ++ zeros)) (simp (length-drop, length-append) (omega arith)) i))
    ∙ ap (λ l. front ++ l) (append-nil back)
