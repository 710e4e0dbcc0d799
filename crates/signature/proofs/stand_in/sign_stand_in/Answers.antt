use Rattle.std.proofs.Common.{◌≡◌, length, refl, ◌∙◌, arith, length-append}
use Rattle.signature.proofs.Halves.{halves}
use Rattle.signature.proofs.stand_in.sign_stand_in.Goals as goal

pub slice_bounds-signature-end-2 : goal.slice_bounds-signature-end-2
slice_bounds-signature-end-2 c =
    let l : length c.copy_from_slice.new.self ≡ 32 = c.copy_from_slice.ensures.len in
    simp length-append (omega arith)

pub returns : goal.returns
returns c =
    halves c.copy_from_slice.new.self c.copy_from_slice-2.new.self _ c.copy_from_slice.ensures.len refl
    ∙ cc
