use Rattle.std.proofs.Common.{◌≡◌, ℕ, List, [], ◌++◌, vec_items, ap, ◌∙◌}
use Rattle.metadata.specs.Papers.{bytes_of_paper, paper_in}
use Rattle.metadata.specs.Views.{metadata_of}
use Rattle.metadata.proofs.PaperLaws.{one_form}
use Rattle.encoding_papers.proofs.paper.paper_bytes.Goals as goal

-- behind nothing
alone : (start out bs : List ℕ) → start ≡ [] → out ≡ start ++ bs → out ≡ bs
alone start out bs s o = o ∙ ap (λ (l : List ℕ). l ++ bs) s

pub returns : goal.returns
returns c =
    let p = metadata_of c.args.paper in
    let w : vec_items c.write_paper.new.out ≡ bytes_of_paper p = alone (vec_items c.new-out.result) (vec_items c.write_paper.new.out) (bytes_of_paper p) c.new-out.ensures.items c.in_ok-write_paper.ensures in
    record { written = w; back = λ f. ap paper_in w ∙ one_form.written p f; same = λ bs b h. w ∙ (one_form.accepted bs p b h).1 }
