-- Who is to blame for an entry, and who signed two. Assumes nothing.
use Rattle.std.proofs.Common.{◌≡◌, ◌+◌, ◌≤◌, not, T, ◌⊎◌, List, length, sym, ap, ◌∙◌, subst, inl, inr, arith}
use mathlib.Core.List.{Memᴰ}
use Rattle.model.specs.Metadata.{Key, Quorum}
use Rattle.model.specs.Quorums.{is_in, once, among}
use Rattle.model.specs.Journal.{Entry}
use Rattle.model.specs.World.{World, Vouches}
use Rattle.model.specs.Blames.{Wrote, misused, Blamed, Overlap, Blames}
use Rattle.model.proofs.ListFacts.{kept_in, kept-differ}
use Rattle.model.proofs.Count.{in_list, once-short, overlap, some-or-all}
use Rattle.model.proofs.Inv.{Good, vouching, by-reached}

vouches : (w : World) (e : Entry) → Good w e → Vouches w e.quorum e.paper e.counted
vouches w e g = subst (λ (ks : List Key). Vouches w e.quorum e.paper ks) (sym g.counted) (vouching w e.quorum e.paper g.signers g.enough g.signed)

blamed : (w : World) (wrote : Wrote) (e : Entry) → Vouches w e.quorum e.paper e.counted → Blamed w wrote e
blamed w wrote e v = record {
  differ = kept-differ (λ (k : Key). k) (λ k. not (wrote k e.paper)) e.counted v.differ;
  ours = λ k m. v.ours k (kept_in (λ k. not (wrote k e.paper)) e.counted k m).0;
  signed = λ k m. v.signed k (kept_in (λ k. not (wrote k e.paper)) e.counted k m).0;
  not_written = λ k m. (kept_in (λ k. not (wrote k e.paper)) e.counted k m).1;
  enough = at (some-or-all (λ k. wrote k e.paper) e.counted);
}
  where
    at : ((k : Key) × Memᴰ k e.counted × T (wrote k e.paper)) ⊎ (length e.counted ≤ length (misused wrote e)) →
        ((k : Key) × Memᴰ k e.counted × T (wrote k e.paper)) ⊎ (e.quorum.threshold ≤ length (misused wrote e))
    at (inl h) = inl h
    at (inr h) = inr (omega (arith, v.many))

overlaps : (w : World) (e f : Entry) → Good w e → Good w f → e.quorum ≡ f.quorum → Overlap w e f
overlaps w e f g h same =
    let v = vouches w e g in
    let u = vouches w f h in
    let keys = once e.quorum.keys in
    let theirs : f.counted ≡ among h.signers keys = h.counted ∙ ap (λ (q : Quorum). among h.signers (once q.keys)) (sym same) in
    let need : e.quorum.threshold ≤ length f.counted = subst (λ (q : Quorum). q.threshold ≤ length f.counted) (sym same) u.many in
    let count : length e.counted + length f.counted ≤ length (among f.counted e.counted) + length keys =
    rw (theirs, g.counted) (overlap g.signers h.signers keys keys (λ k m. m)) in
    let in_both = kept_in (λ k. is_in k f.counted) e.counted in
    record {
      differ = kept-differ (λ (k : Key). k) (λ k. is_in k f.counted) e.counted v.differ;
      ours = λ k m. v.ours k (in_both k m).0;
      signed = λ k m. (v.signed k (in_both k m).0, u.signed k ((in_list k f.counted).0 (in_both k m).1));
      many = omega (arith, v.many, need, count, once-short e.quorum.keys);
    }

pub blames : Blames
blames = record {
  enough = λ w r d h e m. vouches w e ((by-reached w r h).journal e m);
  blame = λ w r d h wrote e m. blamed w wrote e (vouches w e ((by-reached w r h).journal e m));
  both = λ w r s d c h i e f m n same. overlaps w e f ((by-reached w r h).journal e m) ((by-reached w s i).journal f n) same;
}
