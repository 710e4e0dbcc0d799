-- How far a stream is answered. Assumes nothing.
use Rattle.std.proofs.Common.{◌≡◌, ℕ, List, [], ◌∷◌, ◌++◌, map, Some, None, Ok, Err, Option, sym, refl, ap, ◌∙◌, subst, append_assoc, append-nil}
use Rattle.model.specs.declared.fault.Fault.{Fault}
use Rattle.model.specs.Metadata.{Digest, Root, Snapshot}
use Rattle.model.specs.Device.{fresh}
use Rattle.model.specs.Device as model
use Rattle.model.specs.Answers.{Answer, answer_of}
use Rattle.model.specs.Run.{Event, step, run, answers}
use Rattle.device.specs.Stream.{Steps, item_in, Streams, ends, item, stops, Answered}

-- what is left stands for what is left of the events; those done are answered
pub record Ran (whole left : List ℕ) (said : List Answer) (today : ℕ) : Type 0 where
  pub done : List Event
  pub reads : (es : List Event) (f : Option Fault) → Streams left es f → Streams whole (done ++ es) f
  pub says : (h : Snapshot → Digest) (r : Root) → map answer_of said ≡ answers h done (fresh r)
  pub day : (h : Snapshot → Digest) (r : Root) → (run h done (fresh r)).today ≡ today

answers-more : (h : Snapshot → Digest) (es : List Event) (e : Event) (d : model.Device) → answers h (es ++ (e ∷ [])) d ≡ answers h es d ++ ((step h e (run h es d)).answer ∷ [])
answers-more h [] e d = refl
answers-more h (x ∷ xs) e d = ap (λ (l : List model.Answer). (step h x d).answer ∷ l) (answers-more h xs e (step h x d).device)

run_more : (h : Snapshot → Digest) (es : List Event) (e : Event) (d : model.Device) → run h (es ++ (e ∷ [])) d ≡ (step h e (run h es d)).device
run_more h [] e d = refl
run_more h (x ∷ xs) e d = run_more h xs e (step h x d).device

map_more : (xs : List Answer) (x : Answer) → map answer_of (xs ++ (x ∷ [])) ≡ map answer_of xs ++ (answer_of x ∷ [])
map_more [] x = refl
map_more (y ∷ ys) x = ap (λ (l : List model.Answer). answer_of y ∷ l) (map_more ys x)

-- one item more: its answer, and today after it
pub ran-more : (whole left rest : List ℕ) (said : List Answer) (today after : ℕ) (e : Event) (a : Answer) → Ran whole left said today → item_in left ≡ Ok (e, rest) →
    Steps today e after a →
    Ran whole rest (said ++ (a ∷ [])) after
ran-more whole left rest said today after e a b i s = record {
  done = b.done ++ (e ∷ []);
  reads = λ es f t. subst (λ (l : List Event). Streams whole l f) (sym (append_assoc b.done (e ∷ []) es)) (b.reads (e ∷ es) f (item i t));
  says = λ h r.
      map_more said a ∙
      (ap (λ (l : List model.Answer). l ++ (answer_of a ∷ [])) (b.says h r) ∙
      (ap (λ (x : model.Answer). answers h b.done (fresh r) ++ (x ∷ [])) (sym (s h (run h b.done (fresh r)) (b.day h r)).0) ∙
      sym (answers-more h b.done e (fresh r))));
  day = λ h r. ap (λ (d : model.Device). d.today) (run_more h b.done e (fresh r)) ∙ (s h (run h b.done (fresh r)) (b.day h r)).1;
}

-- the end of the stream, or a fault in it
pub ran-end : (whole left : List ℕ) (said : List Answer) (today : ℕ) → Ran whole left said today → left ≡ [] → Answered whole said
ran-end whole left said today b e = record {
  events = b.done ++ [];
  fault = None;
  streams = b.reads [] None (subst (λ (l : List ℕ). Streams l [] None) (sym e) ends);
  says = λ h r. b.says h r ∙ (ap (λ (l : List Event). answers h l (fresh r)) (sym (append-nil b.done)) ∙ sym (append-nil (answers h (b.done ++ []) (fresh r))));
}

pub ran-stop : (whole left : List ℕ) (said : List Answer) (today : ℕ) (f : Fault) → Ran whole left said today → ¬ (left ≡ []) → item_in left ≡ Err f → Answered whole (said ++ (Err f ∷ []))
ran-stop whole left said today f b n e = record {
  events = b.done ++ [];
  fault = Some f;
  streams = b.reads [] (Some f) (stops n e);
  says = λ h r.
      map_more said (Err f) ∙ (ap (λ (l : List model.Answer). l ++ (model.Refused f ∷ [])) (b.says h r) ∙
      ap (λ (l : List Event). answers h l (fresh r) ++ (model.Refused f ∷ [])) (sym (append-nil b.done)));
}
