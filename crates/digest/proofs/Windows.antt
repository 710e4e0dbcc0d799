-- The schedule by sixteens, in the words as the code keeps them; rounds by sixteens. Assumes nothing.
use Rattle.std.proofs.Common.{◌≡◌, ◌⊎◌, inl, inr, ℕ, zero, suc, ◌+◌, ◌-◌, ◌*◌, ◌%◌, ◌<◌, ◌≤◌, Bool, true, false, ltb, ltb→lt, List, [], ◌∷◌, ◌++◌, length, get_or, take, drop, slice_set, sym, refl, ap, ◌∙◌, append_assoc, append-nil, suc-add, zero-add, arith, length-append, length-drop, length-set, get_or-drop}
use Rattle.std.proofs.lemmas.Bool.{ltb-false}
use Rattle.std.proofs.lemmas.List.{get_or_append_left, get_or-append_right, get_or-take, length-take-le, take_more, take_more_set, take_all, take-append-drop, drop_all, drop_at, get_or-set_same, drop-set-lt, drop-drop}
use Rattle.digest.specs.Sha256.{Hash, back, scheduled, lengthened, extended, round, rounds, constants}

-- a word depends on the sixteen before it alone
back-append : (pre ws : List ℕ) (k : ℕ) → k ≤ length ws → 0 < k → back (pre ++ ws) k ≡ back ws k
back-append pre ws k l p =
    let e : length (pre ++ ws) ≡ length pre + length ws = length-append pre ws in
    get_or-append_right pre ws (length pre) (length (pre ++ ws) - k) 0 refl (omega arith)
    ∙ ap (λ (i : ℕ). get_or ws i 0) (omega arith)

lengthened-append : (pre ws : List ℕ) → 16 ≤ length ws → lengthened (pre ++ ws) ≡ pre ++ lengthened ws
unfolding lengthened
lengthened-append pre ws h =
    let e2 = back-append pre ws 2 (omega arith) (omega arith) in
    let e7 = back-append pre ws 7 (omega arith) (omega arith) in
    let e15 = back-append pre ws 15 (omega arith) (omega arith) in
    let e16 = back-append pre ws 16 (omega arith) (omega arith) in
    simp (e2, e7, e15, e16, append_assoc)

length-lengthened : (ws : List ℕ) → length (lengthened ws) ≡ suc (length ws)
unfolding lengthened
length-lengthened ws = simp length-append (omega arith)

extended-append : (n : ℕ) (pre ws : List ℕ) → 16 ≤ length ws → extended n (pre ++ ws) ≡ pre ++ extended n ws
unfolding extended
extended-append zero pre ws h = refl
extended-append (suc n) pre ws h =
    ap (extended n) (lengthened-append pre ws h)
    ∙ extended-append n pre (lengthened ws) (omega (arith, length-lengthened ws))

extended-add : (n m : ℕ) (ws : List ℕ) → extended (n + m) ws ≡ extended m (extended n ws)
unfolding extended
extended-add zero m ws = ap (λ (k : ℕ). extended k ws) (zero-add m)
extended-add (suc n) m ws = ap (λ (k : ℕ). extended k ws) (suc-add n m) ∙ extended-add n m (lengthened ws)

-- sixteen words more, and n after them
extended-turn : (n : ℕ) (w u : List ℕ) → length u ≡ 16 → extended 16 w ≡ w ++ u → extended (16 + n) w ≡ w ++ extended n u
extended-turn n w u h e = extended-add 16 n w ∙ ap (extended n) e ∙ extended-append n w u (omega (arith, h))

rounds-append : (v : Hash) (ks ls ws us : List ℕ) → length ks ≡ length ws → rounds v (ks ++ ls) (ws ++ us) ≡ rounds (rounds v ks ws) ls us
rounds-append v [] ls [] us h = refl
rounds-append v [] ls (w ∷ ws) us h = absurd (omega (arith, h))
rounds-append v (k ∷ ks) ls [] us h = absurd (omega (arith, h))
rounds-append v (k ∷ ks) ls (w ∷ ws) us h = rounds-append (round v k w) ks ls ws us (omega (arith, h))

-- no round where no constant or no word is left
pub rounds-none : (v : Hash) (ks ws : List ℕ) → (ks ≡ []) ⊎ (ws ≡ []) → rounds v ks ws ≡ v
rounds-none v [] ws h = refl
rounds-none v (k ∷ ks) [] h = refl
rounds-none v (k ∷ ks) (w ∷ ws) (inl e) = absurd (omega (arith, ap length e))
rounds-none v (k ∷ ks) (w ∷ ws) (inr e) = absurd (omega (arith, ap length e))

-- the sixteen words as the code keeps them, each new one in the place of the oldest: where the word k places before the next one stands
module _ (ws cur : List ℕ) (i k : ℕ) (lw : length ws ≡ 16) (lc : length cur ≡ 16) (kept : drop i cur ≡ drop i ws) (li : i < 16) where
  length-so_far : length (ws ++ take i cur) ≡ 16 + i
  length-so_far = length-append ws (take i cur) ∙ omega (arith, lw, length-take-le i cur (omega (arith, lc)))

  at_old : i < k → k ≤ 16 → get_or cur (i + (16 - k)) 0 ≡ back (ws ++ take i cur) k
  at_old low high =
      let n : length (ws ++ take i cur) - k ≡ i + (16 - k) = omega (arith, length-so_far) in
      rw n (sym (get_or-drop i cur (16 - k) 0)
      ∙ ap (λ (v : List ℕ). get_or v (16 - k) 0) kept
      ∙ get_or-drop i ws (16 - k) 0
      ∙ sym (get_or_append_left ws (take i cur) 0 (i + (16 - k)) (omega (arith, lw))))

  at_new : k ≤ i → 0 < k → get_or cur (i - k) 0 ≡ back (ws ++ take i cur) k
  at_new low high =
      let n : length (ws ++ take i cur) - k ≡ 16 + (i - k) = omega (arith, length-so_far) in
      rw n (sym (get_or-append_right ws (take i cur) 16 (16 + (i - k)) 0 lw (omega arith)
      ∙ ap (λ (j : ℕ). get_or (take i cur) j 0) (omega arith)
      ∙ get_or-take i cur (i - k) 0 (omega arith)))

  at_either : (b : Bool) → ltb i k ≡ b → 0 < k → k ≤ 16 → get_or cur ((i + (16 - k)) % 16) 0 ≡ back (ws ++ take i cur) k
  at_either true e low high =
      let l : i < k = ltb→lt i k (rw e tt) in
      let s : (i + (16 - k)) % 16 ≡ i + (16 - k) = omega arith in
      rw s (at_old l high)
  at_either false e low high =
      let l : k ≤ i = ltb-false i k e in
      let s : (i + (16 - k)) % 16 ≡ i - k = omega arith in
      rw s (at_new l low)

  at_back : 0 < k → k ≤ 16 → get_or cur ((i + (16 - k)) % 16) 0 ≡ back (ws ++ take i cur) k
  at_back = at_either (ltb i k) refl

-- after i rounds more, from the sixteen words ws and the working variables v, with the constants ks
pub record Turned (ws : List ℕ) (v : Hash) (ks : List ℕ) (i : ℕ) (cur : List ℕ) (u : Hash) : Type 0 where
  pub long : length cur ≡ 16
  pub kept : drop i cur ≡ drop i ws
  pub schedule : extended i ws ≡ ws ++ take i cur
  pub state : u ≡ rounds v (take i ks) (take i cur)

pub turned-none : (ws : List ℕ) (v : Hash) (ks : List ℕ) → length ws ≡ 16 → Turned ws v ks 0 ws v
unfolding extended
turned-none ws v ks h = record { long = h; kept = refl; schedule = sym (append-nil ws); state = refl }

pub turned-more : {ws ks cur more : List ℕ} {v u t : Hash} (i : ℕ) → length ws ≡ 16 → length ks ≡ 16 → i < 16
    → more ≡ slice_set cur i (scheduled (get_or cur ((i + 14) % 16) 0) (get_or cur ((i + 9) % 16) 0) (get_or cur ((i + 1) % 16) 0) (get_or cur i 0))
    → t ≡ round u (get_or ks i 0) (get_or more i 0)
    → Turned ws v ks i cur u → Turned ws v ks (i + 1) more t
unfolding extended lengthened
turned-more {ws} {ks} {cur} {more} {v} {u} {t} i lw lk li e f h =
    let lc : length cur ≡ 16 = h.long in
    let at : (k : ℕ) → 0 < k → k ≤ 16 → get_or cur ((i + (16 - k)) % 16) 0 ≡ back (ws ++ take i cur) k =
    λ k low high. at_back ws cur i k lw lc h.kept li low high in
    let s : i ≡ (i + 0) % 16 = omega arith in
    let oldest : get_or cur i 0 ≡ back (ws ++ take i cur) 16 = ap (λ (j : ℕ). get_or cur j 0) s ∙ at 16 (omega arith) (omega arith) in
    let next = scheduled (back (ws ++ take i cur) 2) (back (ws ++ take i cur) 7) (back (ws ++ take i cur) 15) (back (ws ++ take i cur) 16) in
    let inside : i < length cur = omega (arith, lc) in
    let set_is : more ≡ slice_set cur i next =
    e ∙ rw (at 2 (omega arith) (omega arith), at 7 (omega arith) (omega arith), at 15 (omega arith) (omega arith), oldest) refl in
    let taken : take (i + 1) more ≡ take i cur ++ next ∷ [] = ap (take (i + 1)) set_is ∙ take_more_set cur i next inside in
    let stored : get_or more i 0 ≡ next = ap (λ (l : List ℕ). get_or l i 0) set_is ∙ get_or-set_same cur i next 0 inside in
    let k = get_or ks i 0 in
    let same : length (take i ks) ≡ length (take i cur) = omega (arith, length-take-le i ks (omega (arith, lk)), length-take-le i cur (omega (arith, lc))) in
    record {
      long = ap length set_is ∙ length-set cur i next ∙ lc;
      kept =
          ap (drop (i + 1)) set_is
          ∙ drop-set-lt (i + 1) cur i next (omega arith)
          ∙ sym (drop-drop 1 i cur)
          ∙ ap (drop 1) h.kept
          ∙ drop-drop 1 i ws;
      schedule =
          extended-add i 1 ws
          ∙ ap (extended 1) h.schedule
          ∙ append_assoc ws (take i cur) (next ∷ [])
          ∙ ap (λ (l : List ℕ). ws ++ l) (sym taken);
      state =
          f
          ∙ ap (round u k) stored
          ∙ ap (λ (x : Hash). round x k next) h.state
          ∙ sym (rounds-append v (take i ks) (k ∷ []) (take i cur) (next ∷ []) same)
          ∙ ap (λ (l : List ℕ). rounds v l (take i cur ++ next ∷ [])) (sym (take_more ks i 0 (omega (arith, lk))))
          ∙ ap (rounds v (take (i + 1) ks)) (sym taken);
    }

pub turned-all : {ws ks cur : List ℕ} {v u : Hash} → length ks ≡ 16 → Turned ws v ks 16 cur u → (extended 16 ws ≡ ws ++ cur) × (u ≡ rounds v ks cur)
turned-all {ws} {ks} {cur} {v} lk h =
    let a : take 16 cur ≡ cur = take_all 16 cur (omega (arith, h.long)) in
    let b : take 16 ks ≡ ks = take_all 16 ks (omega (arith, lk)) in
    (h.schedule ∙ ap (λ (x : List ℕ). ws ++ x) a, h.state ∙ ap (λ (x : List ℕ). rounds v x (take 16 cur)) b ∙ ap (rounds v ks) a)

-- the words so far stay at the front
extended-keeps : (n : ℕ) (ws : List ℕ) → ws ++ drop (length ws) (extended n ws) ≡ extended n ws
unfolding extended lengthened
extended-keeps zero ws = ap (λ (v : List ℕ). ws ++ v) (drop_all (length ws) ws (omega arith)) ∙ append-nil ws
extended-keeps (suc n) ws =
    let x = scheduled (back ws 2) (back ws 7) (back ws 15) (back ws 16) in
    let all = extended n (ws ++ x ∷ []) in
    let more = drop (length (ws ++ x ∷ [])) all in
    let e : all ≡ ws ++ x ∷ more = sym (extended-keeps n (ws ++ x ∷ [])) ∙ append_assoc ws (x ∷ []) more in
    ap (λ (v : List ℕ). ws ++ drop (length ws) v) e ∙ ap (λ (v : List ℕ). ws ++ v) (drop_at ws (x ∷ more) (length ws) refl) ∙ sym e

-- the constants of the nth sixteen rounds
abbrev row : ℕ → List ℕ
row n = take 16 (drop (16 * n) constants)

-- where the rounds lead that are left after the first sixteen and i times sixteen more, from the working variables and the words then
abbrev pub to_end : ℕ → Hash → List ℕ → Hash
to_end i t ws = rounds t (drop (16 * (i + 1)) constants) (drop 16 (extended (48 - 16 * i) ws))

sixteen-rounds : (n : ℕ) (t : Hash) (ws rest : List ℕ) → length ws ≡ 16 → n < 4
    → rounds (rounds t (row n) ws) (drop (16 * (n + 1)) constants) rest ≡ rounds t (drop (16 * n) constants) (ws ++ rest)
sixteen-rounds n t ws rest l h =
    let ks = drop (16 * n) constants in
    let lr : length (row n) ≡ 16 = length-take-le 16 ks (omega (arith, length-drop (16 * n) constants)) in
    let e : 16 * n + 16 ≡ 16 * (n + 1) = omega arith in
    ap (λ (v : List ℕ). rounds (rounds t (row n) ws) v rest) (sym (drop-drop 16 (16 * n) constants ∙ ap (λ (j : ℕ). drop j constants) e))
    ∙ sym (rounds-append t (row n) (drop 16 ks) ws rest (lr ∙ sym l))
    ∙ ap (λ (v : List ℕ). rounds t v (ws ++ rest)) (take-append-drop 16 ks)

pub to_end-first : (v t : Hash) (ws : List ℕ) → length ws ≡ 16 → t ≡ rounds v (take 16 constants) ws → to_end 0 t ws ≡ rounds v constants (extended 48 ws)
to_end-first v t ws l e =
    let rest = drop 16 (extended 48 ws) in
    ap (λ (u : Hash). rounds u (drop 16 constants) rest) e
    ∙ sixteen-rounds 0 v ws rest l (omega arith)
    ∙ ap (rounds v constants) (ap (λ (j : ℕ). ws ++ drop j (extended 48 ws)) (sym l) ∙ extended-keeps 48 ws)

pub to_end-more : (i : ℕ) (t u : Hash) (ws us : List ℕ) {k : List ℕ} → length ws ≡ 16 → length us ≡ 16 → i < 3 → k ≡ row (i + 1)
    → extended 16 ws ≡ ws ++ us → u ≡ rounds t k us → to_end (i + 1) u us ≡ to_end i t ws
to_end-more i t u ws us {k} lw lu li ek next e =
    let m = 48 - 16 * (i + 1) in
    let rest = drop 16 (extended m us) in
    let n : 48 - 16 * i ≡ 16 + m = omega arith in
    let keeps : us ++ rest ≡ extended m us = ap (λ (j : ℕ). us ++ drop j (extended m us)) (sym lu) ∙ extended-keeps m us in
    let whole : drop 16 (extended (48 - 16 * i) ws) ≡ extended m us =
    ap (λ (j : ℕ). drop 16 (extended j ws)) n ∙ ap (drop 16) (extended-turn m ws us lu next) ∙ drop_at ws (extended m us) 16 lw in
    ap (λ (x : Hash). rounds x (drop (16 * (i + 1 + 1)) constants) rest) (e ∙ ap (λ (l : List ℕ). rounds t l us) ek)
    ∙ sixteen-rounds (i + 1) t us rest lu (omega arith)
    ∙ ap (rounds t (drop (16 * (i + 1)) constants)) (keeps ∙ sym whole)

-- the code's rows of constants after the first
pub row_of : (i : ℕ) → i < 3 → get_or (row 1 ∷ row 2 ∷ row 3 ∷ []) i [] ≡ row (i + 1)
row_of zero h = refl
row_of (suc zero) h = refl
row_of (suc (suc zero)) h = refl
row_of (suc (suc (suc i))) h = absurd (omega (arith, h))
