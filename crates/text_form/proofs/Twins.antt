-- A text format and a byte format of the same values. Assumes nothing.
use Rattle.std.proofs.Common.{◌≡◌, ℕ, zero, suc, ◌/◌, ◌%◌, ◌<◌, ◌≤◌, Bool, true, false, cond, eqb, leb, List, [], ◌∷◌, ◌++◌, length, Some, None, Option, sym, refl, ap, ◌∙◌, subst, arith}
use Rattle.std.specs.List.{flat_map, AllByRecursion}
use Rattle.std.proofs.ByRecursion.{All-append}
use Rattle.std.proofs.lemmas.Bool.{and_parts, and_from, eqb-true, eq-eqb, le-leb}
use Rattle.wire.specs.Formats.{Format, Bytes, pair as pair_of_bytes, mapped as mapped_of_bytes}
use Rattle.wire.specs.Formats.{FormatOf, pair, mapped}
use Rattle.wire.specs.Numbers.{block, bytes_of}
use Rattle.wire.specs.Tables.{follows, rises, rising}
use Rattle.wire.specs.Leaves.{within, stepped, flag}
use Rattle.line.specs.Forms.{line_of_number, all_below, line_of_bytes, line_of_steps, line_of_flag}
use Rattle.line.specs.declared.expected.Bad.{Bad}
use Rattle.line.specs.declared.expected.Word.{Word}
use Rattle.line.proofs.Leaves.{from-within, all-below, below_all}
use Rattle.text_form.specs.Chains.{Chained, chain}

pub all_left : {X : Type 0} (P : X → Type 0) (xs ys : List X) → AllByRecursion P (xs ++ ys) → AllByRecursion P xs
all_left P [] ys a = tt
all_left P (x ∷ xs) ys a = (a.0, all_left P xs ys a.1)

pub all_right : {X : Type 0} (P : X → Type 0) (xs ys : List X) → AllByRecursion P (xs ++ ys) → AllByRecursion P ys
all_right P [] ys a = a
all_right P (x ∷ xs) ys a = all_right P xs ys a.1

abbrev Small : ℕ → Type 0
Small b = b < 256

-- what has a text has bytes, and the other way round
pub record Twin {A : Type 0} (t : FormatOf Bad A) (w : Format A) : Type 0 where
  pub there : (x : A) → t.Wf x → w.Wf x × Bytes (w.write x)
  pub back : (x : A) → w.Wf x → Bytes (w.write x) → t.Wf x

pub twin-pair : {A B : Type 0} (f : FormatOf Bad A) (f' : Format A) (g : A → FormatOf Bad B) (g' : A → Format B) → Twin f f' → ((x : A) → f.Wf x → Twin (g x) (g' x)) → Twin (pair f g) (pair_of_bytes f' g')
twin-pair f f' g g' F G = record {
  there = λ x w.
      let a = F.there x.0 w.0 in
      let b = (G x.0 w.0).there x.1 w.1 in
      ((a.0, b.0), All-append Small (f'.write x.0) ((g' x.0).write x.1) a.1 b.1);
  back = λ x w b.
      let a = F.back x.0 w.0 (all_left Small (f'.write x.0) ((g' x.0).write x.1) b) in
      (a, (G x.0 a).back x.1 w.1 (all_right Small (f'.write x.0) ((g' x.0).write x.1) b));
}

pub twin-mapped : {A B : Type 0} (f : FormatOf Bad A) (f' : Format A) (to : A → B) (from : B → A) → Twin f f' → Twin (mapped f to from) (mapped_of_bytes f' to from)
twin-mapped f f' to from F = record { there = λ y w. F.there (from y) w; back = λ y w b. F.back (from y) w b }

pub bytes-bytes_of : (n x : ℕ) → Bytes (bytes_of n x)
unfolding bytes_of
bytes-bytes_of zero x = tt
bytes-bytes_of (suc n) x = All-append Small (bytes_of n (x / 256)) (x % 256 ∷ []) (bytes-bytes_of n (x / 256)) (omega arith, tt)

-- a number of n bytes, by what is allowed of it
pub twin-number : (w : Word) (low high n : ℕ) (f : Format ℕ) → ((x : ℕ) → f.write x ≡ bytes_of n x) → ((x : ℕ) → low ≤ x → x ≤ high → f.Wf x) → ((x : ℕ) → f.Wf x → (low ≤ x) × (x ≤ high)) → Twin (line_of_number w low high) f
twin-number w low high n f write to from = record {
  there = λ x h. let k = from-within low high x h in (to x k.0 k.1, subst Bytes (sym (write x)) (bytes-bytes_of n x));
  back = λ x h b. let k = from x h in and_from (leb low x) (leb x high) (le-leb low x k.0) (le-leb x high k.1);
}

pub twin-bytes : (w : Word) → Twin (line_of_bytes w) (block 32)
twin-bytes w = record {
  there = λ x h. let k = and_parts (eqb (length x) 32) (all_below 256 x) h in (eqb-true (length x) 32 k.0, all-below 256 x k.1);
  back = λ x h b. and_from (eqb (length x) 32) (all_below 256 x) (eq-eqb (length x) 32 h) (below_all 256 x b);
}

bytes-joined : (n : ℕ) (xs : List ℕ) → Bytes (flat_map (bytes_of n) xs)
bytes-joined n [] = tt
bytes-joined n (x ∷ xs) = All-append Small (bytes_of n x) (flat_map (bytes_of n) xs) (bytes-bytes_of n x) (bytes-joined n xs)

pub twin-steps : (w : Word) (low : ℕ) → Twin (line_of_steps w low) (stepped low)
twin-steps w low = record {
  there = λ ss h.
      let k = and_parts (within low 8 (length ss)) (all_below 65536 ss) h in
      let few = from-within low 8 (length ss) k.0 in
      (((omega (arith, few.1), k.0), (refl, all-below 65536 ss k.1)), All-append Small (bytes_of 1 (length ss)) (flat_map (bytes_of 2) ss) (bytes-bytes_of 1 (length ss)) (bytes-joined 2 ss));
  back = λ ss h b. and_from (within low 8 (length ss)) (all_below 65536 ss) h.0.1 (below_all 65536 ss h.1.1);
}

pub twin-flag : Twin line_of_flag flag
twin-flag = record { there = λ x h. (tt, bytes-bytes_of 1 (cond x 1 0)); back = λ x h b. tt }

-- TABLES

both : (t u : Bool) → cond t u false ≡ true → (t ≡ true) × (u ≡ true)
both true u h = (refl, h)
both false u h = absurd (let z : ◌≡◌ {A = ℕ} 0 1 = cc in omega arith)

-- an item that may follow the last one
pub record TwinItem {A K : Type 0} (item : Option K → FormatOf Bad A) (f : Format A) (key : A → K) (below : K → K → Bool) : Type 0 where
  pub there : (last : Option K) (x : A) → (item last).Wf x → f.Wf x × Bytes (f.write x) × (follows below last (key x) ≡ true)
  pub back : (last : Option K) (x : A) → f.Wf x → Bytes (f.write x) → follows below last (key x) ≡ true → (item last).Wf x

module _ {A K : Type 0} (item : Option K → FormatOf Bad A) (f : Format A) (key : A → K) (below : K → K → Bool) (T : TwinItem item f key below) where
  chain-there : (last : Option K) (xs : List A) → Chained item key last xs → AllByRecursion f.Wf xs × Bytes (flat_map f.write xs) × (rises f key below last xs ≡ true)
  chain-there last [] w = (tt, tt, refl)
  chain-there last (x ∷ xs) w =
      let a = T.there last x w.0 in
      let b = chain-there (Some (key x)) xs w.1 in
      ((a.0, b.0), All-append Small (f.write x) (flat_map f.write xs) a.1 b.1, ap (λ t. cond t (rises f key below (Some (key x)) xs) false) a.2 ∙ b.2)

  chain-again : (last : Option K) (xs : List A) → AllByRecursion f.Wf xs → Bytes (flat_map f.write xs) → rises f key below last xs ≡ true → Chained item key last xs
  chain-again last [] w b r = tt
  chain-again last (x ∷ xs) w b r =
      let k = both (follows below last (key x)) (rises f key below (Some (key x)) xs) r in
      (T.back last x w.0 (all_left Small (f.write x) (flat_map f.write xs) b) k.0, chain-again (Some (key x)) xs w.1 (all_right Small (f.write x) (flat_map f.write xs) b) k.1)

  pub twin-chain : (n : ℕ) → Twin (chain item key n) (rising f key below n)
  twin-chain n = record {
    there = λ xs w. let a = chain-there None xs w.1 in ((w.0, a.0, a.2), a.1);
    back = λ xs w b. (w.0, chain-again None xs w.1 b w.2);
  }
