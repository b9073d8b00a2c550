-- Packages that are initialised one after another.
use Rattle.std.proofs.Common.{◌≡◌, ℕ, zero, suc, ◌+◌, ◌-◌, ◌<◌, ◌≤◌, Bool, true, false, List, [], ◌∷◌, ◌++◌, length, map, get_or, take, drop, Option, Some, None, refl, sym, ap, ◌∙◌, subst, arith}
use Rattle.std.specs.Prelude.{insert, remove, slice_index, slice_index_or, slice_set}
use Rattle.std.specs.List.{position_from, prefix_len}
use Rattle.std.proofs.lemmas.List.{drop_more}
use Rattle.go_machine_core.specs.link.Packages.{PackageOf, is_before, order_from, placed}
use Rattle.go_machine_core.specs.link.Functions.{number_if}
use Rattle.go_machine_core.specs.link.Order.{in_turn, is_marked, is_ready, marked_in, taken}
use Rattle.go_machine_core.specs.link.mirrors.Numbering.{AreBelow}
use Rattle.go_machine_core.proofs.LinkWithin.{below_append, position_within}

pub marked_below : (count : ℕ) (order : List ℕ) (marks : List Bool) → AreBelow count order → AreBelow count (marked_in order marks)
marked_below count [] marks h = tt
marked_below count (n ∷ ns) marks h = below_append count (number_if (is_marked marks n) n) (marked_in ns marks) (one (is_marked marks n)) (marked_below count ns marks h.1)
  where
    one : (b : Bool) → AreBelow count (number_if b n)
    one true = (h.0, tt)
    one false = tt

below_taken : (count i : ℕ) (ns : List ℕ) → AreBelow count ns → AreBelow count (take i ns)
below_taken count zero ns h = tt
below_taken count (suc i) [] h = tt
below_taken count (suc i) (n ∷ ns) h = (h.0, below_taken count i ns h.1)

below_dropped : (count i : ℕ) (ns : List ℕ) → AreBelow count ns → AreBelow count (drop i ns)
below_dropped count zero ns h = h
below_dropped count (suc i) [] h = tt
below_dropped count (suc i) (n ∷ ns) h = below_dropped count i ns h.1

pub below_removed : (count : ℕ) (ns : List ℕ) (i : ℕ) → AreBelow count ns → AreBelow count (remove ns i)
below_removed count ns i h = below_append count (take i ns) (drop (suc i) ns) (below_taken count i ns h) (below_dropped count (suc i) ns h)

below_inserted : (count : ℕ) (ns : List ℕ) (i n : ℕ) → n < count → AreBelow count ns → AreBelow count (insert ns i n)
below_inserted count ns i n lt h = below_append count (take i ns) (n ∷ drop i ns) (below_taken count i ns h) (lt, below_dropped count i ns h)

pub placed_below : (count : ℕ) (paths : List (List ℕ)) (n : ℕ) (order : List ℕ) → n < count → AreBelow count order → AreBelow count (placed paths n order)
placed_below count paths n order lt h = below_inserted count order (prefix_len (λ k. is_before (slice_index_or paths k []) (slice_index_or paths n [])) order) n lt h

pub order_below : (paths : List (List ℕ)) (n : ℕ) (ps : List (List ℕ)) → AreBelow (n + length ps) (order_from paths n ps)
order_below paths n [] = tt
order_below paths n (p ∷ ps) =
    let more : n + 1 + length ps ≡ n + suc (length ps) = omega arith in
    let rest : AreBelow (n + suc (length ps)) (order_from paths (n + 1) ps) = subst (λ k. AreBelow k (order_from paths (n + 1) ps)) more (order_below paths (n + 1) ps) in
    placed_below (n + suc (length ps)) paths n (order_from paths (n + 1) ps) (omega arith) rest

-- one path more, from the back
pub path_there : {P : Type 0} (now : P → List ℕ) (paths : List P) (n : ℕ) (d : P) → n < length paths → now (get_or paths n d) ≡ get_or (map now paths) n []
path_there now [] n d lt = absurd (omega arith)
path_there now (p ∷ ps) zero d lt = refl
path_there now (p ∷ ps) (suc n) d lt = path_there now ps n d (omega (arith, lt))

pub order_more : {P : Type 0} (now : P → List ℕ) (paths : List P) (n m place : ℕ) (d : P) (path : List ℕ) (old new : List ℕ) → n < length paths → m ≡ n + 1 → path ≡ now (get_or paths n d)
    → place ≡ prefix_len (λ k. is_before (slice_index_or (map now paths) k []) path) old → new ≡ insert old place n
    → old ≡ order_from (map now paths) m (map now (drop m paths)) → new ≡ order_from (map now paths) n (map now (drop n paths))
order_more now paths n m place d path old new lt is there at e h =
    let h' : old ≡ order_from (map now paths) (n + 1) (map now (drop (n + 1) paths)) = subst (λ k. old ≡ order_from (map now paths) k (map now (drop k paths))) is h in
    let where_is : place ≡ prefix_len (λ k. is_before (slice_index_or (map now paths) k []) (slice_index_or (map now paths) n [])) old =
    at ∙ ap (λ p. prefix_len (λ k. is_before (slice_index_or (map now paths) k []) p) old) (there ∙ path_there now paths n d lt) in
    e ∙ (ap (λ i. insert old i n) where_is ∙ (ap (placed (map now paths) n) h' ∙ sym (ap (λ l. order_from (map now paths) n (map now l)) (drop_more paths n d lt))))

module _ (ps : List PackageOf) (n t m : ℕ) (done : List Bool) (waiting : List ℕ) (lt : t < n) (is : m ≡ t + 1) where
  one : n - t ≡ suc (n - m)
  one = omega (arith, lt, is)

  pub turn_next : (place : ℕ) → Some place ≡ position_from (is_ready ps done) 0 waiting
      → in_turn ps (n - t) done waiting ≡ slice_index waiting place ∷ in_turn ps (n - m) (slice_set done (slice_index waiting place) true) (remove waiting place)
  turn_next place e =
      ap (λ k. in_turn ps k done waiting) one
      ∙ ap (λ (o : Option ℕ). taken o (λ place. slice_index waiting place ∷ in_turn ps (n - m) (slice_set done (slice_index waiting place) true) (remove waiting place))) (sym e)

  pub turn_ends : None ≡ position_from (is_ready ps done) 0 waiting → in_turn ps (n - t) done waiting ≡ []
  turn_ends e =
      ap (λ k. in_turn ps k done waiting) one
      ∙ ap (λ (o : Option ℕ). taken o (λ place. slice_index waiting place ∷ in_turn ps (n - m) (slice_set done (slice_index waiting place) true) (remove waiting place))) (sym e)

pub first_within : {A : Type 0} (test : A → Bool) (xs : List A) (k : ℕ) → Some k ≡ position_from test 0 xs → k < length xs
first_within test xs k e = (let lt : k < 0 + length xs = position_within test xs 0 k (sym e) in omega (arith, lt))

pub at_any : (xs : List ℕ) (i a b : ℕ) → i < length xs → get_or xs i a ≡ get_or xs i b
at_any [] i a b lt = absurd (omega arith)
at_any (x ∷ xs) zero a b lt = refl
at_any (x ∷ xs) (suc i) a b lt = at_any xs i a b (omega (arith, lt))
