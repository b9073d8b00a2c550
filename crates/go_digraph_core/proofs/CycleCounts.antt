-- Counts of what is reached, as ranks.
use Rattle.std.proofs.Common.{◌≡◌, ℕ, ◌<◌, ◌≤◌, ◌+◌, inl, inr, Bool, true, false, cond, List, [], ◌∷◌, ◌++◌, length, get_or, refl, sym, ◌∙◌, ap, subst, arith, suc, zero, length-append}
use Rattle.std.specs.List.{Contains, count_by}
use Rattle.std.proofs.lemmas.List.{get_or_push, get_or_append_left}
use Rattle.std.proofs.lemmas.List.Elements.{Contains-get_or}
use Rattle.std.proofs.lemmas.List.Sums.{sum_by-cons}
use Rattle.std.proofs.lemmas.Bool.{cases_eq}
use Rattle.go_digraph_core.specs.declared.cycle.edge.Edge.{Edge}
use Rattle.go_digraph_core.specs.cycle.Cycle.{InRange, IsRanking}
use Rattle.go_digraph_core.specs.cycle.mirrors.Search.{IsReachCount}
use Rattle.go_digraph_core.proofs.CycleWalks.{reaches_itself, reaches_on, reaches_end, leads_back}

bit_le : (x y : Bool) → (x ≡ true → y ≡ true) → cond x 1 0 ≤ cond y 1 0
bit_le true y h = (let e : y ≡ true = h refl in rw e (omega arith))
bit_le false y h = omega arith

bit_same : (x y : Bool) → cond y 1 0 ≤ cond x 1 0 → y ≡ true → x ≡ true
bit_same true y h e = refl
bit_same false true h e = absurd (omega arith)
bit_same false false h e = e

pub count_le : (xs ys : List Bool) → length xs ≡ length ys → ((v : ℕ) → get_or xs v false ≡ true → get_or ys v false ≡ true) → count_by (λ m. m) xs ≤ count_by (λ m. m) ys
count_le [] ys l h = omega arith
count_le (x ∷ xs) [] l h = absurd (omega arith)
count_le (x ∷ xs) (y ∷ ys) l h =
    let tail : count_by (λ m. m) xs ≤ count_by (λ m. m) ys = count_le xs ys (omega arith) (λ v e. h (suc v) e) in
    let head : cond x 1 0 ≤ cond y 1 0 = bit_le x y (h 0) in
    omega (arith, tail, head, sum_by-cons (λ m. cond m 1 0) x xs, sum_by-cons (λ m. cond m 1 0) y ys)

pub count_same : (xs ys : List Bool) → length xs ≡ length ys → ((v : ℕ) → get_or xs v false ≡ true → get_or ys v false ≡ true) → count_by (λ m. m) xs ≡ count_by (λ m. m) ys → (v : ℕ) → get_or ys v false ≡ true → get_or xs v false ≡ true
count_same [] [] l h c v e = e
count_same [] (y ∷ ys) l h c v e = absurd (omega arith)
count_same (x ∷ xs) [] l h c v e = absurd (omega arith)
count_same (x ∷ xs) (y ∷ ys) l h c zero e =
    let tail : count_by (λ m. m) xs ≤ count_by (λ m. m) ys = count_le xs ys (omega arith) (λ w e. h (suc w) e) in
    let c' : cond x 1 0 + count_by (λ m. m) xs ≡ cond y 1 0 + count_by (λ m. m) ys = sym (sum_by-cons (λ m. cond m 1 0) x xs) ∙ (c ∙ sum_by-cons (λ m. cond m 1 0) y ys) in
    bit_same x y (omega (arith, tail, c')) e
count_same (x ∷ xs) (y ∷ ys) l h c (suc v) e =
    let tail : count_by (λ m. m) xs ≤ count_by (λ m. m) ys = count_le xs ys (omega arith) (λ w e. h (suc w) e) in
    let head : cond x 1 0 ≤ cond y 1 0 = bit_le x y (h 0) in
    let c' : cond x 1 0 + count_by (λ m. m) xs ≡ cond y 1 0 + count_by (λ m. m) ys = sym (sum_by-cons (λ m. cond m 1 0) x xs) ∙ (c ∙ sum_by-cons (λ m. cond m 1 0) y ys) in
    count_same xs ys (omega arith) (λ w e. h (suc w) e) (omega (arith, tail, head, c')) v e

pub ranking_from_counts : (g : List Edge) (n : ℕ) (ranks : List ℕ) → InRange n g → ((v : ℕ) → v < n → IsReachCount g n v (get_or ranks v 0)) → IsRanking g ranks
ranking_from_counts g n ranks within counts k d lt =
    let e : Edge = get_or g k d in
    let there : Contains g e = Contains-get_or g k d lt in
    let q = counts e.from (within k d lt).0 in
    let p = counts e.to (within k d lt).1 in
    let len : length p.0 ≡ length q.0 = p.1 ∙ sym q.1 in
    let sub : (v : ℕ) → get_or p.0 v false ≡ true → get_or q.0 v false ≡ true = λ v h. (q.2 v).1 (reaches_on g e.from e.to v (reaches_end g e there) ((p.2 v).0 h)) in
    let le : count_by (λ m. m) p.0 ≤ count_by (λ m. m) q.0 = count_le p.0 q.0 len sub in
    let pc : get_or ranks e.to 0 ≡ count_by (λ m. m) p.0 = p.3 in
    let qc : get_or ranks e.from 0 ≡ count_by (λ m. m) q.0 = q.3 in (
      omega (arith, le, pc, qc),
      (
        (λ same.
            let s : get_or ranks e.to 0 ≡ get_or ranks e.from 0 = same in
            let eq : count_by (λ m. m) p.0 ≡ count_by (λ m. m) q.0 = sym pc ∙ (s ∙ qc) in
            inr ((p.2 e.from).0 (count_same p.0 q.0 len sub eq e.from ((q.2 e.from).1 (reaches_itself g e.from))))),
        (λ on.
            let back = leads_back g e on in
            let sup : (v : ℕ) → get_or q.0 v false ≡ true → get_or p.0 v false ≡ true = λ v h. (p.2 v).1 (reaches_on g e.to e.from v back ((q.2 v).0 h)) in
            let ge : count_by (λ m. m) q.0 ≤ count_by (λ m. m) p.0 = count_le q.0 p.0 (sym len) sup in
            omega (arith, le, ge, pc, qc)),
      ),
    )

pub counts_push : (g : List Edge) (n : ℕ) (ranks new : List ℕ) (i r : ℕ) → length ranks ≡ i → new ≡ ranks ++ r ∷ [] → ((v : ℕ) → v < i → IsReachCount g n v (get_or ranks v 0)) → IsReachCount g n i r → (v : ℕ) → v < i + 1 → IsReachCount g n v (get_or new v 0)
counts_push g n ranks new i r len eq all here v lt =
    let Q : List ℕ → Type 0 = λ l. IsReachCount g n v (get_or l v 0) in
    subst Q (sym eq) (elim (cases_eq v i) [
      | inl q ↦ (let e : get_or (ranks ++ r ∷ []) v 0 ≡ r = get_or_push ranks r 0 v (len ∙ sym q) in
          let P : ℕ → Type 0 = λ k. IsReachCount g n v k in let R : ℕ → Type 0 = λ k. IsReachCount g n k r in subst P (sym e) (subst R (sym q) here))
      | inr ne ↦ (let l : v < length ranks = omega arith in let e : get_or (ranks ++ r ∷ []) v 0 ≡ get_or ranks v 0 = get_or_append_left ranks (r ∷ []) 0 v l in
          let P : ℕ → Type 0 = λ k. IsReachCount g n v k in subst P (sym e) (all v (omega arith)))
    ])

pub len_push : {A : Type 0} (items new : List A) (i : ℕ) (item : A) → length items ≡ i → new ≡ items ++ item ∷ [] → length new ≡ i + 1
len_push items new i item len eq = (let e : length new ≡ length (items ++ item ∷ []) = ap length eq in omega (arith, e, length-append items (item ∷ [])))
