-- What tokens in order give stands in order of place.
use Rattle.std.proofs.Common.{◌≡◌, ℕ, ◌+◌, ◌<◌, ◌≤◌, zero, suc, List, [], ◌∷◌, ◌++◌, map, slice_index, sym, subst, append-nil, arith}
use Rattle.std.specs.List.Sorted.{IsStrictlyIncreasing}
use Rattle.go_tree_nodes.specs.Terminals.{Terminal, InOrder, least_width}
use Rattle.go_tree_nodes.proofs.InOrder.{in_order_split, in_order_ends}

-- one number before others that rise
rising_from : (a b : ℕ) (ns : List ℕ) → a < b → IsStrictlyIncreasing (b ∷ ns) → IsStrictlyIncreasing (a ∷ b ∷ ns)
rising_from a b ns lt h zero below = lt
rising_from a b ns lt h (suc k) below = (let e : suc k + 1 ≡ suc (suc k) = omega arith in let f : k + 1 ≡ suc k = omega arith in let r = h k (omega arith) in subst (λ n. slice_index (b ∷ ns) k < slice_index (a ∷ b ∷ ns) n) (sym e) (subst (λ n. slice_index (b ∷ ns) k < slice_index (b ∷ ns) n) f r))

module _ {A : Type 0} (P : A → Type 0) (place : A → ℕ) where
  -- each has the property, and they stand one behind another, between two offsets
  abbrev pub Rises : ℕ → List A → ℕ → Type 0
  Rises low [] high = low ≤ high
  Rises low (x ∷ xs) high = P x × (low ≤ place x) × Rises (place x + 1) xs high

  pub rises_lower : (xs : List A) (low lower high : ℕ) → lower ≤ low → Rises low xs high → Rises lower xs high
  rises_lower [] low lower high l h = omega arith
  rises_lower (x ∷ xs) low lower high l h = (h.0, omega (arith, h.1), h.2)

  pub rises_join : (xs ys : List A) (low middle high : ℕ) → Rises low xs middle → Rises middle ys high → Rises low (xs ++ ys) high
  rises_join [] ys low middle high h g = rises_lower ys middle low high h g
  rises_join (x ∷ xs) ys low middle high h g = (h.0, h.1, rises_join xs ys (place x + 1) middle high h.2 g)

  -- the places rise
  pub rises_increasing : (xs : List A) (low high : ℕ) → Rises low xs high → IsStrictlyIncreasing (map place xs)
  rises_increasing [] low high h = λ k lt. absurd (omega arith)
  rises_increasing (x ∷ []) low high h = λ k lt. absurd (omega arith)
  rises_increasing (x ∷ y ∷ xs) low high h = rising_from (place x) (place y) (map place xs) (omega (arith, h.2.1)) (rises_increasing (y ∷ xs) (place x + 1) high h.2)

  -- tokens in order give such a list
  pub record Gives (ts : List Terminal) (xs : List A) : Type 0 where
    pub rise : (low high : ℕ) → InOrder low ts high → Rises low xs high

module _ {A : Type 0} {P : A → Type 0} {place : A → ℕ} where
  pub gives_none : {ts : List Terminal} → Gives P place ts []
  gives_none {ts} = record { rise = in_order_ends ts }

  pub gives_skip : {t : Terminal} {ts : List Terminal} {xs : List A} → Gives P place ts xs → Gives P place (t ∷ ts) xs
  gives_skip {t} {ts} {xs} m = record { rise = λ low high h. rises_lower P place xs t.span.end low high (omega (arith, h.0, h.1)) (m.rise t.span.end high h.2) }

  -- a token that takes some bytes
  pub gives_one : {t : Terminal} {x : A} {ts : List Terminal} {xs : List A} → P x → place x ≡ t.span.start → least_width t.kind ≡ 1 → Gives P place ts xs → Gives P place (t ∷ ts) (x ∷ xs)
  gives_one {t} {x} {ts} {xs} p at wide m = record { rise = λ low high h. (p, omega (arith, at, h.0), rises_lower P place xs t.span.end (place x + 1) high (omega (arith, at, wide, h.1)) (m.rise t.span.end high h.2)) }

  pub gives_both : {ts us : List Terminal} {xs ys : List A} → Gives P place ts xs → Gives P place us ys → Gives P place (ts ++ us) (xs ++ ys)
  gives_both {ts} {us} {xs} {ys} m n = record {
    rise = λ low high h.
        let parts = in_order_split ts us low high h in
        rises_join P place xs ys low parts.0 high (m.rise low parts.0 parts.1.0) (n.rise parts.0 high parts.1.1);
  }

  pub gives_first : {ts : List Terminal} (us : List Terminal) {xs : List A} → Gives P place ts xs → Gives P place (ts ++ us) xs
  gives_first {ts} us {xs} m = let Q : List A → Type 0 = λ ys. Gives P place (ts ++ us) ys in subst Q (append-nil xs) (gives_both m gives_none)

  pub gives_second : (ts : List Terminal) {us : List Terminal} {xs : List A} → Gives P place us xs → Gives P place (ts ++ us) xs
  gives_second ts m = gives_both gives_none m
