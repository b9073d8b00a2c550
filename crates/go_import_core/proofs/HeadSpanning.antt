-- Packages in order of path: those inside a module stand from the module's text up to the text behind all that begins with it and a slash.
use Rattle.std.proofs.Common.{◌≡◌, ◌⊎◌, ⊎_elim, inl, inr, ℕ, zero, suc, ◌-◌, ◌<◌, ◌≤◌, Bool, true, false, not, ◌&&◌, cond, List, [], ◌∷◌, ◌++◌, length, get_or, take, drop, refl, sym, ap, ◌∙◌, subst, arith, append-nil}
use Rattle.std.specs.List.{AllWithin, filter, join_with_byte}
use Rattle.std.specs.List.Sorted.{IsPartitionedBy, IsStrictlySortedBy}
use Rattle.std.specs.Map.{keys_of}
use lib.Dec.{eqb}
use Rattle.std.specs.Ordering.{is_lt, nat_cmp, ordering_reverse, ordering_then}
use Rattle.std.specs.declared.cmp.Ordering.{Ordering}
use Rattle.std.specs.declared.cmp.Ordering.TheVariants.{Less, Equal, Greater}
use Rattle.std.specs.Cmp.{nat_cmp_total}
use Rattle.std.proofs.Math.Bool.{and-false}
use Rattle.std.proofs.lemmas.Bool.{cases_lt}
use Rattle.std.proofs.lemmas.Cmp.{nat_list_cmp_total}
use Rattle.std.proofs.lemmas.List.{append_assoc, take-append-drop}
use Rattle.std.proofs.lemmas.List.Splits.{join_with_byte-slice_split, length-slice_split}
use Rattle.go_path_core.specs.Path.{elements}
use Rattle.go_path_core.proofs.Paths.{begins_is}
use Rattle.go_graph_core.specs.Workspaces.{PackageModel, by_bytes, is_path_inside, packages_inside}
use Rattle.go_graph_core.proofs.Places.{path_below}
use Rattle.go_import_core.specs.head.Spans.{ArePieceOf, is_path_near, packages_near}

-- the text of a path inside a module

joined : (e : List ℕ) (es : List (List ℕ)) (x : List ℕ) (xs : List (List ℕ)) → join_with_byte 47 ((e ∷ es) ++ x ∷ xs) ≡ join_with_byte 47 (e ∷ es) ++ 47 ∷ join_with_byte 47 (x ∷ xs)
joined e [] x xs = refl
joined e (f ∷ es) x xs = ap (λ l. e ++ 47 ∷ l) (joined f es x xs) ∙ sym (append_assoc e (47 ∷ join_with_byte 47 (f ∷ es)) (47 ∷ join_with_byte 47 (x ∷ xs)))

-- nothing, or a slash and more
abbrev IsBehind : List ℕ → Type 0
IsBehind rest = (rest ≡ []) ⊎ ((tail : List ℕ) × (rest ≡ 47 ∷ tail))

behind : (own path : List ℕ) (es c : List (List ℕ)) → elements own ≡ es → elements path ≡ es ++ c → (rest : List ℕ) × (path ≡ own ++ rest) × IsBehind rest
behind own path [] c is all = absurd (omega (arith, length-slice_split (λ b. eqb b 47) own, ap length is))
behind own path (e ∷ es) [] is all = ([], sym (join_with_byte-slice_split 47 path) ∙ ap (join_with_byte 47) (all ∙ append-nil (e ∷ es) ∙ sym is) ∙ join_with_byte-slice_split 47 own ∙ sym (append-nil own), inl refl)
behind own path (e ∷ es) (x ∷ xs) is all = (
  47 ∷ join_with_byte 47 (x ∷ xs),
  sym (join_with_byte-slice_split 47 path) ∙ ap (join_with_byte 47) all ∙ joined e es x xs ∙ ap (λ l. l ++ 47 ∷ join_with_byte 47 (x ∷ xs)) (ap (join_with_byte 47) (sym is) ∙ join_with_byte-slice_split 47 own),
  inr (join_with_byte 47 (x ∷ xs), refl),
)

inside_text : (own path : List ℕ) → is_path_inside own path ≡ true → (rest : List ℕ) × (path ≡ own ++ rest) × IsBehind rest
inside_text own path inside = (let prefix = (begins_is (elements own) (elements path)).0 inside in behind own path (elements own) prefix.0 refl prefix.1)

-- how it compares

nat_same : (x : ℕ) → nat_cmp x x ≡ Equal
nat_same x = by_cases (nat_cmp x x) refl
  where
    by_cases : (o : Ordering) → nat_cmp x x ≡ o → nat_cmp x x ≡ Equal
    by_cases Equal h = h
    by_cases Less h = (let t : Less ≡ Greater = sym h ∙ nat_cmp_total.antisymm x x ∙ ap ordering_reverse h in cc)
    by_cases Greater h = (let t : Greater ≡ Less = sym h ∙ nat_cmp_total.antisymm x x ∙ ap ordering_reverse h in cc)

not_before : (own rest : List ℕ) → is_lt (by_bytes (own ++ rest) own) ≡ false
not_before [] [] = refl
not_before [] (r ∷ rest) = refl
not_before (x ∷ own) rest = ap (λ o. is_lt (ordering_then o (by_bytes (own ++ rest) own))) (nat_same x) ∙ not_before own rest

before_end : (own rest : List ℕ) → IsBehind rest → is_lt (by_bytes (own ++ rest) (own ++ 48 ∷ [])) ≡ true
before_end [] rest (inl none) = ap (λ r. is_lt (by_bytes r (48 ∷ []))) none
before_end [] rest (inr more) = ap (λ r. is_lt (by_bytes r (48 ∷ []))) more.1
before_end (x ∷ own) rest how = ap (λ o. is_lt (ordering_then o (by_bytes (own ++ rest) (own ++ 48 ∷ [])))) (nat_same x) ∙ before_end own rest how

no : (b : Bool) → (b ≡ true → ⊥) → b ≡ false
no true is = absurd (is refl)
no false is = refl

pub outside_before : (own path : List ℕ) → is_lt (by_bytes path own) ≡ true → is_path_inside own path ≡ false
outside_before own path before = no (is_path_inside own path) (λ inside.
    let text = inside_text own path inside in
    let both : true ≡ false = sym before ∙ ap (λ l. is_lt (by_bytes l own)) text.1 ∙ not_before own text.0 in
    absurd cc)

pub outside_behind : (own path : List ℕ) → is_lt (by_bytes path (own ++ 48 ∷ [])) ≡ false → is_path_inside own path ≡ false
outside_behind own path past = no (is_path_inside own path) (λ inside.
    let text = inside_text own path inside in
    let both : false ≡ true = sym past ∙ ap (λ l. is_lt (by_bytes l (own ++ 48 ∷ []))) text.1 ∙ before_end own text.0 text.2 in
    absurd cc)

-- a list without those at its ends

module _ (t : PackageModel → Bool) where
  abbrev AllSay : Bool → List PackageModel → ℕ → ℕ → Type 0
  AllSay b ps low high = AllWithin (λ p. t p ≡ b) ps low high

  none_pass : (ps : List PackageModel) → AllSay false ps 0 (length ps) → filter t ps ≡ []
  none_pass [] out = refl
  none_pass (p ∷ ps) out = ap (λ b. cond b (p ∷ filter t ps) (filter t ps)) (out 0 p (omega arith) (omega arith)) ∙ none_pass ps (λ k d low high. out (suc k) d (omega arith) (omega (arith, high)))

  up_to : (ps : List PackageModel) (j : ℕ) → AllSay false ps j (length ps) → filter t (take j ps) ≡ filter t ps
  up_to ps zero out = sym (none_pass ps out)
  up_to [] (suc j) out = refl
  up_to (p ∷ ps) (suc j) out = ap (λ l. cond (t p) (p ∷ l) l) (up_to ps j (λ k d low high. out (suc k) d (omega (arith, low)) (omega (arith, high))))

  between : (ps : List PackageModel) (i j : ℕ) → i ≤ j → AllSay false ps 0 i → AllSay false ps j (length ps) → filter t (take (j - i) (drop i ps)) ≡ filter t ps
  between ps zero j le out past = (let all : j - 0 ≡ j = omega arith in ap (λ n. filter t (take n ps)) all ∙ up_to ps j past)
  between ps (suc i) zero le out past = absurd (omega (arith, le))
  between [] (suc i) (suc j) le out past = by (suc j - suc i)
    where
      by : (n : ℕ) → filter t (take n (drop (suc i) [])) ≡ []
      by zero = refl
      by (suc n) = refl
  between (p ∷ ps) (suc i) (suc j) le out past =
      (let less : suc j - suc i ≡ j - i = omega arith in ap (λ n. filter t (take n (drop (suc i) (p ∷ ps)))) less)
      ∙ between ps i j (omega (arith, le)) (λ k d low high. out (suc k) d (omega arith) (omega (arith, high))) (λ k d low high. past (suc k) d (omega (arith, low)) (omega (arith, high)))
      ∙ ap (λ b. cond b (p ∷ filter t ps) (filter t ps)) (sym (out 0 p (omega arith) (omega arith)))

  -- those that all pass

  front_passes : (ps : List PackageModel) (n : ℕ) → AllSay true ps 0 n → filter t (take n ps) ≡ take n ps
  front_passes ps zero pass = refl
  front_passes [] (suc n) pass = refl
  front_passes (p ∷ ps) (suc n) pass =
      ap (λ b. cond b (p ∷ filter t (take n ps)) (filter t (take n ps))) (pass 0 p (omega arith) (omega arith))
      ∙ ap (λ l. p ∷ l) (front_passes ps n (λ k d low high. pass (suc k) d (omega arith) (omega (arith, high))))

  piece_passes : (ps : List PackageModel) (i j : ℕ) → i ≤ j → AllSay true ps i j → filter t (take (j - i) (drop i ps)) ≡ take (j - i) (drop i ps)
  piece_passes ps zero j le pass = front_passes ps (j - 0) (λ k d low high. pass k d low (omega (arith, high)))
  piece_passes ps (suc i) zero le pass = absurd (omega (arith, le))
  piece_passes [] (suc i) (suc j) le pass = by (suc j - suc i)
    where
      by : (n : ℕ) → filter t (take n (drop (suc i) [])) ≡ take n (drop (suc i) [])
      by zero = refl
      by (suc n) = refl
  piece_passes (p ∷ ps) (suc i) (suc j) le pass =
      let less : suc j - suc i ≡ j - i = omega arith in
      subst (λ (n : ℕ). filter t (take n (drop i ps)) ≡ take n (drop i ps)) (sym less) (piece_passes ps i j (omega (arith, le)) (λ k d low high. pass (suc k) d (omega (arith, low)) (omega (arith, high))))

pub span_has : (own : List ℕ) (ps : List PackageModel) (i j : ℕ) → i ≤ j → AllWithin (λ p. is_lt (by_bytes p.0 own) ≡ true) ps 0 i → AllWithin (λ p. is_lt (by_bytes p.0 (own ++ 48 ∷ [])) ≡ false) ps j (length ps) → packages_inside own (take (j - i) (drop i ps)) ≡ packages_inside own ps
span_has own ps i j le before past = between (λ p. is_path_inside own p.0) ps i j le (λ k d low high. outside_before own (get_or ps k d).0 (before k d low high)) (λ k d low high. outside_behind own (get_or ps k d).0 (past k d low high))

-- those that stand between two texts

abbrev AreBefore : List ℕ → Bool → List PackageModel → ℕ → ℕ → Type 0
AreBefore text b ps low high = AllWithin (λ p. is_lt (by_bytes p.0 text) ≡ b) ps low high

module _ (own : List ℕ) (ps : List PackageModel) (i j : ℕ) (le : i ≤ j) (many : j ≤ length ps) where
  pub span_is : AreBefore own true ps 0 i → AreBefore own false ps i (length ps) → AreBefore (own ++ 48 ∷ []) true ps 0 j → AreBefore (own ++ 48 ∷ []) false ps j (length ps) → take (j - i) (drop i ps) ≡ packages_near own ps
  span_is before from upto past =
      sym (piece_passes (λ p. is_path_near own p.0) ps i j le (λ k d low high. both (get_or ps k d).0 (from k d low (omega (arith, high, many))) (upto k d (omega arith) high)))
      ∙ between (λ p. is_path_near own p.0) ps i j le (λ k d low high. first (get_or ps k d).0 (before k d low high)) (λ k d low high. second (get_or ps k d).0 (past k d low high))
    where
      first : (path : List ℕ) → is_lt (by_bytes path own) ≡ true → is_path_near own path ≡ false
      first path said = ap (λ b. not b && is_lt (by_bytes path (own ++ 48 ∷ []))) said

      second : (path : List ℕ) → is_lt (by_bytes path (own ++ 48 ∷ [])) ≡ false → is_path_near own path ≡ false
      second path said = ap (λ b. not (is_lt (by_bytes path own)) && b) said ∙ and-false (not (is_lt (by_bytes path own)))

      both : (path : List ℕ) → is_lt (by_bytes path own) ≡ false → is_lt (by_bytes path (own ++ 48 ∷ [])) ≡ true → is_path_near own path ≡ true
      both path said below = ap (λ b. not b && is_lt (by_bytes path (own ++ 48 ∷ []))) said ∙ below

  pub span_piece : ArePieceOf (take (j - i) (drop i ps)) ps
  span_piece = (
    take i ps,
    drop (j - i) (drop i ps),
    sym (take-append-drop i ps) ∙ ap (λ l. take i ps ++ l) (sym (take-append-drop (j - i) (drop i ps))),
  )

-- those before a text stand before the others

lt_is : (o : Ordering) → is_lt o ≡ true → o ≡ Less
lt_is Less said = refl
lt_is Equal said = absurd cc
lt_is Greater said = absurd cc

pub parted : (ps : List PackageModel) (t : List ℕ) → IsStrictlySortedBy by_bytes (keys_of ps) → IsPartitionedBy (λ p. is_lt (by_bytes p.0 t)) ps
parted ps t ordered i j d le lt said = ⊎_elim
    (λ (less : i < j). ap is_lt (nat_list_cmp_total.trans (get_or ps i d).0 (get_or ps j d).0 t (path_below ps i j d ordered less lt) (lt_is (by_bytes (get_or ps j d).0 t) said)))
    (λ (more : j ≤ i). (let same : j ≡ i = omega (arith, le, more) in subst (λ k. is_lt (by_bytes (get_or ps k d).0 t) ≡ true) same said))
    (cases_lt i j)

-- a package before the path of a module comes before the text behind those below it
later_text : (own path : List ℕ) → is_lt (by_bytes path own) ≡ true → is_lt (by_bytes path (own ++ 48 ∷ [])) ≡ true
later_text own path before =
    let next : is_lt (by_bytes own (own ++ 48 ∷ [])) ≡ true = ap (λ l. is_lt (by_bytes l (own ++ 48 ∷ []))) (sym (append-nil own)) ∙ before_end own [] (inl refl) in
    ap is_lt (nat_list_cmp_total.trans path own (own ++ 48 ∷ []) (lt_is (by_bytes path own) before) (lt_is (by_bytes own (own ++ 48 ∷ [])) next))

-- so that the first end stands before the second
pub ends_ordered : (own : List ℕ) (ps : List PackageModel) (i j : ℕ) → i ≤ length ps → AllWithin (λ p. is_lt (by_bytes p.0 own) ≡ true) ps 0 i → AllWithin (λ p. is_lt (by_bytes p.0 (own ++ 48 ∷ [])) ≡ false) ps j (length ps) → i ≤ j
ends_ordered own ps i j many before past = ⊎_elim
    (λ (less : j < i).
    let path : List ℕ = (get_or ps j ([], [])).0 in
    let no : true ≡ false = sym (later_text own path (before j ([], []) (omega arith) less)) ∙ past j ([], []) (omega arith) (omega (arith, less, many)) in
    absurd cc)
    (λ (le : i ≤ j). le)
    (cases_lt j i)
