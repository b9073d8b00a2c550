-- Where one module was replaced, the packages before those that may lie inside it, and those behind them, are the same number by number.
use Rattle.std.proofs.Common.{◌≡◌, ⊎_elim, ℕ, zero, suc, ◌-◌, ◌<◌, ◌≤◌, Bool, true, false, not, ◌||◌, cond, List, [], ◌∷◌, ◌++◌, length, Some, None, refl, sym, ap, ◌∙◌, arith}
use Rattle.std.specs.BTreeMap.{is_at}
use Rattle.std.specs.List.{AllWithin, filter}
use Rattle.std.specs.Map.{keys_of}
use Rattle.std.specs.Ordering.{is_eq, is_lt}
use Rattle.std.specs.Prelude.{slice_get}
use Rattle.std.specs.declared.cmp.Ordering.{Ordering}
use Rattle.std.specs.declared.cmp.Ordering.TheVariants.{Less, Equal, Greater}
use Rattle.std.proofs.lemmas.Bool.{cases_Bool}
use Rattle.std.proofs.lemmas.Cmp.{eq_by_cmp_equiv, nat_list_cmp_total}
use Rattle.std.proofs.lemmas.Map.{lookup-none}
use Rattle.std.proofs.lemmas.Map.Entries.{lookup-filter-keys, lookup_head, lookup_tail, none_below_head, none_past_head}
use Rattle.std.proofs.lemmas.Map.Keys.{IsDistinct-from_sorted, sorted_tail}
use Rattle.go_graph_core.specs.Sources.{SourceModel}
use Rattle.go_graph_core.specs.Workspaces.{PackageModel, by_bytes, files_at, is_path_inside}
use Rattle.go_graph_core.proofs.Keeping.{ordered_filter}
use Rattle.go_graph_core.proofs.Places.{IsOrdered, equal_texts, same_text, turned}
use Rattle.go_import_core.specs.head.Outside.{AreSameOutside, is_inside_any}
use Rattle.go_import_core.specs.head.mirrors.Marking.{AreSameBut}
use Rattle.go_import_core.proofs.HeadReplacing.{is_same, one_package, untrue}
use Rattle.go_import_core.proofs.HeadSpanning.{outside_before, outside_behind}

-- lists in order of path that have the same files at each path

never : (v : List SourceModel) → Some v ≡ None → ⊥
never v e = cc

at_head : (x : PackageModel) (xs : List PackageModel) → files_at (x ∷ xs) x.0 ≡ Some x.1
at_head x xs = lookup_head (is_at (by_bytes x.0)) x xs (ap is_eq (same_text x.0))

past_head : (q : List ℕ) (x : PackageModel) (xs : List PackageModel) → IsOrdered (x ∷ xs) → is_at (by_bytes q) x.0 ≡ true → files_at xs q ≡ None
past_head q x xs ordered at = lookup-none (is_at (by_bytes q)) xs (none_past_head (eq_by_cmp_equiv nat_list_cmp_total) q x xs (IsDistinct-from_sorted by_bytes (keys_of (x ∷ xs)) ordered) at)

below_head : (q : List ℕ) (x : PackageModel) (xs : List PackageModel) → IsOrdered (x ∷ xs) → by_bytes q x.0 ≡ Less → files_at (x ∷ xs) q ≡ None
below_head q x xs ordered below = lookup-none (is_at (by_bytes q)) (x ∷ xs) (none_below_head nat_list_cmp_total q x xs ordered below)

module _ (x y : PackageModel) (xs ys : List PackageModel) (one : IsOrdered (x ∷ xs)) (other : IsOrdered (y ∷ ys)) (same : (a : List ℕ) → files_at (x ∷ xs) a ≡ files_at (y ∷ ys) a) where
  same_path : x.0 ≡ y.0
  same_path = by (by_bytes x.0 y.0) refl
    where
      by : (o : Ordering) → by_bytes x.0 y.0 ≡ o → x.0 ≡ y.0
      by Less e = absurd (never x.1 (sym (at_head x xs) ∙ same x.0 ∙ below_head x.0 y ys other e))
      by Equal e = equal_texts x.0 y.0 e
      by Greater e = absurd (never y.1 (sym (at_head y ys) ∙ sym (same y.0) ∙ below_head y.0 x xs one (turned x.0 y.0 Greater e)))

  same_files : x.1 ≡ y.1
  same_files =
      let both : Some x.1 ≡ Some y.1 = sym (at_head x xs) ∙ same x.0 ∙ ap (files_at (y ∷ ys)) same_path ∙ at_head y ys in
      cc

  same_behind : (a : List ℕ) → files_at xs a ≡ files_at ys a
  same_behind a =
      let both : is_at (by_bytes a) y.0 ≡ is_at (by_bytes a) x.0 = ap (is_at (by_bytes a)) (sym same_path) in
      ⊎_elim
      (λ (at : is_at (by_bytes a) x.0 ≡ true). past_head a x xs one at ∙ sym (past_head a y ys other (both ∙ at)))
      (λ (apart : is_at (by_bytes a) x.0 ≡ false). sym (lookup_tail (is_at (by_bytes a)) x xs apart) ∙ same a ∙ lookup_tail (is_at (by_bytes a)) y ys (both ∙ apart))
      (cases_Bool (is_at (by_bytes a) x.0))

same_packages : (ps qs : List PackageModel) → IsOrdered ps → IsOrdered qs → ((a : List ℕ) → files_at ps a ≡ files_at qs a) → ps ≡ qs
same_packages [] [] one other same = refl
same_packages [] (y ∷ ys) one other same = absurd (never y.1 (sym (at_head y ys) ∙ sym (same y.0)))
same_packages (x ∷ xs) [] one other same = absurd (never x.1 (sym (at_head x xs) ∙ same x.0))
same_packages (x ∷ xs) (y ∷ ys) one other same =
    let first = one_package x y (same_path x y xs ys one other same) (same_files x y xs ys one other same) in
    let rest = same_packages xs ys (sorted_tail by_bytes x.0 (keys_of xs) one) (sorted_tail by_bytes y.0 (keys_of ys) other) (same_behind x y xs ys one other same) in
    λ i. first i ∷ rest i

-- packages of paths that pass a test

abbrev passing : (List ℕ → Bool) → List PackageModel → List PackageModel
passing t ps = filter (λ p. t p.0) ps

abbrev AllAnswer : Bool → (List ℕ → Bool) → List PackageModel → ℕ → ℕ → Type 0
AllAnswer b t ps low high = AllWithin (λ p. t p.0 ≡ b) ps low high

-- they are the same where each path that passes has the same files
same_passing : (t : List ℕ → Bool) (ps qs : List PackageModel) → IsOrdered ps → IsOrdered qs → ((a : List ℕ) → t a ≡ true → files_at ps a ≡ files_at qs a) → passing t ps ≡ passing t qs
same_passing t ps qs one other same = same_packages (passing t ps) (passing t qs) (ordered_filter (λ p. t p.0) ps one) (ordered_filter (λ p. t p.0) qs other) (λ a. found a ps ∙ by a (t a) refl ∙ sym (found a qs))
  where
    found : (a : List ℕ) (rs : List PackageModel) → files_at (passing t rs) a ≡ cond (t a) (files_at rs a) None
    found a rs = lookup-filter-keys (is_at (by_bytes a)) t (t a) (λ k h. ap t (sym (is_same a k h))) rs

    by : (a : List ℕ) (b : Bool) → t a ≡ b → cond b (files_at ps a) None ≡ cond b (files_at qs a) None
    by a true e = same a e
    by a false e = refl

-- the first that pass keep their numbers
front_at : (t : List ℕ → Bool) (ps : List PackageModel) (i n : ℕ) → AllAnswer true t ps 0 i → n < i → slice_get ps n ≡ slice_get (passing t ps) n
front_at t [] i n pass lt = refl
front_at t (p ∷ ps) zero n pass lt = absurd (omega (arith, lt))
front_at t (p ∷ ps) (suc i) zero pass lt = ap (λ b. slice_get (cond b (p ∷ passing t ps) (passing t ps)) 0) (sym (pass 0 p (omega arith) (omega arith)))
front_at t (p ∷ ps) (suc i) (suc n) pass lt =
    front_at t ps i n (λ k d low high. pass (suc k) d (omega arith) (omega (arith, high))) (omega (arith, lt))
    ∙ ap (λ b. slice_get (cond b (p ∷ passing t ps) (passing t ps)) (suc n)) (sym (pass 0 p (omega arith) (omega arith)))

all_pass : (t : List ℕ → Bool) (ps : List PackageModel) → AllAnswer true t ps 0 (length ps) → passing t ps ≡ ps
all_pass t [] pass = refl
all_pass t (p ∷ ps) pass =
    ap (λ b. cond b (p ∷ passing t ps) (passing t ps)) (pass 0 p (omega arith) (omega arith))
    ∙ ap (λ l. p ∷ l) (all_pass t ps (λ k d low high. pass (suc k) d (omega arith) (omega (arith, high))))

-- the last that pass move by how many do not
back_at : (t : List ℕ → Bool) (ps : List PackageModel) (j n : ℕ) → AllAnswer false t ps 0 j → AllAnswer true t ps j (length ps) → j ≤ n → slice_get ps n ≡ slice_get (passing t ps) (n - j)
back_at t ps zero n out pass le = ap (λ l. slice_get l n) (sym (all_pass t ps pass)) ∙ (let e : n ≡ n - 0 = omega arith in ap (slice_get (passing t ps)) e)
back_at t [] (suc j) n out pass le = refl
back_at t (p ∷ ps) (suc j) zero out pass le = absurd (omega (arith, le))
back_at t (p ∷ ps) (suc j) (suc n) out pass le =
    back_at t ps j n (λ k d low high. out (suc k) d (omega arith) (omega (arith, high))) (λ k d low high. pass (suc k) d (omega (arith, low)) (omega (arith, high))) (omega (arith, le))
    ∙ (let e : n - j ≡ suc n - suc j = omega arith in ap (slice_get (passing t ps)) e)
    ∙ ap (λ b. slice_get (cond b (p ∷ passing t ps) (passing t ps)) (suc n - suc j)) (sym (out 0 p (omega arith) (omega arith)))

-- the packages before a number come before a text, and the others do not
abbrev pub ArePartedAt : List ℕ → List PackageModel → ℕ → Type 0
ArePartedAt text ps i = AllWithin (λ p. is_lt (by_bytes p.0 text) ≡ true) ps 0 i × AllWithin (λ p. is_lt (by_bytes p.0 text) ≡ false) ps i (length ps)

outside_all : (own a : List ℕ) → is_path_inside own a ≡ false → is_inside_any (own ∷ []) a ≡ false
outside_all own a out = ap (λ b. b || false) out

pub same_but : (own : List ℕ) (ps qs : List PackageModel) (i j : ℕ) → IsOrdered ps → IsOrdered qs → AreSameOutside (own ∷ []) ps qs → ArePartedAt own ps i → ArePartedAt (own ++ 48 ∷ []) ps j → ArePartedAt own qs i → ArePartedAt (own ++ 48 ∷ []) qs j → AreSameBut ps qs i j
same_but own ps qs i j one other same begins ends starts stops = record {
  before = λ n lt.
      front_at is_before ps i n begins.0 lt
      ∙ ap (λ l. slice_get l n) (same_passing is_before ps qs one other (λ a e. sym (same.each a (outside_all own a (outside_before own a e)))))
      ∙ sym (front_at is_before qs i n starts.0 lt);
  behind = λ n le lt.
      back_at is_behind ps j n (λ k d low high. ap not (ends.0 k d low high)) (λ k d low high. ap not (ends.1 k d low high)) le
      ∙ ap (λ l. slice_get l (n - j)) (same_passing is_behind ps qs one other (λ a e. sym (same.each a (outside_all own a (outside_behind own a (untrue (is_lt (by_bytes a (own ++ 48 ∷ []))) e))))))
      ∙ sym (back_at is_behind qs j n (λ k d low high. ap not (stops.0 k d low high)) (λ k d low high. ap not (stops.1 k d low high)) le);
}
  where
    is_before : List ℕ → Bool
    is_before a = is_lt (by_bytes a own)

    is_behind : List ℕ → Bool
    is_behind a = not (is_lt (by_bytes a (own ++ 48 ∷ [])))
