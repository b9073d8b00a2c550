-- The order of a plan: the assembled packages, each once, behind those that its imports come to.
use Rattle.std.proofs.Common.{◌≡◌, ◌≢◌, ℕ, ◌<◌, ◌+◌, ◌↔◌, inl, inr, Bool, true, false, cond, eqb, nat_eq, List, [], ◌∷◌, ◌++◌, length, get_or, take, slice_index, Option, Some, None, slice_get, refl, sym, ◌∙◌, ap, subst, arith}
use Rattle.std.specs.List.{Contains, filter, AllPairs, IsDistinct, range_with_len}
use Rattle.std.specs.List.Sorted.{IsPermutation}
use Rattle.std.proofs.lemmas.Bool.{cases_lt, ne_eqb}
use Rattle.std.proofs.lemmas.Bool.Decides.{Decides-eqb}
use Rattle.std.proofs.lemmas.Cmp.{nat_eq_equiv}
use Rattle.std.proofs.lemmas.List.{get_or_default, take_more, append-nil}
use Rattle.std.proofs.lemmas.List.Elements.{All-contains, filter-append, filter_passes, Contains-append_right, Contains-append_cases, Contains-push_cases}
use Rattle.std.proofs.lemmas.List.FromFn.{length-range_with_len, get_or-range_with_len}
use Rattle.std.proofs.lemmas.List.Kept.{AllPairs-filter}
use Rattle.std.proofs.lemmas.List.Sorted.{Contains-permutation}
use Rattle.std.proofs.lemmas.Map.Keys.{IsDistinct-from_apart, IsDistinct-IsPermutation}
use Rattle.std.proofs.lemmas.Map.Made.{AllPairs-from_IsDistinct, IsDistinct-from_AllPairs}
use Rattle.std.proofs.lemmas.Option.{slice_get_within}
use Rattle.go_collections_core.specs.text_core.Each.{true_or_false}
use Rattle.go_digraph_core.specs.declared.cycle.edge.Edge.{Edge}
use Rattle.go_digraph_core.specs.cycle.Cycle.{IsOnCycle, IsAfter}
use Rattle.go_graph_core.specs.declared.imports.Standing.{Standing}
use Rattle.go_graph_core.specs.declared.imports.Standing.TheVariants.{Library, Main, Faulty}
use Rattle.go_graph_core.specs.Sources.{SourceModel}
use Rattle.go_graph_core.specs.Packages.{IsAssembled}
use Rattle.go_graph_core.specs.Workspaces.{PackageModel}
use Rattle.go_graph_core.specs.mirrors.Targets.{IsStanding, HaveStandings, is_sound, is_assembled}
use Rattle.go_graph_core.specs.Plans.{IsAssembledAt}
use Rattle.go_graph_core.proofs.OneTarget.{not_faulty}
use Rattle.go_graph_core.proofs.Zips.{zip_at, zip_back}

-- what passes a test stays in a filter
kept : (p : ℕ → Bool) (xs : List ℕ) (i : ℕ) → Contains xs i → p i ≡ true → Contains (filter p xs) i
kept p [] i h t = absurd (omega (arith, h.1))
kept p (x ∷ xs) i h t = elim (Contains-append_cases (x ∷ []) xs i h) [
  | inl here ↦ elim (Contains-push_cases [] x i here) [
    | inl none ↦ absurd (omega (arith, none.1))
    | inr same ↦
        let pass : p x ≡ true = ap p same ∙ t in
        let e : filter p (x ∷ xs) ≡ x ∷ filter p xs = ap (λ b. cond b (x ∷ filter p xs) (filter p xs)) pass in
        let lt : 0 < length (x ∷ filter p xs) = omega arith in
        subst (λ (l : List ℕ). Contains l i) (sym e) (0, lt, same)
  ]
  | inr there ↦
      let rest : Contains (filter p xs) i = kept p xs i there t in
      elim (true_or_false (p x)) [
        | inl pass ↦ subst (λ (l : List ℕ). Contains l i) (sym (ap (λ b. cond b (x ∷ filter p xs) (filter p xs)) pass)) (Contains-append_right (x ∷ []) (filter p xs) i rest)
        | inr fail ↦ subst (λ (l : List ℕ). Contains l i) (sym (ap (λ b. cond b (x ∷ filter p xs) (filter p xs)) fail)) rest
      ]
]

in_range_list : (n i : ℕ) → i < n → Contains (range_with_len 0 n) i
in_range_list n i lt =
    let below : i < length (range_with_len 0 n) = omega (arith, length-range_with_len 0 n) in
    let e : get_or (range_with_len 0 n) i i ≡ i = omega (arith, get_or-range_with_len 0 n i i lt) in
    (i, below, e)

distinct_range : (n : ℕ) → IsDistinct eqb (range_with_len 0 n)
distinct_range n = IsDistinct-from_apart eqb (range_with_len 0 n) (λ i j d lt below.
    let in_j : j < n = omega (arith, length-range_with_len 0 n) in
    let in_i : i < n = omega arith in
    let a = get_or-range_with_len 0 n i d in_i in
    let b = get_or-range_with_len 0 n j d in_j in
    ne_eqb (get_or (range_with_len 0 n) i d) (get_or (range_with_len 0 n) j d) (λ e. omega (arith, a, b, e)))

pub order_once : (n : ℕ) (numbers : List ℕ) (p : ℕ → Bool) → IsPermutation (range_with_len 0 n) numbers → IsDistinct nat_eq (filter p numbers)
order_once n numbers p same =
    let all = IsDistinct-IsPermutation eqb nat_eq_equiv.symm (range_with_len 0 n) numbers same (distinct_range n) in
    IsDistinct-from_AllPairs Decides-eqb (filter p numbers) (AllPairs-filter (λ x y. x ≢ y) p numbers (AllPairs-from_IsDistinct Decides-eqb numbers all))

-- a package is assembled exactly where its standing says so
sound_at : (ps : List PackageModel) (standings : List Standing) (i : ℕ) (o : Option Standing) → HaveStandings ps standings → slice_get standings i ≡ o → is_sound o ≡ true → IsAssembledAt ps i
sound_at ps standings i None have e t = (let no : false ≡ true = t in cc)
sound_at ps standings i (Some Library) have e t = (let f = zip_back IsStanding ps standings i Library have e in (f.0.0, f.0.1, f.1, f.2.0))
sound_at ps standings i (Some Main) have e t = (let f = zip_back IsStanding ps standings i Main have e in (f.0.0, f.0.1, f.1, f.2.0))
sound_at ps standings i (Some Faulty) have e t = (let no : false ≡ true = t in cc)

is_sound_of : (files : List SourceModel) (path : List ℕ) (s : Standing) → IsAssembled files → IsStanding (path, files) s → is_sound (Some s) ≡ true
is_sound_of files path Library well h = refl
is_sound_of files path Main well h = refl
is_sound_of files path Faulty well h = absurd (not_faulty files well h)

pub order_each : (ps : List PackageModel) (standings : List Standing) (numbers : List ℕ) (i : ℕ) → HaveStandings ps standings → IsPermutation (range_with_len 0 (length ps)) numbers → Contains (filter (is_assembled standings) numbers) i ↔ IsAssembledAt ps i
order_each ps standings numbers i have same = (
  (λ h. sound_at ps standings i (slice_get standings i) have refl (All-contains (λ x. is_assembled standings x ≡ true) (filter (is_assembled standings) numbers) i (filter_passes (is_assembled standings) numbers) h)),
  (λ h.
      let lt : i < length ps = slice_get_within ps i (h.0, h.1) h.2 in
      let s = zip_at IsStanding ps standings i (h.0, h.1) have h.2 in
      let t : is_assembled standings i ≡ true = ap is_sound s.1 ∙ is_sound_of h.1 h.0 s.0 h.3 s.2 in
      kept (is_assembled standings) numbers i (Contains-permutation (range_with_len 0 (length ps)) numbers i same (in_range_list (length ps) i lt)) t),
)

-- a node that stands before another has no edge to it
abbrev Stands : Edge → ℕ → ℕ → Type 0
Stands e x y = x ≡ e.from → y ≡ e.to → ⊥

pub order_after : (edges : List Edge) (numbers : List ℕ) (p : ℕ → Bool) (e : Edge) → IsAfter edges numbers → Contains edges e → (IsOnCycle edges e → ⊥) → (j k : ℕ) → j < length (filter p numbers) → k < length (filter p numbers) → slice_index (filter p numbers) j ≡ e.from → slice_index (filter p numbers) k ≡ e.to → k < j
order_after edges numbers p e after there off j k lj lk at_from at_to =
    let pairs : AllPairs (Stands e) numbers = (λ i m d lt below a b.
    let li : i < length numbers = omega arith in
    let x : slice_index numbers i ≡ e.from = get_or_default numbers i 0 d li ∙ a in
    let y : slice_index numbers m ≡ e.to = get_or_default numbers m 0 d below ∙ b in
    let back : m < i = after e there off i m li below x y in
    absurd (omega (arith, back, lt))) in
    let kept_pairs = AllPairs-filter (Stands e) p numbers pairs in
    elim (cases_lt k j) [
      | inl lt ↦ lt
      | inr ge ↦ elim (cases_lt j k) [
        | inl lt ↦ absurd (kept_pairs j k 0 lt lk at_from at_to)
        | inr le ↦
            let same : j ≡ k = omega (arith, ge, le) in
            let loop : e.to ≡ e.from = sym at_to ∙ (ap (slice_index (filter p numbers)) (sym same) ∙ at_from) in
            absurd (off (inl loop))
      ]
    ]

-- what a filter keeps of one number more: that number where it passes, and nothing more where it does not
pub kept_more : {A : Type 0} (p : A → Bool) (xs : List A) (i : ℕ) (d : A) (old new : List A) → i < length xs → p (get_or xs i d) ≡ true → old ≡ filter p (take i xs) → new ≡ old ++ get_or xs i d ∷ [] → new ≡ filter p (take (i + 1) xs)
kept_more {A} p xs i d old new lt passes before e =
    e ∙ (ap (λ (l : List A). l ++ get_or xs i d ∷ []) before
    ∙ sym (ap (filter p) (take_more xs i d lt)
    ∙ (filter-append p (take i xs) (get_or xs i d ∷ []) ∙ ap (λ b. filter p (take i xs) ++ cond b (get_or xs i d ∷ []) []) passes)))

pub passed_more : {A : Type 0} (p : A → Bool) (xs : List A) (i : ℕ) (d : A) (old : List A) → i < length xs → p (get_or xs i d) ≡ false → old ≡ filter p (take i xs) → old ≡ filter p (take (i + 1) xs)
passed_more {A} p xs i d old lt fails before =
    before
    ∙ sym (ap (filter p) (take_more xs i d lt)
    ∙ (filter-append p (take i xs) (get_or xs i d ∷ []) ∙ (ap (λ b. filter p (take i xs) ++ cond b (get_or xs i d ∷ []) []) fails ∙ append-nil (filter p (take i xs)))))
