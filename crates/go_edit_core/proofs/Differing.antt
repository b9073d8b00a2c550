-- Where two lists of packages differ, and that they are the same outside the module of the path there.
use Rattle.std.proofs.Common.{◌≡◌, ◌≢◌, ◌<◌, ◌≤◌, ◌+◌, ℕ, zero, suc, ◌⊎◌, inl, inr, Bool, true, false, ◌||◌, cond, List, [], ◌∷◌, ◌++◌, length, get_or, Some, None, refl, sym, ap, ◌∙◌, arith}
use Rattle.std.specs.Prelude.{◌↔◌, IsTrue, slice_get}
use Rattle.std.specs.BTreeMap.{is_at}
use Rattle.std.proofs.lemmas.Bool.{cases_eq}
use Rattle.std.proofs.lemmas.Option.{slice_get-get_or}
use Rattle.go_path_core.specs.Path.{elements}
use Rattle.go_path_core.proofs.Paths.{begins_is}
use Rattle.go_graph_core.specs.Workspaces.{PackageModel, by_bytes, files_at, is_path_inside}
use Rattle.go_import_core.specs.head.Outside.{AreSameOutside, is_inside_any}
use Rattle.go_import_core.proofs.HeadReplacing.{is_same}
use Rattle.go_edit_core.specs.Edits.{DifferAt}
use Rattle.go_edit_core.specs.mirrors.Comparing.{AreSameFrom}
use Rattle.go_edit_core.proofs.KeptParts.{same_places}

-- a path lies inside its own module

inside_itself : (own : List ℕ) → is_path_inside own own ≡ true
inside_itself own = (begins_is (elements own) (elements own)).1 ([], append_nil (elements own))
  where
    append_nil : (xs : List (List ℕ)) → xs ≡ xs ++ []
    append_nil [] = refl
    append_nil (x ∷ xs) = ap (λ l. x ∷ l) (append_nil xs)

outside_one : (own path : List ℕ) (b : Bool) → is_at (by_bytes path) own ≡ b → is_path_inside own path ≡ false → is_at (by_bytes path) own ≡ false
outside_one own path false e outside = e
outside_one own path true e outside = absurd (let no : true ≡ false = sym (inside_itself own) ∙ (ap (is_path_inside own) (sym (is_same path own e)) ∙ outside) in cc)

-- files of paths

module _ (path : List ℕ) where
  front : (p q : PackageModel) (ps qs : List PackageModel) → is_at (by_bytes path) p.0 ≡ false → is_at (by_bytes path) q.0 ≡ false → files_at qs path ≡ files_at ps path → files_at (q ∷ qs) path ≡ files_at (p ∷ ps) path
  front p q ps qs one other rest = ap (λ s. cond s (Some q.1) (files_at qs path)) other ∙ (rest ∙ sym (ap (λ s. cond s (Some p.1) (files_at ps path)) one))

  files_beside : (ps qs : List PackageModel) (n : ℕ) (a b : PackageModel) → slice_get ps n ≡ Some a → slice_get qs n ≡ Some b → is_at (by_bytes path) a.0 ≡ false → is_at (by_bytes path) b.0 ≡ false → length ps ≡ length qs
      → ((m : ℕ) → m ≢ n → slice_get ps m ≡ slice_get qs m) → files_at qs path ≡ files_at ps path
  files_beside [] qs n a b one other out also many same = absurd (let no : None ≡ Some a = one in cc)
  files_beside (p ∷ ps) [] n a b one other out also many same = absurd (let no : None ≡ Some b = other in cc)
  files_beside (p ∷ ps) (q ∷ qs) zero a b one other out also many same =
      let first : p ≡ a = (let both : Some p ≡ Some a = one in cc) in
      let second : q ≡ b = (let both : Some q ≡ Some b = other in cc) in
      let rest : ps ≡ qs = same_places ps qs (omega (arith, many)) (λ m lt. same (suc m) (omega arith)) in
      front p q ps qs (ap (λ (x : PackageModel). is_at (by_bytes path) x.0) first ∙ out) (ap (λ (x : PackageModel). is_at (by_bytes path) x.0) second ∙ also) (ap (λ l. files_at l path) (sym rest))
  files_beside (p ∷ ps) (q ∷ qs) (suc n) a b one other out also many same =
      let first : p ≡ q = (let both : Some p ≡ Some q = same zero (omega arith) in cc) in
      let rest = files_beside ps qs n a b one other out also (omega (arith, many)) (λ m ne. same (suc m) (omega (arith, ne))) in
      ap (λ (x : PackageModel). cond (is_at (by_bytes path) x.0) (Some x.1) (files_at qs path)) (sym first) ∙ ap (λ s. cond (is_at (by_bytes path) p.0) (Some p.1) s) rest

pub same_outside_one : (ps qs : List PackageModel) (n : ℕ) (own : List ℕ) (q : PackageModel) → DifferAt ps qs n → slice_get qs n ≡ Some q → q.0 ≡ own → AreSameOutside (own ∷ []) ps qs
same_outside_one ps qs n own q h at is = record { each = λ path outside. stays path (alone path outside) }
  where
    alone : (path : List ℕ) → is_inside_any (own ∷ []) path ≡ false → is_path_inside own path ≡ false
    alone path outside = by (is_path_inside own path) outside
      where
        by : (b : Bool) → (b || false) ≡ false → b ≡ false
        by true e = e
        by false e = refl

    here : h.other ≡ q
    here = (let both : Some h.other ≡ Some q = sym h.here ∙ at in cc)

    other_path : h.other.0 ≡ own
    other_path = ap (λ (x : PackageModel). x.0) here ∙ is

    stays : (path : List ℕ) → is_path_inside own path ≡ false → files_at qs path ≡ files_at ps path
    stays path outside =
        let out : is_at (by_bytes path) own ≡ false = outside_one own path (is_at (by_bytes path) own) refl outside in
        files_beside path ps qs n h.one h.other h.there h.here (ap (is_at (by_bytes path)) (h.path ∙ other_path) ∙ out) (ap (is_at (by_bytes path)) other_path ∙ out) h.many h.beside

-- packages that are compared

module _ (ps qs : List PackageModel) (k : ℕ) (p q : PackageModel) (b : Bool) (many : length ps ≡ length qs) (lt : k < length ps) (here : p ≡ get_or ps k p) (there : q ≡ get_or qs k q) (says : IsTrue b ↔ (p ≡ q)) where
  at_one : slice_get ps k ≡ Some p
  at_one = slice_get-get_or ps k p lt ∙ ap Some (sym here)

  at_other : slice_get qs k ≡ Some q
  at_other = slice_get-get_or qs k q (omega (arith, lt, many)) ∙ ap Some (sym there)

  pub same_more : (start : ℕ) → b ≡ true → AreSameFrom ps qs start k → AreSameFrom ps qs start (k + 1)
  same_more start alike h = record { begin = omega (arith, h.begin); within = omega (arith, lt); same = λ n le less. by n le less (cases_eq n k) }
    where
      by : (n : ℕ) → start ≤ n → n < k + 1 → (n ≡ k) ⊎ (n ≢ k) → slice_get ps n ≡ slice_get qs n
      by n le less (inl e) = ap (slice_get ps) e ∙ (at_one ∙ (ap Some (says.0 alike) ∙ (sym at_other ∙ ap (slice_get qs) (sym e))))
      by n le less (inr ne) = h.same n le (omega (arith, less, ne))

  pub differ_here : b ≡ false → slice_get ps k ≢ slice_get qs k
  differ_here apart e =
      let both : Some p ≡ Some q = sym at_one ∙ (e ∙ at_other) in
      let same : p ≡ q = cc in
      let none : true ≡ false = sym (says.1 same) ∙ apart in
      absurd cc
