-- A walk along packages for the one of a path.
use Rattle.std.proofs.Common.{◌≡◌, ℕ, zero, suc, ◌+◌, ◌<◌, ◌≤◌, Bool, true, false, cond, inl, inr, List, [], ◌∷◌, ◌++◌, length, take, get_or, Some, None, refl, sym, ap, ◌∙◌, arith}
use Rattle.std.specs.BTreeMap.{is_at}
use Rattle.std.specs.Map.{lookup}
use Rattle.std.specs.Ordering.{is_eq}
use Rattle.go_path_core.specs.text_core.Each.{true_or_false}
use Rattle.std.proofs.lemmas.List.{take_all, take_more}
use Rattle.std.proofs.lemmas.Map.Text.{is_eq-slice_cmp}
use Rattle.std.proofs.lemmas.Slice.Eq.{bytes_eq-Decides}
use Rattle.go_graph_core.specs.Workspaces.{PackageModel, by_bytes, files_at}
use Rattle.go_graph_core.proofs.Places.{same_text}

-- the test of a path, as a search by order makes it
pub at_path : (path q : List ℕ) (b : Bool) → (b ≡ true → q ≡ path) → (q ≡ path → b ≡ true) → b ≡ is_at (by_bytes path) q
at_path path q true there here = sym (ap (λ k. is_at (by_bytes path) k) (there refl) ∙ ap is_eq (same_text path))
at_path path q false there here = elim (true_or_false (is_at (by_bytes path) q)) [
  | inl y ↦ (let same : path ≡ q = (bytes_eq-Decides path q).0 (sym (is_eq-slice_cmp path q) ∙ y) in let clash : false ≡ true = here (sym same) in cc)
  | inr n ↦ sym n
]

found_at : (t : List ℕ → Bool) (ps : List PackageModel) (i : ℕ) (x : PackageModel) → i < length ps → x ≡ get_or ps i x → t x.0 ≡ true → lookup t (take i ps) ≡ None → lookup t ps ≡ Some x.1
found_at t [] i x within at is none = absurd (omega (arith, within))
found_at t (p ∷ ps) zero x within at is none = ap (λ b. cond b (Some p.1) (lookup t ps)) (ap (λ (y : PackageModel). t y.0) (sym at) ∙ is) ∙ ap (λ (y : PackageModel). Some y.1) (sym at)
found_at t (p ∷ ps) (suc i) x within at is none = step (t p.0) (found_at t ps i x (omega (arith, within)) at is) none
  where
    step : (b : Bool) → (lookup t (take i ps) ≡ None → lookup t ps ≡ Some x.1) → cond b (Some p.1) (lookup t (take i ps)) ≡ None → cond b (Some p.1) (lookup t ps) ≡ Some x.1
    step true rest h = absurd (cc)
    step false rest h = rest h

none_last : (t : List ℕ → Bool) (ps : List PackageModel) (p : PackageModel) → lookup t ps ≡ None → t p.0 ≡ false → lookup t (ps ++ p ∷ []) ≡ None
none_last t [] p none is = ap (λ b. cond b (Some p.1) None) is
none_last t (x ∷ ps) p none is = step (t x.0) (λ h. none_last t ps p h is) none
  where
    step : (b : Bool) → (lookup t ps ≡ None → lookup t (ps ++ p ∷ []) ≡ None) → cond b (Some x.1) (lookup t ps) ≡ None → cond b (Some x.1) (lookup t (ps ++ p ∷ [])) ≡ None
    step true rest h = absurd (cc)
    step false rest h = rest h

pub found_here : (path : List ℕ) (ps : List PackageModel) (i : ℕ) (x : PackageModel) → i < length ps → x ≡ get_or ps i x → is_at (by_bytes path) x.0 ≡ true → files_at (take i ps) path ≡ None → files_at ps path ≡ Some x.1
found_here path ps i x within at is none = found_at (is_at (by_bytes path)) ps i x within at is none

pub found_past : (path : List ℕ) (ps : List PackageModel) (i : ℕ) (x : PackageModel) → i < length ps → x ≡ get_or ps i x → is_at (by_bytes path) x.0 ≡ false → files_at (take i ps) path ≡ None → files_at (take (i + 1) ps) path ≡ None
found_past path ps i x within at is none =
    ap (λ (l : List PackageModel). files_at l path) (take_more ps i x within)
    ∙ none_last (is_at (by_bytes path)) (take i ps) (get_or ps i x) none (ap (λ (y : PackageModel). is_at (by_bytes path) y.0) (sym at) ∙ is)

pub found_nowhere : (path : List ℕ) (ps : List PackageModel) (i : ℕ) → length ps ≤ i → files_at (take i ps) path ≡ None → files_at ps path ≡ None
found_nowhere path ps i far none = ap (λ (l : List PackageModel). files_at l path) (sym (take_all i ps far)) ∙ none
