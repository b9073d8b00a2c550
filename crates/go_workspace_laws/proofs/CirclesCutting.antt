-- The faces of the packages of some paths among those of more.
use Rattle.std.proofs.Common.{◌≡◌, ℕ, inl, inr, Bool, true, false, List, [], ◌∷◌, Some, None, refl, sym, ap, ◌∙◌, if◌then◌else◌}
use Rattle.std.specs.Str.{bytes_eq}
use Rattle.std.proofs.lemmas.Slice.Eq.{bytes_eq-Decides}
use Rattle.go_body_core.specs.typexpr_core.EntryAmong.{Among}
use Rattle.go_emit_core.specs.declared_core.Packages.{PackageFacesModel, package_in}

-- whether a path is one of these
abbrev pub is_one_of : List (List ℕ) → List ℕ → Bool
is_one_of [] path = false
is_one_of (x ∷ xs) path = if bytes_eq path x then true else is_one_of xs path

pub one_among : (xs : List (List ℕ)) (path : List ℕ) → is_one_of xs path ≡ true → Among xs path
one_among [] path h = absurd (let no : false ≡ true = h in cc)
one_among (x ∷ xs) path h = by (bytes_eq path x) refl (one_among xs path) h
  where
    by : (b : Bool) → bytes_eq path x ≡ b → (is_one_of xs path ≡ true → Among xs path) → (if b then true else is_one_of xs path) ≡ true → Among (x ∷ xs) path
    by true e rest h = inl (sym ((bytes_eq-Decides path x).0 e))
    by false e rest h = inr (rest h)

pub among_one : (xs : List (List ℕ)) (path : List ℕ) → Among xs path → is_one_of xs path ≡ true
among_one [] path h = absurd h
among_one (x ∷ xs) path h = by (bytes_eq path x) refl h (among_one xs path)
  where
    by : (b : Bool) → bytes_eq path x ≡ b → Among (x ∷ xs) path → (Among xs path → is_one_of xs path ≡ true) → (if b then true else is_one_of xs path) ≡ true
    by true e at rest = refl
    by false e (inl same) rest = absurd (let no : false ≡ true = sym e ∙ (bytes_eq-Decides path x).1 (sym same) in cc)
    by false e (inr more) rest = rest more

-- those of these paths
abbrev pub cut : List (List ℕ) → List PackageFacesModel → List PackageFacesModel
cut paths [] = []
cut paths (f ∷ fs) = if is_one_of paths f.path then f ∷ cut paths fs else cut paths fs

module _ (paths : List (List ℕ)) where
  -- a package of these paths is found as before
  pub cut_in : (fs : List PackageFacesModel) (path : List ℕ) → is_one_of paths path ≡ true → package_in (cut paths fs) path ≡ package_in fs path
  cut_in [] path h = refl
  cut_in (f ∷ fs) path h = by (is_one_of paths f.path) refl (bytes_eq path f.path) refl (cut_in fs path h)
    where
      by : (b : Bool) → is_one_of paths f.path ≡ b → (c : Bool) → bytes_eq path f.path ≡ c → package_in (cut paths fs) path ≡ package_in fs path
          → package_in (if b then f ∷ cut paths fs else cut paths fs) path ≡ (if c then Some f else package_in fs path)
      by true kept true same rest = ap (λ c. if c then Some f else package_in (cut paths fs) path) same
      by true kept false other rest = ap (λ c. if c then Some f else package_in (cut paths fs) path) other ∙ rest
      by false gone true same rest =
          absurd (let one : path ≡ f.path = (bytes_eq-Decides path f.path).0 same in let no : false ≡ true = sym gone ∙ (ap (is_one_of paths) (sym one) ∙ h) in cc)
      by false gone false other rest = rest

  -- a package of another path is not found
  pub cut_out : (fs : List PackageFacesModel) (path : List ℕ) → is_one_of paths path ≡ false → package_in (cut paths fs) path ≡ None
  cut_out [] path h = refl
  cut_out (f ∷ fs) path h = by (is_one_of paths f.path) refl (bytes_eq path f.path) refl (cut_out fs path h)
    where
      by : (b : Bool) → is_one_of paths f.path ≡ b → (c : Bool) → bytes_eq path f.path ≡ c → package_in (cut paths fs) path ≡ None → package_in (if b then f ∷ cut paths fs else cut paths fs) path ≡ None
      by true kept true same rest =
          absurd (let one : path ≡ f.path = (bytes_eq-Decides path f.path).0 same in let no : true ≡ false = sym kept ∙ (ap (is_one_of paths) (sym one) ∙ h) in cc)
      by true kept false other rest = ap (λ c. if c then Some f else package_in (cut paths fs) path) other ∙ rest
      by false gone c is rest = rest
