-- The paths of the first packages of a plan.
use Rattle.std.proofs.Common.{◌≡◌, ℕ, zero, suc, ◌<◌, ◌≤◌, nat_eq, eq-eqb, inl, inr, List, [], ◌∷◌, length, map, take, Option, Some, None, refl, sym, ap, ◌∙◌, arith}
use Rattle.std.specs.Prelude.{Contains, slice_get, slice_index}
use Rattle.std.specs.List.{IsDistinct}
use Rattle.std.proofs.lemmas.Bool.{true≢false}
use Rattle.std.proofs.lemmas.Map.Keys.{apart_from_distinct}
use Rattle.go_graph_core.specs.Workspaces.{PackageModel}
use Rattle.go_body_core.specs.typexpr_core.EntryAmong.{Among, among_from, among_map, among_to, map_among}

abbrev path_in_some : Option PackageModel → List ℕ
path_in_some None = []
path_in_some (Some p) = p.0

-- the path of the package of a number
abbrev pub path_at : List PackageModel → ℕ → List ℕ
path_at ps n = path_in_some (slice_get ps n)

pub path_is : (ps : List PackageModel) (n : ℕ) (p : PackageModel) → slice_get ps n ≡ Some p → path_at ps n ≡ p.0
path_is ps n p h = ap path_in_some h

among_take : (xs : List ℕ) (c x : ℕ) → Among (take c xs) x → (j : ℕ) × (j < c) × (j < length xs) × (slice_index xs j ≡ x)
among_take [] zero x h = absurd h
among_take [] (suc c) x h = absurd h
among_take (y ∷ ys) zero x h = absurd h
among_take (y ∷ ys) (suc c) x h = elim h [
  | inl e ↦ (0, omega arith, omega arith, e)
  | inr r ↦ (let s = among_take ys c x r in let low = s.1 in let within = s.2 in (suc s.0, omega (arith, low), omega (arith, within), s.3))
]

take_among : (xs : List ℕ) (c j : ℕ) → j < c → j < length xs → Among (take c xs) (slice_index xs j)
take_among [] c j low within = absurd (omega (arith, within))
take_among (y ∷ ys) zero j low within = absurd (omega (arith, low))
take_among (y ∷ ys) (suc c) zero low within = inl refl
take_among (y ∷ ys) (suc c) (suc j) low within = inr (take_among ys c j (omega (arith, low)) (omega (arith, within)))

-- those of the packages of an order up to the one at a place
abbrev pub paths_to : List PackageModel → List ℕ → ℕ → List (List ℕ)
paths_to ps order k = map (path_at ps) (take (suc k) order)

pub path_among : (ps : List PackageModel) (order : List ℕ) (k : ℕ) (path : List ℕ) → Contains (paths_to ps order k) path → (j : ℕ) × (j ≤ k) × (j < length order) × (path_at ps (slice_index order j) ≡ path)
path_among ps order k path h =
    let m = among_map (path_at ps) (take (suc k) order) path (among_from (paths_to ps order k) path h) in
    let t = among_take order (suc k) m.0 m.1 in
    let low = t.1 in
    (t.0, omega (arith, low), t.2, ap (path_at ps) t.3 ∙ m.2)

pub among_paths : (ps : List PackageModel) (order : List ℕ) (k j : ℕ) → j ≤ k → j < length order → Contains (paths_to ps order k) (path_at ps (slice_index order j))
among_paths ps order k j low within =
    among_to (paths_to ps order k) (path_at ps (slice_index order j)) (map_among (path_at ps) (take (suc k) order) (path_at ps (slice_index order j)) (slice_index order j) (take_among order (suc k) j (omega (arith, low)) within) refl)

-- numbers at different places of an order differ
pub places_differ : (order : List ℕ) (j k : ℕ) → IsDistinct nat_eq order → j < k → k < length order → slice_index order j ≡ slice_index order k → ⊥
places_differ order j k once low within same =
    let apart = apart_from_distinct nat_eq order j k 0 once low within in
    absurd (true≢false (sym (eq-eqb (slice_index order j) (slice_index order k) same) ∙ apart))
