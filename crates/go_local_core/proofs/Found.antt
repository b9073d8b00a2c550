-- The innermost of nested declarations of a name is the latest of them.
use Rattle.std.proofs.Common.{◌≡◌, ℕ, ◌<◌, ◌≤◌, Bool, true, false, cond, ◌&&◌, List, [], ◌∷◌, ◌++◌, map, filter, Option, Some, None, refl, sym, ap, ◌∙◌, arith}
use Rattle.std.specs.Prelude.{nat_le, find}
use Rattle.std.specs.List.{list_all}
use Rattle.std.specs.Option.{option_map}
use Rattle.std.specs.Str.{bytes_eq}
use Rattle.std.proofs.lemmas.Bool.{le-leb, lt-leb}
use Rattle.std.proofs.lemmas.Slice.Eq.{bytes_eq-Decides}
use Rattle.go_scope_stack.specs.Blocks.{or_else}
use Rattle.go_local_core.specs.Binding.{Local, is_inside, innermost_of}
use Rattle.go_local_core.specs.mirrors.Walk.{Names, latest}
use Rattle.go_tree_nodes.specs.text_core.Each.{Each, each-weaker, each-append, find-same}

-- declarations as names with what they mean
abbrev pub pairs : {X : Type 0} → List (Local X) → Names X
pairs ds = map (λ d. (d.name, d.means)) ds

-- the block of the later one lies inside that of the earlier, and is another where the names are the same
abbrev pub IsOver : {X : Type 0} → Local X → Local X → Type 0
IsOver e d = (e.opens ≤ d.opens) × (d.closes ≤ e.closes) × (bytes_eq d.name e.name ≡ true → e.opens < d.opens)

abbrev pub Nested : {X : Type 0} → List (Local X) → Type 0
Nested [] = Unit {0}
Nested (e ∷ es) = Each (IsOver e) es × Nested es

pub nested_push : {X : Type 0} (es : List (Local X)) (d : Local X) → Each (λ e. IsOver e d) es → Nested es → Nested (es ++ d ∷ [])
nested_push [] d h k = (tt, tt)
nested_push (e ∷ es) d h k = (each-append (IsOver e) es (d ∷ []) k.0 (h.0, tt), nested_push es d h.1 k.1)

abbrev IsStrictly : {X : Type 0} → Local X → Local X → Type 0
IsStrictly e d = (e.opens < d.opens) × (d.closes ≤ e.closes)

abbrev named : {X : Type 0} → List ℕ → List (Local X) → List (Local X)
named n ds = filter (λ d. bytes_eq n d.name) ds

abbrev last_of : {X : Type 0} → List (Local X) → Option X
last_of [] = None
last_of (d ∷ ds) = or_else (last_of ds) (Some d.means)

-- each strictly inside those before it
abbrev Strict : {X : Type 0} → List (Local X) → Type 0
Strict [] = Unit {0}
Strict (e ∷ es) = Each (IsStrictly e) es × Strict es

self_inside : {X : Type 0} (d : Local X) → is_inside d d ≡ true
self_inside d = ap (λ b. b && nat_le d.closes d.closes) (le-leb d.opens d.opens (omega arith)) ∙ le-leb d.closes d.closes (omega arith)

is_in : {X : Type 0} (d e : Local X) → IsStrictly d e → is_inside e d ≡ true
is_in d e k = ap (λ b. b && nat_le e.closes d.closes) (le-leb d.opens e.opens (omega (arith, k.0))) ∙ le-leb e.closes d.closes k.1

or_else_again : {X : Type 0} (o p : Option X) (x : X) → or_else o (Some x) ≡ or_else (or_else o (Some x)) p
or_else_again (Some y) p x = refl
or_else_again None p x = refl

abbrev means_of : {X : Type 0} → Option (Local X) → Option X
means_of o = option_map (λ d. d.means) o

innermost_last : {X : Type 0} (ds : List (Local X)) → Strict ds → innermost_of ds ≡ last_of ds
innermost_last [] h = refl
innermost_last (d ∷ []) h = ap (λ b. means_of (cond (b && true) (Some d) None)) (self_inside d)
innermost_last (d ∷ e ∷ es) h =
    ap (λ b. means_of (cond b (Some d) (find (λ x. list_all (λ y. is_inside x y) (d ∷ e ∷ es)) (e ∷ es)))) first
    ∙ (ap means_of (find-same (λ x. list_all (λ y. is_inside x y) (d ∷ e ∷ es)) (λ x. list_all (λ y. is_inside x y) (e ∷ es)) (e ∷ es)
    (each-weaker (IsStrictly d) _ (λ x k. ap (λ b. b && list_all (λ y. is_inside x y) (e ∷ es)) (is_in d x k)) (e ∷ es) h.0))
    ∙ (innermost_last (e ∷ es) h.1 ∙ or_else_again (last_of es) (Some d.means) e.means))
  where
    first : list_all (λ y. is_inside d y) (d ∷ e ∷ es) ≡ false
    first =
        ap (λ b. b && (is_inside d e && list_all (λ y. is_inside d y) es)) (self_inside d)
        ∙ ap (λ b. b && list_all (λ y. is_inside d y) es) (ap (λ b. b && nat_le d.closes e.closes) (lt-leb e.opens d.opens h.0.0.0))

strict_named : {X : Type 0} (n : List ℕ) (e : Local X) (es : List (Local X)) → bytes_eq n e.name ≡ true → Each (IsOver e) es → Each (IsStrictly e) (named n es)
strict_named n e [] q h = tt
strict_named n e (x ∷ xs) q h = by (bytes_eq n x.name) refl (strict_named n e xs q h.1)
  where
    by : (b : Bool) → bytes_eq n x.name ≡ b → Each (IsStrictly e) (named n xs) → Each (IsStrictly e) (cond b (x ∷ named n xs) (named n xs))
    by true k rest = ((h.0.2 (ap (λ m. bytes_eq m e.name) (sym ((bytes_eq-Decides n x.name).0 k)) ∙ q), h.0.1), rest)
    by false k rest = rest

nested_strict : {X : Type 0} (n : List ℕ) (es : List (Local X)) → Nested es → Strict (named n es)
nested_strict n [] h = tt
nested_strict n (e ∷ es) h = by (bytes_eq n e.name) refl (nested_strict n es h.1)
  where
    by : (b : Bool) → bytes_eq n e.name ≡ b → Strict (named n es) → Strict (cond b (e ∷ named n es) (named n es))
    by true k rest = (strict_named n e es k h.0, rest)
    by false k rest = rest

or_else_none : {X : Type 0} (o : Option X) → or_else o None ≡ o
or_else_none (Some x) = refl
or_else_none None = refl

latest_last : {X : Type 0} (n : List ℕ) (es : List (Local X)) → last_of (named n es) ≡ latest (pairs es) n
latest_last n [] = refl
latest_last n (e ∷ es) = by (bytes_eq n e.name) ∙ ap (λ o. or_else o (cond (bytes_eq n e.name) (Some e.means) None)) (latest_last n es)
  where
    by : (b : Bool) → last_of (cond b (e ∷ named n es) (named n es)) ≡ or_else (last_of (named n es)) (cond b (Some e.means) None)
    by true = refl
    by false = sym (or_else_none (last_of (named n es)))

-- what the intervals take is the latest
pub found : {X : Type 0} (n : List ℕ) (es : List (Local X)) → Nested es → innermost_of (filter (λ d. bytes_eq n d.name) es) ≡ latest (pairs es) n
found n es h = innermost_last (named n es) (nested_strict n es h) ∙ latest_last n es
