-- What is looked up at a place, and turns of the loops over locals and types.
use Rattle.std.proofs.Common.{◌≡◌, ℕ, ◌+◌, ◌<◌, ◌≤◌, Bool, true, false, List, [], ◌∷◌, ◌++◌, length, get_or, map, take, drop, nat_eq, Option, Some, None, is_some, refl, sym, ap, ◌∙◌, subst, eq-eqb, inl, inr}
use Rattle.std.specs.Prelude.{Contains, if◌then◌else◌}
use Rattle.std.specs.Str.{bytes_eq}
use Rattle.std.specs.Borrow.{Bor}
use Rattle.std.proofs.lemmas.List.{drop_all, drop_more, map-append, take_all, take_more}
use Rattle.std.proofs.lemmas.List.Elements.{Contains-push_cases}
use Rattle.go_tree_nodes.specs.Starts.{type_start}
use Rattle.go_tree_nodes.specs.declared.types.TypeExpr.{TypeExpr}
use Rattle.go_tree_nodes.specs.Trees.{TypeTree}
use Rattle.go_tree_nodes.specs.TypeShapes.{shape_type}
use Rattle.go_term_core.specs.Terms.{Term}
use Rattle.go_cursor_core.specs.scope_stack.Blocks.{or_else}
use Rattle.go_expr_core.specs.local_core.mirrors.Walk.{latest}
use Rattle.go_body_core.specs.env_core.declared.meaning.Meaning.{Meaning}
use Rattle.go_candidate_core.specs.declared.at_place.local.OpenLocal.{OpenLocal}
use Rattle.go_candidate_core.specs.at_place.Locals.{local_shown, meaning_shown}
use Rattle.go_candidate_core.specs.declared.at_place.types.NotedType.{NotedType}
use Rattle.go_candidate_core.specs.at_place.Types.{noted_at, noted_shown}

-- the latest local of a name

abbrev if_named : List ℕ → OpenLocal → Option Meaning
if_named name x = if bytes_eq name x.name then Some (meaning_shown x) else None

behind_it : (rest : Option Meaning) (b : Bool) (m : Meaning) (found : Option Meaning) → or_else (or_else rest (if b then Some m else None)) found ≡ or_else rest (if b then Some m else found)
behind_it None true m found = refl
behind_it None false m found = refl
behind_it (Some r) b m found = refl

pub latest_turn : (xs : List OpenLocal) (i : ℕ) (x : OpenLocal) (name : List ℕ) (found : Option Meaning) → i < length xs → x ≡ get_or xs i x
    → or_else (latest (map local_shown (drop (i + 1) xs)) name) (if bytes_eq name x.name then Some (meaning_shown x) else found) ≡ or_else (latest (map local_shown (drop i xs)) name) found
latest_turn xs i x name found h is =
    sym (behind_it (latest (map local_shown (drop (i + 1) xs)) name) (bytes_eq name x.name) (meaning_shown x) found)
    ∙ ap (λ (l : List OpenLocal). or_else (latest (map local_shown l) name) found) (sym (drop_more xs i x h ∙ ap (λ (y : OpenLocal). y ∷ drop (i + 1) xs) (sym is)))

-- types that are noted

in_both : (ts us : List (ℕ × Term)) (start : ℕ) → noted_at (ts ++ us) start ≡ or_else (noted_at ts start) (noted_at us start)
in_both [] us start = refl
in_both (t ∷ ts) us start = by (nat_eq t.0 start) (in_both ts us start)
  where
    by : (b : Bool) → noted_at (ts ++ us) start ≡ or_else (noted_at ts start) (noted_at us start)
        → (if b then Some t.1 else noted_at (ts ++ us) start) ≡ or_else (if b then Some t.1 else noted_at ts start) (noted_at us start)
    by true h = refl
    by false h = h

module _ (term : TypeTree → Term) where
  abbrev pub Noted : List TypeTree → List (ℕ × Term) → Type 0
  Noted trees ts = (t : TypeTree) → Contains trees t → noted_at ts (type_start t) ≡ Some (term t)

  pub noted_more : (trees : List TypeTree) (ts : List (ℕ × Term)) (u : TypeTree) → Noted trees ts → noted_at ts (type_start u) ≡ None → Noted (trees ++ u ∷ []) (ts ++ (type_start u, term u) ∷ [])
  noted_more trees ts u h none = λ t c. in_both ts ((type_start u, term u) ∷ []) (type_start t) ∙ (elim (Contains-push_cases trees u t c) [
    | inl before ↦ ap (λ (o : Option Term). or_else o (noted_at ((type_start u, term u) ∷ []) (type_start t))) (h t before)
    | inr last ↦ subst (λ (z : TypeTree). or_else (noted_at ts (type_start z)) (noted_at ((type_start u, term u) ∷ []) (type_start z)) ≡ Some (term z)) last
        (ap (λ (o : Option Term). or_else o (noted_at ((type_start u, term u) ∷ []) (type_start u))) none ∙ itself (type_start u))
  ])
    where
      itself : (n : ℕ) → (if nat_eq n n then Some (term u) else None) ≡ Some (term u)
      itself n = ap (λ (b : Bool). if b then Some (term u) else None) (eq-eqb n n refl)

-- the loop over locals begins and ends

pub latest_begin : (xs : List OpenLocal) (name : List ℕ) → or_else (latest (map local_shown xs) name) None ≡ latest (map local_shown xs) name
latest_begin xs name = by (latest (map local_shown xs) name)
  where
    by : (o : Option Meaning) → or_else o None ≡ o
    by None = refl
    by (Some m) = refl

pub latest_end : (xs : List OpenLocal) (i : ℕ) (name : List ℕ) (found : Option Meaning) → length xs ≤ i → or_else (latest (map local_shown (drop i xs)) name) found ≡ found
latest_end xs i name found past = ap (λ (l : List OpenLocal). or_else (latest (map local_shown l) name) found) (drop_all i xs past)

-- a turn of the loop over types

pub note_turn : (term : TypeTree → Term) (trees : List (Bor TypeExpr)) (i : ℕ) (d : Bor TypeExpr) (old new : List NotedType) (x : NotedType) → i < length trees → d ≡ get_or trees i d
    → noted_shown x ≡ (type_start (shape_type d.now), term (shape_type d.now)) → is_some (noted_at (map noted_shown old) x.start) ≡ false → new ≡ old ++ x ∷ []
    → Noted term (map (λ t. shape_type t.now) (take i trees)) (map noted_shown old) → Noted term (map (λ t. shape_type t.now) (take (i + 1) trees)) (map noted_shown new)
note_turn term trees i d old new x h at of none now before =
    let is : noted_shown x ≡ (type_start (shape_type (get_or trees i d).now), term (shape_type (get_or trees i d).now)) = of ∙ ap (λ (t : Bor TypeExpr). (type_start (shape_type t.now), term (shape_type t.now))) at in
    let u = shape_type (get_or trees i d).now in
    let start : x.start ≡ type_start u = ap (λ (p : ℕ × Term). p.0) is in
    let absent : noted_at (map noted_shown old) (type_start u) ≡ None = ap (noted_at (map noted_shown old)) (sym start) ∙ none_is (noted_at (map noted_shown old) x.start) none in
    let more = noted_more term (map (λ (t : Bor TypeExpr). shape_type t.now) (take i trees)) (map noted_shown old) u before absent in
    let trees_are : map (λ (t : Bor TypeExpr). shape_type t.now) (take (i + 1) trees) ≡ map (λ (t : Bor TypeExpr). shape_type t.now) (take i trees) ++ u ∷ [] =
    ap (map (λ (t : Bor TypeExpr). shape_type t.now)) (take_more trees i d h) ∙ map-append (λ (t : Bor TypeExpr). shape_type t.now) (take i trees) (get_or trees i d ∷ []) in
    let types_are : map noted_shown new ≡ map noted_shown old ++ (type_start u, term u) ∷ [] = ap (map noted_shown) now ∙ (map-append noted_shown old (x ∷ []) ∙ ap (λ (p : ℕ × Term). map noted_shown old ++ p ∷ []) is) in
    subst (λ (l : List TypeTree). Noted term l (map noted_shown new)) (sym trees_are) (subst (λ (l : List (ℕ × Term)). Noted term (map (λ (t : Bor TypeExpr). shape_type t.now) (take i trees) ++ u ∷ []) l) (sym types_are) more)
  where
    none_is : (o : Option Term) → is_some o ≡ false → o ≡ None
    none_is None h = refl
    none_is (Some t) h = absurd (let lie : true ≡ false = h in cc)

pub note_end : (term : TypeTree → Term) (trees : List (Bor TypeExpr)) (i : ℕ) (ts : List (ℕ × Term)) → length trees ≤ i → Noted term (map (λ t. shape_type t.now) (take i trees)) ts → Noted term (map (λ t. shape_type t.now) trees) ts
note_end term trees i ts past h = subst (λ (l : List (Bor TypeExpr)). Noted term (map (λ t. shape_type t.now) l) ts) (take_all i trees past) h
