-- The walk over the declarations of a file, one declaration further.
use Rattle.std.proofs.Common.{◌≡◌, ℕ, zero, suc, ◌+◌, ◌<◌, List, [], ◌∷◌, ◌++◌, map, length, get_or, take, drop, Contains, refl, sym, ap, subst, ◌∙◌, append_assoc, arith}
use Rattle.std.specs.List.{flat_map, AllZip}
use Rattle.std.proofs.lemmas.List.{drop_more, get_or-map, length-map}
use Rattle.std.proofs.lemmas.List.Elements.{Contains-append_left, Contains-append_right}
use Rattle.go_tree_nodes.specs.declared.files.TopDecl.{TopDecl}
use Rattle.go_tree_nodes.specs.Trees.{FuncTree, DeclTree, Value, Types, Func, TopTree}
use Rattle.go_tree_nodes.specs.Shapes.{top_of, decl_of}
use Rattle.go_typexpr_core.proofs.EntryNumbered.{flat_item}
use Rattle.go_local_core.specs.Tables.{IsFuncPlaced}
use Rattle.go_inline_core.specs.Types.{InlineOf}
use Rattle.go_inline_core.specs.Trees.{decl_types}
use Rattle.go_body_core.specs.function.Stands.{FileStand}
use Rattle.go_body_core.specs.function.Laws.{AreFuncTypes}
use Rattle.go_body_core.specs.file.Stands.{decl_funcs, tops_funcs}
use Rattle.go_body_core.specs.file.mirrors.Steps.{AreSeen, HasNext, AreMade, behind}

-- what each item of a list gives, seen in another way

pub item_step : {A B C : Type 0} (see : A → B) (f : B → List C) (xs : List A) (i : ℕ) (x : A) (first old new : List C) → i < length xs → x ≡ get_or xs i x
    → new ≡ old ++ f (see x) → old ≡ first ++ flat_map f (map see (take i xs)) → new ≡ first ++ flat_map f (map see (take (i + 1) xs))
item_step see f xs i x first old new lt is added before =
    added
    ∙ (ap (λ l. l ++ f (see x)) before
    ∙ (append_assoc first (flat_map f (map see (take i xs))) (f (see x))
    ∙ ap (λ l. first ++ l) (sym (flat_item see f xs i x lt is))))

-- what an item gives is in what all items give
pub within : {A B : Type 0} (f : A → List B) (xs : List A) (i : ℕ) (x : A) (y : B) → i < length xs → x ≡ get_or xs i x → Contains (f x) y → Contains (flat_map f xs) y
within f [] i x y lt is there = absurd (omega arith)
within f (a ∷ xs) zero x y lt is there = Contains-append_left (f a) (flat_map f xs) y (subst (λ z. Contains (f z) y) is there)
within f (a ∷ xs) (suc i) x y lt is there = Contains-append_right (f a) (flat_map f xs) y (within f xs i x y (let below : i < length xs = omega arith in below) is there)

-- the partner of the first item, and those of the rest
zip_first : {A B : Type 0} (R : A → B → Type 0) (x : A) (xs : List A) (ys : List B) (n : ℕ) (d : B) → AllZip R (x ∷ xs) (drop n ys) → (n < length ys) × R x (get_or ys n d) × AllZip R xs (drop (n + 1) ys)
zip_first R x xs [] zero d h = absurd h
zip_first R x xs [] (suc n) d h = absurd h
zip_first R x xs (y ∷ ys) zero d h = (omega arith, h.0, h.1)
zip_first R x xs (y ∷ ys) (suc n) d h =
    let rest = zip_first R x xs ys n d h in
    ((let below : suc n < length (y ∷ ys) = omega (arith, rest.0) in below), rest.1, subst (λ m. AllZip R xs (drop m (y ∷ ys))) (let same : suc (n + 1) ≡ suc n + 1 = omega arith in same) rest.2)

module _ (st : FileStand) (initial : List (ℕ × InlineOf)) (functions : List (List (ℕ × InlineOf))) where
  -- the types of the next function, and those of the functions behind it
  decl_next : (d : DeclTree) (fs : List FuncTree) (n : ℕ) → ((f : FuncTree) → Contains (decl_funcs d) f → IsFuncPlaced f) → AllZip (AreFuncTypes st) (decl_funcs d ++ fs) (drop n functions)
      → HasNext st d functions n × AllZip (AreFuncTypes st) fs (drop (behind d n) functions)
  decl_next (Value v) fs n placed h = (tt, h)
  decl_next (Types t) fs n placed h = (tt, h)
  decl_next (Func f) fs n placed h =
      let first = zip_first (AreFuncTypes st) f fs functions n [] h in
      ((placed f (0, (let below : 0 < length (f ∷ []) = omega arith in below), refl), first.0, first.1), first.2)

  -- at a declaration of a list
  module _ (ds : List TopDecl) (made : AreMade st initial functions (map top_of ds)) (i : ℕ) (d : TopDecl) (lt : i < length ds) (is : d ≡ get_or ds i d) where
    in_trees : i < length (map top_of ds)
    in_trees = omega (arith, length-map ds top_of)

    as_tree : top_of d ≡ get_or (map top_of ds) i (top_of d)
    as_tree = ap top_of is ∙ sym (get_or-map top_of ds i d (top_of d) lt)

    pub seen_at : AreSeen st initial (decl_types (decl_of d.decl))
    seen_at t there = made.seen t (within (λ (x : TopTree). decl_types x.decl) (map top_of ds) i (top_of d) t in_trees as_tree there)

    pub next_at : (n : ℕ) → AllZip (AreFuncTypes st) (tops_funcs (map top_of (drop i ds))) (drop n functions)
        → HasNext st (decl_of d.decl) functions n × AllZip (AreFuncTypes st) (tops_funcs (map top_of (drop (i + 1) ds))) (drop (behind (decl_of d.decl) n) functions)
    next_at n h =
        let rest : drop i ds ≡ d ∷ drop (i + 1) ds = drop_more ds i d lt ∙ ap (λ x. x ∷ drop (i + 1) ds) (sym is) in
        decl_next (decl_of d.decl) (tops_funcs (map top_of (drop (i + 1) ds))) n
        (λ f there. made.placed f (within (λ (x : TopTree). decl_funcs x.decl) (map top_of ds) i (top_of d) f in_trees as_tree there))
        (subst (λ l. AllZip (AreFuncTypes st) (tops_funcs (map top_of l)) (drop n functions)) rest h)
