-- The names of a specification, as a walk lists them one behind another.
use Rattle.std.proofs.Common.{◌≡◌, ℕ, ◌+◌, ◌<◌, ◌≤◌, List, [], ◌∷◌, ◌++◌, length, get_or, take, sym, ap, ◌∙◌, arith}
use Rattle.std.proofs.lemmas.List.{length-take-le, take_more, take_all}
use Rattle.go_tree_nodes.specs.declared.names.Ident.{Ident}
use Rattle.go_tree_nodes.specs.declared.names.NextIdent.{NextIdent}
use Rattle.go_tree_nodes.specs.declared.decls.ValueKind.{ValueKind}
use Rattle.go_tree_nodes.specs.Trees.{ValueSpecTree}
use Rattle.go_tree_nodes.specs.TypeShapes.{idents_from}
use Rattle.go_decl_core.specs.declared.places.DeclKind.{DeclKind}
use Rattle.go_decl_core.specs.declared.places.Place.{Place}
use Rattle.go_decl_core.specs.Outer.{Outer, Whole, outer, idents_outers, kind_of_value}
use Rattle.go_decl_core.specs.TopDecls.{TopDeclTree, ValueForm, top_decl, named_decls}
use Rattle.go_decl_core.specs.mirrors.Listing.{ListsTo}
use Rattle.go_decl_core.proofs.ListLemmas.{idents_push, idents_count, named_push}
use Rattle.go_decl_core.proofs.Listed.{lists_same, lists_both}

module _ (k : ValueKind) (v : ValueSpecTree) (x : Ident) where
  abbrev names : List NextIdent → List Outer
  names ns = idents_outers (kind_of_value k) Whole (idents_from x ns)

  abbrev decls : List NextIdent → ℕ → List TopDeclTree
  decls ns n = named_decls k v n 0 (idents_from x ns)

  pub names_first : {P Q : Type 0} (ps : List Place) (ds : List TopDeclTree) {qs : List Place} {es : List TopDeclTree} (kind : DeclKind) → kind ≡ kind_of_value k → ListsTo P ps ds (outer kind Whole x ∷ []) (λ n. top_decl x n (ValueForm k v 0) ∷ []) Q qs es → ListsTo P ps ds (names []) (decls []) Q qs es
  names_first ps ds kind same h =
      lists_same ps ds (outer kind Whole x ∷ []) (names []) (λ n. top_decl x n (ValueForm k v 0) ∷ []) (decls [])
      (ap (λ d. outer d Whole x ∷ []) (sym same))
      (λ n. ap (λ j. top_decl x j (ValueForm k v 0) ∷ []) (let e : n + 0 ≡ n = omega arith in e))
      h

  pub names_next : {P Q R : Type 0} (ps : List Place) (ds : List TopDeclTree) {qs rs : List Place} {es fs : List TopDeclTree} (ns : List NextIdent) (i : ℕ) (y : NextIdent) (kind : DeclKind) → i < length ns → y ≡ get_or ns i y → kind ≡ kind_of_value k → ListsTo P ps ds (names (take i ns)) (decls (take i ns)) Q qs es → ListsTo Q qs es (outer kind Whole y.ident ∷ []) (λ n. top_decl y.ident n (ValueForm k v (i + 1)) ∷ []) R rs fs → ListsTo P ps ds (names (take (i + 1) ns)) (decls (take (i + 1) ns)) R rs fs
  names_next ps ds ns i y kind lt is same before now =
      let front = take i ns in
      let more : take (i + 1) ns ≡ front ++ y ∷ [] = take_more ns i y lt ∙ ap (λ z. front ++ z ∷ []) (sym is) in
      let count : length front ≡ i = length-take-le i ns (omega arith) in
      let one : ℕ → List TopDeclTree = λ n. top_decl y.ident n (ValueForm k v (i + 1)) ∷ [] in
      lists_same ps ds (names front ++ outer kind Whole y.ident ∷ []) (names (take (i + 1) ns)) (λ n. decls front n ++ one (n + length (names front))) (decls (take (i + 1) ns))
      (ap names more ∙ (idents_push (kind_of_value k) Whole x front y ∙ ap (λ d. names front ++ outer d Whole y.ident ∷ []) (sym same)))
      (λ n. ap (λ l. decls l n) more
      ∙ (named_push k v n 0 x front y (i + 1) (let e : i + 1 ≡ 0 + (length front + 1) = omega (arith, count) in e)
      ∙ ap (λ m. decls front n ++ one m) (let e : n + (i + 1) ≡ n + length (names front) = omega (arith, count, idents_count (kind_of_value k) Whole x front) in e)))
      (lists_both ps ds (names front) (outer kind Whole y.ident ∷ []) (decls front) one before now)

  pub names_done : {P Q : Type 0} (ps : List Place) (ds : List TopDeclTree) {qs : List Place} {es : List TopDeclTree} (items ns : List NextIdent) (i : ℕ) → items ≡ ns → length items ≤ i → ListsTo P ps ds (names (take i items)) (decls (take i items)) Q qs es → ListsTo P ps ds (names ns) (decls ns) Q qs es
  names_done ps ds items ns i is le h =
      let all : ns ≡ take i items = sym (take_all i items le ∙ is) in
      lists_same ps ds (names (take i items)) (names ns) (decls (take i items)) (decls ns) (ap names all) (λ n. ap (λ l. decls l n) all) h
