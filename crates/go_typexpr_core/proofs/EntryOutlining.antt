-- The outlines of files.
use Rattle.std.proofs.Common.{◌≡◌, ℕ, ◌+◌, ◌<◌, List, [], ◌∷◌, ◌++◌, length, get_or, take, map, All, Ok, Err, Result, refl, sym, ap, ◌∙◌, append-nil}
use Rattle.std.proofs.lemmas.List.{map-append, take_more}
use Rattle.std.proofs.lemmas.List.Elements.{All-map, All-same}
use Rattle.go_tree_nodes.specs.Trees.{FileTree}
use Rattle.go_graph_core.specs.parse_core.declared.error.SynFault.{SynFault}
use Rattle.go_term_core.specs.decl_core.declared.tops.Outline.{Outline}
use Rattle.go_term_core.specs.decl_core.Outer.{places_of}
use Rattle.go_term_core.specs.decl_core.Shown.{decl_shown}
use Rattle.go_term_core.specs.decl_core.TopDecls.{top_decls}
use Rattle.go_graph_core.specs.Packages.{Trees, trees_of}
use Rattle.go_graph_core.specs.Sources.{SourceModel, source}
use Rattle.go_graph_core.proofs.Assemblies.{one_more}
use Rattle.go_typexpr_core.specs.entry.Outlines.{FileOutline, IsOutline, outline_of, outline_shown}

abbrev outlines_of : Trees → List FileOutline
outlines_of ts = map (λ t. outline_of t.1) ts

trees_none : (s : SourceModel) (ss : List SourceModel) (fault : SynFault) → s.content ≡ Err fault → trees_of (s ∷ ss) ≡ trees_of ss
trees_none s ss fault e = ap (λ (r : Result FileTree SynFault). trees_of (source s.name s.text r ∷ ss)) e

trees_of-append : (xs ys : List SourceModel) → trees_of (xs ++ ys) ≡ trees_of xs ++ trees_of ys
trees_of-append [] ys = refl
trees_of-append (x ∷ xs) ys = by x.content refl (trees_of-append xs ys)
  where
    by : (r : Result FileTree SynFault) → x.content ≡ r → trees_of (xs ++ ys) ≡ trees_of xs ++ trees_of ys → trees_of (x ∷ xs ++ ys) ≡ trees_of (x ∷ xs) ++ trees_of ys
    by (Ok f) e h = one_more x (xs ++ ys) f e ∙ (ap (λ l. (x.name, f) ∷ l) h ∙ ap (λ l. l ++ trees_of ys) (sym (one_more x xs f e)))
    by (Err fault) e h = trees_none x (xs ++ ys) fault e ∙ (h ∙ ap (λ l. l ++ trees_of ys) (sym (trees_none x xs fault e)))

trees_more : (files : List SourceModel) (i : ℕ) (s : SourceModel) → i < length files → s ≡ get_or files i s → trees_of (take (i + 1) files) ≡ trees_of (take i files) ++ trees_of (s ∷ [])
trees_more files i s lt is = ap trees_of (take_more files i s lt ∙ ap (λ x. take i files ++ x ∷ []) (sym is)) ∙ trees_of-append (take i files) (s ∷ [])

pub outline_more : (files : List SourceModel) (i : ℕ) (s : SourceModel) (f : FileTree) (o : Outline) (old new : List Outline) → i < length files → s ≡ get_or files i s → s.content ≡ Ok f → o.places ≡ places_of f → map decl_shown o.decls.items ≡ top_decls f
    → new ≡ old ++ o ∷ [] → map outline_shown old ≡ outlines_of (trees_of (take i files)) → map outline_shown new ≡ outlines_of (trees_of (take (i + 1) files))
outline_more files i s f o old new lt is content places decls made was =
    let ts = trees_of (take i files) in
    let one : outline_shown o ≡ outline_of f = λ j. record { places = places j; decls = decls j } in
    ap (map outline_shown) made
    ∙ (map-append outline_shown old (o ∷ [])
    ∙ (ap (λ l. l ++ outline_shown o ∷ []) was
    ∙ (ap (λ p. outlines_of ts ++ p ∷ []) one
    ∙ (sym (map-append (λ t. outline_of t.1) ts ((s.name, f) ∷ []))
    ∙ ap outlines_of (ap (λ l. ts ++ l) (sym (one_more s [] f content)) ∙ sym (trees_more files i s lt is))))))

pub outline_same : (files : List SourceModel) (i : ℕ) (s : SourceModel) (fault : SynFault) (old : List Outline) → i < length files → s ≡ get_or files i s → s.content ≡ Err fault
    → map outline_shown old ≡ outlines_of (trees_of (take i files)) → map outline_shown old ≡ outlines_of (trees_of (take (i + 1) files))
outline_same files i s fault old lt is content was =
    was ∙ ap outlines_of (sym (append-nil (trees_of (take i files))) ∙ (ap (λ l. trees_of (take i files) ++ l) (sym (trees_none s [] fault content)) ∙ sym (trees_more files i s lt is)))

pub are_outlines : (os : List FileOutline) (ts : Trees) → os ≡ outlines_of ts → All IsOutline os
are_outlines os ts e = All-same IsOutline os (outlines_of ts) e (All-map IsOutline (λ (t : List ℕ × FileTree). outline_of t.1) ts (λ k d lt. ((get_or ts k d).1, refl)))
