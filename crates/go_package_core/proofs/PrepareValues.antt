-- What the declarations of a package are by the types that were made of its initialisers, and as they are written.
use Rattle.std.proofs.Common.{◌≡◌, ℕ, ◌+◌, ◌<◌, List, [], All, map, length, refl, sym, ap, subst, ◌∙◌, arith}
use Rattle.std.specs.Prelude.{Option, Some, None, slice_get, slice_index_or}
use Rattle.std.specs.List.{enumerate_from}
use Rattle.std.specs.Option.{option_map}
use Rattle.std.proofs.lemmas.List.{get_or-map}
use Rattle.std.proofs.lemmas.List.FromFn.{length-enumerate_from, get_or-enumerate_from}
use Rattle.std.proofs.lemmas.List.Elements.{recursion_from_All}
use Rattle.std.proofs.lemmas.Option.{slice_get-map, get_or_from_slice_get, slice_get_within}
use Rattle.go_tree_nodes.specs.Trees.{FileTree}
use Rattle.go_term_core.specs.decl_core.TopDecls.{TopDeclTree, top_decls}
use Rattle.go_type_core.specs.table_core.Entries.{Entry}
use Rattle.go_body_core.specs.typexpr_core.EntryOutlines.{FileOutline, outline_of}
use Rattle.go_body_core.specs.typexpr_core.EntryAmong.{Among, among_flat, among_map, among_numbered}
use Rattle.go_body_core.specs.typexpr_core.EntryNumbered.{map-flat_map}
use Rattle.go_inline_core.specs.Types.{InlineOf}
use Rattle.go_inline_core.specs.Inline.{inlines}
use Rattle.go_inline_core.specs.Trees.{file_types, outline_types}
use Rattle.go_inline_core.proofs.Outlines.{outline_all}
use Rattle.go_report_core.specs.declared_core.Faces.{TheFace}
use Rattle.go_report_core.specs.declared_core.Laws.{FileDecl, file_decl, package_decls}
use Rattle.go_report_core.specs.declared_core.Written.{written_at}
use Rattle.go_report_core.specs.declared_core.Places.{among_at}
use Rattle.go_value_core.specs.Package as values
use Rattle.go_value_core.specs.Package.{PlacedOf, placed, placed_decls, package_needs, top_looks, first_values, form_face}
use Rattle.go_body_core.specs.function.Stands.{kinds_in_scene}
use Rattle.go_package_core.specs.prepare.Inlines.{initial_in, initial_types, types_stand}
use Rattle.go_package_core.specs.prepare.Laws.{package_placed}
use Rattle.go_package_core.specs.prepare.Packages.{PackageIn, outlines_in, scene_in, stand_in}
use Rattle.go_package_core.specs.prepare.Values.{file_decl_needs, declared_in, decls_in, face_there, needs_in, some_decl_face}
use Rattle.go_package_core.proofs.PrepareLists.{holds_at, map_map, mapped_at}
use Rattle.go_package_core.proofs.PrepareTyped.{face_same}
use Rattle.go_tree_nodes.specs.Spelling.{IsPlaced}

-- declarations with the types of their files

abbrev pub with_types : List (List (ℕ × InlineOf)) → FileDecl → PlacedOf
with_types types d = placed d.file (slice_index_or types d.file []) d.decl

pub placed_as : (types : List (List (ℕ × InlineOf))) (os : List FileOutline) → map (with_types types) (package_decls os) ≡ placed_decls types os
placed_as types os =
    map-flat_map (with_types types) (λ (q : ℕ × FileOutline). map (file_decl q.0 q.1) q.1.decls) (λ q. map (placed q.0 (slice_index_or types q.0 [])) q.1.decls)
    (λ q. map_map (file_decl q.0 q.1) (with_types types) (placed q.0 (slice_index_or types q.0 [])) (λ d. refl) q.1.decls)
    (enumerate_from 0 os)

module _ (p : PackageIn) (types : List Entry) where
  abbrev held : List (List (ℕ × InlineOf))
  held = initial_in p types

  pub needs_same : package_needs (scene_in p types) (package_placed p types) ≡ needs_in p types
  needs_same =
      ap (package_needs (scene_in p types)) (sym (placed_as held (outlines_in p)))
      ∙ map_map (with_types held) (values.decl_needs (scene_in p types)) (file_decl_needs (scene_in p types)) (λ d. refl) (decls_in p)

  pub at_place : (n : ℕ) → slice_get (package_placed p types) n ≡ option_map (with_types held) (slice_get (decls_in p) n)
  at_place n = ap (λ l. slice_get l n) (sym (placed_as held (outlines_in p))) ∙ slice_get-map (with_types held) (decls_in p) n

  -- the types of a file
  pub held_there : (k : ℕ) (o : FileOutline) → slice_get (outlines_in p) k ≡ Some o → slice_index_or held k [] ≡ initial_types (types_stand p types (k, o)) o
  held_there k o at =
      let os = outlines_in p in
      let inside : k < length os = slice_get_within os k o at in
      let many : k < length (enumerate_from 0 os) = omega (arith, inside, length-enumerate_from 0 os) in
      let same : 0 + k ≡ k = omega arith in
      get_or-map (λ o. initial_types (types_stand p types o) o.1) (enumerate_from 0 os) k (0, o) [] many
      ∙ (ap (λ o. initial_types (types_stand p types o) o.1) (get_or-enumerate_from 0 os k (0, o) inside)
      ∙ (ap (λ x. initial_types (types_stand p types (0 + k, x)) x) (get_or_from_slice_get os k o o at)
      ∙ ap (λ (m : ℕ). initial_types (types_stand p types (m, o)) o) same))

  -- a declaration stands in a file of the package
  pub record IsThere (d : FileDecl) : Type 0 where
    pub file : FileTree
    pub tree : slice_get p.trees d.file ≡ Some file
    pub outline : d.outline ≡ outline_of file
    pub outlined : slice_get (outlines_in p) d.file ≡ Some d.outline
    pub among : Among (top_decls file) d.decl

  in_tree : (d : FileDecl) (f : FileTree) → slice_get p.trees d.file ≡ Some f → outline_of f ≡ d.outline → slice_get (outlines_in p) d.file ≡ Some d.outline → Among d.outline.decls d.decl → IsThere d
  in_tree d f tree same outlined among = record { file = f; tree = tree; outline = sym same; outlined = outlined; among = subst (λ (o : FileOutline). Among o.decls d.decl) (sym same) among }

  in_outline : (d : FileDecl) → slice_get (outlines_in p) d.file ≡ Some d.outline → Among d.outline.decls d.decl → IsThere d
  in_outline d outlined among = let f = mapped_at outline_of p.trees d.file d.outline outlined in in_tree d f.0 f.1 f.2 outlined among

  -- the declaration of a file of this number
  of_file : (d : FileDecl) (file : ℕ) (o : FileOutline) (e : TopDeclTree) (k : ℕ) → file_decl file o e ≡ d → Among o.decls e → file ≡ 0 + k → slice_get (outlines_in p) k ≡ Some o → IsThere d
  of_file d file o e k is among at there =
      let same : k ≡ file = omega (arith, at) in
      subst IsThere is (in_outline (file_decl file o e) (ap (slice_get (outlines_in p)) (sym same) ∙ there) among)

  pub is_there : (n : ℕ) (d : FileDecl) → slice_get (decls_in p) n ≡ Some d → IsThere d
  is_there n d at =
      let q = among_flat (λ (q : ℕ × FileOutline). map (file_decl q.0 q.1) q.1.decls) (enumerate_from 0 (outlines_in p)) d (among_at (decls_in p) n d at) in
      let e = among_map (file_decl q.0.0 q.0.1) q.0.1.decls d q.2 in
      let m = among_numbered 0 (outlines_in p) q.0 q.1 in
      of_file d q.0.0 q.0.1 e.0 m.0 e.2 e.1 m.1 m.2

  module _ (all : All IsPlaced p.trees) where
    face_as : (known : ℕ → Option TheFace) (n : ℕ) (d : FileDecl) → slice_get (decls_in p) n ≡ Some d
        → form_face (top_looks (scene_in p types) d.file (slice_index_or held d.file []) known) (written_at (scene_in p types).written n) d.decl.form ≡ face_there p types known n d
    face_as known n d at =
        let h = is_there n d at in
        let s = scene_in p types in
        let st = stand_in p types (first_values (length s.written) known) d.file d.outline in
        let tree : IsPlaced h.file = holds_at IsPlaced p.trees d.file h.file (recursion_from_All IsPlaced p.trees all) h.tree in
        let of_file : slice_index_or held d.file [] ≡ inlines (kinds_in_scene s) st.file st.top (file_types h.file) =
        held_there d.file d.outline h.outlined
        ∙ (ap (λ (ts : List _). inlines (kinds_in_scene s) st.file st.top ts) (ap (λ (o : FileOutline). outline_types o.decls) h.outline ∙ outline_all h.file)) in
        ap (λ ts. form_face (top_looks s d.file ts known) (written_at s.written n) d.decl.form) of_file
        ∙ face_same st h.file tree d.decl (written_at s.written n) h.among

    pub faces_same : (known : ℕ → Option TheFace) (n : ℕ) → values.declared_face (scene_in p types) (package_placed p types) known n ≡ declared_in p types known n
    faces_same known n = ap (values.some_face (scene_in p types) known n) (at_place n) ∙ by (slice_get (decls_in p) n) refl
      where
        by : (o : Option FileDecl) → slice_get (decls_in p) n ≡ o → values.some_face (scene_in p types) known n (option_map (with_types held) o) ≡ some_decl_face p types known n o
        by None e = refl
        by (Some d) e = face_as known n d e
