-- What a file of a package is checked by, and what stands in it.
use Rattle.std.proofs.Common.{◌≡◌, ℕ, suc, ◌+◌, ◌<◌, ◌≤◌, List, [], ◌∷◌, ◌++◌, map, length, take, get_or, refl, sym, ap, subst, ◌∙◌, arith}
use Rattle.std.specs.Prelude.{Bool, Option, Some, None, Result, Ok, Err, drop, slice_get, slice_index_or}
use Rattle.std.specs.Option.{option_map}
use Rattle.std.specs.List.{AllZip, flat_map, enumerate_from}
use Rattle.std.specs.Prelude.{Vec}
use Rattle.std.specs.declared.alloc.Global.{Global}
use Rattle.std.proofs.lemmas.List.{get_or_default, length-map, length-append, take_all}
use Rattle.std.proofs.lemmas.List.FromFn.{length-enumerate_from}
use Rattle.std.proofs.lemmas.Option.{slice_get-map, slice_get_read}
use Rattle.go_tree_nodes.specs.Trees.{FuncTree, FileTree}
use Rattle.go_parse_core.specs.declared.error.SynFault.{SynFault}
use Rattle.go_block_core.specs.graph_core.Packages.{trees_of, tree_shown}
use Rattle.go_block_core.specs.graph_core.Sources.{SourceModel, source}
use Rattle.go_term_core.specs.decl_core.declared.places.Place.{Place}
use Rattle.go_term_core.specs.decl_core.declared.tops.Outline.{Outline}
use Rattle.go_term_core.specs.decl_core.TopDecls.{TopDeclTree, top_decls}
use Rattle.go_block_core.specs.declared.imports.Imported.{Imported}
use Rattle.go_type_core.specs.table_core.Entries.{Entry}
use Rattle.go_body_core.specs.typexpr_core.EntryMeanings.{Shows, file_meaning}
use Rattle.go_body_core.specs.typexpr_core.EntryOutlines.{FileOutline, outline_of, outline_shown}
use Rattle.go_body_core.specs.typexpr_core.EntryNumbered.{flat_more}
use Rattle.go_report_core.specs.declared.type_faults.places.PackageFault.{PackageFault}
use Rattle.go_report_core.specs.handle_core.Declarations.{Declaration}
use Rattle.go_local_core.specs.declared.Fault.{Fault}
use Rattle.go_report_core.specs.Faults.{IsSettled}
use Rattle.go_inline_core.specs.Types.{InlineOf}
use Rattle.go_inline_core.specs.Inline.{inlines}
use Rattle.go_inline_core.specs.Trees.{outline_types}
use Rattle.go_inline_core.proofs.Outlines.{outline_all}
use Rattle.go_report_core.specs.declared_core.Faces.{TheFace}
use Rattle.go_report_core.specs.declared_core.Laws.{FileDecl, file_decl, package_decls}
use Rattle.go_body_core.specs.env_core.Scenes.{SceneModel}
use Rattle.go_body_core.specs.function.Stands.{FileStand, kinds_in_scene}
use Rattle.go_body_core.specs.function.Laws.{AreFuncTypes}
use Rattle.go_body_core.specs.file.Files.{file_uses, file_faults, file_locals}
use Rattle.go_body_core.specs.file.Stands.{AreFunctionTypes, AreInitialTypes, file_funcs}
use Rattle.go_report_core.specs.answer.Outer.{outer_faults}
use Rattle.go_package_core.specs.prepare.Inlines as inside
use Rattle.go_package_core.specs.prepare.Inlines.{AreFunctionsIn, initial_in, outline_funcs, types_stand}
use Rattle.go_package_core.specs.prepare.Packages.{PackageIn, outlines_in, scene_in, shows_in, stand_in}
use Rattle.go_package_core.proofs.PrepareValues.{held_there}
use Rattle.go_package_core.specs.Checked.{AnswersOf, IsFileChecked, all_faults, decls_before, imports_at, stand_at}
use Rattle.go_package_core.proofs.Funcs.{funcs_all}
use Rattle.go_package_core.proofs.Numbered.{front_within, numbered_at, take_map, zip_read}

-- there are no more trees than files
pub trees_within : (ss : List SourceModel) → length (trees_of ss) ≤ length ss
trees_within [] = omega arith
trees_within (s ∷ ss) = by s.name s.text s.content (trees_within ss)
  where
    by : (name text : List ℕ) (r : Result FileTree SynFault) → length (trees_of ss) ≤ length ss → length (trees_of (source name text r ∷ ss)) ≤ suc (length ss)
    by name text (Ok f) rest = omega (arith, rest)
    by name text (Err e) rest = omega (arith, rest)

-- where a file is checked, by what is known of its package
abbrev pub stand_by : Shows → SceneModel → List (Option TheFace) → ℕ → List Place → FileStand
stand_by shows s known n places = record { scene = s; known = known; file = record { path = s.path; file = n; places = places }; top = file_meaning shows s.path s.blocks n }

module _ (p : PackageIn) (types : List Entry) (shows : Shows) (s : SceneModel) (known : List (Option TheFace)) (n : ℕ) (f : FileTree) (o : FileOutline) (places : List Place)
    (of_names : shows ≡ shows_in p) (of_scene : s ≡ scene_in p types) (of_places : places ≡ o.places) (of_tree : o ≡ outline_of f) (there : slice_get (outlines_in p) n ≡ Some o) where
  stand_is : stand_by shows s known n places ≡ stand_in p types known n o
  stand_is = λ i. stand_by (of_names i) (of_scene i) known n (of_places i)

  stand_tree : stand_by shows s known n places ≡ stand_at p types known (n, f)
  stand_tree = stand_is ∙ ap (stand_in p types known n) of_tree

  -- the types in its initialisers
  pub initial_there : (held : List (List (ℕ × InlineOf))) (x : List (ℕ × InlineOf)) → held ≡ initial_in p types → n < length held → x ≡ get_or held n x → AreInitialTypes (stand_by shows s known n places) f x
  initial_there held x is lt at =
      let made : x ≡ inside.initial_types (types_stand p types (n, o)) o = at ∙ (get_or_default held n x [] lt ∙ (ap (λ h. get_or h n []) is ∙ held_there p types n o there)) in
      let listed = ap (λ (x : FileOutline). outline_types x.decls) of_tree ∙ outline_all f in
      subst (λ st. AreInitialTypes st f x) (sym stand_is)
      (made ∙ ap (inlines (kinds_in_scene (scene_in p types)) (stand_in p types known n o).file (stand_in p types known n o).top) listed)

  -- and in its functions
  pub functions_there : (held : List (Vec (List (ℕ × InlineOf)) Global)) (v : Vec (List (ℕ × InlineOf)) Global) (x : List (List (ℕ × InlineOf))) → AreFunctionsIn p types (map (λ of_file. of_file.items) held) → v ≡ get_or held n v → x ≡ v.items
      → AreFunctionTypes (stand_by shows s known n places) f x
  functions_there held v x all at is =
      let at_zero : 0 + n ≡ n = omega arith in
      let numbered = subst (λ (k : ℕ). slice_get (enumerate_from 0 (outlines_in p)) n ≡ Some (k, o)) at_zero (numbered_at 0 (outlines_in p) n o there) in
      let made = zip_read (λ q of_file. inside.AreOutlinedTypes (types_stand p types q) q.1 of_file) (λ of_file. of_file.items) (enumerate_from 0 (outlines_in p)) held n (n, o) v all numbered at in
      let listed = ap (λ (x : FileOutline). outline_funcs x.decls) of_tree ∙ funcs_all f in
      subst (λ st. AreFunctionTypes st f x) (sym stand_is)
      (subst (λ ts. AllZip (AreFuncTypes (stand_in p types known n o)) (file_funcs f) ts) (sym is) (subst (λ fs. AllZip (AreFuncTypes (stand_in p types known n o)) fs v.items) listed made))

  -- what stands in it
  pub checked_there : (faults : List PackageFault) (looped flags : List Bool) (imports : List Imported) (ds : List TopDeclTree) (first : ℕ) (a : AnswersOf)
      → imports ≡ imports_at p n → ds ≡ o.decls → first ≡ decls_before p n → flags ≡ looped
      → a.uses ≡ file_uses (stand_by shows s known n places) imports f
      → IsSettled Declaration (List ℕ) a.uses (file_faults (stand_by shows s known n places) f ++ outer_faults n p.blocks faults ds (drop first flags)) a.faults
      → a.locals ≡ file_locals (stand_by shows s known n places) f
      → IsFileChecked p types known faults looped (n, f) a
  checked_there faults looped flags imports ds first a of_imports of_decls of_first of_flags uses settled locals = record {
    locals = locals ∙ ap (λ st. file_locals st f) stand_tree;
    uses = uses ∙ (ap (λ st. file_uses st imports f) stand_tree ∙ ap (λ is. file_uses (stand_at p types known (n, f)) is f) of_imports);
    settled =
        subst (λ l. IsSettled Declaration (List ℕ) a.uses l a.faults)
        (ap (λ st. file_faults st f ++ outer_faults n p.blocks faults ds (drop first flags)) stand_tree
        ∙ (ap (λ d. file_faults (stand_at p types known (n, f)) f ++ outer_faults n p.blocks faults d (drop first flags)) (of_decls ∙ ap (λ (x : FileOutline). x.decls) of_tree)
        ∙ (ap (λ k. file_faults (stand_at p types known (n, f)) f ++ outer_faults n p.blocks faults (top_decls f) (drop k flags)) of_first
        ∙ ap (λ l. file_faults (stand_at p types known (n, f)) f ++ outer_faults n p.blocks faults (top_decls f) (drop (decls_before p n) l)) of_flags)))
        settled;
  }

-- the file of a number

pub tree_there : (p : PackageIn) (ts : List (List ℕ × FileTree)) (n : ℕ) (f : FileTree) → p.trees ≡ map tree_shown ts → option_map tree_shown (slice_get ts n) ≡ Some f → slice_get p.trees n ≡ Some f
tree_there p ts n f is at = ap (λ l. slice_get l n) is ∙ (slice_get-map tree_shown ts n ∙ at)

pub outline_there : (p : PackageIn) (n : ℕ) (f : FileTree) → slice_get p.trees n ≡ Some f → slice_get (outlines_in p) n ≡ Some (outline_of f)
outline_there p n f at = slice_get-map outline_of p.trees n ∙ ap (option_map outline_of) at

pub outline_is : (p : PackageIn) (os : List Outline) (n : ℕ) (o : Outline) (f : FileTree) → map outline_shown os ≡ outlines_in p → n < length os → o ≡ get_or os n o → slice_get p.trees n ≡ Some f → outline_shown o ≡ outline_of f
outline_is p os n o f same lt is at =
    let read : slice_get os n ≡ Some o = slice_get_read os (length os) n o refl lt is in
    let h : Some (outline_shown o) ≡ Some (outline_of f) = sym (ap (option_map outline_shown) read) ∙ (sym (slice_get-map outline_shown os n) ∙ (ap (λ l. slice_get l n) same ∙ outline_there p n f at)) in
    cc

pub as_many_trees : (p : PackageIn) (os : List Outline) → map outline_shown os ≡ outlines_in p → length p.trees ≡ length os
as_many_trees p os same = sym (length-map p.trees outline_of) ∙ (sym (ap length same) ∙ length-map os outline_shown)

-- declarations of the files before one

pub before_as : (p : PackageIn) (os : List Outline) (n first : ℕ) → map outline_shown os ≡ outlines_in p → first ≡ length (package_decls (map outline_shown (take n os))) → first ≡ decls_before p n
before_as p os n first same is = is ∙ ap (λ l. length (package_decls l)) (sym (take_map outline_shown n os) ∙ ap (take n) same)

abbrev decls_of_file : ℕ × FileOutline → List FileDecl
decls_of_file q = map (file_decl q.0 q.1) q.1.decls

pub before_more : (os : List Outline) (n first count : ℕ) (o : Outline) → n < length os → o ≡ get_or os n o → count ≡ length (outline_shown o).decls → first ≡ length (package_decls (map outline_shown (take n os)))
    → first + count ≡ length (package_decls (map outline_shown (take (n + 1) os)))
before_more os n first count o lt is counted before =
    let more = ap length (flat_more outline_shown decls_of_file os n o lt is) in
    let both = length-append (package_decls (map outline_shown (take n os))) (decls_of_file (n, outline_shown o)) in
    let many = length-map (outline_shown o).decls (file_decl n (outline_shown o)) in
    omega (arith, counted, before, more, both, many)

pub before_within : (os : List Outline) (n : ℕ) → length (package_decls (map outline_shown (take n os))) ≤ length (package_decls (map outline_shown os))
before_within os n = front_within decls_of_file outline_shown 0 os n
