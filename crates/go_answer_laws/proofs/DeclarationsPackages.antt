-- What the check of a package gives is there, where what is known of others is.
use Rattle.std.proofs.Common.{◌≡◌, ◌⊎◌, ℕ, zero, suc, ◌+◌, Bool, true, false, All, List, [], ◌∷◌, ◌++◌, length, map, inl, inr, refl, sym, ap, subst, ◌∙◌, arith, if◌then◌else◌}
use Rattle.std.specs.Prelude.{Option, Some, None, Contains, ⊤, codes, slice_get, slice_index_or}
use Rattle.std.specs.List.{AllZip, enumerate_from, range_with_len}
use Rattle.std.proofs.lemmas.List.{map-append}
use Rattle.std.proofs.lemmas.Option.{get_or_from_slice_get, slice_get_within}
use Rattle.go_universe_core.specs.Universe.{spelling_of}
use Rattle.go_tree_nodes.specs.declared.decls.ValueKind.{ValueKind}
use Rattle.go_tree_nodes.specs.declared.decls.ValueKind.TheVariants as value_kinds
use Rattle.go_tree_nodes.specs.declared.types.TypeName.{TypeName}
use Rattle.go_tree_nodes.specs.Rules.{Wf_file}
use Rattle.go_tree_nodes.specs.Spelling.{IsPlaced}
use Rattle.go_tree_nodes.specs.Trees.{FileTree, ImportSpecTree, ImportTree, Specs, Single, Group, TypeTree, ValueSpecTree}
use Rattle.go_tree_nodes.specs.WrittenTypes.{spec_types}
use Rattle.go_site_core.specs.text_core.declared.span.Span.{Span}
use Rattle.go_tree_core.specs.declared.occurrence.Occ.{Occ}
use Rattle.go_tree_core.specs.declared.occurrence.Role.TheVariants as roles
use Rattle.go_tree_core.specs.Occurrences.{file_occs, group_occs, import_occs, imports_occs, occ_at, specs_occs, tops_occs}
use Rattle.go_term_core.specs.decl_core.declared.keys.DeclRef.{DeclRef}
use Rattle.go_term_core.specs.decl_core.Outer.{Outer, outer_names, rest_outers, some_type_outers, values_outers}
use Rattle.go_term_core.specs.decl_core.TopDecls.{FormTree, FuncForm, TopDeclTree, TypeForm, ValueForm, top_decls}
use Rattle.go_graph_core.specs.Workspaces.{PackageModel}
use Rattle.go_term_core.specs.declared.term.MemberPlace.{MemberPlace}
use Rattle.go_term_core.specs.declared.term.MemberPlace.TheVariants as places
use Rattle.go_term_core.specs.Terms.{Term, Defined}
use Rattle.go_term_core.specs.settling.Settled.{settled}
use Rattle.go_value_core.specs.table_core.Entries.{Entry, find_entry, kinds_in}
use Rattle.go_site_core.specs.handle_core.DecidingConversion.{is_type_term}
use Rattle.go_site_core.specs.handle_core.DecidingRules.{typed}
use Rattle.go_cursor_core.specs.operand_core.declared.types.Operand.{Operand}
use Rattle.go_typexpr_core.specs.written.Written.{InFile as FileOf, Meaning, signature_of, term_of}
use Rattle.go_names_core.specs.block_core.declared.binding.Binding.{Binding}
use Rattle.go_names_core.specs.block_core.declared.imports.Imported.{Imported}
use Rattle.go_names_core.specs.block_core.declared.imports.Imported.TheVariants as given_as
use Rattle.go_names_core.specs.block_core.Exports.{ExportsModel}
use Rattle.go_names_core.specs.block_core.Blocks.{file_binding}
use Rattle.go_names_core.specs.block_core.Naming.{file_specs, specs_in, specs_of}
use Rattle.go_names_core.specs.block_core.Tables.{in_block}
use Rattle.go_typexpr_core.specs.entry.Entries.{Meanings, file_at, package_meanings, type_key}
use Rattle.go_typexpr_core.specs.entry.Marks.{alias_mark}
use Rattle.go_typexpr_core.specs.entry.Outlines.{FileOutline, outline_of}
use Rattle.go_typexpr_core.proofs.EntryAmong.{Among, among_flat, among_from, among_map, among_numbered, among_to}
use Rattle.go_site_core.specs.handle_core.Declarations.{Declaration, Universe, OfError, Package, InFile}
use Rattle.go_query_core.specs.declared_core.Faces.{TheFace, variable_face}
use Rattle.go_query_core.specs.declared_core.Laws.{FileDecl, file_decl, package_decls}
use Rattle.go_query_core.specs.declared_core.Packages.{PackageFacesModel, face_among, face_by, face_in, package_in}
use Rattle.go_query_core.specs.declared_core.Written.{WrittenOf, declared_face, decls_of, face_found, file_written, same_decl_place, type_written, written_at, written_of, written_with}
use Rattle.go_query_core.specs.declared_core.Written as writing
use Rattle.go_query_core.specs.declared_core.Places.{among_at}
use Rattle.go_value_core.specs.env_core.Looks.{TheLooks}
use Rattle.go_query_core.specs.body_core.Notes.{TheUse}
use Rattle.go_query_core.specs.body_core.FunctionStands.{FileStand, outer_look, outer_looks}
use Rattle.go_query_core.specs.body_core.FileFiles.{file_uses, tops_uses}
use Rattle.go_query_core.specs.body_core.FileImports.{imports_uses}
use Rattle.go_stmt_core.specs.piece.Specifications.{outer_values}
use Rattle.go_digraph_core.specs.needs.Needs.{EndsWithin, known_in, needed}
use Rattle.go_value_core.specs.Initial.{initial}
use Rattle.go_value_core.specs.Package as values
use Rattle.go_value_core.specs.Package.{first_values, form_face, written_face}
use Rattle.go_value_core.proofs.Owning.{outer_alike}
use Rattle.go_value_core.proofs.Deciding.{needs_decide}
use Rattle.go_site_core.specs.report_core.AnswerShown.{exported_decls, is_decl_listed, shown_among, shown_if}
use Rattle.go_query_core.specs.package_core.PrepareLaws.{package_placed}
use Rattle.go_query_core.specs.package_core.PreparePackages.{PackageIn, entries_in, outlines_in, scene_in, shows_in, stand_in}
use Rattle.go_query_core.specs.package_core.PrepareValues.{declared_in, decls_in, face_there, needs_in, some_decl_face}
use Rattle.go_query_core.specs.package_core.PrepareLists.{mapped_at as item_mapped}
use Rattle.go_query_core.specs.package_core.PrepareValuesProofs.{faces_same, needs_same}
use Rattle.go_query_core.specs.package_core.Checked.{AnswersOf, CheckedOf, IsChecked, IsFileChecked, imports_at, stand_at}
use Rattle.go_query_core.specs.snap_core.NearNear.{IfAny, NearOperand}
use Rattle.go_query_core.specs.snap_core.WholeWorkspaceValues.{each_at, is_or_not, mapped_at}
use Rattle.go_stmt_core.specs.statement.Locality.{Each}
use Rattle.go_answer_laws.specs.declarations.Found.{AreThereAs, FilePlace, IsFileThere, IsImportThereAt, IsThereUnder, IsPackageNamed, file_place}
use Rattle.go_answer_laws.proofs.DeclarationsLists.{each_left, either}
use Rattle.go_answer_laws.proofs.DeclarationsTerms.{IsPlacedIn, IsTermIn, settled_in, settled_sign_in, signature_in, term_in}
use Rattle.go_answer_laws.proofs.DeclarationsTables.{AreDeclsIn, AreEntriesIn, IsDeclIn, entries_both, form_outers, own_in, written_in}
use Rattle.go_answer_laws.proofs.DeclarationsUses.{AreThere, both_there}
use Rattle.go_answer_laws.proofs.DeclarationsFunctions.{IsGood, IsStandIn, IsNameHere, outer_sees, outer_values_in, tops_there}
use Rattle.go_answer_laws.proofs.DeclarationsPlacing.{IsGlobal, has_outer_place, has_place, inner_names, name_seen, outer_fits, outer_global, outer_sound, sound, type_fits}
use Rattle.go_answer_laws.proofs.DeclarationsDecls.{each_of, spec_good, top_form, tops_good}
use Rattle.go_answer_laws.proofs.DeclarationsBlocks.{AreFilesThere, IsShownThere, IsTargetThere, decl_global, import_there}
use Rattle.go_answer_laws.proofs.DeclarationsMeanings.{AreNamesOf, IsKnownThere, stand_in as stand_there}
use Rattle.go_answer_laws.proofs.DeclarationsTargets.{meaning_in}
use Rattle.go_answer_laws.proofs.DeclarationsWider.{IsAnyIn, IsFaceIn, term_wider}

-- what a table has for the numbers of a list, and nothing for others
abbrev kept : (ℕ → Option TheFace) → (ns : List ℕ) (m : ℕ) → Among ns m ⊎ (Among ns m → ⊥) → Option TheFace
kept known ns m (inl h) = known m
kept known ns m (inr other) = None

-- what is shown is what declarations are

module _ (Is : TheFace → Type 0) where
  shown_all : (these ds : List DeclRef) (known : List (Option TheFace)) → ((n : ℕ) (f : TheFace) → slice_index_or known n None ≡ Some f → Is f)
      → (d : DeclRef) (f : TheFace) → face_among (shown_among these ds known) d ≡ Some f → Is f
  shown_all these [] known h d f e = absurd (let no : None ≡ Some f = e in cc)
  shown_all these (x ∷ ds) [] h d f e = absurd (let no : None ≡ Some f = e in cc)
  shown_all these (x ∷ ds) (o ∷ known) h d f e = by (is_decl_listed these x) o (h 0) (shown_all these ds known (λ n g k. h (suc n) g k) d f) e
    where
      one : (b : Bool) (g : TheFace) → Is g → (face_among (shown_among these ds known) d ≡ Some f → Is f) → (if b then Some g else face_among (shown_among these ds known) d) ≡ Some f → Is f
      one true g is rest same = subst Is (let s : Some g ≡ Some f = same in let t : g ≡ f = cc in t) is
      one false g is rest same = rest same

      by : (b : Bool) (o : Option TheFace) → ((g : TheFace) → o ≡ Some g → Is g) → (face_among (shown_among these ds known) d ≡ Some f → Is f) → face_among (shown_if b x o ++ shown_among these ds known) d ≡ Some f → Is f
      by b None k rest same = rest same
      by true (Some g) k rest same = one (same_decl_place x d) g (k g refl) rest same
      by false (Some g) k rest same = rest same

-- declarations as they are written

module _ (In : List ℕ → List ℕ → MemberPlace → Type 0) where
  module _ (mean : Meaning) (f : FileOf) (es : List Entry) (named : (n : TypeName) → IsTermIn In (mean n)) where
    typed_any : (t : Term) → IsTermIn In t → IfAny (IsTermIn In) (typed (find_entry es) t)
    typed_any t h = either (IfAny (IsTermIn In)) (is_type_term (find_entry es) t) _ _ h tt

    type_any : (t : TypeTree) → Each (IsPlacedIn In f) (some_type_outers (Some t)) → IfAny (IsTermIn In) (type_written mean f es t)
    type_any t h = typed_any (settled (kinds_in es) (term_of mean f t)) (settled_in In (kinds_in es) (term_of mean f t) (term_in In mean f named t h))

    variable_in : (o : Option Term) → IfAny (IsTermIn In) o → IsFaceIn In (variable_face o)
    variable_in None h = tt
    variable_in (Some t) h = h

    value_in : (k : ValueKind) (t : Option TypeTree) → Each (IsPlacedIn In f) (some_type_outers t) → IsAnyIn In (writing.value_as_written mean f es k t)
    value_in value_kinds.Var (Some t) h = variable_in (type_written mean f es t) (type_any t h)
    value_in value_kinds.Var None h = tt
    value_in value_kinds.Const t h = tt

    -- an alias is the type that it is written as
    type_face_in : (mark : Option Span) (n : ℕ) (t : TypeTree) → Each (IsPlacedIn In f) (some_type_outers (Some t)) → IsFaceIn In (declared_face mark mean f es n t)
    type_face_in None n t h = typed_any (Defined (type_key f n)) tt
    type_face_in (Some m) n t h = type_any t h

    form_in : (n : ℕ) (form : FormTree) → Each (IsPlacedIn In f) (form_outers form) → IsAnyIn In (writing.form_as_written mean f es n form)
    form_in n (ValueForm k v i) h = value_in k v.type_expr (each_left (IsPlacedIn In f) (some_type_outers v.type_expr) (values_outers v.values) h)
    form_in n (TypeForm t) h = type_face_in (alias_mark t) n t.type_expr h
    form_in n (FuncForm g) h = settled_sign_in In (kinds_in es) (signature_of mean f g.signature) (signature_in In mean f named g.signature h)

    file_in : (ds : List TopDeclTree) → ((d : TopDeclTree) → Among ds d → IsDeclIn In f d) → (w : WrittenOf) → Among (file_written mean f es ds) w → IsAnyIn In w.face
    file_in ds own w at = (let d = among_map (written_of mean f es) ds w at in subst (λ (x : WrittenOf). IsAnyIn In x.face) d.2 (form_in d.0.number d.0.form (own d.0 d.1).types))

  module _ (means : Meanings) (path : List ℕ) (es : List Entry) (os : List FileOutline) (named : (file : ℕ) (n : TypeName) → IsTermIn In (means file n)) (own : AreDeclsIn In path os) where
    listed_in : (w : WrittenOf) → Among (written_with means path es os) w → IsAnyIn In w.face
    listed_in w at =
        let q = among_flat (λ (q : ℕ × FileOutline). file_written (means q.0) (file_at path q.0 q.1) es q.1.decls) (enumerate_from 0 os) w at in
        file_in (means q.0.0) (file_at path q.0.0 q.0.1) es (named q.0.0) q.0.1.decls (own q.0 q.1) w q.2

    found_in : (n : ℕ) (o : Option WrittenOf) → slice_get (written_with means path es os) n ≡ o → IsAnyIn In (face_found o)
    found_in n None e = tt
    found_in n (Some w) e = listed_in w (among_at (written_with means path es os) n w e)

    faces_written_in : (n : ℕ) → IsAnyIn In (written_at (written_with means path es os) n)
    faces_written_in n = found_in n (slice_get (written_with means path es os) n) refl

  written_face_in : (o : Option TheFace) → IsAnyIn In o → IsFaceIn In (written_face o)
  written_face_in None h = tt
  written_face_in (Some f) h = h

-- what is there outside functions, as a file names it

abbrev IsNamedOut : List PackageModel → FilePlace → List ℕ → Declaration → Type 0
IsNamedOut ps at name (Universe predeclared) = spelling_of predeclared ≡ name
IsNamedOut ps at name OfError = name ≡ codes "Error"
IsNamedOut ps at name (Package path) = IsPackageNamed ps at name path
IsNamedOut ps at name (InFile home place) = IsGlobal ps home name place

names_out : (ps : List PackageModel) (at : FilePlace) → AreNamesOf ps at (IsNamedOut ps at)
names_out ps at = record { global = λ home name place h. h; of_package = λ name path h. h; predeclared = λ name p h. h; error = λ name h. h }

names_at : (ps : List PackageModel) (at : FilePlace) → AreNamesOf ps at (IsThereUnder ps at)
names_at ps at = record { global = global_at; of_package = λ name path h. h; predeclared = λ name p h. h; error = λ name h. h }
  where
    global_at : (home name : List ℕ) (place : MemberPlace) → IsGlobal ps home name place → IsThereUnder ps at name (InFile home place)
    global_at home name (places.Declared d) h = (h, tt)
    global_at home name (places.Local l) h = absurd h

-- imports

abbrev import_occ : ImportSpecTree → Occ
import_occ s = occ_at roles.Import s.path.spelled s.path.span

lines_occur : (ls : List (ImportSpecTree × Option Span)) → group_occs import_occs ls ≡ map import_occ (map (λ l. l.0) ls)
lines_occur [] = refl
lines_occur (l ∷ ls) = ap (λ r. import_occ l.0 ∷ r) (lines_occur ls)

specs_occur : (s : Specs ImportSpecTree) → specs_occs import_occs s ≡ map import_occ (specs_in s)
specs_occur (Single s) = refl
specs_occur (Group first ls last) = lines_occur ls

imports_occur : (is : List ImportTree) → imports_occs is ≡ map import_occ (specs_of is)
imports_occur [] = refl
imports_occur (i ∷ more) = (λ j. specs_occur i.specs j ++ imports_occur more j) ∙ sym (map-append import_occ (specs_in i.specs) (specs_of more))

module _ (Named : List ℕ → Declaration → Type 0) (Imported_as : ℕ → Declaration → Type 0) where
  imports_there : (ss : List ImportSpecTree) (is : List Imported) → length ss ≡ length is
      → ((n : ℕ) (s : ImportSpecTree) (e : ExportsModel) → slice_get ss n ≡ Some s → slice_get is n ≡ Some (given_as.«Package» e) → Imported_as s.path.span.start (Package e.path))
      → AreThere Named Imported_as (map import_occ ss) (imports_uses ss is)
  imports_there [] [] same h before = tt
  imports_there [] (i ∷ is) same h before = absurd (let no : 0 ≡ suc (length is) = same in omega (arith, no))
  imports_there (s ∷ ss) [] same h before = absurd (let no : suc (length ss) ≡ 0 = same in omega (arith, no))
  imports_there (s ∷ ss) (given_as.«Package» e ∷ is) same h before = (h 0 s e refl refl, imports_there ss is (let less : suc (length ss) ≡ suc (length is) = same in omega (arith, less)) (λ n. h (suc n)) s.path.spelled)
  imports_there (s ∷ ss) (given_as.Refused rule ∷ is) same h before = (tt, imports_there ss is (let less : suc (length ss) ≡ suc (length is) = same in omega (arith, less)) (λ n. h (suc n)) s.path.spelled)

-- packages

module _ (ps : List PackageModel) (p : PackageIn) (far : List Entry) (c : CheckedOf) (placed : All IsPlaced p.trees) (there : AreFilesThere ps p.path p.trees)
    (far_in : AreEntriesIn (IsGlobal ps) far)
    (names : (name : List ℕ) (d : DeclRef) → in_block p.blocks.names name ≡ Some d → IsGlobal ps p.path name (places.Declared d))
    (binds : (n : ℕ) (t : FileTree) → slice_get p.trees n ≡ Some t → (name : List ℕ) (x : Binding) → file_binding p.blocks n name ≡ Some x → IsTargetThere ps (file_place p.path n (file_specs t) (imports_at p n)) name x.target)
    (other_faces : (path : List ℕ) (d : DeclRef) (f : TheFace) → face_in p.others path d ≡ Some f → IsFaceIn (IsGlobal ps) f)
    (shown : (path : List ℕ) (q : PackageFacesModel) (name : List ℕ) (d : DeclRef) → package_in p.others path ≡ Some q → in_block q.names name ≡ Some (Some d) → IsGlobal ps path name (places.Declared d))
    (given : IsChecked p far c) where
  abbrev Global : List ℕ → List ℕ → MemberPlace → Type 0
  Global = IsGlobal ps

  abbrev es : List Entry
  es = far ++ c.types

  abbrev os : List FileOutline
  os = outlines_in p

  abbrev means : Meanings
  means = package_meanings (shows_in p) p.path p.blocks

  -- a file of the package, and its tree
  abbrev at_file : ℕ → FileTree → FilePlace
  at_file n t = file_place p.path n (file_specs t) (imports_at p n)

  tree_placed : (n : ℕ) (t : FileTree) → slice_get p.trees n ≡ Some t → IsPlaced t
  tree_placed n t is = subst IsPlaced (get_or_from_slice_get p.trees n t t is) (placed n t (slice_get_within p.trees n t is))

  decl_in : (n : ℕ) (t : FileTree) → slice_get p.trees n ≡ Some t → (d : TopDeclTree) → Among (top_decls t) d → IsDeclIn Global (file_at p.path n (outline_of t)) d
  decl_in n t is d a = record {
    named = λ k. decl_global ps p.path n t d k (there n t is) a;
    types = each_of (IsPlacedIn Global (file_at p.path n (outline_of t))) (form_outers d.form) (λ o b. outer_global ps (at_file n t) t (there n t is) (tree_placed n t is) o (top_form t d a o b));
  }

  -- the tree of an outline
  record IsTreeOf (q : ℕ × FileOutline) : Type 0 where
    tree : FileTree
    among : slice_get p.trees q.0 ≡ Some tree
    is : outline_of tree ≡ q.1

  tree_of : (q : ℕ × FileOutline) → Among (enumerate_from 0 os) q → IsTreeOf q
  tree_of q a =
      let k = among_numbered 0 os q a in
      let t = item_mapped outline_of p.trees k.0 q.1 k.2 in
      let at = k.1 in
      let same : k.0 ≡ q.0 = omega (arith, at) in
      record { tree = t.0; among = subst (λ n. slice_get p.trees n ≡ Some t.0) same t.1; is = t.2 }

  own : AreDeclsIn Global p.path os
  own q a d b =
      let t = tree_of q a in
      subst (λ (o : FileOutline). IsDeclIn Global (file_at p.path q.0 o) d) t.is (decl_in q.0 t.tree t.among d (subst (λ (o : FileOutline). Among o.decls d) (sym t.is) b))

  named : (file : ℕ) (n : TypeName) → IsTermIn Global (means file n)
  named file n = meaning_in Global p.shows p.others p.path p.blocks os own other_faces file n

  written : AreEntriesIn Global (entries_in p)
  written = written_in Global means p.path os named own

  pub types_in : AreEntriesIn Global c.types
  types_in = own_in Global far (entries_in p) c.types given.types.loops written far_in given.types.built

  table : AreEntriesIn Global es
  table = entries_both Global far c.types far_in types_in

  faces_in : (n : ℕ) → IsAnyIn Global (written_at (scene_in p es).written n)
  faces_in n = faces_written_in Global means p.path es os named own n

  -- all that the declarations of a table are
  abbrev pub AreKnownIn : List (Option TheFace) → Type 0
  AreKnownIn known = (n : ℕ) → IsAnyIn Global (slice_index_or known n None)

  known_there : (known : List (Option TheFace)) → AreKnownIn known → (n : ℕ) (t : FileTree) → slice_get p.trees n ≡ Some t → IsKnownThere ps (at_file n t) (scene_in p es) known
  known_there known h n t is = record { table = table; names = names; binds = binds n t is; faces = other_faces; shown = shown; own = h }

  stand_out : (known : List (Option TheFace)) → AreKnownIn known → (n : ℕ) (t : FileTree) → slice_get p.trees n ≡ Some t → IsStandIn (IsNamedOut ps (at_file n t)) (stand_in p es known n (outline_of t)) (has_outer_place t)
  stand_out known h n t is =
      stand_there ps (at_file n t) (IsNamedOut ps (at_file n t)) (names_out ps (at_file n t)) (scene_in p es) known (known_there known h n t is) (stand_in p es known n (outline_of t)) (has_outer_place t) refl refl refl
      (named n) (outer_sound ps (at_file n t) t (there n t is))

  -- what its declarations are

  module _ (known : List (Option TheFace)) (h : AreKnownIn known) (n : ℕ) (t : FileTree) (is : slice_get p.trees n ≡ Some t) where
    abbrev st : FileStand
    st = stand_in p es known n (outline_of t)

    abbrev looks : TheLooks
    looks = outer_looks st

    abbrev at : FilePlace
    at = at_file n t

    initial_in : (k : ValueKind) (v : ValueSpecTree) (i : ℕ) → Each (IsGood (has_outer_place t)) (spec_types v) → IfAny (NearOperand (IsTermIn Global)) (initial looks k v i)
    initial_in k v i good =
        let law = stand_out known h n t is in
        let nothing : ℕ → Declaration → Type 0 = λ offset d. ⊤ in
        subst (λ (l : List (Option (Operand Term))). IfAny (NearOperand (IsTermIn Global)) (slice_index_or l i None)) (sym (outer_alike looks k v))
        (each_at (NearOperand (IsTermIn Global)) (outer_values looks k v) i
        (outer_values_in (IsNamedOut ps at) nothing st (has_outer_place t) law (λ name e. e) (outer_look st) (outer_sees (IsNamedOut ps at) nothing st (has_outer_place t) law (λ name e. e)) k v good))

    value_near : (w : Option TheFace) → IsAnyIn Global w → (k : ValueKind) (u : Option TypeTree) (v : ValueSpecTree) (i : ℕ) → Each (IsGood (has_outer_place t)) (spec_types v) → IsFaceIn Global (values.value_face looks w k u v i)
    value_near w x value_kinds.Const u v i good = initial_in value_kinds.Const v i good
    value_near w x value_kinds.Var None v i good = initial_in value_kinds.Var v i good
    value_near w x value_kinds.Var (Some u) v i good = written_face_in Global w x

    form_near : (w : Option TheFace) → IsAnyIn Global w → (form : FormTree) → ((o : Outer) → Among (form_outers form) o → has_outer_place t o ≡ true) → IsFaceIn Global (form_face looks w form)
    form_near w x (ValueForm k v i) good = value_near w x k v.type_expr v i (spec_good (has_outer_place t) v good)
    form_near w x (TypeForm u) good = written_face_in Global w x
    form_near w x (FuncForm g) good = written_face_in Global w x

    decl_near : (w : Option TheFace) → IsAnyIn Global w → (d : TopDeclTree) → Among (top_decls t) d → IsFaceIn Global (form_face looks w d.form)
    decl_near w x d a = form_near w x d.form (λ o b. outer_fits ps at t (there n t is) (tree_placed n t is) [] o (top_form t d a o b))

  firsts_in : (f : ℕ → Option TheFace) → ((m : ℕ) → IsAnyIn Global (f m)) → (n : ℕ) → AreKnownIn (first_values n f)
  firsts_in f h n = λ m. mapped_at (IsFaceIn Global) f (range_with_len 0 n) m h

  module _ (f : ℕ → Option TheFace) (h : (m : ℕ) → IsAnyIn Global (f m)) (n : ℕ) where
    abbrev count : ℕ
    count = length (scene_in p es).written

    -- a declaration of a file, with the file's outline
    there_near : (q : ℕ × FileOutline) → Among (enumerate_from 0 os) q → (d : TopDeclTree) → Among q.1.decls d → IsFaceIn Global (face_there p es f n (file_decl q.0 q.1 d))
    there_near q a d b =
        let t = tree_of q a in
        subst (λ (o : FileOutline). IsFaceIn Global (face_there p es f n (file_decl q.0 o d))) t.is
        (decl_near (first_values count f) (firsts_in f h count) q.0 t.tree t.among (written_at (scene_in p es).written n) (faces_in n) d (subst (λ (o : FileOutline). Among o.decls d) (sym t.is) b))

    some_near : (d : Option FileDecl) → slice_get (decls_in p) n ≡ d → IsFaceIn Global (some_decl_face p es f n d)
    some_near None e = written_face_in Global (written_at (scene_in p es).written n) (faces_in n)
    some_near (Some d) e =
        let q = among_flat (λ (q : ℕ × FileOutline). map (file_decl q.0 q.1) q.1.decls) (enumerate_from 0 os) d (among_at (decls_in p) n d e) in
        let k = among_map (file_decl q.0.0 q.0.1) q.0.1.decls d q.2 in
        subst (λ (x : FileDecl). IsFaceIn Global (face_there p es f n x)) k.2 (there_near q.0 q.1 k.0 k.1)

    declared_near : IsFaceIn Global (declared_in p es f n)
    declared_near = some_near (slice_get (decls_in p) n) refl

  looks_at_needs : (f g : ℕ → Option TheFace) (n : ℕ) → ((m : ℕ) → Contains (needed (needs_in p es) n) m → f m ≡ g m) → declared_in p es f n ≡ declared_in p es g n
  looks_at_needs f g n h =
      sym (faces_same p es placed f n)
      ∙ (needs_decide (scene_in p es) (package_placed p es) f g n (λ m c. h m (subst (λ (rows : List (List ℕ)). Contains (needed rows n) m) (needs_same p es) c))
      ∙ faces_same p es placed g n)

  abbrev rows : List (List ℕ)
  rows = needs_in p es

  near_if : (o : Option TheFace) (m : ℕ) → known_in c.declared m ≡ o → ((v : TheFace) → known_in c.declared m ≡ Some v → IsFaceIn Global v) → IsAnyIn Global o
  near_if None m e h = tt
  near_if (Some v) m e h = h v e

  kept_near : (ns : List ℕ) (m : ℕ) (d : Among ns m ⊎ (Among ns m → ⊥)) → ((b : ℕ) → Contains ns b → (v : TheFace) → known_in c.declared b ≡ Some v → IsFaceIn Global v) → IsAnyIn Global (kept (known_in c.declared) ns m d)
  kept_near ns m (inl among) h = near_if (known_in c.declared m) m refl (h m (among_to ns m among))
  kept_near ns m (inr other) h = tt

  kept_same : (ns : List ℕ) (m : ℕ) (d : Among ns m ⊎ (Among ns m → ⊥)) → Contains ns m → known_in c.declared m ≡ kept (known_in c.declared) ns m d
  kept_same ns m (inl among) x = refl
  kept_same ns m (inr other) x = absurd (other (among_from ns m x))

  near_at : (n a : ℕ) → EndsWithin rows n a → (v : TheFace) → known_in c.declared a ≡ Some v → IsFaceIn Global v
  near_at zero a ends v e = absurd ends
  near_at (suc n) a ends v e =
      let ns = needed rows a in
      let f : ℕ → Option TheFace = λ m. kept (known_in c.declared) ns m (is_or_not ns m) in
      let near = declared_near f (λ m. kept_near ns m (is_or_not ns m) (λ b x w k. near_at n b (ends b x) w k)) a in
      let same = given.declared.values a v e ∙ looks_at_needs (known_in c.declared) f a (λ m x. kept_same ns m (is_or_not ns m) x) in
      subst (IsFaceIn Global) (sym same) near

  pub known_inside : AreKnownIn c.declared
  known_inside n = near_if (known_in c.declared n) n refl (λ v e. near_at (length rows) n (given.declared.ends n v e) v e)

  -- what it shows

  known_item : (n : ℕ) (f : TheFace) → slice_index_or c.declared n None ≡ Some f → IsFaceIn Global f
  known_item n f e = subst (IsAnyIn Global) e (known_inside n)

  pub shown_inside : (d : DeclRef) (f : TheFace) → face_by c.faces d ≡ Some f → IsFaceIn Global f
  shown_inside d f e =
      shown_all (IsFaceIn Global) (exported_decls p.blocks.names) (decls_of (scene_in p es).written) c.declared known_item d f (ap (λ (q : PackageFacesModel). face_by q d) (sym given.faces) ∙ e)

  -- its files

  pub uses_there : (n : ℕ) (t : FileTree) → slice_get p.trees n ≡ Some t → Wf_file t → length (file_specs t) ≡ length (imports_at p n)
      → ((e : ExportsModel) → Among (imports_at p n) (given_as.«Package» e) → IsShownThere ps e)
      → AreThereAs (IsThereUnder ps (at_file n t)) (IsImportThereAt ps (at_file n t)) [] (file_occs t) (file_uses (stand_at p es c.declared (n, t)) (imports_at p n) t)
  uses_there n t is wf count come =
      let at = at_file n t in
      let st = stand_at p es c.declared (n, t) in
      let here = there n t is in
      let law : IsStandIn (IsThereUnder ps at) st (has_place t) =
      stand_there ps at (IsThereUnder ps at) (names_at ps at) (scene_in p es) c.declared (known_there c.declared known_inside n t is) st (has_place t) refl refl refl
      (λ name. term_wider Global (λ home word place. IsThereUnder ps at word (InFile home place)) (names_at ps at).global (means n name) (named n name)) (sound ps at t here) in
      let good = tops_good (has_place t) (IsNameHere (IsThereUnder ps at) st) t (λ o a. outer_fits ps at t here (tree_placed n t is) (inner_names t) o a)
      (λ g a u b o d. type_fits ps at t here (tree_placed n t is) g a u o b d) (λ g a x b. name_seen ps at t here (tree_placed n t is) g a x b) in
      both_there (IsThereUnder ps at) (IsImportThereAt ps at) (imports_occs t.imports) (tops_occs t.decls) (imports_uses (file_specs t) (imports_at p n)) (tops_uses st t.decls)
      (subst (λ os. AreThere (IsThereUnder ps at) (IsImportThereAt ps at) os (imports_uses (file_specs t) (imports_at p n))) (sym (imports_occur t.imports))
      (imports_there (IsThereUnder ps at) (IsImportThereAt ps at) (file_specs t) (imports_at p n) count
      (λ k s e w m. record { spec = s; clause = e.name; stands = refl; import_there = import_there ps at come k s e w m })))
      (tops_there (IsThereUnder ps at) (IsImportThereAt ps at) st (has_place t) law (λ name e. e) t.decls wf.1 good) []
