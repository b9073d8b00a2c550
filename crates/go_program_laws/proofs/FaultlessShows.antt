-- What the packages of a workspace show as a type is what its name means where a type is written.
use Rattle.std.proofs.Common.{◌≡◌, inl, inr, ◌⊎◌, ℕ, zero, suc, ◌<◌, ◌&&◌, Bool, true, false, List, [], ◌∷◌, ◌++◌, map, not, Option, Some, None, refl, sym, ap, subst, ◌∙◌, append-nil, arith, if◌then◌else◌, All}
use Rattle.std.specs.Prelude.{Contains, nat_eq, nat_lt, slice_get}
use Rattle.std.specs.Option.{option_map}
use Rattle.std.specs.Str.{bytes_eq, chars}
use Rattle.std.proofs.lemmas.Bool.{and_parts, eqb-true, false_from_ne_true, ltb-true, or_cases}
use Rattle.std.proofs.lemmas.Grind.{flat_map-append}
use Rattle.std.proofs.lemmas.List.Elements.{Contains-push}
use Rattle.std.proofs.lemmas.Slice.Eq.{bytes_eq-Decides}
use Rattle.go_constant_core.specs.text_core.Text.{exported}
use Rattle.go_constant_core.specs.text_core.declared.span.Span.{Span}
use Rattle.go_tree_nodes.specs.declared.types.TypeName.{TypeName}
use Rattle.go_tree_nodes.specs.Rules.{Wf_file, Wf_type_spec}
use Rattle.go_term_core.specs.decl_core.declared.keys.DeclKey.{DeclKey}
use Rattle.go_term_core.specs.decl_core.declared.keys.DeclRef.{DeclRef}
use Rattle.go_graph_core.specs.Packages.{trees_of}
use Rattle.go_names_core.specs.block_core.declared.binding.Binding.{Binding}
use Rattle.go_names_core.specs.block_core.declared.binding.Target.TheVariants as targets
use Rattle.go_names_core.specs.block_core.declared.imports.Imported.TheVariants as given
use Rattle.go_names_core.specs.block_core.Bindings.{key_of}
use Rattle.go_names_core.specs.block_core.Blocks.{exports_of, file_binding}
use Rattle.go_names_core.specs.block_core.Declarations.{package_declared}
use Rattle.go_names_core.specs.block_core.Exports.{ExportsModel}
use Rattle.go_names_core.specs.block_core.Tables.{in_block}
use Rattle.go_term_core.specs.Terms.{Term, NoType, Predeclared as Basic, ErrorType, Defined, PointerTo, StructOf, InterfaceOf, is_no_type, term_keys}
use Rattle.go_term_core.proofs.SettlingAgain.{term_again}
use Rattle.go_term_core.proofs.SettlingLocal.{settling_is_local}
use Rattle.go_term_core.specs.settling.Settled.{defined_unless, kind_of_term, settled}
use Rattle.go_body_core.specs.table_core.Entries.{Entry, EntryLook, find_entry, kinds_in, term_in}
use Rattle.go_meaning_laws.specs.handle_core.DecidingConversion.{is_type_term}
use Rattle.go_meaning_laws.specs.handle_core.DecidingRules.{typed}
use Rattle.go_body_core.specs.typexpr_core.WrittenWritten.{InFile, term_of}
use Rattle.go_body_core.specs.typexpr_core.EntryMeanings.{declared_alone, file_meaning, named_meaning, shown_type, through, type_of_key, type_of_kind}
use Rattle.go_body_core.specs.typexpr_core.EntryShowing.{shown_in}
use Rattle.go_body_core.specs.typexpr_core.EntryShown.{shows_its_block}
use Rattle.go_tree_nodes.specs.Trees.{FileTree}
use Rattle.go_body_core.specs.typexpr_core.EntryEntries.{file_at, package_meanings, type_key}
use Rattle.go_body_core.specs.typexpr_core.EntryOutlines.{FileOutline, IsOutline, outline_of}
use Rattle.go_body_core.specs.typexpr_core.EntryTargeting.{through_itself}
use Rattle.go_body_core.specs.typexpr_core.AliasesOutlined.{written_aliases}
use Rattle.go_emit_core.specs.declared_core.declared.face.Face.TheVariants as faces
use Rattle.go_emit_core.specs.declared_core.declared.shown.ShownFace.TheVariants as shown_faces
use Rattle.go_emit_core.specs.declared_core.Faces.{TheFace}
use Rattle.go_emit_core.specs.declared_core.Here.{face_type, far_type, type_or_none}
use Rattle.go_emit_core.specs.declared_core.Packages.{DeclaredOf, PackageFacesModel, exported_in, face_among, face_by, face_in, names_seen, package_faces, package_in, shown_by, shown_in_some}
use Rattle.go_emit_core.specs.declared_core.Written.{DeclsRise, IsDeclBefore, WrittenOf, declared_face, decls_of, position_of, same_decl_place, type_written}
use Rattle.go_emit_core.specs.declared_core.Ascending.{written_rises}
use Rattle.go_emit_core.specs.declared_core.Placed.{same_parts}
use Rattle.go_emit_core.specs.declared_core.Displaying.{shows_its_block as faces_show}
use Rattle.go_report_core.specs.answer.Shown.{exported_decls, is_decl_listed, package_shown, shown_among, shown_if}
use Rattle.go_body_core.specs.env_core.Found.{face_at, own_face}
use Rattle.go_body_core.specs.env_core.Scenes.{SceneModel}
use Rattle.go_report_core.specs.summary_core.Laws.{TellsWhatItDoes}
use Rattle.go_report_core.specs.summary_core.Summaries.{IsOfOne, SummaryModel, path_of}
use Rattle.go_report_core.specs.summary_core.Views.{exports_told, faces_told, types_told}
use Rattle.go_report_core.specs.summary_core.Telling.{views_tell}
use Rattle.go_report_core.specs.summary_core.Viewed.{text_apart}
use Rattle.go_emit_core.specs.package_core.PreparePackages.{PackageIn, outlines_in, scene_in, shows_in, trees_in}
use Rattle.go_emit_core.specs.package_core.PrepareValues.{AreDeclared}
use Rattle.go_emit_core.specs.package_core.PackagePartInputs.{InputModel, path_in}
use Rattle.go_emit_core.specs.package_core.PackagePartParts.{ContentOf, IsPart, PartModel, package_seen, seen_by}
use Rattle.go_emit_core.specs.package_core.PackagePartSlots.{somes}
use Rattle.go_emit_core.specs.Emitted.{told_to}
use Rattle.go_graph_core.specs.Workspaces.{IsWorkspace, PackageModel}
use Rattle.go_body_core.specs.typexpr_core.EntryAmong.{Among, among_cases, among_from, among_left, among_map, among_right, among_to}
use Rattle.go_graph_core.proofs.PlanLaws.{has_plan}
use Rattle.go_graph_core.specs.Plans.{IsPlan, PlanModel}
use Rattle.go_snap_core.specs.whole_workspace.Inputs.{ComesTo, ReachesPackage, Shown}
use Rattle.go_snap_core.specs.whole_workspace.Known.{KnownAlike, type_keys}
use Rattle.go_snap_core.proofs.WholeWorkspaceLists.{all_from_among, among_all}
use Rattle.go_snap_core.specs.whole_workspace.LocalLaws.{CheckIsLocal, ImportsBindTheirs}
use Rattle.go_snap_core.proofs.WholeWorkspaceOrder.{reaches_next, reaches_on}
use Rattle.go_snap_core.proofs.WholeWorkspaceParts.{all_inside, none_reached, of_one, path_told, reach_paths, told_by, told_to as told_there, well_reached}
use Rattle.go_snap_core.proofs.WholeWorkspacePartsWhole.{all_right}
use Rattle.go_snap_core.proofs.WholeWorkspaceTheirs.{passes}
use Rattle.go_snap_core.proofs.WholeWorkspaceTold.{AreWell, NoneIsOf, known_alike, known_by}
use Rattle.go_snap_core.specs.whole_workspace.mirrors.Steps.{AreRight}
use Rattle.go_session_core.specs.type_doc_core.mirrors.Named.{IsNoType, is_type}
use Rattle.go_session_core.specs.type_doc_core.Known.{face_plain}
use Rattle.go_program_laws.specs.types.Functions.{known_types}
use Rattle.go_program_laws.specs.types.Written.{ShowTheirTypes, meant_in, seen_in, typed_in}
use Rattle.go_program_laws.specs.calls.Integers.{PartsAreRead}
use Rattle.go_workspace_laws.proofs.ConstantLists.{has_get, has_of_all}
use Rattle.go_workspace_laws.proofs.Grammar.{all_keep_rules}
use Rattle.go_workspace_laws.proofs.Ruled.{file_ruled}
use Rattle.go_program_laws.specs.faultless.Parts.{PartsShowTheirTypes}
use Rattle.go_program_laws.proofs.FaultlessAlike.{apart_more, numbered_in}
use Rattle.go_program_laws.proofs.FaultlessAliased.{alias_is, is_no_alias, mean_far, mean_itself, mean_step, named_alone}
use Rattle.go_program_laws.proofs.FaultlessFaced.{IsTypeOf, outlines_all, type_kind, type_of_name}
use Rattle.go_program_laws.proofs.FaultlessDotted.{block_unique, bound_shown, exported_among, import_stands}

-- settled types

pub settled_same : (es : List Entry) (k : DeclKey) → typed_in es (Defined k) ≡ typed (find_entry es) (Defined k)
settled_same es k = by (term_in (find_entry es k)) refl
  where
    by : (u : Term) → term_in (find_entry es k) ≡ u → typed (find_entry es) (defined_unless (kind_of_term u) k) ≡ typed (find_entry es) (Defined k)
    by NoType e = sym (ap (λ (u : Term). if not (is_no_type u) then Some (Defined k) else None) e)
    by (Basic b) e = refl
    by ErrorType e = refl
    by (Defined j) e = refl
    by (PointerTo u) e = refl
    by (StructOf path fs) e = refl
    by (InterfaceOf path ms) e = refl

-- what is a type of a table is a type of it as it is
typed_is : (look : EntryLook) (x u : Term) → typed look x ≡ Some u → x ≡ u
typed_is look x u h = by (is_type_term look x) h
  where
    by : (b : Bool) → (if b then Some x else None) ≡ Some u → x ≡ u
    by true e = (let same : Some x ≡ Some u = e in cc same)
    by false e = absurd (let no : None ≡ Some u = e in cc no)

typed_again : (es : List Entry) (y : Term) (t : Option Term) → typed_in es y ≡ t → typed_in es (type_or_none t) ≡ t
typed_again es y None h = refl
typed_again es y (Some u) h =
    let same : settled (kinds_in es) y ≡ u = typed_is (find_entry es) (settled (kinds_in es) y) u h in
    ap (typed_in es) (sym same) ∙ (ap (typed (find_entry es)) (term_again (kinds_in es) y) ∙ h)

-- so it is of another that has the same under the keys in it
typed_alike : (look other : EntryLook) (u : Term) → ((k : DeclKey) → Contains (term_keys u) k → look k ≡ other k) → typed look u ≡ typed other u
typed_alike look other NoType h = refl
typed_alike look other (Basic b) h = refl
typed_alike look other ErrorType h = refl
typed_alike look other (Defined k) h = ap (λ (o : Option Entry). if not (is_no_type (term_in o)) then Some (Defined k) else None) (h k (Contains-push [] k))
typed_alike look other (PointerTo t) h = refl
typed_alike look other (StructOf path fs) h = refl
typed_alike look other (InterfaceOf path ms) h = refl

typed_elsewhere : (es fs : List Entry) (t : Option Term) → ((k : DeclKey) → Contains (type_keys t) k → find_entry es k ≡ find_entry fs k) → typed_in es (type_or_none t) ≡ t → typed_in fs (type_or_none t) ≡ t
typed_elsewhere es fs None alike h = refl
typed_elsewhere es fs (Some u) alike h =
    let kept : settled (kinds_in es) u ≡ u = typed_is (find_entry es) (settled (kinds_in es) u) u h in
    let same : settled (kinds_in es) u ≡ settled (kinds_in fs) u = settling_is_local (kinds_in es) (kinds_in fs) u (λ k c. ap (λ (o : Option Entry). kind_of_term (term_in o)) (alike k c)) in
    ap (typed (find_entry fs)) (sym same ∙ kept) ∙ (sym (typed_alike (find_entry es) (find_entry fs) u alike) ∙ (ap (typed (find_entry es)) (sym kept) ∙ h))

-- declarations that rise have one place each

abbrev IsAt : DeclRef → DeclRef → Type 0
IsAt a b = (a.file < b.file) ⊎ ((a.file ≡ b.file) × (a.number < b.number))

before_at : (a b : DeclRef) → IsDeclBefore a b → IsAt a b
before_at a b h = elim (or_cases (nat_lt a.file b.file) (nat_eq a.file b.file && nat_lt a.number b.number) h) [
  | inl f ↦ inl (ltb-true a.file b.file f)
  | inr s ↦ (let p = and_parts (nat_eq a.file b.file) (nat_lt a.number b.number) s in inr (eqb-true a.file b.file p.0, ltb-true a.number b.number p.1))
]

at_onward : (a b c : DeclRef) → IsAt a b → IsAt b c → IsAt a c
at_onward a b c (inl f) (inl g) = inl (omega (arith, f, g))
at_onward a b c (inl f) (inr t) = let e = t.0 in inl (omega (arith, f, e))
at_onward a b c (inr s) (inl g) = let e = s.0 in inl (omega (arith, e, g))
at_onward a b c (inr s) (inr t) = let m = s.1 in let n = t.1 in inr (s.0 ∙ t.0, omega (arith, m, n))

abbrev IsAtAll : DeclRef → List DeclRef → Type 0
IsAtAll d [] = Unit {0}
IsAtAll d (e ∷ es) = IsAt d e × IsAtAll d es

earlier_all : (d e : DeclRef) (es : List DeclRef) → IsAt d e → IsAtAll e es → IsAtAll d es
earlier_all d e [] first all = tt
earlier_all d e (f ∷ es) first all = (at_onward d e f first all.0, earlier_all d e es first all.1)

rise_all : (d : DeclRef) (ds : List DeclRef) → DeclsRise (d ∷ ds) → IsAtAll d ds
rise_all d [] rise = tt
rise_all d (e ∷ ds) rise = (let first = before_at d e rise.0 in (first, earlier_all d e ds first (rise_all e ds rise.1)))

rise_tail : (d : DeclRef) (ds : List DeclRef) → DeclsRise (d ∷ ds) → DeclsRise ds
rise_tail d [] rise = tt
rise_tail d (e ∷ ds) rise = rise.1

apart_at : (a b d : DeclRef) → IsAt a b → same_decl_place a d ≡ true → same_decl_place b d ≡ true → ⊥
apart_at a b d (inl f) x y = (let p = same_parts a d x in let q = same_parts b d y in let e = p.0 in let g = q.0 in absurd (omega (arith, f, e, g)))
apart_at a b d (inr s) x y = (let p = same_parts a d x in let q = same_parts b d y in let e = p.1 in let g = q.1 in let m = s.1 in absurd (omega (arith, m, e, g)))

-- what is shown of a declaration is what is known of it, by its position

module _ (these : List DeclRef) (d : DeclRef) where
  passed : (s : Bool) (a : DeclRef) (k : Option TheFace) (xs : List DeclaredOf) → same_decl_place a d ≡ false → face_among (shown_if s a k ++ xs) d ≡ face_among xs d
  passed s a None xs e = refl
  passed true a (Some g) xs e = ap (λ (b : Bool). if b then Some g else face_among xs d) e
  passed false a (Some g) xs e = refl

  behind_none : (a : DeclRef) (ds : List DeclRef) (known : List (Option TheFace)) → IsAtAll a ds → same_decl_place a d ≡ true → face_among (shown_among these ds known) d ≡ None
  behind_none a [] known all e = refl
  behind_none a (b ∷ ds) [] all e = refl
  behind_none a (b ∷ ds) (k ∷ known) all e =
      passed (is_decl_listed these b) b k (shown_among these ds known) (false_from_ne_true (same_decl_place b d) (λ x. apart_at a b d all.0 e x)) ∙ behind_none a ds known all.1 e

  module _ (f : TheFace) where
    onward : (k : Option TheFace) (known : List (Option TheFace)) (o : Option ℕ) → face_at known o ≡ Some f → face_at (k ∷ known) (option_map suc o) ≡ Some f
    onward k known None h = absurd (let no : None ≡ Some f = h in cc)
    onward k known (Some n) h = h

    first_known : (s : Bool) (a : DeclRef) (k : Option TheFace) (xs : List DeclaredOf) → same_decl_place a d ≡ true → face_among xs d ≡ None → face_among (shown_if s a k ++ xs) d ≡ Some f → k ≡ Some f
    first_known s a None xs e none h = absurd (let no : None ≡ Some f = sym none ∙ h in cc)
    first_known true a (Some g) xs e none h = sym (ap (λ (b : Bool). if b then Some g else face_among xs d) e) ∙ h
    first_known false a (Some g) xs e none h = absurd (let no : None ≡ Some f = sym none ∙ h in cc)

    pub shown_known : (ws : List WrittenOf) (known : List (Option TheFace)) → DeclsRise (decls_of ws) → face_among (shown_among these (decls_of ws) known) d ≡ Some f → face_at known (position_of ws d) ≡ Some f
    shown_known [] known rise h = absurd (let no : None ≡ Some f = h in cc)
    shown_known (w ∷ ws) [] rise h = absurd (let no : None ≡ Some f = h in cc)
    shown_known (w ∷ ws) (k ∷ known) rise h = by (same_decl_place w.decl d) refl (shown_known ws known (rise_tail w.decl (decls_of ws) rise))
      where
        by : (b : Bool) → same_decl_place w.decl d ≡ b → (face_among (shown_among these (decls_of ws) known) d ≡ Some f → face_at known (position_of ws d) ≡ Some f)
            → face_at (k ∷ known) (if b then Some 0 else option_map suc (position_of ws d)) ≡ Some f
        by true e rest = first_known (is_decl_listed these w.decl) w.decl k (shown_among these (decls_of ws) known) e (behind_none w.decl (decls_of ws) known (rise_all w.decl (decls_of ws) rise) e) h
        by false e rest = onward k known (position_of ws d) (rest (sym (passed (is_decl_listed these w.decl) w.decl k (shown_among these (decls_of ws) known) e) ∙ h))

outline_at : (fs : List FileTree) (n : ℕ) (o : FileOutline) → slice_get (map outline_of fs) n ≡ Some o → IsOutline o
outline_at [] n o e = absurd (let no : None ≡ Some o = e in cc no)
outline_at (f ∷ fs) zero o e = (let some : Some (outline_of f) ≡ Some o = e in let same : outline_of f ≡ o = cc some in (f, sym same))
outline_at (f ∷ fs) (suc n) o e = outline_at fs n o e

-- a package

module _ (i : InputModel) (c : ContentOf) (part : IsPart i c) where
  abbrev es : List Entry
  es = known_types i c

  abbrev seen : PackageIn
  seen = package_seen i c.blocks (seen_by i)

  abbrev scene : SceneModel
  scene = scene_in seen es

  pub types_are : types_told (told_to i c) ≡ types_told i.reached ++ part.checked.types
  types_are =
      flat_map-append (λ (s : SummaryModel). s.types.entries) i.reached (c.summary ∷ [])
      ∙ ap (λ l. types_told i.reached ++ l) (append-nil c.summary.types.entries ∙ ap (λ (s : SummaryModel). s.types.entries) part.summary)

  pub declared : AreDeclared seen es c.declared
  declared = subst (λ ks. AreDeclared seen es ks) (sym part.declared) (subst (λ ts. AreDeclared seen ts part.checked.declared) (sym types_are) part.is_checked.declared)

  pub faces_are : c.summary.faces ≡ package_shown (path_in i) c.blocks (decls_of scene.written) c.declared
  faces_are =
      ap (λ (s : SummaryModel). s.faces) part.summary
      ∙ (part.is_checked.faces
      ∙ (ap (λ ts. package_shown (path_in i) c.blocks (decls_of (scene_in seen ts).written) part.checked.declared) (sym types_are) ∙ ap (λ ks. package_shown (path_in i) c.blocks (decls_of scene.written) ks) (sym part.declared)))

  pub rises : DeclsRise (decls_of scene.written)
  rises = written_rises (package_meanings (shows_in seen) seen.path seen.blocks) seen.path es (map outline_of (trees_in i.source)) (outlines_all (trees_in i.source))

  pub unique : (e : List ℕ × DeclRef) → Among c.blocks.names e → in_block c.blocks.names e.0 ≡ Some e.1
  unique = subst (λ (ns : List (List ℕ × DeclRef)). (e : List ℕ × DeclRef) → Among ns e → in_block ns e.0 ≡ Some e.1) (sym part.blocks.package_names) (block_unique [] (package_declared (trees_of i.source.1)) (λ e a. absurd a))

  abbrev own_path : List ℕ
  own_path = path_in i

  abbrev target : DeclKey → Term
  target = (shows_in seen).target

  abbrev aliases : List (DeclRef × Term)
  aliases = written_aliases seen.shows own_path c.blocks (outlines_in seen)

  abbrev far : DeclKey → Term
  far = far_type (faces_told i.reached)

  path_same : bytes_eq own_path own_path ≡ true
  path_same = (bytes_eq-Decides own_path own_path).1 refl

  -- what is no declaration of its own means what its package shows
  pub target_far : (k : DeclKey) → (own_path ≡ k.path → ⊥) → target k ≡ far k
  target_far k apart = mean_far aliases own_path far k (text_apart own_path k.path apart)

  module _ (rules : All Wf_file (trees_in i.source)) (name : List ℕ) (d : DeclRef) (t : Option Term) (at : in_block c.blocks.names name ≡ Some d) (known : own_face scene c.declared d ≡ Some (faces.«Type» t)) where
    module _ (is : is_type d.kind ≡ true) where
      own : IsTypeOf seen es c.declared d
      own = type_of_name seen (trees_of i.source.1) refl part.blocks.package_names es c.declared declared name d at is

      abbrev mean : TypeName → Term
      mean = file_meaning (shows_in seen) own_path c.blocks own.found.file

      abbrev file : InFile
      file = file_at own_path own.found.file own.found.outline

      abbrev key : DeclKey
      key = type_key file own.found.decl.number

      -- by what it means where it stands
      moved_key : (u : Term) → target key ≡ u → typed_in es u ≡ t → typed_in es (target (key_of own_path d)) ≡ t
      moved_key u means same = ap (λ (k : DeclKey). typed_in es (target k)) (sym own.key) ∙ (ap (typed_in es) means ∙ same)

      ruled : Wf_type_spec own.spec
      ruled = file_ruled own.tree own.found.decl own.spec (has_of_all Wf_file (trees_in i.source) own.tree rules (has_get (trees_in i.source) own.found.file own.tree own.in_package)) own.among own.form

      known_by_mark : (mark : Option Span) → own.spec.alias ≡ mark → Some (declared_face mark mean file es own.found.decl.number own.spec.type_expr) ≡ Some (faces.«Type» t) → typed_in es (target (key_of own_path d)) ≡ t
      known_by_mark None e both =
          let faces_same : Some (faces.«Type» (typed (find_entry es) (Defined key))) ≡ Some (faces.«Type» t) = both in
          let same : typed (find_entry es) (Defined key) ≡ t = cc faces_same in
          moved_key (Defined key) (mean_itself aliases own_path far key path_same (is_no_alias seen.shows own_path c.blocks (outlines_in seen) (outline_at seen.trees) own.found own.spec own.form e)) (settled_same es key ∙ same)
      known_by_mark (Some m) e both =
          let faces_same : Some (faces.«Type» (type_written mean file es own.spec.type_expr)) ≡ Some (faces.«Type» t) = both in
          let same : type_written mean file es own.spec.type_expr ≡ t = cc faces_same in
          let n = named_alone own.spec.alias m own.spec.type_expr e ruled.1 in
          let named : Term = named_meaning seen.shows own_path c.blocks own.found.file n.0 in
          let raw : term_of (package_meanings (declared_alone seen.shows) own_path c.blocks own.found.file) file own.spec.type_expr ≡ named =
          ap (term_of (package_meanings (declared_alone seen.shows) own_path c.blocks own.found.file) file) n.1 ∙ sym (through_itself named) in
          let alias = alias_is seen.shows own_path c.blocks (outlines_in seen) (outline_at seen.trees) own.found own.spec m own.form e ∙ ap (λ (u : Term). Some u) raw in
          moved_key (through target named) (mean_step aliases own_path far key named alias) (sym (ap (type_written mean file es) n.1) ∙ same)

      -- what a declaration of its own means that is known as a type
      known_type : typed_in es (target (key_of own_path d)) ≡ t
      known_type = known_by_mark own.spec.alias refl (sym own.face ∙ known)

    -- it is a declaration of a type, and means that type
    pub own_type : (is_type d.kind ≡ true) × (meant_in i c (type_of_key (key_of own_path d)) ≡ t)
    own_type = by (is_type d.kind) refl
      where
        by : (b : Bool) → is_type d.kind ≡ b → (is_type d.kind ≡ true) × (meant_in i c (type_of_key (key_of own_path d)) ≡ t)
        by true e = (e, ap (λ k. meant_in i c (type_of_kind (key_of own_path d) k)) (type_kind d.kind e) ∙ known_type e)
        by false e =
            let plain : IsNoType (own_face scene c.declared d) = face_plain seen (trees_of i.source.1) refl part.blocks.package_names es c.declared declared name d at e in
            absurd (subst IsNoType known plain)

  -- what it shows as a type under a name of its block is a type of it
  pub record IsTypeShown (d : DeclRef) (t : Option Term) : Type 0 where
    pub kind : is_type d.kind ≡ true
    pub same : typed_in es (type_or_none t) ≡ t
    pub face : face_by c.summary.faces d ≡ Some (faces.«Type» t)

  pub type_shown : All Wf_file (trees_in i.source) → (name : List ℕ) (d : DeclRef) (t : Option Term) → in_block c.blocks.names name ≡ Some d → face_by c.summary.faces d ≡ Some (faces.«Type» t) → IsTypeShown d t
  type_shown rules name d t at h =
      let known : own_face scene c.declared d ≡ Some (faces.«Type» t) =
      shown_known (exported_decls c.blocks.names) d (faces.«Type» t) scene.written c.declared rises (sym (ap (λ (m : PackageFacesModel). face_by m d) faces_are) ∙ h) in
      let own = own_type rules name d t at known in
      record { kind = own.0; same = typed_again es (through target (type_of_key (key_of own_path d))) t own.1; face = h }

  -- a name that is seen behind a dot
  pub record IsSeen (name : List ℕ) (d : DeclRef) (f : TheFace) : Type 0 where
    pub there : in_block c.blocks.names name ≡ Some d
    pub out : exported (chars name) ≡ true
    pub face : face_by c.summary.faces d ≡ Some f

  abbrev listed : List DeclaredOf
  listed = shown_among (exported_decls c.blocks.names) (decls_of scene.written) c.declared

  pub name_seen : (name : List ℕ) (d : DeclRef) (f : TheFace) → shown_by c.summary.faces name ≡ shown_faces.Shown d (Some f) → IsSeen name d f
  name_seen name d f h = by (in_block c.blocks.names name) (exported (chars name)) refl refl
    where
      here : shown_by (package_faces (path_in i) (names_seen c.blocks.names) listed) name ≡ shown_faces.Shown d (Some f)
      here = sym (ap (λ (m : PackageFacesModel). shown_by m name) faces_are) ∙ h

      by : (o : Option DeclRef) (x : Bool) → in_block c.blocks.names name ≡ o → exported (chars name) ≡ x → IsSeen name d f
      by None x k e = absurd (let no : shown_faces.Absent ≡ shown_faces.Shown d (Some f) = sym (faces_show.absent (path_in i) c.blocks.names listed name k) ∙ here in cc no)
      by (Some a) false k e = absurd (let no : shown_faces.Hidden ≡ shown_faces.Shown d (Some f) = sym (faces_show.hidden (path_in i) c.blocks.names listed name a k e) ∙ here in cc no)
      by (Some a) true k e =
          let both : shown_faces.Shown a (face_among listed a) ≡ shown_faces.Shown d (Some f) = sym (faces_show.shown (path_in i) c.blocks.names listed name a k e) ∙ here in
          let one : a ≡ d = cc both in
          let face : face_among listed a ≡ Some f = cc both in
          record {
            there = k ∙ ap (λ (x : DeclRef). Some x) one;
            out = e;
            face = ap (λ (m : PackageFacesModel). face_by m d) faces_are ∙ (ap (face_among listed) (sym one) ∙ face);
          }

-- of some packages the one that shows a name
pub exported_from : (ss : List SummaryModel) (path name : List ℕ) (d : DeclRef) (o : Option TheFace) → exported_in (faces_told ss) path name ≡ shown_faces.Shown d o → (s : SummaryModel) × Among ss s × (path ≡ s.faces.path)
exported_from [] path name d o h = absurd (let no : shown_faces.Absent ≡ shown_faces.Shown d o = h in cc no)
exported_from (s ∷ ss) path name d o h = by (bytes_eq path s.faces.path) refl h (λ k. exported_from ss path name d o k)
  where
    by : (b : Bool) → bytes_eq path s.faces.path ≡ b → shown_in_some (if b then Some s.faces else package_in (faces_told ss) path) name ≡ shown_faces.Shown d o
        → (exported_in (faces_told ss) path name ≡ shown_faces.Shown d o → (t : SummaryModel) × Among ss t × (path ≡ t.faces.path)) → (t : SummaryModel) × Among (s ∷ ss) t × (path ≡ t.faces.path)
    by true e h rest = (s, inl refl, (bytes_eq-Decides path s.faces.path).0 e)
    by false e h rest = (let r = rest h in (r.0, inr r.1, r.2))

module _ (local : CheckIsLocal) (bind : ImportsBindTheirs) (ps : List PackageModel) (parts : List (Option PartModel)) (well : IsWorkspace ps) (right : AreRight ps parts) (plan : PlanModel) (planned : IsPlan ps plan) where
  abbrev told : PartModel → List SummaryModel
  told part = told_to part.input part.content

  well_told : (n : ℕ) (part : PartModel) → slice_get parts n ≡ Some (Some part) → AreWell (told part)
  well_told n part there =
      let reached = well_reached ps parts well right n part.input (right n part there).input in
      let own = part.content.summary in
      let path : path_of own ≡ path_in part.input = path_told ps parts well right n own (record { of_part = part; there = there; is = refl }) in
      let none : NoneIsOf part.input.reached (path_in part.input) =
      none_reached ps parts well right n part.input (right n part there).input bind plan planned (right n part there).numbered (λ m q to at. all_inside ps parts well right local bind plan planned m q at) in
      record {
        apart = apart_more (λ s t. path_of s ≡ path_of t → ⊥) part.input.reached own reached.apart (λ s a same. among_all (λ (t : SummaryModel). path_in part.input ≡ path_of t → ⊥) part.input.reached s none a (sym path ∙ sym same));
        own = all_from_among IsOfOne (told part) (λ s a. one_of s (among_cases part.input.reached (own ∷ []) s a));
      }
    where
      one_of : (s : SummaryModel) → Among part.input.reached s ⊎ Among (part.content.summary ∷ []) s → IsOfOne s
      one_of s (inl a) = among_all IsOfOne part.input.reached s (well_reached ps parts well right n part.input (right n part there).input).own a
      one_of s (inr (inl e)) = subst IsOfOne e (of_one ps parts well right n part there)
      one_of s (inr (inr never)) = absurd never

  module _ (n : ℕ) (part : PartModel) (there : slice_get parts n ≡ Some (Some part)) (m : ℕ) (q : PartModel) (at : slice_get parts m ≡ Some (Some q)) (reached : ReachesPackage ps n m) (among : Among part.input.reached q.content.summary) where
    -- what a package tells that is reached, and what those tell that it reaches, is told to both
    record IsTold (path : List ℕ) : Type 0 where
      summary : SummaryModel
      one : Among (told q) summary
      other : Among (told part) summary
      is : path_of summary ≡ path

    told_both : (path : List ℕ) → Among (reach_paths q.input) path → IsTold path
    told_both path (inl e) = record {
      summary = q.content.summary;
      one = among_right q.input.reached (q.content.summary ∷ []) q.content.summary (inl refl);
      other = among_left part.input.reached (part.content.summary ∷ []) q.content.summary among;
      is = path_told ps parts well right m q.content.summary (record { of_part = q; there = at; is = refl }) ∙ e;
    }
    told_both path (inr a) =
        let t = among_map path_of q.input.reached path a in
        let deeper = told_by ps parts well right m q.input (right m q at).input t.0 t.1 in
        record {
          summary = t.0;
          one = among_left q.input.reached (q.content.summary ∷ []) t.0 t.1;
          other = among_left part.input.reached (part.content.summary ∷ []) t.0 (told_there ps parts well right n part.input (right n part there).input deeper.number t.0 (reaches_on ps n m deeper.number reached deeper.reached) deeper.tells);
          is = t.2;
        }

    pub alike : KnownAlike (Contains (reach_paths q.input)) (known_by (told q)) (known_by (told part))
    alike =
        known_alike (told q) (told part) (well_told m q at) (well_told n part there) (Contains (reach_paths q.input))
        (λ path h. (let t = told_both path (among_from (reach_paths q.input) path h) in inl (record { summary = t.summary; one = among_to (told q) t.summary t.one; other = among_to (told part) t.summary t.other; is = t.is })))

    -- a type that it shows is the same to the package which reaches it
    moved : (d : DeclRef) (t : Option Term) → IsTypeShown q.input q.content (right m q at).made d t → typed_in (known_types part.input part.content) (type_or_none t) ≡ t
    moved d t h =
        let stays = all_inside ps parts well right local bind plan planned m q at in
        typed_elsewhere (known_types q.input q.content) (known_types part.input part.content) t (λ k c. alike.types k (stays.faces d (faces.«Type» t) k h.face c)) h.same

  module _ (rules : (m : ℕ) (part : PartModel) → slice_get parts m ≡ Some (Some part) → All Wf_file (trees_in part.input.source)) (n : ℕ) (part : PartModel) (there : slice_get parts n ≡ Some (Some part)) where
    abbrev i : InputModel
    i = part.input

    abbrev c : ContentOf
    c = part.content

    tells_of : (s : SummaryModel) → Among i.reached s → TellsWhatItDoes i.reached s
    tells_of s a = (let reached = well_reached ps parts well right n i (right n part there).input in views_tell i.reached s reached.apart reached.own (among_to i.reached s a))

    exports_are : (m : ℕ) (q : PartModel) → slice_get parts m ≡ Some (Some q) → q.content.summary.exports ≡ exports_of q.input.source q.content.blocks
    exports_are m q at = ap (λ (s : SummaryModel). s.exports) (right m q at).made.summary

    -- a summary that is told is of another package
    apart_from : (s : SummaryModel) → Among i.reached s → (path : List ℕ) → path ≡ path_of s → path_in i ≡ path → ⊥
    apart_from s a path is same =
        let r = right n part there in
        let none : NoneIsOf i.reached (path_in i) = none_reached ps parts well right n i r.input bind plan planned r.numbered (λ m q to at. all_inside ps parts well right local bind plan planned m q at) in
        among_all (λ (t : SummaryModel). path_in i ≡ path_of t → ⊥) i.reached s none a (same ∙ is)

    -- what the declaration of a type of another package means
    of_other : (m : ℕ) (q : PartModel) (at : slice_get parts m ≡ Some (Some q)) → ReachesPackage ps n m → Among i.reached q.content.summary → (k : DeclKey) (t : Option Term) → k.path ≡ path_of q.content.summary
        → IsTypeShown q.input q.content (right m q at).made k.decl t → meant_in i c (type_of_key k) ≡ t
    of_other m q at reached among k t path h =
        let face : face_in (faces_told i.reached) k.path k.decl ≡ Some (faces.«Type» t) = ap (λ x. face_in (faces_told i.reached) x k.decl) path ∙ ((tells_of q.content.summary among).declared k.decl ∙ h.face) in
        let means : (shows_in (seen_in i c)).target k ≡ type_or_none t = target_far i c (right n part there).made k (apart_from q.content.summary among k.path path) ∙ ap face_type face in
        ap (λ kind. meant_in i c (type_of_kind k kind)) (type_kind k.decl.kind h.kind) ∙ (ap (typed_in (known_types i c)) means ∙ moved n part there m q at reached among k.decl t h)

    named : (file : ℕ) (name : List ℕ) (b : Binding) (k : DeclKey) (t : Option Term) → file_binding c.blocks file name ≡ Some b → b.target ≡ targets.Exported k
        → face_in (faces_told i.reached) k.path k.decl ≡ Some (faces.«Type» t) → meant_in i c (type_of_key k) ≡ t
    named file name b k t is target face =
        let r = right n part there in
        let s = bound_shown (trees_of i.source.1) i.imports c.blocks r.made.blocks file name b k is target in
        let at = import_stands (ComesTo ps parts) n (trees_of i.source.1) i.imports r.input.imports s.of_file s.file (given.«Package» s.shown) s.there in
        let p = passes (Shown parts) ps at.at at.come.outcome s.shown at.come.judged at.come.given in
        let reached : ReachesPackage ps n p.to = subst (λ l. ReachesPackage ps l p.to) at.from (reaches_next ps at.at p.to p.judged) in
        let q = p.shows.told.of_part in
        let among : Among i.reached q.content.summary = subst (Among i.reached) p.shows.told.is (told_there ps parts well right n i r.input p.to p.shows.summary reached p.shows.told) in
        let exports : s.shown ≡ q.content.summary.exports = p.shows.is ∙ ap (λ (x : SummaryModel). x.exports) p.shows.told.is in
        let same : s.shown ≡ exports_of q.input.source q.content.blocks = exports ∙ exports_are p.to q p.shows.told.there in
        let listed = exported_among q.content.blocks.names (s.name, k.decl) (subst (λ (e : ExportsModel). Among e.names (s.name, k.decl)) same s.among) in
        let block = unique q.input q.content (right p.to q p.shows.told.there).made (s.name, k.decl) listed in
        let path : k.path ≡ path_of q.content.summary = s.path ∙ ap (λ (e : ExportsModel). e.path) exports in
        let shown = sym ((tells_of q.content.summary among).declared k.decl) ∙ (ap (λ x. face_in (faces_told i.reached) x k.decl) (sym path) ∙ face) in
        of_other p.to q p.shows.told.there reached among k t path
        (type_shown q.input q.content (right p.to q p.shows.told.there).made (rules p.to q p.shows.told.there) s.name k.decl t block shown)

    shown_behind : (path name : List ℕ) (d : DeclRef) (t : Option Term) → exported_in (faces_told i.reached) path name ≡ shown_faces.Shown d (Some (faces.«Type» t)) → meant_in i c (shown_type path (shown_in (exports_told i.reached) path name)) ≡ t
    shown_behind path name d t h =
        let r = right n part there in
        let f = exported_from i.reached path name d (Some (faces.«Type» t)) h in
        let by = told_by ps parts well right n i r.input f.0 f.1 in
        let q = by.tells.of_part in
        let s = q.content.summary in
        let among : Among i.reached s = subst (Among i.reached) by.tells.is f.1 in
        let tells = tells_of s among in
        let own = of_one ps parts well right by.number q by.tells.there in
        let path_is : path ≡ path_of s = f.2 ∙ (ap (λ (x : SummaryModel). x.faces.path) by.tells.is ∙ own.faces) in
        let e = exports_are by.number q by.tells.there in
        let seen = name_seen q.input q.content (right by.number q by.tells.there).made name d (faces.«Type» t) (sym (tells.faces name) ∙ (ap (λ x. exported_in (faces_told i.reached) x name) (sym path_is) ∙ h)) in
        let shown_is : shown_in (exports_told i.reached) path name ≡ Some d =
        ap (λ x. shown_in (exports_told i.reached) x name) path_is
        ∙ (tells.names name
        ∙ (ap (λ (x : ExportsModel). shown_in (x ∷ []) x.path name) e
        ∙ (shows_its_block [] q.input.source q.content.blocks name ∙ (ap (λ (y : Bool). if y then in_block q.content.blocks.names name else None) seen.out ∙ seen.there)))) in
        let shown = type_shown q.input q.content (right by.number q by.tells.there).made (rules by.number q by.tells.there) name d t seen.there seen.face in
        ap (λ o. meant_in i c (shown_type path o)) shown_is ∙ of_other by.number q by.tells.there by.reached among (key_of path d) t path_is shown

    pub shows : ShowTheirTypes i c
    shows = record {
      own = λ name d t at known. (own_type i c (right n part there).made (rules n part there) name d t at known).1;
      named = named;
      shown = shown_behind;
    }

pub parts_show : CheckIsLocal → ImportsBindTheirs → PartsAreRead → PartsShowTheirTypes
parts_show local bind read ps parts as_read made p h =
    let r = numbered_in parts p (among_from (somes parts) p h) in
    let plan = has_plan ps as_read.well in
    shows local bind ps parts as_read.well (all_right ps parts made) plan.0 plan.1 (λ n part there. all_keep_rules part.input.source.1 (read ps parts as_read made n part there)) r.number p r.there
