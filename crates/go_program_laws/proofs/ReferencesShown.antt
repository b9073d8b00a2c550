-- What the check of a part finds as a function is one that a part declares under a name of its block.
use Rattle.std.proofs.Common.{◌≡◌, inl, inr, ℕ, List, [], ◌∷◌, Contains, Option, Some, refl, sym, ap, subst, ◌∙◌}
use Rattle.std.specs.Prelude.{slice_get}
use Rattle.std.proofs.lemmas.List.{map-append}
use Rattle.go_tree_nodes.specs.Trees.{FileTree, FuncTree}
use Rattle.go_term_core.specs.decl_core.declared.keys.DeclKey.{DeclKey}
use Rattle.go_term_core.specs.decl_core.declared.keys.DeclRef.{DeclRef}
use Rattle.go_names_core.specs.local_core.Binding.{Local, bound}
use Rattle.go_graph_core.specs.Packages.{trees_of}
use Rattle.go_graph_core.specs.Workspaces.{IsWorkspace, PackageModel}
use Rattle.go_names_core.specs.block_core.declared.imports.Imported.TheVariants as given
use Rattle.go_names_core.specs.block_core.Blocks.{exports_of}
use Rattle.go_names_core.specs.block_core.Exports.{ExportsModel}
use Rattle.go_names_core.specs.block_core.Tables.{in_block}
use Rattle.go_term_core.specs.Terms.{Sign}
use Rattle.go_term_core.specs.declared.term.MemberPlace.TheVariants as places
use Rattle.go_body_core.specs.typexpr_core.EntryAmong.{Among, among_from, among_to}
use Rattle.go_body_core.specs.typexpr_core.EntryEntries.{package_meanings}
use Rattle.go_meaning_laws.specs.handle_core.Declarations.{Declaration, InFile}
use Rattle.go_emit_core.specs.declared_core.declared.face.Face.TheVariants as faces
use Rattle.go_emit_core.specs.declared_core.Faces.{TheFace}
use Rattle.go_emit_core.specs.declared_core.Packages.{PackageFacesModel, exported_in, face_by, face_in}
use Rattle.go_emit_core.specs.declared_core.Written.{WrittenOf}
use Rattle.go_report_core.specs.answer.Shown.{exported_decls}
use Rattle.go_body_core.specs.env_core.declared.meaning.Meaning.{Meaning as NameMeaning}
use Rattle.go_body_core.specs.env_core.declared.meaning.Meaning.TheVariants as means
use Rattle.go_body_core.specs.env_core.Found.{own_face}
use Rattle.go_names_core.specs.declared.meaning.Outside.TheVariants as outsides
use Rattle.go_body_core.specs.function.Stands.{FileStand, outer_meanings}
use Rattle.go_report_core.specs.summary_core.Summaries.{SummaryModel, path_of}
use Rattle.go_report_core.specs.summary_core.Laws.{TellsWhatItDoes}
use Rattle.go_report_core.specs.summary_core.Views.{faces_told}
use Rattle.go_report_core.specs.summary_core.Telling.{views_tell}
use Rattle.go_emit_core.specs.package_core.PreparePackages.{scene_in, shows_in, trees_in}
use Rattle.go_emit_core.specs.package_core.PackagePartInputs.{InputModel, path_in}
use Rattle.go_emit_core.specs.package_core.PackagePartParts.{ContentOf, FileOf, IsPart, PartModel, package_seen, seen_by}
use Rattle.go_emit_core.specs.package_core.PackagePartSlots.{somes}
use Rattle.go_code_core.specs.declared.fragments.names.Meaning.TheVariants as meanings
use Rattle.go_emit_core.specs.meaning.Scenes.{decl_meaning}
use Rattle.go_emit_core.specs.meaning.Words.{sign_gives}
use Rattle.go_emit_core.specs.Emitted.{code_scene_over, told_to}
use Rattle.go_snap_core.specs.whole_workspace.Inputs.{ComesTo, ReachesPackage, Shown}
use Rattle.go_snap_core.specs.whole_workspace.mirrors.Steps.{AreRight}
use Rattle.go_snap_core.proofs.WholeWorkspaceLists.{among_all}
use Rattle.go_snap_core.proofs.WholeWorkspaceOrder.{reaches_next}
use Rattle.go_snap_core.proofs.WholeWorkspaceParts.{of_one, told_by, told_to as told_there, well_reached}
use Rattle.go_snap_core.proofs.WholeWorkspacePartsWhole.{all_right}
use Rattle.go_snap_core.proofs.WholeWorkspaceTheirs.{passes}
use Rattle.go_workspace_laws.specs.Standing.{stand_in_part}
use Rattle.go_program_laws.proofs.TypesOuter.{all_local, outside_of}
use Rattle.go_program_laws.specs.types.Functions.{IsFunction, function_looks, known_types}
use Rattle.go_program_laws.proofs.FaultlessAlike.{among_somes, numbered_in}
use Rattle.go_program_laws.proofs.FaultlessDotted.{bound_shown, exported_among, import_stands}
use Rattle.go_program_laws.proofs.FaultlessShows.{exported_from, faces_are, name_seen, rises, shown_known, unique}
use Rattle.go_program_laws.specs.faultless.Called.{IsFunctionOf}
use Rattle.go_program_laws.specs.references.Callers.{IsOwnFunction}
use Rattle.go_program_laws.specs.references.Shown.{FunctionsAreOfParts, IsFunctionOfPart, NamesLeadToNoMethods}
use Rattle.go_program_laws.proofs.ReferencesBound.{named_outside}
use Rattle.go_program_laws.proofs.ReferencesFinding.{Bound, IsBoundFunction, IsNamedFunction, IsShownFunction, Own, behind_function, named_function}
use Rattle.go_program_laws.proofs.ReferencesSeen.{other_meant, own_meant, shown_first}
use Rattle.go_program_laws.proofs.ReferencesUnreceived.{no_receiver}

-- a package

module _ (i : InputModel) (c : ContentOf) (part : IsPart i c) where
  abbrev written : List WrittenOf
  written = (scene_in (package_seen i c.blocks (seen_by i)) (known_types i c)).written

  -- what it shows of a declaration is what it has for it
  known_of : (d : DeclRef) (f : TheFace) → face_by c.summary.faces d ≡ Some f → own_face (scene_in (package_seen i c.blocks (seen_by i)) (known_types i c)) c.declared d ≡ Some f
  known_of d f h = shown_known (exported_decls c.blocks.names) d f written c.declared (rises i c part) (sym (ap (λ (m : PackageFacesModel). face_by m d) (faces_are i c part)) ∙ h)

-- a function of a workspace

module _ (ws : List PackageModel) (parts : List (Option PartModel)) (well : IsWorkspace ws) (right : AreRight ws parts) (n : ℕ) (p : PartModel) (there : slice_get parts n ≡ Some (Some p))
    (k : ℕ) (t : FileTree) (f : FileOf) (g : FuncTree) (all : List (Local NameMeaning)) (func : IsFunction p.input p.content k t f g all) (d : Declaration) (s : Sign) where
  abbrev i : InputModel
  i = p.input

  abbrev c : ContentOf
  c = p.content

  abbrev st : FileStand
  st = stand_in_part i c k t

  p_there : Contains (somes parts) p
  p_there = among_to (somes parts) p (among_somes parts n p there)

  tells_of : (m : SummaryModel) → Among i.reached m → TellsWhatItDoes i.reached m
  tells_of m a = (let reached = well_reached ws parts well right n i (right n p there).input in views_tell i.reached m reached.apart reached.own (among_to i.reached m a))

  exports_are : (m : ℕ) (q : PartModel) → slice_get parts m ≡ Some (Some q) → q.content.summary.exports ≡ exports_of q.input.source q.content.blocks
  exports_are m q at = ap (λ (x : SummaryModel). x.exports) (right m q at).made.summary

  of_own : (name : List ℕ) (place : ℕ) (r : DeclRef) → bound (outer_meanings st) all name place ≡ Some (means.Outside (outsides.«Package» r)) → d ≡ InFile (path_in i) (places.Declared r) → IsOwnFunction i c r s → IsFunctionOfPart (somes parts) p d s
  of_own name place r binds is own = record {
    part = p;
    there = p_there;
    seen = inl refl;
    decl = r;
    is = is;
    name = name;
    named = named_outside c.blocks k name r (outside_of (outer_meanings st) all (all_local st g all func.right) name place (outsides.«Package» r) binds);
    own = own;
    meant = (
        let seen = package_seen i c.blocks (seen_by i) in
        own_meant (path_in i) (trees_in i.source) c.declared (known_types i c) (faces_told (told_to i c)) r (faces.Func s) (package_meanings (shows_in seen) seen.path seen.blocks) own
        );
  }

  -- what is shown by a package that is reached
  of_other : (m : ℕ) (q : PartModel) → slice_get parts m ≡ Some (Some q) → Among i.reached q.content.summary → (path : List ℕ) → path ≡ path_in q.input → path ≡ path_of q.content.summary
      → (r : DeclRef) (name : List ℕ) → in_block q.content.blocks.names name ≡ Some r → face_by q.content.summary.faces r ≡ Some (faces.Func s) → d ≡ InFile path (places.Declared r) → IsFunctionOfPart (somes parts) p d s
  of_other m q at among path own path_is r name named face is =
      let apart : path ≡ path_in i → ⊥ = λ e. among_all (λ (x : SummaryModel). path_in i ≡ path_of x → ⊥) i.reached q.content.summary func.input.reached.others among (sym e ∙ path_is) in
      let told : face_in (faces_told i.reached) path r ≡ Some (faces.Func s) = ap (λ x. face_in (faces_told i.reached) x r) path_is ∙ ((tells_of q.content.summary among).declared r ∙ face) in
      let more : face_in (faces_told (told_to i c)) path r ≡ Some (faces.Func s) =
      ap (λ (xs : List PackageFacesModel). face_in xs path r) (map-append (λ (x : SummaryModel). x.faces) i.reached (c.summary ∷ [])) ∙ shown_first (faces_told i.reached) (faces_told (c.summary ∷ [])) path r (faces.Func s) told in
      let meant : decl_meaning (code_scene_over (told_to i c) i c) path r ≡ meanings.Function (sign_gives (known_types i c) s) =
      other_meant (path_in i) (trees_in i.source) c.declared (known_types i c) (faces_told (told_to i c)) r (faces.Func s) path apart more in
      record {
        part = q;
        there = among_to (somes parts) q (among_somes parts m q at);
        seen = inr (among_to i.reached q.content.summary among);
        decl = r;
        is = is ∙ ap (λ x. InFile x (places.Declared r)) own;
        name = name;
        named = named;
        own = known_of q.input q.content (right m q at).made r (faces.Func s) face;
        meant = ap (λ x. decl_meaning (code_scene_over (told_to i c) i c) x r) (sym own) ∙ meant;
      }

  of_bound : (name : List ℕ) → IsBoundFunction st.scene k name d s → IsFunctionOfPart (somes parts) p d s
  of_bound name b =
      let key : DeclKey = b.key in
      let r = right n p there in
      let x = bound_shown (trees_of i.source.1) i.imports c.blocks r.made.blocks k name b.binding key b.bound b.target in
      let at = import_stands (ComesTo ws parts) n (trees_of i.source.1) i.imports r.input.imports x.of_file x.file (given.«Package» x.shown) x.there in
      let y = passes (Shown parts) ws at.at at.come.outcome x.shown at.come.judged at.come.given in
      let reached : ReachesPackage ws n y.to = subst (λ l. ReachesPackage ws l y.to) at.from (reaches_next ws at.at y.to y.judged) in
      let q = y.shows.told.of_part in
      let among : Among i.reached q.content.summary = subst (Among i.reached) y.shows.told.is (told_there ws parts well right n i r.input y.to y.shows.summary reached y.shows.told) in
      let exports : x.shown ≡ q.content.summary.exports = y.shows.is ∙ ap (λ (z : SummaryModel). z.exports) y.shows.told.is in
      let same : x.shown ≡ exports_of q.input.source q.content.blocks = exports ∙ exports_are y.to q y.shows.told.there in
      let listed = exported_among q.content.blocks.names (x.name, key.decl) (subst (λ (e : ExportsModel). Among e.names (x.name, key.decl)) same x.among) in
      let block = unique q.input q.content (right y.to q y.shows.told.there).made (x.name, key.decl) listed in
      let path : key.path ≡ path_of q.content.summary = x.path ∙ ap (λ (e : ExportsModel). e.path) exports in
      let own : key.path ≡ path_in q.input = x.path ∙ ap (λ (e : ExportsModel). e.path) same in
      let shown : face_by q.content.summary.faces key.decl ≡ Some (faces.Func s) =
      sym ((tells_of q.content.summary among).declared key.decl) ∙ (ap (λ z. face_in (faces_told i.reached) z key.decl) (sym path) ∙ b.face) in
      of_other y.to q y.shows.told.there among key.path own path key.decl x.name block shown b.is

  of_shown : (name : List ℕ) → IsShownFunction d s st.scene name → IsFunctionOfPart (somes parts) p d s
  of_shown name b =
      let r = right n p there in
      let x = exported_from i.reached b.path name b.decl (Some (faces.Func s)) b.shown in
      let by = told_by ws parts well right n i r.input x.0 x.1 in
      let q = by.tells.of_part in
      let among : Among i.reached q.content.summary = subst (Among i.reached) by.tells.is x.1 in
      let one = of_one ws parts well right by.number q by.tells.there in
      let path_is : b.path ≡ path_of q.content.summary = x.2 ∙ (ap (λ (z : SummaryModel). z.faces.path) by.tells.is ∙ one.faces) in
      let own : b.path ≡ path_in q.input = path_is ∙ ap (λ (z : ExportsModel). z.path) (exports_are by.number q by.tells.there) in
      let seen =
      name_seen q.input q.content (right by.number q by.tells.there).made name b.decl (faces.Func s)
      (sym ((tells_of q.content.summary among).faces name) ∙ (ap (λ z. exported_in (faces_told i.reached) z name) (sym path_is) ∙ b.shown)) in
      of_other by.number q by.tells.there among b.path own path_is b.decl name seen.there seen.face b.is

  of_named : (name : List ℕ) (place : ℕ) → IsNamedFunction st.scene k c.declared name (bound (outer_meanings st) all name place) d s → IsFunctionOfPart (somes parts) p d s
  of_named name place (Own r binds is own) = of_own name place r binds is own
  of_named name place (Bound b) = of_bound name b

  of_part : IsFunctionOf (function_looks i c k t all) d s → IsFunctionOfPart (somes parts) p d s
  of_part (inl h) = of_named h.0 h.1 (named_function d s st.scene k c.declared h.0 (bound (outer_meanings st) all h.0 h.1) h.2)
  of_part (inr h) = of_shown h.1 (behind_function d s st.scene h.1 h.0 h.2)

pub of_parts : FunctionsAreOfParts
of_parts ws parts well made p h k t f g all func d s =
    let r = numbered_in parts p (among_from (somes parts) p h) in
    of_part ws parts well (all_right ws parts made) r.number p r.there k t f g all func d s

pub names_lead : NamesLeadToNoMethods
names_lead i c part name d named t tree decl among number g form =
    no_receiver (trees_of i.source.1) name d (ap (λ (ns : List (List ℕ × DeclRef)). in_block ns name) (sym part.blocks.package_names) ∙ named) t tree decl
    (among_from _ decl among) number g form
