-- A method of a type that a part knows is a function that a part declares, by a receiver of this type.
use Rattle.std.proofs.Common.{◌≡◌, ◌⊎◌, inl, inr, ℕ, List, [], ◌∷◌, Contains, Option, Some, refl, sym, ap, ◌∙◌, subst}
use Rattle.std.specs.Prelude.{slice_get}
use Rattle.go_tree_nodes.specs.Trees.{FileTree, FuncTree}
use Rattle.go_term_core.specs.decl_core.TopDecls.{FuncForm, TopDeclTree, top_decls}
use Rattle.go_term_core.specs.decl_core.declared.keys.DeclRef.{DeclRef}
use Rattle.go_term_core.specs.decl_core.declared.places.DeclKind.TheVariants as decl_kinds
use Rattle.go_graph_core.proofs.PlanLaws.{has_plan}
use Rattle.go_graph_core.specs.Workspaces.{IsReadWorkspace, PackageModel}
use Rattle.go_names_core.specs.block_core.Declarations.{decl_ref}
use Rattle.go_term_core.specs.Terms.{Defined, Sign}
use Rattle.go_body_core.specs.table_core.Entries.{Entry, Member, find_entry, term_in}
use Rattle.go_body_core.specs.table_core.Tables.{AreOf}
use Rattle.go_report_core.specs.operand_core.Values.{form_basic}
use Rattle.go_meaning_laws.specs.handle_core.DecidingRules.{form_under}
use Rattle.go_body_core.specs.typexpr_core.EntryAmong.{Among, among_cases, among_flat, among_from, among_to}
use Rattle.go_body_core.specs.typexpr_core.EntryOrdered.{outline_rises}
use Rattle.go_body_core.specs.typexpr_core.EntryOutlines.{outline_of}
use Rattle.go_meaning_laws.specs.handle_core.Declarations.{Declaration, InFile}
use Rattle.go_report_core.specs.summary_core.Summaries.{SummaryModel, path_of}
use Rattle.go_emit_core.specs.package_core.PackagePartInputs.{InputModel, path_in}
use Rattle.go_emit_core.specs.package_core.PackagePartParts.{ContentOf, PartModel}
use Rattle.go_emit_core.specs.package_core.PackagePartSlots.{somes}
use Rattle.go_emit_core.specs.Emitted.{told_to}
use Rattle.go_snap_core.specs.whole_workspace.Inputs.{AreParts}
use Rattle.go_snap_core.specs.whole_workspace.LocalLaws.{CheckIsLocal, ImportsBindTheirs}
use Rattle.go_snap_core.proofs.WholeWorkspaceParts.{of_one, path_told, reach_paths, told_by}
use Rattle.go_snap_core.proofs.WholeWorkspacePartsWhole.{all_right}
use Rattle.go_snap_core.specs.whole_workspace.mirrors.Steps.{AreRight}
use Rattle.go_object_core.specs.declared.instructions.letters.Word.{Word}
use Rattle.go_workspace_laws.specs.folding.Reading.{basic_of}
use Rattle.go_workspace_laws.specs.Standing.{stand_in_part}
use Rattle.go_program_laws.specs.types.Functions.{known_types}
use Rattle.go_program_laws.specs.faultless.Called.{IsMethodDeclared}
use Rattle.go_program_laws.specs.faultless.Parts.{PartsAreAmong}
use Rattle.go_program_laws.proofs.FaultlessAlike.{among_somes, numbered_in}
use Rattle.go_program_laws.proofs.FaultlessShows.{alike}
use Rattle.go_program_laws.proofs.FaultlessSigns.{entry_of, of_path}
use Rattle.go_program_laws.specs.references.Methods.{AreReceivedOver, IsMethodOfPart, MethodsAreOfParts}
use Rattle.go_program_laws.specs.references.Own.{DeclaredFunctionsAreOwn, IsDeclaredFunction}
use Rattle.go_program_laws.specs.references.Reached.{SeesPart}
use Rattle.go_program_laws.proofs.ReferencesReceived.{IsWrittenMethod, written_method}
use Rattle.go_program_laws.proofs.ReferencesUnreceived.{one_number}

-- a method as it is written in a package, by the place of its identifier

module _ (i : InputModel) (c : ContentOf) (e : Entry) (m : Member) (y : IsWrittenMethod i c e m) where
  abbrev ref : DeclRef
  ref = decl_ref y.file y.decl.number decl_kinds.Method

  declares : (s : Sign) → s ≡ m.sign → IsDeclaredFunction i c ref s
  declares s same = record { tree = y.tree; in_package = y.in_package; decl = y.decl; among = y.among; number = refl; func = y.func; form = y.form; is = same ∙ y.sign }

  received : (w : Word) → form_basic (form_under (term_in (find_entry (known_types i c) e.key))) ≡ Some (basic_of w) → AreReceivedOver i c ref w
  received w over t tree decl among number g form =
      let some : Some y.tree ≡ Some t = sym y.in_package ∙ tree in
      let one : y.tree ≡ t = cc some in
      let there : Among (top_decls t) y.decl = subst (λ (u : FileTree). Among (top_decls u) y.decl) one (among_from (top_decls y.tree) y.decl y.among) in
      let same : y.decl ≡ decl = one_number (top_decls t) 0 y.decl decl (outline_rises (outline_of t) (t, refl)) there (among_from (top_decls t) decl among) (sym number) in
      let forms : FuncForm y.func ≡ FuncForm g = sym y.form ∙ (ap (λ (d : TopDeclTree). d.form) same ∙ form) in
      let func : y.func ≡ g = cc forms in
      record {
        receiver = y.receiver;
        is = sym (ap (λ (h : FuncTree). h.receiver) func) ∙ y.received;
        key = e.key;
        base = subst (λ (u : FileTree). (stand_in_part i c y.file u).top y.receiver.base ≡ Defined e.key) one y.base;
        over = over;
      }

module _ (own : DeclaredFunctionsAreOwn) (among : PartsAreAmong) (local : CheckIsLocal) (bind : ImportsBindTheirs) (ws : List PackageModel) (parts : List (Option PartModel)) (as_read : IsReadWorkspace ws) (made : AreParts ws parts)
    (p : PartModel) (d : Declaration) (path : List ℕ) (s : Sign) (w : Word) (x : IsMethodDeclared p.input p.content d path s w) where
  right : AreRight ws parts
  right = all_right ws parts made

  path_is : (n : ℕ) (q : PartModel) → slice_get parts n ≡ Some (Some q) → path_of q.content.summary ≡ path_in q.input
  path_is n q at = path_told ws parts as_read.well right n q.content.summary (record { of_part = q; there = at; is = refl })

  home_is : (n : ℕ) (q : PartModel) → slice_get parts n ≡ Some (Some q) → Among q.content.summary.types.entries x.entry → x.entry.key.path ≡ path_in q.input
  home_is n q at a = of_path (path_of q.content.summary) q.content.summary.types.entries (of_one ws parts as_read.well right n q at).own x.entry a ∙ path_is n q at

  -- where its type is one of a part's own
  of_part : (n : ℕ) (q : PartModel) → slice_get parts n ≡ Some (Some q) → SeesPart p q → Among q.content.summary.types.entries x.entry
      → find_entry (known_types q.input q.content) x.entry.key ≡ find_entry (known_types p.input p.content) x.entry.key → IsMethodOfPart (somes parts) p d s w
  of_part n q at sees a same =
      let i = q.input in
      let c = q.content in
      let there : Contains (somes parts) q = among_to (somes parts) q (among_somes parts n q at) in
      let fits = among ws parts as_read made q there in
      let types : c.summary.types.entries ≡ fits.part.checked.types = ap (λ (t : SummaryModel). t.types.entries) fits.part.summary in
      let theirs : AreOf (path_in i) fits.part.checked.types = subst (λ y. AreOf y fits.part.checked.types) (path_is n q at) (subst (AreOf (path_of c.summary)) types (of_one ws parts as_read.well right n q at).own) in
      let y = written_method i c fits.input fits.part theirs x.entry (subst (λ es. Among es x.entry) types a) x.member (among_from x.entry.methods x.member x.there) in
      let home = home_is n q at a in
      record {
        part = q;
        there = there;
        seen = sees;
        decl = ref i c x.entry x.member y;
        is = x.declared ∙ (λ j. InFile (home j) (y.place j));
        own = own i c fits.part fits.files.placed (ref i c x.entry x.member y) s (declares i c x.entry x.member y s x.sign);
        received = received i c x.entry x.member y w (ap (λ (o : Option Entry). form_basic (form_under (term_in o))) same ∙ x.over);
      }

  of_told : (n : ℕ) → slice_get parts n ≡ Some (Some p) → (t : SummaryModel) → Among p.input.reached t ⊎ Among (p.content.summary ∷ []) t → Among t.types.entries x.entry → IsMethodOfPart (somes parts) p d s w
  of_told n at t (inl a) b =
      let by = told_by ws parts as_read.well right n p.input (right n p at).input t a in
      let q = by.tells.of_part in
      let reached : Among p.input.reached q.content.summary = subst (Among p.input.reached) by.tells.is a in
      let entry : Among q.content.summary.types.entries x.entry = subst (λ (u : SummaryModel). Among u.types.entries x.entry) by.tells.is b in
      let plan = has_plan ws as_read.well in
      let inside : Contains (reach_paths q.input) x.entry.key.path = among_to (reach_paths q.input) x.entry.key.path (inl (sym (home_is by.number q by.tells.there entry))) in
      of_part by.number q by.tells.there (inr (among_to p.input.reached q.content.summary reached)) entry
      ((alike local bind ws parts as_read.well right plan.0 plan.1 n p at by.number q by.tells.there by.reached reached).types x.entry.key inside)
  of_told n at t (inr (inl e)) b = of_part n p at (inl refl) (subst (λ (u : SummaryModel). Among u.types.entries x.entry) (sym e) b) refl
  of_told n at t (inr (inr never)) b = absurd never

  method_of : Contains (somes parts) p → IsMethodOfPart (somes parts) p d s w
  method_of h =
      let r = numbered_in parts p (among_from (somes parts) p h) in
      let known = (entry_of (known_types p.input p.content) x.entry.key x.entry x.known).there in
      let t = among_flat (λ (u : SummaryModel). u.types.entries) (told_to p.input p.content) x.entry known in
      of_told r.number r.there t.0 (among_cases p.input.reached (p.content.summary ∷ []) t.0 t.1) t.2

pub methods_of_parts : DeclaredFunctionsAreOwn → PartsAreAmong → CheckIsLocal → ImportsBindTheirs → MethodsAreOfParts
methods_of_parts own among local bind ws parts as_read made p h d path s w x = method_of own among local bind ws parts as_read made p d path s w x h
