-- The functions that a program reaches are of packages that are part of it.
use Rattle.std.proofs.Common.{◌≡◌, ◌⊎◌, inl, inr, ℕ, suc, Bool, true, false, All, List, [], ◌∷◌, map, drop, Contains, Option, Some, None, nat_lt, refl, sym, ap, ◌∙◌, subst, if◌then◌else◌}
use Rattle.std.specs.Prelude.{slice_get}
use Rattle.std.specs.List.{flat_map, prefix_len}
use Rattle.std.proofs.lemmas.Option.{none-some}
use Rattle.std.proofs.lemmas.List.Elements.{All-contains}
use Rattle.go_digraph_core.specs.declared.cycle.edge.Edge.{Edge}
use Rattle.go_digraph_core.specs.cycle.Cycle.{Leads, Reaches}
use Rattle.go_graph_core.specs.declared.imports.ImportOutcome.{ImportOutcome}
use Rattle.go_graph_core.specs.declared.imports.ImportOutcome.TheVariants as outcomes
use Rattle.go_graph_core.proofs.OutcomeLaws.{has_one_outcome}
use Rattle.go_graph_core.proofs.PlanLaws.{has_plan}
use Rattle.go_graph_core.specs.Workspaces.{IsWorkspace, PackageModel}
use Rattle.go_names_core.specs.block_core.declared.imports.Imported.{Imported}
use Rattle.go_names_core.specs.block_core.declared.imports.Imported.TheVariants as given
use Rattle.go_names_core.specs.block_core.Blocks.{exports_of}
use Rattle.go_names_core.specs.block_core.Exports.{ExportsModel}
use Rattle.go_names_core.specs.block_core.Naming.{IsGiven}
use Rattle.go_tree_nodes.specs.Trees.{FileTree, FuncTree}
use Rattle.go_term_core.specs.decl_core.TopDecls.{FormTree, FuncForm, TopDeclTree, TypeForm, ValueForm, top_decls}
use Rattle.go_term_core.specs.decl_core.declared.keys.DeclRef.{DeclRef}
use Rattle.go_term_core.specs.declared.term.MemberPlace.{MemberPlace}
use Rattle.go_term_core.specs.declared.term.MemberPlace.TheVariants as places
use Rattle.go_body_core.specs.typexpr_core.EntryAmong.{Among, among_cases, among_flat, among_from, among_map, among_to, flat_among}
use Rattle.go_report_core.specs.denote_core.declared.things.Outcome.{Outcome}
use Rattle.go_report_core.specs.denote_core.declared.things.Outcome.TheVariants as found
use Rattle.go_meaning_laws.specs.handle_core.Declarations.{Declaration, InFile, OfError, Package, Universe}
use Rattle.go_body_core.specs.Notes.{TheUse}
use Rattle.go_body_core.specs.stmt_core.StatementLocality.{Each}
use Rattle.go_object_core.specs.Objects.{FunctionOf, ObjectOf}
use Rattle.go_code_core.specs.fragments.Names.{CodeLooks}
use Rattle.go_meaning_laws.specs.source_meaning.Meaning.{SourceOf}
use Rattle.go_meaning_laws.specs.fitting_sources.Laws.{IsReached, Begins, IsCalled}
use Rattle.go_report_core.specs.summary_core.Summaries.{SummaryModel, path_of}
use Rattle.go_emit_core.specs.package_core.PackagePartInputs.{path_in}
use Rattle.go_emit_core.specs.package_core.PackagePartParts.{FileOf, PartModel}
use Rattle.go_emit_core.specs.package_core.PackagePartSlots.{if_there, somes}
use Rattle.go_machine_core.specs.link.Functions.{all_functions, number_of}
use Rattle.go_machine_core.specs.link.Linked.{IsRunnable, RunnableOf, program_of}
use Rattle.go_machine_core.specs.link.Packages.{packages_of}
use Rattle.go_machine_core.specs.link.Reaching.{import_edges}
use Rattle.go_machine_core.proofs.LinkWithin.{root_in}
use Rattle.go_session_core.specs.launches.Located.{place_declared}
use Rattle.go_emit_core.specs.meaning.Looking.{looks_of}
use Rattle.go_emit_core.specs.meaning.Scenes.{CodeScene, decl_at}
use Rattle.go_emit_core.specs.Emitted.{are_clean, body_first, body_uses, code_scene_over, declarations_in, form_function, functions_of, object_over, objects_of, outcome_declarations, package_functions, told_by as all_told, whole_object}
use Rattle.go_emit_core.specs.Imports.{imported_paths}
use Rattle.go_meaning_laws.specs.object_sources.Sources.{sources_of}
use Rattle.go_snap_core.specs.whole_workspace.Inputs.{AreParts, ComesTo, IsPassingImport, Shown}
use Rattle.go_snap_core.specs.whole_workspace.LocalLaws.{CheckIsLocal, ImportsBindTheirs}
use Rattle.go_snap_core.specs.whole_workspace.mirrors.Steps.{AreRight}
use Rattle.go_snap_core.proofs.WholeWorkspaceParts.{path_told, reach_paths, told_by}
use Rattle.go_snap_core.proofs.WholeWorkspacePartsWhole.{all_right}
use Rattle.go_workspace_laws.proofs.Answers.{IsDeclIn, IsOutcomeIn}
use Rattle.go_workspace_laws.proofs.ConstantLists.{HasItem}
use Rattle.go_workspace_laws.proofs.Parts.{IsFileIn, all_in}
use Rattle.go_workspace_laws.proofs.Uses.{IsUseIn}
use Rattle.go_program_laws.specs.calls.Places.{IsSourceAt, ReferencesLeadToTheirs}
use Rattle.go_program_laws.proofs.CallsPlacing.{beside_at, parts_beside}
use Rattle.go_program_laws.proofs.FaultlessAlike.{among_somes, numbered_in}
use Rattle.go_program_laws.specs.references.Callees.{DeclarationsArePlaced}
use Rattle.go_program_laws.specs.references.Callers.{PartsOfAPathAreOne}
use Rattle.go_program_laws.specs.references.Reached.{IsCleanIn, IsInProgram, ReachedAreInProgram, SeenAreInProgram, SeesPart}
use Rattle.go_program_laws.specs.faultless.Parts.{PartsAreAmong}
use Rattle.go_body_core.specs.file.Laws.{FunctionsArePlaced}
use Rattle.go_body_core.specs.function.Laws.{FunctionsHaveOneTable}
use Rattle.go_program_laws.proofs.ReferencesCallees.{function_at}
use Rattle.go_program_laws.proofs.ReferencesImporting.{import_comes}
use Rattle.go_program_laws.proofs.ReferencesLinking.{IsReachedPath, among_dropped, among_get, among_taken, import_reached, none_missing, root, start_reached}

-- the functions of an object are declared in its package

pub record IsDeclaredThere (path : List ℕ) (f : FunctionOf Declaration) : Type 0 where
  pub decl : DeclRef
  pub is : f.declaration ≡ InFile path (places.Declared decl)

module _ (path : List ℕ) (file : ℕ) (uses : List TheUse) (looking : ℕ → CodeLooks) (f : FunctionOf Declaration) where
  in_form : (d : TopDeclTree) (t : FormTree) → Among (form_function path file uses looking d t) f → IsDeclaredThere path f
  in_form d (ValueForm k v at) h = absurd h
  in_form d (TypeForm t) h = absurd h
  in_form d (FuncForm g) (inl e) = record { decl = decl_at file d; is = sym (ap (λ (x : FunctionOf Declaration). x.declaration) e) }
  in_form d (FuncForm g) (inr none) = absurd none

  in_decls : (ds : List TopDeclTree) → Among (functions_of path file uses looking ds) f → IsDeclaredThere path f
  in_decls ds h = (let r = among_flat (λ (d : TopDeclTree). form_function path file uses looking d d.form) ds f h in in_form r.0 r.0.form r.2)

in_package : (s : CodeScene) (f : FunctionOf Declaration) (n : ℕ) (ts : List FileTree) (files : List FileOf) → Among (package_functions s n ts files) f → IsDeclaredThere s.path f
in_package s f n [] files h = absurd h
in_package s f n (t ∷ ts) [] h = absurd h
in_package s f n (t ∷ ts) (x ∷ files) h = by (among_cases (functions_of s.path n x.answers.uses (looks_of s n x.answers.uses x.answers.locals) (top_decls t)) (package_functions s (suc n) ts files) f h) (λ k. in_package s f (suc n) ts files k)
  where
    by : Among (functions_of s.path n x.answers.uses (looks_of s n x.answers.uses x.answers.locals) (top_decls t)) f ⊎ Among (package_functions s (suc n) ts files) f → (Among (package_functions s (suc n) ts files) f → IsDeclaredThere s.path f) → IsDeclaredThere s.path f
    by (inl k) rest = in_decls s.path n x.answers.uses (looks_of s n x.answers.uses x.answers.locals) f (top_decls t) k
    by (inr k) rest = rest k

-- occurrences of a body are among those of the file

each_among : {A : Type 0} (P : A → Type 0) (xs : List A) (x : A) → Each P xs → Among xs x → P x
each_among P [] x h k = absurd k
each_among P (y ∷ ys) x h (inl e) = subst P e h.0
each_among P (y ∷ ys) x h (inr k) = each_among P ys x h.1 k

item_of : {A : Type 0} (xs : List A) (x : A) → HasItem xs x → Among xs x
item_of [] x h = absurd h
item_of (y ∷ ys) x (inl e) = inl e
item_of (y ∷ ys) x (inr h) = inr (item_of ys x h)

module _ (Inside : List ℕ → Type 0) (d : Declaration) where
  outcome_in : (o : Outcome Declaration (List ℕ)) → IsOutcomeIn Inside o → Among (outcome_declarations o) d → IsDeclIn Inside d
  outcome_in (found.Declared e) h (inl s) = subst (IsDeclIn Inside) s h
  outcome_in (found.Declared e) h (inr none) = absurd none
  outcome_in (found.Selected e path) h (inl s) = subst (IsDeclIn Inside) s h
  outcome_in (found.Selected e path) h (inr none) = absurd none
  outcome_in (found.Refused rule) h none = absurd none

  -- what an occurrence of a body comes to is of what the file mentions
  body_in : (uses : List TheUse) (g : FuncTree) → Each (IsUseIn Inside) uses → Among (declarations_in (body_uses uses g)) d → IsDeclIn Inside d
  body_in uses g each h =
      let r = among_flat (λ (u : TheUse). outcome_declarations u.outcome) (body_uses uses g) d h in
      let there = among_dropped (body_first uses g) uses r.0 (among_taken (prefix_len (λ (u : TheUse). nat_lt u.offset g.close_brace.start) (drop (body_first uses g) uses)) (drop (body_first uses g) uses) r.0 r.1) in
      outcome_in r.0.outcome (each_among (IsUseIn Inside) uses r.0 each there) r.2

-- a program of a workspace that can be run

module _ (local : CheckIsLocal) (bind : ImportsBindTheirs) (theirs : ReferencesLeadToTheirs) (placed : DeclarationsArePlaced) (one : PartsOfAPathAreOne) (ws : List PackageModel) (parts : List (Option PartModel)) (well : IsWorkspace ws) (made : AreParts ws parts)
    (main : List ℕ) (r : RunnableOf) (runnable : IsRunnable (program_of place_declared (objects_of (somes parts)) main) r) where
  abbrev pub ps : List PartModel
  ps = somes parts

  abbrev pub os : List (ObjectOf Declaration)
  os = objects_of (somes parts)

  abbrev number : Declaration → Option ℕ
  number = number_of place_declared (all_functions (objects_of (somes parts)))

  abbrev sources : List SourceOf
  sources = sources_of place_declared (somes parts)

  abbrev start : ℕ
  start = root place_declared (objects_of (somes parts)) main r runnable

  abbrev pub IsReachedHere : List ℕ → Type 0
  IsReachedHere path = IsReachedPath (objects_of (somes parts)) (root place_declared (objects_of (somes parts)) main r runnable) path

  right : AreRight ws parts
  right = all_right ws parts made

  -- an object is that of a part of which nothing is reported

  record IsObjectOf (o : ObjectOf Declaration) : Type 0 where
    part : PartModel
    there : Among ps part
    clean : are_clean part.content.files ≡ true
    is : whole_object (code_scene_over (all_told ps) part.input part.content) part.input part.content ≡ o

  object_of : (o : ObjectOf Declaration) → Among os o → IsObjectOf o
  object_of o h =
      let x = among_flat (λ (p : PartModel). if_there (object_over (all_told ps) p.input p.content)) ps o h in
      by x.0 x.1 (are_clean x.0.content.files) refl x.2
    where
      by : (p : PartModel) → Among ps p → (b : Bool) → are_clean p.content.files ≡ b → Among (if_there (if b then Some (whole_object (code_scene_over (all_told ps) p.input p.content) p.input p.content) else None)) o → IsObjectOf o
      by p there true e (inl s) = record { part = p; there = there; clean = e; is = s }
      by p there true e (inr none) = absurd none
      by p there false e none = absurd none

  -- a part whose package is reached has an object

  record HasObject (q : PartModel) : Type 0 where
    place : ℕ
    there : slice_get os place ≡ Some (whole_object (code_scene_over (all_told ps) q.input q.content) q.input q.content)
    reached : Reaches (import_edges (packages_of os)) start place
    clean : are_clean q.content.files ≡ true

  has_object : (q : PartModel) → Among ps q → IsReachedHere (path_in q.input) → HasObject q
  has_object q h at =
      let x = object_of at.object (among_get os at.place at.object at.there) in
      let path : path_in x.part.input ≡ path_in q.input = ap (λ (o : ObjectOf Declaration). o.path) x.is ∙ at.of_path in
      let same : x.part ≡ q = one ws parts well made x.part q (among_to ps x.part x.there) (among_to ps q h) path in
      record {
        place = at.place;
        there = at.there ∙ ap (λ (o : ObjectOf Declaration). Some o) (sym x.is ∙ ap (λ (p : PartModel). whole_object (code_scene_over (all_told ps) p.input p.content) p.input p.content) same);
        reached = at.reached;
        clean = subst (λ (p : PartModel). are_clean p.content.files ≡ true) same x.clean;
      }

  -- the packages that a reached one imports are reached

  record IsReachedPart (m : ℕ) : Type 0 where
    part : PartModel
    there : slice_get parts m ≡ Some (Some part)
    reached : IsReachedHere (path_in part.input)

  passing : (q : PartModel) → HasObject q → (of_file : List Imported) → Among q.input.imports of_file → (e : ExportsModel) → Among of_file (given.«Package» e) → IsReachedHere e.path
  passing q object of_file file e there =
      import_reached os start (none_missing place_declared os main r runnable) object.place (whole_object (code_scene_over (all_told ps) q.input q.content) q.input q.content) object.there object.reached e.path
      (flat_among (λ (is : List Imported). flat_map imported_paths is) q.input.imports e.path of_file file (flat_among imported_paths of_file e.path (given.«Package» e) there (inl refl)))

  shown_part : (to : ℕ) (e : ExportsModel) → Shown parts to e → IsReachedHere e.path → IsReachedPart to
  shown_part to e s at =
      let q = s.told.of_part in
      let exports : e ≡ exports_of q.input.source q.content.blocks = s.is ∙ (ap (λ (x : SummaryModel). x.exports) s.told.is ∙ ap (λ (x : SummaryModel). x.exports) (right to q s.told.there).made.summary) in
      record { part = q; there = s.told.there; reached = subst IsReachedHere (ap (λ (x : ExportsModel). x.path) exports) at }

  given_part : (q : PartModel) → HasObject q → (of_file : List Imported) → Among q.input.imports of_file → (to : ℕ) (x : Imported) → Among of_file x → IsGiven (Shown parts) (outcomes.«Package» to) x → IsReachedPart to
  given_part q object of_file file to (given.«Package» e) there h = shown_part to e h (passing q object of_file file e there)
  given_part q object of_file file to (given.Refused rule) there h = absurd h

  next_part : (e : Edge) → IsPassingImport ws e → IsReachedPart e.from → IsReachedPart e.to
  next_part e pass at =
      let q = at.part in
      let x = right e.from q at.there in
      let object = has_object q (among_somes parts e.from q at.there) at.reached in
      let come = import_comes (ComesTo ws parts) ws e.from q.input.source q.input.imports x.numbered x.assembled x.input.imports pass.0 pass.1 pass.2.q pass.2.text pass.2.there in
      let same : come.come.outcome ≡ outcomes.«Package» e.to = has_one_outcome ws pass.0 come.come.outcome (outcomes.«Package» e.to) well come.come.judged pass.2 in
      given_part q object come.of_file come.file e.to come.imported come.there (subst (λ (o : ImportOutcome). IsGiven (Shown parts) o come.imported) same come.come.given)

  led_part : (edges : List Edge) → All (IsPassingImport ws) edges → (es : List Edge) (a b : ℕ) → Leads edges es a b → IsReachedPart a → IsReachedPart b
  led_part edges all [] a b h at = subst IsReachedPart h at
  led_part edges all (e ∷ es) a b h at = led_part edges all es e.to b h.2 (next_part e (All-contains (IsPassingImport ws) edges e all h.0) (subst IsReachedPart (sym h.1) at))

  -- so is each package that a part reaches
  told_reached : (n : ℕ) (p : PartModel) → slice_get parts n ≡ Some (Some p) → IsReachedHere (path_in p.input) → (s : SummaryModel) → Among p.input.reached s → IsReachedHere (path_of s)
  told_reached n p there at s a =
      let by = told_by ws parts well right n p.input (right n p there).input s a in
      let q = led_part by.reached.0 by.reached.1 (by.reached.2.0 ∷ by.reached.2.1) n by.number by.reached.2.2 (record { part = p; there = there; reached = at }) in
      let some : Some (Some q.part) ≡ Some (Some by.tells.of_part) = sym q.there ∙ by.tells.there in
      let same : q.part ≡ by.tells.of_part = cc some in
      subst IsReachedHere (ap (λ (x : PartModel). path_in x.input) same ∙ sym (path_told ws parts well right by.number s by.tells)) q.reached

  path_reached : (n : ℕ) (p : PartModel) → slice_get parts n ≡ Some (Some p) → IsReachedHere (path_in p.input) → (path : List ℕ) → Among (reach_paths p.input) path → IsReachedHere path
  path_reached n p there at path (inl e) = subst IsReachedHere e at
  path_reached n p there at path (inr a) = (let t = among_map path_of p.input.reached path a in subst IsReachedHere t.2 (told_reached n p there at t.0 t.1))

  -- functions

  pub record IsIn (k : ℕ) : Type 0 where
    pub path : List ℕ
    pub decl : DeclRef
    pub source : SourceOf
    pub is : slice_get sources k ≡ Some source
    pub at : IsSourceAt place_declared ps path decl source
    pub reached : IsReachedHere path

  begins_in : (k : ℕ) → Contains r.starts k → IsIn k
  begins_in k h =
      let x = start_reached place_declared os main r runnable k h in
      let o = object_of x.object (subst (Among os) x.same (among_get os x.«package».place x.«package».object x.«package».there)) in
      let scene = code_scene_over (all_told ps) o.part.input o.part.content in
      let own = in_package scene x.function 0 _ o.part.content.files (subst (λ (y : ObjectOf Declaration). Among y.functions x.function) (sym o.is) x.own) in
      let b = beside_at number (all_told ps) ps (all_functions os) sources (parts_beside number (all_told ps) ps ps (λ p a. a)) k x.function x.is in
      let declared : InFile (path_in b.2.part.input) (places.Declared (decl_at b.2.place b.2.decl)) ≡ InFile (path_in o.part.input) (places.Declared own.decl) = sym b.2.declaration ∙ own.is in
      let path : path_in b.2.part.input ≡ path_in o.part.input = cc declared in
      record {
        path = path_in b.2.part.input;
        decl = decl_at b.2.place b.2.decl;
        source = b.0;
        is = b.1;
        at = record {
          part = b.2.part;
          there = among_to ps b.2.part (item_of ps b.2.part b.2.there);
          clean = b.2.clean;
          of_path = refl;
          tree = b.2.tree;
          in_package = b.2.in_package;
          file = b.2.file;
          made = b.2.made;
          decl = b.2.decl;
          among = among_to (top_decls b.2.tree) b.2.decl (item_of (top_decls b.2.tree) b.2.decl b.2.among);
          number = refl;
          func = b.2.func;
          form = b.2.form;
          is = b.2.is;
        };
        reached = subst IsReachedHere (ap (λ (y : ObjectOf Declaration). y.path) (sym o.is) ∙ sym path) x.«package»;
      }

  called_place : (path : List ℕ) (place : MemberPlace) (k : ℕ) → number (InFile path place) ≡ Some k → IsReachedHere path → IsIn k
  called_place path (places.Declared d) k e at = (let x = theirs place_declared ps placed path d k e in record { path = path; decl = d; source = x.0; is = x.1; at = x.2; reached = at })
  called_place path (places.Local l) k e at = absurd (none-some k e)

  module _ (n : ℕ) (p : PartModel) (there : slice_get parts n ≡ Some (Some p)) (at : IsReachedHere (path_in p.input)) where
    called_decl : (d : Declaration) (k : ℕ) → number d ≡ Some k → IsDeclIn (Contains (reach_paths p.input)) d → IsIn k
    called_decl (Universe name) k e h = absurd (none-some k e)
    called_decl OfError k e h = absurd (none-some k e)
    called_decl (Package path) k e h = absurd (none-some k e)
    called_decl (InFile path place) k e h = called_place path place k e (path_reached n p there at path (among_from (reach_paths p.input) path h))

  called_in : (k callee : ℕ) (s : SourceOf) → IsIn k → slice_get sources k ≡ Some s → Contains s.callees (Some callee) → IsIn callee
  called_in k callee s x is h =
      let a = x.at in
      let p = a.part in
      let here = numbered_in parts p (among_from ps p a.there) in
      let some : Some s ≡ Some x.source = sym is ∙ x.is in
      let same : s ≡ x.source = cc some in
      let callees : s.callees ≡ map number (declarations_in (body_uses a.file.answers.uses a.func)) = ap (λ (y : SourceOf). y.callees) (same ∙ a.is) in
      let d = among_map number (declarations_in (body_uses a.file.answers.uses a.func)) (Some callee) (among_from _ (Some callee) (subst (λ (l : List (Option ℕ)). Contains l (Some callee)) callees h)) in
      let plan = has_plan ws well in
      let inside = all_in ws parts well right local bind plan.0 plan.1 here.number p here.there in
      let file = each_among (IsFileIn (Contains (reach_paths p.input))) p.content.files a.file inside.files (among_get p.content.files x.decl.file a.file a.made) in
      called_decl here.number p here.there (subst IsReachedHere (sym a.of_path) x.reached) d.0 callee d.2 (body_in (Contains (reach_paths p.input)) d.0 a.file.answers.uses a.func file.0 d.1)

  reached_by : {k : ℕ} → IsReached sources r.starts k → IsIn k
  reached_by {k} (Begins h) = begins_in k h
  reached_by (IsCalled {number} {callee} {s} h is c) = called_in number callee s (reached_by h) is c

  pub reached_in : (k : ℕ) → IsReached sources r.starts k → IsIn k
  reached_in k h = reached_by h

  -- what is said of them

  pub in_program : (path : List ℕ) → IsReachedHere path → IsInProgram ps main r path
  in_program path at = record { begun = runnable.begun; place = at.place; object = at.object; there = at.there; of_path = at.of_path; reached = at.reached }

  back : (path : List ℕ) → IsInProgram ps main r path → IsReachedHere path
  back path x =
      let same : runnable.begun.entry.root ≡ x.begun.entry.root = ap root_in (sym runnable.begun.begins ∙ x.begun.begins) in
      record { place = x.place; object = x.object; there = x.there; of_path = x.of_path; reached = subst (λ k. Reaches (import_edges (packages_of os)) k x.place) (sym same) x.reached }

  clean_in : (q : PartModel) → Among ps q → IsReachedHere (path_in q.input) → IsCleanIn ps main r q
  clean_in q h at = record { in_program = in_program (path_in q.input) at; clean = (has_object q h at).clean }

  seen_clean : (p : PartModel) → Contains ps p → IsInProgram ps main r (path_in p.input) → (q : PartModel) → Contains ps q → SeesPart p q → IsCleanIn ps main r q
  seen_clean p hp x q hq (inl e) = clean_in q (among_from ps q hq) (subst (λ (y : PartModel). IsReachedHere (path_in y.input)) (sym e) (back (path_in p.input) x))
  seen_clean p hp x q hq (inr reached) =
      let a = numbered_in parts p (among_from ps p hp) in
      let b = numbered_in parts q (among_from ps q hq) in
      let at = told_reached a.number p a.there (back (path_in p.input) x) q.content.summary (among_from p.input.reached q.content.summary reached) in
      clean_in q (among_from ps q hq) (subst IsReachedHere (path_told ws parts well right b.number q.content.summary (record { of_part = q; there = b.there; is = refl })) at)

pub seen_in_program : CheckIsLocal → ImportsBindTheirs → ReferencesLeadToTheirs → DeclarationsArePlaced → PartsOfAPathAreOne → SeenAreInProgram
seen_in_program local bind theirs placed one ws parts well made main r runnable = seen_clean local bind theirs placed one ws parts well made main r runnable

pub reached_in_program : CheckIsLocal → ImportsBindTheirs → ReferencesLeadToTheirs → DeclarationsArePlaced → PartsOfAPathAreOne → PartsAreAmong → FunctionsHaveOneTable → FunctionsArePlaced → ReachedAreInProgram
reached_in_program local bind theirs placed one among table funcs ws parts as_read made main r runnable number reached =
    let x = reached_in local bind theirs placed one ws parts as_read.well made main r runnable number reached in
    record {
      path = x.path;
      decl = x.decl;
      at = function_at among table funcs ws parts as_read made x.path x.decl number x.source x.is x.at;
      in_program = in_program local bind theirs placed one ws parts as_read.well made main r runnable x.path x.reached;
    }
