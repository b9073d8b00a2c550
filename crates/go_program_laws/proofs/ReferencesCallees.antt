-- The functions to which references lead.
use Rattle.std.proofs.Common.{◌≡◌, ℕ, Bool, true, false, List, ◌++◌, map, Option, Some, refl, sym, ap, ◌∙◌, subst}
use Rattle.std.specs.Prelude.{slice_get}
use Rattle.std.proofs.lemmas.List.{map-append}
use Rattle.go_tree_nodes.specs.Rules.{Wf_file}
use Rattle.go_tree_nodes.specs.Spelling.{IsPlaced}
use Rattle.go_term_core.specs.decl_core.TopDecls.{top_decls}
use Rattle.go_term_core.specs.decl_core.declared.keys.DeclRef.{DeclRef}
use Rattle.go_names_core.specs.local_core.Binding.{Local}
use Rattle.go_body_core.specs.env_core.declared.meaning.Meaning.{Meaning as NameMeaning}
use Rattle.go_body_core.specs.file.Laws.{FunctionsArePlaced}
use Rattle.go_body_core.specs.file.Stands.{file_funcs}
use Rattle.go_body_core.specs.function.Functions.{walked_func}
use Rattle.go_body_core.specs.function.Laws.{FunctionsHaveOneTable}
use Rattle.go_emit_core.specs.package_core.PreparePackages.{trees_in}
use Rattle.go_graph_core.specs.Workspaces.{IsReadWorkspace, PackageModel}
use Rattle.go_emit_core.specs.package_core.PackagePartParts.{PartModel}
use Rattle.go_emit_core.specs.package_core.PackagePartSlots.{somes}
use Rattle.go_snap_core.specs.whole_workspace.Inputs.{AreParts}
use Rattle.go_object_core.specs.declared.instructions.letters.Word.{Word}
use Rattle.go_code_core.specs.fragments.Inside.{in_fragment}
use Rattle.go_code_core.specs.fragments.Names.{CodeLooks}
use Rattle.go_code_core.specs.Code.{frame_in}
use Rattle.go_meaning_laws.specs.source_meaning.Meaning.{SourceOf}
use Rattle.go_meaning_laws.specs.fitting_sources.Fitting.{receiver_over, signature_gives, taken_by}
use Rattle.go_machine_core.specs.link.Reaching.{ReachesOutside}
use Rattle.go_session_core.specs.launches.Located.{place_declared}
use Rattle.go_emit_core.specs.Emitted.{body_first}
use Rattle.go_meaning_laws.specs.object_sources.Laws.{ObjectsAreCodeOfSources}
use Rattle.go_meaning_laws.specs.object_sources.Sources.{sources_of}
use Rattle.go_body_core.specs.typexpr_core.EntryAmong.{among_from}
use Rattle.go_workspace_laws.specs.ConstantLaws.{code_names_of}
use Rattle.go_workspace_laws.specs.Standing.{stand_in_part}
use Rattle.go_workspace_laws.proofs.ConstantLists.{contained, has_get, has_of_all}
use Rattle.go_workspace_laws.proofs.Declaring.{declared_in}
use Rattle.go_program_laws.specs.calls.Places.{IsSourceAt, ReferencesLeadToTheirs}
use Rattle.go_program_laws.proofs.CallsSourced.{func_there}
use Rattle.go_program_laws.specs.types.Functions.{IsFunction, source_with}
use Rattle.go_program_laws.specs.faultless.Parts.{PartsAreAmong, PartsShowTheirTypes}
use Rattle.go_program_laws.specs.faultless.Runs.{callees_of}
use Rattle.go_program_laws.proofs.FaultlessReaching.{leads_outside}
use Rattle.go_program_laws.specs.references.Callees.{DeclarationsArePlaced, FunctionsTakeWords, IsDeclaredBehind, IsFunctionAt, ReachedAreInside, ReachedTakeWords, ReferencesLeadToFunctions}

pub are_placed : DeclarationsArePlaced
are_placed path d = refl

-- the source of a number that is declared there is that of a function of which nothing is reported
pub function_at : PartsAreAmong → FunctionsHaveOneTable → FunctionsArePlaced → (ws : List PackageModel) (parts : List (Option PartModel)) → IsReadWorkspace ws → AreParts ws parts → (path : List ℕ) (d : DeclRef) (number : ℕ) (s : SourceOf)
    → slice_get (sources_of place_declared (somes parts)) number ≡ Some s → IsSourceAt place_declared (somes parts) path d s → IsFunctionAt (somes parts) path d number
function_at among one funcs ws parts as_read made path d number s is a =
    let ps = somes parts in
    let p = a.part in
    let right = among ws parts as_read made p a.there in
    let n = d.file in
    let t = a.tree in
    let f = a.file in
    let g = a.func in
    let func = contained (file_funcs t) g (func_there t.decls g (declared_in t a.decl g (among_from (top_decls t) a.decl a.among) a.form).0) in
    let order = has_of_all IsPlaced (trees_in p.input.source) t right.files.placed (has_get (trees_in p.input.source) n t a.in_package) in
    let all : List (Local NameMeaning) = (walked_func (stand_in_part p.input p.content n t) g).declares in
    let h : IsFunction p.input p.content n t f g all = record {
      input = right.input;
      others = right.others;
      part = right.part;
      clean = a.clean;
      tree = a.in_package;
      file = a.made;
      grammar = has_of_all Wf_file (trees_in p.input.source) t right.files.grammar (has_get (trees_in p.input.source) n t a.in_package);
      placed = order;
      func = func;
      right = (one.table (stand_in_part p.input p.content n t) g (funcs t order g func) all).1 refl;
    } in
    let callees = callees_of place_declared ps f g in
    let same : s ≡ source_with (code_names_of p.input p.content n f g) callees g = a.is ∙ ap (λ (l : CodeLooks). source_with l callees g) (right.alike n f (body_first f.answers.uses g) a.made) in
    record {
      part = p;
      there = a.there;
      of_path = a.of_path;
      tree = t;
      file = f;
      func = g;
      all = all;
      checked = h;
      decl = a.decl;
      among = a.among;
      declared = a.number;
      form = a.form;
      is = is ∙ ap (λ (x : SourceOf). Some x) same;
    }

pub lead_to_functions : DeclarationsArePlaced → ReferencesLeadToTheirs → PartsAreAmong → FunctionsHaveOneTable → FunctionsArePlaced → ReferencesLeadToFunctions
lead_to_functions placed theirs among one funcs ws parts as_read made path d number is =
    let r = theirs place_declared (somes parts) placed path d number is in
    function_at among one funcs ws parts as_read made path d number r.0 r.1 r.2

pub inside_reached : ObjectsAreCodeOfSources → ReachedAreInside
inside_reached code ps main r runnable number s reached is = go (in_fragment (frame_in s.looks s.tree) s.tree) refl
  where
    go : (b : Bool) → in_fragment (frame_in s.looks s.tree) s.tree ≡ b → in_fragment (frame_in s.looks s.tree) s.tree ≡ true
    go true e = e
    go false e =
        absurd (runnable.inside (subst (λ fs. ReachesOutside fs r.starts) (sym (runnable.begun.functions ∙ code place_declared ps)) (leads_outside (sources_of place_declared ps) r.starts number s reached is e)))

-- what a function takes behind what its receiver is over
pub behind_receiver : (program : List SourceOf) (number : ℕ) (s : SourceOf) (words : List Word) → slice_get program number ≡ Some s → taken_by s ≡ receiver_over s.looks s.tree.receiver ++ map Some words
    → IsDeclaredBehind program number (signature_gives s.looks s.tree.signature) (receiver_over s.looks s.tree.receiver) words
behind_receiver program number s words is takes first e =
    record { source = s; is_source = is; given = refl; takes = takes ∙ (ap (λ os. os ++ map Some words) e ∙ sym (map-append Some first words)) }

pub reached_take : ReferencesLeadToFunctions → FunctionsTakeWords → ReachedAreInside → PartsShowTheirTypes → ReachedTakeWords
reached_take leads words inside shows ws parts as_read made main r runnable path d number reached is =
    let ps = somes parts in
    let at = leads ws parts as_read made path d number is in
    let p = at.part in
    let callees = callees_of place_declared ps at.file at.func in
    let s = source_with (code_names_of p.input p.content d.file at.file at.func) callees at.func in
    let w = words p.input p.content d.file at.tree at.file at.func at.all at.checked (shows ws parts as_read made p at.there) (inside ps main r runnable number s reached at.is) callees in
    record { at = at; taken = (w.words, behind_receiver (sources_of place_declared ps) number s w.words at.is w.takes, w.over) }
