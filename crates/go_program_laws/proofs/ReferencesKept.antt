-- The functions and methods to which the functions of a program refer are there, and take and give what their calls were checked by.
use Rattle.std.proofs.Common.{◌≡◌, ℕ, List, [], ◌∷◌, ◌++◌, map, Contains, Option, Some, None, sym, ap, ◌∙◌, subst}
use Rattle.go_tree_nodes.specs.declared.files.Receiver.{Receiver}
use Rattle.go_tree_nodes.specs.Trees.{FileTree, FuncTree}
use Rattle.go_names_core.specs.local_core.Binding.{Local}
use Rattle.go_body_core.specs.env_core.declared.meaning.Meaning.{Meaning as NameMeaning}
use Rattle.go_graph_core.specs.Workspaces.{IsReadWorkspace, PackageModel}
use Rattle.go_snap_core.specs.whole_workspace.Inputs.{AreParts}
use Rattle.go_emit_core.specs.package_core.PackagePartInputs.{path_in}
use Rattle.go_term_core.specs.declared.term.MemberPlace.TheVariants as places
use Rattle.go_machine_core.specs.link.Linked.{IsRunnable, RunnableOf, program_of}
use Rattle.go_program_laws.specs.faultless.Called.{IsKept, IsMethodKept, MethodsAreDeclared, MethodsGiveTheirs}
use Rattle.go_term_core.specs.decl_core.declared.keys.DeclRef.{DeclRef}
use Rattle.go_names_core.specs.block_core.Tables.{in_block}
use Rattle.go_term_core.specs.Terms.{Sign}
use Rattle.go_body_core.specs.typexpr_core.EntryAmong.{among_from, among_to, map_among}
use Rattle.go_meaning_laws.specs.handle_core.Declarations.{Declaration, InFile}
use Rattle.go_report_core.specs.denote_core.declared.things.Outcome.TheVariants as outcomes
use Rattle.go_object_core.specs.declared.instructions.letters.Word.{Word}
use Rattle.go_code_core.specs.declared.fragments.names.Gives.{Gives}
use Rattle.go_code_core.specs.declared.fragments.names.Meaning.TheVariants as meanings
use Rattle.go_emit_core.specs.package_core.PackagePartParts.{FileOf, PartModel}
use Rattle.go_emit_core.specs.package_core.PackagePartSlots.{somes}
use Rattle.go_meaning_laws.specs.fitting_sources.Fitting.{IsDeclared, receiver_over, signature_gives}
use Rattle.go_meaning_laws.specs.source_meaning.Meaning.{SourceOf}
use Rattle.go_meaning_laws.specs.fitting_sources.Laws.{IsReached, IsCalled}
use Rattle.go_machine_core.specs.link.Functions.{all_functions, number_of}
use Rattle.go_session_core.specs.launches.Located.{place_declared}
use Rattle.go_emit_core.specs.meaning.Words.{sign_gives}
use Rattle.go_emit_core.specs.Emitted.{body_uses, declarations_in, objects_of}
use Rattle.go_meaning_laws.specs.object_sources.Sources.{sources_of}
use Rattle.go_workspace_laws.specs.ConstantLaws.{code_names_of}
use Rattle.go_program_laws.specs.checked_sources.Statements.{AreOverEach}
use Rattle.go_program_laws.specs.types.Functions.{function_looks, known_types, meaning_there, source_with}
use Rattle.go_program_laws.specs.faultless.Parts.{PartsAreAmong}
use Rattle.go_program_laws.specs.faultless.Runs.{callees_of}
use Rattle.go_program_laws.specs.references.Callees.{IsDeclaredBehind, IsFunctionAt, ReachedAreInside}
use Rattle.go_program_laws.specs.references.Callers.{IsOwnCallee, IsOwnFunction, OwnReferencesTakeWords, OwnSignaturesAreTheirs}
use Rattle.go_program_laws.specs.references.Kept.{IsRun, MethodsAreKept, ReferencesAreKept}
use Rattle.go_program_laws.specs.references.Methods.{AreReceivedOver, MethodsAreOfParts, ReceiversTakeWords}
use Rattle.go_program_laws.specs.references.Reached.{SeenAreInProgram, SeesPart}
use Rattle.go_program_laws.specs.references.Shown.{FunctionsAreOfParts, FunctionsHaveNumbers, HeadersGiveTheirResults, NamesLeadToNoMethods, SignaturesAreAlike}

-- a function that a part declares, which another sees, is of this signature
record IsOfPart (ps : List PartModel) (p : PartModel) (d : Declaration) (s : Sign) : Type 0 where
  part : PartModel
  there : Contains ps part
  seen : SeesPart p part
  decl : DeclRef
  is : d ≡ InFile (path_in part.input) (places.Declared decl)
  own : IsOwnFunction part.input part.content decl s

-- what the signature of a function of a number gives is what its own header gives
header_gives : PartsAreAmong → OwnSignaturesAreTheirs → HeadersGiveTheirResults → ReachedAreInside → (ws : List PackageModel) (parts : List (Option PartModel)) → IsReadWorkspace ws → AreParts ws parts → (main : List ℕ) (r : RunnableOf)
    → IsRunnable (program_of place_declared (objects_of (somes parts)) main) r → (path : List ℕ) (d : DeclRef) (number : ℕ) → IsReached (sources_of place_declared (somes parts)) r.starts number
    → (at : IsFunctionAt (somes parts) path d number) (s : Sign) → IsOwnFunction at.part.input at.part.content d s
    → sign_gives (known_types at.part.input at.part.content) s ≡ signature_gives (code_names_of at.part.input at.part.content d.file at.file at.func) at.func.signature
header_gives among theirs results inside ws parts as_read made main r runnable path d number reached at s own =
    let i = at.part.input in
    let c = at.part.content in
    let fits = among ws parts as_read made at.part at.there in
    let written = theirs i c at.checked.part fits.files.placed d s own at.tree at.checked.tree at.decl at.among at.declared at.func at.form in
    let source = source_with (code_names_of i c d.file at.file at.func) (callees_of place_declared (somes parts) at.file at.func) at.func in
    ap (λ (y : Sign). sign_gives (known_types i c) y) written ∙ results i c d.file at.tree at.file at.func at.all at.checked fits.shows (inside (somes parts) main r runnable number source reached at.is)

module _ (seen : SeenAreInProgram) (numbers : FunctionsHaveNumbers) (among : PartsAreAmong) (own : OwnReferencesTakeWords) (theirs : OwnSignaturesAreTheirs) (results : HeadersGiveTheirResults) (inside : ReachedAreInside) (alike : SignaturesAreAlike)
    (ws : List PackageModel) (parts : List (Option PartModel)) (as_read : IsReadWorkspace ws) (made : AreParts ws parts) (main : List ℕ) (r : RunnableOf) (runnable : IsRunnable (program_of place_declared (objects_of (somes parts)) main) r)
    (p : PartModel) (n : ℕ) (t : FileTree) (f : FileOf) (g : FuncTree) (all : List (Local NameMeaning)) (run : IsRun (somes parts) main r p n t f g all)
    (d : Declaration) (s : Sign) (refers : Contains (declarations_in (body_uses f.answers.uses g)) d) (x : IsOfPart (somes parts) p d s) where
  abbrev sources : List SourceOf
  sources = sources_of place_declared (somes parts)

  abbrev number_in : Declaration → Option ℕ
  number_in = number_of place_declared (all_functions (objects_of (somes parts)))

  -- a function to which another refers is there, and is reached with it
  record IsCalleeThere : Type 0 where
    number : ℕ
    is : number_in d ≡ Some number
    there : number_in (InFile (path_in x.part.input) (places.Declared x.decl)) ≡ Some number
    reached : IsReached sources r.starts number

  callee_there : IsCalleeThere
  callee_there =
      let clean = seen ws parts as_read.well made main r runnable p run.part run.in_program x.part x.there x.seen in
      let right = among ws parts as_read made x.part x.there in
      let k = numbers (somes parts) x.part x.there right.part right.files.placed clean.clean x.decl s x.own in
      let is : number_in d ≡ Some k.0 = ap number_in x.is ∙ k.1 in
      let references = declarations_in (body_uses f.answers.uses g) in
      let callee : Contains (callees_of place_declared (somes parts) f g) (Some k.0) = among_to (map number_in references) (Some k.0) (map_among number_in references (Some k.0) d (among_from references d refers) is) in
      record { number = k.0; is = is; there = k.1; reached = IsCalled run.reached run.there callee }

  -- it takes words over the parameters of the signature by which its calls are checked, behind what its receiver is over, and gives what this gives here
  record IsTaken : Type 0 where
    number : ℕ
    is : number_in d ≡ Some number
    reached : IsReached sources r.starts number
    callee : IsOwnCallee (somes parts) x.part x.decl number s
    words : List Word
    over : AreOverEach (function_looks p.input p.content n t all).types words ((function_looks p.input p.content n t all).params s)
    declared : IsDeclaredBehind sources number (sign_gives (known_types p.input p.content) s) (receiver_over (code_names_of callee.at.part.input callee.at.part.content x.decl.file callee.at.file callee.at.func) callee.at.func.receiver) words

  taken : IsTaken
  taken =
      let k = callee_there in
      let c = own ws parts as_read made main r runnable x.part x.there x.decl s x.own k.number k.there k.reached in
      let at = c.at in
      let here : IsOwnFunction at.part.input at.part.content x.decl s = subst (λ (y : PartModel). IsOwnFunction y.input y.content x.decl s) (sym c.same) x.own in
      let w = c.taken n t all in
      let header = header_gives among theirs results inside ws parts as_read made main r runnable (path_in x.part.input) x.decl k.number k.reached at s here in
      let same = alike ws parts as_read.well made p x.part run.part x.there x.seen x.decl s x.own in
      let gives : signature_gives (code_names_of at.part.input at.part.content x.decl.file at.file at.func) at.func.signature ≡ sign_gives (known_types p.input p.content) s =
      sym header ∙ (ap (λ (y : PartModel). sign_gives (known_types y.input y.content) s) c.same ∙ same.gives) in
      record {
        number = k.number;
        is = k.is;
        reached = k.reached;
        callee = c;
        words = w.0;
        over = same.takes w.0 n t all n t all w.2;
        declared = λ first e. subst (λ (y : Gives). IsDeclared sources k.number y (first ++ w.0)) gives (w.1 first e);
      }

  -- one to which a name of a package block leads
  function_kept : NamesLeadToNoMethods → (name : List ℕ) → in_block x.part.content.blocks.names name ≡ Some x.decl → (given : Gives) → sign_gives (known_types p.input p.content) s ≡ given
      → IsKept sources number_in (function_looks p.input p.content n t all) d s given
  function_kept named name block given gives =
      let k = taken in
      let at = k.callee.at in
      let code = code_names_of at.part.input at.part.content x.decl.file at.file at.func in
      let here : in_block at.part.content.blocks.names name ≡ Some x.decl = subst (λ (y : PartModel). in_block y.content.blocks.names name ≡ Some x.decl) (sym k.callee.same) block in
      let none : at.func.receiver ≡ None = named at.part.input at.part.content at.checked.part name x.decl here at.tree at.checked.tree at.decl at.among at.declared at.func at.form in
      record {
        number = k.number;
        is = k.is;
        words = k.words;
        over = k.over;
        declared = subst (λ (y : Gives). IsDeclared sources k.number y k.words) gives (k.declared [] (ap (λ (o : Option Receiver). receiver_over code o) none));
      }

  -- one with a receiver over a word
  method_kept : ReceiversTakeWords → (w : Word) → AreReceivedOver x.part.input x.part.content x.decl w → (given : Gives) → sign_gives (known_types p.input p.content) s ≡ given
      → IsMethodKept sources number_in (function_looks p.input p.content n t all) d s w given
  method_kept receivers w received given gives =
      let k = taken in
      let at = k.callee.at in
      let i = at.part.input in
      let c = at.part.content in
      let source = source_with (code_names_of i c x.decl.file at.file at.func) (callees_of place_declared (somes parts) at.file at.func) at.func in
      let here : AreReceivedOver i c x.decl w = subst (λ (y : PartModel). AreReceivedOver y.input y.content x.decl w) (sym k.callee.same) received in
      let over = here at.tree at.checked.tree at.decl at.among at.declared at.func at.form in
      let shows = (among ws parts as_read made at.part at.there).shows in
      let first = receivers i c x.decl.file at.tree at.file at.func at.all at.checked shows (inside (somes parts) main r runnable k.number source k.reached at.is) w over in
      record {
        number = k.number;
        is = k.is;
        words = k.words;
        over = k.over;
        declared = subst (λ (y : Gives). IsDeclared sources k.number y (w ∷ k.words)) gives (k.declared (w ∷ []) first);
      }

pub references_kept : FunctionsAreOfParts → SeenAreInProgram → FunctionsHaveNumbers → PartsAreAmong → NamesLeadToNoMethods → OwnReferencesTakeWords → OwnSignaturesAreTheirs → HeadersGiveTheirResults → ReachedAreInside → SignaturesAreAlike → ReferencesAreKept
references_kept of_parts seen numbers among named own theirs results inside alike ws parts as_read made main r runnable p n t f g all run d s given refers func meant =
    let x = of_parts ws parts as_read.well made p run.part n t f g all run.function d s func in
    let of_part : IsOfPart (somes parts) p d s = record { part = x.part; there = x.there; seen = x.seen; decl = x.decl; is = x.is; own = x.own } in
    let functions : meanings.Function (sign_gives (known_types p.input p.content) s) ≡ meanings.Function given =
    sym x.meant ∙ (sym (ap (λ (e : Declaration). meaning_there p.input p.content n f (outcomes.Declared e)) x.is) ∙ meant) in
    let caller : sign_gives (known_types p.input p.content) s ≡ given = cc functions in
    function_kept seen numbers among own theirs results inside alike ws parts as_read made main r runnable p n t f g all run d s refers of_part named x.name x.named given caller

pub methods_kept : MethodsAreDeclared → MethodsGiveTheirs → MethodsAreOfParts → ReceiversTakeWords → SeenAreInProgram → FunctionsHaveNumbers → PartsAreAmong → OwnReferencesTakeWords → OwnSignaturesAreTheirs → HeadersGiveTheirResults → ReachedAreInside → SignaturesAreAlike
    → MethodsAreKept
methods_kept declared gives of_parts receivers seen numbers among own theirs results inside alike ws parts as_read made main r runnable p n t f g all run d path s w given refers method meant =
    let x = declared p.input p.content n t all d path s w method in
    let m = of_parts ws parts as_read made p run.part d path s w x in
    let of_part : IsOfPart (somes parts) p d s = record { part = m.part; there = m.there; seen = m.seen; decl = m.decl; is = m.is; own = m.own } in
    let caller : sign_gives (known_types p.input p.content) s ≡ given = gives ws parts as_read.well made p run.part n f d path s w x given meant in
    method_kept seen numbers among own theirs results inside alike ws parts as_read made main r runnable p n t f g all run d s refers of_part receivers w m.received given caller
