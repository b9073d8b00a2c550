-- The reports on a text with a fault and on a whole file.
use Rattle.std.proofs.Common.{◌≡◌, ◌≢◌, ◌≤◌, ◌<◌, ℕ, zero, suc, Bool, false, List, [], ◌∷◌, length, take, inl, inr, refl, sym, ap, subst, ◌∙◌, arith, Option, Some, None, Result, Ok, Err, IfOk, IfSome}
use Rattle.std.specs.Prelude.{slice_get}
use Rattle.std.specs.declared.alloc.AllocError.{AllocError}
use Rattle.std.specs.Str.{IsUtf8}
use Rattle.std.specs.Io.KnownBytes.{Appends, Keeps}
use Rattle.go_path_core.specs.text_core.declared.rule.Rule.TheVariants.{E3, K3, L1}
use Rattle.go_tree_nodes.specs.declared.names.Ident.{Ident}
use Rattle.go_tree_nodes.specs.Trees.{FileTree}
use Rattle.go_parse_core.specs.declared.error.SynFault.{SynFault}
use Rattle.go_parse_core.specs.Correct.{IsSynFault, IsTreeFault}
use Rattle.go_parse_core.specs.Refusing.{IsRuleRead}
use Rattle.go_block_core.specs.graph_core.declared.assembly.KFault.{KFault}
use Rattle.go_block_core.specs.graph_core.Packages.{IsAssembled, IsAssembly, IsClause, blank}
use Rattle.go_block_core.specs.graph_core.Sources.{SourceModel, IsContent, IsRead, clause_in, clause_of, source}
use Rattle.go_block_core.specs.graph_core.Workspaces.{PackageModel}
use Rattle.go_block_core.specs.Naming.{AreInFile}
use Rattle.go_package_core.specs.package_part.Inputs.{InputModel, input_with}
use Rattle.go_package_core.specs.package_part.Parts.{IsPart}
use Rattle.govisd_resolve.specs.told_lines.Lines.{file_lines}
use Rattle.govisd_resolve.specs.Alone.{ImportIsRefused, file_alone, package_alone, the_name, workspace_alone}
use Rattle.govisd_resolve.specs.Reports.{TooLong, NoText, BadToken, NoTree, TooHigh, NoName, AFile, IsText, IsFile, HasTokens, IsEnd, IsReport, ReadsAll, Reports, ReportsPart, end_of, the_fault, max_bytes}
use Rattle.govisd_resolve.specs.mirrors.Making.{IsAlone, IsInputIn, IsTold}
use Rattle.govisd_resolve.specs.declared.input.InputFault.{InputFault}
use Rattle.govisd_resolve.specs.declared.input.InputFault.TheVariants as input_faults
use Rattle.govisd_resolve.specs.declared.run.Report.{Report}
use Rattle.govisd_resolve.specs.declared.run.ResolveEnd.{ResolveEnd}
use Rattle.govisd_resolve.specs.Outputs.{IsCutShort}

tokens_of_fault : (bytes : List ℕ) (fault : SynFault) → IsText bytes → IsTreeFault bytes fault → HasTokens bytes
tokens_of_fault bytes fault text why = record { text = text; tokens = why.tokens; scanned = why.scanned }

-- a text with no tokens, or with none of its trees low enough
pub text_fault_report : (bytes : List ℕ) (fault : SynFault) (clean : Bool) (out : List ℕ) → IsText bytes → IsSynFault bytes fault → IsRuleRead bytes fault.rule → clean ≡ false → out ≡ the_fault fault.offset fault.rule → IsReport bytes clean out
text_fault_report bytes fault clean out text (inl scanned) read says written =
    record { input = BadToken (record { rule = fault.rule; offset = fault.offset }); is = (text, scanned); says = sym says; writes = written }
text_fault_report bytes fault clean out text (inr tree) read says written =
    let tokens = tokens_of_fault bytes fault text tree in
    elim tree.why [
      | inl none ↦ record { input = NoTree fault.offset; is = (tokens, none.1, subst (IsRuleRead bytes) none.0 read, tree.within); says = sym says; writes = written ∙ ap (the_fault fault.offset) none.0 }
      | inr high ↦ record { input = TooHigh fault.offset; is = (tokens, high.1, subst (IsRuleRead bytes) high.0 read, tree.within); says = sym says; writes = written ∙ ap (the_fault fault.offset) high.0 }
    ]

-- the one file of a package, where its tree is that of its text
file_of_text : (s : SourceModel) (f : FileTree) → IsText s.text → IsRead s → s.content ≡ Ok f → IsFile s.text f
file_of_text s f text read tree = record { text = text; parse = subst (IsContent s.text) tree read }

-- the one file that a list has
the_one : (s x : SourceModel) (i : ℕ) → slice_get (s ∷ []) i ≡ Some x → s ≡ x
the_one s x zero e = cc
the_one s x (suc i) e = cc

-- its clause
the_clause : (s x : SourceModel) (f : FileTree) (i : ℕ) (id : Ident) → s.content ≡ Ok f → slice_get (s ∷ []) i ≡ Some x → IsClause x id → f.name ≡ id
the_clause s x f i id tree at clause =
    let same : Some f.name ≡ Some id = sym (ap clause_in tree) ∙ (ap clause_of (the_one s x i at) ∙ clause) in
    cc

-- why the files of a package are none, where it has one, with a tree: its name is blank
pub record IsNameless (f : FileTree) (fault : KFault) : Type 0 where
  pub blank_name : f.name.name ≡ blank
  pub offset : fault.offset ≡ f.name.span.start
  pub rule : fault.rule ≡ K3

nameless : (s : SourceModel) (f : FileTree) (fault : KFault) → s.content ≡ Ok f → IsAssembly (s ∷ []) (Err fault) → IsNameless f fault
nameless s f fault tree (inl k) =
    let some : Some f.name ≡ None = sym (ap clause_in tree) ∙ (ap clause_of (the_one s k.file fault.file k.first.at) ∙ k.first.holds) in
    cc
nameless s f fault tree (inr (inl k)) =
    let id = k.offset in
    let same = the_clause s k.file f fault.file id.0 tree k.first.at id.1 in
    record { blank_name = ap (λ (x : Ident). x.name) same ∙ id.2; offset = id.3 ∙ ap (λ (x : Ident). x.span.start) (sym same); rule = k.rule }
nameless s f fault tree (inr (inr k)) =
    let id = k.offset in
    let same = the_clause s k.file f fault.file id.0 tree k.first.at id.1 in
    let first = k.is_name in
    let named = the_clause s first.0 f 0 first.1 tree first.2 first.3 in
    absurd (id.2 (ap (λ (x : Ident). x.name) (sym same ∙ named) ∙ sym first.4))

-- a file whose package has the blank name
pub no_name_reports : (s : SourceModel) (f : FileTree) (fault : KFault) (result : Result Report AllocError) → IsText s.text → IsRead s → s.content ≡ Ok f → IsAssembly (s ∷ []) (Err fault) → IfOk result (λ r. r.text.items ≡ the_fault fault.offset fault.rule) → IfOk result (λ r. r.clean ≡ false) → IfOk result (λ r. IsReport s.text r.clean r.text.items)
no_name_reports s f fault (Ok r) text read tree none written says =
    let why = nameless s f fault tree none in
    record { input = NoName f; is = (file_of_text s f text read tree, why.blank_name); says = sym says; writes = written ∙ (ap (λ o. the_fault o fault.rule) why.offset ∙ ap (the_fault f.name.span.start) why.rule) }
no_name_reports s f fault (Err e) text read tree none written says = tt

has_name : (s : SourceModel) (f : FileTree) → s.content ≡ Ok f → IsAssembled (s ∷ []) → f.name.name ≢ blank
has_name s f tree well = λ e. well.named 0 s (omega arith) (f.name.span.start, (f.name, ap clause_in tree, e, refl))

file_is : (s : SourceModel) (f : FileTree) → s.name ≡ the_name → s.content ≡ Ok f → s ≡ file_alone s.text f
file_is s f name tree = ap (λ n. source n s.text s.content) name ∙ ap (source the_name s.text) tree

-- a whole file, with what stands in it
pub whole_report : (s : SourceModel) (f : FileTree) (ps : List PackageModel) (p : PackageModel) (i : InputModel) (clean : Bool) (out : List ℕ)
    → IsAlone s ps → IsText s.text → s.content ≡ Ok f → p ≡ package_alone s → IsAssembled p.1 → IsInputIn ps p f i → IsTold s.name f i clean out → IsReport s.text clean out
whole_report s f ps p i clean out alone text tree is well input told =
    let own : p ≡ package_alone (file_alone s.text f) = is ∙ ap package_alone (file_is s f alone.name tree) in
    let whole : ps ≡ workspace_alone (file_alone s.text f) = alone.is ∙ ap workspace_alone (file_is s f alone.name tree) in
    record {
      input = AFile f told.file;
      is = (
        file_of_text s f text alone.read tree,
        has_name s f tree (subst (λ (q : PackageModel). IsAssembled q.1) is well),
        record {
          imports = input.imports;
          refused = subst (λ ws. AreInFile (ImportIsRefused ws) 0 0 f input.imports) whole input.refused;
          content = told.content;
          part = subst (λ x. IsPart x told.content) (input.is ∙ ap (λ q. input_with q (input.imports ∷ []) []) own) told.part;
          files = told.files;
        },
      );
      says = sym told.says;
      writes = told.writes ∙ ap (λ n. file_lines n f told.file.answers.uses told.file.answers.faults) alone.name;
    }

-- a text with a fault, where its report was made
pub text_fault_reports : (bytes : List ℕ) (fault : SynFault) (result : Result Report AllocError) → IsText bytes → IsSynFault bytes fault × IsRuleRead bytes fault.rule → IfOk result (λ r. r.text.items ≡ the_fault fault.offset fault.rule) → IfOk result (λ r. r.clean ≡ false) → IfOk result (λ r. IsReport bytes r.clean r.text.items)
text_fault_reports bytes fault (Ok r) text why written says = text_fault_report bytes fault r.clean r.text.items text why.0 why.1 says written
text_fault_reports bytes fault (Err e) text why written says = tt

-- bytes that are too many
pub too_long_reports : (bytes : List ℕ) (result : Result Report AllocError) → max_bytes < length bytes → IfOk result (λ r. r.text.items ≡ the_fault 0 E3) → IfOk result (λ r. r.clean ≡ false) → IfOk result (λ r. IsReport bytes r.clean r.text.items)
too_long_reports bytes (Ok r) many written says = record { input = TooLong; is = many; says = sym says; writes = written }
too_long_reports bytes (Err e) many written says = tt

-- bytes that are no text
pub no_text_reports : (bytes : List ℕ) (result : Result Report AllocError) → length bytes ≤ max_bytes → ¬ (IsUtf8 bytes) → IfOk result (λ r. r.text.items ≡ the_fault 0 L1) → IfOk result (λ r. r.clean ≡ false) → IfOk result (λ r. IsReport bytes r.clean r.text.items)
no_text_reports bytes (Ok r) few none written says = record { input = NoText; is = (few, none); says = sym says; writes = written }
no_text_reports bytes (Err e) few none written says = tt

-- a report that was written
reported : (bytes : List ℕ) (clean : Bool) (out : List ℕ) (old new : Option (List ℕ)) → IsReport bytes clean out → Appends old new out → Reports clean bytes old new
reported bytes clean out old new made appended =
    record { input = made.input; is = made.is; says = made.says; writes = subst (Appends old new) made.writes appended }

-- the same over what was read
pub reported_all : (remaining : Option (List ℕ)) (limit : ℕ) (bytes : List ℕ) (clean : Bool) (out : List ℕ) (old new : Option (List ℕ)) → IfSome remaining (λ xs. bytes ≡ take limit xs) → IsReport bytes clean out → Appends old new out → IfSome remaining (λ xs. Reports clean (take limit xs) old new)
reported_all None limit bytes clean out old new read made appended = tt
reported_all (Some xs) limit bytes clean out old new read made appended = subst (λ b. Reports clean b old new) read (reported bytes clean out old new made appended)

-- a report of which a first part was written
reported_part : (bytes : List ℕ) (clean : Bool) (out : List ℕ) (old new : Option (List ℕ)) → IsReport bytes clean out → IsCutShort old new out → ReportsPart bytes old new
reported_part bytes clean out old new made part =
    record { input = made.input; is = made.is; cut = subst (IsCutShort old new) made.writes part }

-- the same over what was read
pub reported_first : (remaining : Option (List ℕ)) (limit : ℕ) (bytes : List ℕ) (clean : Bool) (out : List ℕ) (old new : Option (List ℕ)) → IfSome remaining (λ xs. bytes ≡ take limit xs) → IsReport bytes clean out → IsCutShort old new out → IfSome remaining (λ xs. ReportsPart (take limit xs) old new)
reported_first None limit bytes clean out old new read made part = tt
reported_first (Some xs) limit bytes clean out old new read made part = subst (λ b. ReportsPart b old new) read (reported_part bytes clean out old new made part)

-- ---- inputs that are not read

-- why one is not read says how the run ends, and nothing is written
pub unread_ends : (given : Option (List ℕ)) (n : ℕ) (fault : InputFault) (ending : ResolveEnd) (old new : Option (List ℕ)) → ending ≡ end_of fault → Keeps old new → IfSome given (λ bytes. IsEnd ending (take n bytes) old new)
unread_ends None n fault ending old new is kept = tt
unread_ends (Some bytes) n fault ending old new is kept = subst (λ e. IsEnd e (take n bytes) old new) (sym is) (by fault)
  where
    by : (f : InputFault) → IsEnd (end_of f) (take n bytes) old new
    by (input_faults.Reader kind) = kept
    by input_faults.Memory = kept

pub unread_takes : (given left : Option (List ℕ)) (n : ℕ) (fault : InputFault) (ending : ResolveEnd) → ending ≡ end_of fault → IfSome given (λ bytes. ReadsAll ending (take n bytes) given left)
unread_takes None left n fault ending is = tt
unread_takes (Some bytes) left n fault ending is = subst (λ e. ReadsAll e (take n bytes) (Some bytes) left) (sym is) (by fault)
  where
    by : (f : InputFault) → ReadsAll (end_of f) (take n bytes) (Some bytes) left
    by (input_faults.Reader kind) = tt
    by input_faults.Memory = tt
