-- Where the faults of a package stand whose files do not assemble.
use Rattle.std.proofs.Common.{◌≡◌, ℕ, ◌+◌, ◌<◌, ◌≤◌, ◌⊎◌, inl, inr, Bool, true, false, ◌==◌, All, List, [], ◌∷◌, ◌++◌, length, drop, Option, Some, None, Result, Ok, Err, refl, sym, ap, subst, ◌∙◌, arith, append_assoc}
use Rattle.std.specs.Prelude.{slice_get}
use Rattle.std.specs.Char.{len_utf8}
use Rattle.std.specs.Str.{chars, IsUtf8}
use Rattle.std.proofs.lemmas.List.Sums.{sum_by-append}
use Rattle.go_path_core.specs.text_core.declared.rule.Rule.{Rule}
use Rattle.go_tree_nodes.specs.token_core.declared.token.LexFault.{LexFault}
use Rattle.go_tree_nodes.specs.token_core.declared.kind.Operator.TheVariants as operator
use Rattle.go_tree_nodes.specs.token_core.Characters.{first_passes}
use Rattle.go_tree_nodes.specs.token_core.CharacterLemmas.{width-chars}
use Rattle.go_scan_core.specs.declared.enclosed.Enclosure.{Enclosure}
use Rattle.go_scan_core.specs.Enclosed.{opening}
use Rattle.go_scan_core.specs.Parts.{TextPart, width}
use Rattle.go_scan_core.specs.Tokens.{AreTextParts, IsAnswer}
use Rattle.go_scan_core.specs.Tokens as lexemes
use Rattle.go_scan_core.proofs.CutLemmas.{width_behind_mark}
use Rattle.go_tree_nodes.specs.declared.names.Ident.{Ident}
use Rattle.go_tree_nodes.specs.Spelling.{mark, spell_imports, spell_tops}
use Rattle.go_tree_nodes.specs.Trees.{FileTree}
use Rattle.go_tree_nodes.proofs.InOrder.{in_order_ends}
use Rattle.go_graph_core.specs.parse_core.declared.error.SynFault.{SynFault}
use Rattle.go_graph_core.specs.parse_core.Correct.{IsSynFault}
use Rattle.go_graph_core.specs.declared.assembly.KFault.{KFault}
use Rattle.go_graph_core.specs.Packages.{IsAssembly}
use Rattle.go_graph_core.specs.Sources.{SourceModel, IsContent, IsRead, clause_in}
use Rattle.go_graph_core.specs.Workspaces.{PackageModel, AreAllRead}
use Rattle.go_emit_core.specs.package_core.PackagePartParts.{PartModel}
use Rattle.go_snap_core.proofs.WholeWorkspaceLists.{none_is_some, one_at}
use Rattle.go_snap_core.specs.declared.fault.PlacedFault.{PlacedFault}
use Rattle.go_snap_core.specs.Faults.{IsWorkspaceFault, IsOfAssembly, IsOfText, IsUnassembled, LiesIn}
use Rattle.go_snap_core.specs.Laws.{UnassembledFaultsLieInTexts}
use Rattle.go_snap_core.specs.Snapshots.{contents_of}
use Rattle.go_snap_core.proofs.Faulty.{contents_at, read_there}
use Rattle.go_snap_core.proofs.Reporting.{read_at}

-- the first fault of the tokens of a text

-- what is behind some characters makes them no narrower
no_narrower : (front rest cs : List ℕ) → cs ≡ front ++ rest → width front ≤ width cs
no_narrower front rest cs e = (let all : width cs ≡ width front + width rest = ap width e ∙ sum_by-append len_utf8 front rest in omega (arith, all))

at_start : (before cs : List ℕ) → before ≡ [] → width before ≤ width cs
at_start before cs e = subst (λ l. width l ≤ width cs) (sym e) (omega arith)

flawed_inside : (e : Enclosure) (rule : Rule) (before cs : List ℕ) (ws : List (List ℕ)) (rest : List ℕ) → cs ≡ opening e ++ (lexemes.joined ws ++ rest) → lexemes.IsCause e rule before (opening e ++ lexemes.joined ws) rest → width before ≤ width cs
flawed_inside e rule before cs ws rest is (inl a) = subst (λ l. width l ≤ width cs) (sym a.1) (no_narrower (opening e ++ lexemes.joined ws) rest cs (is ∙ sym (append_assoc (opening e) (lexemes.joined ws) rest)))
flawed_inside e rule before cs ws rest is (inr (inl b)) = at_start before cs b.1
flawed_inside e rule before cs ws rest is (inr (inr d)) = at_start before cs d.1

fault_inside : (rule : Rule) (before cs : List ℕ) → lexemes.IsFault rule before cs → width before ≤ width cs
fault_inside rule before cs (inl a) = at_start before cs a.1
fault_inside rule before cs (inr (inl b)) = at_start before cs b.1
fault_inside rule before cs (inr (inr c)) = flawed_inside c.0 rule before cs c.1.0 c.1.1 c.1.2 c.1.4

parts_inside : (parts : List TextPart) (cs : List ℕ) (start : ℕ) (fault : LexFault) → AreTextParts parts cs start (Some fault) → fault.offset ≤ start + width cs
parts_inside [] cs start fault h = (let low = fault_inside fault.rule h.0 cs h.1 in let at = h.2 in omega (arith, low, at))
parts_inside (p ∷ parts) cs start fault h =
    let inside = parts_inside parts h.1 (start + width h.0) fault h.4 in
    let all : width cs ≡ width h.0 + width h.1 = ap width h.2 ∙ sum_by-append len_utf8 h.0 h.1 in
    omega (arith, inside, all)

answer_inside : (text : List ℕ) (fault : LexFault) → IsUtf8 text → IsAnswer text (Err fault) → fault.offset ≤ length text
answer_inside text fault u h = by (first_passes (λ c. c == 65279) (chars text)) refl
  where
    by : (b : Bool) → first_passes (λ c. c == 65279) (chars text) ≡ b → fault.offset ≤ length text
    by true e =
        let parts = h.0 e in
        let inside = parts_inside parts.0 (drop 1 (chars text)) 3 fault parts.1 in
        let far : 3 + width (drop 1 (chars text)) ≡ length text = width_behind_mark (chars text) e ∙ width-chars text u in
        omega (arith, inside, far)
    by false e = (let parts = h.1 e in let inside = parts_inside parts.0 (chars text) 0 fault parts.1 in omega (arith, inside, width-chars text u))

syntax_inside : (text : List ℕ) (fault : SynFault) → IsUtf8 text → IsSynFault text fault → fault.offset ≤ length text
syntax_inside text fault u (inl a) = answer_inside text (record { rule = fault.rule; offset = fault.offset }) u a
syntax_inside text fault u (inr t) = t.within

-- the name in a package clause
clause_inside : (text : List ℕ) (r : Result FileTree SynFault) (id : Ident) → IsContent text r → clause_in r ≡ Some id → id.span.start ≤ length text
clause_inside text (Err e) id h c = absurd (none_is_some c)
clause_inside text (Ok t) id h c =
    let same : t.name ≡ id = (let o : Some t.name ≡ Some id = c in cc) in
    let name = h.placed.2 in
    let starts = name.1 in
    let ends = in_order_ends (mark operator.Semicolon t.semicolon ∷ (spell_imports t.imports ++ spell_tops t.decls)) t.name.span.end (length text) name.2 in
    subst (λ (i : Ident). i.span.start ≤ length text) same (omega (arith, starts, ends))

-- why files do not assemble
assembly_inside : (files : List SourceModel) (fault : KFault) (s : SourceModel) → IsRead s → slice_get files fault.file ≡ Some s → IsAssembly files (Err fault) → fault.offset ≤ length s.text
assembly_inside files fault s read at (inl k) = (let none = k.offset in omega (arith, none))
assembly_inside files fault s read at (inr (inl k)) =
    let same : k.file ≡ s = one_at files fault.file k.file s k.first.at at in
    let clause : clause_in s.content ≡ Some k.offset.0 = subst (λ (o : SourceModel). clause_in o.content ≡ Some k.offset.0) same k.offset.1 in
    subst (λ n. n ≤ length s.text) (sym k.offset.3) (clause_inside s.text s.content k.offset.0 read clause)
assembly_inside files fault s read at (inr (inr k)) =
    let same : k.file ≡ s = one_at files fault.file k.file s k.first.at at in
    let clause : clause_in s.content ≡ Some k.offset.0 = subst (λ (o : SourceModel). clause_in o.content ≡ Some k.offset.0) same k.offset.1 in
    subst (λ n. n ≤ length s.text) (sym k.offset.3) (clause_inside s.text s.content k.offset.0 read clause)

module _ (ps : List PackageModel) (parts : List (Option PartModel)) (read : All AreAllRead ps) (f : PlacedFault) (none : slice_get parts f.«package» ≡ Some None) (lies : LiesIn ps f) (u : IsUtf8 lies.source.text) where
  source_read : IsRead lies.source
  source_read = read_at lies.of_package.1 f.file lies.source (read_there ps f.«package» lies.of_package read lies.there) lies.in_package

  by_reason : (p : PackageModel) → p ≡ lies.of_package → IsOfAssembly p f ⊎ IsOfText p f → f.offset ≤ length lies.source.text
  by_reason p same (inl a) =
      let there : slice_get p.1 a.fault.file ≡ Some lies.source = subst (λ k. slice_get p.1 k ≡ Some lies.source) a.file (subst (λ (q : PackageModel). slice_get q.1 f.file ≡ Some lies.source) (sym same) lies.in_package) in
      subst (λ n. n ≤ length lies.source.text) (sym a.offset) (assembly_inside p.1 a.fault lies.source source_read there a.assembly)
  by_reason p same (inr t) =
      let one : t.source ≡ lies.source = one_at p.1 f.file t.source lies.source t.in_package (subst (λ (q : PackageModel). slice_get q.1 f.file ≡ Some lies.source) (sym same) lies.in_package) in
      let content : lies.source.content ≡ Err t.fault = subst (λ (s : SourceModel). s.content ≡ Err t.fault) one t.content in
      subst (λ n. n ≤ length lies.source.text) (sym t.offset) (syntax_inside lies.source.text t.fault u (subst (IsContent lies.source.text) content source_read).0)

  fault_stands : IsWorkspaceFault ps (contents_of parts) f → f.offset ≤ length lies.source.text
  fault_stands (inl r) = absurd (let o : Some None ≡ Some (Some r.content) = sym (contents_at parts f.«package» None none) ∙ r.there in let k : None ≡ Some r.content = cc in none_is_some k)
  fault_stands (inr h) = by_reason h.source (one_at ps f.«package» h.source lies.of_package h.there lies.there) h.why

pub unassembled_lie_in_texts : UnassembledFaultsLieInTexts
unassembled_lie_in_texts ps parts faults read h f among none lies u = fault_stands ps parts read.read f none lies u ((h.faults_are.same f).0 among)
