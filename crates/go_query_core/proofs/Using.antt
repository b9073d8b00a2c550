-- What is used at an offset of a file.
use Rattle.std.proofs.Common.{◌≡◌, ℕ, ◌+◌, ◌<◌, ◌≤◌, ◌||◌, ◌⊎◌, inl, inr, Bool, true, false, All, List, length, drop, get_or, Some, Ok, slice_get, sym, ap, ◌∙◌, subst}
use Rattle.std.specs.Prelude.{◌↔◌, Err, IsTrue, Result, option_map}
use Rattle.std.proofs.lemmas.Bool.{true≢false}
use Rattle.go_tree_nodes.specs.text_core.declared.rule.Rule.{Rule}
use Rattle.go_tree_nodes.specs.text_core.declared.rule.Rule.TheVariants.{M0}
use Rattle.go_tree_nodes.specs.token_core.declared.token.LexFault.{LexFault}
use Rattle.go_tree_nodes.specs.token_core.declared.token.Token.{Token}
use Rattle.go_scan_core.specs.Cutting.{tokens_of}
use Rattle.std.specs.List.{list_any}
use Rattle.std.proofs.lemmas.List.{drop_all, drop_more, length-map}
use Rattle.std.proofs.lemmas.Option.{get_or_from_slice_get, slice_get-get_or, slice_get-map, slice_get_within}
use Rattle.go_tree_nodes.specs.Trees.{FileTree}
use Rattle.go_parse_core.specs.tree_core.Occurrences.{CoversAt, NoneCovers, file_occs}
use Rattle.go_expr_core.specs.denote_core.declared.things.Outcome.TheVariants as outcomes
use Rattle.go_declared_core.specs.handle_core.Declarations.{Declaration}
use Rattle.go_expr_core.specs.Laws.{occurrence_place, use_place}
use Rattle.go_parse_core.specs.Parsing.{IsParse}
use Rattle.go_import_core.specs.graph_core.Packages.{tree_shown, trees_of}
use Rattle.go_import_core.specs.graph_core.Sources.{IsContent, IsRead, SourceModel}
use Rattle.go_import_core.specs.graph_core.Workspaces.{AreAllRead}
use Rattle.go_import_core.specs.graph_core.Assemblies.{tree_at}
use Rattle.go_complete_core.specs.package_core.PreparePackages.{trees_in}
use Rattle.go_complete_core.specs.report_core.UsageUsed.{FileUse}
use Rattle.go_complete_core.specs.package_core.PackagePartInputs.{IsInput}
use Rattle.go_complete_core.specs.snap_core.WholeWorkspacePartsWhole.{all_right}
use Rattle.go_complete_core.specs.package_core.PackagePartLaws.{PartHasOccurrences}
use Rattle.go_complete_core.specs.snap_core.Snapshots.{FoundFile, HasNoFile, IsFileAt, IsSnapshot, SnapshotModel}
use Rattle.go_complete_core.specs.snap_core.Faulty.{read_there}
use Rattle.go_query_core.specs.Defining.{Declares, IsDefinition, IsDefinitionIn, IsIdentifierAt, IsLacking, IsRefusal, IsRefusalIn, IsUnused, IsUseIn, is_over}
use Rattle.go_query_core.specs.mirrors.Uses.{HasOccurrences}

-- whether one of a list passes

pub any_step : {X : Type 0} (f : X → Bool) (xs : List X) (i : ℕ) (d : X) (all : Bool) → i < length xs → f (get_or xs i d) ≡ false → list_any f (drop i xs) ≡ all → list_any f (drop (i + 1) xs) ≡ all
any_step f xs i d all lt off before = ap (λ b. b || list_any f (drop (i + 1) xs)) (sym off) ∙ (ap (list_any f) (sym (drop_more xs i d lt)) ∙ before)

pub any_here : {X : Type 0} (f : X → Bool) (xs : List X) (i : ℕ) (d : X) (all : Bool) → i < length xs → f (get_or xs i d) ≡ true → list_any f (drop i xs) ≡ all → true ≡ all
any_here f xs i d all lt on before = ap (λ b. b || list_any f (drop (i + 1) xs)) (sym on) ∙ (ap (list_any f) (sym (drop_more xs i d lt)) ∙ before)

pub any_end : {X : Type 0} (f : X → Bool) (xs : List X) (i : ℕ) (all : Bool) → length xs ≤ i → list_any f (drop i xs) ≡ all → false ≡ all
any_end f xs i all le before = ap (list_any f) (sym (drop_all i xs le)) ∙ before

-- whether an identifier stands there

pub identifier_is : (text : List ℕ) (offset : ℕ) (tokens : List Token) (b : Bool) → tokens_of text ≡ Ok tokens → b ≡ list_any (is_over offset) tokens → IsTrue b ↔ IsIdentifierAt text offset
identifier_is text offset tokens b scanned is = (λ on. (tokens, scanned, sym is ∙ on), back)
  where
    same : (us : List Token) → tokens_of text ≡ Ok us → us ≡ tokens
    same us e = (let r : ◌≡◌ {A = Result (List Token) LexFault} (Ok us) (Ok tokens) = sym e ∙ scanned in cc)

    back : IsIdentifierAt text offset → b ≡ true
    back h = is ∙ (ap (list_any (is_over offset)) (sym (same h.0 h.1)) ∙ h.2)

pub no_identifier : (text : List ℕ) (offset : ℕ) (fault : LexFault) → tokens_of text ≡ Err fault → IsTrue false ↔ IsIdentifierAt text offset
no_identifier text offset fault scanned = (λ on. absurd (true≢false (sym on)), λ h. (let r : ◌≡◌ {A = Result (List Token) LexFault} (Ok h.0) (Err fault) = sym h.1 ∙ scanned in cc))

-- of files

pub parsed : (s : SourceModel) (f : FileTree) → IsRead s → s.content ≡ Ok f → IsParse s.text f
parsed s f read is = subst (IsContent s.text) is read

module _ (s : SnapshotModel) (all : All AreAllRead s.sources) (whole : IsSnapshot s.sources s.parts s.faults) (path name : List ℕ) (f : FoundFile) (at : IsFileAt s.sources s.parts path name f) where
  -- a file of a snapshot is read, and what its part has stands where its occurrences stand
  pub has_occurrences : PartHasOccurrences → IsInput f.of_part.input → HasOccurrences f
  has_occurrences of_part input =
      let right = all_right s.sources s.parts whole.made at.in_workspace.number f.of_part at.in_workspace.there in
      let files : List SourceModel = f.of_part.input.source.1 in
      let low : f.number < length files = slice_get_within files f.number f.source at.in_package in
      let read : IsRead f.source = subst IsRead (get_or_from_slice_get files f.number f.source f.source at.in_package) (read_there s.sources at.in_workspace.number f.of_part.input.source all right.numbered f.number f.source low) in
      let parse : IsParse f.source.text f.tree = parsed f.source f.tree read at.tree in
      let tree : slice_get (trees_in f.of_part.input.source) f.number ≡ Some f.tree =
      slice_get-map tree_shown (trees_of files) f.number ∙ ap (λ o. option_map tree_shown o) (tree_at files f.number f.source f.tree right.assembled.trees at.in_package at.tree) in
      let same = of_part f.of_part.input f.of_part.content input right.made f.number f.tree f.made tree at.made parse.found.tree.wf in
      record {
        many = sym (length-map f.made.answers.uses use_place) ∙ (ap length same ∙ length-map (file_occs f.tree) occurrence_place);
        few = parse.few;
      }

-- the occurrence of a number that covers an offset has its answer
pub used_at : (f : FoundFile) (offset number : ℕ) (u : FileUse) → CoversAt offset (file_occs f.tree) number → number < length f.made.answers.uses → u ≡ get_or f.made.answers.uses number u → IsUseIn f offset u
used_at f offset number u covers lt is = record { number = number; covers = covers; has = slice_get-get_or f.made.answers.uses number u lt ∙ ap Some (sym is) }

-- definitions

pub defined_in : (f : FoundFile) (offset : ℕ) (u : FileUse) → IsUseIn f offset u → (d : Declaration) → Declares u.outcome d → IsDefinitionIn f offset d
defined_in f offset u h d e = (u, h, e)

pub refused_in : (f : FoundFile) (offset : ℕ) (u : FileUse) → IsUseIn f offset u → (rule : Rule) → u.outcome ≡ outcomes.Refused rule → (rule ≡ M0) ⊎ IsRefusalIn f offset rule
refused_in f offset u h rule e = inr (inl (u, h, e))

pub unused_in : (f : FoundFile) (offset : ℕ) (text : List ℕ) → text ≡ f.source.text → NoneCovers offset (file_occs f.tree) → (rule : Rule) → (rule ≡ M0) ⊎ IsUnused text offset rule → (rule ≡ M0) ⊎ IsRefusalIn f offset rule
unused_in f offset text same none rule (inl memory) = inl memory
unused_in f offset text same none rule (inr h) = inr (inr (none, subst (λ (t : List ℕ). IsUnused t offset rule) same h))

module _ (s : SnapshotModel) (path name : List ℕ) (offset : ℕ) where
  pub is_defined : (f : FoundFile) → IsFileAt s.sources s.parts path name f → (d : Declaration) → IsDefinitionIn f offset d → IsDefinition s path name offset d
  is_defined f at d h = (f, at, h)

  pub is_refusal : (f : FoundFile) → IsFileAt s.sources s.parts path name f → (rule : Rule) → (rule ≡ M0) ⊎ IsRefusalIn f offset rule → (rule ≡ M0) ⊎ IsRefusal s path name offset rule
  is_refusal f at rule (inl memory) = inl memory
  is_refusal f at rule (inr h) = inr (inr (inr (f, at, h)))

  pub is_lacking : HasNoFile s.sources s.parts path name → (rule : Rule) → IsLacking s path rule → (rule ≡ M0) ⊎ IsRefusal s path name offset rule
  is_lacking none rule (inl h) = inr (inl h)
  is_lacking none rule (inr h) = inr (inr (inl (h.0, (h.1.0, h.1.1, none))))
