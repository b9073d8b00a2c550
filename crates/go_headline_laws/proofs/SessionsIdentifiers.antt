-- Declarations and names that are told, in the words of what is published.
use Rattle.std.proofs.Common.{◌≡◌, ◌⊎◌, inl, inr, ℕ, suc, true, List, [], ◌∷◌, Result, Ok, Err, Some, filter, map, refl, ap, subst, ◌∙◌}
use Rattle.std.specs.Prelude.{All, slice_get, string_bytes}
use Rattle.std.specs.declared.alloc.Global.{Global}
use Rattle.std.specs.declared.string.String.{String}
use Rattle.std.specs.declared.vec.Vec.{Vec}
use Rattle.std.proofs.lemmas.Option.{get_or_from_slice_get, slice_get_within}
use Rattle.go_path_core.specs.text_core.declared.rule.Rule.{Rule}
use Rattle.go_path_core.specs.text_core.declared.rule.Rule.TheVariants.{M0, Q1}
use Rattle.go_tree_nodes.specs.Rules.{Wf_file}
use Rattle.go_tree_core.specs.declared.occurrence.Occ.{Occ}
use Rattle.go_tree_core.specs.Occurrences.{Covers, file_occs, is_identifier}
use Rattle.go_term_core.proofs.Members.{In, contained_in, filter_in, in_at, in_contained, in_map}
use Rattle.go_graph_core.proofs.Places.{some_item}
use Rattle.go_graph_core.specs.Sources.{IsContent, IsRead, SourceModel}
use Rattle.go_graph_core.specs.Workspaces.{AreAllRead, IsReadWorkspace, PackageModel}
use Rattle.go_site_core.specs.handle_core.Declarations.{Declaration}
use Rattle.go_site_core.specs.Sites.{site_text}
use Rattle.go_cursor_core.specs.Laws.{NamesAreOccurrences, occurrence_of}
use Rattle.go_cursor_core.specs.Opened.{FileUsed, file_names}
use Rattle.go_workspace_laws.specs.AnswerLaws.{IsOccurrenceAt}
use Rattle.go_workspace_laws.specs.report_core.UsageUsed.{FileUse}
use Rattle.go_submit_core.specs.snap_core.Snapshots.{FoundFile, IsAnswerAt, IsFileAt, SnapshotModel}
use Rattle.go_submit_core.specs.Published.{IsOneWorker, sources_of}
use Rattle.go_submit_core.specs.declared.published.PublishedBatch.{PublishedBatch}
use Rattle.go_query_core.specs.complete_core.PlaceCompletions.{AreNamesAt, texts_of}
use Rattle.go_query_core.specs.Completing.{IsAskedAt, IsCompletion, IsUnasked}
use Rattle.go_query_core.specs.Defining.{HasNoPart, IsDefinition, IsRefusal, IsUseIn, LacksFile}
use Rattle.go_completion_laws.specs.Completing.{BlanksNeverComplete, CompletionsAreExact}
use Rattle.go_session_core.specs.queries.Asked.{IsAnswer}
use Rattle.go_session_core.specs.queries.Queries.{IsCompleteAnswer, IsDefineAnswer}
use Rattle.go_headline_laws.specs.SessionHeadline.{Completes, Defines, HasPackage, IsFileOf, IsTold, IsUsedAt, LacksFileOf, RefusesUnused, RefusesUse}
use Rattle.go_headline_laws.proofs.SessionsPackages.{IsOfPackage, numbered_back, of_package, package_of_part, told}

-- a member has a number
in_number : {A : Type 0} (xs : List A) (x : A) → In xs x → (k : ℕ) × (slice_get xs k ≡ Some x)
in_number [] x h = absurd h
in_number (y ∷ ys) x (inl e) = (0, ap Some e)
in_number (y ∷ ys) x (inr h) = (let r = in_number ys x h in (suc r.0, r.1))

number_in : {A : Type 0} (xs : List A) (k : ℕ) (x : A) → slice_get xs k ≡ Some x → In xs x
number_in xs k x at = subst (In xs) (get_or_from_slice_get xs k x x at) (in_at xs k x (slice_get_within xs k x at))

module _ (ps : List PackageModel) (well : IsReadWorkspace ps) (s : SnapshotModel) (is : IsOneWorker ps s) (path name : List ℕ) where
  -- files

  module _ (f : FoundFile) (h : IsFileAt s.sources s.parts path name f) where
    of_file : IsOfPackage path h.in_workspace.files f.of_part
    of_file = of_package ps s is path h.in_workspace.number h.in_workspace.files f.of_part h.in_workspace.numbered h.in_workspace.there

    in_files : slice_get h.in_workspace.files f.number ≡ Some f.source
    in_files = subst (λ (p : PackageModel). slice_get p.1 f.number ≡ Some f.source) of_file.source h.in_package

    numbered : slice_get ps h.in_workspace.number ≡ Some (path, h.in_workspace.files)
    numbered = numbered_back ps s is path h.in_workspace.number h.in_workspace.files h.in_workspace.numbered

    has_package : HasPackage ps path
    has_package = package_of_part ps s is path f.of_part h.in_workspace

    abbrev occurs : (n : ℕ) (o : Occ) → slice_get (file_occs f.tree) n ≡ Some o → IsOccurrenceAt ps path name n o
    occurs n o there = record {
      number = h.in_workspace.number;
      files = h.in_workspace.files;
      numbered = numbered;
      assembled = of_file.assembled;
      file = f.number;
      source = f.source;
      in_package = in_files;
      named = h.named;
      tree = f.tree;
      content = h.tree;
      there = there;
    }

    -- its tree is of its text
    read_file : IsRead f.source
    read_file =
        let p : PackageModel = (path, h.in_workspace.files) in
        let all : AreAllRead p = subst AreAllRead (get_or_from_slice_get ps h.in_workspace.number p p numbered) (well.read h.in_workspace.number p (slice_get_within ps h.in_workspace.number p numbered)) in
        subst IsRead (get_or_from_slice_get h.in_workspace.files f.number f.source f.source in_files) (all f.number f.source (slice_get_within h.in_workspace.files f.number f.source in_files))

    keeps_rules : Wf_file f.tree
    keeps_rules = (let content : IsContent f.source.text (Ok f.tree) = subst (IsContent f.source.text) h.tree read_file in content.found.tree.wf)

    file_there : IsFileOf ps path name f.source.text f.tree
    file_there = record {
      number = h.in_workspace.number;
      files = h.in_workspace.files;
      numbered = numbered;
      assembled = of_file.assembled;
      source = f.source;
      there = contained_in h.in_workspace.files f.source (number_in h.in_workspace.files f.number f.source in_files);
      named = h.named;
      of_text = refl;
      content = h.tree;
    }

    -- uses

    used : (offset : ℕ) (u : FileUse) → IsUseIn f offset u → IsUsedAt ps path name offset u
    used offset u use_in =
        let o = some_item (file_occs f.tree) use_in.number use_in.covers.0 in
        record {
          number = use_in.number;
          occurrence = o.0;
          occurs = occurs use_in.number o.0 o.1;
          covers = subst (Covers offset) (get_or_from_slice_get (file_occs f.tree) use_in.number o.0 o.0 o.1) (use_in.covers.1 o.0);
          given = (s, is, answer);
        }
      where
        answer : IsAnswerAt ps s.parts path name use_in.number u
        answer = record {
          of_part = f.of_part;
          in_workspace = record { number = h.in_workspace.number; files = h.in_workspace.files; numbered = numbered; there = h.in_workspace.there };
          number = f.number;
          source = f.source;
          in_package = h.in_package;
          named = h.named;
          file = f.made;
          made = h.made;
          answer = use_in.has;
        }

    -- completion

    -- the identifier that is asked of is an occurrence
    record IsOccurring (u : FileUsed) : Type 0 where
      pub number : ℕ
      pub there : slice_get (file_occs f.tree) number ≡ Some (occurrence_of u.used)
      pub identifier : is_identifier (occurrence_of u.used).role ≡ true

    occurring : NamesAreOccurrences → (offset : ℕ) (u : FileUsed) → IsAskedAt f offset u → IsOccurring u
    occurring law offset u asked =
        let o : Occ = occurrence_of u.used in
        let named : In (map (λ (n : FileUsed). occurrence_of n.used) (file_names f.tree)) o = in_map (λ (n : FileUsed). occurrence_of n.used) (file_names f.tree) u (in_contained (file_names f.tree) u asked.among) in
        let kept : In (filter (λ (p : Occ). is_identifier p.role) (file_occs f.tree)) o = subst (λ (os : List Occ). In os o) (law.each f.tree keeps_rules) named in
        let both = filter_in (λ (p : Occ). is_identifier p.role) (file_occs f.tree) o kept in
        let at = in_number (file_occs f.tree) o both.0 in
        record { number = at.0; there = at.1; identifier = both.1 }

    completes : NamesAreOccurrences → CompletionsAreExact → BlanksNeverComplete → (offset : ℕ) (u : FileUsed) (names : List (List ℕ)) → IsAskedAt f offset u → AreNamesAt f.of_part f.number f.tree u names → Completes ps path name offset names
    completes law exact never offset u names asked are =
        let at = occurring law offset u asked in
        let c : IsCompletion s path name offset names = (f, h, (u, asked, are)) in
        record {
          number = at.number;
          occurrence = occurrence_of u.used;
          occurs = occurs at.number (occurrence_of u.used) at.there;
          covers = (at.identifier, asked.starts, asked.ends);
          order = are.are.rising;
          exactly = λ m more puts. exact ps s well is path name offset names c at.number (occurrence_of u.used) m more puts refl;
          plain = λ m blank there. never s path name offset names m c blank there;
        }

  -- answers

  lacks : LacksFile s path name → HasPackage ps path × LacksFileOf ps path name
  lacks h =
      let at = h.1 in
      let o = of_package ps s is path at.number at.files h.0 at.numbered at.there in (
        package_of_part ps s is path h.0 at,
        record {
          number = at.number;
          files = at.files;
          numbered = numbered_back ps s is path at.number at.files at.numbered;
          none = subst (λ (p : PackageModel). All (λ (x : SourceModel). x.name ≡ name → ⊥) p.1) o.source (h.2 h.0 at);
        },
      )

  pub unasked : (offset : ℕ) (rule : Rule) → IsUnasked s path name offset rule → ((rule ≡ Q1) × HasNoPart s path) ⊎ (HasPackage ps path × RefusesUnused ps path name offset rule)
  unasked offset rule (inl q) = inl q
  unasked offset rule (inr (inl q)) = (let l = lacks q.1 in inr (l.0, inl (q.0, l.1)))
  unasked offset rule (inr (inr h)) = inr (has_package h.0 h.1, inr (h.0.source.text, h.0.tree, file_there h.0 h.1, h.2.0, h.2.1))

  pub refused : (offset : ℕ) (rule : Rule) → IsRefusal s path name offset rule → ((rule ≡ Q1) × HasNoPart s path) ⊎ (HasPackage ps path × RefusesUse ps path name offset rule)
  refused offset rule (inl q) = inl q
  refused offset rule (inr (inl q)) = (let l = lacks q.1 in inr (l.0, inr (inl (q.0, l.1))))
  refused offset rule (inr (inr (f, h, inl u))) = inr (has_package f h, inl (u.0, used f h offset u.0 u.1, u.2))
  refused offset rule (inr (inr (f, h, inr n))) = inr (has_package f h, inr (inr (f.source.text, f.tree, file_there f h, n.0, n.1)))

  pub defines : (offset : ℕ) (text : List ℕ) (d : Declaration) → IsDefinition s path name offset d → text ≡ site_text s.sources d → HasPackage ps path × Defines ps path name offset text
  defines offset text d (f, h, u) same =
      (has_package f h, (u.0, used f h offset u.0 u.1, (d, u.2, same ∙ ap (λ (qs : List PackageModel). site_text qs d) is.sources)))

  pub completed : NamesAreOccurrences → CompletionsAreExact → BlanksNeverComplete → (offset : ℕ) (names : List (List ℕ)) → IsCompletion s path name offset names → HasPackage ps path × Completes ps path name offset names
  completed law exact never offset names (f, h, c) = (has_package f h, completes f h law exact never offset c.0 names c.1 c.2)

  pub define_refused : (offset : ℕ) (rule : Rule) → IsDefineAnswer path name offset s (Err rule) → (rule ≡ M0) ⊎ (((rule ≡ Q1) × HasNoPart s path) ⊎ (HasPackage ps path × RefusesUse ps path name offset rule))
  define_refused offset rule (inl m) = inl m
  define_refused offset rule (inr h) = inr (refused offset rule h)

  pub complete_refused : (offset : ℕ) (rule : Rule) → IsCompleteAnswer path name offset s (Err rule) → (rule ≡ M0) ⊎ (((rule ≡ Q1) × HasNoPart s path) ⊎ (HasPackage ps path × RefusesUnused ps path name offset rule))
  complete_refused offset rule (inl m) = inl m
  complete_refused offset rule (inr h) = inr (unasked offset rule h)

-- what is told

module _ (own path name : List ℕ) (offset : ℕ) (board : List PublishedBatch) (well : IsReadWorkspace (sources_of board)) where
  pub told_define : (r : Result (ℕ × String Global) Rule) → IsAnswer own path board (IsDefineAnswer path name offset) r
      → IsTold own path board (λ ps (text : String Global). Defines ps path name offset (string_bytes text)) (λ ps rule. RefusesUse ps path name offset rule) r
  told_define r h =
      told own path board (IsDefineAnswer path name offset) (λ ps (text : String Global). Defines ps path name offset (string_bytes text)) (λ ps rule. RefusesUse ps path name offset rule) well
      (λ s is text a. defines (sources_of board) well s is path name offset (string_bytes text) a.0 a.1 a.2) (λ s is rule a. define_refused (sources_of board) well s is path name offset rule a) r h

  pub told_complete : NamesAreOccurrences → CompletionsAreExact → BlanksNeverComplete → (r : Result (ℕ × Vec (String Global) Global) Rule) → IsAnswer own path board (IsCompleteAnswer path name offset) r
      → IsTold own path board (λ ps (names : Vec (String Global) Global). Completes ps path name offset (texts_of names)) (λ ps rule. RefusesUnused ps path name offset rule) r
  told_complete law exact never r h =
      told own path board (IsCompleteAnswer path name offset) (λ ps (names : Vec (String Global) Global). Completes ps path name offset (texts_of names)) (λ ps rule. RefusesUnused ps path name offset rule) well
      (λ s is names a. completed (sources_of board) well s is path name law exact never offset (texts_of names) a) (λ s is rule a. complete_refused (sources_of board) well s is path name offset rule a) r h
