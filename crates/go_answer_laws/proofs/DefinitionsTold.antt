-- What is written of a declaration that is there tells it.
use Rattle.std.proofs.Common.{◌≡◌, ℕ, true, false, List, [], ◌++◌, map, Some, refl, sym, ap, subst, ◌∙◌}
use Rattle.std.specs.Prelude.{Result, Ok, slice_get, codes}
use Rattle.std.specs.Option.{option_map}
use Rattle.std.proofs.lemmas.Option.{get_or_from_slice_get, slice_get-map}
use Rattle.go_tree_nodes.specs.Trees.{FileTree}
use Rattle.go_tree_core.specs.declared.occurrence.Occ.{Occ}
use Rattle.go_tree_core.specs.declared.occurrence.Role.{Role}
use Rattle.go_tree_core.specs.declared.occurrence.Role.TheVariants as roles
use Rattle.go_tree_core.specs.Occurrences.{Covers, CoversAt, file_occs, is_identifier}
use Rattle.go_graph_core.specs.parse_core.declared.error.SynFault.{SynFault}
use Rattle.go_term_core.specs.decl_core.declared.places.Place.{Place}
use Rattle.go_term_core.specs.decl_core.Outer.{Outer, outer_names, place_of, places_of}
use Rattle.go_graph_core.specs.Sources.{SourceModel}
use Rattle.go_graph_core.specs.Workspaces.{PackageModel, IsWorkspace}
use Rattle.go_term_core.specs.declared.term.MemberPlace.{MemberPlace}
use Rattle.go_term_core.specs.declared.term.MemberPlace.TheVariants as places
use Rattle.go_cursor_core.specs.denote_core.declared.things.Outcome.{Outcome}
use Rattle.go_cursor_core.specs.denote_core.declared.things.Outcome.TheVariants as outcomes
use Rattle.go_stmt_core.specs.expr_core.declared.things.Use.{Use}
use Rattle.go_site_core.specs.handle_core.Declarations.{Declaration, Universe, OfError, Package, InFile}
use Rattle.go_site_core.specs.Sites.{file_number, located_at, located_in, located_text, offset_among, offsets_in, place_of_site, site_text, with_offset}
use Rattle.go_site_core.proofs.Finding.{found_there}
use Rattle.go_query_core.specs.Defining.{Declares, IsUseIn}
use Rattle.go_query_core.specs.package_core.PackagePartInputs.{InputModel}
use Rattle.go_query_core.specs.snap_core.Snapshots.{FoundFile, IsAnswerAt, IsFileAt}
use Rattle.go_answer_laws.specs.declarations.Found.{FilePlace, HasDeclared, IsImportThereAt, IsMemberThere, IsThereAs, IsThereUnder, file_of_place}
use Rattle.go_answer_laws.specs.declarations.Laws.{AnswersAreThere, IsAnswerThere, place_in_part, spelled_before}
use Rattle.go_answer_laws.specs.definitions.Laws.{DefinitionsAreTold, IsWrittenAs, ident_named}

-- how it is written

number_same : (place : MemberPlace) → file_number place ≡ file_of_place place
number_same (places.Declared d) = refl
number_same (places.Local l) = refl

outer_at : (t : FileTree) (n : ℕ) (o : Outer) → slice_get (outer_names t) n ≡ Some o → slice_get (map (λ (p : Place). p.at) (places_of t)) n ≡ Some o.ident.span.start
outer_at t n o h = slice_get-map (λ (p : Place). p.at) (places_of t) n ∙ ap (option_map (λ (p : Place). p.at)) (slice_get-map place_of (outer_names t) n ∙ ap (option_map place_of) h)

module _ (ps : List PackageModel) (well : IsWorkspace ps) (home name : List ℕ) where
  offset_there : (place : MemberPlace) (h : IsMemberThere ps home name place) → offset_among (offsets_in h.file.source.content) place ≡ Some (ident_named h.tree name place h.named).span.start
  offset_there (places.Declared d) h = ap (λ (c : Result FileTree SynFault). slice_get (offsets_in c) d.number) h.file.content ∙ outer_at h.tree d.number h.named.outer h.named.there
  offset_there (places.Local l) h = ap (λ (n : ℕ). Some n) (sym h.named.at)

  placed : (place : MemberPlace) (h : IsMemberThere ps home name place) → place_of_site ps home place ≡ Some (h.file.source.name, (ident_named h.tree name place h.named).span.start)
  placed place h =
      ap (located_in place) (found_there ps h.file.there.number (home, h.file.files) well.order h.file.there.numbered)
      ∙ (ap (located_at place) (ap (slice_get h.file.files) (number_same place) ∙ h.file.in_package)
      ∙ ap (with_offset h.file.source.name) (offset_there place h))

written : (ps : List PackageModel) → IsWorkspace ps → (at : FilePlace) (name : List ℕ) (d : Declaration) (there : IsThereUnder ps at name d) → IsWrittenAs ps at name d there (site_text ps d)
written ps well at name (Universe predeclared) there = ap (λ (n : List ℕ). codes "universe." ++ n) there
written ps well at name OfError there = ap (λ (n : List ℕ). codes "universe.error." ++ n) (sym there)
written ps well at name (Package path) there = refl
written ps well at name (InFile home place) there = ap (located_text home) (placed ps well home name place there.0)

-- what an identifier has

denoted : (Is : Declaration → Type 0) (o : Outcome Declaration (List ℕ)) (d : Declaration) → HasDeclared Is o → Declares o d → Is d
denoted Is (outcomes.Declared e) d h is = subst Is (sym is) h
denoted Is (outcomes.Selected e path) d h is = subst Is (sym is) h
denoted Is (outcomes.Refused rule) d h is = absurd is

module _ (Named : List ℕ → Declaration → Type 0) (Imported_as : ℕ → Declaration → Type 0) (before name : List ℕ) where
  of_identifier : (r : Role) (u : Use Declaration (List ℕ)) → is_identifier r ≡ true → IsThereAs Named Imported_as before name r u → HasDeclared (Named name) u.outcome
  of_identifier roles.Import u is h = absurd (let no : false ≡ true = is in cc)
  of_identifier roles.Call u is h = absurd (let no : false ≡ true = is in cc)
  of_identifier roles.«Type» u is h = h
  of_identifier roles.«Value» u is h = h
  of_identifier roles.Callee u is h = h
  of_identifier roles.Qualifier u is h = h
  of_identifier (roles.Selector usage) u is h = h
  of_identifier roles.Key u is h = h

covered : (offset n : ℕ) (os : List Occ) (o : Occ) → CoversAt offset os n → slice_get os n ≡ Some o → Covers offset o
covered offset n os o h at = subst (Covers offset) (get_or_from_slice_get os n o o at) (h.1 o)

-- what is there for the identifier at an offset of a file with a tree
record IsUsed (ps : List PackageModel) (i : InputModel) (file offset : ℕ) (d : Declaration) (number : ℕ) (t : FileTree) : Type 0 where
  occurrence : Occ
  used : slice_get (file_occs t) number ≡ Some occurrence
  covers : Covers offset occurrence
  there : IsThereUnder ps (place_in_part i file t) occurrence.spelling d

used_there : (ps : List PackageModel) (i : InputModel) (file offset number : ℕ) (s : SourceModel) (u : Use Declaration (List ℕ)) (d : Declaration) (a : IsAnswerThere ps i file s number u) → CoversAt offset (file_occs a.tree) number → Declares u.outcome d
    → IsUsed ps i file offset d number a.tree
used_there ps i file offset number s u d a covers declares =
    let at : FilePlace = place_in_part i file a.tree in
    let here : Covers offset a.occurrence = covered offset number (file_occs a.tree) a.occurrence covers a.there in
    let has = of_identifier (IsThereUnder ps at) (IsImportThereAt ps at) (spelled_before [] (file_occs a.tree) number) a.occurrence.spelling a.occurrence.role u here.0 a.is in
    record {
      occurrence = a.occurrence;
      used = a.there;
      covers = here;
      there = denoted (IsThereUnder ps at a.occurrence.spelling) u.outcome d has declares;
    }

same_tree : (r : Result FileTree SynFault) (t f : FileTree) → r ≡ Ok t → r ≡ Ok f → t ≡ f
same_tree r t f h k = (let e : ◌≡◌ {A = Result FileTree SynFault} (Ok t) (Ok f) = sym h ∙ k in cc)

pub definitions_are_told : AnswersAreThere → DefinitionsAreTold
definitions_are_told answers s as_read snapshot path name offset d h =
    let f : FoundFile = h.0 in
    let at : IsFileAt s.sources s.parts path name f = h.1 in
    let u : Use Declaration (List ℕ) = h.2.0 in
    let found : IsUseIn f offset u = h.2.1 in
    let answer : IsAnswerAt s.sources s.parts path name found.number u =
    record {
      of_part = f.of_part;
      in_workspace = at.in_workspace;
      number = f.number;
      source = f.source;
      in_package = at.in_package;
      named = at.named;
      file = f.made;
      made = at.made;
      answer = found.has;
    }
    in
    let a : IsAnswerThere s.sources f.of_part.input f.number f.source found.number u = answers s.sources s.parts s.faults as_read snapshot path name found.number u answer in
    let same : a.tree ≡ f.tree = same_tree f.source.content a.tree f.tree a.content at.tree in
    let covers : CoversAt offset (file_occs a.tree) found.number = subst (λ (t : FileTree). CoversAt offset (file_occs t) found.number) (sym same) found.covers in
    let r = subst (IsUsed s.sources f.of_part.input f.number offset d found.number) same (used_there s.sources f.of_part.input f.number offset found.number f.source u d a covers h.2.2) in
    record {
      number = found.number;
      occurrence = r.occurrence;
      used = r.used;
      covers = r.covers;
      there = r.there;
      written = written s.sources as_read.well (place_in_part f.of_part.input f.number f.tree) r.occurrence.spelling d r.there;
    }
