-- What is there under a name is written by the place of an identifier that is spelled so.
use Rattle.std.proofs.Common.{◌≡◌, ℕ, zero, suc, Bool, true, false, List, [], ◌∷◌, map, Option, Some, None, cond, refl, sym, ap, subst, ◌∙◌}
use Rattle.std.specs.Prelude.{Result, Ok, Err, slice_get, ⊤}
use Rattle.std.specs.BTreeMap.{is_at}
use Rattle.std.specs.Option.{option_map}
use Rattle.std.proofs.lemmas.Option.{slice_get-map}
use Rattle.std.proofs.lemmas.Map.Text.{is_eq-slice_cmp}
use Rattle.std.proofs.lemmas.Slice.Eq.{bytes_eq-Decides}
use Rattle.go_tree_nodes.specs.Trees.{FileTree}
use Rattle.go_graph_core.specs.parse_core.declared.error.SynFault.{SynFault}
use Rattle.go_term_core.specs.decl_core.declared.places.Place.{Place}
use Rattle.go_term_core.specs.decl_core.Outer.{Outer, outer_names, place_of, places_of}
use Rattle.go_graph_core.specs.Sources.{SourceModel}
use Rattle.go_graph_core.specs.Workspaces.{PackageModel, IsWorkspace, by_bytes, files_at}
use Rattle.go_term_core.specs.declared.term.MemberPlace.{MemberPlace}
use Rattle.go_term_core.specs.declared.term.MemberPlace.TheVariants as places
use Rattle.go_site_core.specs.handle_core.Declarations.{Declaration, Universe, OfError, Package, InFile}
use Rattle.go_site_core.specs.Sites.{file_number, located_at, located_in, offset_among, offsets_in, with_offset}
use Rattle.go_query_core.specs.snap_core.WholeWorkspaceBeside.{one_place}
use Rattle.go_query_core.specs.snap_core.WholeWorkspaceLists.{one_at}
use Rattle.go_answer_laws.specs.declarations.Found.{FilePlace, IsFileThere, IsMemberThere, IsPackageThere, IsPlaceNamed, file_of_place}
use Rattle.go_answer_laws.specs.declarations.Laws.{HasSite, SitesAreThere}
use Rattle.go_answer_laws.proofs.DeclarationsLists.{bytes_are}

same_key : (a b : List ℕ) → is_at (by_bytes a) b ≡ true → a ≡ b
same_key a b h = (bytes_eq-Decides a b).0 (sym (is_eq-slice_cmp a b) ∙ h)

key_same : (a b : List ℕ) → a ≡ b → is_at (by_bytes a) b ≡ true
key_same a b h = is_eq-slice_cmp a b ∙ bytes_are a b h

-- a package of a path is found there

found : (ps : List PackageModel) (path : List ℕ) (n : ℕ) (files : List SourceModel) → slice_get ps n ≡ Some (path, files) → (m : ℕ) × (other : List SourceModel) × (slice_get ps m ≡ Some (path, other)) × (files_at ps path ≡ Some other)
found [] path n files h = absurd (let no : None ≡ Some (path, files) = h in cc)
found (p ∷ ps) path n files h = by (is_at (by_bytes path) p.0) refl n h (λ k e. found ps path k files e)
  where
    by : (b : Bool) → is_at (by_bytes path) p.0 ≡ b → (n : ℕ) → slice_get (p ∷ ps) n ≡ Some (path, files) → ((k : ℕ) → slice_get ps k ≡ Some (path, files) → (m : ℕ) × (other : List SourceModel) × (slice_get ps m ≡ Some (path, other)) × (files_at ps path ≡ Some other))
        → (m : ℕ) × (other : List SourceModel) × (slice_get (p ∷ ps) m ≡ Some (path, other)) × (cond b (Some p.1) (files_at ps path) ≡ Some other)
    by true e k same rest = (0, p.1, ap (λ (q : List ℕ). Some (q, p.1)) (sym (same_key path p.0 e)), refl)
    by false e zero same rest =
        let is : p ≡ (path, files) = (let s : Some p ≡ Some (path, files) = same in cc) in
        absurd (let no : false ≡ true = sym e ∙ key_same path p.0 (sym (ap (λ (q : PackageModel). q.0) is)) in cc)
    by false e (suc k) same rest = (let r = rest k same in (suc r.0, r.1, r.2, r.3))

files_are : (ps : List PackageModel) → IsWorkspace ps → (path : List ℕ) (files : List SourceModel) → IsPackageThere ps path files → files_at ps path ≡ Some files
files_are ps well path files there =
    let r = found ps path there.number files there.numbered in
    let number : r.0 ≡ there.number = one_place ps r.0 there.number (path, r.1) (path, files) well r.2 there.numbered refl in
    let same : r.1 ≡ files = ap (λ (q : PackageModel). q.1) (one_at ps there.number (path, r.1) (path, files) (subst (λ k. slice_get ps k ≡ Some (path, r.1)) number r.2) there.numbered) in
    r.3 ∙ ap (λ (l : List SourceModel). Some l) same

-- an identifier of a file of it

number_same : (place : MemberPlace) → file_number place ≡ file_of_place place
number_same (places.Declared d) = refl
number_same (places.Local l) = refl

outer_at : (t : FileTree) (n : ℕ) (o : Outer) → slice_get (outer_names t) n ≡ Some o → slice_get (map (λ (p : Place). p.at) (places_of t)) n ≡ Some o.ident.span.start
outer_at t n o h = slice_get-map (λ (p : Place). p.at) (places_of t) n ∙ ap (option_map (λ (p : Place). p.at)) (slice_get-map place_of (outer_names t) n ∙ ap (option_map place_of) h)

module _ (ps : List PackageModel) (well : IsWorkspace ps) (home name : List ℕ) where
  placed : (place : MemberPlace) (h : IsMemberThere ps home name place) (offset : ℕ) → offset_among (offsets_in h.file.source.content) place ≡ Some offset → located_in place (files_at ps home) ≡ Some (h.file.source.name, offset)
  placed place h offset e =
      ap (located_in place) (files_are ps well home h.file.files h.file.there)
      ∙ (ap (located_at place) (ap (slice_get h.file.files) (number_same place) ∙ h.file.in_package)
      ∙ ap (with_offset h.file.source.name) e)

  sited : (place : MemberPlace) (h : IsMemberThere ps home name place) → HasSite ps home name place
  sited (places.Declared d) h = record {
    file = h.file.source.name;
    ident = h.named.outer.ident;
    is = placed (places.Declared d) h h.named.outer.ident.span.start (ap (λ (c : Result FileTree SynFault). slice_get (offsets_in c) d.number) h.file.content ∙ outer_at h.tree d.number h.named.outer h.named.there);
    spelled = h.named.spelled;
  }
  sited (places.Local l) h = record {
    file = h.file.source.name;
    ident = h.named.ident;
    is = placed (places.Local l) h h.named.ident.span.start (ap (λ (n : ℕ). Some n) (sym h.named.at));
    spelled = h.named.spelled;
  }

pub sites_are_there : SitesAreThere
sites_are_there ps well at name (Universe predeclared) h = tt
sites_are_there ps well at name OfError h = tt
sites_are_there ps well at name (Package path) h = tt
sites_are_there ps well at name (InFile home place) h = sited ps well home name place h.0
