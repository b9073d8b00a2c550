-- An import that is added to a package.
use Rattle.std.proofs.Common.{◌≡◌, ◌≢◌, ℕ, zero, suc, ◌<◌, ◌⊎◌, inl, inr, List, [], ◌∷◌, ◌++◌, length, get_or, Some, None, slice_get, refl, sym, ap, ◌∙◌, subst, arith}
use Rattle.std.specs.Prelude.{All, Contains}
use Rattle.std.proofs.lemmas.Bool.{cases_lt}
use Rattle.std.proofs.lemmas.List.Elements.{All-cons, All-push, All-weaker}
use Rattle.std.proofs.lemmas.Option.{get_or_from_slice_get, same_Some, slice_get_within}
use Rattle.go_tree_nodes.specs.declared.names.Ident.{Ident}
use Rattle.go_digraph_core.specs.declared.cycle.edge.Edge.{Edge}
use Rattle.go_digraph_core.specs.cycle.Cycle.{Leads, Reaches}
use Rattle.go_digraph_core.proofs.CycleWalks.{by_more}
use Rattle.go_graph_core.specs.declared.imports.ImportAt.{ImportAt}
use Rattle.go_graph_core.specs.declared.imports.ImportOutcome.{ImportOutcome}
use Rattle.go_graph_core.specs.declared.imports.ImportOutcome.TheVariants.{Package, Refused}
use Rattle.go_graph_core.specs.Imports.{AreFaulty, AreLibrary, AreMain, HasNoPackage, IsEdge, IsImport, IsJudged, IsNumbered, IsOutcome, IsTarget, LiesOnCycle, edge, import_texts}
use Rattle.go_graph_core.specs.Packages.{Differs, HasNoClause, IsAssembled, IsBlank, IsClause, IsNameOf}
use Rattle.go_graph_core.specs.Sources.{SourceModel}
use Rattle.go_graph_core.specs.Workspaces.{PackageModel}
use Rattle.go_graph_core.proofs.Assemblies.{one_name}
use Rattle.go_graph_core.proofs.OneTarget.{not_faulty}
use Rattle.go_import_core.specs.list.Added.{AddedImportsAreJudged, AddsImport, added_at}
use Rattle.go_import_core.specs.list.Importing.{IsJudgedAt}

-- lists with one item more

front_at : {A : Type 0} (xs ys : List A) (i : ℕ) (x : A) → slice_get xs i ≡ Some x → slice_get (xs ++ ys) i ≡ Some x
front_at [] ys i x at = cc
front_at (z ∷ xs) ys zero x at = at
front_at (z ∷ xs) ys (suc i) x at = front_at xs ys i x at

last_at : {A : Type 0} (xs : List A) (y : A) → slice_get (xs ++ y ∷ []) (length xs) ≡ Some y
last_at [] y = refl
last_at (x ∷ xs) y = last_at xs y

one_of : {A : Type 0} (xs : List A) (y : A) (i : ℕ) (x : A) → slice_get (xs ++ y ∷ []) i ≡ Some x → (slice_get xs i ≡ Some x) ⊎ ((i ≡ length xs) × (x ≡ y))
one_of [] y zero x at = inr (refl, sym (same_Some y x at))
one_of [] y (suc i) x at = cc
one_of (z ∷ xs) y zero x at = inl at
one_of (z ∷ xs) y (suc i) x at = elim (one_of xs y i x at) [ inl h ↦ inl h | inr h ↦ inr (ap suc h.0, h.1) ]

same_or_not : (m n : ℕ) → (m ≡ n) ⊎ (m ≢ n)
same_or_not m n = elim (cases_lt m n) [
  | inl less ↦ inr (λ e. (let f : m ≡ n = e in absurd (omega (arith, less, f))))
  | inr upto ↦ elim (cases_lt n m) [
    | inl less ↦ inr (λ e. (let f : m ≡ n = e in absurd (omega (arith, less, f))))
    | inr low ↦ inl (omega (arith, upto, low))
  ]
]

same_clause : (s : SourceModel) (one other : Ident) → IsClause s one → IsClause s other → one ≡ other
same_clause s one other a b = same_Some one other (sym a ∙ b)

module _ (ps more : List PackageModel) (own : ℕ) (text : List ℕ) (h : AddsImport ps own text more) where
  abbrev all : List SourceModel
  all = h.files ++ h.file ∷ []

  -- the files are assembled as before

  name_more : (name : List ℕ) → IsNameOf name h.files → IsNameOf name all
  name_more name n = (n.0, n.1, front_at h.files (h.file ∷ []) 0 n.0 n.2, n.3, n.4)

  name_is : (name : List ℕ) → IsNameOf name h.files → name ≡ h.clause.name
  name_is name n = one_name h.files name h.clause.name n h.named

  name_back : (name : List ℕ) → IsNameOf name all → IsNameOf name h.files
  name_back name n = subst (λ (x : List ℕ). IsNameOf x h.files) (one_name all h.clause.name name (name_more h.clause.name h.named) n) h.named

  not_blank : IsBlank h.file → ⊥
  not_blank b =
      let id : Ident = b.1.0 in
      let same : id ≡ h.clause = same_clause h.file id h.clause b.1.1 h.has_clause in
      let s : SourceModel = h.named.0 in
      let low : 0 < length h.files = slice_get_within h.files 0 s h.named.2 in
      let none : IsBlank s → ⊥ = subst (λ (x : SourceModel). IsBlank x → ⊥) (get_or_from_slice_get h.files 0 s s h.named.2) (h.assembled.named 0 s low) in
      none (h.named.1.span.start, (h.named.1, h.named.3, sym h.named.4 ∙ (ap (λ (x : Ident). x.name) (sym same) ∙ b.1.2), refl))

  not_other : Differs h.assembled.name h.file → ⊥
  not_other d =
      let id : Ident = d.1.0 in
      let same : id ≡ h.clause = same_clause h.file id h.clause d.1.1 h.has_clause in
      d.1.2 (ap (λ (x : Ident). x.name) same ∙ sym (name_is h.assembled.name h.assembled.is_name))

  has_tree : HasNoClause h.file → ⊥
  has_tree none = (let e : None ≡ Some h.clause = sym none ∙ h.has_clause in cc)

  assembled_more : IsAssembled all
  assembled_more = record {
    trees = All-push (λ (s : SourceModel). HasNoClause s → ⊥) h.files h.file h.assembled.trees has_tree;
    named = All-push (λ (s : SourceModel). IsBlank s → ⊥) h.files h.file h.assembled.named not_blank;
    name = h.assembled.name;
    is_name = name_more h.assembled.name h.assembled.is_name;
    same = All-push (λ (s : SourceModel). Differs h.assembled.name s → ⊥) h.files h.file h.assembled.same not_other;
  }

  -- packages by numbers

  own_files : (path : List ℕ) (files : List SourceModel) → IsNumbered ps path own files → ◌≡◌ {A = PackageModel} (path, files) (h.path, h.files)
  own_files path files at = same_Some (path, files) (h.path, h.files) (sym at ∙ h.importer)

  own_more : (path : List ℕ) (files : List SourceModel) → IsNumbered more path own files → ◌≡◌ {A = PackageModel} (path, files) (h.path, all)
  own_more path files at = same_Some (path, files) (h.path, all) (sym at ∙ h.here)

  -- a package has the same files in both, or it is the one
  in_more : (path : List ℕ) (i : ℕ) (files : List SourceModel) → IsNumbered ps path i files → IsNumbered more path i files ⊎ ((path ≡ h.path) × (files ≡ h.files) × IsNumbered more path i all)
  in_more path i files at = elim (same_or_not i own) [
    | inl same ↦
        let e = own_files path files (subst (λ (n : ℕ). IsNumbered ps path n files) same at) in
        let named : path ≡ h.path = ap (λ (p : PackageModel). p.0) e in
        inr (named, ap (λ (p : PackageModel). p.1) e, subst (λ (n : ℕ). IsNumbered more path n all) (sym same) (subst (λ (p : List ℕ). IsNumbered more p own all) (sym named) h.here))
    | inr apart ↦ inl (h.others i apart ∙ at)
  ]

  in_old : (path : List ℕ) (i : ℕ) (files : List SourceModel) → IsNumbered more path i files → IsNumbered ps path i files ⊎ ((path ≡ h.path) × (files ≡ all) × IsNumbered ps path i h.files)
  in_old path i files at = elim (same_or_not i own) [
    | inl same ↦
        let e = own_more path files (subst (λ (n : ℕ). IsNumbered more path n files) same at) in
        let named : path ≡ h.path = ap (λ (p : PackageModel). p.0) e in
        inr (named, ap (λ (p : PackageModel). p.1) e, subst (λ (n : ℕ). IsNumbered ps path n h.files) (sym same) (subst (λ (p : List ℕ). IsNumbered ps p own h.files) (sym named) h.importer))
    | inr apart ↦ inl (sym (h.others i apart) ∙ at)
  ]

  nowhere_more : (path : List ℕ) → HasNoPackage ps path → HasNoPackage more path
  nowhere_more path none i files at = elim (in_old path i files at) [ inl old ↦ none i files old | inr here ↦ none i h.files here.2 ]

  nowhere_old : (path : List ℕ) → HasNoPackage more path → HasNoPackage ps path
  nowhere_old path none i files at = elim (in_more path i files at) [ inl new ↦ none i files new | inr here ↦ none i all here.2 ]

  -- what imports come to, cycles left aside

  target_more : (q t : List ℕ) (o : ImportOutcome) → IsTarget ps q t o → IsTarget more q t o
  target_more q t (Package i) f = elim (in_more t i f.files f.numbered) [
    | inl new ↦ record { allowed = f.allowed; files = f.files; numbered = new; library = f.library }
    | inr here ↦
        let library : AreLibrary h.files = subst AreLibrary here.1 f.library in
        record { allowed = f.allowed; files = all; numbered = here.2; library = (assembled_more, (library.1.0, name_more library.1.0 library.1.1, library.1.2)) }
  ]
  target_more q t (Refused rule) (inl f) = inl f
  target_more q t (Refused rule) (inr (inl f)) = inr (inl f)
  target_more q t (Refused rule) (inr (inr (inl f))) = inr (inr (inl (record { is = f.is; allowed = f.allowed; nowhere = nowhere_more t f.nowhere })))
  target_more q t (Refused rule) (inr (inr (inr (inl f)))) = elim (in_more t f.number f.files f.numbered) [
    | inl new ↦ inr (inr (inr (inl (record { is = f.is; allowed = f.allowed; number = f.number; files = f.files; numbered = new; faulty = f.faulty }))))
    | inr here ↦ absurd (not_faulty h.files h.assembled (subst AreFaulty here.1 f.faulty))
  ]
  target_more q t (Refused rule) (inr (inr (inr (inr f)))) = elim (in_more t f.number f.files f.numbered) [
    | inl new ↦ inr (inr (inr (inr (record { is = f.is; allowed = f.allowed; number = f.number; files = f.files; numbered = new; program = f.program }))))
    | inr here ↦
        let program : AreMain h.files = subst AreMain here.1 f.program in
        inr (inr (inr (inr (record { is = f.is; allowed = f.allowed; number = f.number; files = all; numbered = here.2; program = (assembled_more, name_more _ program.1) }))))
  ]

  target_old : (q t : List ℕ) (o : ImportOutcome) → IsTarget more q t o → IsTarget ps q t o
  target_old q t (Package i) f = elim (in_old t i f.files f.numbered) [
    | inl old ↦ record { allowed = f.allowed; files = f.files; numbered = old; library = f.library }
    | inr here ↦
        let library : AreLibrary all = subst AreLibrary here.1 f.library in
        record { allowed = f.allowed; files = h.files; numbered = here.2; library = (h.assembled, (library.1.0, name_back library.1.0 library.1.1, library.1.2)) }
  ]
  target_old q t (Refused rule) (inl f) = inl f
  target_old q t (Refused rule) (inr (inl f)) = inr (inl f)
  target_old q t (Refused rule) (inr (inr (inl f))) = inr (inr (inl (record { is = f.is; allowed = f.allowed; nowhere = nowhere_old t f.nowhere })))
  target_old q t (Refused rule) (inr (inr (inr (inl f)))) = elim (in_old t f.number f.files f.numbered) [
    | inl old ↦ inr (inr (inr (inl (record { is = f.is; allowed = f.allowed; number = f.number; files = f.files; numbered = old; faulty = f.faulty }))))
    | inr here ↦ absurd (not_faulty all assembled_more (subst AreFaulty here.1 f.faulty))
  ]
  target_old q t (Refused rule) (inr (inr (inr (inr f)))) = elim (in_old t f.number f.files f.numbered) [
    | inl old ↦ inr (inr (inr (inr (record { is = f.is; allowed = f.allowed; number = f.number; files = f.files; numbered = old; program = f.program }))))
    | inr here ↦
        let program : AreMain all = subst AreMain here.1 f.program in
        inr (inr (inr (inr (record { is = f.is; allowed = f.allowed; number = f.number; files = h.files; numbered = here.2; program = (h.assembled, name_back _ program.1) }))))
  ]

  -- edges

  import_more : (at : ImportAt) (q t : List ℕ) → IsImport ps at q t → IsImport more at q t
  import_more at q t i = elim (in_more q at.«package» i.files i.numbered) [
    | inl new ↦ record { files = i.files; file = i.file; numbered = new; in_files = i.in_files; in_file = i.in_file }
    | inr here ↦ record { files = all; file = i.file; numbered = here.2; in_files = front_at h.files (h.file ∷ []) at.file i.file (subst (λ (fs : List SourceModel). slice_get fs at.file ≡ Some i.file) here.1 i.in_files); in_file = i.in_file }
  ]

  edge_more : (e : Edge) → IsEdge ps e → IsEdge more e
  edge_more e d = record { at = d.at; q = d.q; text = d.text; there = import_more d.at d.q d.text d.there; from = d.from; target = target_more d.q d.text (Package e.to) d.target }

  -- an edge that does not begin at the package was there
  edge_old : (e : Edge) → e.from ≢ own → IsEdge more e → IsEdge ps e
  edge_old e apart d =
      let other : d.at.«package» ≢ own = λ same. apart (sym d.from ∙ same) in
      record {
        at = d.at;
        q = d.q;
        text = d.text;
        there = record { files = d.there.files; file = d.there.file; numbered = sym (h.others d.at.«package» other) ∙ d.there.numbered; in_files = d.there.in_files; in_file = d.there.in_file };
        from = d.from;
        target = target_old d.q d.text (Package e.to) d.target;
      }

  -- some edges of the packages lead there
  record IsLed (a : ℕ) : Type 0 where
    edges : List Edge
    each : All (IsEdge ps) edges
    leads : Reaches edges a own

  led_on : (e : Edge) → IsEdge ps e → IsLed e.to → IsLed e.from
  led_on e d r =
      let both : All (Contains (e ∷ r.edges)) r.edges = λ k x lt. (suc k, (let low : suc k < length (e ∷ r.edges) = omega (arith, lt) in low), rest_at r.edges k x lt) in
      let on = (by_more r.edges (e ∷ r.edges) both).0 e.to own r.leads in
      record { edges = e ∷ r.edges; each = All-cons (IsEdge ps) e r.edges d r.each; leads = (e ∷ on.0, ((0, (let low : 0 < length (e ∷ r.edges) = omega arith in low), refl), refl, on.1)) }
    where
      rest_at : (xs : List Edge) (k : ℕ) (x : Edge) → k < length xs → get_or (e ∷ xs) (suc k) (get_or xs k x) ≡ get_or xs k x
      rest_at [] k x lt = absurd (omega (arith, lt))
      rest_at (y ∷ xs) zero x lt = refl
      rest_at (y ∷ xs) (suc k) x lt = rest_at xs k x (omega (arith, lt))

  led : (edges : List Edge) → All (IsEdge more) edges → (es : List Edge) (a : ℕ) → Leads edges es a own → IsLed a
  led edges each [] a l = record { edges = []; each = λ k d lt. absurd (omega (arith, lt)); leads = ([], l) }
  led edges each (e ∷ es) a l = elim (same_or_not a own) [
    | inl same ↦ record { edges = []; each = λ k d lt. absurd (omega (arith, lt)); leads = ([], same) }
    | inr apart ↦
        let there = l.0 in
        let is_edge : IsEdge more e = subst (IsEdge more) there.2 (each there.0 e there.1) in
        let begins : e.from ≢ own = λ same. apart (sym l.1 ∙ same) in
        subst IsLed l.1 (led_on e (edge_old e begins is_edge) (led edges each es e.to l.2))
  ]

  cycle_old : (i : ℕ) → LiesOnCycle more (edge own i) → LiesOnCycle ps (edge own i)
  cycle_old i l = elim l.2 [
    | inl itself ↦ ([], (λ k d lt. absurd (omega (arith, lt))), inl itself)
    | inr back ↦ (let r = led l.0 l.1 back.0 i back.1 in (r.edges, r.each, inr r.leads))
  ]

  cycle_more : (i : ℕ) → LiesOnCycle ps (edge own i) → LiesOnCycle more (edge own i)
  cycle_more i l = (l.0, All-weaker (IsEdge ps) (IsEdge more) edge_more l.0 l.1, l.2)

  -- all in all

  judged_more : (q t : List ℕ) (o : ImportOutcome) → IsJudged ps own q t o → IsJudged more own q t o
  judged_more q t (Package i) j = (target_more q t (Package i) j.0, λ l. j.1 (cycle_old i l))
  judged_more q t (Refused rule) (inl j) = inl (target_more q t (Refused rule) j)
  judged_more q t (Refused rule) (inr j) = inr (record { is = j.is; to = j.to; target = target_more q t (Package j.to) j.target; cycle = cycle_more j.to j.cycle })

  judged_old : (q t : List ℕ) (o : ImportOutcome) → IsJudged more own q t o → IsJudged ps own q t o
  judged_old q t (Package i) j = (target_old q t (Package i) j.0, λ l. j.1 (cycle_more i l))
  judged_old q t (Refused rule) (inl j) = inl (target_old q t (Refused rule) j)
  judged_old q t (Refused rule) (inr j) = inr (record { is = j.is; to = j.to; target = target_old q t (Package j.to) j.target; cycle = cycle_old j.to j.cycle })

  added_import : IsImport more (added_at own h.files) h.path text
  added_import = record { files = all; file = h.file; numbered = h.here; in_files = last_at h.files h.file; in_file = ap (λ (l : List (List ℕ)). slice_get l 0) h.texts }

  pub to_outcome : (o : ImportOutcome) → IsJudgedAt ps own text o → IsOutcome more (added_at own h.files) o
  to_outcome o j =
      let named : j.path ≡ h.path = ap (λ (p : PackageModel). p.0) (own_files j.path j.files j.importer) in
      record { q = h.path; text = text; there = added_import; judged = judged_more h.path text o (subst (λ (p : List ℕ). IsJudged ps own p text o) named j.judged) }

  pub from_outcome : (o : ImportOutcome) → IsOutcome more (added_at own h.files) o → IsJudgedAt ps own text o
  from_outcome o k =
      let there = k.there in
      let e = own_more k.q there.files there.numbered in
      let named : k.q ≡ h.path = ap (λ (p : PackageModel). p.0) e in
      let in_all : slice_get all (length h.files) ≡ Some there.file = subst (λ (fs : List SourceModel). slice_get fs (length h.files) ≡ Some there.file) (ap (λ (p : PackageModel). p.1) e) there.in_files in
      let file : there.file ≡ h.file = same_Some there.file h.file (sym in_all ∙ last_at h.files h.file) in
      let in_texts : slice_get (text ∷ []) 0 ≡ Some k.text = subst (λ (l : List (List ℕ)). slice_get l 0 ≡ Some k.text) h.texts (subst (λ (s : SourceModel). slice_get (import_texts s) 0 ≡ Some k.text) file there.in_file) in
      let same : text ≡ k.text = same_Some text k.text in_texts in
      record {
        path = h.path;
        files = h.files;
        importer = h.importer;
        judged = judged_old h.path text o (subst (λ (p : List ℕ). IsJudged more own p text o) named (subst (λ (t : List ℕ). IsJudged more own k.q t o) (sym same) k.judged));
      }

pub added_imports_are_judged : AddedImportsAreJudged
added_imports_are_judged ps more own text h outcome = (from_outcome ps more own text h outcome, to_outcome ps more own text h outcome)
