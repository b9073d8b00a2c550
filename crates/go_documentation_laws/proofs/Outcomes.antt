-- What imports come to in packages below one that is imported stays where a file with the import is added.
use Rattle.std.proofs.Common.{◌≡◌, ◌≢◌, ℕ, zero, suc, ◌<◌, ◌⊎◌, inl, inr, List, [], ◌∷◌, ◌++◌, length, get_or, Some, None, slice_get, refl, sym, ap, ◌∙◌, subst, arith}
use Rattle.std.specs.Prelude.{All, Contains}
use Rattle.std.proofs.lemmas.Bool.{cases_lt}
use Rattle.std.proofs.lemmas.List.Elements.{All-cons, All-contains, All-nil, All-push, All-weaker}
use Rattle.std.proofs.lemmas.Option.{get_or_from_slice_get, same_Some, slice_get_within}
use Rattle.go_tree_nodes.specs.declared.names.Ident.{Ident}
use Rattle.go_digraph_core.specs.declared.cycle.edge.Edge.{Edge}
use Rattle.go_digraph_core.specs.cycle.Cycle.{Leads, Reaches}
use Rattle.go_digraph_core.proofs.CycleWalks.{by_more}
use Rattle.go_graph_core.specs.declared.imports.ImportAt.{ImportAt}
use Rattle.go_graph_core.specs.declared.imports.ImportOutcome.{ImportOutcome}
use Rattle.go_graph_core.specs.declared.imports.ImportOutcome.TheVariants.{Package, Refused}
use Rattle.go_graph_core.specs.Imports.{AreFaulty, AreLibrary, AreMain, HasNoPackage, IsEdge, IsImport, IsJudged, IsNumbered, IsOutcome, IsTarget, LiesOnCycle, edge}
use Rattle.go_graph_core.specs.Packages.{Differs, HasNoClause, IsAssembled, IsBlank, IsClause, IsNameOf}
use Rattle.go_graph_core.specs.Sources.{SourceModel}
use Rattle.go_graph_core.specs.Workspaces.{PackageModel}
use Rattle.go_graph_core.proofs.Assemblies.{one_name}
use Rattle.go_graph_core.proofs.OneTarget.{not_faulty}
use Rattle.go_import_core.specs.list.Added.{AddsImport}
use Rattle.go_import_core.specs.list.Importing.{IsJudgedAt}
use Rattle.go_snap_core.specs.whole_workspace.Inputs.{IsPassingImport}
use Rattle.go_documentation_laws.specs.Below.{IsBelow, OutcomesBelowStay}

-- lists with one item more

front_at : {A : Type 0} (xs ys : List A) (i : ℕ) (x : A) → slice_get xs i ≡ Some x → slice_get (xs ++ ys) i ≡ Some x
front_at [] ys i x at = cc
front_at (z ∷ xs) ys zero x at = at
front_at (z ∷ xs) ys (suc i) x at = front_at xs ys i x at

pub last_at : {A : Type 0} (xs : List A) (y : A) → slice_get (xs ++ y ∷ []) (length xs) ≡ Some y
last_at [] y = refl
last_at (x ∷ xs) y = last_at xs y

same_or_not : (m n : ℕ) → (m ≡ n) ⊎ (m ≢ n)
same_or_not m n = elim (cases_lt m n) [
  | inl less ↦ inr (λ e. (let f : m ≡ n = e in absurd (omega (arith, less, f))))
  | inr upto ↦ elim (cases_lt n m) [
    | inl less ↦ inr (λ e. (let f : m ≡ n = e in absurd (omega (arith, less, f))))
    | inr low ↦ inl (omega (arith, upto, low))
  ]
]

same_clause : (s : SourceModel) (one other : Ident) → IsClause s one → IsClause s other → one ≡ other
same_clause s one other a b = same_Some one other (sym a ∙ b)

module _ (ps more : List PackageModel) (own : ℕ) (text : List ℕ) (h : AddsImport ps own text more) where
  abbrev pub all : List SourceModel
  all = h.files ++ h.file ∷ []

  -- the files are assembled as before

  name_more : (name : List ℕ) → IsNameOf name h.files → IsNameOf name all
  name_more name n = (n.0, n.1, front_at h.files (h.file ∷ []) 0 n.0 n.2, n.3, n.4)

  name_is : (name : List ℕ) → IsNameOf name h.files → name ≡ h.clause.name
  name_is name n = one_name h.files name h.clause.name n h.named

  name_back : (name : List ℕ) → IsNameOf name all → IsNameOf name h.files
  name_back name n = subst (λ (x : List ℕ). IsNameOf x h.files) (one_name all h.clause.name name (name_more h.clause.name h.named) n) h.named

  not_blank : IsBlank h.file → ⊥
  not_blank b =
      let id : Ident = b.1.0 in
      let same : id ≡ h.clause = same_clause h.file id h.clause b.1.1 h.has_clause in
      let s : SourceModel = h.named.0 in
      let low : 0 < length h.files = slice_get_within h.files 0 s h.named.2 in
      let none : IsBlank s → ⊥ = subst (λ (x : SourceModel). IsBlank x → ⊥) (get_or_from_slice_get h.files 0 s s h.named.2) (h.assembled.named 0 s low) in
      none (h.named.1.span.start, (h.named.1, h.named.3, sym h.named.4 ∙ (ap (λ (x : Ident). x.name) (sym same) ∙ b.1.2), refl))

  not_other : Differs h.assembled.name h.file → ⊥
  not_other d =
      let id : Ident = d.1.0 in
      let same : id ≡ h.clause = same_clause h.file id h.clause d.1.1 h.has_clause in
      d.1.2 (ap (λ (x : Ident). x.name) same ∙ sym (name_is h.assembled.name h.assembled.is_name))

  has_tree : HasNoClause h.file → ⊥
  has_tree none = (let e : None ≡ Some h.clause = sym none ∙ h.has_clause in cc)

  pub assembled_more : IsAssembled all
  assembled_more = record {
    trees = All-push (λ (s : SourceModel). HasNoClause s → ⊥) h.files h.file h.assembled.trees has_tree;
    named = All-push (λ (s : SourceModel). IsBlank s → ⊥) h.files h.file h.assembled.named not_blank;
    name = h.assembled.name;
    is_name = name_more h.assembled.name h.assembled.is_name;
    same = All-push (λ (s : SourceModel). Differs h.assembled.name s → ⊥) h.files h.file h.assembled.same not_other;
  }

  -- packages by numbers

  own_files : (path : List ℕ) (files : List SourceModel) → IsNumbered ps path own files → ◌≡◌ {A = PackageModel} (path, files) (h.path, h.files)
  own_files path files at = same_Some (path, files) (h.path, h.files) (sym at ∙ h.importer)

  own_more : (path : List ℕ) (files : List SourceModel) → IsNumbered more path own files → ◌≡◌ {A = PackageModel} (path, files) (h.path, all)
  own_more path files at = same_Some (path, files) (h.path, all) (sym at ∙ h.here)

  -- a package has the same files in both, or it is the one
  in_more : (path : List ℕ) (i : ℕ) (files : List SourceModel) → IsNumbered ps path i files → IsNumbered more path i files ⊎ ((path ≡ h.path) × (files ≡ h.files) × IsNumbered more path i all)
  in_more path i files at = elim (same_or_not i own) [
    | inl same ↦
        let e = own_files path files (subst (λ (n : ℕ). IsNumbered ps path n files) same at) in
        let named : path ≡ h.path = ap (λ (p : PackageModel). p.0) e in
        inr (named, ap (λ (p : PackageModel). p.1) e, subst (λ (n : ℕ). IsNumbered more path n all) (sym same) (subst (λ (p : List ℕ). IsNumbered more p own all) (sym named) h.here))
    | inr apart ↦ inl (h.others i apart ∙ at)
  ]

  in_old : (path : List ℕ) (i : ℕ) (files : List SourceModel) → IsNumbered more path i files → IsNumbered ps path i files ⊎ ((path ≡ h.path) × (files ≡ all) × IsNumbered ps path i h.files)
  in_old path i files at = elim (same_or_not i own) [
    | inl same ↦
        let e = own_more path files (subst (λ (n : ℕ). IsNumbered more path n files) same at) in
        let named : path ≡ h.path = ap (λ (p : PackageModel). p.0) e in
        inr (named, ap (λ (p : PackageModel). p.1) e, subst (λ (n : ℕ). IsNumbered ps path n h.files) (sym same) (subst (λ (p : List ℕ). IsNumbered ps p own h.files) (sym named) h.importer))
    | inr apart ↦ inl (sym (h.others i apart) ∙ at)
  ]

  nowhere_more : (path : List ℕ) → HasNoPackage ps path → HasNoPackage more path
  nowhere_more path none i files at = elim (in_old path i files at) [ inl old ↦ none i files old | inr here ↦ none i h.files here.2 ]

  nowhere_old : (path : List ℕ) → HasNoPackage more path → HasNoPackage ps path
  nowhere_old path none i files at = elim (in_more path i files at) [ inl new ↦ none i files new | inr here ↦ none i all here.2 ]

  -- what imports come to, cycles left aside

  target_more : (q t : List ℕ) (o : ImportOutcome) → IsTarget ps q t o → IsTarget more q t o
  target_more q t (Package i) f = elim (in_more t i f.files f.numbered) [
    | inl new ↦ record { allowed = f.allowed; files = f.files; numbered = new; library = f.library }
    | inr here ↦
        let library : AreLibrary h.files = subst AreLibrary here.1 f.library in
        record { allowed = f.allowed; files = all; numbered = here.2; library = (assembled_more, (library.1.0, name_more library.1.0 library.1.1, library.1.2)) }
  ]
  target_more q t (Refused rule) (inl f) = inl f
  target_more q t (Refused rule) (inr (inl f)) = inr (inl f)
  target_more q t (Refused rule) (inr (inr (inl f))) = inr (inr (inl (record { is = f.is; allowed = f.allowed; nowhere = nowhere_more t f.nowhere })))
  target_more q t (Refused rule) (inr (inr (inr (inl f)))) = elim (in_more t f.number f.files f.numbered) [
    | inl new ↦ inr (inr (inr (inl (record { is = f.is; allowed = f.allowed; number = f.number; files = f.files; numbered = new; faulty = f.faulty }))))
    | inr here ↦ absurd (not_faulty h.files h.assembled (subst AreFaulty here.1 f.faulty))
  ]
  target_more q t (Refused rule) (inr (inr (inr (inr f)))) = elim (in_more t f.number f.files f.numbered) [
    | inl new ↦ inr (inr (inr (inr (record { is = f.is; allowed = f.allowed; number = f.number; files = f.files; numbered = new; program = f.program }))))
    | inr here ↦
        let program : AreMain h.files = subst AreMain here.1 f.program in
        inr (inr (inr (inr (record { is = f.is; allowed = f.allowed; number = f.number; files = all; numbered = here.2; program = (assembled_more, name_more _ program.1) }))))
  ]

  target_old : (q t : List ℕ) (o : ImportOutcome) → IsTarget more q t o → IsTarget ps q t o
  target_old q t (Package i) f = elim (in_old t i f.files f.numbered) [
    | inl old ↦ record { allowed = f.allowed; files = f.files; numbered = old; library = f.library }
    | inr here ↦
        let library : AreLibrary all = subst AreLibrary here.1 f.library in
        record { allowed = f.allowed; files = h.files; numbered = here.2; library = (h.assembled, (library.1.0, name_back library.1.0 library.1.1, library.1.2)) }
  ]
  target_old q t (Refused rule) (inl f) = inl f
  target_old q t (Refused rule) (inr (inl f)) = inr (inl f)
  target_old q t (Refused rule) (inr (inr (inl f))) = inr (inr (inl (record { is = f.is; allowed = f.allowed; nowhere = nowhere_old t f.nowhere })))
  target_old q t (Refused rule) (inr (inr (inr (inl f)))) = elim (in_old t f.number f.files f.numbered) [
    | inl old ↦ inr (inr (inr (inl (record { is = f.is; allowed = f.allowed; number = f.number; files = f.files; numbered = old; faulty = f.faulty }))))
    | inr here ↦ absurd (not_faulty all assembled_more (subst AreFaulty here.1 f.faulty))
  ]
  target_old q t (Refused rule) (inr (inr (inr (inr f)))) = elim (in_old t f.number f.files f.numbered) [
    | inl old ↦ inr (inr (inr (inr (record { is = f.is; allowed = f.allowed; number = f.number; files = f.files; numbered = old; program = f.program }))))
    | inr here ↦
        let program : AreMain all = subst AreMain here.1 f.program in
        inr (inr (inr (inr (record { is = f.is; allowed = f.allowed; number = f.number; files = h.files; numbered = here.2; program = (h.assembled, name_back _ program.1) }))))
  ]

  -- edges

  import_more : (at : ImportAt) (q t : List ℕ) → IsImport ps at q t → IsImport more at q t
  import_more at q t i = elim (in_more q at.«package» i.files i.numbered) [
    | inl new ↦ record { files = i.files; file = i.file; numbered = new; in_files = i.in_files; in_file = i.in_file }
    | inr here ↦ record { files = all; file = i.file; numbered = here.2; in_files = front_at h.files (h.file ∷ []) at.file i.file (subst (λ (fs : List SourceModel). slice_get fs at.file ≡ Some i.file) here.1 i.in_files); in_file = i.in_file }
  ]

  edge_more : (e : Edge) → IsEdge ps e → IsEdge more e
  edge_more e d = record { at = d.at; q = d.q; text = d.text; there = import_more d.at d.q d.text d.there; from = d.from; target = target_more d.q d.text (Package e.to) d.target }

  -- an edge that does not begin at the package was there
  edge_old : (e : Edge) → e.from ≢ own → IsEdge more e → IsEdge ps e
  edge_old e apart d =
      let other : d.at.«package» ≢ own = λ same. apart (sym d.from ∙ same) in
      record {
        at = d.at;
        q = d.q;
        text = d.text;
        there = record { files = d.there.files; file = d.there.file; numbered = sym (h.others d.at.«package» other) ∙ d.there.numbered; in_files = d.there.in_files; in_file = d.there.in_file };
        from = d.from;
        target = target_old d.q d.text (Package e.to) d.target;
      }

  -- ways by the packages' own edges

  record IsWay (a b : ℕ) : Type 0 where
    edges : List Edge
    each : All (IsEdge ps) edges
    leads : Reaches edges a b

  stays_here : (a b : ℕ) → a ≡ b → IsWay a b
  stays_here a b e = record { edges = []; each = All-nil (IsEdge ps); leads = ([], e) }

  way_on : (b : ℕ) (e : Edge) → IsEdge ps e → IsWay e.to b → IsWay e.from b
  way_on b e d r =
      let both : All (Contains (e ∷ r.edges)) r.edges = λ k x lt. (suc k, (let low : suc k < length (e ∷ r.edges) = omega (arith, lt) in low), rest_at r.edges k x lt) in
      let on = (by_more r.edges (e ∷ r.edges) both).0 e.to b r.leads in
      record { edges = e ∷ r.edges; each = All-cons (IsEdge ps) e r.edges d r.each; leads = (e ∷ on.0, ((0, (let low : 0 < length (e ∷ r.edges) = omega arith in low), refl), refl, on.1)) }
    where
      rest_at : (xs : List Edge) (k : ℕ) (x : Edge) → k < length xs → get_or (e ∷ xs) (suc k) (get_or xs k x) ≡ get_or xs k x
      rest_at [] k x lt = absurd (omega (arith, lt))
      rest_at (y ∷ xs) zero x lt = refl
      rest_at (y ∷ xs) (suc k) x lt = rest_at xs k x (omega (arith, lt))

  way_then : (edges : List Edge) → All (IsEdge ps) edges → (es : List Edge) (a b c : ℕ) → Leads edges es a b → IsWay b c → IsWay a c
  way_then edges each [] a b c l r = subst (λ (n : ℕ). IsWay n c) (sym l) r
  way_then edges each (e ∷ es) a b c l r = subst (λ (n : ℕ). IsWay n c) l.1 (way_on c e (All-contains (IsEdge ps) edges e each l.0) (way_then edges each es e.to b c l.2 r))

  way_join : (a b c : ℕ) → IsWay a b → IsWay b c → IsWay a c
  way_join a b c l r = way_then l.edges l.each l.leads.0 a b c l.leads.1 r

  -- a way by the edges that there are once the file is added leads by old ones, there or to the package itself
  walk : (edges : List Edge) → All (IsEdge more) edges → (es : List Edge) (a b : ℕ) → Leads edges es a b → IsWay a b ⊎ IsWay a own
  walk edges each [] a b l = inl (stays_here a b l)
  walk edges each (e ∷ es) a b l = elim (same_or_not a own) [
    | inl same ↦ inr (stays_here a own same)
    | inr apart ↦
        let is_edge : IsEdge more e = All-contains (IsEdge more) edges e each l.0 in
        let begins : e.from ≢ own = λ same. apart (sym l.1 ∙ same) in
        let old : IsEdge ps e = edge_old e begins is_edge in
        elim (walk edges each es e.to b l.2) [
          | inl w ↦ inl (subst (λ (n : ℕ). IsWay n b) l.1 (way_on b e old w))
          | inr w ↦ inr (subst (λ (n : ℕ). IsWay n own) l.1 (way_on own e old w))
        ]
  ]

  import_old : (at : ImportAt) (q t : List ℕ) → at.«package» ≢ own → IsImport more at q t → IsImport ps at q t
  import_old at q t apart i = record { files = i.files; file = i.file; numbered = sym (h.others at.«package» apart) ∙ i.numbered; in_files = i.in_files; in_file = i.in_file }

  cycle_more : (e : Edge) → LiesOnCycle ps e → LiesOnCycle more e
  cycle_more e l = (l.0, All-weaker (IsEdge ps) (IsEdge more) edge_more l.0 l.1, l.2)

  -- an edge of the packages where an import stands
  edge_at : (at : ImportAt) (q t : List ℕ) (i : ℕ) → IsImport ps at q t → IsTarget ps q t (Package i) → IsEdge ps (edge at.«package» i)
  edge_at at q t i there target = record { at = at; q = q; text = t; there = there; from = refl; target = target }

  -- below the package to which the import comes

  module _ (to : ℕ) (judged : IsJudgedAt ps own text (Package to)) where
    -- it does not lead to the package with the file
    never : IsWay to own → ⊥
    never w = judged.judged.1 (w.edges, w.each, inr w.leads)

    passing_edge : (e : Edge) → IsPassingImport ps e → IsEdge ps e
    passing_edge e p = record { at = p.0; q = p.2.q; text = p.2.text; there = p.2.there; from = p.1; target = p.2.judged.0 }

    below_way : (n : ℕ) → IsBelow ps to n → IsWay to n
    below_way n (inl same) = stays_here to n (sym same)
    below_way n (inr r) = record { edges = r.0; each = All-weaker (IsPassingImport ps) (IsEdge ps) passing_edge r.0 r.1; leads = (r.2.0 ∷ r.2.1, r.2.2) }

    pub below_apart : (n : ℕ) → IsBelow ps to n → n ≢ own
    below_apart n below same = never (subst (λ (k : ℕ). IsWay to k) same (below_way n below))

    cycle_old : (n i : ℕ) → IsBelow ps to n → IsEdge ps (edge n i) → LiesOnCycle more (edge n i) → LiesOnCycle ps (edge n i)
    cycle_old n i below is_edge l = elim l.2 [
      | inl itself ↦ ([], All-nil (IsEdge ps), inl itself)
      | inr back ↦ elim (walk l.0 l.1 back.0 i n back.1) [
        | inl w ↦ (w.edges, w.each, inr w.leads)
        | inr w ↦ absurd (never (way_join to n own (below_way n below) (way_on own (edge n i) is_edge w)))
      ]
    ]

    judged_more : (at : ImportAt) (q t : List ℕ) (o : ImportOutcome) → IsBelow ps to at.«package» → IsImport ps at q t → IsJudged ps at.«package» q t o → IsJudged more at.«package» q t o
    judged_more at q t (Package i) below there j = (target_more q t (Package i) j.0, λ l. j.1 (cycle_old at.«package» i below (edge_at at q t i there j.0) l))
    judged_more at q t (Refused rule) below there (inl j) = inl (target_more q t (Refused rule) j)
    judged_more at q t (Refused rule) below there (inr j) = inr (record { is = j.is; to = j.to; target = target_more q t (Package j.to) j.target; cycle = cycle_more (edge at.«package» j.to) j.cycle })

    judged_old : (at : ImportAt) (q t : List ℕ) (o : ImportOutcome) → IsBelow ps to at.«package» → IsImport ps at q t → IsJudged more at.«package» q t o → IsJudged ps at.«package» q t o
    judged_old at q t (Package i) below there j = (target_old q t (Package i) j.0, λ l. j.1 (cycle_more (edge at.«package» i) l))
    judged_old at q t (Refused rule) below there (inl j) = inl (target_old q t (Refused rule) j)
    judged_old at q t (Refused rule) below there (inr j) =
        let target : IsTarget ps q t (Package j.to) = target_old q t (Package j.to) j.target in
        inr (record { is = j.is; to = j.to; target = target; cycle = cycle_old at.«package» j.to below (edge_at at q t j.to there target) j.cycle })

    pub outcome_more : (at : ImportAt) (o : ImportOutcome) → IsBelow ps to at.«package» → IsOutcome ps at o → IsOutcome more at o
    outcome_more at o below k = record { q = k.q; text = k.text; there = import_more at k.q k.text k.there; judged = judged_more at k.q k.text o below k.there k.judged }

    pub outcome_old : (at : ImportAt) (o : ImportOutcome) → IsBelow ps to at.«package» → IsOutcome more at o → IsOutcome ps at o
    outcome_old at o below k =
        let there : IsImport ps at k.q k.text = import_old at k.q k.text (below_apart at.«package» below) k.there in
        record { q = k.q; text = k.text; there = there; judged = judged_old at k.q k.text o below there k.judged }

pub outcomes_below : OutcomesBelowStay
outcomes_below ps more own to text h judged at o below = (outcome_more ps more own text h to judged at o below, outcome_old ps more own text h to judged at o below)
