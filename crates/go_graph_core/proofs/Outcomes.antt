-- Each import has an outcome.
use Rattle.std.proofs.Common.{◌≡◌, ℕ, ◌<◌, ◌⊎◌, ◌↔◌, inl, inr, List, [], ◌∷◌, ◌++◌, length, get_or, All, None, Some, slice_get, refl, sym, ◌∙◌, ap, subst, arith, zero, suc}
use Rattle.std.specs.List.{Contains}
use Rattle.std.proofs.lemmas.Bool.{cases_eq}
use Rattle.std.proofs.lemmas.List.Elements.{All-nil, All-weaker, Contains-append_cases, Contains-append_left, Contains-append_right, Contains-get_or, Contains-push_cases}
use Rattle.go_collections_core.specs.text_core.declared.rule.Rule.TheVariants.{I4}
use Rattle.go_digraph_core.specs.declared.cycle.edge.Edge.{Edge}
use Rattle.go_digraph_core.proofs.CycleWalks.{by_more}
use Rattle.go_graph_core.specs.declared.imports.ImportOutcome.{ImportOutcome}
use Rattle.go_graph_core.specs.declared.imports.ImportOutcome.TheVariants.{Package, Refused}
use Rattle.go_graph_core.specs.Workspaces.{PackageModel, IsWorkspace}
use Rattle.go_graph_core.specs.Imports.{IsTarget, IsJudged, IsEdge, import_texts, edge}
use Rattle.go_graph_core.specs.ImportLaws.{HasListOfEdges, CyclesAreDecided, HasOutcome}
use Rattle.go_graph_core.proofs.OneTarget.{one_target}
use Rattle.go_graph_core.proofs.OutcomeLaws.{has_target}
use Rattle.go_graph_core.proofs.Reaching.{reach_decided}

-- edges of a kind are those of a list
abbrev Listed : (Edge → Type 0) → Type 0
Listed P = (g : List Edge) × ((e : Edge) → P e ↔ Contains g e)

none : (P : Edge → Type 0) → ((e : Edge) → P e → ⊥) → Listed P
none P never = ([], λ e. ((λ h. absurd (never e h)), (λ h. absurd (omega (arith, h.1)))))

one : (x : Edge) → Listed (λ e. x ≡ e)
one x =
    let C : Edge → Type 0 = λ e. Contains (x ∷ []) e in
    let itself : C x = (let lt : 0 < length (x ∷ []) = omega arith in (0, lt, refl)) in (
      x ∷ [],
      λ e. (
        (λ same. subst C same itself),
        (λ h. elim (Contains-push_cases [] x e h) [ inl nothing ↦ absurd (omega (arith, nothing.1)) | inr same ↦ same ]),
      ),
    )

either : (P Q : Edge → Type 0) → Listed P → Listed Q → Listed (λ e. P e ⊎ Q e)
either P Q a b = (
  a.0 ++ b.0,
  λ e. (
    (λ h. elim h [
      | inl p ↦ Contains-append_left a.0 b.0 e ((a.1 e).0 p)
      | inr q ↦ Contains-append_right a.0 b.0 e ((b.1 e).0 q)
    ]),
    (λ h. elim (Contains-append_cases a.0 b.0 e h) [
      | inl p ↦ inl ((a.1 e).1 p)
      | inr q ↦ inr ((b.1 e).1 q)
    ]),
  ),
)

alike : (P Q : Edge → Type 0) → ((e : Edge) → P e ↔ Q e) → Listed P → Listed Q
alike P Q same a = (a.0, λ e. ((λ q. (a.1 e).0 ((same e).1 q)), (λ h. (same e).0 ((a.1 e).1 h))))

-- of a kind at some item of a list
abbrev AtSome : {A : Type 0} → List A → (ℕ → A → Edge → Type 0) → Edge → Type 0
AtSome {A} xs P e = (i : ℕ) × (x : A) × (slice_get xs i ≡ Some x) × P i x e

at_front : {A : Type 0} (x : A) (xs : List A) (P : ℕ → A → Edge → Type 0) (e : Edge) (i : ℕ) (y : A) → slice_get (x ∷ xs) i ≡ Some y → P i y e → P 0 x e ⊎ AtSome xs (λ k. P (suc k)) e
at_front {A} x xs P e zero y at h = (let same : x ≡ y = cc in let Q : A → Type 0 = λ z. P 0 z e in inl (subst Q (sym same) h))
at_front x xs P e (suc i) y at h = inr (i, y, at, h)

at_some : {A : Type 0} (xs : List A) (P : ℕ → A → Edge → Type 0) → ((i : ℕ) (x : A) → slice_get xs i ≡ Some x → Listed (P i x)) → Listed (AtSome xs P)
at_some {A} [] P each = none (AtSome [] P) (λ e h. let k : None ≡ Some h.1 = h.2 in cc)
at_some (x ∷ xs) P each =
    alike (λ e. P 0 x e ⊎ AtSome xs (λ k. P (suc k)) e) (AtSome (x ∷ xs) P)
    (λ e. (
      (λ h. elim h [ inl p ↦ (0, x, refl, p) | inr r ↦ (suc r.0, r.1, r.2, r.3) ]),
      (λ h. at_front x xs P e h.0 h.1 h.2 h.3),
    ))
    (either (P 0 x) (AtSome xs (λ k. P (suc k))) (each 0 x refl) (at_some xs (λ k. P (suc k)) (λ i y at. each (suc i) y at)))

-- the edge of an import, if it breaks no rule
abbrev IsEdgeOf : List PackageModel → ℕ → List ℕ → List ℕ → Edge → Type 0
IsEdgeOf ps i q text e = (i ≡ e.from) × IsTarget ps q text (Package e.to)

edge_of_target : (ps : List PackageModel) (i : ℕ) (q text : List ℕ) (target : ImportOutcome) → IsWorkspace ps → IsTarget ps q text target → Listed (IsEdgeOf ps i q text)
edge_of_target ps i q text (Package n) well is =
    alike (λ e. edge i n ≡ e) (IsEdgeOf ps i q text)
    (λ e. (
      (λ same. (ap (λ (x : Edge). x.from) same, subst (λ m. IsTarget ps q text (Package m)) (ap (λ (x : Edge). x.to) same) is)),
      (λ h. (let k : Package n ≡ Package e.to = one_target ps q text (Package n) (Package e.to) well is h.1 in let to : n ≡ e.to = cc in ap (λ f. edge f n) h.0 ∙ ap (λ t. edge e.from t) to)),
    ))
    (one (edge i n))
edge_of_target ps i q text (Refused rule) well is = none (IsEdgeOf ps i q text) (λ e h. let k : Package e.to ≡ Refused rule = one_target ps q text (Package e.to) (Refused rule) well h.1 is in cc)

pub list_of_edges : HasListOfEdges
list_of_edges ps well =
    let text_edges = λ (i : ℕ) (q text : List ℕ). (let t = has_target ps q text well in edge_of_target ps i q text t.0 well t.1) in
    alike (AtSome ps (λ i p. AtSome p.1 (λ j f. AtSome (import_texts f) (λ k text. IsEdgeOf ps i p.0 text)))) (IsEdge ps)
    (λ e. (
      (λ h. record {
        at = record { «package» = h.0; file = h.3.0; import = h.3.3.0 };
        q = h.1.0;
        text = h.3.3.1;
        there = record { files = h.1.1; file = h.3.1; numbered = h.2; in_files = h.3.2; in_file = h.3.3.2 };
        from = h.3.3.3.0;
        target = h.3.3.3.1;
      }),
      (λ h. (h.at.«package», (h.q, h.there.files), h.there.numbered, (h.at.file, h.there.file, h.there.in_files, (h.at.import, h.text, h.there.in_file, (h.from, h.target))))),
    ))
    (at_some ps (λ i p. AtSome p.1 (λ j f. AtSome (import_texts f) (λ k text. IsEdgeOf ps i p.0 text)))
    (λ i p _. at_some p.1 (λ j f. AtSome (import_texts f) (λ k text. IsEdgeOf ps i p.0 text))
    (λ j f _. at_some (import_texts f) (λ k text. IsEdgeOf ps i p.0 text)
    (λ k text _. text_edges i p.0 text))))

pub cycles_are_decided : CyclesAreDecided
cycles_are_decided ps e well =
    let all = list_of_edges ps well in
    let edges : List Edge = all.0 in
    let are : All (IsEdge ps) edges = λ k d lt. (all.1 (get_or edges k d)).1 (Contains-get_or edges k d lt) in
    elim (cases_eq e.to e.from) [
      | inl loop ↦ inl ([], All-nil (IsEdge ps), inl loop)
      | inr apart ↦ elim (reach_decided edges e.to e.from) [
        | inl back ↦ inl (edges, are, inr back)
        | inr off ↦ inr (λ h. elim h.2 [
          | inl loop ↦ apart loop
          | inr back ↦ off ((by_more h.0 edges (All-weaker (IsEdge ps) (Contains edges) (λ x is. (all.1 x).0 is) h.0 h.1)).0 e.to e.from back)
        ])
      ]
    ]

pub judged : (ps : List PackageModel) (from : ℕ) (q text : List ℕ) (target : ImportOutcome) → IsWorkspace ps → IsTarget ps q text target → (outcome : ImportOutcome) × IsJudged ps from q text outcome
judged ps from q text (Refused rule) well is = (Refused rule, inl is)
judged ps from q text (Package to) well is = elim (cycles_are_decided ps (edge from to) well) [
  | inl lies ↦ (Refused I4, inr (record { is = refl; to = to; target = is; cycle = lies }))
  | inr free ↦ (Package to, (is, free))
]

pub has_outcome : HasOutcome
has_outcome ps at q text well there =
    let t = has_target ps q text well in
    let o = judged ps at.«package» q text t.0 well t.1 in
    (o.0, record { q = q; text = text; there = there; judged = o.1 })
