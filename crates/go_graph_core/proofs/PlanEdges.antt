-- The edges of a plan are those of the packages' imports.
use Rattle.std.proofs.Common.{◌≡◌, ℕ, ◌<◌, ◌+◌, inl, inr, List, [], ◌∷◌, ◌++◌, length, get_or, take, Some, slice_get, All, Vec, refl, sym, ◌∙◌, ap, subst, arith, zero, suc}
use Rattle.std.specs.List.{Contains, flat_map, AllZip}
use Rattle.std.proofs.lemmas.List.{take_more, length-take, append_assoc, append-nil}
use Rattle.std.proofs.lemmas.Grind.{flat_map-append}
use Rattle.std.proofs.lemmas.List.Elements.{Contains-append_left, Contains-append_right, Contains-append_cases, Contains-push_cases, Contains-get_or, All-weaker}
use Rattle.std.proofs.lemmas.Option.{slice_get_within}
use Rattle.go_digraph_core.specs.declared.cycle.edge.Edge.{Edge}
use Rattle.go_digraph_core.specs.cycle.Cycle.{InRange, IsOnCycle}
use Rattle.go_digraph_core.proofs.CycleWalks.{by_more}
use Rattle.go_graph_core.specs.declared.imports.ImportAt.{ImportAt}
use Rattle.go_graph_core.specs.declared.imports.ImportOutcome.{ImportOutcome}
use Rattle.go_graph_core.specs.declared.imports.ImportOutcome.TheVariants.{Package, Refused}
use Rattle.go_graph_core.specs.Sources.{SourceModel}
use Rattle.go_graph_core.specs.Workspaces.{PackageModel, IsWorkspace}
use Rattle.go_graph_core.specs.Imports.{IsTarget, IsImport, IsEdge, LiesOnCycle, import_texts, edge}
use Rattle.go_graph_core.specs.mirrors.Targets.{AreTargets, ArePackageTargets, edge_of, package_edges, edges_from}
use Rattle.go_graph_core.proofs.OneTarget.{one_target}
use Rattle.go_graph_core.proofs.Zips.{zip_at, zip_back}

abbrev Files : Type 0 → Type 0
Files S = Vec ImportOutcome S

abbrev pub Targets : Type 0 → Type 0
Targets S = Vec (Vec ImportOutcome S) S

edges_append : {S : Type 0} (k : ℕ) (xs : List (Targets S)) (x : Targets S) → edges_from k (xs ++ x ∷ []) ≡ edges_from k xs ++ package_edges (k + length xs) x.items
edges_append k [] x = (let n : k ≡ k + 0 = omega arith in append-nil (package_edges k x.items) ∙ ap (λ m. package_edges m x.items) n)
edges_append k (y ∷ ys) x =
    let n : suc k + length ys ≡ k + suc (length ys) = omega arith in
    ap (λ l. package_edges k y.items ++ l) (edges_append (suc k) ys x ∙ ap (λ m. edges_from (suc k) ys ++ package_edges m x.items) n)
    ∙ sym (append_assoc (package_edges k y.items) (edges_from (suc k) ys) (package_edges (k + suc (length ys)) x.items))

-- the edges of one more package
pub edges_more : {S : Type 0} (xs : List (Targets S)) (i : ℕ) (x : Targets S) → i < length xs → x ≡ get_or xs i x → edges_from 0 (take (i + 1) xs) ≡ edges_from 0 (take i xs) ++ package_edges i x.items
edges_more {S} xs i x lt at =
    let more : take (i + 1) xs ≡ take i xs ++ x ∷ [] = take_more xs i x lt ∙ ap (λ (z : Targets S). take i xs ++ z ∷ []) (sym at) in
    let n : 0 + length (take i xs) ≡ i = omega (arith, length-take i xs) in
    ap (edges_from 0) more ∙ (edges_append 0 (take i xs) x ∙ ap (λ m. edges_from 0 (take i xs) ++ package_edges m x.items) n)

-- the edges of one more file
pub file_edges_more : {S : Type 0} (from : ℕ) (fs : List (Files S)) (i : ℕ) (f : Files S) (start old new : List Edge) → i < length fs → f ≡ get_or fs i f → old ≡ start ++ package_edges from (take i fs) → new ≡ old ++ flat_map (edge_of from) f.items → new ≡ start ++ package_edges from (take (i + 1) fs)
file_edges_more {S} from fs i f start old new lt at before e =
    let more : take (i + 1) fs ≡ take i fs ++ f ∷ [] = take_more fs i f lt ∙ ap (λ (z : Files S). take i fs ++ z ∷ []) (sym at) in
    let here : List Edge = flat_map (edge_of from) f.items in
    let all : package_edges from (take (i + 1) fs) ≡ package_edges from (take i fs) ++ here =
    ap (package_edges from) more ∙ (flat_map-append (λ (os : Files S). flat_map (edge_of from) os.items) (take i fs) (f ∷ []) ∙ ap (λ l. package_edges from (take i fs) ++ l) (append-nil here)) in
    e ∙ (ap (λ (l : List Edge). l ++ here) before ∙ (append_assoc start (package_edges from (take i fs)) here ∙ ap (λ (l : List Edge). start ++ l) (sym all)))

pub in_flat : {A B : Type 0} (g : A → List B) (xs : List A) (i : ℕ) (x : A) (y : B) → slice_get xs i ≡ Some x → Contains (g x) y → Contains (flat_map g xs) y
in_flat g [] i x y e h = cc
in_flat g (a ∷ xs) zero x y e h = (let same : a ≡ x = cc in Contains-append_left (g a) (flat_map g xs) y (subst (λ z. Contains (g z) y) (sym same) h))
in_flat g (a ∷ xs) (suc i) x y e h = Contains-append_right (g a) (flat_map g xs) y (in_flat g xs i x y e h)

pub from_flat : {A B : Type 0} (g : A → List B) (xs : List A) (y : B) → Contains (flat_map g xs) y → (i : ℕ) × (x : A) × (slice_get xs i ≡ Some x) × Contains (g x) y
from_flat g [] y h = absurd (omega (arith, h.1))
from_flat g (a ∷ xs) y h = elim (Contains-append_cases (g a) (flat_map g xs) y h) [
  | inl k ↦ (0, a, refl, k)
  | inr k ↦ (let rest = from_flat g xs y k in (suc rest.0, rest.1, rest.2, rest.3))
]

itself : (e : Edge) → Contains (e ∷ []) e
itself e = (let lt : 0 < 1 = omega arith in (0, lt, refl))

-- an import that names a package gives an edge
edge_there : {S : Type 0} (k : ℕ) (ts : List (Targets S)) (i a b : ℕ) (p : Targets S) (f : Files S) (to : ℕ) → slice_get ts i ≡ Some p → slice_get p.items a ≡ Some f → slice_get f.items b ≡ Some (Package to) → Contains (edges_from k ts) (edge (k + i) to)
edge_there k [] i a b p f to x y z = cc
edge_there {S} k (q ∷ ts) zero a b p f to x y z =
    let same : q ≡ p = cc in
    let n : k ≡ k + 0 = omega arith in
    let here = in_flat (λ (os : Files S). flat_map (edge_of k) os.items) p.items a f (edge k to) y (in_flat (edge_of k) f.items b (Package to) (edge k to) z (itself (edge k to))) in
    let there : Contains (package_edges k q.items) (edge k to) = subst (λ (r : Targets S). Contains (package_edges k r.items) (edge k to)) (sym same) here in
    subst (λ m. Contains (edges_from k (q ∷ ts)) (edge m to)) n (Contains-append_left (package_edges k q.items) (edges_from (suc k) ts) (edge k to) there)
edge_there k (q ∷ ts) (suc i) a b p f to x y z =
    let n : suc k + i ≡ k + suc i = omega arith in
    subst (λ m. Contains (edges_from k (q ∷ ts)) (edge m to)) n (Contains-append_right (package_edges k q.items) (edges_from (suc k) ts) (edge (suc k + i) to) (edge_there (suc k) ts i a b p f to x y z))

pub edge_at : {S : Type 0} (ts : List (Targets S)) (i a b : ℕ) (p : Targets S) (f : Files S) (to : ℕ) → slice_get ts i ≡ Some p → slice_get p.items a ≡ Some f → slice_get f.items b ≡ Some (Package to) → Contains (edges_from 0 ts) (edge i to)
edge_at ts i a b p f to x y z = (let n : 0 + i ≡ i = omega arith in subst (λ m. Contains (edges_from 0 ts) (edge m to)) n (edge_there 0 ts i a b p f to x y z))

-- where an edge comes from
pub record ComesFrom {S : Type 0} (ts : List (Targets S)) (k : ℕ) (e : Edge) : Type 0 where
  pub i : ℕ
  pub a : ℕ
  pub b : ℕ
  pub p : Targets S
  pub f : Files S
  pub in_all : slice_get ts i ≡ Some p
  pub in_files : slice_get p.items a ≡ Some f
  pub in_file : slice_get f.items b ≡ Some (Package e.to)
  pub from : e.from ≡ k + i

from_one : (k : ℕ) (o : ImportOutcome) (e : Edge) → Contains (edge_of k o) e → (o ≡ Package e.to) × (e.from ≡ k)
from_one k (Refused rule) e h = absurd (omega (arith, h.1))
from_one k (Package to) e h = elim (Contains-push_cases [] (edge k to) e h) [
  | inl none ↦ absurd (omega (arith, none.1))
  | inr same ↦ (ap (λ (x : Edge). Package x.to) same, ap (λ (x : Edge). x.from) (sym same))
]

pub edge_from : {S : Type 0} (k : ℕ) (ts : List (Targets S)) (e : Edge) → Contains (edges_from k ts) e → ComesFrom ts k e
edge_from k [] e h = absurd (omega (arith, h.1))
edge_from {S} k (q ∷ ts) e h = elim (Contains-append_cases (package_edges k q.items) (edges_from (suc k) ts) e h) [
  | inl here ↦
      let file = from_flat (λ (os : Files S). flat_map (edge_of k) os.items) q.items e here in
      let one = from_flat (edge_of k) file.1.items e file.3 in
      let is = from_one k one.1 e one.3 in
      let n : e.from ≡ k + 0 = omega (arith, is.1) in
      record { i = 0; a = file.0; b = one.0; p = q; f = file.1; in_all = refl; in_files = file.2; in_file = one.2 ∙ ap Some is.0; from = n }
  | inr rest ↦
      let r = edge_from (suc k) ts e rest in
      let n : e.from ≡ k + suc r.i = omega (arith, r.from) in
      record { i = suc r.i; a = r.a; b = r.b; p = r.p; f = r.f; in_all = r.in_all; in_files = r.in_files; in_file = r.in_file; from = n }
]

-- the import at a place of the targets
pub import_back : {S : Type 0} (ps : List PackageModel) (ts : List (Targets S)) (at : ImportAt) (p : Targets S) (f : Files S) (o : ImportOutcome) → AreTargets ps ts → slice_get ts at.«package» ≡ Some p → slice_get p.items at.file ≡ Some f → slice_get f.items at.import ≡ Some o → (q : List ℕ) × (text : List ℕ) × IsImport ps at q text × IsTarget ps q text o
import_back {S} ps ts at p f o are x y z =
    let one = zip_back (λ (m : PackageModel) (os : Targets S). ArePackageTargets ps m os.items) ps ts at.«package» p are x in
    let two = zip_back (λ (s : SourceModel) (os : Files S). AllZip (IsTarget ps one.0.0) (import_texts s) os.items) one.0.1 p.items at.file f one.2 y in
    let three = zip_back (IsTarget ps one.0.0) (import_texts two.0) f.items at.import o two.2 z in
    (one.0.0, three.0, record { files = one.0.1; file = two.0; numbered = one.1; in_files = two.1; in_file = three.1 }, three.2)

-- the place of an import among the targets
pub record Placed {S : Type 0} (ps : List PackageModel) (ts : List (Targets S)) (at : ImportAt) (q text : List ℕ) : Type 0 where
  pub p : Targets S
  pub f : Files S
  pub o : ImportOutcome
  pub in_all : slice_get ts at.«package» ≡ Some p
  pub in_files : slice_get p.items at.file ≡ Some f
  pub in_file : slice_get f.items at.import ≡ Some o
  pub target : IsTarget ps q text o

pub import_on : {S : Type 0} (ps : List PackageModel) (ts : List (Targets S)) (at : ImportAt) (q text : List ℕ) → AreTargets ps ts → IsImport ps at q text → Placed ps ts at q text
import_on {S} ps ts at q text are there =
    let one = zip_at (λ (m : PackageModel) (os : Targets S). ArePackageTargets ps m os.items) ps ts at.«package» (q, there.files) are there.numbered in
    let two = zip_at (λ (s : SourceModel) (os : Files S). AllZip (IsTarget ps q) (import_texts s) os.items) there.files one.0.items at.file there.file one.2 there.in_files in
    let three = zip_at (IsTarget ps q) (import_texts there.file) two.0.items at.import text two.2 there.in_file in
    record { p = one.0; f = two.0; o = three.0; in_all = one.1; in_files = two.1; in_file = three.1; target = three.2 }

-- each edge of the targets is an edge of the packages
pub is_edge : {S : Type 0} (ps : List PackageModel) (ts : List (Targets S)) (e : Edge) → AreTargets ps ts → Contains (edges_from 0 ts) e → IsEdge ps e
is_edge ps ts e are h =
    let r = edge_from 0 ts e h in
    let at : ImportAt = record { «package» = r.i; file = r.a; import = r.b } in
    let back = import_back ps ts at r.p r.f (Package e.to) are r.in_all r.in_files r.in_file in
    let n : r.i ≡ e.from = omega (arith, r.from) in
    record { at = at; q = back.0; text = back.1; there = back.2; from = n; target = back.3 }

-- and each edge of the packages is one of the targets
pub has_edge : {S : Type 0} (ps : List PackageModel) (ts : List (Targets S)) (e : Edge) → IsWorkspace ps → AreTargets ps ts → IsEdge ps e → Contains (edges_from 0 ts) e
has_edge ps ts e well are h =
    let at = import_on ps ts h.at h.q h.text are h.there in
    let same : at.o ≡ Package e.to = one_target ps h.q h.text at.o (Package e.to) well at.target h.target in
    let here = edge_at ts h.at.«package» h.at.file h.at.import at.p at.f e.to at.in_all at.in_files (at.in_file ∙ ap Some same) in
    subst (λ m. Contains (edges_from 0 ts) (edge m e.to)) h.from here

pub all_edges : {S : Type 0} (ps : List PackageModel) (ts : List (Targets S)) → AreTargets ps ts → All (IsEdge ps) (edges_from 0 ts)
all_edges ps ts are = λ k d lt. is_edge ps ts (get_or (edges_from 0 ts) k d) are (Contains-get_or (edges_from 0 ts) k d lt)

pub in_range : {S : Type 0} (ps : List PackageModel) (ts : List (Targets S)) → AreTargets ps ts → InRange (length ps) (edges_from 0 ts)
in_range ps ts are = λ k d lt.
    let e : Edge = get_or (edges_from 0 ts) k d in
    let h : IsEdge ps e = all_edges ps ts are k d lt in
    let a : h.at.«package» < length ps = slice_get_within ps h.at.«package» (h.q, h.there.files) h.there.numbered in
    let b : e.to < length ps = slice_get_within ps e.to (h.text, h.target.files) h.target.numbered in
    let c : e.from < length ps = omega (arith, a, h.from) in
    (c, b)

-- an edge lies on a cycle of the packages exactly where it lies on one of the targets' edges
pub on_cycle : {S : Type 0} (ps : List PackageModel) (ts : List (Targets S)) (e : Edge) → AreTargets ps ts → IsOnCycle (edges_from 0 ts) e → LiesOnCycle ps e
on_cycle ps ts e are on = (edges_from 0 ts, all_edges ps ts are, on)

pub from_cycle : {S : Type 0} (ps : List PackageModel) (ts : List (Targets S)) (e : Edge) → IsWorkspace ps → AreTargets ps ts → LiesOnCycle ps e → IsOnCycle (edges_from 0 ts) e
from_cycle ps ts e well are h = (by_more h.0 (edges_from 0 ts) (All-weaker (IsEdge ps) (Contains (edges_from 0 ts)) (λ x k. has_edge ps ts x well are k) h.0 h.1)).1 e h.2
