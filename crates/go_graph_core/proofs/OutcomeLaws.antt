-- What an import comes to is decided, and one.
use Rattle.std.proofs.Common.{◌≡◌, ℕ, ◌<◌, ◌≤◌, ◌-◌, ◌⊎◌, inl, inr, Bool, true, false, List, [], ◌∷◌, length, slice_index, All, Option, Some, None, Ok, Err, Result, slice_get, refl, sym, ◌∙◌, ap, subst, arith, zero, suc}
use Rattle.std.specs.Str.{bytes_eq}
use Rattle.std.proofs.lemmas.Bool.{cases_lt, cases_eq}
use Rattle.std.proofs.lemmas.List.Elements.{All-nil, All-cons, All-head, All-tail, All-contains}
use Rattle.std.proofs.lemmas.Option.{get_or_from_slice_get, slice_get_within}
use Rattle.std.proofs.lemmas.Slice.Eq.{bytes_eq-Decides}
use Rattle.go_collections_core.specs.text_core.declared.rule.Rule.{Rule}
use Rattle.go_collections_core.specs.text_core.declared.rule.Rule.TheVariants.{I1, I2, I3, I5, I6}
use Rattle.go_path_core.specs.Path.{elements, IsPath, IsElement, IsPathByte, MayImport}
use Rattle.go_path_core.specs.mirrors.Steps.{importable}
use Rattle.go_path_core.proofs.Paths.{may_import_is}
use Rattle.go_digraph_core.specs.declared.cycle.edge.Edge.{Edge}
use Rattle.go_digraph_core.specs.cycle.Cycle.{Leads}
use Rattle.go_graph_core.specs.declared.assembly.KFault.{KFault}
use Rattle.go_graph_core.specs.declared.imports.ImportAt.{ImportAt}
use Rattle.go_graph_core.specs.declared.imports.ImportOutcome.{ImportOutcome}
use Rattle.go_graph_core.specs.declared.imports.ImportOutcome.TheVariants.{Package, Refused}
use Rattle.go_graph_core.specs.Sources.{SourceModel}
use Rattle.go_graph_core.specs.Packages.{Trees, IsAssembly, IsAssembled, IsNameOf}
use Rattle.go_graph_core.specs.Workspaces.{PackageModel, IsPackage, IsWorkspace}
use Rattle.go_graph_core.specs.Imports.{AreFaulty, AreMain, AreLibrary, IsNumbered, HasNoPackage, IsAllowed, IsTarget, IsImport, IsJudged, IsEdge, LiesOnCycle, import_texts, edge, main}
use Rattle.go_graph_core.specs.Plans.{IsAssembledAt}
use Rattle.go_graph_core.specs.ImportLaws.{HasTarget, HasNoOtherTarget, HasOneOutcome, CyclesAreAssembled}
use Rattle.go_graph_core.proofs.AssemblyLaws.{has_assembly}
use Rattle.go_graph_core.proofs.OneTarget.{one_target}

pub has_no_other_target : HasNoOtherTarget
has_no_other_target = one_target

-- the import at a place is one
same_import : (ps : List PackageModel) (at : ImportAt) (q text r other : List ℕ) → IsImport ps at q text → IsImport ps at r other → (q ≡ r) × (text ≡ other)
same_import ps at q text r other a b =
    let pair : ◌≡◌ {A = PackageModel} (q, a.files) (r, b.files) = (let k : ◌≡◌ {A = Option PackageModel} (Some (q, a.files)) (Some (r, b.files)) = sym a.numbered ∙ b.numbered in cc) in
    let files : a.files ≡ b.files = ap (λ (p : PackageModel). p.1) pair in
    let file : a.file ≡ b.file = (let k : Some a.file ≡ Some b.file = sym a.in_files ∙ (ap (λ fs. slice_get fs at.file) files ∙ b.in_files) in cc) in
    let words : text ≡ other = (let k : Some text ≡ Some other = sym a.in_file ∙ (ap (λ s. slice_get (import_texts s) at.import) file ∙ b.in_file) in cc) in
    (ap (λ (p : PackageModel). p.0) pair, words)

-- a target that is a package is no rule
apart : (ps : List PackageModel) (q text : List ℕ) (i : ℕ) (rule : Rule) → IsWorkspace ps → IsTarget ps q text (Package i) → IsTarget ps q text (Refused rule) → ⊥
apart ps q text i rule well a b = (let no : Package i ≡ Refused rule = one_target ps q text (Package i) (Refused rule) well a b in cc)

same_package : (ps : List PackageModel) (q text : List ℕ) (i j : ℕ) → IsWorkspace ps → IsTarget ps q text (Package i) → IsTarget ps q text (Package j) → i ≡ j
same_package ps q text i j well a b = (let k : Package i ≡ Package j = one_target ps q text (Package i) (Package j) well a b in cc)

one_judged : (ps : List PackageModel) (from : ℕ) (q text : List ℕ) (o r : ImportOutcome) → IsWorkspace ps → IsJudged ps from q text o → IsJudged ps from q text r → o ≡ r
one_judged ps from q text (Package i) (Package j) well a b = ap Package (same_package ps q text i j well a.0 b.0)
one_judged ps from q text (Package i) (Refused s) well a (inl b) = absurd (apart ps q text i s well a.0 b)
one_judged ps from q text (Package i) (Refused s) well a (inr b) =
    let same : b.to ≡ i = same_package ps q text b.to i well b.target a.0 in
    absurd (a.1 (subst (λ n. LiesOnCycle ps (edge from n)) same b.cycle))
one_judged ps from q text (Refused r) (Package j) well (inl a) b = absurd (apart ps q text j r well b.0 a)
one_judged ps from q text (Refused r) (Package j) well (inr a) b =
    let same : a.to ≡ j = same_package ps q text a.to j well a.target b.0 in
    absurd (b.1 (subst (λ n. LiesOnCycle ps (edge from n)) same a.cycle))
one_judged ps from q text (Refused r) (Refused s) well (inl a) (inl b) = one_target ps q text (Refused r) (Refused s) well a b
one_judged ps from q text (Refused r) (Refused s) well (inl a) (inr b) = absurd (apart ps q text b.to r well b.target a)
one_judged ps from q text (Refused r) (Refused s) well (inr a) (inl b) = absurd (apart ps q text a.to s well a.target b)
one_judged ps from q text (Refused r) (Refused s) well (inr a) (inr b) = ap Refused (a.is ∙ sym b.is)

pub has_one_outcome : HasOneOutcome
has_one_outcome ps at o r well a b =
    let same = same_import ps at a.q a.text b.q b.text a.there b.there in
    let x : IsJudged ps at.«package» b.q b.text o = subst (λ (t : List ℕ). IsJudged ps at.«package» b.q t o) same.1 (subst (λ (p : List ℕ). IsJudged ps at.«package» p a.text o) same.0 a.judged) in
    one_judged ps at.«package» b.q b.text o r well x b.judged

-- what an import names is assembled
end_is_assembled : (ps : List PackageModel) (e : Edge) → IsEdge ps e → IsAssembledAt ps e.to
end_is_assembled ps e h = (h.text, h.target.files, h.target.numbered, h.target.library.0)

along : (ps : List PackageModel) (edges es : List Edge) (a b : ℕ) → All (IsEdge ps) edges → IsAssembledAt ps a → Leads edges es a b → IsAssembledAt ps b
along ps edges [] a b all here h = subst (λ n. IsAssembledAt ps n) h here
along ps edges (e ∷ es) a b all here h = along ps edges es e.to b all (end_is_assembled ps e (All-contains (IsEdge ps) edges e all h.0)) h.2

pub cycles_are_assembled : CyclesAreAssembled
cycles_are_assembled ps e is lies =
    let here = end_is_assembled ps e is in
    elim lies.2 [
      | inl loop ↦ subst (λ n. IsAssembledAt ps n) loop here
      | inr back ↦ along ps lies.0 back.0 e.to e.from lies.1 here back.1
    ]

-- what holds of all holds of the one at a place
pub all_at_place : {A : Type 0} (P : A → Type 0) (xs : List A) (i : ℕ) (x : A) → All P xs → slice_get xs i ≡ Some x → P x
all_at_place P xs i x all at = subst P (get_or_from_slice_get xs i x x at) (all i x (slice_get_within xs i x at))

-- a target is found by one test behind the other

abbrev Decided : Type 0 → Type 0
Decided P = P ⊎ (P → ⊥)

both : {P Q : Type 0} → Decided P → Decided Q → Decided (P × Q)
both (inl p) (inl q) = inl (p, q)
both (inl p) (inr n) = inr (λ h. n h.1)
both (inr n) q = inr (λ h. n h.0)

either : {P Q : Type 0} → Decided P → Decided Q → Decided (P ⊎ Q)
either (inl p) q = inl (inl p)
either (inr n) (inl q) = inl (inr q)
either (inr n) (inr m) = inr (λ h. elim h [ inl p ↦ n p | inr q ↦ m q ])

other : {P : Type 0} → Decided P → Decided (P → ⊥)
other (inl p) = inr (λ h. h p)
other (inr n) = inl n

alike : {P Q : Type 0} → (P → Q) → (Q → P) → Decided P → Decided Q
alike f g (inl p) = inl (f p)
alike f g (inr n) = inr (λ q. n (g q))

least : (a b : ℕ) → Decided (a ≤ b)
least a b = elim (cases_lt b a) [ inl lt ↦ inr (λ le. omega (arith, lt, le)) | inr le ↦ inl le ]

less : (a b : ℕ) → Decided (a < b)
less a b = elim (cases_lt a b) [ inl lt ↦ inl lt | inr le ↦ inr (λ lt. omega (arith, lt, le)) ]

number_is : (a b : ℕ) → Decided (a ≡ b)
number_is a b = cases_eq a b

all_of : {A : Type 0} (P : A → Type 0) → ((x : A) → Decided (P x)) → (xs : List A) → Decided (All P xs)
all_of P each [] = inl (All-nil P)
all_of P each (x ∷ xs) = elim (both (each x) (all_of P each xs)) [ inl h ↦ inl (All-cons P x xs h.0 h.1) | inr n ↦ inr (λ h. n (All-head P x xs h, All-tail P x xs h)) ]

within : (a x b : ℕ) → Decided ((a ≤ x) × (x ≤ b))
within a x b = both (least a x) (least x b)

path_byte : (b : ℕ) → Decided (IsPathByte b)
path_byte b = either (within 65 b 90) (either (within 97 b 122) (either (within 48 b 57) (either (number_is b 45) (either (number_is b 46) (either (number_is b 95) (number_is b 126))))))

element : (e : List ℕ) → Decided (IsElement e)
element e = alike (λ h. (h.0, h.1.0, h.1.1.0, h.1.1.1)) (λ h. (h.0, (h.1, (h.2, h.3)))) (both (less 0 (length e)) (both (other (number_is (slice_index e 0) 46)) (both (other (number_is (slice_index e (length e - 1)) 46)) (all_of IsPathByte path_byte e))))

path : (text : List ℕ) → Decided (IsPath text)
path text = alike (λ h. (h.0, h.1.0, h.1.1)) (λ h. (h.0, (h.1, h.2))) (both (least (length text) 255) (both (least (length (elements text)) 16) (all_of IsElement element (elements text))))

by_bool : {P : Type 0} (b : Bool) → (b ≡ true → P) × (P → b ≡ true) → Decided P
by_bool true h = inl (h.0 refl)
by_bool false h = inr (λ p. let no : false ≡ true = h.1 p in cc)

may : (q p : List (List ℕ)) → Decided (MayImport q p)
may q p = by_bool (importable true q p) (may_import_is q p (importable true q p) refl)

same_text : (s t : List ℕ) → Decided (s ≡ t)
same_text s t = by_bool (bytes_eq s t) (bytes_eq-Decides s t)

-- the package of a path, or that there is none
found : (ps : List PackageModel) (text : List ℕ) → ((i : ℕ) × (files : List SourceModel) × IsNumbered ps text i files) ⊎ HasNoPackage ps text
found [] text = inr (λ i files h. let no : None ≡ Some (text, files) = h in cc)
found (p ∷ ps) text = elim (same_text p.0 text) [
  | inl same ↦ inl (0, p.1, ap (λ (t : List ℕ). Some (t, p.1)) same)
  | inr differs ↦ elim (found ps text) [
    | inl h ↦ inl (suc h.0, h.1, h.2)
    | inr none ↦ inr (not_in p ps text differs none)
  ]
]
  where
    not_in : (p : PackageModel) (ps : List PackageModel) (text : List ℕ) → (p.0 ≡ text → ⊥) → HasNoPackage ps text → HasNoPackage (p ∷ ps) text
    not_in p ps text differs none zero files h = differs (let k : Some p ≡ Some (text, files) = h in let e : p ≡ (text, files) = cc in ap (λ (x : PackageModel). x.0) e)
    not_in p ps text differs none (suc i) files h = none i files h

-- what the files of a package are to those that import it
pub stands : (files : List SourceModel) → 0 < length files → AreFaulty files ⊎ (AreMain files ⊎ AreLibrary files)
stands files some = by_answer files (has_assembly files some).0 (has_assembly files some).1
  where
    by_name : (files : List SourceModel) → IsAssembled files → AreFaulty files ⊎ (AreMain files ⊎ AreLibrary files)
    by_name files well = elim (same_text well.name main) [
      | inl same ↦ inr (inl (well, subst (λ (n : List ℕ). IsNameOf n files) same well.is_name))
      | inr differs ↦ inr (inr (well, (well.name, well.is_name, differs)))
    ]

    by_answer : (files : List SourceModel) (answer : Result Trees KFault) → IsAssembly files answer → AreFaulty files ⊎ (AreMain files ⊎ AreLibrary files)
    by_answer files (Ok trees) h = by_name files h.1
    by_answer files (Err fault) h = inl (fault, h)

pub has_target : HasTarget
has_target ps q text well = elim (path text) [
  | inr malformed ↦ (Refused I1, inl (record { is = refl; malformed = malformed }))
  | inl is_path ↦ elim (may (elements q) (elements text)) [
    | inr hidden ↦ (Refused I3, inr (inl (record { is = refl; path = is_path; hidden = hidden })))
    | inl may_be ↦ elim (found ps text) [
      | inr nowhere ↦ (Refused I2, inr (inr (inl (record { is = refl; allowed = (is_path, may_be); nowhere = nowhere }))))
      | inl at ↦ at_package ps q text (is_path, may_be) at.0 at.1 at.2 (stands at.1 (some_files ps text at.0 at.1 well at.2))
    ]
  ]
]
  where
    some_files : (ps : List PackageModel) (text : List ℕ) (i : ℕ) (files : List SourceModel) → IsWorkspace ps → IsNumbered ps text i files → 0 < length files
    some_files ps text i files well at = (all_at_place IsPackage ps i (text, files) well.packages at).some

    at_package : (ps : List PackageModel) (q text : List ℕ) → IsAllowed q text → (i : ℕ) (files : List SourceModel) → IsNumbered ps text i files → AreFaulty files ⊎ (AreMain files ⊎ AreLibrary files) → (target : ImportOutcome) × IsTarget ps q text target
    at_package ps q text allowed i files at (inl faulty) = (Refused I6, inr (inr (inr (inl (record { is = refl; allowed = allowed; number = i; files = files; numbered = at; faulty = faulty })))))
    at_package ps q text allowed i files at (inr (inl program)) = (Refused I5, inr (inr (inr (inr (record { is = refl; allowed = allowed; number = i; files = files; numbered = at; program = program })))))
    at_package ps q text allowed i files at (inr (inr library)) = (Package i, record { allowed = allowed; files = files; numbered = at; library = library })
