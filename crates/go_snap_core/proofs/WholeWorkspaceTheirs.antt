-- What the imports of a package come to, and what they lead to.
use Rattle.std.proofs.Common.{◌≡◌, ℕ, suc, inl, inr, List, [], ◌∷◌, refl, sym, ap, subst, ◌∙◌}
use Rattle.go_graph_core.specs.declared.imports.ImportAt.{ImportAt}
use Rattle.go_graph_core.specs.declared.imports.ImportOutcome.{ImportOutcome}
use Rattle.go_graph_core.specs.declared.imports.ImportOutcome.TheVariants as outcomes
use Rattle.go_graph_core.specs.Imports.{IsOutcome}
use Rattle.go_graph_core.specs.Lists.{AllNumbered}
use Rattle.go_graph_core.specs.Packages.{Trees}
use Rattle.go_graph_core.specs.Workspaces.{PackageModel, IsWorkspace}
use Rattle.go_graph_core.proofs.OutcomeLaws.{has_one_outcome}
use Rattle.go_names_core.specs.block_core.declared.imports.Imported.{Imported}
use Rattle.go_names_core.specs.block_core.declared.imports.Imported.TheVariants as given
use Rattle.go_names_core.specs.block_core.Exports.{ExportsModel}
use Rattle.go_names_core.specs.block_core.Naming.{IsGiven, AreInFile, AreInPackage, import_at, file_specs}
use Rattle.go_body_core.specs.typexpr_core.EntryAmong.{Among, among_from}
use Rattle.go_snap_core.specs.whole_workspace.Known.{IsImportedPath}

numbered_among : {A B : Type 0} (R : ℕ → A → B → Type 0) (k : ℕ) (xs : List A) (ys : List B) (y : B) → AllNumbered R k xs ys → Among ys y → (n : ℕ) × (x : A) × R n x y
numbered_among R k [] [] y h a = absurd a
numbered_among R k [] (b ∷ ys) y h a = absurd h
numbered_among R k (x ∷ xs) [] y h a = absurd h
numbered_among R k (x ∷ xs) (b ∷ ys) y h a = elim a [
  | inl e ↦ (k, x, subst (R k x) e h.0)
  | inr r ↦ numbered_among R (suc k) xs ys y h.1 r
]

-- an import that comes to a package
pub record Leads (P : ImportAt → Imported → Type 0) (number : ℕ) (path : List ℕ) : Type 0 where
  pub at : ImportAt
  pub from : at.«package» ≡ number
  pub shown : ExportsModel
  pub come : P at (given.«Package» shown)
  pub is : path ≡ shown.path

pub imports_lead : (P : ImportAt → Imported → Type 0) (number : ℕ) (ts : Trees) (imported : List (List Imported)) (path : List ℕ) → AreInPackage P number ts imported → IsImportedPath imported path → Leads P number path
imports_lead P number ts imported path h i =
    let file = numbered_among (λ file t is. AreInFile P number file t.1 is) 0 ts imported i.of_file h (among_from imported i.of_file i.file) in
    let spec = numbered_among (λ n spec x. P (import_at number file.0 n) x) 0 (file_specs file.1.1) i.of_file (given.«Package» i.shown) file.2 (among_from i.of_file (given.«Package» i.shown) i.there) in
    record { at = import_at number file.0 spec.0; from = refl; shown = i.shown; come = spec.2; is = i.is }

-- an outcome by which an import comes to a package
pub record Passes (Shows : ℕ → ExportsModel → Type 0) (ps : List PackageModel) (at : ImportAt) (e : ExportsModel) : Type 0 where
  pub to : ℕ
  pub judged : IsOutcome ps at (outcomes.«Package» to)
  pub shows : Shows to e

pub passes : (Shows : ℕ → ExportsModel → Type 0) (ps : List PackageModel) (at : ImportAt) (o : ImportOutcome) (e : ExportsModel) → IsOutcome ps at o → IsGiven Shows o (given.«Package» e) → Passes Shows ps at e
passes Shows ps at (outcomes.«Package» n) e judged h = record { to = n; judged = judged; shows = h }
passes Shows ps at (outcomes.Refused rule) e judged h = absurd h

-- what imports come to is one, where packages show one thing each

one_list : {A X : Type 0} (R : ℕ → A → X → Type 0) → ((k : ℕ) (a : A) (x y : X) → R k a x → R k a y → x ≡ y) → (k : ℕ) (zs : List A) (xs ys : List X) → AllNumbered R k zs xs → AllNumbered R k zs ys → xs ≡ ys
one_list R f k [] [] [] r s = refl
one_list R f k [] (x ∷ xs) ys r s = absurd r
one_list R f k [] [] (y ∷ ys) r s = absurd s
one_list R f k (a ∷ zs) [] ys r s = absurd r
one_list R f k (a ∷ zs) (x ∷ xs) [] r s = absurd s
one_list R f k (a ∷ zs) (x ∷ xs) (y ∷ ys) r s = ap (λ z. z ∷ xs) (f k a x y r.0 s.0) ∙ ap (λ l. y ∷ l) (one_list R f (suc k) zs xs ys r.1 s.1)

module _ (Shows : ℕ → ExportsModel → Type 0) (once : (n : ℕ) (e f : ExportsModel) → Shows n e → Shows n f → e ≡ f) where
  one_given : (o : ImportOutcome) (i j : Imported) → IsGiven Shows o i → IsGiven Shows o j → i ≡ j
  one_given (outcomes.«Package» n) (given.«Package» e) (given.«Package» f) x y = ap given.«Package» (once n e f x y)
  one_given (outcomes.«Package» n) (given.Refused rule) j x y = absurd x
  one_given (outcomes.«Package» n) (given.«Package» e) (given.Refused rule) x y = absurd y
  one_given (outcomes.Refused r) (given.«Package» e) j x y = absurd x
  one_given (outcomes.Refused r) (given.Refused rule) (given.«Package» f) x y = absurd y
  one_given (outcomes.Refused r) (given.Refused rule) (given.Refused other) x y = ap given.Refused (x ∙ sym y)

  pub one_import : (ps : List PackageModel) (at : ImportAt) (o r : ImportOutcome) (i j : Imported) → IsWorkspace ps → IsOutcome ps at o → IsOutcome ps at r → IsGiven Shows o i → IsGiven Shows r j → i ≡ j
  one_import ps at o r i j well x y a b = one_given o i j a (subst (λ z. IsGiven Shows z j) (has_one_outcome ps at r o well y x) b)

pub one_imported : (P : ImportAt → Imported → Type 0) → ((at : ImportAt) (i j : Imported) → P at i → P at j → i ≡ j) → (number : ℕ) (ts : Trees) (is js : List (List Imported)) → AreInPackage P number ts is → AreInPackage P number ts js → is ≡ js
one_imported P f number ts is js x y =
    one_list (λ file t l. AreInFile P number file t.1 l)
    (λ file t l m r s. one_list (λ n spec i. P (import_at number file n) i) (λ n spec i j a b. f (import_at number file n) i j a b) 0 (file_specs t.1) l m r s)
    0 ts is js x y
