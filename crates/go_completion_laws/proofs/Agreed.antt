-- What a package is made from, in two workspaces that have the same heads of files, where what it reaches has the same parts.
use Rattle.std.proofs.Common.{◌≡◌, ℕ, suc, inl, inr, All, List, [], ◌∷◌, map, Option, Some, refl, sym, ap, subst, ◌∙◌, arith}
use Rattle.std.specs.Prelude.{Contains, slice_get}
use Rattle.std.specs.List.{AllZip}
use Rattle.std.proofs.lemmas.List.Elements.{All-cons, All-contains, All-nil, Contains-append_right}
use Rattle.go_tree_nodes.specs.Trees.{ImportSpecTree}
use Rattle.go_digraph_core.specs.declared.cycle.edge.Edge.{Edge}
use Rattle.go_digraph_core.specs.cycle.Cycle.{Leads}
use Rattle.go_graph_core.specs.declared.imports.ImportAt.{ImportAt}
use Rattle.go_graph_core.specs.declared.imports.ImportOutcome.{ImportOutcome}
use Rattle.go_graph_core.specs.declared.imports.ImportOutcome.TheVariants as outcomes
use Rattle.go_graph_core.specs.Imports.{IsOutcome}
use Rattle.go_graph_core.specs.Lists.{AllNumbered}
use Rattle.go_graph_core.specs.Packages.{Trees, trees_of}
use Rattle.go_graph_core.specs.Workspaces.{IsWorkspace, PackageModel}
use Rattle.go_graph_core.proofs.OutcomeLaws.{has_one_outcome}
use Rattle.go_block_core.specs.declared.imports.Imported.{Imported}
use Rattle.go_block_core.specs.declared.imports.Imported.TheVariants as given
use Rattle.go_block_core.specs.Exports.{ExportsModel}
use Rattle.go_block_core.specs.Naming.{AreInFile, AreInPackage, IsGiven, file_specs, import_at}
use Rattle.go_typexpr_core.proofs.EntryAmong.{Among, among_to}
use Rattle.go_summary_core.specs.Summaries.{SummaryModel}
use Rattle.go_package_core.specs.package_part.Inputs.{InputModel}
use Rattle.go_package_core.specs.package_part.Parts.{PartModel}
use Rattle.go_snap_core.specs.whole_workspace.Inputs.{ComesTo, IsInputOf, IsPassingImport, ReachesPackage, Shown, Tells}
use Rattle.go_snap_core.proofs.Rising.{one_rising}
use Rattle.go_snap_core.proofs.WholeWorkspaceLists.{one_at}
use Rattle.go_snap_core.proofs.WholeWorkspaceOrder.{reaches_next}

-- partners by two relations are one, where each item has one

two_list : {A X : Type 0} (R S : ℕ → A → X → Type 0) → ((k : ℕ) (a : A) (x y : X) → R k a x → S k a y → x ≡ y) → (k : ℕ) (zs : List A) (xs ys : List X) → AllNumbered R k zs xs → AllNumbered S k zs ys → xs ≡ ys
two_list R S f k [] [] [] r s = refl
two_list R S f k [] (x ∷ xs) ys r s = absurd r
two_list R S f k [] [] (y ∷ ys) r s = absurd s
two_list R S f k (a ∷ zs) [] ys r s = absurd r
two_list R S f k (a ∷ zs) (x ∷ xs) [] r s = absurd s
two_list R S f k (a ∷ zs) (x ∷ xs) (y ∷ ys) r s = ap (λ z. z ∷ xs) (f k a x y r.0 s.0) ∙ ap (λ l. y ∷ l) (two_list R S f (suc k) zs xs ys r.1 s.1)

two_zip : {A B : Type 0} (R S : A → B → Type 0) (zs : List A) (xs ys : List B) → ((a : A) (x y : B) → Among zs a → R a x → S a y → x ≡ y) → AllZip R zs xs → AllZip S zs ys → xs ≡ ys
two_zip R S [] [] [] f r s = refl
two_zip R S [] (x ∷ xs) ys f r s = absurd r
two_zip R S [] [] (y ∷ ys) f r s = absurd s
two_zip R S (a ∷ zs) [] ys f r s = absurd r
two_zip R S (a ∷ zs) (x ∷ xs) [] f r s = absurd s
two_zip R S (a ∷ zs) (x ∷ xs) (y ∷ ys) f r s = ap (λ z. z ∷ xs) (f a x y (inl refl) r.0 s.0) ∙ ap (λ l. y ∷ l) (two_zip R S zs xs ys (λ b v w at p q. f b v w (inr at) p q) r.1 s.1)

-- what imports come to, by their specifications alone

abbrev pub specs_of_trees : Trees → List (List ImportSpecTree)
specs_of_trees ts = map (λ t. file_specs t.1) ts

abbrev AreInSpecs : (ImportAt → Imported → Type 0) → ℕ → ℕ → List ImportSpecTree → List Imported → Type 0
AreInSpecs P number file ss is = AllNumbered (λ n spec i. P (import_at number file n) i) 0 ss is

in_specs : (P : ImportAt → Imported → Type 0) (number k : ℕ) (ts : Trees) (is : List (List Imported)) → AllNumbered (λ file t l. AreInFile P number file t.1 l) k ts is → AllNumbered (AreInSpecs P number) k (specs_of_trees ts) is
in_specs P number k [] [] h = h
in_specs P number k [] (i ∷ is) h = absurd h
in_specs P number k (t ∷ ts) [] h = absurd h
in_specs P number k (t ∷ ts) (i ∷ is) h = (h.0, in_specs P number (suc k) ts is h.1)

two_imported : (P Q : ImportAt → Imported → Type 0) (number : ℕ) → ((file n : ℕ) (i j : Imported) → P (import_at number file n) i → Q (import_at number file n) j → i ≡ j) → (ts us : Trees) (is js : List (List Imported)) → specs_of_trees ts ≡ specs_of_trees us
    → AreInPackage P number ts is → AreInPackage Q number us js → is ≡ js
two_imported P Q number f ts us is js same h k =
    two_list (AreInSpecs P number) (AreInSpecs Q number)
    (λ file ss xs ys r s. two_list (λ n spec i. P (import_at number file n) i) (λ n spec i. Q (import_at number file n) i) (λ n spec i j a b. f file n i j a b) 0 ss xs ys r s)
    0 (specs_of_trees us) is js (subst (λ l. AllNumbered (AreInSpecs P number) 0 l is) same (in_specs P number 0 ts is h)) (in_specs Q number 0 us js k)

-- where the imports of a package come to the same in two workspaces, and so do those of all that it reaches, it reaches the same

leads_more : (g more : List Edge) → ((e : Edge) → Contains g e → Contains more e) → (es : List Edge) (a b : ℕ) → Leads g es a b → Leads more es a b
leads_more g more f [] a b h = h
leads_more g more f (e ∷ es) a b h = (f e h.0, h.1, leads_more g more f es e.to b h.2)

module _ (ps qs : List PackageModel) (Inside : ℕ → Type 0) (closed : (e : Edge) → Inside e.from → IsPassingImport ps e → Inside e.to)
    (alike : (at : ImportAt) (o : ImportOutcome) → Inside at.«package» → IsOutcome ps at o → IsOutcome qs at o) where
  passes_too : (e : Edge) → Inside e.from → IsPassingImport ps e → IsPassingImport qs e
  passes_too e inside h = (h.0, h.1, alike h.0 (outcomes.«Package» e.to) (subst Inside (sym h.1) inside) h.2)

  record LedInside (es : List Edge) (a b : ℕ) : Type 0 where
    passes : All (IsPassingImport qs) es
    leads : Leads es es a b
    inside : Inside b

  led_inside : (g : List Edge) → All (IsPassingImport ps) g → (es : List Edge) (a b : ℕ) → Inside a → Leads g es a b → LedInside es a b
  led_inside g all [] a b inside h = record { passes = All-nil (IsPassingImport qs); leads = h; inside = subst Inside h inside }
  led_inside g all (e ∷ es) a b inside h =
      let from : Inside e.from = subst Inside (sym h.1) inside in
      let passing : IsPassingImport ps e = All-contains (IsPassingImport ps) g e all h.0 in
      let rest = led_inside g all es e.to b (closed e from passing) h.2 in
      let one : List Edge = e ∷ [] in
      record {
        passes = All-cons (IsPassingImport qs) e es (passes_too e from passing) rest.passes;
        leads = ((0, omega arith, refl), h.1, leads_more es (e ∷ es) (λ d at. Contains-append_right one es d at) es e.to b rest.leads);
        inside = rest.inside;
      }

  pub reaches_inside : (n m : ℕ) → Inside n → ReachesPackage ps n m → Inside m × ReachesPackage qs n m
  reaches_inside n m inside r =
      let led = led_inside r.0 r.1 (r.2.0 ∷ r.2.1) n m inside r.2.2 in
      (led.inside, (r.2.0 ∷ r.2.1, led.passes, (r.2.0, r.2.1, led.leads)))

-- the input of one package, where its imports come to the same and what it reaches has the same parts

module _ (ps qs : List PackageModel) (parts others : List (Option PartModel)) (also : IsWorkspace qs) (n : ℕ) (same : (at : ImportAt) (o : ImportOutcome) → at.«package» ≡ n → IsOutcome ps at o → IsOutcome qs at o)
    (to : (m : ℕ) → ReachesPackage ps n m → ReachesPackage qs n m) (back : (m : ℕ) → ReachesPackage qs n m → ReachesPackage ps n m) (agree : (m : ℕ) → ReachesPackage ps n m → slice_get parts m ≡ slice_get others m) where
  one_told : (m : ℕ) → ReachesPackage ps n m → (s t : SummaryModel) → Tells parts m s → Tells others m t → s ≡ t
  one_told m r s t x y =
      let there : slice_get parts m ≡ Some (Some y.of_part) = agree m r ∙ y.there in
      let e : x.of_part ≡ y.of_part = (let o : Some x.of_part ≡ Some y.of_part = one_at parts m (Some x.of_part) (Some y.of_part) x.there there in cc) in
      x.is ∙ (ap (λ (p : PartModel). p.content.summary) e ∙ sym y.is)

  one_shown : (m : ℕ) → ReachesPackage ps n m → (e f : ExportsModel) → Shown parts m e → Shown others m f → e ≡ f
  one_shown m r e f x y = x.is ∙ (ap (λ (s : SummaryModel). s.exports) (one_told m r x.summary y.summary x.told y.told) ∙ sym y.is)

  one_given : (o : ImportOutcome) → ((m : ℕ) → o ≡ outcomes.«Package» m → ReachesPackage ps n m) → (i j : Imported) → IsGiven (Shown parts) o i → IsGiven (Shown others) o j → i ≡ j
  one_given (outcomes.«Package» m) reach (given.«Package» e) (given.«Package» f) x y = ap given.«Package» (one_shown m (reach m refl) e f x y)
  one_given (outcomes.«Package» m) reach (given.Refused rule) j x y = absurd x
  one_given (outcomes.«Package» m) reach (given.«Package» e) (given.Refused rule) x y = absurd y
  one_given (outcomes.Refused r) reach (given.«Package» e) j x y = absurd x
  one_given (outcomes.Refused r) reach (given.Refused rule) (given.«Package» f) x y = absurd y
  one_given (outcomes.Refused r) reach (given.Refused rule) (given.Refused other) x y = ap given.Refused (x ∙ sym y)

  one_come : (file k : ℕ) (i j : Imported) → ComesTo ps parts (import_at n file k) i → ComesTo qs others (import_at n file k) j → i ≡ j
  one_come file k i j x y =
      let at : ImportAt = import_at n file k in
      let one : y.outcome ≡ x.outcome = has_one_outcome qs at y.outcome x.outcome also y.judged (same at x.outcome refl x.judged) in
      one_given x.outcome (λ m is. reaches_next ps at m (subst (IsOutcome ps at) is x.judged)) i j x.given (subst (λ o. IsGiven (Shown others) o j) one y.given)

  pub same_imports : (p q : PackageModel) → specs_of_trees (trees_of p.1) ≡ specs_of_trees (trees_of q.1) → (i j : InputModel) → IsInputOf ps parts n p i → IsInputOf qs others n q j → i.imports ≡ j.imports
  same_imports p q specs i j h k = two_imported (ComesTo ps parts) (ComesTo qs others) n one_come (trees_of p.1) (trees_of q.1) i.imports j.imports specs h.imports k.imports

  pub same_reached : (p q : PackageModel) (i j : InputModel) → IsInputOf ps parts n p i → IsInputOf qs others n q j → i.reached ≡ j.reached
  same_reached p q i j h k =
      let numbers : h.reached.numbers ≡ k.reached.numbers =
      one_rising h.reached.numbers k.reached.numbers h.reached.rising k.reached.rising
      (λ m. ((λ c. (k.reached.reached m).1 (to m ((h.reached.reached m).0 c))), (λ c. (h.reached.reached m).1 (back m ((k.reached.reached m).0 c))))) in
      let mine : AllZip (Tells parts) k.reached.numbers i.reached = subst (λ ns. AllZip (Tells parts) ns i.reached) numbers h.reached.told in
      two_zip (Tells parts) (Tells others) k.reached.numbers i.reached j.reached
      (λ m s t at x y. one_told m (back m ((k.reached.reached m).0 (among_to k.reached.numbers m at))) s t x y) mine k.reached.told
