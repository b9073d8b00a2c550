-- The faults of a workspace, package by package, are exactly its faults, in order.
use Rattle.std.proofs.Common.{◌≡◌, ◌≢◌, ℕ, zero, suc, ◌+◌, ◌<◌, ◌≤◌, ◌⊎◌, inl, inr, Bool, true, false, ◌==◌, List, [], ◌∷◌, ◌++◌, length, map, drop, All, Option, Some, None, refl, sym, ap, subst, ◌∙◌, arith}
use Rattle.std.specs.Prelude.{slice_get, AllPairs, Contains, Result, Ok, Err}
use Rattle.std.specs.Str.{chars}
use Rattle.std.specs.declared.cmp.Ordering.TheVariants.{Less}
use Rattle.std.proofs.lemmas.Bool.{cases_lt, cases_eq}
use Rattle.std.proofs.lemmas.List.{length-map}
use Rattle.std.proofs.lemmas.List.Kept.{AllPairs-cons}
use Rattle.std.proofs.lemmas.Option.{slice_get_within, get_or_from_slice_get}
use Rattle.go_path_core.specs.text_core.declared.rule.Rule.{Rule}
use Rattle.go_path_core.specs.text_core.declared.rule.Rule.TheVariants.{L1, L2, L3, P1, P2, K4}
use Rattle.go_tree_nodes.specs.token_core.declared.token.LexFault.{LexFault}
use Rattle.go_tree_nodes.specs.token_core.Characters.{first_passes}
use Rattle.go_scan_core.specs.Parts.{TextPart, width}
use Rattle.go_scan_core.specs.Tokens.{AreTextParts, IsAnswer}
use Rattle.go_scan_core.specs.Tokens as lexemes
use Rattle.go_tree_nodes.specs.Trees.{FileTree}
use Rattle.go_graph_core.specs.parse_core.declared.error.SynFault.{SynFault}
use Rattle.go_graph_core.specs.parse_core.Correct.{IsSynFault}
use Rattle.go_graph_core.specs.declared.assembly.KFault.{KFault}
use Rattle.go_graph_core.specs.Packages.{AllHaveTrees, HasNoClause, IsAssembly, IsK4}
use Rattle.go_graph_core.specs.Sources.{SourceModel, IsContent, IsRead, clause_in}
use Rattle.go_graph_core.specs.Workspaces.{PackageModel}
use Rattle.go_graph_core.proofs.AssemblyLaws.{has_no_other_assembly}
use Rattle.go_names_core.specs.local_core.declared.Fault.{Fault}
use Rattle.go_report_core.specs.Faults.{number_order}
use Rattle.go_report_core.specs.Faults as report
use Rattle.go_body_core.specs.typexpr_core.EntryAmong.{Among, among_cases, among_from, among_left, among_map, among_right, among_to, map_among}
use Rattle.go_emit_core.specs.package_core.PackagePartParts.{ContentOf, FileOf}
use Rattle.go_snap_core.specs.declared.fault.PlacedFault.{PlacedFault}
use Rattle.go_snap_core.specs.Faults.{AreFaults, IsPlacedBefore, InPackage, InFile, ByOffset, ByRule, IsWorkspaceFault, IsOfAssembly, IsOfText, IsReportedOf, IsUnassembled, here}
use Rattle.go_snap_core.specs.mirrors.Reports.{AreFaultsTo, AreOfPackage, AreUnassembled, assembly_fault, fault_with, part_faults, placed, text_fault, text_faults}
use Rattle.go_snap_core.proofs.WholeWorkspaceLists.{all_from_among, none_is_some, one_at, pairs_head, pairs_tail}

-- lists in order

pairs_map : {A B : Type 0} (R : A → A → Type 0) (S : B → B → Type 0) (f : A → B) (xs : List A) → ((x y : A) → R x y → S (f x) (f y)) → AllPairs R xs → AllPairs S (map f xs)
pairs_map R S f [] g h = λ i j d lt below. absurd (omega (arith, below))
pairs_map R S f (x ∷ xs) g h =
    AllPairs-cons S (f x) (map f xs)
    (all_from_among (S (f x)) (map f xs) (λ y at. (let m = among_map f xs y at in subst (S (f x)) m.2 (g x m.0 (pairs_head R x xs h m.0 m.1)))))
    (pairs_map R S f xs g (pairs_tail R x xs h))

pairs_append : {A : Type 0} (R : A → A → Type 0) (xs ys : List A) → AllPairs R xs → AllPairs R ys → ((x y : A) → Among xs x → Among ys y → R x y) → AllPairs R (xs ++ ys)
pairs_append {A} R [] ys h k f = k
pairs_append {A} R (x ∷ xs) ys h k f =
    AllPairs-cons R x (xs ++ ys)
    (all_from_among (R x) (xs ++ ys) (λ y at. both y (among_cases xs ys y at)))
    (pairs_append R xs ys (pairs_tail R x xs h) k (λ a b i j. f a b (inr i) j))
  where
    both : (y : A) → Among xs y ⊎ Among ys y → R x y
    both y (inl a) = pairs_head R x xs h y a
    both y (inr b) = f x y (inl refl) b

-- what is reported of files

reported_before : (number file : ℕ) (f g : Fault) → report.ComesBefore f g → IsPlacedBefore (placed number file f) (placed number file g)
reported_before number file f g (inl lt) = ByOffset refl refl lt
reported_before number file f g (inr h) = ByRule refl refl h.0 h.1

pub record IsOfFile (number k : ℕ) (fs : List FileOf) (f : PlacedFault) : Type 0 where
  pub place : ℕ
  pub file : FileOf
  pub there : slice_get fs place ≡ Some file
  pub at : f.file ≡ k + place
  pub of_package : f.«package» ≡ number
  pub reported : Among file.report (here f)

part_has : (number k : ℕ) (fs : List FileOf) (f : PlacedFault) → Among (part_faults number k fs) f → IsOfFile number k fs f
part_has number k [] f h = absurd h
part_has number k (x ∷ fs) f h = by (among_cases (map (placed number k) x.report) (part_faults number (suc k) fs) f h) (λ a. part_has number (suc k) fs f a)
  where
    by : Among (map (placed number k) x.report) f ⊎ Among (part_faults number (suc k) fs) f → (Among (part_faults number (suc k) fs) f → IsOfFile number (suc k) fs f) → IsOfFile number k (x ∷ fs) f
    by (inl a) rest =
        let m = among_map (placed number k) x.report f a in
        let file : k ≡ f.file = ap (λ (g : PlacedFault). g.file) m.2 in
        record { place = 0; file = x; there = refl; at = omega (arith, file); of_package = sym (ap (λ (g : PlacedFault). g.«package») m.2); reported = subst (Among x.report) (ap here m.2) m.1 }
    by (inr a) rest = (let r = rest a in let at = r.at in record { place = suc r.place; file = r.file; there = r.there; at = omega (arith, at); of_package = r.of_package; reported = r.reported })

same_fault : (f g : PlacedFault) → f.«package» ≡ g.«package» → f.file ≡ g.file → f.offset ≡ g.offset → f.rule ≡ g.rule → f ≡ g
same_fault f g a b c d =
    ap (λ n. fault_with n f.file f.offset f.rule) a ∙ (ap (λ n. fault_with g.«package» n f.offset f.rule) b ∙ (ap (λ n. fault_with g.«package» g.file n f.rule) c ∙ ap (λ r. fault_with g.«package» g.file g.offset r) d))

part_to : (number k : ℕ) (fs : List FileOf) (f : PlacedFault) → IsOfFile number k fs f → Among (part_faults number k fs) f
part_to number k [] f h = absurd (none_is_some h.there)
part_to number k (x ∷ fs) f h = by h.place h.there h.at (λ r. part_to number (suc k) fs f r)
  where
    by : (place : ℕ) → slice_get (x ∷ fs) place ≡ Some h.file → f.file ≡ k + place → (IsOfFile number (suc k) fs f → Among (part_faults number (suc k) fs) f) → Among (part_faults number k (x ∷ fs)) f
    by zero there at rest =
        let e : x ≡ h.file = (let s : Some x ≡ Some h.file = there in cc) in
        let file : k ≡ f.file = omega (arith, at) in
        among_left (map (placed number k) x.report) (part_faults number (suc k) fs) f
        (map_among (placed number k) x.report f (here f) (subst (λ (y : FileOf). Among y.report (here f)) (sym e) h.reported) (same_fault (placed number k (here f)) f (sym h.of_package) file refl refl))
    by (suc place) there at rest =
        among_right (map (placed number k) x.report) (part_faults number (suc k) fs) f (rest (record { place = place; file = h.file; there = there; at = omega (arith, at); of_package = h.of_package; reported = h.reported }))

part_ordered : (number k : ℕ) (fs : List FileOf) → ((i : ℕ) (x : FileOf) → slice_get fs i ≡ Some x → AllPairs report.ComesBefore x.report) → AllPairs IsPlacedBefore (part_faults number k fs)
part_ordered number k [] h = λ i j d lt below. absurd (omega (arith, below))
part_ordered number k (x ∷ fs) h =
    pairs_append IsPlacedBefore (map (placed number k) x.report) (part_faults number (suc k) fs)
    (pairs_map report.ComesBefore IsPlacedBefore (placed number k) x.report (λ f g b. reported_before number k f g b) (h 0 x refl))
    (part_ordered number (suc k) fs (λ i y at. h (suc i) y at))
    (λ f g a b. (let m = among_map (placed number k) x.report f a in
    let r = part_has number (suc k) fs g b in
    let file : k ≡ f.file = ap (λ (y : PlacedFault). y.file) m.2 in
    let at = r.at in
    InFile (sym (ap (λ (y : PlacedFault). y.«package») m.2) ∙ sym r.of_package) (omega (arith, file, at))))

-- why files have no tree

pub record IsOfSource (number k : ℕ) (ss : List SourceModel) (f : PlacedFault) : Type 0 where
  pub place : ℕ
  pub source : SourceModel
  pub there : slice_get ss place ≡ Some source
  pub fault : SynFault
  pub content : source.content ≡ Err fault
  pub at : f.file ≡ k + place
  pub of_package : f.«package» ≡ number
  pub offset : f.offset ≡ fault.offset
  pub rule : f.rule ≡ fault.rule

one_text : (number k : ℕ) (r : Result FileTree SynFault) (f : PlacedFault) → Among (text_fault number k r) f → (e : SynFault) × (r ≡ Err e) × (f.file ≡ k) × (f.«package» ≡ number) × (f.offset ≡ e.offset) × (f.rule ≡ e.rule)
one_text number k (Ok t) f h = absurd h
one_text number k (Err e) f (inr h) = absurd h
one_text number k (Err e) f (inl h) = (e, refl, sym (ap (λ (g : PlacedFault). g.file) h), sym (ap (λ (g : PlacedFault). g.«package») h), sym (ap (λ (g : PlacedFault). g.offset) h), sym (ap (λ (g : PlacedFault). g.rule) h))

text_has : (number k : ℕ) (ss : List SourceModel) (f : PlacedFault) → Among (text_faults number k ss) f → IsOfSource number k ss f
text_has number k [] f h = absurd h
text_has number k (s ∷ ss) f h = by (among_cases (text_fault number k s.content) (text_faults number (suc k) ss) f h) (λ a. text_has number (suc k) ss f a)
  where
    by : Among (text_fault number k s.content) f ⊎ Among (text_faults number (suc k) ss) f → (Among (text_faults number (suc k) ss) f → IsOfSource number (suc k) ss f) → IsOfSource number k (s ∷ ss) f
    by (inl a) rest = (let t = one_text number k s.content f a in let file = t.2 in record { place = 0; source = s; there = refl; fault = t.0; content = t.1; at = omega (arith, file); of_package = t.3; offset = t.4; rule = t.5 })
    by (inr a) rest = (let r = rest a in let at = r.at in record { place = suc r.place; source = r.source; there = r.there; fault = r.fault; content = r.content; at = omega (arith, at); of_package = r.of_package; offset = r.offset; rule = r.rule })

text_to : (number k : ℕ) (ss : List SourceModel) (f : PlacedFault) → IsOfSource number k ss f → Among (text_faults number k ss) f
text_to number k [] f h = absurd (none_is_some h.there)
text_to number k (s ∷ ss) f h = by h.place h.there h.at (λ r. text_to number (suc k) ss f r)
  where
    by : (place : ℕ) → slice_get (s ∷ ss) place ≡ Some h.source → f.file ≡ k + place → (IsOfSource number (suc k) ss f → Among (text_faults number (suc k) ss) f) → Among (text_faults number k (s ∷ ss)) f
    by zero there at rest =
        let e : s ≡ h.source = (let o : Some s ≡ Some h.source = there in cc) in
        let file : k ≡ f.file = omega (arith, at) in
        let one : Among (text_fault number k (Err h.fault)) f = inl (same_fault (fault_with number k h.fault.offset h.fault.rule) f (sym h.of_package) file (sym h.offset) (sym h.rule)) in
        among_left (text_fault number k s.content) (text_faults number (suc k) ss) f (subst (λ r. Among (text_fault number k r) f) (sym (ap (λ (x : SourceModel). x.content) e ∙ h.content)) one)
    by (suc place) there at rest =
        among_right (text_fault number k s.content) (text_faults number (suc k) ss) f
        (rest (record { place = place; source = h.source; there = there; fault = h.fault; content = h.content; at = omega (arith, at); of_package = h.of_package; offset = h.offset; rule = h.rule }))

lone : (number k : ℕ) (r : Result FileTree SynFault) → AllPairs IsPlacedBefore (text_fault number k r)
lone number k (Ok t) = λ i j d lt below. absurd (omega (arith, below))
lone number k (Err e) = λ i j d lt below. absurd (omega (arith, lt, below))

text_ordered : (number k : ℕ) (ss : List SourceModel) → AllPairs IsPlacedBefore (text_faults number k ss)
text_ordered number k [] = λ i j d lt below. absurd (omega (arith, below))
text_ordered number k (s ∷ ss) =
    pairs_append IsPlacedBefore (text_fault number k s.content) (text_faults number (suc k) ss) (lone number k s.content) (text_ordered number (suc k) ss)
    (λ f g a b. (let t = one_text number k s.content f a in
    let r = text_has number (suc k) ss g b in
    let file = t.2 in
    let at = r.at in
    InFile (t.3 ∙ sym r.of_package) (omega (arith, file, at))))

-- the rule of a text or of the grammar stands behind K4

abbrev IsTextRule : Rule → Type 0
IsTextRule r = (r ≡ L1) ⊎ ((r ≡ L2) ⊎ ((r ≡ L3) ⊎ ((r ≡ P1) ⊎ (r ≡ P2))))

k4_before : (r : Rule) → IsTextRule r → number_order K4 r ≡ Less
k4_before r (inl e) = ap (number_order K4) e
k4_before r (inr (inl e)) = ap (number_order K4) e
k4_before r (inr (inr (inl e))) = ap (number_order K4) e
k4_before r (inr (inr (inr (inl e)))) = ap (number_order K4) e
k4_before r (inr (inr (inr (inr e)))) = ap (number_order K4) e

of_fault : (rule : Rule) (before cs : List ℕ) → lexemes.IsFault rule before cs → IsTextRule rule
of_fault rule before cs (inl a) = inl a.0
of_fault rule before cs (inr (inl b)) = inr (inr (inl b.0))
of_fault rule before cs (inr (inr c)) = elim c.1.4 [
  | inl a ↦ inl a.0
  | inr r ↦ elim r [ inl b ↦ inr (inl b.0) | inr d ↦ inr (inr (inl d.0)) ]
]

of_parts : (parts : List TextPart) (cs : List ℕ) (start : ℕ) (fault : LexFault) → AreTextParts parts cs start (Some fault) → IsTextRule fault.rule
of_parts [] cs start fault h = of_fault fault.rule h.0 cs h.1
of_parts (p ∷ parts) cs start fault h = of_parts parts h.1 (start + width h.0) fault h.4

of_answer : (text : List ℕ) (fault : LexFault) → IsAnswer text (Err fault) → IsTextRule fault.rule
of_answer text fault h = by (first_passes (λ c. c == 65279) (chars text)) refl
  where
    by : (b : Bool) → first_passes (λ c. c == 65279) (chars text) ≡ b → IsTextRule fault.rule
    by true e = (let parts = h.0 e in of_parts parts.0 (drop 1 (chars text)) 3 fault parts.1)
    by false e = (let parts = h.1 e in of_parts parts.0 (chars text) 0 fault parts.1)

of_syntax : (text : List ℕ) (fault : SynFault) → IsSynFault text fault → IsTextRule fault.rule
of_syntax text fault (inl a) = of_answer text (record { rule = fault.rule; offset = fault.offset }) a
of_syntax text fault (inr t) = elim t.why [ inl p ↦ inr (inr (inr (inl p.0))) | inr q ↦ inr (inr (inr (inr q.0))) ]

rule_of : (s : SourceModel) (fault : SynFault) → IsRead s → s.content ≡ Err fault → IsTextRule fault.rule
rule_of s fault read e = of_syntax s.text fault (subst (IsContent s.text) e read).0

-- a package that is not assembled

pub read_at : (ss : List SourceModel) (i : ℕ) (s : SourceModel) → All IsRead ss → slice_get ss i ≡ Some s → IsRead s
read_at ss i s all at = subst IsRead (get_or_from_slice_get ss i s s at) (all i s (slice_get_within ss i s at))

no_clause : (s : SourceModel) (fault : SynFault) → s.content ≡ Err fault → HasNoClause s
no_clause s fault e = ap clause_in e

-- where each file has a tree no text has a fault
no_texts : (number k : ℕ) (ss : List SourceModel) → AllHaveTrees ss → (f : PlacedFault) → Among (text_faults number k ss) f → ⊥
no_texts number k ss all f h = (let r = text_has number k ss f h in subst (λ (s : SourceModel). HasNoClause s → ⊥) (get_or_from_slice_get ss r.place r.source r.source r.there) (all r.place r.source (slice_get_within ss r.place r.source r.there)) (no_clause r.source r.fault r.content))

first_stands : (number : ℕ) (ss : List SourceModel) (fault : KFault) → All IsRead ss → IsK4 ss fault → (g : PlacedFault) → Among (text_faults number 0 ss) g → IsPlacedBefore (assembly_fault number fault) g
first_stands number ss fault read k4 g h =
    let r = text_has number 0 ss g h in
    let at = r.at in
    elim (cases_lt r.place fault.file) [
      | inl lt ↦ absurd (k4.first.before r.place r.source lt r.there (no_clause r.source r.fault r.content))
      | inr ge ↦ elim (cases_lt fault.file r.place) [
        | inl lt ↦ InFile (sym r.of_package) (omega (arith, lt, at))
        | inr le ↦ (let same : fault.file ≡ g.file = omega (arith, ge, le, at) in elim (cases_lt 0 g.offset) [
          | inl lt ↦ ByOffset (sym r.of_package) same (let zero_at = k4.offset in omega (arith, lt, zero_at))
          | inr none ↦ ByRule (sym r.of_package) same (let zero_at = k4.offset in omega (arith, none, zero_at)) (subst (λ a. number_order a g.rule ≡ Less) (sym k4.rule) (subst (λ b. number_order K4 b ≡ Less) (sym r.rule) (k4_before r.fault.rule (rule_of r.source r.fault (read_at ss r.place r.source read r.there) r.content))))
        ])
      ]
    ]

stands : (number : ℕ) (ss : List SourceModel) (fault : KFault) → All IsRead ss → IsAssembly ss (Err fault) → (g : PlacedFault) → Among (text_faults number 0 ss) g → IsPlacedBefore (assembly_fault number fault) g
stands number ss fault read (inl k4) g h = first_stands number ss fault read k4 g h
stands number ss fault read (inr (inl k3)) g h = absurd (no_texts number 0 ss k3.trees g h)
stands number ss fault read (inr (inr k2)) g h = absurd (no_texts number 0 ss k2.trees g h)

-- one package

module _ (ps : List PackageModel) (cs : List (Option ContentOf)) (number : ℕ) (p : PackageModel) (at : slice_get ps number ≡ Some p) (read : All IsRead p.1) where
  pub record IsAll (more : List PlacedFault) : Type 0 where
    pub ordered : AllPairs IsPlacedBefore more
    pub here : (f : PlacedFault) → Among more f → (f.«package» ≡ number) × IsWorkspaceFault ps cs f
    pub all : (f : PlacedFault) → f.«package» ≡ number → IsWorkspaceFault ps cs f → Among more f

  unassembled : (more : List PlacedFault) → slice_get cs number ≡ Some None → AreUnassembled number p.1 more → IsAll more
  unassembled more none h = record {
    ordered =
        subst (AllPairs IsPlacedBefore) (sym h.is)
        (AllPairs-cons IsPlacedBefore (assembly_fault number h.fault) (text_faults number 0 p.1)
        (all_from_among (IsPlacedBefore (assembly_fault number h.fault)) (text_faults number 0 p.1) (λ g a. stands number p.1 h.fault read h.assembly g a)) (text_ordered number 0 p.1));
    here = λ f a. from f (subst (λ (l : List PlacedFault). Among l f) h.is a);
    all = λ f e fault. subst (λ (l : List PlacedFault). Among l f) (sym h.is) (to f e fault);
  }
    where
      from : (f : PlacedFault) → Among (assembly_fault number h.fault ∷ text_faults number 0 p.1) f → (f.«package» ≡ number) × IsWorkspaceFault ps cs f
      from f (inl e) =
          let on : f.«package» ≡ number = sym (ap (λ (g : PlacedFault). g.«package») e) in (
            on,
            inr (record {
              source = p;
              there = subst (λ n. slice_get ps n ≡ Some p) (sym on) at;
              none = subst (λ n. slice_get cs n ≡ Some None) (sym on) none;
              why = inl (record { fault = h.fault; assembly = h.assembly; rule = sym (ap (λ (g : PlacedFault). g.rule) e); file = sym (ap (λ (g : PlacedFault). g.file) e); offset = sym (ap (λ (g : PlacedFault). g.offset) e) });
            }),
          )
      from f (inr a) =
          let r = text_has number 0 p.1 f a in
          let file : r.place ≡ f.file = (let place = r.at in omega (arith, place)) in (
            r.of_package,
            inr (record {
              source = p;
              there = subst (λ n. slice_get ps n ≡ Some p) (sym r.of_package) at;
              none = subst (λ n. slice_get cs n ≡ Some None) (sym r.of_package) none;
              why = inr (record { source = r.source; in_package = subst (λ n. slice_get p.1 n ≡ Some r.source) file r.there; fault = r.fault; content = r.content; rule = r.rule; offset = r.offset });
            }),
          )

      of_none : (f : PlacedFault) → f.«package» ≡ number → (u : IsUnassembled ps cs f) → IsOfAssembly p f ⊎ IsOfText p f
      of_none f e u = subst (λ (q : PackageModel). IsOfAssembly q f ⊎ IsOfText q f) (one_at ps number u.source p (subst (λ n. slice_get ps n ≡ Some u.source) e u.there) at) u.why

      why : (f : PlacedFault) → f.«package» ≡ number → IsOfAssembly p f ⊎ IsOfText p f → Among (assembly_fault number h.fault ∷ text_faults number 0 p.1) f
      why f e (inl a) =
          let same : h.fault ≡ a.fault = (let k : Err h.fault ≡ Err a.fault = has_no_other_assembly p.1 (Err h.fault) (Err a.fault) h.assembly a.assembly in cc) in
          inl (same_fault (assembly_fault number h.fault) f (sym e) (ap (λ (x : KFault). x.file) same ∙ sym a.file) (ap (λ (x : KFault). x.offset) same ∙ sym a.offset) (ap (λ (x : KFault). x.rule) same ∙ sym a.rule))
      why f e (inr t) = inr (text_to number 0 p.1 f (record { place = f.file; source = t.source; there = t.in_package; fault = t.fault; content = t.content; at = omega arith; of_package = e; offset = t.offset; rule = t.rule }))

      to : (f : PlacedFault) → f.«package» ≡ number → IsWorkspaceFault ps cs f → Among (assembly_fault number h.fault ∷ text_faults number 0 p.1) f
      to f e (inl r) = absurd (let o : Some None ≡ Some (Some r.content) = sym none ∙ subst (λ n. slice_get cs n ≡ Some (Some r.content)) e r.there in let k : None ≡ Some r.content = cc in none_is_some k)
      to f e (inr u) = why f e (of_none f e u)

  assembled : (c : ContentOf) → slice_get cs number ≡ Some (Some c) → ((i : ℕ) (x : FileOf) → slice_get c.files i ≡ Some x → AllPairs report.ComesBefore x.report) → IsAll (part_faults number 0 c.files)
  assembled c there ordered = record {
    ordered = part_ordered number 0 c.files ordered;
    here = λ f a. (let r = part_has number 0 c.files f a in
        let file : r.place ≡ f.file = (let place = r.at in omega (arith, place)) in (
          r.of_package,
          inl (record {
            content = c;
            there = subst (λ n. slice_get cs n ≡ Some (Some c)) (sym r.of_package) there;
            file = r.file;
            in_package = subst (λ n. slice_get c.files n ≡ Some r.file) file r.there;
            reported = among_to r.file.report (here f) r.reported;
          }),
        ));
    all = to;
  }
    where
      of_part : (f : PlacedFault) → f.«package» ≡ number → (r : IsReportedOf cs f) → r.content ≡ c
      of_part f e r = (let o : Some r.content ≡ Some c = one_at cs number (Some r.content) (Some c) (subst (λ n. slice_get cs n ≡ Some (Some r.content)) e r.there) there in cc)

      to : (f : PlacedFault) → f.«package» ≡ number → IsWorkspaceFault ps cs f → Among (part_faults number 0 c.files) f
      to f e (inl r) =
          part_to number 0 c.files f
          (record { place = f.file; file = r.file; there = subst (λ (x : ContentOf). slice_get x.files f.file ≡ Some r.file) (of_part f e r) r.in_package; at = omega arith; of_package = e; reported = among_from r.file.report (here f) r.reported })
      to f e (inr u) = absurd (let o : Some None ≡ Some (Some c) = sym (subst (λ n. slice_get cs n ≡ Some None) e u.none) ∙ there in let k : None ≡ Some c = cc in none_is_some k)

  pub package_all : (o : Option ContentOf) (more : List PlacedFault) → slice_get cs number ≡ Some o → ((c : ContentOf) → o ≡ Some c → (i : ℕ) (x : FileOf) → slice_get c.files i ≡ Some x → AllPairs report.ComesBefore x.report) → AreOfPackage number p o more → IsAll more
  package_all None more is ordered h = unassembled more is h
  package_all (Some c) more is ordered h = subst IsAll (sym h) (assembled c is (ordered c refl))

  -- the faults of one package more
  pub one_more : (old more : List PlacedFault) → AreFaultsTo ps cs number old → IsAll more → AreFaultsTo ps cs (suc number) (old ++ more)
  one_more old more before h = record {
    ordered =
        pairs_append IsPlacedBefore old more before.ordered h.ordered
        (λ f g a b. (let low = ((before.same f).0 (among_to old f a)).0 in let on = (h.here g b).0 in InPackage (omega (arith, low, on))));
    same = λ f. (λ c. from f (among_cases old more f (among_from (old ++ more) f c)), λ c. among_to (old ++ more) f (to f c.0 c.1));
  }
    where
      from : (f : PlacedFault) → Among old f ⊎ Among more f → (f.«package» < suc number) × IsWorkspaceFault ps cs f
      from f (inl a) = (let b = (before.same f).0 (among_to old f a) in let low = b.0 in (omega (arith, low), b.1))
      from f (inr a) = (let b = h.here f a in let on = b.0 in (omega (arith, on), b.1))

      to : (f : PlacedFault) → f.«package» < suc number → IsWorkspaceFault ps cs f → Among (old ++ more) f
      to f low fault = elim (cases_lt f.«package» number) [
        | inl lt ↦ among_left old more f (among_from old f ((before.same f).1 (lt, fault)))
        | inr ge ↦ among_right old more f (h.all f (omega (arith, ge, low)) fault)
      ]

pub no_faults : (ps : List PackageModel) (cs : List (Option ContentOf)) → AreFaultsTo ps cs 0 []
no_faults ps cs = record { ordered = λ i j d lt below. absurd (omega (arith, below)); same = λ f. (λ c. absurd (omega (arith, c.1)), λ c. absurd (omega (arith, c.0))) }

within : (ps : List PackageModel) (cs : List (Option ContentOf)) (f : PlacedFault) → length cs ≡ length ps → IsWorkspaceFault ps cs f → f.«package» < length ps
within ps cs f same (inl r) = omega (arith, same, slice_get_within cs f.«package» (Some r.content) r.there)
within ps cs f same (inr u) = omega (arith, slice_get_within ps f.«package» u.source u.there)

pub all_faults : (ps : List PackageModel) (cs : List (Option ContentOf)) (faults : List PlacedFault) → length cs ≡ length ps → AreFaultsTo ps cs (length ps) faults → AreFaults ps cs faults
all_faults ps cs faults same h = record { ordered = h.ordered; same = λ f. (λ c. ((h.same f).0 c).1, λ fault. (h.same f).1 (within ps cs f same fault, fault)) }
