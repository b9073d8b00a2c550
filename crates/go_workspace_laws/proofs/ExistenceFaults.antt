-- The faults of a workspace: gathered package by package and file by file, and put in order, whatever its files hold.
use Rattle.std.proofs.Common.{◌≡◌, ◌<◌, ◌⊎◌, inl, inr, ℕ, zero, suc, All, List, [], ◌∷◌, ◌++◌, length, map, Option, Some, None, Result, Ok, Err, refl, sym, ap, subst, ◌∙◌, arith}
use Rattle.std.specs.Prelude.{◌↔◌, AllPairs, Contains, slice_get}
use Rattle.std.specs.Ordering.{ordering_reverse}
use Rattle.std.specs.declared.cmp.Ordering.{Ordering}
use Rattle.std.specs.declared.cmp.Ordering.TheVariants.{Less, Equal, Greater}
use Rattle.std.proofs.lemmas.Bool.{cases_lt}
use Rattle.std.proofs.lemmas.List.Elements.{All-nil}
use Rattle.std.proofs.lemmas.List.Kept.{AllPairs-cons}
use Rattle.std.proofs.lemmas.Option.{get_or_from_slice_get, slice_get_within}
use Rattle.go_tree_nodes.specs.Trees.{FileTree}
use Rattle.go_graph_core.specs.declared.assembly.KFault.{KFault}
use Rattle.go_graph_core.specs.parse_core.declared.error.SynFault.{SynFault}
use Rattle.go_graph_core.specs.Packages.{IsAssembly, Trees}
use Rattle.go_graph_core.specs.Sources.{SourceModel}
use Rattle.go_graph_core.specs.Workspaces.{IsPackage, IsWorkspace, PackageModel}
use Rattle.go_graph_core.proofs.AssemblyLaws.{has_assembly, has_no_other_assembly}
use Rattle.go_names_core.specs.local_core.declared.Fault.{Fault}
use Rattle.go_body_core.specs.typexpr_core.EntryAmong.{Among, among_cases, among_from, among_left, among_map, among_right, among_to, map_among}
use Rattle.go_report_core.specs.Faults.{ComesBefore, fault_order}
use Rattle.go_report_core.proofs.Order.{before_onward, less_before, order_same, order_total}
use Rattle.go_emit_core.specs.package_core.PackagePartParts.{ContentOf, FileOf}
use Rattle.go_snap_core.specs.declared.fault.PlacedFault.{PlacedFault}
use Rattle.go_snap_core.specs.Faults.{AreFaults, ByOffset, ByRule, InFile, InPackage, IsOfAssembly, IsOfText, IsPlacedBefore, IsReportedOf, IsUnassembled, IsWorkspaceFault, here}
use Rattle.go_snap_core.specs.mirrors.Reports.{assembly_fault, fault_with, placed}
use Rattle.go_snap_core.proofs.WholeWorkspaceLists.{all_from_among, none_is_some, pairs_head, pairs_tail}

-- a list of exactly what has a property

record Listed {A : Type 0} (P : A → Type 0) : Type 0 where
  items : List A
  each : (x : A) → Among items x ↔ P x

nothing : {A : Type 0} (P : A → Type 0) → ((x : A) → P x → ⊥) → Listed P
nothing P never = record { items = []; each = λ x. ((λ h. absurd h), (λ p. absurd (never x p))) }

alone : {A : Type 0} (P : A → Type 0) (a : A) → P a → ((x : A) → P x → a ≡ x) → Listed P
alone P a is only = record { items = a ∷ []; each = λ x. ((λ h. elim h [ inl e ↦ subst P e is | inr none ↦ absurd none ]), (λ p. inl (only x p))) }

either : {A : Type 0} (P Q : A → Type 0) → Listed P → Listed Q → Listed (λ x. P x ⊎ Q x)
either P Q p q = record {
  items = p.items ++ q.items;
  each = λ x. (
    (λ h. elim (among_cases p.items q.items x h) [ inl a ↦ inl ((p.each x).0 a) | inr b ↦ inr ((q.each x).0 b) ]),
    (λ h. elim h [ inl a ↦ among_left p.items q.items x ((p.each x).1 a) | inr b ↦ among_right p.items q.items x ((q.each x).1 b) ]),
  );
}

alike : {A : Type 0} (P Q : A → Type 0) → ((x : A) → P x → Q x) → ((x : A) → Q x → P x) → Listed P → Listed Q
alike P Q to back p = record { items = p.items; each = λ x. ((λ h. to x ((p.each x).0 h)), (λ q. (p.each x).1 (back x q))) }

-- what has it with one of the items of a list, by the item's number
abbrev WithOne : {A B : Type 0} → (ℕ → B → A → Type 0) → List B → A → Type 0
WithOne {B = B} R xs a = (n : ℕ) × (x : B) × (slice_get xs n ≡ Some x) × R n x a

with_rest : {A B : Type 0} (R : ℕ → B → A → Type 0) (y : B) (xs : List B) (a : A) → R 0 y a ⊎ WithOne (λ n. R (suc n)) xs a → WithOne R (y ∷ xs) a
with_rest R y xs a (inl r) = (0, y, refl, r)
with_rest R y xs a (inr h) = (suc h.0, h.1, h.2, h.3)

first_or_rest : {A B : Type 0} (R : ℕ → B → A → Type 0) (y : B) (xs : List B) (a : A) (n : ℕ) (x : B) → slice_get (y ∷ xs) n ≡ Some x → R n x a → R 0 y a ⊎ WithOne (λ m. R (suc m)) xs a
first_or_rest R y xs a zero x at r =
    let same : y ≡ x = (let s : Some y ≡ Some x = at in cc) in
    inl (subst (λ z. R 0 z a) (sym same) r)
first_or_rest R y xs a (suc n) x at r = inr (n, x, at, r)

gathered : {A B : Type 0} (R : ℕ → B → A → Type 0) (xs : List B) → ((n : ℕ) (x : B) → slice_get xs n ≡ Some x → Listed (R n x)) → Listed (WithOne R xs)
gathered R [] f = nothing (WithOne R []) (λ a h. none_is_some h.2)
gathered R (y ∷ xs) f =
    alike (λ a. R 0 y a ⊎ WithOne (λ n. R (suc n)) xs a) (WithOne R (y ∷ xs)) (with_rest R y xs) (λ a h. first_or_rest R y xs a h.0 h.1 h.2 h.3)
    (either (R 0 y) (WithOne (λ n. R (suc n)) xs) (f 0 y refl) (gathered (λ n. R (suc n)) xs (λ n x at. f (suc n) x at)))

-- what is reported of a file

abbrev IsOfFile : ℕ → ℕ → FileOf → PlacedFault → Type 0
IsOfFile n k x f = (f.«package» ≡ n) × (f.file ≡ k) × Contains x.report (here f)

of_file : (n k : ℕ) (x : FileOf) → Listed (IsOfFile n k x)
of_file n k x = record {
  items = map (placed n k) x.report;
  each = λ f. (
    (λ h. (let m = among_map (placed n k) x.report f h in (sym (ap (λ (g : PlacedFault). g.«package») m.2), sym (ap (λ (g : PlacedFault). g.file) m.2), among_to x.report (here f) (subst (Among x.report) (ap here m.2) m.1)))),
    (λ h. map_among (placed n k) x.report f (here f) (among_from x.report (here f) h.2) (λ i. fault_with ((sym h.0) i) ((sym h.1) i) f.offset f.rule)),
  );
}

abbrev IsOfContent : ℕ → Option ContentOf → PlacedFault → Type 0
IsOfContent n o f = (c : ContentOf) × (o ≡ Some c) × WithOne (λ k x. IsOfFile n k x) c.files f

of_content : (n : ℕ) (o : Option ContentOf) → Listed (IsOfContent n o)
of_content n None = nothing (IsOfContent n None) (λ f h. none_is_some h.1)
of_content n (Some c) =
    alike (WithOne (λ k x. IsOfFile n k x) c.files) (IsOfContent n (Some c)) (λ f h. (c, refl, h))
    (λ f h. (let same : h.0 ≡ c = (let s : Some c ≡ Some h.0 = h.1 in cc) in subst (λ (d : ContentOf). WithOne (λ k x. IsOfFile n k x) d.files f) same h.2))
    (gathered (λ k x. IsOfFile n k x) c.files (λ k x at. of_file n k x))

reported : (cs : List (Option ContentOf)) → Listed (IsReportedOf cs)
reported cs = alike (WithOne IsOfContent cs) (IsReportedOf cs) to back (gathered IsOfContent cs (λ n o at. of_content n o))
  where
    to : (f : PlacedFault) → WithOne IsOfContent cs f → IsReportedOf cs f
    to f (n, o, at, (c, is, (k, x, there, (number, file, report)))) = record {
      content = c;
      there = subst (λ m. slice_get cs m ≡ Some (Some c)) (sym number) (at ∙ ap Some is);
      file = x;
      in_package = subst (λ m. slice_get c.files m ≡ Some x) (sym file) there;
      reported = report;
    }

    back : (f : PlacedFault) → IsReportedOf cs f → WithOne IsOfContent cs f
    back f h = (f.«package», Some h.content, h.there, (h.content, refl, (f.file, h.file, h.in_package, (refl, refl, h.reported))))

-- of a package that is not assembled

abbrev IsOfRule : ℕ → PackageModel → PlacedFault → Type 0
IsOfRule n p f = (f.«package» ≡ n) × IsOfAssembly p f

of_assembly : (n : ℕ) (p : PackageModel) (a : Result Trees KFault) → IsAssembly p.1 a → Listed (IsOfRule n p)
of_assembly n p (Ok trees) is =
    nothing (IsOfRule n p) (λ f h. (let no : Ok trees ≡ Err h.1.fault = has_no_other_assembly p.1 (Ok trees) (Err h.1.fault) is h.1.assembly in cc))
of_assembly n p (Err fault) is =
    alone (IsOfRule n p) (assembly_fault n fault) (refl, record { fault = fault; assembly = is; rule = refl; file = refl; offset = refl })
    (λ f h. (let same : fault ≡ h.1.fault = (let e : Err fault ≡ Err h.1.fault = has_no_other_assembly p.1 (Err fault) (Err h.1.fault) is h.1.assembly in cc) in
    λ i. fault_with ((sym h.0) i) ((ap (λ (x : KFault). x.file) same ∙ sym h.1.file) i) ((ap (λ (x : KFault). x.offset) same ∙ sym h.1.offset) i) ((ap (λ (x : KFault). x.rule) same ∙ sym h.1.rule) i)))

abbrev IsOfContentOf : ℕ → ℕ → SourceModel → PlacedFault → Type 0
IsOfContentOf n k s f = (f.«package» ≡ n) × (f.file ≡ k) × ((fault : SynFault) × (s.content ≡ Err fault) × (f.rule ≡ fault.rule) × (f.offset ≡ fault.offset))

of_source : (n k : ℕ) (s : SourceModel) (r : Result FileTree SynFault) → s.content ≡ r → Listed (IsOfContentOf n k s)
of_source n k s (Ok t) is = nothing (IsOfContentOf n k s) (λ f h. (let no : Ok t ≡ Err h.2.0 = sym is ∙ h.2.1 in cc))
of_source n k s (Err fault) is =
    alone (IsOfContentOf n k s) (fault_with n k fault.offset fault.rule) (refl, refl, (fault, is, refl, refl))
    (λ f h. (let same : fault ≡ h.2.0 = (let e : Err fault ≡ Err h.2.0 = sym is ∙ h.2.1 in cc) in
    λ i. fault_with ((sym h.0) i) ((sym h.1) i) ((ap (λ (x : SynFault). x.offset) same ∙ sym h.2.3) i) ((ap (λ (x : SynFault). x.rule) same ∙ sym h.2.2) i)))

abbrev IsOfTexts : ℕ → PackageModel → PlacedFault → Type 0
IsOfTexts n p f = (f.«package» ≡ n) × IsOfText p f

of_texts : (n : ℕ) (p : PackageModel) → Listed (IsOfTexts n p)
of_texts n p = alike (WithOne (λ k s. IsOfContentOf n k s) p.1) (IsOfTexts n p) to back (gathered (λ k s. IsOfContentOf n k s) p.1 (λ k s at. of_source n k s s.content refl))
  where
    to : (f : PlacedFault) → WithOne (λ k s. IsOfContentOf n k s) p.1 f → IsOfTexts n p f
    to f (k, s, at, (number, file, (fault, content, rule, offset))) = (number, record { source = s; in_package = subst (λ m. slice_get p.1 m ≡ Some s) (sym file) at; fault = fault; content = content; rule = rule; offset = offset })

    back : (f : PlacedFault) → IsOfTexts n p f → WithOne (λ k s. IsOfContentOf n k s) p.1 f
    back f (number, h) = (f.file, h.source, h.in_package, (number, refl, (h.fault, h.content, h.rule, h.offset)))

module _ (ps : List PackageModel) (cs : List (Option ContentOf)) (well : IsWorkspace ps) where
  some_file : (n : ℕ) (p : PackageModel) → slice_get ps n ≡ Some p → 0 < length p.1
  some_file n p at = (subst IsPackage (get_or_from_slice_get ps n p p at) (well.packages n p (slice_get_within ps n p at))).some

  abbrev IsLeftOut : ℕ → PackageModel → PlacedFault → Type 0
  IsLeftOut n p f = (slice_get cs n ≡ Some None) × (IsOfRule n p f ⊎ IsOfTexts n p f)

  left_out : (n : ℕ) (p : PackageModel) → slice_get ps n ≡ Some p → (o : Option (Option ContentOf)) → slice_get cs n ≡ o → Listed (IsLeftOut n p)
  left_out n p at None is = nothing (IsLeftOut n p) (λ f h. none_is_some (sym is ∙ h.0))
  left_out n p at (Some (Some c)) is = nothing (IsLeftOut n p) (λ f h. (let e : Some None ≡ Some (Some c) = sym h.0 ∙ is in let no : None ≡ Some c = cc in none_is_some no))
  left_out n p at (Some None) is =
      let answer = has_assembly p.1 (some_file n p at) in
      alike (λ f. IsOfRule n p f ⊎ IsOfTexts n p f) (IsLeftOut n p) (λ f h. (is, h)) (λ f h. h.1) (either (IsOfRule n p) (IsOfTexts n p) (of_assembly n p answer.0 answer.1) (of_texts n p))

  unassembled : Listed (IsUnassembled ps cs)
  unassembled = alike (WithOne IsLeftOut ps) (IsUnassembled ps cs) to back (gathered IsLeftOut ps (λ n p at. left_out n p at (slice_get cs n) refl))
    where
      made : (f : PlacedFault) (n : ℕ) (p : PackageModel) → slice_get ps n ≡ Some p → slice_get cs n ≡ Some None → f.«package» ≡ n → IsOfAssembly p f ⊎ IsOfText p f → IsUnassembled ps cs f
      made f n p at none number why =
          record { source = p; there = subst (λ m. slice_get ps m ≡ Some p) (sym number) at; none = subst (λ m. slice_get cs m ≡ Some None) (sym number) none; why = why }

      to : (f : PlacedFault) → WithOne IsLeftOut ps f → IsUnassembled ps cs f
      to f (n, p, at, (none, inl h)) = made f n p at none h.0 (inl h.1)
      to f (n, p, at, (none, inr h)) = made f n p at none h.0 (inr h.1)

      why_of : (f : PlacedFault) (p : PackageModel) → IsOfAssembly p f ⊎ IsOfText p f → IsOfRule f.«package» p f ⊎ IsOfTexts f.«package» p f
      why_of f p (inl h) = inl (refl, h)
      why_of f p (inr h) = inr (refl, h)

      back : (f : PlacedFault) → IsUnassembled ps cs f → WithOne IsLeftOut ps f
      back f h = (f.«package», h.source, h.there, (h.none, why_of f h.source h.why))

  each_fault : Listed (IsWorkspaceFault ps cs)
  each_fault = either (IsReportedOf cs) (IsUnassembled ps cs) (reported cs) unassembled

-- lists in an order

module _ {A : Type 0} (R : A → A → Type 0) (compare : (x y : A) → R x y ⊎ ((x ≡ y) ⊎ R y x)) (onward : (x y z : A) → R x y → R y z → R x z) where
  record InOrder (xs : List A) : Type 0 where
    items : List A
    ordered : AllPairs R items
    each : (x : A) → Among items x ↔ Among xs x

  put : (x : A) (ys : List A) → AllPairs R ys → InOrder (x ∷ ys)
  put x [] h = record { items = x ∷ []; ordered = AllPairs-cons R x [] (All-nil (R x)) h; each = λ z. ((λ a. a), (λ a. a)) }
  put x (y ∷ ys) h = by (put x ys (pairs_tail R y ys h)) (compare x y)
    where
      behind_first : R x y → (z : A) → Among (y ∷ ys) z → R x z
      behind_first r z (inl e) = subst (R x) e r
      behind_first r z (inr a) = onward x y z r (pairs_head R y ys h z a)

      behind_second : R y x → (z : A) → Among (x ∷ ys) z → R y z
      behind_second r z (inl e) = subst (R y) e r
      behind_second r z (inr a) = pairs_head R y ys h z a

      by : InOrder (x ∷ ys) → R x y ⊎ ((x ≡ y) ⊎ R y x) → InOrder (x ∷ (y ∷ ys))
      by behind (inl r) = record { items = x ∷ (y ∷ ys); ordered = AllPairs-cons R x (y ∷ ys) (all_from_among (R x) (y ∷ ys) (behind_first r)) h; each = λ z. ((λ a. a), (λ a. a)) }
      by behind (inr (inl same)) = record { items = y ∷ ys; ordered = h; each = λ z. ((λ a. inr a), (λ a. elim a [ inl e ↦ inl (sym same ∙ e) | inr b ↦ b ])) }
      by behind (inr (inr r)) = record {
        items = y ∷ behind.items;
        ordered = AllPairs-cons R y behind.items (all_from_among (R y) behind.items (λ z a. behind_second r z ((behind.each z).0 a))) behind.ordered;
        each = λ z. (
          (λ a. elim a [ inl e ↦ inr (inl e) | inr b ↦ elim ((behind.each z).0 b) [ inl e ↦ inl e | inr c ↦ inr (inr c) ] ]),
          (λ a. elim a [ inl e ↦ inr ((behind.each z).1 (inl e)) | inr b ↦ elim b [ inl e ↦ inl e | inr c ↦ inr ((behind.each z).1 (inr c)) ] ]),
        );
      }

  in_order : (xs : List A) → InOrder xs
  in_order [] = record { items = []; ordered = λ i j d lt below. absurd (omega (arith, below)); each = λ z. ((λ a. a), (λ a. a)) }
  in_order (x ∷ xs) =
      let behind = in_order xs in
      let all = put x behind.items behind.ordered in
      record {
        items = all.items;
        ordered = all.ordered;
        each = λ z. (
          (λ a. elim ((all.each z).0 a) [ inl e ↦ inl e | inr b ↦ inr ((behind.each z).0 b) ]),
          (λ a. (all.each z).1 (elim a [ inl e ↦ inl e | inr b ↦ inr ((behind.each z).1 b) ])),
        );
      }

-- of two faults the one stands before the other, or they are the same

abbrev StandsBefore : PlacedFault → PlacedFault → Type 0
StandsBefore f g = (f.«package» < g.«package») ⊎ ((f.«package» ≡ g.«package») × ((f.file < g.file) ⊎ ((f.file ≡ g.file) × ComesBefore (here f) (here g))))

stands : (f g : PlacedFault) → IsPlacedBefore f g → StandsBefore f g
stands f g (InPackage a) = inl a
stands f g (InFile p a) = inr (p, inl a)
stands f g (ByOffset p q a) = inr (p, inr (q, inl a))
stands f g (ByRule p q r a) = inr (p, inr (q, inr (r, a)))

is_before : (f g : PlacedFault) → StandsBefore f g → IsPlacedBefore f g
is_before f g (inl a) = InPackage a
is_before f g (inr (p, inl a)) = InFile p a
is_before f g (inr (p, inr (q, inl a))) = ByOffset p q a
is_before f g (inr (p, inr (q, inr (r, a)))) = ByRule p q r a

before_all : (f g h : PlacedFault) → StandsBefore f g → StandsBefore g h → StandsBefore f h
before_all f g h (inl a) (inl b) = inl (omega (arith, a, b))
before_all f g h (inl a) (inr (q, b)) = inl (omega (arith, a, q))
before_all f g h (inr (p, a)) (inl b) = inl (omega (arith, p, b))
before_all f g h (inr (p, inl a)) (inr (q, inl b)) = inr (p ∙ q, inl (omega (arith, a, b)))
before_all f g h (inr (p, inl a)) (inr (q, inr (d, b))) = inr (p ∙ q, inl (omega (arith, a, d)))
before_all f g h (inr (p, inr (e, a))) (inr (q, inl b)) = inr (p ∙ q, inl (omega (arith, e, b)))
before_all f g h (inr (p, inr (e, a))) (inr (q, inr (d, b))) = inr (p ∙ q, inr (e ∙ d, before_onward (here f) (here g) (here h) a b))

onward_all : (f g h : PlacedFault) → IsPlacedBefore f g → IsPlacedBefore g h → IsPlacedBefore f h
onward_all f g h a b = is_before f h (before_all f g h (stands f g a) (stands g h b))

abbrev Compared : PlacedFault → PlacedFault → Type 0
Compared f g = IsPlacedBefore f g ⊎ ((f ≡ g) ⊎ IsPlacedBefore g f)

in_file : (f g : PlacedFault) → f.«package» ≡ g.«package» → f.file ≡ g.file → (o : Ordering) → fault_order (here f) (here g) ≡ o → Compared f g
in_file f g p q Less e = inl (is_before f g (inr (p, inr (q, less_before (here f) (here g) e))))
in_file f g p q Equal e =
    let same : here f ≡ here g = order_same (here f) (here g) e in
    inr (inl (λ i. fault_with (p i) (q i) ((ap (λ (x : Fault). x.offset) same) i) ((ap (λ (x : Fault). x.rule) same) i)))
in_file f g p q Greater e =
    let less : fault_order (here g) (here f) ≡ Less = order_total.antisymm (here g) (here f) ∙ ap ordering_reverse e in
    inr (inr (is_before g f (inr (sym p, inr (sym q, less_before (here g) (here f) less)))))

in_package : (f g : PlacedFault) → f.«package» ≡ g.«package» → Compared f g
in_package f g p = elim (cases_lt f.file g.file) [
  | inl lt ↦ inl (InFile p lt)
  | inr ge ↦ elim (cases_lt g.file f.file) [
    | inl lt ↦ inr (inr (InFile (sym p) lt))
    | inr le ↦ (let q : f.file ≡ g.file = omega (arith, ge, le) in in_file f g p q (fault_order (here f) (here g)) refl)
  ]
]

compared : (f g : PlacedFault) → Compared f g
compared f g = elim (cases_lt f.«package» g.«package») [
  | inl lt ↦ inl (InPackage lt)
  | inr ge ↦ elim (cases_lt g.«package» f.«package») [
    | inl lt ↦ inr (inr (InPackage lt))
    | inr le ↦ (let p : f.«package» ≡ g.«package» = omega (arith, ge, le) in in_package f g p)
  ]
]

-- the faults of a workspace, by what its packages have

pub all_faults : (ps : List PackageModel) (cs : List (Option ContentOf)) → IsWorkspace ps → (faults : List PlacedFault) × AreFaults ps cs faults
all_faults ps cs well =
    let listed = each_fault ps cs well in
    let all = in_order IsPlacedBefore compared onward_all listed.items in (
      all.items,
      record { ordered = all.ordered; same = λ f. ((λ c. (listed.each f).0 ((all.each f).0 (among_from all.items f c))), (λ h. among_to all.items f ((all.each f).1 ((listed.each f).1 h)))) },
    )
