-- Which of the faults of a package's types are those of types and aliases that reach themselves.
use Rattle.std.proofs.Common.{◌≡◌, ℕ, zero, suc, ◌+◌, inl, inr, Bool, true, false, not, ◌&&◌, ◌||◌, List, [], ◌∷◌, ◌++◌, Option, Some, None, is_some, refl, sym, ap, subst, ◌∙◌, arith}
use Rattle.std.specs.Prelude.{slice_get, if◌then◌else◌}
use Rattle.std.specs.List.{AllByRecursion, flat_map, enumerate_from}
use Rattle.std.specs.Str.{bytes_eq}
use Rattle.go_path_core.specs.text_core.Text.{is_blank}
use Rattle.go_path_core.specs.text_core.declared.rule.Rule.{Rule}
use Rattle.go_path_core.specs.text_core.declared.rule.Rule.TheVariants.{B5, B6, Y1, Y2}
use Rattle.go_tree_nodes.specs.declared.files.Receiver.{Receiver}
use Rattle.go_tree_nodes.specs.declared.types.TypeName.{TypeName}
use Rattle.go_tree_nodes.specs.Starts.{type_name_start}
use Rattle.go_term_core.specs.decl_core.declared.keys.DeclKey.{DeclKey}
use Rattle.go_term_core.specs.decl_core.declared.keys.DeclRef.{DeclRef}
use Rattle.go_term_core.specs.decl_core.TopDecls.{TopDeclTree, FormTree, ValueForm, TypeForm, FuncForm}
use Rattle.go_term_core.specs.declared.term.MemberPlace.{MemberPlace}
use Rattle.go_term_core.specs.declared.term.MemberPlace.TheVariants as places
use Rattle.go_term_core.specs.Terms.{Term, NoType, Predeclared, ErrorType, Defined, PointerTo, StructOf, InterfaceOf, Fields, NoField, AField, Methods, NoMethod, AMethod, Sign, SignOf, Terms, NoTerm, ATerm, is_no_type}
use Rattle.go_summary_core.specs.typexpr_core.AliasesAliases.{alias_in}
use Rattle.go_summary_core.specs.typexpr_core.AliasesLaws.{looped_aliases}
use Rattle.go_summary_core.specs.table_core.Entries.{Entry, Member, kinds_in}
use Rattle.go_term_core.specs.declared.settling.kind.Kind.{Kind}
use Rattle.go_term_core.specs.settling.Settled.{can_be_embedded, is_among_names, repeats_earlier}
use Rattle.go_select_core.specs.type_core.declared.build.TypeFault.{TypeFault}
use Rattle.go_select_core.specs.type_core.Built.{looped_faults}
use Rattle.go_select_core.specs.embed_core.declared.faults.MemberFault.{MemberFault}
use Rattle.go_select_core.specs.embed_core.Faults.{declared_faults, fields_faults, first_place, hidden_faults, is_shared, member_fault_if, methods_faults, named_faults, own_names, sign_faults, term_faults, terms_faults}
use Rattle.go_summary_core.specs.typexpr_core.WrittenWritten.{Meaning}
use Rattle.go_summary_core.specs.typexpr_core.EntryEntries.{Meanings}
use Rattle.go_summary_core.specs.typexpr_core.EntryOutlines.{FileOutline}
use Rattle.go_report_core.specs.declared.type_faults.places.PackageFault.{PackageFault}
use Rattle.go_report_core.specs.type_faults.Places.{all_located, fault_in, file_place_of, located, package_fault_at}
use Rattle.go_report_core.specs.type_faults.TypeFaults.{alias_faults, entries_faults, entry_faults, file_receivers, form_fault, is_base, loops_faults, met_in, received_fault, receivers_faults, type_base_fault, type_loop_fault}

abbrev pub located_if : Bool → List FileOutline → DeclKey → List PackageFault
located_if b os k = if b then located os (places.Declared k.decl) Y1 else []

-- the faults of entries of which this says that they reach themselves
abbrev pub said_of : (Entry → Bool) → List FileOutline → List Entry → List PackageFault
said_of is os es = flat_map (λ (e : Entry). located_if (is e) os e.key) es

abbrev pub is_looped_alias : (DeclKey → Bool) → List (DeclRef × Term) → Entry → Bool
is_looped_alias looped xs e = looped e.key && is_some (alias_in xs e.key.decl)

-- types

abbrev loop_at : ℕ → TypeFault
loop_at i = record { entry = i; rule = Y1 }

module _ (looped : DeclKey → Bool) (os : List FileOutline) (all : List Entry) where
  abbrev after : Bool → ℕ → List Entry → List TypeFault
  after b i es = if b then loop_at i ∷ looped_faults looped (suc i) es else looped_faults looped (suc i) es

  loops_from : (i : ℕ) (es : List Entry) → ((m : ℕ) → slice_get all (i + m) ≡ slice_get es m) → loops_faults os all (looped_faults looped i es) ≡ said_of (λ e. looped e.key) os es
  loops_from i [] there = refl
  loops_from i (e ∷ es) there = by (looped e.key) (loops_from (suc i) es (λ m. (let at : suc i + m ≡ i + suc m = omega arith in ap (slice_get all) at ∙ there (suc m))))
    where
      first : slice_get all i ≡ Some e
      first = (let at : i ≡ i + 0 = omega arith in ap (slice_get all) at ∙ there 0)

      by : (b : Bool) → loops_faults os all (looped_faults looped (suc i) es) ≡ said_of (λ e. looped e.key) os es → loops_faults os all (after b i es) ≡ located_if b os e.key ++ said_of (λ e. looped e.key) os es
      by true rest = ap (λ (o : Option Entry). type_loop_fault os (loop_at i) o ++ loops_faults os all (looped_faults looped (suc i) es)) first ∙ ap (λ (l : List PackageFault). located os (places.Declared e.key.decl) Y1 ++ l) rest
      by false rest = rest

pub loops_are : (looped : DeclKey → Bool) (os : List FileOutline) (es : List Entry) → loops_faults os es (looped_faults looped 0 es) ≡ said_of (λ e. looped e.key) os es
loops_are looped os es = loops_from looped os es 0 es (λ m. (let at : 0 + m ≡ m = omega arith in ap (slice_get es) at))

-- aliases

pub aliases_are : (looped : DeclKey → Bool) (os : List FileOutline) (xs : List (DeclRef × Term)) (es : List Entry) → alias_faults os (looped_aliases looped xs es) ≡ said_of (is_looped_alias looped xs) os es
aliases_are looped os xs [] = refl
aliases_are looped os xs (e ∷ es) = by (is_looped_alias looped xs e) (aliases_are looped os xs es)
  where
    by : (b : Bool) → alias_faults os (looped_aliases looped xs es) ≡ said_of (is_looped_alias looped xs) os es
        → alias_faults os ((if b then e.key.decl ∷ [] else []) ++ looped_aliases looped xs es) ≡ located_if b os e.key ++ said_of (is_looped_alias looped xs) os es
    by true rest = ap (λ (l : List PackageFault). located os (places.Declared e.key.decl) Y1 ++ l) rest
    by false rest = rest

-- other faults

both : {A : Type 0} (P : A → Type 0) (xs ys : List A) → AllByRecursion P xs → AllByRecursion P ys → AllByRecursion P (xs ++ ys)
both P [] ys h k = k
both P (x ∷ xs) ys h k = (h.0, both P xs ys h.1 k)

each_flat : {A B : Type 0} (P : B → Type 0) (f : A → List B) (xs : List A) → ((x : A) → AllByRecursion P (f x)) → AllByRecursion P (flat_map f xs)
each_flat P f [] h = tt
each_flat P f (x ∷ xs) h = both P (f x) (flat_map f xs) (h x) (each_flat P f xs h)

abbrev IsOtherRule : Rule → Type 0
IsOtherRule rule = rule ≡ Y1 → ⊥

abbrev IsOther : MemberFault → Type 0
IsOther f = IsOtherRule f.rule

abbrev Others : List MemberFault → Type 0
Others fs = AllByRecursion IsOther fs

is_b5 : IsOtherRule B5
is_b5 h = (let no : B5 ≡ Y1 = h in cc)

is_y2 : IsOtherRule Y2
is_y2 h = (let no : Y2 ≡ Y1 = h in cc)

is_b6 : IsOtherRule B6
is_b6 h = (let no : B6 ≡ Y1 = h in cc)

others_if : (b : Bool) (place : MemberPlace) (rule : Rule) → IsOtherRule rule → Others (member_fault_if b place rule)
others_if true place rule other = (other, tt)
others_if false place rule other = tt

others_line : (b : Bool) (fs : List MemberFault) → Others fs → Others (if b then [] else fs)
others_line true fs h = tt
others_line false fs h = h

module _ (kind : DeclKey → Kind) where
  mutual
    term_others : (t : Term) → Others (term_faults kind t)
    term_others NoType = tt
    term_others (Predeclared b) = tt
    term_others ErrorType = tt
    term_others (Defined k) = tt
    term_others (PointerTo t) = term_others t
    term_others (StructOf path fs) = fields_others [] None fs
    term_others (InterfaceOf path ms) = methods_others [] ms

    fields_others : (seen : List (List ℕ)) (last : Option MemberPlace) (fs : Fields) → Others (fields_faults kind seen last fs)
    fields_others seen last NoField = tt
    fields_others seen last (AField name place embedded t tag fs) =
        both IsOther (member_fault_if (repeats_earlier seen name) place B5) _ (others_if (repeats_earlier seen name) place B5 is_b5)
        (both IsOther (member_fault_if (embedded && not (can_be_embedded kind t)) place Y2) _ (others_if (embedded && not (can_be_embedded kind t)) place Y2 is_y2)
        (both IsOther (if is_shared last t then [] else term_faults kind t) _ (others_line (is_shared last t) (term_faults kind t) (term_others t)) (fields_others (name ∷ seen) (first_place t) fs)))

    methods_others : (seen : List (List ℕ)) (ms : Methods) → Others (methods_faults kind seen ms)
    methods_others seen NoMethod = tt
    methods_others seen (AMethod name place g ms) =
        both IsOther (member_fault_if (is_blank name || is_among_names seen name) place B5) _ (others_if (is_blank name || is_among_names seen name) place B5 is_b5)
        (both IsOther (sign_faults kind g) _ (sign_others g) (methods_others (name ∷ seen) ms))

    sign_others : (g : Sign) → Others (sign_faults kind g)
    sign_others (SignOf ps rs) = both IsOther (terms_faults kind None ps) _ (terms_others None ps) (terms_others None rs)

    terms_others : (last : Option MemberPlace) (ts : Terms) → Others (terms_faults kind last ts)
    terms_others last NoTerm = tt
    terms_others last (ATerm t ts) = both IsOther (if is_shared last t then [] else term_faults kind t) _ (others_line (is_shared last t) (term_faults kind t) (term_others t)) (terms_others (first_place t) ts)

  declared_others : (path : List ℕ) (u : Term) (seen : List (List ℕ)) (ms : List Member) → Others (declared_faults kind path u seen ms)
  declared_others path u seen [] = tt
  declared_others path u seen (m ∷ ms) =
      both IsOther (member_fault_if _ m.place B5) _ (others_if _ m.place B5 is_b5) (both IsOther (sign_faults kind m.sign) _ (sign_others m.sign) (declared_others path u (m.name ∷ seen) ms))

named_others : (names : List (List ℕ)) (fs : Fields) → Others (named_faults names fs)
named_others names NoField = tt
named_others names (AField name place embedded t tag fs) = both IsOther (member_fault_if (is_among_names names name) place B5) _ (others_if (is_among_names names name) place B5 is_b5) (named_others names fs)

own_others : (b : Bool) (fs : List MemberFault) → Others fs → Others (if b then fs else [])
own_others true fs h = h
own_others false fs h = tt

hidden_others : (path : List ℕ) (u : Term) (ms : List Member) → Others (hidden_faults path u ms)
hidden_others path NoType ms = tt
hidden_others path (Predeclared b) ms = tt
hidden_others path ErrorType ms = tt
hidden_others path (Defined k) ms = tt
hidden_others path (PointerTo t) ms = tt
hidden_others path (StructOf home fs) ms = own_others (bytes_eq home path) (named_faults (own_names path (StructOf home fs) ms) fs) (named_others (own_names path (StructOf home fs) ms) fs)
hidden_others path (InterfaceOf home methods) ms = tt

-- at their places

abbrev pub IsNoLoop : PackageFault → Type 0
IsNoLoop f = f.rule ≡ Y1 → ⊥

abbrev pub AreNoLoops : List PackageFault → Type 0
AreNoLoops fs = AllByRecursion IsNoLoop fs

at_place : (rule : Rule) (o : Option (ℕ × ℕ)) → IsOtherRule rule → AreNoLoops (package_fault_at rule o)
at_place rule None other = tt
at_place rule (Some p) other = (other, tt)

located_others : (os : List FileOutline) (fs : List MemberFault) → Others fs → AreNoLoops (all_located os fs)
located_others os [] h = tt
located_others os (f ∷ fs) h = both IsNoLoop (located os f.place f.rule) (all_located os fs) (at_place f.rule (file_place_of os f.place) h.0) (located_others os fs h.1)

pub entries_others : (types : List Entry) (path : List ℕ) (os : List FileOutline) (es : List Entry) → AreNoLoops (entries_faults types path os es)
entries_others types path os es = each_flat IsNoLoop (entry_faults types path os) es one
  where
    one : (e : Entry) → AreNoLoops (entry_faults types path os e)
    one e =
        let met = met_in types e in
        both IsNoLoop (all_located os (term_faults (kinds_in types) e.term) ++ all_located os (declared_faults (kinds_in types) path met [] e.methods)) (all_located os (hidden_faults path met e.methods))
        (both IsNoLoop (all_located os (term_faults (kinds_in types) e.term)) (all_located os (declared_faults (kinds_in types) path met [] e.methods)) (located_others os _ (term_others (kinds_in types) e.term))
        (located_others os _ (declared_others (kinds_in types) path met [] e.methods)))
        (located_others os _ (hidden_others path met e.methods))

-- receivers

refused_or : (b : Bool) (fs : List PackageFault) → AreNoLoops fs → AreNoLoops (if b then [] else fs)
refused_or true fs h = tt
refused_or false fs h = h

form_others : (types : List Entry) (raw mean : Meaning) (path : List ℕ) (file : ℕ) (form : FormTree) → AreNoLoops (form_fault types raw mean path file form)
form_others types raw mean path file (ValueForm k v i) = tt
form_others types raw mean path file (TypeForm t) = tt
form_others types raw mean path file (FuncForm g) = by g.receiver
  where
    by : (r : Option Receiver) → AreNoLoops (received_fault types raw mean path file r)
    by None = tt
    by (Some r) =
        refused_or (is_no_type (raw r.base)) (type_base_fault types path file (type_name_start r.base) (mean r.base))
        (refused_or (is_base types path (mean r.base)) (fault_in file (type_name_start r.base) B6 ∷ []) (is_b6, tt))

pub receivers_others : (types : List Entry) (raws means : Meanings) (path : List ℕ) (os : List FileOutline) → AreNoLoops (receivers_faults types raws means path os)
receivers_others types raws means path os =
    each_flat IsNoLoop (λ (p : ℕ × FileOutline). file_receivers types (raws p.0) (means p.0) path p.0 p.1.decls) (enumerate_from 0 os)
    (λ p. each_flat IsNoLoop (λ (d : TopDeclTree). form_fault types (raws p.0) (means p.0) path p.0 d.form) p.1.decls (λ d. form_others types (raws p.0) (means p.0) path p.0 d.form))
