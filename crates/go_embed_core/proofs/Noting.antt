-- Faults of members, one after another.
use Rattle.std.proofs.Common.{◌≡◌, ℕ, ◌+◌, ◌<◌, ◌≤◌, true, false, not, ◌&&◌, ◌||◌, List, [], ◌∷◌, ◌++◌, map, length, drop, get_or, if◌then◌else◌, refl, sym, ap, ◌∙◌}
use Rattle.std.specs.Prelude.{Option, None, Some}
use Rattle.std.specs.Str.{bytes_eq}
use Rattle.std.proofs.lemmas.List.{drop_more, drop_all, append_assoc, append-nil}
use Rattle.go_collections_core.specs.text_core.Text.{is_blank}
use Rattle.go_collections_core.specs.text_core.declared.rule.Rule.TheVariants as rules
use Rattle.go_term_core.specs.decl_core.declared.keys.DeclKey.{DeclKey}
use Rattle.go_term_core.specs.declared.term.MemberPlace.{MemberPlace}
use Rattle.go_term_core.specs.declared.term.Field.{Field}
use Rattle.go_term_core.specs.declared.term.Method.{Method}
use Rattle.go_term_core.specs.Terms.{Term, NoType, Fields, NoField, AField, Methods, NoMethod, AMethod}
use Rattle.go_term_core.specs.Shapes.{Line, line_at, term_at, fields_in, terms_in, sign_of, method_shapes, param_shapes}
use Rattle.go_term_core.specs.declared.settling.kind.Kind.{Kind}
use Rattle.go_term_core.specs.settling.Settled.{can_be_embedded, is_among_names, repeats_earlier}
use Rattle.go_type_core.specs.table_core.declared.entry.DeclaredMethod.{DeclaredMethod}
use Rattle.go_type_core.specs.table_core.Entries.{Member}
use Rattle.go_type_core.specs.table_core.Methods.{has_field_before}
use Rattle.go_type_core.specs.table_core.Shown.{member_shown}
use Rattle.go_embed_core.specs.declared.faults.MemberFault.{MemberFault}
use Rattle.go_embed_core.specs.Faults.{member_fault_if, first_place, is_shared, term_faults, line_faults, fields_faults, methods_faults, sign_faults, terms_faults, declared_faults}
use Rattle.go_embed_core.specs.mirrors.Passing.{SameNames, field_own, method_own, declared_own}

-- 1. The same names give the same faults.

same_more : (a b : List (List ℕ)) (name : List ℕ) → SameNames a b → SameNames (name ∷ a) (name ∷ b)
same_more a b name h = λ other. ap (λ v. if bytes_eq name other then true else v) (h other)

same_fields : (kind : DeclKey → Kind) (a b : List (List ℕ)) (last : Option MemberPlace) (fs : Fields) → SameNames a b → fields_faults kind a last fs ≡ fields_faults kind b last fs
same_fields kind a b last NoField h = refl
same_fields kind a b last (AField name place embedded t tag fs) h =
    ap (λ v. member_fault_if (not (is_blank name) && v) place rules.B5 ++ (member_fault_if (embedded && not (can_be_embedded kind t)) place rules.Y2 ++ (line_faults kind last t ++ fields_faults kind (name ∷ a) (first_place t) fs))) (h name)
    ∙ ap (λ l. member_fault_if (repeats_earlier b name) place rules.B5 ++ (member_fault_if (embedded && not (can_be_embedded kind t)) place rules.Y2 ++ (line_faults kind last t ++ l))) (same_fields kind (name ∷ a) (name ∷ b) (first_place t) fs (same_more a b name h))

same_methods : (kind : DeclKey → Kind) (a b : List (List ℕ)) (ms : Methods) → SameNames a b → methods_faults kind a ms ≡ methods_faults kind b ms
same_methods kind a b NoMethod h = refl
same_methods kind a b (AMethod name place g ms) h =
    ap (λ v. member_fault_if (is_blank name || v) place rules.B5 ++ (sign_faults kind g ++ methods_faults kind (name ∷ a) ms)) (h name)
    ∙ ap (λ l. member_fault_if (is_blank name || is_among_names b name) place rules.B5 ++ (sign_faults kind g ++ l)) (same_methods kind (name ∷ a) (name ∷ b) ms (same_more a b name h))

same_declared : (kind : DeclKey → Kind) (path : List ℕ) (u : Term) (a b : List (List ℕ)) (ms : List Member) → SameNames a b → declared_faults kind path u a ms ≡ declared_faults kind path u b ms
same_declared kind path u a b [] h = refl
same_declared kind path u a b (m ∷ ms) h =
    ap (λ v. member_fault_if (not (is_blank m.name) && (v || has_field_before path u m)) m.place rules.B5 ++ (sign_faults kind m.sign ++ declared_faults kind path u (m.name ∷ a) ms)) (h m.name)
    ∙ ap (λ l. member_fault_if (not (is_blank m.name) && (is_among_names b m.name || has_field_before path u m)) m.place rules.B5 ++ (sign_faults kind m.sign ++ l)) (same_declared kind path u (m.name ∷ a) (m.name ∷ b) ms (same_more a b m.name h))

-- the faults of a type that is written for one name
pub line_of : (kind : DeclKey → Kind) (last : Option MemberPlace) (t u : Term) → t ≡ u → is_shared last t ≡ false → term_faults kind u ≡ line_faults kind last t
line_of kind last t u same alone = ap (term_faults kind) (sym same) ∙ sym (ap (λ b. if b then [] else term_faults kind t) alone)

-- 2. One member more.

pub step : {S X : Type 0} (F : S → List X → List MemberFault) (own : List MemberFault) (seen next passed : S) (xs : List X) (i : ℕ) (x : X) (first last all : List MemberFault)
    → i < length xs → x ≡ get_or xs i x → F seen (x ∷ drop (i + 1) xs) ≡ own ++ F next (drop (i + 1) xs) → F passed (drop (i + 1) xs) ≡ F next (drop (i + 1) xs) → last ≡ first ++ own
    → first ++ F seen (drop i xs) ≡ all → last ++ F passed (drop (i + 1) xs) ≡ all
step F own seen next passed xs i x first last all lt is split same more before =
    let rest = drop (i + 1) xs in
    ap (λ l. last ++ l) same
    ∙ (ap (λ l. l ++ F next rest) more
    ∙ (append_assoc first own (F next rest)
    ∙ (ap (λ l. first ++ l) (sym split)
    ∙ (ap (λ l. first ++ F seen l) (ap (λ y. y ∷ rest) is ∙ sym (drop_more xs i x lt)) ∙ before))))

pub fields_step : (kind : DeclKey → Kind) (ls : List Line) (seen passed : List (List ℕ)) (before after : Option MemberPlace) (fs : List Field) (i : ℕ) (f : Field) (first middle last all : List MemberFault)
    → i < length fs → f ≡ get_or fs i f → SameNames passed (f.name ∷ seen) → after ≡ first_place (line_at ls f.line).term → middle ≡ first ++ field_own kind ls seen f → last ≡ middle ++ line_faults kind before (line_at ls f.line).term
    → first ++ fields_faults kind seen before (fields_in ls (drop i fs)) ≡ all → last ++ fields_faults kind passed after (fields_in ls (drop (i + 1) fs)) ≡ all
fields_step kind ls seen passed before after fs i f first middle last all lt is names place own inner so_far =
    let rest = fields_faults kind (f.name ∷ seen) (first_place (line_at ls f.line).term) (fields_in ls (drop (i + 1) fs)) in
    let b5 = member_fault_if (repeats_earlier seen f.name) f.place rules.B5 in
    let y2 = member_fault_if ((line_at ls f.line).embedded && not (can_be_embedded kind (line_at ls f.line).term)) f.place rules.Y2 in
    let t = line_faults kind before (line_at ls f.line).term in
    let split : b5 ++ (y2 ++ (t ++ rest)) ≡ ((b5 ++ y2) ++ t) ++ rest = sym (append_assoc (b5 ++ y2) t rest ∙ append_assoc b5 y2 (t ++ rest)) in
    step {S = List (List ℕ) × Option MemberPlace} (λ s l. fields_faults kind s.0 s.1 (fields_in ls l)) (field_own kind ls seen f ++ t) (seen, before) (f.name ∷ seen, first_place (line_at ls f.line).term) (passed, after) fs i f first last all lt is split
    (ap (λ p. fields_faults kind passed p (fields_in ls (drop (i + 1) fs))) place ∙ same_fields kind passed (f.name ∷ seen) (first_place (line_at ls f.line).term) (fields_in ls (drop (i + 1) fs)) names)
    (inner ∙ (ap (λ l. l ++ t) own ∙ append_assoc first (field_own kind ls seen f) t)) so_far

pub methods_step : (kind : DeclKey → Kind) (seen passed : List (List ℕ)) (ms : List Method) (i : ℕ) (m : Method) (first middle params last all : List MemberFault)
    → i < length ms → m ≡ get_or ms i m → SameNames passed (m.name ∷ seen) → middle ≡ first ++ method_own seen m
    → params ≡ middle ++ terms_faults kind None (param_shapes m.signature.params) → last ≡ params ++ terms_faults kind None (param_shapes m.signature.results)
    → first ++ methods_faults kind seen (method_shapes (drop i ms)) ≡ all → last ++ methods_faults kind passed (method_shapes (drop (i + 1) ms)) ≡ all
methods_step kind seen passed ms i m first middle params last all lt is names own ins outs before =
    let rest = methods_faults kind (m.name ∷ seen) (method_shapes (drop (i + 1) ms)) in
    let b5 = method_own seen m in
    let p = terms_faults kind None (param_shapes m.signature.params) in
    let r = terms_faults kind None (param_shapes m.signature.results) in
    let split : b5 ++ ((p ++ r) ++ rest) ≡ (b5 ++ (p ++ r)) ++ rest = sym (append_assoc b5 (p ++ r) rest) in
    let more : last ≡ first ++ (b5 ++ (p ++ r)) =
    outs ∙ (ap (λ l. l ++ r) (ins ∙ ap (λ l. l ++ p) own) ∙ (append_assoc (first ++ b5) p r ∙ append_assoc first b5 (p ++ r))) in
    step (λ s l. methods_faults kind s (method_shapes l)) (b5 ++ (p ++ r)) seen (m.name ∷ seen) passed ms i m first last all lt is split
    (same_methods kind passed (m.name ∷ seen) (method_shapes (drop (i + 1) ms)) names) more before

pub terms_step : (kind : DeclKey → Kind) (us : List Term) (before after : Option MemberPlace) (ns : List ℕ) (i n : ℕ) (first last all : List MemberFault) → i < length ns → n ≡ get_or ns i n
    → after ≡ first_place (term_at us n) → last ≡ first ++ line_faults kind before (term_at us n)
    → first ++ terms_faults kind before (terms_in us (drop i ns)) ≡ all → last ++ terms_faults kind after (terms_in us (drop (i + 1) ns)) ≡ all
terms_step kind us before after ns i n first last all lt is place more so_far =
    step (λ s l. terms_faults kind s (terms_in us l)) (line_faults kind before (term_at us n)) before (first_place (term_at us n)) after ns i n first last all lt is refl
    (ap (λ p. terms_faults kind p (terms_in us (drop (i + 1) ns))) place) more so_far

-- no type has no fault
pub nothing_told : (kind : DeclKey → Kind) (last : Option MemberPlace) → line_faults kind last NoType ≡ []
nothing_told kind None = refl
nothing_told kind (Some p) = refl

pub told_nowhere : (kind : DeclKey → Kind) (last : Option MemberPlace) (t : Term) (faults : List MemberFault) → t ≡ NoType → faults ≡ faults ++ line_faults kind last t
told_nowhere kind last t faults is = sym (ap (λ u. faults ++ line_faults kind last u) is ∙ ap (λ l. faults ++ l) (nothing_told kind last) ∙ append-nil faults)

pub declared_step : (kind : DeclKey → Kind) (path : List ℕ) (u : Term) (seen passed : List (List ℕ)) (ms : List DeclaredMethod) (i : ℕ) (m : DeclaredMethod) (first middle last all : List MemberFault)
    → i < length ms → m ≡ get_or ms i m → SameNames passed (m.name ∷ seen) → middle ≡ first ++ declared_own path u seen m → last ≡ middle ++ sign_faults kind (sign_of m.signature)
    → first ++ declared_faults kind path u seen (map member_shown (drop i ms)) ≡ all → last ++ declared_faults kind path u passed (map member_shown (drop (i + 1) ms)) ≡ all
declared_step kind path u seen passed ms i m first middle last all lt is names own inner before =
    let rest = declared_faults kind path u (m.name ∷ seen) (map member_shown (drop (i + 1) ms)) in
    let b5 = declared_own path u seen m in
    let g = sign_faults kind (sign_of m.signature) in
    step (λ s l. declared_faults kind path u s (map member_shown l)) (b5 ++ g) seen (m.name ∷ seen) passed ms i m first last all lt is (sym (append_assoc b5 g rest))
    (same_declared kind path u passed (m.name ∷ seen) (map member_shown (drop (i + 1) ms)) names)
    (inner ∙ (ap (λ l. l ++ g) own ∙ append_assoc first b5 g)) before

-- the end of a loop over members
pub notes_end : {X : Type 0} (F : List X → List MemberFault) (xs : List X) (i : ℕ) (now all : List MemberFault) → F [] ≡ [] → length xs ≤ i → now ++ F (drop i xs) ≡ all → now ≡ all
notes_end F xs i now all none le before =
    sym (append-nil now) ∙ (ap (λ l. now ++ l) (sym none) ∙ (ap (λ l. now ++ F l) (sym (drop_all i xs le)) ∙ before))

-- two notes one behind the other
pub both_notes : (first middle last a b : List MemberFault) → middle ≡ first ++ a → last ≡ middle ++ b → last ≡ first ++ (a ++ b)
both_notes first middle last a b h k = k ∙ (ap (λ l. l ++ b) h ∙ append_assoc first a b)
