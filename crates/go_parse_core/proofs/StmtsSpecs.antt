-- Reading finds the specifications that are spelled, one or a group, and no others, given that it does so for each.
use Rattle.std.proofs.Common.{◌≡◌, ℕ, suc, ◌<◌, List, [], ◌∷◌, ◌++◌, length, Option, Some, None, Ok, refl, sym, ap, ◌∙◌, subst, inl, append_assoc, ◌≤◌, arith, length-append}
use Rattle.go_tree_nodes.specs.text_core.declared.span.Span.{Span}
use Rattle.go_tree_nodes.specs.token_core.declared.kind.Operator.TheVariants as operator
use Rattle.go_tree_nodes.specs.Terminals.{Terminal}
use Rattle.go_tree_nodes.specs.Trees.{Specs, Single, Group}
use Rattle.go_tree_nodes.specs.Spelling.{mark, spell_specs_of, spell_specs}
use Rattle.go_tree_nodes.specs.Rules.{Wf_specs}
use Rattle.go_tree_nodes.specs.Heights.{specs_height, group_height}
use Rattle.go_parse_reader.specs.types.mirrors.Marks.{◌>>=◌, Reading, MarkAhead, mark_at, list_go}
use Rattle.go_parse_core.specs.stmts.mirrors.StmtReading.{group_by, specs_by, specs_at}
use Rattle.go_parse_reader.proofs.TypesMarks.{mark_was, bind_ok, AgreesAt, bind_agrees, agrees_along}
use Rattle.go_parse_reader.proofs.TypesLists.{spell_list, list_spelled, FoundItem, list_complete, ReadsItem, ItemsRead, ReadsList, list_sound}

-- a specification is found, alone and in a group
pub record FoundSpec (A : Type 0) (spec : List Terminal → Reading A) (spelled : A → List Terminal) (b : ℕ) (high : A → ℕ) (P : A → Type 0) (rest : List Terminal) : Type 0 where
  pub grouped : (x : A) → P x → FoundItem A spec spelled operator.Semicolon operator.CloseParen b (high x) x
  pub alone : (x : A) → P x → AgreesAt (spec (spelled x ++ rest)) (Ok (x, rest)) b (high x)
  pub some : (x : A) → 0 < length (spelled x)
  pub no_group : (x : A) (ts : List Terminal) → mark_at operator.OpenParen (spelled x ++ ts) ≡ None

pub specs_complete : (A : Type 0) (spec : List Terminal → Reading A) (spelled : A → List Terminal) (b : ℕ) (high : A → ℕ) (P : A → Type 0) (rest : List Terminal) → FoundSpec A spec spelled b high P rest → (xs : Specs A) → Wf_specs P xs → AgreesAt (specs_at spec (spell_specs spelled xs ++ rest)) (Ok (xs, rest)) b (specs_height high xs)
specs_complete A spec spelled b high P rest found (Single x) wf =
    agrees_along _ _ _ b (high x) (ap (specs_by spec (spelled x ++ rest)) (found.no_group x rest))
    (bind_agrees (spec (spelled x ++ rest)) (x, rest) (λ x. Ok (Single x.0, x.1)) (Ok (Single x, rest)) b (high x) b (high x) (found.alone x wf) (inl refl) (λ h. h))
specs_complete A spec spelled b high P rest found (Group first xs last) wf =
    let close = mark operator.CloseParen last in
    let ts = spell_list spelled operator.Semicolon xs ++ (close ∷ rest) in
    let h = group_height high xs in
    let go = λ (x : List (A × Option Span) × List Terminal). group_by first x.0 (mark_at operator.CloseParen x.1) in
    let is : (spell_specs_of spelled xs ++ (close ∷ [])) ++ rest ≡ ts = append_assoc (spell_specs_of spelled xs) (close ∷ []) rest ∙ ap (λ l. l ++ (close ∷ rest)) (sym (list_spelled spelled xs)) in
    agrees_along _ _ _ b h (ap (λ ts. list_go spec operator.Semicolon operator.CloseParen (suc (length ts)) ts >>= go) is)
    (bind_agrees (list_go spec operator.Semicolon operator.CloseParen (suc (length ts)) ts) (xs, close ∷ rest) go (Ok (Group first xs last, rest)) b h b h
    (list_complete A spec spelled operator.Semicolon operator.CloseParen b high P refl found.grouped found.some xs last rest wf) (inl refl) (λ h. h))

-- Soundness.

-- what is left is no longer than what was read from
pub reads_no_longer : (A : Type 0) (spelled : A → List Terminal) (high : A → ℕ) (P : A → Type 0) (b : ℕ) (ts : List Terminal) (x : A × List Terminal) → ReadsItem A spelled high P b ts x → length x.1 ≤ length ts
reads_no_longer A spelled high P b ts x r = omega (arith, ap length r.spelled_as, length-append (spelled x.0) x.1)

group_reads : (A : Type 0) (spelled : A → List Terminal) (high : A → ℕ) (P : A → Type 0) (b : ℕ) (first : Span) (ts : List Terminal) (x : List (A × Option Span) × List Terminal) → ReadsList A spelled operator.Semicolon high P b ts x → (m : MarkAhead) → mark_at operator.CloseParen x.1 ≡ m → (y : Specs A × List Terminal) → group_by first x.0 m ≡ Ok y → ReadsItem (Specs A) (spell_specs spelled) (specs_height high) (Wf_specs P) b (mark operator.OpenParen first ∷ ts) y
group_reads A spelled high P b first ts x r None at y e = cc
group_reads A spelled high P b first ts x r (Some z) at y e =
    let same : (Group first x.0 z.0, z.1) ≡ y = cc in
    let front = mark operator.OpenParen first in
    let close = mark operator.CloseParen z.0 in
    let path : ts ≡ (spell_specs_of spelled x.0 ++ (close ∷ [])) ++ z.1 =
    r.spelled_as ∙ ap (λ l. l ++ x.1) (list_spelled spelled x.0) ∙ ap (λ l. spell_specs_of spelled x.0 ++ l) (mark_was operator.CloseParen x.1 z at) ∙ sym (append_assoc (spell_specs_of spelled x.0) (close ∷ []) z.1) in
    subst (ReadsItem (Specs A) (spell_specs spelled) (specs_height high) (Wf_specs P) b (front ∷ ts)) same (record { spelled_as = ap (λ l. front ∷ l) path; wf = r.wf; low = r.low })

specs_by_reads : (A : Type 0) (spec : List Terminal → Reading A) (spelled : A → List Terminal) (high : A → ℕ) (P : A → Type 0) (b : ℕ) → ItemsRead A spelled high P b spec → (ts : List Terminal) (m : MarkAhead) → mark_at operator.OpenParen ts ≡ m → (y : Specs A × List Terminal) → specs_by spec ts m ≡ Ok y → ReadsItem (Specs A) (spell_specs spelled) (specs_height high) (Wf_specs P) b ts y
specs_by_reads A spec spelled high P b ih ts None at y e =
    let w = bind_ok (spec ts) (λ x. Ok (Single x.0, x.1)) y e in
    let r = ih ts w.0 w.1 in
    let same : (Single w.0.0, w.0.1) ≡ y = cc (w.2) in
    subst (ReadsItem (Specs A) (spell_specs spelled) (specs_height high) (Wf_specs P) b ts) same (record { spelled_as = r.spelled_as; wf = r.wf; low = r.low })
specs_by_reads A spec spelled high P b ih ts (Some first) at y e =
    let w = bind_ok (list_go spec operator.Semicolon operator.CloseParen (suc (length first.1)) first.1) (λ x. group_by first.0 x.0 (mark_at operator.CloseParen x.1)) y e in
    let r = list_sound A spec spelled operator.Semicolon operator.CloseParen high P b ih (suc (length first.1)) first.1 w.0 w.1 in
    subst (λ ts. ReadsItem (Specs A) (spell_specs spelled) (specs_height high) (Wf_specs P) b ts y) (sym (mark_was operator.OpenParen ts first at)) (group_reads A spelled high P b first.0 first.1 w.0 r (mark_at operator.CloseParen w.0.1) refl y w.2)

pub specs_sound : (A : Type 0) (spec : List Terminal → Reading A) (spelled : A → List Terminal) (high : A → ℕ) (P : A → Type 0) (b : ℕ) → ItemsRead A spelled high P b spec → ItemsRead (Specs A) (spell_specs spelled) (specs_height high) (Wf_specs P) b (specs_at spec)
specs_sound A spec spelled high P b ih ts y e = specs_by_reads A spec spelled high P b ih ts (mark_at operator.OpenParen ts) refl y e
