-- Reading finds the results and signatures that are spelled, and no others.
use Rattle.std.proofs.Common.{◌≡◌, ℕ, ◌<◌, ◌≤◌, max, Bool, true, false, List, [], ◌∷◌, ◌++◌, length, Some, None, Ok, refl, sym, ap, ◌∙◌, subst, arith, inl, append_assoc}
use Rattle.go_tree_nodes.specs.text_core.declared.span.Span.{Span}
use Rattle.go_tree_nodes.specs.token_core.declared.kind.Operator.TheVariants as operator
use Rattle.go_tree_nodes.specs.Terminals.{Terminal}
use Rattle.go_tree_nodes.specs.Trees.{TypeTree, SignatureTree, ResultTree, ParamTrees, Signed, NoResult, OneResult, Results}
use Rattle.go_tree_nodes.specs.Spelling.{mark, spell_type, spell_signature, spell_result, spell_params}
use Rattle.go_tree_nodes.specs.Rules.{is_grouped, Wf_signature, Wf_result, Wf_params}
use Rattle.go_tree_nodes.specs.Heights.{type_height, signature_height, result_height, params_height}
use Rattle.go_parse_reader.specs.types.mirrors.Marks.{◌>>=◌, Reading, MarkAhead, need, mark_at}
use Rattle.go_parse_reader.specs.types.mirrors.TypeReading.{begins_type, params_at, results_by, one_result, result_by, result_at, signature_at}
use Rattle.go_parse_reader.proofs.TypesMarks.{mark_was, bind_ok, need_ok, AgreesAt, bind_agrees, agrees_along}
use Rattle.go_parse_reader.proofs.TypesTypeFacts.{FindsTypes, ReadsTypes, type_begins, bare_no_paren, no_paren_bare, begins_no_paren}
use Rattle.go_parse_reader.proofs.TypesParams.{params_complete, params_sound}

-- what stands in front goes on with no result
abbrev pub StopsSignature : List Terminal → Type 0
StopsSignature ts = (mark_at operator.Dot ts ≡ None) × (begins_type ts ≡ false)

listed_found : (b : ℕ) (type : List Terminal → Reading TypeTree) → FindsTypes b type → (first : Span) (ps : ParamTrees) (last : Span) (rest : List Terminal) → Wf_params (is_grouped ps) ps → AgreesAt (params_at type ((spell_params ps ++ mark operator.CloseParen last ∷ []) ++ rest) >>= λ p. results_by first p.0 (mark_at operator.CloseParen p.1)) (Ok (Results first ps last, rest)) b (params_height ps)
listed_found b type finds first ps last rest wf =
    let end = mark operator.CloseParen last ∷ rest in
    let go = λ (p : ParamTrees × List Terminal). results_by first p.0 (mark_at operator.CloseParen p.1) in
    let h = params_height ps in
    agrees_along _ _ _ b h (ap (λ ts. params_at type ts >>= go) (append_assoc (spell_params ps) (mark operator.CloseParen last ∷ []) rest))
    (bind_agrees (params_at type (spell_params ps ++ end)) (ps, end) go (Ok (Results first ps last, rest)) b h b h (params_complete b type finds ps last rest wf) (inl refl) (λ g. g))

-- a result that is spelled before what begins no type is read, unless a type is too high
pub result_complete : (b : ℕ) (type : List Terminal → Reading TypeTree) → FindsTypes b type → (r : ResultTree) (rest : List Terminal) → Wf_result r → StopsSignature rest → AgreesAt (result_at type (spell_result r ++ rest)) (Ok (r, rest)) b (result_height r)
result_complete b type finds NoResult rest wf stops =
    inl (ap (result_by type rest) (begins_no_paren rest stops.1) ∙ ap (one_result type rest) stops.1)
result_complete b type finds (OneResult t) rest wf stops =
    let ts = spell_type t ++ rest in
    let h = type_height t in
    agrees_along _ _ _ b h (ap (result_by type ts) (bare_no_paren t wf.1 rest) ∙ ap (one_result type ts) (type_begins t rest))
    (bind_agrees (type ts) (t, rest) (λ y. Ok (OneResult y.0, y.1)) (Ok (OneResult t, rest)) b h b h (finds t rest wf.0 stops.0) (inl refl) (λ g. g))
result_complete b type finds (Results first ps last) rest wf stops = listed_found b type finds first ps last rest wf

-- a signature that is spelled before what begins no type is read, unless a type is too high
pub signature_complete : (b : ℕ) (type : List Terminal → Reading TypeTree) → FindsTypes b type → (s : SignatureTree) (rest : List Terminal) → Wf_signature s → StopsSignature rest → AgreesAt (signature_at type (spell_signature s ++ rest)) (Ok (s, rest)) b (signature_height s)
signature_complete b type finds (Signed first ps last r) rest wf stops =
    let close = mark operator.CloseParen last in
    let behind = spell_result r ++ rest in
    let end = close ∷ behind in
    let done : Reading SignatureTree = Ok (Signed first ps last r, rest) in
    let h = max (params_height ps) (result_height r) in
    let go = λ (p : ParamTrees × List Terminal). need (mark_at operator.CloseParen p.1) >>= λ z. (result_at type z.1 >>= λ y. Ok (Signed first p.0 z.0 y.0, y.1)) in
    let next = bind_agrees (result_at type behind) (r, rest) (λ y. Ok (Signed first ps last y.0, y.1)) done b (result_height r) b h
    (result_complete b type finds r rest wf.1 stops) (inl refl) (λ g. omega arith) in
    agrees_along _ _ _ b h (ap (λ ts. params_at type ts >>= go) (append_assoc (spell_params ps) (close ∷ spell_result r) rest))
    (bind_agrees (params_at type (spell_params ps ++ end)) (ps, end) go done b (params_height ps) b h (params_complete b type finds ps last behind wf.0) next (λ g. omega arith))

-- what was read is spelled in front, respects the rules and is low enough

pub record ReadsResult (b : ℕ) (ts : List Terminal) (x : ResultTree × List Terminal) : Type 0 where
  pub spelled : ts ≡ spell_result x.0 ++ x.1
  pub wf : Wf_result x.0
  pub low : result_height x.0 ≤ b

pub record ReadsSignature (b : ℕ) (ts : List Terminal) (x : SignatureTree × List Terminal) : Type 0 where
  pub spelled : ts ≡ spell_signature x.0 ++ x.1
  pub wf : Wf_signature x.0
  pub low : signature_height x.0 ≤ b

one_reads : (b : ℕ) (type : List Terminal → Reading TypeTree) → ReadsTypes b type → (ts : List Terminal) → mark_at operator.OpenParen ts ≡ None → (c : Bool) (y : ResultTree × List Terminal) → one_result type ts c ≡ Ok y → ReadsResult b ts y
one_reads b type reads ts free false y e =
    let same : (NoResult, ts) ≡ y = cc in
    subst (ReadsResult b ts) same (record { spelled = refl; wf = tt; low = omega arith })
one_reads b type reads ts free true y e =
    let w = bind_ok (type ts) (λ y. Ok (OneResult y.0, y.1)) y e in
    let r = reads ts w.0 w.1 in
    let same : (OneResult w.0.0, w.0.1) ≡ y = cc (w.2) in
    subst (ReadsResult b ts) same (record { spelled = r.spelled; wf = (r.wf, no_paren_bare w.0.0 w.0.1 (ap (mark_at operator.OpenParen) (sym r.spelled) ∙ free)); low = r.low })

results_read : (b : ℕ) (first : Span) (ts : List Terminal) (ps : ParamTrees) (rest : List Terminal) → ts ≡ spell_params ps ++ rest → Wf_params (is_grouped ps) ps → params_height ps ≤ b → (m : MarkAhead) → mark_at operator.CloseParen rest ≡ m → (y : ResultTree × List Terminal) → results_by first ps m ≡ Ok y → ReadsResult b (mark operator.OpenParen first ∷ ts) y
results_read b first ts ps rest is wf low None at y e = cc
results_read b first ts ps rest is wf low (Some z) at y e =
    let same : (Results first ps z.0, z.1) ≡ y = cc in
    let front = mark operator.OpenParen first in
    let close = mark operator.CloseParen z.0 in
    let path : ts ≡ (spell_params ps ++ (close ∷ [])) ++ z.1 = is ∙ ap (λ l. spell_params ps ++ l) (mark_was operator.CloseParen rest z at) ∙ sym (append_assoc (spell_params ps) (close ∷ []) z.1) in
    subst (ReadsResult b (front ∷ ts)) same (record { spelled = ap (λ l. front ∷ l) path; wf = wf; low = low })

result_by_reads : (b : ℕ) (type : List Terminal → Reading TypeTree) → ReadsTypes b type → (ts : List Terminal) (m : MarkAhead) → mark_at operator.OpenParen ts ≡ m → (y : ResultTree × List Terminal) → result_by type ts m ≡ Ok y → ReadsResult b ts y
result_by_reads b type reads ts None at y e = one_reads b type reads ts at (begins_type ts) y e
result_by_reads b type reads ts (Some first) at y e =
    let w = bind_ok (params_at type first.1) (λ p. results_by first.0 p.0 (mark_at operator.CloseParen p.1)) y e in
    let r = params_sound b type reads first.1 w.0 w.1 in
    subst (λ ts. ReadsResult b ts y) (sym (mark_was operator.OpenParen ts first at)) (results_read b first.0 first.1 w.0.0 w.0.1 r.spelled r.wf r.low (mark_at operator.CloseParen w.0.1) refl y w.2)

pub result_sound : (b : ℕ) (type : List Terminal → Reading TypeTree) → ReadsTypes b type → (ts : List Terminal) (y : ResultTree × List Terminal) → result_at type ts ≡ Ok y → ReadsResult b ts y
result_sound b type reads ts y e = result_by_reads b type reads ts (mark_at operator.OpenParen ts) refl y e

pub signature_sound : (b : ℕ) (type : List Terminal → Reading TypeTree) → ReadsTypes b type → (ts : List Terminal) (y : SignatureTree × List Terminal) → signature_at type ts ≡ Ok y → ReadsSignature b ts y
signature_sound b type reads ts y e =
    let u = bind_ok (need (mark_at operator.OpenParen ts)) (λ first. params_at type first.1 >>= λ p. (need (mark_at operator.CloseParen p.1) >>= λ z. (result_at type z.1 >>= λ r. Ok (Signed first.0 p.0 z.0 r.0, r.1)))) y e in
    let first = u.0 in
    let v = bind_ok (params_at type first.1) (λ p. need (mark_at operator.CloseParen p.1) >>= λ z. (result_at type z.1 >>= λ r. Ok (Signed first.0 p.0 z.0 r.0, r.1))) y u.2 in
    let p = v.0 in
    let w = bind_ok (need (mark_at operator.CloseParen p.1)) (λ z. result_at type z.1 >>= λ r. Ok (Signed first.0 p.0 z.0 r.0, r.1)) y v.2 in
    let z = w.0 in
    let o = bind_ok (result_at type z.1) (λ r. Ok (Signed first.0 p.0 z.0 r.0, r.1)) y w.2 in
    let ps = params_sound b type reads first.1 p v.1 in
    let r = result_sound b type reads z.1 o.0 o.1 in
    let same : (Signed first.0 p.0 z.0 o.0.0, o.0.1) ≡ y = cc (o.2) in
    let open_mark = mark operator.OpenParen first.0 in
    let close = mark operator.CloseParen z.0 in
    let path : ts ≡ open_mark ∷ ((spell_params p.0 ++ (close ∷ spell_result o.0.0)) ++ o.0.1) =
    mark_was operator.OpenParen ts first (need_ok (mark_at operator.OpenParen ts) first u.1)
    ∙ ap (λ l. open_mark ∷ l) (ps.spelled ∙ ap (λ l. spell_params p.0 ++ l) (mark_was operator.CloseParen p.1 z (need_ok (mark_at operator.CloseParen p.1) z w.1) ∙ ap (λ l. close ∷ l) r.spelled) ∙ sym (append_assoc (spell_params p.0) (close ∷ spell_result o.0.0) o.0.1)) in
    subst (ReadsSignature b ts) same (record { spelled = path; wf = (ps.wf, r.wf); low = omega (arith, ps.low, r.low) })

-- a signature takes terminals
pub spell_signature_some : (s : SignatureTree) → 0 < length (spell_signature s)
spell_signature_some (Signed first ps last r) = omega arith
