-- Where heads end.
use Rattle.std.proofs.Common.{◌≡◌, ◌+◌, ◌<◌, ◌≤◌, ◌∙◌, ℕ, zero, suc, Bool, true, false, cond, Option, Some, None, List, [], ◌∷◌, ◌++◌, length, take, drop, get_or, refl, sym, ap, subst, arith, drop-cons, add-one, length-take}
use Rattle.std.proofs.lemmas.List.{drop_all, take-append-le}
use Rattle.go_lsp_core.specs.frames.Frames.{begins_with, ends_head, head_from, head_in, most_head}

pub head_step : (bs : List ℕ) (i : ℕ) → i < length bs → ends_head (drop i bs) ≡ false → head_from (i + 1) (drop (i + 1) bs) ≡ head_from i (drop i bs)
head_step bs i lt e =
    let b = get_or bs i 0 in
    let cut : drop i bs ≡ b ∷ drop (i + 1) bs = drop-cons bs i 0 lt ∙ ap (λ m. b ∷ drop m bs) (sym (add-one i)) in
    let no : ends_head (b ∷ drop (i + 1) bs) ≡ false = ap ends_head (sym cut) ∙ e in
    let step : head_from i (b ∷ drop (i + 1) bs) ≡ head_from (suc i) (drop (i + 1) bs) = ap (λ t. cond t (Some (i + 4)) (head_from (suc i) (drop (i + 1) bs))) no in
    ap (λ m. head_from m (drop (i + 1) bs)) (add-one i) ∙ (sym step ∙ ap (head_from i) (sym cut))

none_some : (e : ℕ) → ◌≡◌ {A = Option ℕ} None (Some e) → ⊥
none_some e h = subst (λ o. elim o as (λ _. Type 0) [ None ↦ Unit {0} | Some x ↦ ⊥ ]) h tt

-- a head that is found stays where it is, whatever comes behind
stable_more : (n e : ℕ) (t : Bool) (a b : Option ℕ) → (a ≡ Some e → b ≡ Some e) → cond t (Some (n + 4)) a ≡ Some e → cond t (Some (n + 4)) b ≡ Some e
stable_more n e true a b f h = h
stable_more n e false a b f h = f h

stable : (n e : ℕ) (bs more : List ℕ) → head_from n bs ≡ Some e → head_from n (bs ++ more) ≡ Some e
stable n e [] more h = absurd (none_some e h)
stable n e (a ∷ []) more h = absurd (none_some e h)
stable n e (a ∷ b ∷ []) more h = absurd (none_some e h)
stable n e (a ∷ b ∷ c ∷ []) more h = absurd (none_some e h)
stable n e (a ∷ b ∷ c ∷ d ∷ bs) more h =
    stable_more n e (ends_head (a ∷ b ∷ c ∷ d ∷ bs)) (head_from (suc n) (b ∷ c ∷ d ∷ bs)) (head_from (suc n) (b ∷ c ∷ d ∷ (bs ++ more))) (stable (suc n) e (b ∷ c ∷ d ∷ bs) more) h

pub some_some : (a b : ℕ) → ◌≡◌ {A = Option ℕ} (Some a) (Some b) → a ≡ b
some_some a b h = ap (λ o. elim o as (λ _. ℕ) [ None ↦ a | Some x ↦ x ]) h

within_more : (n e m : ℕ) (t : Bool) (a : Option ℕ) → 4 ≤ m → (a ≡ Some e → e ≤ n + m) → cond t (Some (n + 4)) a ≡ Some e → e ≤ n + m
within_more n e m true a le f h = let s = some_some (n + 4) e h in omega (arith, s, le)
within_more n e m false a le f h = f h

within : (n e : ℕ) (bs : List ℕ) → head_from n bs ≡ Some e → e ≤ n + length bs
within n e [] h = absurd (none_some e h)
within n e (a ∷ []) h = absurd (none_some e h)
within n e (a ∷ b ∷ []) h = absurd (none_some e h)
within n e (a ∷ b ∷ c ∷ []) h = absurd (none_some e h)
within n e (a ∷ b ∷ c ∷ d ∷ bs) h =
    within_more n e (length (a ∷ b ∷ c ∷ d ∷ bs)) (ends_head (a ∷ b ∷ c ∷ d ∷ bs)) (head_from (suc n) (b ∷ c ∷ d ∷ bs)) (omega arith)
    (λ k. (let w = within (suc n) e (b ∷ c ∷ d ∷ bs) k in omega (arith, w))) h

take_front : (m : ℕ) (xs more : List ℕ) → (rest : List ℕ) × (take m (xs ++ more) ≡ take m xs ++ rest)
take_front zero xs more = ([], refl)
take_front (suc m) [] more = (take (suc m) more, refl)
take_front (suc m) (x ∷ xs) more = let f = take_front m xs more in (f.0, ap (λ l. x ∷ l) f.1)

pub head_stays : (bs more : List ℕ) (e : ℕ) → head_in bs ≡ Some e → head_in (bs ++ more) ≡ Some e
head_stays bs more e h =
    let f = take_front most_head bs more in
    ap (head_from 0) f.1 ∙ stable 0 e (take most_head bs) f.0 h

pub head_within : (bs : List ℕ) (e : ℕ) → head_in bs ≡ Some e → e ≤ length bs
head_within bs e h = let w = within 0 e (take most_head bs) h in omega (arith, w, length-take most_head bs)

-- where the first bytes have no head, no more bytes make one
pub none_stays : (bs more : List ℕ) → most_head ≤ length bs → head_in bs ≡ None → head_in (bs ++ more) ≡ None
none_stays bs more le h = ap (head_from 0) (take-append-le most_head bs more le) ∙ h

pub begins_short : (name bytes : List ℕ) (i : ℕ) → i < length name → length bytes ≤ i → begins_with (drop i name) (drop i bytes) ≡ false
begins_short name bytes i lt le =
    let cut : drop i name ≡ get_or name i 0 ∷ drop (suc i) name = drop-cons name i 0 lt in
    let none : drop i bytes ≡ [] = drop_all i bytes le in
    ap (λ xs. begins_with xs (drop i bytes)) cut ∙ ap (begins_with (get_or name i 0 ∷ drop (suc i) name)) none

pub head_small : (bs : List ℕ) (e : ℕ) → head_in bs ≡ Some e → e ≤ most_head
head_small bs e h = let w = within 0 e (take most_head bs) h in omega (arith, w, length-take most_head bs)
