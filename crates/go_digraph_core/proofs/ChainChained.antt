-- Chains.
use Rattle.std.proofs.Common.{◌≡◌, ℕ, inl, inr, List, [], ◌∷◌, ◌++◌, Option, Some, None, refl, sym, ◌∙◌, subst}
use Rattle.std.specs.List.{Contains, slice_get}
use Rattle.go_digraph_core.specs.chain.Chains.{ChainLeads, EndsAt}
use Rattle.go_digraph_core.specs.chain.Laws.{OneEnd}
use Rattle.go_digraph_core.specs.chain.mirrors.Known.{IsEndless, IsOnWay}

-- a step more
pub leads_on : (next : List (Option ℕ)) (i j k : ℕ) (path : List ℕ) → ChainLeads next i path j → slice_get next j ≡ Some (Some k) → ChainLeads next i (path ++ k ∷ []) k
leads_on next i j k [] h s = (let P : ℕ → Type 0 = λ x. slice_get next x ≡ Some (Some k) in subst P (sym h) s, refl)
leads_on next i j k (m ∷ path) h s = (h.0, leads_on next m j k path h.1 s)

-- two ways one behind the other
pub leads_along : (next : List (Option ℕ)) (i j k : ℕ) (path more : List ℕ) → ChainLeads next i path j → ChainLeads next j more k → ChainLeads next i (path ++ more) k
leads_along next i j k [] more h s = (let P : ℕ → Type 0 = λ x. ChainLeads next x more k in subst P (sym h) s)
leads_along next i j k (m ∷ path) more h s = (h.0, leads_along next m j k path more h.1 s)

-- what leads to a number with an end has this end
pub ends_along : (next : List (Option ℕ)) (i j k : ℕ) (path : List ℕ) → ChainLeads next i path j → EndsAt next j k → EndsAt next i k
ends_along next i j k path h e = (path ++ e.0, leads_along next i j k path e.0 h e.1, e.2)

pub no_end_before : (next : List (Option ℕ)) (i j : ℕ) → slice_get next i ≡ Some None → slice_get next i ≡ Some (Some j) → ⊥
no_end_before next i j h k = (let e = sym h ∙ k in cc)

-- the end of a chain is the end of what it passes
shared : (next : List (Option ℕ)) (i j k : ℕ) (path other : List ℕ) → ChainLeads next i path j → ChainLeads next i other k → slice_get next k ≡ Some None → EndsAt next j k
shared next i j k [] other h e z = (let P : ℕ → Type 0 = λ x. ChainLeads next x other k in (other, subst P h e, z))
shared next i j k (m ∷ path) [] h e z = (let P : ℕ → Type 0 = λ x. slice_get next x ≡ Some None in absurd (no_end_before next i m (subst P (sym e) z) h.0))
shared next i j k (m ∷ path) (n ∷ other) h e z =
    let two = sym h.0 ∙ e.0 in
    let mn : n ≡ m = (cc) in
    let P : ℕ → Type 0 = λ x. ChainLeads next x other k in
    shared next m j k path other h.1 (subst P mn e.1) z

pub shared_end : (next : List (Option ℕ)) (i j k : ℕ) (path : List ℕ) → ChainLeads next i path j → EndsAt next i k → EndsAt next j k
shared_end next i j k path h e = shared next i j k path e.0 h e.1 e.2

-- what leads to a number without an end has none
pub endless_along : (next : List (Option ℕ)) (i j : ℕ) (path : List ℕ) → ChainLeads next i path j → IsEndless next j → IsEndless next i
endless_along next i j path h z k e = z k (shared_end next i j k path h e)

stays : (next : List (Option ℕ)) (i j : ℕ) (path : List ℕ) → slice_get next i ≡ Some None → ChainLeads next i path j → i ≡ j
stays next i j [] z h = h
stays next i j (k ∷ path) z h = absurd (no_end_before next i k z h.0)

pub one_end : OneEnd
one_end next i j k e f =
    let g : EndsAt next j k = shared_end next i j k e.0 e.1 f in
    stays next j k g.0 e.2 g.1

-- a way that comes back to itself has no end
closed : (next : List (Option ℕ)) (way : List ℕ) (stop : ℕ) → ((i : ℕ) → Contains way i → IsOnWay next way stop i) → Contains way stop → (path : List ℕ) (i j : ℕ) → Contains way i → ChainLeads next i path j → slice_get next j ≡ Some None → ⊥
closed next way stop on there [] i j at h z =
    let P : ℕ → Type 0 = λ x. slice_get next x ≡ Some None in
    let o : IsOnWay next way stop i = on i at in
    no_end_before next i o.follower (subst P (sym h) z) o.follows
closed next way stop on there (m ∷ path) i j at h z =
    let o : IsOnWay next way stop i = on i at in
    let two = sym h.0 ∙ o.follows in
    let same : o.follower ≡ m = (cc) in
    let P : ℕ → Type 0 = λ x. Contains way x in
    let within : Contains way o.follower = elim o.within [ inl w ↦ w | inr e ↦ subst P (sym e) there ] in
    closed next way stop on there path m j (subst P same within) h.1 z

pub endless_way : (next : List (Option ℕ)) (way : List ℕ) (stop : ℕ) → ((i : ℕ) → Contains way i → IsOnWay next way stop i) → Contains way stop → (i : ℕ) → Contains way i → IsEndless next i
endless_way next way stop on there i at j e = closed next way stop on there e.0 i j at e.1 e.2
