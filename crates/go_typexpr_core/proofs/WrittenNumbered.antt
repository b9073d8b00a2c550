-- Numbers of identifiers, counted along a table.
use Rattle.std.proofs.Common.{◌≡◌, ℕ, zero, suc, ◌+◌, ◌<◌, List, [], ◌∷◌, get_or, Some, None, refl, sym, ap, ◌∙◌, arith}
use Rattle.std.specs.Prelude.{if◌then◌else◌}
use Rattle.std.proofs.lemmas.Bool.{eq-eqb, ne_eqb}
use Rattle.go_term_core.specs.decl_core.declared.places.DeclKind.{DeclKind}
use Rattle.go_term_core.specs.decl_core.declared.places.Place.{Place}
use Rattle.go_term_core.specs.decl_core.Table.{IsAt, IsNowhere, Rise}
use Rattle.go_term_core.specs.decl_core.Tables.{offset_at}
use Rattle.go_typexpr_core.specs.written.Written.{InFile, number_from, written_member_place, member_place}

rise_behind : (p : Place) (ps : List Place) → Rise (p ∷ ps) → Rise ps
rise_behind p ps rise i j d less lt = rise (suc i) (suc j) d (omega (arith, less)) (omega (arith, lt))

-- the number of an identifier that stands at an offset
number_at : (n : ℕ) (ps : List Place) (offset k : ℕ) → Rise ps → IsAt ps offset k → number_from n ps offset ≡ Some (n + k)
number_at n [] offset k rise h = (let e : None ≡ Some offset = h in cc)
number_at n (p ∷ ps) offset zero rise h =
    let e : Some p.at ≡ Some offset = h in
    let same : p.at ≡ offset = cc in
    ap (λ b. if b then Some n else number_from (suc n) ps offset) (eq-eqb p.at offset same) ∙ ap Some (let e : n ≡ n + 0 = omega arith in e)
number_at n (p ∷ ps) offset (suc k) rise h =
    let at = offset_at ps k offset h in
    let here : (get_or ps k at.0).at ≡ offset = ap (λ q. q.at) at.2 ∙ at.3 in
    let less : p.at < (get_or ps k at.0).at = rise 0 (suc k) at.0 (omega arith) (omega (arith, at.1)) in
    ap (λ b. if b then Some n else number_from (suc n) ps offset) (ne_eqb p.at offset (λ s. omega (arith, less, here, s)))
    ∙ (number_at (suc n) ps offset k (rise_behind p ps rise) h ∙ ap Some (let e : suc n + k ≡ n + suc k = omega arith in e))

number_nowhere : (n : ℕ) (ps : List Place) (offset : ℕ) → IsNowhere ps offset → number_from n ps offset ≡ None
number_nowhere n [] offset h = refl
number_nowhere n (p ∷ ps) offset h =
    ap (λ b. if b then Some n else number_from (suc n) ps offset) (ne_eqb p.at offset (λ s. h zero (ap Some s)))
    ∙ number_nowhere (suc n) ps offset (λ k e. h (suc k) e)

pub place_at : (f : InFile) (kind : DeclKind) (offset k : ℕ) → Rise f.places → IsAt f.places offset k → written_member_place f kind offset (Some k) ≡ member_place f kind offset
place_at f kind offset k rise h = ap (written_member_place f kind offset) (sym (number_at 0 f.places offset k rise h ∙ ap Some (let e : 0 + k ≡ k = omega arith in e)))

pub place_nowhere : (f : InFile) (kind : DeclKind) (offset : ℕ) → IsNowhere f.places offset → written_member_place f kind offset None ≡ member_place f kind offset
place_nowhere f kind offset h = ap (written_member_place f kind offset) (sym (number_nowhere 0 f.places offset h))
