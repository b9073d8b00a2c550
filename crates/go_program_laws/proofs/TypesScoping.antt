-- What is in scope at a piece of a function is among what is declared before it in the blocks around it.
use Rattle.std.proofs.Common.{◌≡◌, ◌⊎◌, inl, inr, ℕ, ◌+◌, ◌<◌, ◌≤◌, true, false, List, [], ◌∷◌, ◌++◌, map, Option, subst, arith}
use Rattle.std.specs.Prelude.{nat_le, nat_lt}
use Rattle.std.proofs.lemmas.Bool.{and_parts, leb-true, ltb-true}
use Rattle.go_tree_nodes.specs.Terminals.{InOrder}
use Rattle.go_tree_nodes.proofs.InOrder.{in_order_ends}
use Rattle.go_tree_nodes.specs.declared.names.Ident.{Ident}
use Rattle.go_names_core.specs.local_core.Binding.{Local, bound, is_first, is_second, region_has}
use Rattle.go_names_core.specs.local_core.Denoted.{IsAmong}
use Rattle.go_names_core.specs.local_core.Law.{Rules, declared_from, law_out}
use Rattle.go_names_core.specs.local_core.Pieces.{piece_declares}
use Rattle.go_names_core.specs.local_core.Steps.{Piece, Steps, Done, Check, Declare, Inner, spell_piece}
use Rattle.go_names_core.specs.local_core.Parts.{IsPart, inside, law_parts}
use Rattle.go_names_core.specs.local_core.Placed.{Placed, placed_ends}
use Rattle.go_code_core.specs.fragments.Names.{CodeLooks}
use Rattle.go_meaning_laws.specs.fitting_sources.Fitting as fitting
use Rattle.go_program_laws.specs.types.Scope.{EachPiece, piece_slots}
use Rattle.go_program_laws.proofs.TypesChecks.{AreDeclaring}
use Rattle.go_program_laws.proofs.TypesSteps.{among_each, among_either, among_left, among_right, is_named}

pub slots_left : (ds es : List (Option ℕ)) (at : ℕ) → fitting.IsAmong ds at → fitting.IsAmong (ds ++ es) at
slots_left [] es at h = absurd h
slots_left (d ∷ ds) es at (inl e) = inl e
slots_left (d ∷ ds) es at (inr h) = inr (slots_left ds es at h)

pub slots_right : (ds es : List (Option ℕ)) (at : ℕ) → fitting.IsAmong es at → fitting.IsAmong (ds ++ es) at
slots_right [] es at h = h
slots_right (d ∷ ds) es at h = inr (slots_right ds es at h)

-- where a declaration means a variable that is declared at an offset
module _ {X N : Type 0} (rules : Rules X N) (beyond : List ℕ → Option X) (all : List (Local X)) (code : CodeLooks) (IsVariable : X → ℕ → Type 0) where
  abbrev pub Holds : Local X → Type 0
  Holds d = is_second all d.opens d.name d.at ≡ false

  -- what a piece declares is among its slots
  abbrev pub Slotted : Type 0
  Slotted =
      (o c from : ℕ) (p : Piece) (d : Local X) → IsAmong d all → Holds d → IsAmong d (declared_from o c from (rules.means (bound beyond all) (map (is_first all o) (piece_declares p)) p) 0 (piece_declares p))
      → (at : ℕ) → IsVariable d.means at → fitting.IsAmong (piece_slots code p) at

  -- what is in scope between two places is among these
  abbrev pub AreSeen : List (Option ℕ) → ℕ → ℕ → Type 0
  AreSeen ds lo hi = (place : ℕ) → lo ≤ place → place < hi → (d : Local X) → IsAmong d all → Holds d → region_has d place ≡ true → (at : ℕ) → IsVariable d.means at → fitting.IsAmong ds at

  -- a piece stands between two places
  pub record Stands (ds : List (Option ℕ)) (p : Piece) : Type 0 where
    pub low : ℕ
    pub high : ℕ
    pub order : InOrder low (spell_piece p) high
    pub seen : AreSeen ds low high

  -- each declaration is among these, or stands later, or its block is left
  abbrev pub Covers : ℕ → List (Option ℕ) → List (Local X) → Type 0
  Covers lo ds later = (d : Local X) → IsAmong d all → Holds d → (at : ℕ) → IsVariable d.means at → fitting.IsAmong ds at ⊎ (IsAmong d later ⊎ (d.closes ≤ lo))

  abbrev pub BeginBehind : ℕ → List (Local X) → Type 0
  BeginBehind hi later = (d : Local X) → IsAmong d later → hi ≤ d.from

  abbrev Laws : ℕ → ℕ → Steps → List (Local X)
  Laws o c steps = (law_out rules beyond all o c steps).declares

  abbrev Own : ℕ → ℕ → ℕ → Piece → List Ident → List (Local X)
  Own o c from p xs = declared_from o c from (rules.means (bound beyond all) (map (is_first all o) xs) p) 0 xs

  seen : (lo mid : ℕ) (ds : List (Option ℕ)) (later : List (Local X)) → Covers lo ds later → BeginBehind mid later → AreSeen ds lo mid
  seen lo mid ds later covers far place low high d there holds region at var =
      let r = and_parts (nat_le d.from place) (nat_lt place d.closes) region in
      let begun = leb-true d.from place r.0 in
      let still = ltb-true place d.closes r.1 in
      elim (covers d there holds at var) [
        | inl a ↦ a
        | inr k ↦ elim k [
          | inl j ↦ (let behind = far d j in absurd (omega (arith, behind, begun, high)))
          | inr e ↦ absurd (omega (arith, e, still, low))
        ]
      ]

  behind : (steps : Steps) (o c lo hi : ℕ) (later : List (Local X)) → o < lo → Placed lo hi steps → BeginBehind hi later → BeginBehind lo (Laws o c steps ++ later)
  behind steps o c lo hi later l placed far d h = elim (among_either (Laws o c steps) later d h) [
    | inl own ↦ (among_each (IsPart X o c lo hi) (Laws o c steps) d (law_parts X N rules beyond all steps o c lo hi l placed) own).from_lo
    | inr k ↦ (let ends = placed_ends steps lo hi placed in let f = far d k in omega (arith, ends, f))
  ]

  module _ (slotted : Slotted) where
    declared : (o c lo from : ℕ) (p : Piece) (xs : List Ident) (ds : List (Option ℕ)) (rest later : List (Local X)) → xs ≡ piece_declares p → lo ≤ from → Covers lo ds ((Own o c from p xs ++ rest) ++ later) → Covers from (piece_slots code p ++ ds) (rest ++ later)
    declared o c lo from p xs ds rest later same le covers d there holds at var = elim (covers d there holds at var) [
      | inl a ↦ inl (slots_right (piece_slots code p) ds at a)
      | inr k ↦ elim k [
        | inl j ↦ elim (among_either (Own o c from p xs ++ rest) later d j) [
          | inl b ↦ elim (among_either (Own o c from p xs) rest d b) [
            | inl own ↦ inl (slots_left (piece_slots code p) ds at (slotted o c from p d there holds (subst (λ ys. IsAmong d (Own o c from p ys)) same own) at var))
            | inr r ↦ inr (inl (among_left rest later d r))
          ]
          | inr f ↦ inr (inl (among_right rest later d f))
        ]
        | inr e ↦ inr (inr (omega (arith, e, le)))
      ]
    ]

    own_behind : (o c from : ℕ) (p : Piece) (xs : List Ident) (rest later : List (Local X)) → BeginBehind from (rest ++ later) → BeginBehind from ((Own o c from p xs ++ rest) ++ later)
    own_behind o c from p xs rest later far d h = elim (among_either (Own o c from p xs ++ rest) later d h) [
      | inl b ↦ elim (among_either (Own o c from p xs) rest d b) [
        | inl own ↦ (let is = (is_named o c from (rules.means (bound beyond all) (map (is_first all o) xs) p) 0 xs d own).begins in omega (arith, is))
        | inr r ↦ far d (among_left rest later d r)
      ]
      | inr f ↦ far d (among_right rest later d f)
    ]

    pub scoped : (steps : Steps) (o c lo hi : ℕ) (ds : List (Option ℕ)) (later : List (Local X)) → o < lo → Placed lo hi steps → AreDeclaring steps → BeginBehind hi later → Covers lo ds (Laws o c steps ++ later) → EachPiece Stands code ds steps
    scoped Done o c lo hi ds later l placed named far covers = tt
    scoped (Check p rest) o c lo hi ds later l placed named far covers =
        let ends = in_order_ends (spell_piece p) lo placed.0 placed.1.0 in
        let on : o < placed.0 = omega (arith, l, ends) in
        let next : Covers placed.0 ds (Laws o c rest ++ later) = λ d there holds at var. elim (covers d there holds at var) [
          | inl a ↦ inl a
          | inr k ↦ elim k [
            | inl j ↦ inr (inl j)
            | inr e ↦ inr (inr (omega (arith, e, ends)))
          ]
        ] in (
          record { low = lo; high = placed.0; order = placed.1.0; seen = seen lo placed.0 ds (Laws o c rest ++ later) covers (behind rest o c placed.0 hi later on placed.1.1 far) },
          scoped rest o c placed.0 hi ds later on placed.1.1 named.1 far next,
        )
    scoped (Declare m from p xs rest) o c lo hi ds later l placed named far covers =
        let ends = in_order_ends (spell_piece p) lo from placed.0 in
        let on : o < from = omega (arith, l, ends) in
        let rest_behind : BeginBehind from (Laws o c rest ++ later) = behind rest o c from hi later on placed.2 far in (
          record { low = lo; high = from; order = placed.0; seen = seen lo from ds ((Own o c from p xs ++ Laws o c rest) ++ later) covers (own_behind o c from p xs (Laws o c rest) later rest_behind) },
          scoped rest o c from hi (piece_slots code p ++ ds) later on placed.2 named.1 far (declared o c lo from p xs ds (Laws o c rest) later named.0 ends covers),
        )
    scoped (Inner o' c' steps rest) o c lo hi ds later l placed named far covers =
        let starts = placed.0 in
        let ends = placed_ends steps (o' + 1) c' placed.1 in
        let begun : o' < o' + 1 = omega arith in
        let on : o < c' = omega (arith, l, starts, ends) in
        let inner : Covers (o' + 1) ds (Laws o' c' steps ++ (Laws o c rest ++ later)) = λ d there holds at var. elim (covers d there holds at var) [
          | inl a ↦ inl a
          | inr k ↦ elim k [
            | inl j ↦ inr (inl (turned (Laws o' c' steps) (Laws o c rest) later d j))
            | inr e ↦ inr (inr (omega (arith, e, starts)))
          ]
        ] in
        let outer : Covers c' ds (Laws o c rest ++ later) = λ d there holds at var. elim (covers d there holds at var) [
          | inl a ↦ inl a
          | inr k ↦ elim k [
            | inl j ↦ elim (among_either (Laws o' c' steps) (Laws o c rest ++ later) d (turned (Laws o' c' steps) (Laws o c rest) later d j)) [
              | inl own ↦ inr (inr (inside X o' c' d (among_each (IsPart X o' c' (o' + 1) c') (Laws o' c' steps) d (law_parts X N rules beyond all steps o' c' (o' + 1) c' begun placed.1) own)).2)
              | inr r ↦ inr (inl r)
            ]
            | inr e ↦ inr (inr (omega (arith, e, starts, ends)))
          ]
        ] in (
          scoped steps o' c' (o' + 1) c' ds (Laws o c rest ++ later) begun placed.1 named.0 (behind rest o c c' hi later on placed.2 far) inner,
          scoped rest o c c' hi ds later on placed.2 named.1 far outer,
        )
      where
        turned : (xs ys zs : List (Local X)) (d : Local X) → IsAmong d ((xs ++ ys) ++ zs) → IsAmong d (xs ++ (ys ++ zs))
        turned [] ys zs d h = h
        turned (x ∷ xs) ys zs d (inl e) = inl e
        turned (x ∷ xs) ys zs d (inr h) = inr (turned xs ys zs d h)
