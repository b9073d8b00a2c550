-- Terminals that follow one another, and names that do.
use Rattle.std.proofs.Common.{ℕ, ◌+◌, ◌≤◌, List, [], ◌∷◌, ◌++◌, arith}
use Rattle.go_tree_nodes.specs.declared.names.Ident.{Ident}
use Rattle.go_tree_nodes.specs.Terminals.{Terminal, InOrder}

-- what is in order, and what is behind it
pub in_order_split : (ts us : List Terminal) (low high : ℕ) → InOrder low (ts ++ us) high → (middle : ℕ) × (InOrder low ts middle × InOrder middle us high)
in_order_split [] us low high h = (low, (omega arith, h))
in_order_split (t ∷ ts) us low high h =
    let rest = in_order_split ts us t.span.end high h.2 in
    (rest.0, ((h.0, h.1, rest.1.0), rest.1.1))

pub in_order_ends : (ts : List Terminal) (low high : ℕ) → InOrder low ts high → low ≤ high
in_order_ends [] low high h = h
in_order_ends (t ∷ ts) low high h = let rest = in_order_ends ts t.span.end high h.2 in omega (arith, h.0, h.1)

pub in_order_from : (a b high : ℕ) → a ≤ b → (ts : List Terminal) → InOrder b ts high → InOrder a ts high
in_order_from a b high h [] k = omega arith
in_order_from a b high h (t ∷ ts) k = (omega (arith, k.0), k.1, k.2)

pub in_order_join : (ts us : List Terminal) (low middle high : ℕ) → InOrder low ts middle → InOrder middle us high → InOrder low (ts ++ us) high
in_order_join [] us low middle high h k = in_order_from low middle high h us k
in_order_join (t ∷ ts) us low middle high h k = (h.0, h.1, in_order_join ts us t.span.end middle high h.2 k)

-- names follow one another between two places
abbrev pub AreInTurn : ℕ → List Ident → ℕ → Type 0
AreInTurn lo [] hi = lo ≤ hi
AreInTurn lo (x ∷ xs) hi = (lo ≤ x.span.start) × AreInTurn (x.span.start + 1) xs hi

pub turn_ends : (xs : List Ident) (lo hi : ℕ) → AreInTurn lo xs hi → lo ≤ hi
turn_ends [] lo hi h = h
turn_ends (x ∷ xs) lo hi h = omega (arith, h.0, turn_ends xs (x.span.start + 1) hi h.1)
