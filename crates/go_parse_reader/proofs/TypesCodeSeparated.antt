-- Items with commas between them, as far as they are read.
use Rattle.std.proofs.Common.{◌≡◌, List, [], ◌∷◌, ◌++◌, Ok, Err, refl, ap}
use Rattle.go_tree_nodes.specs.text_core.declared.span.Span.{Span}
use Rattle.go_tree_nodes.specs.Trees.{Separated, Then}
use Rattle.go_parse_reader.specs.types.mirrors.Marks.{Stuck, ◌>>=◌, Reading}

-- the items that are read, and the last of them given to what reads on; `part` is what each of the others is: a comma, and the
-- item behind it
abbrev pub with_front : {N T : Type 0} → (N → Span × T) → T → List N → (T → Reading (Separated T)) → Reading (Separated T)
with_front part x [] on = on x
with_front part x (n ∷ ns) on = with_front part (part n).1 ns on >>= λ y. Ok (Then x (part n).0 y.0, y.1)

pub front_along : {N T : Type 0} (part : N → Span × T) (x : T) (ns : List N) (f g : T → Reading (Separated T)) → ((t : T) → f t ≡ g t) → with_front part x ns f ≡ with_front part x ns g
front_along part x [] f g h = h x
front_along part x (n ∷ ns) f g h = ap (λ r. r >>= λ y. Ok (Then x (part n).0 y.0, y.1)) (front_along part (part n).1 ns f g h)

pub front_append : {N T : Type 0} (part : N → Span × T) (x : T) (ns : List N) (n : N) (on : T → Reading (Separated T)) → with_front part x (ns ++ (n ∷ [])) on ≡ with_front part x ns (λ t. on (part n).1 >>= λ y. Ok (Then t (part n).0 y.0, y.1))
front_append part x [] n on = refl
front_append part x (m ∷ ns) n on = ap (λ r. r >>= λ y. Ok (Then x (part m).0 y.0, y.1)) (front_append part (part m).1 ns n on)

pub front_err : {N T : Type 0} (part : N → Span × T) (x : T) (ns : List N) (f : Stuck) → with_front part x ns (λ t. Err f) ≡ Err f
front_err part x [] f = refl
front_err part x (n ∷ ns) f = ap (λ r. r >>= λ y. Ok (Then x (part n).0 y.0, y.1)) (front_err part (part n).1 ns f)
