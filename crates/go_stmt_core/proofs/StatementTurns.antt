-- What a turn of a loop over targets and values adds.
use Rattle.std.proofs.Common.{◌≡◌, ℕ, ◌+◌, ◌<◌, Bool, ◌&&◌, List, drop, length, get_or, ap}
use Rattle.std.specs.List.{list_all}
use Rattle.std.proofs.lemmas.List.{drop_more}

-- one element
pub all_turn : {X : Type 0} (p : X → Bool) (xs : List X) (i : ℕ) (d : X) → i < length xs → list_all p (drop i xs) ≡ (p (get_or xs i d) && list_all p (drop (i + 1) xs))
all_turn p xs i d lt = ap (λ l. list_all p l) (drop_more xs i d lt)
