-- What a turn of a loop over arguments adds.
use Rattle.std.proofs.Common.{◌≡◌, ℕ, ◌+◌, ◌<◌, Bool, true, false, ◌&&◌, List, [], ◌∷◌, ◌++◌, map, take, drop, length, get_or, refl, sym, ap, ◌∙◌, add-one, append_assoc}
use Rattle.std.specs.Prelude.{Option, Some, slice_get}
use Rattle.std.specs.List.{list_all}
use Rattle.std.proofs.lemmas.Option.{slice_get_within, get_or_from_slice_get}
use Rattle.std.proofs.Math.Seq.{take-suc}
use Rattle.std.proofs.lemmas.List.{map-append, drop_more}
use Rattle.go_denote_core.specs.declared.things.Argument.{Argument}
use Rattle.go_denote_core.specs.declared.things.Denoted.{Denoted}
use Rattle.go_denote_core.specs.Look.{Look}
use Rattle.go_denote_core.specs.Arguments.{argument_of, arguments_of}
use Rattle.go_denote_core.specs.Calls.{fits_parameter, all_fit}

-- one more of the first elements
taken_more : {X Y : Type 0} (f : X → Y) (xs : List X) (i : ℕ) (x : X) → slice_get xs i ≡ Some x → map f (take (i + 1) xs) ≡ map f (take i xs) ++ f x ∷ []
taken_more f xs i x at =
    rw (add-one, take-suc xs i x (slice_get_within xs i x at), get_or_from_slice_get xs i x x at) (map-append f (take i xs) (x ∷ []))

pub pushed_more : {X Y : Type 0} (f : X → Y) (xs : List X) (i : ℕ) (x : X) (y : Y) (done new : List Y)
    → slice_get xs i ≡ Some x → done ≡ map f (take i xs) → y ≡ f x → new ≡ done ++ y ∷ [] → new ≡ map f (take (i + 1) xs)
pushed_more f xs i x y done new at before this after = after ∙ (ap (λ l. l ++ y ∷ []) before ∙ (ap (λ z. map f (take i xs) ++ z ∷ []) this ∙ sym (taken_more f xs i x at)))

-- one of those that are left
pub left_less : {X Y : Type 0} (f : X → Y) (done : List Y) (x : X) (left more : List X) (all new : List Y) → left ≡ x ∷ more → done ++ map f left ≡ all → new ≡ done ++ f x ∷ [] → new ++ map f more ≡ all
left_less f done x left more all new is before after =
    ap (λ l. l ++ map f more) after ∙ (append_assoc done (f x ∷ []) (map f more) ∙ (ap (λ l. done ++ map f l) (sym is) ∙ before))

-- one argument, and its parameter
fit_turn : {T S D P : Type 0} (look : Look T S D P) (given : List (Argument T)) (params : List (Option T)) (i : ℕ) (argument : Argument T) (param : Option T)
    → i < length given → argument ≡ get_or given i argument → slice_get params i ≡ Some param
    → all_fit look (drop i given) (drop i params) ≡ (fits_parameter look argument param && all_fit look (drop (i + 1) given) (drop (i + 1) params))
fit_turn look given params i argument param lt is at =
    let within : i < length params = slice_get_within params i param at in
    let this : drop i params ≡ param ∷ drop (i + 1) params = drop_more params i param within ∙ ap (λ p. p ∷ drop (i + 1) params) (get_or_from_slice_get params i param param at) in
    let that : drop i given ≡ argument ∷ drop (i + 1) given = drop_more given i argument lt ∙ ap (λ a. a ∷ drop (i + 1) given) (sym is) in
    ap (λ l. all_fit look l (drop i params)) that ∙ ap (λ l. all_fit look (argument ∷ drop (i + 1) given) l) this

-- where one does not fit, and where it does

pub fit_stops : {T S D P : Type 0} (look : Look T S D P) (given : List (Argument T)) (params : List (Option T)) (i : ℕ) (argument : Argument T) (param : Option T) (good : Bool)
    → i < length given → argument ≡ get_or given i argument → slice_get params i ≡ Some param → good ≡ fits_parameter look argument param
    → all_fit look (drop i given) (drop i params) ≡ all_fit look given params → good ≡ false → false ≡ all_fit look given params
fit_stops look given params i argument param good lt is at good_is before bad =
    sym (sym before ∙ (fit_turn look given params i argument param lt is at ∙ ap (λ b. b && all_fit look (drop (i + 1) given) (drop (i + 1) params)) (sym good_is ∙ bad)))

pub fit_goes_on : {T S D P : Type 0} (look : Look T S D P) (given : List (Argument T)) (params : List (Option T)) (i : ℕ) (argument : Argument T) (param : Option T) (good : Bool)
    → i < length given → argument ≡ get_or given i argument → slice_get params i ≡ Some param → good ≡ fits_parameter look argument param
    → all_fit look (drop i given) (drop i params) ≡ all_fit look given params → good ≡ true → all_fit look (drop (i + 1) given) (drop (i + 1) params) ≡ all_fit look given params
fit_goes_on look given params i argument param good lt is at good_is before fine =
    sym (fit_turn look given params i argument param lt is at ∙ ap (λ b. b && all_fit look (drop (i + 1) given) (drop (i + 1) params)) (sym good_is ∙ fine)) ∙ before

-- one element
pub all_turn : {X : Type 0} (p : X → Bool) (xs : List X) (i : ℕ) (d : X) → i < length xs → list_all p (drop i xs) ≡ (p (get_or xs i d) && list_all p (drop (i + 1) xs))
all_turn p xs i d lt = ap (λ l. list_all p l) (drop_more xs i d lt)

-- a list that is not one member alone
pub not_alone : {T S D P : Type 0} (look : Look T S D P) (members : List (Denoted T S D)) → (length members ≡ 1 → ⊥) → map argument_of members ≡ arguments_of look members
not_alone look [] several = refl
not_alone look (member ∷ []) several = absurd (several refl)
not_alone look (first ∷ second ∷ more) several = refl
