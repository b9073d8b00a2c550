-- Lists of pieces, and texts that are compared by what stands in front.
use Rattle.std.proofs.Common.{◌≡◌, ℕ, suc, ◌+◌, ◌<◌, ◌≤◌, false, List, [], ◌∷◌, ◌++◌, length, take, drop, get_or, refl, sym, ap, ◌∙◌, arith, append_assoc, append-nil, Ordering}
use Rattle.std.specs.declared.cmp.Ordering.TheVariants.{Less, Equal, Greater}
use Rattle.std.specs.List.{concat}
use Rattle.std.specs.Ordering.{nat_cmp, ordering_then, is_eq}
use Rattle.std.specs.Cmp.Lexicographic.{slice_cmp}
use Rattle.std.proofs.Math.Seq.{drop-cons}
use Rattle.std.proofs.lemmas.List.{take_more, take_all, length-append}
use Rattle.std.proofs.lemmas.List.Folds.{concat-append}
use Rattle.std.proofs.lemmas.Map.Text.{is_eq-slice_cmp}
use Rattle.go_constant_core.specs.Values.{text_same}

-- one piece more of those in front
pub concat_next : (xs : List (List ℕ)) (i : ℕ) (x : List ℕ) → i < length xs → x ≡ get_or xs i x → concat (take (i + 1) xs) ≡ concat (take i xs) ++ x
concat_next xs i x lt is =
    ap concat (take_more xs i x lt)
    ∙ (concat-append (take i xs) (get_or xs i x ∷ [])
    ∙ (ap (λ (l : List ℕ). concat (take i xs) ++ l) (append-nil (get_or xs i x)) ∙ ap (λ (l : List ℕ). concat (take i xs) ++ l) (sym is)))

-- what stands from one piece on
pub concat_here : (xs : List (List ℕ)) (i : ℕ) (x : List ℕ) → i < length xs → x ≡ get_or xs i x → concat (drop i xs) ≡ x ++ concat (drop (i + 1) xs)
concat_here xs i x lt is =
    let e : suc i ≡ i + 1 = omega arith in
    ap concat (drop-cons xs i x lt)
    ∙ (ap (λ (l : List ℕ). l ++ concat (drop (suc i) xs)) (sym is) ∙ ap (λ (n : ℕ). x ++ concat (drop n xs)) e)

then_assoc : (o p q : Ordering) → ordering_then o (ordering_then p q) ≡ ordering_then (ordering_then o p) q
then_assoc Less p q = refl
then_assoc Equal p q = refl
then_assoc Greater p q = refl

-- texts that begin with as many bytes
pub compared_front : (a b xs ys : List ℕ) → length a ≡ length b → slice_cmp nat_cmp (a ++ xs) (b ++ ys) ≡ ordering_then (slice_cmp nat_cmp a b) (slice_cmp nat_cmp xs ys)
compared_front [] [] xs ys same = refl
compared_front [] (y ∷ b) xs ys same = absurd (omega arith)
compared_front (x ∷ a) [] xs ys same = absurd (omega arith)
compared_front (x ∷ a) (y ∷ b) xs ys same =
    let less : length a ≡ length b = omega arith in
    ap (λ (o : Ordering). ordering_then (nat_cmp x y) o) (compared_front a b xs ys less)
    ∙ then_assoc (nat_cmp x y) (slice_cmp nat_cmp a b) (slice_cmp nat_cmp xs ys)

-- lists that get one more

pub one_more : (old new : List (List ℕ)) (x : List ℕ) → new ≡ old ++ x ∷ [] → concat new ≡ concat old ++ x
one_more old new x is = ap concat is ∙ (concat-append old (x ∷ []) ∙ ap (λ (l : List ℕ). concat old ++ l) (append-nil x))

pub two_more : (old mid new f b bs : List (List ℕ)) (x y : List ℕ) → x ≡ concat f → mid ≡ old ++ x ∷ [] → bs ≡ b → y ≡ concat bs → new ≡ mid ++ y ∷ [] → concat new ≡ concat old ++ (concat f ++ concat b)
two_more old mid new f b bs x y of_x first same of_y second =
    one_more mid new y second
    ∙ (ap (λ (l : List ℕ). l ++ y) (one_more old mid x first)
    ∙ (append_assoc (concat old) x y ∙ ap (λ (l : List ℕ). concat old ++ l) (ap (λ (l : List ℕ). l ++ y) of_x ∙ ap (λ (l : List ℕ). concat f ++ l) (of_y ∙ ap concat same))))

pub all_more : (old new f b all : List (List ℕ)) (x : List ℕ) (i : ℕ) → length b ≤ i → all ≡ f ++ take i b → x ≡ concat all → new ≡ old ++ x ∷ [] → concat new ≡ concat old ++ (concat f ++ concat b)
all_more old new f b all x i past so_far of_x more =
    one_more old new x more
    ∙ ap (λ (l : List ℕ). concat old ++ l) (of_x ∙ (ap concat (so_far ∙ ap (λ (l : List (List ℕ)). f ++ l) (take_all i b past)) ∙ concat-append f b))

-- two lists, of which the pieces become one that meet
pub met_pieces : (a b front back ps all : List (List ℕ)) (last first both : List ℕ) → a ≡ front ++ last ∷ [] → b ≡ first ∷ back → ps ≡ front → both ≡ last ++ first → all ≡ ps ++ both ∷ []
    → concat all ++ concat back ≡ concat a ++ concat b
met_pieces a b front back ps all last first both of_a of_b same joined more =
    let grown : concat all ≡ concat front ++ (last ++ first) = one_more ps all both more ∙ (ap (λ (l : List (List ℕ)). concat l ++ both) same ∙ ap (λ (l : List ℕ). concat front ++ l) joined) in
    ap (λ (l : List ℕ). l ++ concat back) grown
    ∙ (ap (λ (l : List ℕ). l ++ concat back) (sym (append_assoc (concat front) last first))
    ∙ (append_assoc (concat front ++ last) first (concat back)
    ∙ (ap (λ (l : List ℕ). l ++ (first ++ concat back)) (sym (one_more front a last of_a)) ∙ ap (λ (l : List ℕ). concat a ++ l) (sym (ap concat of_b)))))

-- two lists, by the last of the one and the first of the other
pub met_lists : (a b front back : List (List ℕ)) (last first : List ℕ) → a ≡ front ++ last ∷ [] → b ≡ first ∷ back → (concat front ++ last) ++ (first ++ concat back) ≡ concat a ++ concat b
met_lists a b front back last first of_a of_b =
    ap (λ (l : List ℕ). l ++ (first ++ concat back)) (sym (one_more front a last of_a)) ∙ ap (λ (l : List ℕ). concat a ++ l) (sym (ap concat of_b))

-- a front, two that were joined, and a back
pub between : (none fs mid new front back : List (List ℕ)) (p q last first : List ℕ) → none ≡ [] → fs ≡ none ++ front → p ≡ last → q ≡ first → concat mid ≡ concat fs ++ (p ++ q) → new ≡ mid ++ back
    → concat new ≡ (concat front ++ last) ++ (first ++ concat back)
between none fs mid new front back p q last first empty of_fs of_p of_q of_mid more =
    let start : concat fs ≡ concat front = ap concat (of_fs ∙ ap (λ (l : List (List ℕ)). l ++ front) empty) in
    let inner : concat mid ≡ concat front ++ (last ++ first) =
    of_mid ∙ (ap (λ (l : List ℕ). l ++ (p ++ q)) start ∙ (ap (λ (l : List ℕ). concat front ++ (l ++ q)) of_p ∙ ap (λ (l : List ℕ). concat front ++ (last ++ l)) of_q)) in
    ap concat more
    ∙ (concat-append mid back
    ∙ (ap (λ (l : List ℕ). l ++ concat back) (inner ∙ sym (append_assoc (concat front) last first)) ∙ append_assoc (concat front ++ last) first (concat back)))

pub add_next : (old now new : List ℕ) (ps : List (List ℕ)) (i : ℕ) (p bytes : List ℕ) → i < length ps → p ≡ get_or ps i p → now ≡ old ++ concat (take i ps) → bytes ≡ p → new ≡ now ++ bytes
    → new ≡ old ++ concat (take (i + 1) ps)
add_next old now new ps i p bytes lt is so_far same more =
    more
    ∙ (ap (λ (l : List ℕ). l ++ bytes) so_far
    ∙ (append_assoc old (concat (take i ps)) bytes ∙ ap (λ (l : List ℕ). old ++ l) (ap (λ (l : List ℕ). concat (take i ps) ++ l) same ∙ sym (concat_next ps i p lt is))))

pub next_of : (now new : List ℕ) (ps : List (List ℕ)) (i : ℕ) (p bytes : List ℕ) → i < length ps → p ≡ get_or ps i p → now ≡ concat (take i ps) → bytes ≡ p → new ≡ now ++ bytes → new ≡ concat (take (i + 1) ps)
next_of now new ps i p bytes lt is so_far same more =
    more ∙ (ap (λ (l : List ℕ). l ++ bytes) so_far ∙ (ap (λ (l : List ℕ). concat (take i ps) ++ l) same ∙ sym (concat_next ps i p lt is)))

-- where the next byte stands

pub found_here : (bytes blocks : List ℕ) (more rest pieces : List (List ℕ)) (piece : List ℕ) → bytes ≡ piece → rest ≡ piece ∷ more → concat rest ≡ concat pieces → bytes ++ (concat more ++ blocks) ≡ concat pieces ++ blocks
found_here bytes blocks more rest pieces piece same is so_far =
    sym (append_assoc bytes (concat more) blocks)
    ∙ ap (λ (l : List ℕ). l ++ blocks) (ap (λ (l : List ℕ). l ++ concat more) same ∙ (sym (ap concat is) ∙ so_far))

-- nothing stood here
pub passed_by : (piece : List ℕ) (more rest pieces : List (List ℕ)) → piece ≡ [] → rest ≡ piece ∷ more → concat rest ≡ concat pieces → concat more ≡ concat pieces
passed_by piece more rest pieces none is so_far = sym (ap (λ (l : List ℕ). l ++ concat more) none) ∙ (sym (ap concat is) ∙ so_far)

none_is : (xs : List (List ℕ)) → length xs ≡ 0 → concat xs ≡ []
none_is [] h = refl
none_is (x ∷ xs) h = absurd (omega arith)

pub none_left : (rest pieces : List (List ℕ)) → length rest ≡ 0 → concat rest ≡ concat pieces → concat pieces ≡ []
none_left rest pieces h so_far = sym so_far ∙ none_is rest h

-- in a block
pub found_in : (left inside block : List ℕ) (more rest blocks : List (List ℕ)) → left ≡ inside ++ concat more → inside ≡ block → rest ≡ block ∷ more → concat rest ≡ concat blocks → left ≡ concat blocks
found_in left inside block more rest blocks of_left same is so_far =
    of_left ∙ (ap (λ (l : List ℕ). l ++ concat more) same ∙ (sym (ap concat is) ∙ so_far))

-- texts that are compared from here on

ordering_less : (xs ys : Ordering) → xs ≡ Less → ordering_then xs ys ≡ Less
ordering_less xs ys h = ap (λ (o : Ordering). ordering_then o ys) h

ordering_greater : (xs ys : Ordering) → xs ≡ Greater → ordering_then xs ys ≡ Greater
ordering_greater xs ys h = ap (λ (o : Ordering). ordering_then o ys) h

-- the front of one and the front of another, and what is behind each
pub turned : (x y p q a b v w : List ℕ) (all : Ordering) → x ≡ a ++ v → y ≡ b ++ w → length a ≡ length b → slice_cmp nat_cmp (x ++ p) (y ++ q) ≡ all
    → ordering_then (slice_cmp nat_cmp a b) (slice_cmp nat_cmp (v ++ p) (w ++ q)) ≡ all
turned x y p q a b v w all of_x of_y same so_far =
    sym (compared_front a b (v ++ p) (w ++ q) same)
    ∙ (ap (λ (l : List ℕ). slice_cmp nat_cmp l (b ++ (w ++ q))) (sym (append_assoc a v p) ∙ ap (λ (l : List ℕ). l ++ p) (sym of_x))
    ∙ (ap (λ (l : List ℕ). slice_cmp nat_cmp (x ++ p) l) (sym (append_assoc b w q) ∙ ap (λ (l : List ℕ). l ++ q) (sym of_y)) ∙ so_far))

pub turned_less : (x y p q a b v w : List ℕ) (all : Ordering) → x ≡ a ++ v → y ≡ b ++ w → length a ≡ length b → slice_cmp nat_cmp (x ++ p) (y ++ q) ≡ all → Less ≡ slice_cmp nat_cmp a b → Less ≡ all
turned_less x y p q a b v w all of_x of_y same so_far h =
    sym (ordering_less (slice_cmp nat_cmp a b) (slice_cmp nat_cmp (v ++ p) (w ++ q)) (sym h)) ∙ turned x y p q a b v w all of_x of_y same so_far

pub turned_greater : (x y p q a b v w : List ℕ) (all : Ordering) → x ≡ a ++ v → y ≡ b ++ w → length a ≡ length b → slice_cmp nat_cmp (x ++ p) (y ++ q) ≡ all → Greater ≡ slice_cmp nat_cmp a b → Greater ≡ all
turned_greater x y p q a b v w all of_x of_y same so_far h =
    sym (ordering_greater (slice_cmp nat_cmp a b) (slice_cmp nat_cmp (v ++ p) (w ++ q)) (sym h)) ∙ turned x y p q a b v w all of_x of_y same so_far

pub turned_equal : (x y p q a b v w s t : List ℕ) (all : Ordering) → x ≡ a ++ v → y ≡ b ++ w → length a ≡ length b → slice_cmp nat_cmp (x ++ p) (y ++ q) ≡ all → Equal ≡ slice_cmp nat_cmp a b → s ≡ v ++ p → t ≡ w ++ q
    → slice_cmp nat_cmp s t ≡ all
turned_equal x y p q a b v w s t all of_x of_y same so_far h of_s of_t =
    ap (λ (l : List ℕ). slice_cmp nat_cmp l t) of_s
    ∙ (ap (λ (l : List ℕ). slice_cmp nat_cmp (v ++ p) l) of_t
    ∙ (ap (λ (o : Ordering). ordering_then o (slice_cmp nat_cmp (v ++ p) (w ++ q))) h ∙ turned x y p q a b v w all of_x of_y same so_far))

-- one of them ends
pub ended : (x y p q : List ℕ) (all : Ordering) → (0 < length x → 0 < length y → ⊥) → (length x ≡ 0 → x ++ p ≡ []) → (length y ≡ 0 → y ++ q ≡ []) → slice_cmp nat_cmp (x ++ p) (y ++ q) ≡ all → slice_cmp nat_cmp x y ≡ all
ended [] [] p q all none one other so_far =
    ap (λ (l : List ℕ). slice_cmp nat_cmp l []) (sym (one refl)) ∙ (ap (λ (l : List ℕ). slice_cmp nat_cmp ([] ++ p) l) (sym (other refl)) ∙ so_far)
ended [] (b ∷ y) p q all none one other so_far = ap (λ (l : List ℕ). slice_cmp nat_cmp l (b ∷ (y ++ q))) (sym (one refl)) ∙ so_far
ended (a ∷ x) [] p q all none one other so_far = ap (λ (l : List ℕ). slice_cmp nat_cmp (a ∷ (x ++ p)) l) (sym (other refl)) ∙ so_far
ended (a ∷ x) (b ∷ y) p q all none one other so_far = absurd (none (omega arith) (omega arith))

-- what is left is shorter
pub shorter : (x p v s : List ℕ) (n : ℕ) → length v + n ≡ length x → 0 < n → s ≡ v ++ p → length s < length (x ++ p)
shorter x p v s n less some is = omega (arith, less, some, ap length is, length-append v p, length-append x p)

-- whether they are the same

pub same_text : (o : Ordering) (x y a b : List ℕ) → o ≡ slice_cmp nat_cmp x y → x ≡ a → y ≡ b → is_eq o ≡ text_same a b
same_text o x y a b h p q = ap is_eq h ∙ (is_eq-slice_cmp x y ∙ (λ j. text_same (p j) (q j)))

apart : (o : Ordering) → (o ≡ Equal → ⊥) → is_eq o ≡ false
apart Less h = refl
apart Equal h = absurd (h refl)
apart Greater h = refl

pub other_text : (o : Ordering) (x y a b : List ℕ) → (o ≡ Equal → ⊥) → o ≡ slice_cmp nat_cmp x y → x ≡ a → y ≡ b → false ≡ text_same a b
other_text o x y a b never h p q = sym (apart o never) ∙ same_text o x y a b h p q
