-- What is told of a name is what it denotes.
use Rattle.std.proofs.Common.{◌≡◌, ℕ, Bool, true, false, List, [], get_or, Some, None, Result, Ok, Err, if◌then◌else◌, refl, sym, ap, subst, inl, inr}
use Rattle.std.specs.Borrow.{Bor}
use Rattle.go_path_core.specs.text_core.Text.{is_blank}
use Rattle.go_path_core.specs.text_core.declared.rule.Rule.{Rule}
use Rattle.go_path_core.specs.text_core.declared.rule.Rule.TheVariants as rules
use Rattle.go_term_core.specs.Terms.{Term, NoType, Predeclared, ErrorType, Defined, PointerTo, StructOf, InterfaceOf}
use Rattle.go_embed_core.specs.table_core.Entries.{Entry, EntryLook, find_entry, underlying_in}
use Rattle.go_term_core.specs.declared.settling.kind.Kind.TheVariants as kinds
use Rattle.go_term_core.specs.settling.Settled.{kind_of_term}
use Rattle.go_embed_core.specs.declared.member.Member.{Member}
use Rattle.go_embed_core.specs.OwnersShown.{found_shown}
use Rattle.go_select_core.specs.declared.levels.level.Reached.{Reached}
use Rattle.go_select_core.specs.declared.levels.search.Selected.{Selected}
use Rattle.go_select_core.specs.levels.Paths.{IsSelected}
use Rattle.go_select_core.specs.levels.Selectors.{In, searched, searched_under, unless_refused, term_kind_in, ambiguous, hidden, absent, IsSelectorAnswer}
use Rattle.go_select_core.specs.levels.mirrors.Searches.{IsFoundOrNot}
use Rattle.go_select_core.proofs.LevelsAnswering.{answers}
use Rattle.go_select_core.proofs.LevelsListLemmas.{at_within}
use Rattle.go_select_core.specs.declared.names.Known.{Known}
use Rattle.go_select_core.specs.declared.names.Known.TheVariants.{One, More}
use Rattle.go_select_core.specs.mirrors.Names.{Identifier, identifier_of, known_of}
use Rattle.go_select_core.specs.mirrors.Listings.{IsWithin}
use Rattle.go_select_core.specs.surveys.mirrors.Walks.{IsDenotedSo, AreDenoted}
use Rattle.go_select_core.specs.surveys.mirrors.Seen.{seen_of, has_word, has_hidden}
use Rattle.go_select_core.specs.surveys.mirrors.Told.{IsSpelledSo, IsTold, IsReached, operand_type}
use Rattle.go_select_core.proofs.SurveysNoting.{Entries}
use Rattle.go_select_core.proofs.SurveysSpelling.{spelled_so}

-- 1. What is kept.

pub told : (es : List Entry) (t : Term) (from : List ℕ) (paths : List (List ℕ)) (types : List Reached) (ns : List (Identifier × Known)) (known : Entries) (words : List (Bor (List ℕ))) → term_kind_in (find_entry es) t ≡ kinds.Other
    → AreDenoted (find_entry es) t paths types ns → ((n : List ℕ) → seen_of known n ≡ known_of ns (identifier_of n from)) → ((n : List ℕ) → has_word words n ≡ has_hidden ns n) → IsTold es t from paths types known words
told es t from paths types ns known words plain w seen spelt =
    record {
      plain = plain;
      sized = w.sized;
      each = λ name. subst (λ o. IsDenotedSo (find_entry es) t name from paths types o) (sym (seen name)) (w.each name from);
      spelled = λ name. subst (λ b. IsSpelledSo (find_entry es) t name (seen_of known name) b) (sym (spelt name))
          (subst (λ o. IsSpelledSo (find_entry es) t name o (has_hidden ns name)) (sym (seen name)) (spelled_so (find_entry es) t name from paths types ns w));
    }

-- 2. Where it is searched.

under : (look : EntryLook) (t u : Term) → kind_of_term u ≡ kinds.Other → In t false ≡ searched_under look t u
under look t NoType h = let z : kinds.Nothing ≡ kinds.Other = h in (cc)
under look t (Predeclared b) h = refl
under look t ErrorType h = refl
under look t (Defined k) h = refl
under look t (PointerTo b) h = let z : kinds.Pointer ≡ kinds.Other = h in (cc)
under look t (StructOf path fs) h = refl
under look t (InterfaceOf path ms) h = refl

searched_plain : (look : EntryLook) (t : Term) → term_kind_in look t ≡ kinds.Other → In t false ≡ searched look t
searched_plain look NoType h = let z : kinds.Nothing ≡ kinds.Other = h in (cc)
searched_plain look (Predeclared b) h = refl
searched_plain look ErrorType h = refl
searched_plain look (Defined k) h = under look (Defined k) (underlying_in look (Defined k)) h
searched_plain look (PointerTo b) h = let z : kinds.Pointer ≡ kinds.Other = h in (cc)
searched_plain look (StructOf path fs) h = refl
searched_plain look (InterfaceOf path ms) h = refl

searched_starred : (look : EntryLook) (t : Term) → term_kind_in look t ≡ kinds.Other → In t true ≡ searched look (PointerTo t)
searched_starred look t h = sym (ap (λ k. unless_refused k (In t true)) h)

pub operand_searched : (look : EntryLook) (t : Term) (by_pointer : Bool) → term_kind_in look t ≡ kinds.Other → In t by_pointer ≡ searched look (operand_type by_pointer t)
operand_searched look t false h = searched_plain look t h
operand_searched look t true h = searched_starred look t h

-- 3. What is told of a name.

module _ (es : List Entry) (t : Term) (from : List ℕ) (paths : List (List ℕ)) (types : List Reached) (known : Entries) (words : List (Bor (List ℕ))) (told : IsTold es t from paths types known words) (name : List ℕ) where
  of_known : (k : Known) → seen_of known name ≡ Some k → IsDenotedSo (find_entry es) t name from paths types (Some k)
  of_known k e = subst (IsDenotedSo (find_entry es) t name from paths types) e (told.each name)

  pub known_within : (k : Known) → seen_of known name ≡ Some k → IsWithin types k
  known_within (One n m) e = let d = of_known (One n m) e in at_within types n d.0 d.1
  known_within More e = tt

  found_known : (k : Known) (by_pointer : Bool) (r : Result Selected Rule) → seen_of known name ≡ Some k → IsReached paths types by_pointer k r → IsFoundOrNot (find_entry es) (In t by_pointer) name from r
  found_known (One n m) by_pointer (Ok s) e h =
      let d = of_known (One n m) e in
      let there : IsSelected (find_entry es) t name from s.path d.0.pointer (found_shown s.member) =
      subst (λ p. IsSelected (find_entry es) t name from p d.0.pointer (found_shown s.member)) (sym h.1) (subst (λ (q : Member). IsSelected (find_entry es) t name from (get_or paths n []) d.0.pointer (found_shown q)) (sym h.0) d.2) in
      (d.0.pointer, there, h.2 d.0 d.1)
  found_known (One n m) by_pointer (Err rule) e h = inl h
  found_known More by_pointer (Ok s) e h = absurd h
  found_known More by_pointer (Err rule) e h = subst (λ q. IsFoundOrNot (find_entry es) (In t by_pointer) name from (Err q)) (sym h) (inr (ambiguous (of_known More e)))

  found_none : (by_pointer b : Bool) → seen_of known name ≡ None → has_word words name ≡ b → IsFoundOrNot (find_entry es) (In t by_pointer) name from (Err (if b then rules.S3 else rules.S1))
  found_none by_pointer b e w = by b (subst (λ o. IsSpelledSo (find_entry es) t name o b) e (subst (λ x. IsSpelledSo (find_entry es) t name (seen_of known name) x) w (told.spelled name)))
    where
      none : IsDenotedSo (find_entry es) t name from paths types None
      none = subst (IsDenotedSo (find_entry es) t name from paths types) e (told.each name)

      by : (x : Bool) → IsSpelledSo (find_entry es) t name None x → IsFoundOrNot (find_entry es) (In t by_pointer) name from (Err (if x then rules.S3 else rules.S1))
      by true h = inr (hidden none h)
      by false h = inr (absent none h)

  answer_as : (by_pointer : Bool) (r : Result Selected Rule) → is_blank name ≡ false → IsFoundOrNot (find_entry es) (In t by_pointer) name from r → IsSelectorAnswer (find_entry es) (operand_type by_pointer t) name from r
  answer_as by_pointer r blank h = answers (find_entry es) (operand_type by_pointer t) (In t by_pointer) name from r blank (operand_searched (find_entry es) t by_pointer told.plain) h

  pub answer_known : (k : Known) (by_pointer : Bool) (r : Result Selected Rule) → is_blank name ≡ false → seen_of known name ≡ Some k → IsReached paths types by_pointer k r → IsSelectorAnswer (find_entry es) (operand_type by_pointer t) name from r
  answer_known k by_pointer r blank e h = answer_as by_pointer r blank (found_known k by_pointer r e h)

  pub answer_none : (by_pointer : Bool) (rule : Rule) → is_blank name ≡ false → seen_of known name ≡ None → rule ≡ (if has_word words name then rules.S3 else rules.S1) → IsSelectorAnswer (find_entry es) (operand_type by_pointer t) name from (Err rule)
  answer_none by_pointer rule blank e is =
      subst (λ r. IsSelectorAnswer (find_entry es) (operand_type by_pointer t) name from (Err r)) (sym is)
      (answer_as by_pointer (Err (if has_word words name then rules.S3 else rules.S1)) blank (found_none by_pointer (has_word words name) e refl))
