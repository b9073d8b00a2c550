-- What clap says of the program's words.
use Rattle.std.proofs.Common.{◌≡◌, ◌≢◌, ◌∙◌, ◌⊎◌, inl, inr, true, List, [], Option, Some, None, refl, sym, ap, ap₂, subst}
use Rattle.std.specs.Prelude.{option_map}
use Rattle.std.specs.Option.{option_map_or}
use Rattle.clap.specs.Faults.{fault_of, is_simple_and_free}
use Rattle.clap.specs.Kinds.{HasKind, IsAmong}
use Rattle.clap.specs.Values.{kind_of}
use Rattle.clap.specs.declared.error.Error.{Error}
use Rattle.clap.specs.declared.error.kind.ErrorKind.{ErrorKind}
use Rattle.clap.specs.declared.error.kind.ErrorKind.TheVariants.{DisplayHelp, DisplayVersion, OutOfMemory}
use Rattle.clap.specs.Simple.{App, HasMatchesOf, is_simple, subcommand_of, subcommand_rows_of}
use Rattle.clap.specs.Matches.{first_value, subcommand_name_of}
use Rattle.clap.specs.Walk.{Row, Text, first_of, rows_of}
use Rattle.clap.specs.declared.parser.matches.Found.{Found}
use Rattle.clap.proofs.WalkLemmas.{first_value-rows}
use Rattle.clap.specs.declared.parser.matches.ArgMatches.{ArgMatches}
use Rattle.clap.specs.declared.parser.matches.ArgMatches.TheViews.{out-ArgMatches}
use Rattle.govisd_words.specs.Asking.{ToHelp, asked_in, govisd_app, asked_by_subcommand, refusals}

simple : is_simple govisd_app ≡ true
simple = refl

simple_and_free : is_simple_and_free govisd_app ≡ true
simple_and_free = refl

-- the words are not refused
pub taken : (app : App) (words : List Text) → app ≡ govisd_app → (is_simple_and_free app ≡ true → fault_of app words ≡ []) → refusals words ≡ []
taken app words is none = sym (ap (λ a. fault_of a words) is) ∙ none (ap is_simple_and_free is ∙ simple_and_free)

-- the words are refused, by a kind that is none of memory
pub refused_by : (app : App) (words : List Text) (e : Error) (k : ErrorKind) → app ≡ govisd_app → (is_simple_and_free app ≡ true → HasKind (fault_of app words) e) → k ≡ kind_of e → k ≢ OutOfMemory → IsAmong k (refusals words)
refused_by app words e k is has same other = by (has (ap is_simple_and_free is ∙ simple_and_free))
  where
    by : HasKind (fault_of app words) e → IsAmong k (refusals words)
    by (inl h) = absurd (other (same ∙ h))
    by (inr h) = subst (IsAmong k) (ap (λ a. fault_of a words) is) (subst (λ x. IsAmong x (fault_of app words)) (sym same) h)

-- the words are refused, by a kind that is neither help nor version, or memory ran out
pub refused_other : (app : App) (words : List Text) (e : Error) → app ≡ govisd_app → (is_simple_and_free app ≡ true → HasKind (fault_of app words) e) → kind_of e ≢ DisplayHelp → kind_of e ≢ DisplayVersion → (kind_of e ≡ OutOfMemory) ⊎ (IsAmong (kind_of e) (refusals words) × (kind_of e ≢ DisplayHelp) × (kind_of e ≢ DisplayVersion))
refused_other app words e is has no_help no_version = by (has (ap is_simple_and_free is ∙ simple_and_free))
  where
    by : HasKind (fault_of app words) e → (kind_of e ≡ OutOfMemory) ⊎ (IsAmong (kind_of e) (refusals words) × (kind_of e ≢ DisplayHelp) × (kind_of e ≢ DisplayVersion))
    by (inl h) = inl h
    by (inr h) = inr (subst (IsAmong (kind_of e)) (ap (λ a. fault_of a words) is) h, no_help, no_version)

-- the subcommand is the one that the words name
pub entered : (app : App) (words : List Text) (m : ArgMatches) → app ≡ govisd_app → HasMatchesOf app words m → subcommand_rows_of m ≡ subcommand_of govisd_app words
entered app words m is has = (has (ap is_simple is ∙ simple)).1 ∙ ap (λ a. subcommand_of a words) is

first_mapped : {A B C : Type 0} (f : A → B) (g : A → C) (o : Option A) → option_map f o ≡ option_map (λ (s : B × C). s.0) (option_map (λ a. (f a, g a)) o)
first_mapped f g None = refl
first_mapped f g (Some a) = refl

names_first : (m : ArgMatches) → subcommand_name_of m ≡ option_map (λ (s : Text × List Row). s.0) (subcommand_rows_of m)
names_first m = first_mapped _ _ (out-ArgMatches m).subcommand

-- a pair that is told in two parts
both_told : {A B : Type 0} (o : Option (A × B)) (a : A) (b : B) → Some a ≡ option_map (λ (p : A × B). p.0) o → Some b ≡ option_map (λ (p : A × B). p.1) o → o ≡ Some (a, b)
both_told None a b first second = absurd (cc)
both_told (Some p) a b first second = pair (cc) (cc)
  where
    pair : p.0 ≡ a → p.1 ≡ b → Some p ≡ Some (a, b)
    pair same same' = ap₂ (λ x y. Some (x, y)) same same'

-- what the subcommand asks for is what the words ask for
pub chosen : (app : App) (words : List Text) (m : ArgMatches) (name : Text) (rows : List Row) → app ≡ govisd_app → HasMatchesOf app words m → Some name ≡ subcommand_name_of m → Some rows ≡ option_map (λ (s : Text × List Row). s.1) (subcommand_rows_of m) → asked_in (name, rows) ≡ asked_by_subcommand words
chosen app words m name rows is has first second =
    let found : subcommand_rows_of m ≡ Some (name, rows) = both_told (subcommand_rows_of m) name rows (first ∙ names_first m) second in
    sym (ap (λ o. option_map_or asked_in o (ToHelp None)) (sym (entered app words m is has) ∙ found))

-- the first value of an id, by what the parse found
pub value_in_rows : (f : Found) (id : Text) → first_value f id ≡ first_of id (rows_of f)
value_in_rows = first_value-rows
